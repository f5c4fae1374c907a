use Rattle.std.proofs.Common.{◌≡◌, ℕ, suc, get_or, Some, true, false, refl, sym, ap, ◌∙◌, arith}
use Rattle.std.proofs.lemmas.Option.{slice_get-get_or}
use Rattle.mj_ask.specs.declared.ask.Ask.{Ask}
use Rattle.mj_ask.specs.declared.ask.Reply.{Reply}
use Rattle.mj_core.specs.Woven.{entry_at}
use Rattle.mj_gather.specs.Lent.{lent, left_at}
use Rattle.mj_gather.proofs.Written.{left_nobody, entry_is, there_one}
use Rattle.mj_gather.proofs.Shown.{among, same_default}
use Rattle.mj_gather.proofs.Hearing.{left_gone, other_none, other_next, next_is}
use Rattle.mj_gather.proofs.gathering.hear.Goals as goal

-- both parts of it are the same
pair_is : (x y : Ask × Reply) → x.0 ≡ y.0 → x.1 ≡ y.1 → x ≡ y
pair_is x y one two = let w : (x.0, x.1) ≡ (y.0, y.1) = cc in w

pub returns-in_default-clause-other : goal.returns-in_default-clause-other
returns-in_default-clause-other c = λ is rest.
    other_none (left_at (lent c.args.logs.now) c.args.places.now c.args.event.now.job) (c.args.event.now.ask, c.args.event.now.reply) rest
    (left_nobody (lent c.args.logs.now) c.args.places.now c.args.event.now.job (omega arith))

pub returns-in_default-read_entry-clause-other : goal.returns-in_default-read_entry-clause-other
returns-in_default-read_entry-clause-other c = λ is rest.
    let log = c.index-logs-at.result in
    let here = among c.args.logs.now c.in-Some.at log (slice_get-get_or c.args.logs.now c.in-Some.at log (omega arith) ∙ ap Some (sym c.index-logs-at.is)) in
    other_none (left_at (lent c.args.logs.now) c.args.places.now c.args.event.now.job) (c.args.event.now.ask, c.args.event.now.reply) rest
    (left_gone (lent c.args.logs.now) c.in-Some.at _ log.now c.args.places.now c.args.event.now.job (let e : c.args.event.now.job ≡ suc c.in-Some.at = omega arith in e) here
    (same_default c.args.places.now c.in-Some.at 0 0 (omega arith)) c.in_default-read_entry.ensures.none)

pub returns-then-not-is_entry-clause-other : goal.returns-then-not-is_entry-clause-other
returns-then-not-is_entry-clause-other c = λ is rest.
    let log = c.index-logs-at.result in
    let here = among c.args.logs.now c.in-Some.at log (slice_get-get_or c.args.logs.now c.in-Some.at log (omega arith) ∙ ap Some (sym c.index-logs-at.is)) in
    other_next (lent c.args.logs.now) c.in-Some.at _ log.now _ c.args.places.now c.args.event.now (let e : c.args.event.now.job ≡ suc c.in-Some.at = omega arith in e) here
    (same_default c.args.places.now c.in-Some.at 0 0 (omega arith)) c.in-Some-read_entry.ensures.some rest
    (λ same. absurd (let no : false ≡ true = c.if-not-is_entry.ensures.1 (ap (λ (y : Ask × Reply). y.0) same, ap (λ (y : Ask × Reply). y.1) same) in cc))

pub returns-clause-next : goal.returns-clause-next
returns-clause-next c = λ is.
    let log = c.index-logs-at.result in
    let here = among c.args.logs.now c.in-Some.at log (slice_get-get_or c.args.logs.now c.in-Some.at log (omega arith) ∙ ap Some (sym c.index-logs-at.is)) in
    let both = c.if-not-is_entry.ensures.0 refl in
    rw (c.in_ok-push.ensures.items, c.in-Some-read_entry.ensures.next.1)
    (next_is (lent c.args.logs.now) c.in-Some.at _ log.now _ c.args.places.now c.args.event.now (let e : c.args.event.now.job ≡ suc c.in-Some.at = omega arith in e) here
    (same_default c.args.places.now c.in-Some.at 0 0 (omega arith)) c.in-Some-read_entry.ensures.some c.args.order.now.items (omega arith)
    (pair_is _ (c.args.event.now.ask, c.args.event.now.reply) both.0 both.1))

pub returns-clause-there : goal.returns-clause-there
returns-clause-there c = λ all.
    let log = c.index-logs-at.result in
    let here = among c.args.logs.now c.in-Some.at log (slice_get-get_or c.args.logs.now c.in-Some.at log (omega arith) ∙ ap Some (sym c.index-logs-at.is)) in
    let place = get_or c.args.places.now c.in-Some.at 0 in
    let job : c.args.event.now.job ≡ suc c.in-Some.at = omega arith in
    let entry = ap (λ (j : ℕ). entry_at (lent c.args.logs.now) j place) job
    ∙ entry_is (lent c.args.logs.now) c.in-Some.at place log.now _ here c.in-Some-read_entry.ensures.some in
    rw c.in_ok-push.ensures.items (there_one (lent c.args.logs.now) c.args.order.now.items c.args.event.now.job place _ entry all)
