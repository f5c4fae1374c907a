use Rattle.std.proofs.Common.{◌≡◌, ◌<◌, true, false, ap, sym, ◌∙◌, arith}
use Rattle.std.specs.Prelude.{slice_get}
use Rattle.mj_explain.specs.Events.{is_counted_of}
use Rattle.mj_explain.proofs.Begun.{got}
use Rattle.mj_explain.proofs.Numbered.{counted_yes, counted_no, counted_here}
use Rattle.mj_explain.proofs.clashes.access_of.Goals as goal

pub loop-place-preserved-then-not-is_counted_of : goal.loop-place-preserved-then-not-is_counted_of
loop-place-preserved-then-not-is_counted_of c =
    let es = c.args.events.now in
    let k = c.loop-place.place in
    let behind : c.args.begin < k = omega arith in
    let isnt : is_counted_of c.args.job (slice_get es k) ≡ false =
    ap (is_counted_of c.args.job) (sym (got es k c.get.result c.get.ensures.lookup)) ∙ sym c.is_counted_of.ensures ∙ c.if-not-is_counted_of.true in
    counted_no es c.args.job c.args.begin k c.loop-place.count behind c.loop-place.invariant isnt

pub returns-then-count-number-clause-is : goal.returns-then-count-number-clause-is
returns-then-count-number-clause-is c =
    let es = c.args.events.now in
    let k = c.loop-place.place in
    let behind : c.args.begin < k = omega arith in
    let does : is_counted_of c.args.job (slice_get es k) ≡ true =
    ap (is_counted_of c.args.job) (sym (got es k c.get.result c.get.ensures.lookup)) ∙ sym c.is_counted_of.ensures ∙ c.if-not-is_counted_of.false in
    counted_here es c.args.job c.args.begin k c.loop-place.count behind c.loop-place.invariant c.args.number does (sym c.in_ok-count.ensures.1 ∙ c.if-count-number.true)

pub loop-place-preserved : goal.loop-place-preserved
loop-place-preserved c =
    let es = c.args.events.now in
    let k = c.loop-place.place in
    let behind : c.args.begin < k = omega arith in
    let does : is_counted_of c.args.job (slice_get es k) ≡ true =
    ap (is_counted_of c.args.job) (sym (got es k c.get.result c.get.ensures.lookup)) ∙ sym c.is_counted_of.ensures ∙ c.if-not-is_counted_of.false in
    c.in_ok-count.ensures.1 ∙ counted_yes es c.args.job c.args.begin k c.loop-place.count behind c.loop-place.invariant does
