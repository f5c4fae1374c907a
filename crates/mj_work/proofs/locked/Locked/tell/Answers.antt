use Rattle.std.proofs.Common.{◌≤◌, length, ℕ, sym, ◌∙◌, subst}
use Rattle.mj_ask.specs.declared.ask.Ask.TheVariants as asks
use Rattle.mj_jobs.specs.Rows.{rows_limit}
use Rattle.mj_sys.specs.Told.{served_as}
use Rattle.mj_work.proofs.Locking.{claimed_then, within_then, has_room, room_is, was_told, claim_then, as_many, most_is, refused_in, was_refused}
use Rattle.mj_work.proofs.locked.Locked.tell.Goals as goal

pub invariant_of-self-clause-counted : goal.invariant_of-self-clause-counted
invariant_of-self-clause-counted g c =
    c.args.self.now.counted
    ∙ sym (claimed_then g.O.Opening.opening c.args.self.now.system c.tell.new.self c.args.claim.now c.tell.new.claim (asks.Shared c.args.ask) c.args.late
    served_as c.tell.result c.tell.ensures.ok c.tell.ensures.kept)

pub invariant_of-self-clause-few : goal.invariant_of-self-clause-few
invariant_of-self-clause-few g c =
    let P : ℕ → Type 0 = λ n. n ≤ rows_limit in
    subst P
    (sym (claimed_then g.O.Opening.opening c.args.self.now.system c.tell.new.self c.args.claim.now c.tell.new.claim (asks.Shared c.args.ask) c.args.late
    served_as c.tell.result c.tell.ensures.ok c.tell.ensures.kept)) c.args.self.now.few

pub invariant_of-self-clause-within : goal.invariant_of-self-clause-within
invariant_of-self-clause-within g c =
    let P : ℕ → Type 0 = λ n. length c.tell.new.self.history ≤ n in
    subst P (sym c.args.self.now.bound)
    (within_then g.O.Opening.opening c.args.self.now.system c.tell.new.self c.args.claim.now c.tell.new.claim (asks.Shared c.args.ask) c.args.late
    served_as g.J.Work.events c.tell.result c.tell.ensures.ok c.tell.ensures.kept
    (has_room g.J.Work.events c.args.self.now.system c.is_full.result c.is_full.ensures c.if-is_full.false))

pub returns-clause-room : goal.returns-clause-room
returns-clause-room g c =
    room_is g.J.Work.events c.args.self.now.system c.tell.result
    (has_room g.J.Work.events c.args.self.now.system c.is_full.result c.is_full.ensures c.if-is_full.false)

pub returns-clause-ok : goal.returns-clause-ok
returns-clause-ok g c =
    was_told g.O.Opening.opening c.args.self.now.system c.tell.new.self c.args.claim.now c.tell.new.claim (asks.Shared c.args.ask) c.args.late
    served_as c.tell.result c.tell.ensures.ok

pub returns-clause-err : goal.returns-clause-err
returns-clause-err g c =
    claim_then g.O.Opening.opening c.args.self.now.system c.tell.new.self c.args.claim.now c.tell.new.claim (asks.Shared c.args.ask) c.args.late
    served_as c.tell.result c.tell.ensures.kept

pub returns-clause-refused : goal.returns-clause-refused
returns-clause-refused g c = refused_in g.J.Work.events g.O.Opening.opening c.args.self.now.system c.args.claim.now c.tell.result
    (most_is c.args.self.now.bound c.args.self.now.most) c.tell.ensures.refused

pub returns-clause-was_refused : goal.returns-clause-was_refused
returns-clause-was_refused g c =
    let opening = g.O.Opening.opening in
    was_refused g.J.Work.events opening c.args.self.now.system c.args.claim.now c.tell.result
    (refused_in g.J.Work.events opening c.args.self.now.system c.args.claim.now c.tell.result (most_is c.args.self.now.bound c.args.self.now.most) c.tell.ensures.refused)

-- where the history is full
pub returns-then-is_full-clause-refused : goal.returns-then-is_full-clause-refused
returns-then-is_full-clause-refused g c = as_many g.J.Work.events c.args.self.now.system c.is_full.result c.is_full.ensures c.if-is_full.true

pub returns-then-is_full-clause-was_refused : goal.returns-then-is_full-clause-was_refused
returns-then-is_full-clause-was_refused g c =
    (c.args.self.now.system, as_many g.J.Work.events c.args.self.now.system c.is_full.result c.is_full.ensures c.if-is_full.true)
