use Rattle.std.proofs.Common.{◌≤◌, length, ℕ, sym, ◌∙◌, subst}
use Rattle.mj_jobs.specs.Rows.{rows_limit}
use Rattle.mj_work.proofs.Locking.{claimed_still, within_still, has_room, room_is, was_served, claim_still, as_many, most_is, refused_in, was_refused}
use Rattle.mj_work.proofs.locked.Locked.serve.Goals as goal

pub invariant_of-self-clause-counted : goal.invariant_of-self-clause-counted
invariant_of-self-clause-counted g c =
    c.args.self.now.counted
    ∙ sym (claimed_still g.O.Opening.opening c.args.self.now.system c.serve_at.new.system c.args.claim.now c.serve_at.new.claim c.args.ask.now c.args.place.now c.args.late
    c.serve_at.result c.serve_at.ensures.ok c.serve_at.ensures.kept)

pub invariant_of-self-clause-few : goal.invariant_of-self-clause-few
invariant_of-self-clause-few g c =
    let P : ℕ → Type 0 = λ n. n ≤ rows_limit in
    subst P
    (sym (claimed_still g.O.Opening.opening c.args.self.now.system c.serve_at.new.system c.args.claim.now c.serve_at.new.claim c.args.ask.now c.args.place.now c.args.late
    c.serve_at.result c.serve_at.ensures.ok c.serve_at.ensures.kept)) c.args.self.now.few

pub invariant_of-self-clause-within : goal.invariant_of-self-clause-within
invariant_of-self-clause-within g c =
    let P : ℕ → Type 0 = λ n. length c.serve_at.new.system.history ≤ n in
    subst P (sym c.args.self.now.bound)
    (within_still g.O.Opening.opening c.args.self.now.system c.serve_at.new.system c.args.claim.now c.serve_at.new.claim c.args.ask.now c.args.place.now c.args.late
    g.J.Work.events c.serve_at.result c.serve_at.ensures.ok c.serve_at.ensures.kept
    (has_room g.J.Work.events c.args.self.now.system c.is_full.result c.is_full.ensures c.if-is_full.false))

pub returns-clause-room : goal.returns-clause-room
returns-clause-room g c =
    room_is g.J.Work.events c.args.self.now.system c.serve_at.result
    (has_room g.J.Work.events c.args.self.now.system c.is_full.result c.is_full.ensures c.if-is_full.false)

pub returns-clause-ok : goal.returns-clause-ok
returns-clause-ok g c =
    was_served g.O.Opening.opening c.args.self.now.system c.serve_at.new.system c.args.claim.now c.serve_at.new.claim c.args.ask.now c.args.place.now c.args.late
    c.serve_at.result c.serve_at.ensures.ok

pub returns-clause-err : goal.returns-clause-err
returns-clause-err g c =
    claim_still g.O.Opening.opening c.args.self.now.system c.serve_at.new.system c.args.claim.now c.serve_at.new.claim c.args.ask.now c.args.place.now c.args.late
    c.serve_at.result c.serve_at.ensures.kept

pub returns-clause-refused : goal.returns-clause-refused
returns-clause-refused g c = refused_in g.J.Work.events g.O.Opening.opening c.args.self.now.system c.args.claim.now c.serve_at.result
    (most_is c.args.self.now.bound c.args.self.now.most) c.serve_at.ensures.refused

pub returns-clause-was_refused : goal.returns-clause-was_refused
returns-clause-was_refused g c =
    let opening = g.O.Opening.opening in
    was_refused g.J.Work.events opening c.args.self.now.system c.args.claim.now c.serve_at.result
    (refused_in g.J.Work.events opening c.args.self.now.system c.args.claim.now c.serve_at.result (most_is c.args.self.now.bound c.args.self.now.most) c.serve_at.ensures.refused)

-- where the history is full
pub returns-then-is_full-clause-refused : goal.returns-then-is_full-clause-refused
returns-then-is_full-clause-refused g c = as_many g.J.Work.events c.args.self.now.system c.is_full.result c.is_full.ensures c.if-is_full.true

pub returns-then-is_full-clause-was_refused : goal.returns-then-is_full-clause-was_refused
returns-then-is_full-clause-was_refused g c =
    (c.args.self.now.system, as_many g.J.Work.events c.args.self.now.system c.is_full.result c.is_full.ensures c.if-is_full.true)
