use Rattle.std.proofs.Common.{List, ℕ, Option, ◌∷◌, [], sym, subst}
use Rattle.std.specs.Option.{IfSome}
use Rattle.mj_subs.specs.Name.{Name}
use Rattle.mj_store.specs.Questions.{Content}
use Rattle.mj_store.specs.Changes.{after_set, after_kill, followed_by}
use Rattle.mj_txlog.specs.Skips.{IsNextRun, Joins}
use Rattle.mj_txlog.proofs.Passing.{lengthened, joined, only_killed, same_joins}
use Rattle.mj_txlog.proofs.Only.{one_of}
use Rattle.mj_txlog.proofs.skips.Skips.put_run.Goals as goal

pub returns-in-Some : goal.returns-in-Some
returns-in-Some c =
    let old = c.args.self.now in
    let f = c.args.front.now in
    let first = c.args.first.now in
    let to = c.args.to.now in
    let base = after_kill old c.in-Some.name in
    let P : Content → Type 0 = Joins old f first to in
    one_of P c.set-done.new.self (after_set c.forget.new.self c.args.at.now c.later.result.now) c.forget.new.self c.set-done.ensures
    (subst (λ (x : Content). P (after_set x c.args.at.now c.later.result.now)) (sym c.forget.ensures)
    (subst (λ (n : Name). P (after_set base n c.later.result.now)) (sym c.requires.at)
    (subst (λ (x : List ℕ). P (after_set base (followed_by f (first ∷ [])) x)) (sym c.later.ensures)
    (joined old f first to c.in-Some.name c.in-Some.last
    (subst (λ (r : Option (Name × List ℕ)). IfSome r (λ run. IsNextRun old f to run.0 run.1)) c.in-Some.is c.requires.found)))))
    (subst P (sym c.forget.ensures) (only_killed old f first to c.in-Some.name))

pub returns-in-None : goal.returns-in-None
returns-in-None c =
    let old = c.args.self.now in
    let f = c.args.front.now in
    let first = c.args.first.now in
    let to = c.args.to.now in
    let P : Content → Type 0 = Joins old f first to in
    one_of P c.set.new.self (after_set old c.args.at.now to) old c.set.ensures
    (subst (λ (n : Name). P (after_set old n to)) (sym c.requires.at) (lengthened old f first to)) (same_joins old f first to)
