use Rattle.std.proofs.Common.{◌≡◌, [], ◌∷◌, ◌++◌, List, ℕ, Some, sym, ap, ◌∙◌, subst, append-nil}
use Rattle.mj_jobvm.specs.Places.{name_in}
use Rattle.mj_jobvm.proofs.Spots.{same_front, one_behind, name_new}
use Rattle.mj_jobvm.proofs.places.number_of.Goals as goal

pub returns-then-is_name_of-clause-name : goal.returns-then-is_name_of-clause-name
returns-then-is_name_of-clause-name c =
    let P : List (List ℕ) → Type 0 = λ routines. name_in routines c.guessed-guess.result ≡ Some c.args.routine.now in
    subst P c.deref-2.ensures.value (c.is_name_of.ensures c.if-is_name_of.true)

pub returns-then-is_name_of-clause-more : goal.returns-then-is_name_of-clause-more
returns-then-is_name_of-clause-more c = same_front c.args.routines.now.items

pub returns-in_err-copy-clause-more : goal.returns-in_err-copy-clause-more
returns-in_err-copy-clause-more c = same_front c.args.routines.now.items

pub returns-in_err-push-clause-more : goal.returns-in_err-push-clause-more
returns-in_err-push-clause-more c = ([], c.in_err-push.ensures.items ∙ sym (append-nil c.args.routines.now.items))

pub returns-in_err-guess_so-clause-more : goal.returns-in_err-guess_so-clause-more
returns-in_err-guess_so-clause-more c = one_behind c.args.routines.now.items c.push.new.self.items c.in_ok-copy.copy c.in_ok-push.ensures.items

pub returns-clause-more : goal.returns-clause-more
returns-clause-more c = one_behind c.args.routines.now.items c.push.new.self.items c.in_ok-copy.copy c.in_ok-push.ensures.items

pub returns-clause-name : goal.returns-clause-name
returns-clause-name c =
    let is : c.push.new.self.items ≡ c.args.routines.now.items ++ c.args.routine.now ∷ [] =
    c.in_ok-push.ensures.items ∙ ap (λ (copy : List ℕ). c.args.routines.now.items ++ copy ∷ []) c.in_ok-copy.ensures in
    name_new c.args.routines.now.items c.push.new.self.items c.args.routine.now c.len-number.result is (c.len-number.ensures ∙ c.push.new.self.ok.0)
