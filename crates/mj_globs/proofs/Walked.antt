-- What a walk over all words has a sink take.
use Rattle.std.proofs.Common.{◌≡◌, ℕ, Bool, List, ◌∷◌, ◌++◌, sym, ap, subst}
use Rattle.mj_store.specs.Questions.{Content, Subtree}
use Rattle.std.specs.Prelude.{Result, Ok, Err, IfErr}
use Rattle.mj_tree.specs.declared.sink.SinkStop.{SinkStop}
use Rattle.mj_tree.specs.Walks.{StopsSo}
use Rattle.mj_tree.proofs.Walked.{closes_behind}
use Rattle.mj_globs.specs.Words.{Words, of_word, of_kind}

module _ {A : Type 0} (takes : A → Content → A → Type 0) (more : (r s t : A) (xs ys : Content) → takes r xs s → takes s ys t → takes r (xs ++ ys) t) where
  -- what one takes that takes these is all that the first takes
  abbrev pub Leads : A → Content → A → Content → Type 0
  Leads s left first all = (t : A) → takes s left t → takes first all t

  -- one word more was walked
  pub past_word : (g : Bool) (w : List ℕ) (nodes : Subtree) (ks rest : Words) (first s now : A) (all : Content) → Leads s (of_kind g ks) first all → ks ≡ (w, nodes) ∷ rest
      → takes s (of_word g w nodes) now → Leads now (of_kind g rest) first all
  past_word g w nodes ks rest first s now all leads next took = λ t left.
      leads t (subst (λ (xs : Content). takes s xs t) (ap (of_kind g) (sym next)) (more s now t _ _ took left))

-- it took these and stops among others
pub stops_behind : {A T : Type 0} (takes closes : A → Content → A → Type 0) → ((r s t : A) (xs ys : Content) → takes r xs s → closes s ys t → closes r (xs ++ ys) t) → (r s t : A) (xs ys all : Content)
    → xs ++ ys ≡ all → takes r xs s → (told : Result T SinkStop) → IfErr told (StopsSo closes s ys t) → IfErr told (StopsSo closes r all t)
stops_behind takes closes closed r s t xs ys all is took (Ok x) so = tt
stops_behind takes closes closed r s t xs ys all is took (Err e) so = λ stop. closes_behind closes takes closed r s t xs ys all is took (so stop)
