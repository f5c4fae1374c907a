-- Locals that go back to a copy of others have the content of those.
use Rattle.std.specs.Prelude.{T}
use Rattle.std.specs.List.{filter, fold}
use Rattle.std.specs.FinMap.{find, is_sorted}
use Rattle.std.proofs.Common.{◌≡◌, ℕ, List, [], ◌∷◌, Option, Some, None, true, refl, ap, ◌∙◌}
use Rattle.mj_subs.specs.Collation.{name_cmp}
use Rattle.mj_store.specs.Questions.{Content}
use Rattle.mj_store.specs.Changes.{after_set}
use Rattle.mj_semantics.specs.State.{Saved, AllBut, those_of, put_back}
use Rattle.mj_locals.specs.Held.{Held}
use Rattle.mj_locals.specs.Snapshots.{after_return}
use Rattle.mj_locals.proofs.Names.{or_else, same_content, find_all_set, sorted_all_set}

all_of : {X : Type 0} (xs : List X) → filter (λ x. true) xs ≡ xs
all_of [] = refl
all_of (x ∷ xs) = ap (λ l. x ∷ l) (all_of xs)

or_none : (o : Option (List ℕ)) → or_else o None ≡ o
or_none None = refl
or_none (Some x) = refl

-- names that rise, set one by one
set_each : (c : Content) → T (is_sorted name_cmp c) → fold (λ d e. after_set d e.0 e.1) [] c ≡ c
set_each c rises =
    same_content (fold (λ d e. after_set d e.0 e.1) [] c) c (sorted_all_set c [] tt) rises (λ n. find_all_set c [] n rises ∙ or_none (find name_cmp n c))

put_all : (c : Content) → T (is_sorted name_cmp c) → put_back (record { words = AllBut []; locals = filter (λ e. true) c }) [] ≡ c
put_all c rises =
    ap (λ l. fold (λ d e. after_set d e.0 e.1) [] (filter (λ e. true) l)) (all_of c) ∙ ap (λ l. fold (λ d e. after_set d e.0 e.1) [] l) (all_of c) ∙ set_each c rises

pub same_locals : (c : Content) (saved : Saved) (old new : Held) → T (is_sorted name_cmp c)
    → saved ≡ record { words = AllBut []; locals = those_of (Some (AllBut [])) c } → old ≡ record { now = []; saved = [] } → new ≡ after_return 0 saved old → new.now ≡ c
same_locals c saved old new rises is none e =
    ap (λ (h : Held). h.now) (e ∙ ap (λ s. after_return 0 s old) is ∙ ap (λ h. after_return 0 (record { words = AllBut []; locals = those_of (Some (AllBut [])) c }) h) none) ∙ put_all c rises
