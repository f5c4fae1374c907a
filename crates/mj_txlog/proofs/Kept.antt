-- What didn't go of what stands at a name and below it, and the own texts over it.
use Rattle.std.proofs.Common.{◌≡◌, ℕ, Bool, true, false, cond, List, [], ◌∷◌, Option, Some, None, refl, sym, ap, ◌∙◌}
use Rattle.std.specs.Prelude.{T}
use Rattle.std.specs.Ordering.{eq_by_cmp}
use Rattle.std.specs.FinMap.{find, is_sorted}
use Rattle.std.specs.List.{fold}
use Rattle.std.specs.Option.{option_or}
use Rattle.mj_subs.specs.Name.{Name}
use Rattle.mj_subs.specs.Collation.{name_cmp}
use Rattle.mj_store.specs.Questions.{Content, Subtree, rest_of, subtree_at}
use Rattle.mj_store.specs.Changes.{after_set, after_put, followed_by}
use Rattle.mj_txlog.specs.Accesses.{Accesses, seen}
use Rattle.mj_txlog.specs.Sight.{AreAlike}
use Rattle.mj_txlog.specs.Laid.{Laid, went, IsLaid}
use Rattle.mj_txlog.proofs.Firsts.{not_both}
use Rattle.mj_txlog.proofs.Alike.{tied, find_set, same_set, first_found, filled, filled_alone, at_each}

module _ (gone : Content) (n : Name) where
  -- a node more, if it didn't go
  abbrev pub kept_one : Content → List (List ℕ) × List ℕ → Content
  kept_one c e = cond (went gone (followed_by n e.0)) c (after_set c (followed_by n e.0) e.1)

  abbrev pub kept : Content → Subtree → Content
  kept c nodes = fold kept_one c nodes

  module _ (m : Name) where
    -- a text at another name
    unset : (k : Name) (c : Content) (v : List ℕ) → (eq_by_cmp name_cmp m k ≡ true → went gone m ≡ went gone k) → (b w : Bool) → went gone k ≡ b → went gone m ≡ w → (b ≡ w → false ≡ true)
        → find name_cmp m (after_set c k v) ≡ find name_cmp m c
    unset k c v same b w x y apart =
        find_set m c k v
        ∙ elim (eq_by_cmp name_cmp m k) as (λ t. eq_by_cmp name_cmp m k ≡ t → cond t (Some v) (find name_cmp m c) ≡ find name_cmp m c) [
          | true ↦ λ e. not_both true refl (sym (apart (sym x ∙ sym (same e) ∙ y)))
          | false ↦ λ e. refl
        ] refl

    alike : (k : Name) → eq_by_cmp name_cmp m k ≡ true → went gone m ≡ went gone k
    alike k e = ap (went gone) (tied m k e)

    -- a name that went gets none of the texts
    went_kept : went gone m ≡ true → (c : Content) (nodes : Subtree) → find name_cmp m (kept c nodes) ≡ find name_cmp m c
    went_kept w c [] = refl
    went_kept w c (x ∷ nodes) =
        let k = followed_by n x.0 in
        went_kept w (kept_one c x) nodes
        ∙ elim (went gone k) as (λ b. went gone k ≡ b → find name_cmp m (cond b c (after_set c k x.1)) ≡ find name_cmp m c) [
          | true ↦ λ e. refl
          | false ↦ λ e. unset k c x.1 (alike k) false true e w (λ f. f)
        ] refl

    -- one that didn't go gets what it would get of all of them
    stays_kept : went gone m ≡ false → (c d : Content) (nodes : Subtree) → find name_cmp m c ≡ find name_cmp m d → find name_cmp m (kept c nodes) ≡ find name_cmp m (after_put d n nodes)
    stays_kept w c d [] e = e
    stays_kept w c d (x ∷ nodes) e =
        let k = followed_by n x.0 in
        stays_kept w (kept_one c x) (after_set d k x.1) nodes
        (elim (went gone k) as (λ b. went gone k ≡ b → find name_cmp m (cond b c (after_set c k x.1)) ≡ find name_cmp m (after_set d k x.1)) [
          | true ↦ λ q. e ∙ sym (unset k d x.1 (alike k) true false q w (λ f. sym f))
          | false ↦ λ q. same_set m c d k x.1 e
        ] refl)

first_or : (m n : Name) (b : List (List ℕ)) (below : rest_of n m ≡ Some b) (x y : Option (List ℕ)) → first_found m n b below x y ≡ option_or x y
first_or m n b below None y = refl
first_or m n b below (Some v) y = refl

-- so a store with what is kept and the own texts over it is as what is seen
pub kept_alike : (o : Laid) (es : Accesses) (n : Name) (g new : Content) → IsLaid o es → T (is_sorted name_cmp g) → T (is_sorted name_cmp o.over)
    → new ≡ after_put (kept o.gone n [] (subtree_at g n)) n (subtree_at o.over n) → AreAlike n new (seen g es)
kept_alike o es n g new laid rises over is =
    at_each n {P = λ m. find name_cmp m new ≡ find name_cmp m (seen g es)} (λ m b e.
    let mine = kept o.gone n [] (subtree_at g n) in
    let stays : find name_cmp m mine ≡ cond (went o.gone m) None (find name_cmp m g) =
    elim (went o.gone m) as (λ w. went o.gone m ≡ w → find name_cmp m mine ≡ cond w None (find name_cmp m g)) [
      | true ↦ λ w. went_kept o.gone n m w [] (subtree_at g n)
      | false ↦ λ w. stays_kept o.gone n m w [] [] (subtree_at g n) refl ∙ filled_alone m n b e g rises
    ] refl in
    ap (find name_cmp m) is
    ∙ filled m n b e o.over mine over
    ∙ first_or m n b e (find name_cmp m o.over) (find name_cmp m mine)
    ∙ ap (option_or (find name_cmp m o.over)) stays
    ∙ sym (laid m g))
