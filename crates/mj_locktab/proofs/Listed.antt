-- A list that is filled job by job.
use Rattle.std.proofs.Common.{◌≡◌, ℕ, List, [], ◌∷◌, ◌++◌, map, refl, sym, ap, ◌∙◌}
use Rattle.std.specs.BTreeMap.{BTreeMap}
use Rattle.mj_subs.specs.Name.{Name}
use Rattle.mj_locktab.specs.declared.hold.Hold.{Hold}
use Rattle.mj_locktab.specs.Locks.{Locks, hold_of}
use Rattle.mj_locktab.specs.Parts.{Parts, held_by, holds_of}

module _ {B : Type 0} (f : Hold × ℕ → B) where
  map-append : (xs ys : Locks) → map f (xs ++ ys) ≡ map f xs ++ map f ys
  map-append [] ys = refl
  map-append (x ∷ xs) ys = ap (λ r. f x ∷ r) (map-append xs ys)

  joined : (xs ys zs : List B) → (xs ++ ys) ++ zs ≡ xs ++ (ys ++ zs)
  joined [] ys zs = refl
  joined (x ∷ xs) ys zs = ap (λ r. x ∷ r) (joined xs ys zs)

  -- one job more is listed
  pub listed_one : (before after total : List B) (left rest : Parts) (k : ℕ × BTreeMap Name ℕ) → before ++ map f (holds_of left) ≡ total
      → left ≡ k ∷ rest → after ≡ before ++ map f (held_by k.0 k.1.entries) → after ++ map f (holds_of rest) ≡ total
  listed_one before after total left rest k all next more =
      ap (λ (xs : List B). xs ++ map f (holds_of rest)) more
      ∙ joined before (map f (held_by k.0 k.1.entries)) (map f (holds_of rest))
      ∙ ap (λ (xs : List B). before ++ xs) (sym (map-append (held_by k.0 k.1.entries) (holds_of rest)))
      ∙ ap (λ (ks : Parts). before ++ map f (holds_of ks)) (sym next)
      ∙ all

  end : (xs : List B) → xs ++ [] ≡ xs
  end [] = refl
  end (x ∷ xs) = ap (λ r. x ∷ r) (end xs)

  -- and at last all are
  pub listed_all : (list total : List B) (left : Parts) → list ++ map f (holds_of left) ≡ total → left ≡ [] → list ≡ total
  listed_all list total left all done = sym (end list) ∙ ap (λ (ks : Parts). list ++ map f (holds_of ks)) (sym done) ∙ all

  -- one name more of a job is listed
  pub name_listed : (job : ℕ) (before after total : List B) (left rest : List (Name × ℕ)) (e : Name × ℕ) → before ++ map f (held_by job left) ≡ total → left ≡ e ∷ rest
      → after ≡ before ++ f (hold_of job e.0, e.1) ∷ [] → after ++ map f (held_by job rest) ≡ total
  name_listed job before after total left rest e all next more =
      ap (λ (xs : List B). xs ++ map f (held_by job rest)) more
      ∙ joined before (f (hold_of job e.0, e.1) ∷ []) (map f (held_by job rest))
      ∙ ap (λ (es : List (Name × ℕ)). before ++ map f (held_by job es)) (sym next)
      ∙ all

  -- and at last all of its names are
  pub names_listed : (job : ℕ) (list total : List B) (left : List (Name × ℕ)) → list ++ map f (held_by job left) ≡ total → left ≡ [] → list ≡ total
  names_listed job list total left all done = sym (end list) ∙ ap (λ (es : List (Name × ℕ)). list ++ map f (held_by job es)) (sym done) ∙ all
