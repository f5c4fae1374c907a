-- Maps that are kept as lists whose keys rise: what a write, an insertion and a removal leave.
use Rattle.std.proofs.Common.{◌≡◌, Bool, true, false, cond, ◌&&◌, List, [], ◌∷◌, Some, None, refl, sym, ap, ◌∙◌, subst}
use Rattle.std.specs.Prelude.{T}
use Rattle.std.specs.declared.cmp.Ordering.{Ordering}
use Rattle.std.specs.declared.cmp.Ordering.TheVariants.{Less, Equal, Greater}
use Rattle.std.specs.Ordering.{is_eq, is_lt, match_ordering}
use Rattle.std.specs.Cmp.{IsTotalOrder, tied_itself}
use Rattle.std.specs.FinMap.{put, is_sorted}
use Rattle.std.specs.FinMap.Entries.{by_order, below_all, is_sorted-put}
use Rattle.std.specs.Map.{lookup, set_value, remove_entry}
use Rattle.std.specs.BTreeMap.{is_at, insert_entry}

pub first_so : (a b : Bool) → T (a && b) → T a
first_so true b h = tt
first_so false b h = h

pub second_so : (a b : Bool) → T (a && b) → T b
second_so true b h = h
second_so false b h = absurd h

pub both_so : (a b : Bool) → T a → T b → T (a && b)
both_so true b p q = q
both_so false b p q = p

pub is_less : (r : Ordering) → T (is_lt r) → r ≡ Less
is_less Less h = refl
is_less Equal h = absurd h
is_less Greater h = absurd h

module _ {K X : Type 0} (R : K → K → Ordering) where
  pub lookup_before : (s : K) (ks : List (K × X)) → T (below_all R s ks) → lookup (is_at (R s)) ks ≡ None
  lookup_before s [] h = refl
  lookup_before s (k ∷ ks) h = ap (λ r. cond (is_eq r) (Some k.1) (lookup (is_at (R s)) ks)) (is_less _ (first_so _ _ h)) ∙ lookup_before s ks (second_so _ _ h)

  pub set_value_same : (ks : List (K × X)) (s : K) (c : X) → lookup (is_at (R s)) ks ≡ Some c → set_value (is_at (R s)) ks c ≡ ks
  set_value_same [] s c there = refl
  set_value_same (k ∷ ks) s c there =
      elim (is_eq (R s k.0)) as (λ b. cond b (Some k.1) (lookup (is_at (R s)) ks) ≡ Some c → cond b ((k.0, c) ∷ ks) (k ∷ set_value (is_at (R s)) ks c) ≡ k ∷ ks) [
        | true ↦ λ e. let same : k.1 ≡ c = cc in ap (λ (n : X). (k.0, n) ∷ ks) (sym same)
        | false ↦ λ e. ap (λ r. k ∷ r) (set_value_same ks s c e)
      ] there

  pub set_value_twice : (ks : List (K × X)) (s : K) (w x : X) → set_value (is_at (R s)) (set_value (is_at (R s)) ks w) x ≡ set_value (is_at (R s)) ks x
  set_value_twice [] s w x = refl
  set_value_twice (k ∷ ks) s w x =
      elim (is_eq (R s k.0)) as (λ b. is_eq (R s k.0) ≡ b → set_value (is_at (R s)) (cond b ((k.0, w) ∷ ks) (k ∷ set_value (is_at (R s)) ks w)) x
      ≡ cond b ((k.0, x) ∷ ks) (k ∷ set_value (is_at (R s)) ks x)) [
        | true ↦ λ e. ap (λ b. cond b ((k.0, x) ∷ ks) ((k.0, w) ∷ set_value (is_at (R s)) ks x)) e
        | false ↦ λ e.
            ap (λ b. cond b ((k.0, x) ∷ set_value (is_at (R s)) ks w) (k ∷ set_value (is_at (R s)) (set_value (is_at (R s)) ks w) x)) e ∙ ap (λ (r : List (K × X)). k ∷ r) (set_value_twice ks s w x)
      ] refl

  pub lookup_written : (ks : List (K × X)) (s : K) (c w : X) → lookup (is_at (R s)) ks ≡ Some c → lookup (is_at (R s)) (set_value (is_at (R s)) ks w) ≡ Some w
  lookup_written [] s c w there = absurd cc
  lookup_written (k ∷ ks) s c w there =
      elim (is_eq (R s k.0)) as (λ b. is_eq (R s k.0) ≡ b → cond b (Some k.1) (lookup (is_at (R s)) ks) ≡ Some c
      → lookup (is_at (R s)) (cond b ((k.0, w) ∷ ks) (k ∷ set_value (is_at (R s)) ks w)) ≡ Some w) [
        | true ↦ λ b e. ap (λ t. cond t (Some w) (lookup (is_at (R s)) ks)) b
        | false ↦ λ b e. ap (λ t. cond t (Some k.1) (lookup (is_at (R s)) (set_value (is_at (R s)) ks w))) b ∙ lookup_written ks s c w e
      ] refl there

  below_all-remove : (t s : K) (ks : List (K × X)) → T (below_all R t ks) → T (below_all R t (remove_entry (is_at (R s)) ks))
  below_all-remove t s [] h = tt
  below_all-remove t s (k ∷ ks) h =
      elim (is_eq (R s k.0)) as (λ b. T (below_all R t (cond b ks (k ∷ remove_entry (is_at (R s)) ks)))) [
        | true ↦ second_so _ _ h
        | false ↦ both_so (is_lt (R t k.0)) _ (first_so _ _ h) (below_all-remove t s ks (second_so _ _ h))
      ]

  pub sorted_removed : (s : K) (ks : List (K × X)) → T (is_sorted R ks) → T (is_sorted R (remove_entry (is_at (R s)) ks))
  sorted_removed s [] h = tt
  sorted_removed s (k ∷ ks) h =
      elim (is_eq (R s k.0)) as (λ b. T (is_sorted R (cond b ks (k ∷ remove_entry (is_at (R s)) ks)))) [
        | true ↦ second_so _ _ h
        | false ↦ both_so (below_all R k.0 (remove_entry (is_at (R s)) ks)) _ (below_all-remove k.0 s ks (first_so _ _ h)) (sorted_removed s ks (second_so _ _ h))
      ]

module _ {K X : Type 0} (R : K → K → Ordering) (o : IsTotalOrder R) where
  pub before_less : (s t : K) (ks : List (K × X)) → R s t ≡ Less → T (below_all R t ks) → T (below_all R s ks)
  before_less s t [] e h = tt
  before_less s t (k ∷ ks) e h =
      both_so (is_lt (R s k.0)) (below_all R s ks) (subst (λ r. T (is_lt r)) (sym (o.trans s t k.0 e (is_less _ (first_so _ _ h)))) tt) (before_less s t ks e (second_so _ _ h))

  pub tied_before : (s t : K) (ks : List (K × X)) → R s t ≡ Equal → T (below_all R t ks) → T (below_all R s ks)
  tied_before s t [] e h = tt
  tied_before s t (k ∷ ks) e h = subst (λ r. T (is_lt r && below_all R s ks)) (sym (o.congr s t k.0 e)) (both_so (is_lt (R t k.0)) _ (first_so _ _ h) (tied_before s t ks e (second_so _ _ h)))

  insert_entry-put : (ks : List (K × X)) (s : K) (w : X) → insert_entry R ks s w ≡ put R s w ks
  insert_entry-put [] s w = refl
  insert_entry-put (k ∷ ks) s w =
      elim (R s k.0) as (λ r. match_ordering r ((s, w) ∷ k ∷ ks) ((k.0, w) ∷ ks) (k ∷ insert_entry R ks s w) ≡ by_order r ((s, w) ∷ k ∷ ks) ((k.0, w) ∷ ks) (k ∷ put R s w ks)) [
        | Less ↦ refl
        | Equal ↦ refl
        | Greater ↦ ap (λ r. k ∷ r) (insert_entry-put ks s w)
      ]

  pub sorted_insert : (ks : List (K × X)) (s : K) (w : X) → T (is_sorted R ks) → T (is_sorted R (insert_entry R ks s w))
  sorted_insert ks s w h = subst (λ es. T (is_sorted R es)) (sym (insert_entry-put ks s w)) (is_sorted-put R o s w ks h)

  -- where the key is there, its value is written over
  pub insert-set_value : (ks : List (K × X)) (s : K) (c w : X) → T (is_sorted R ks) → lookup (is_at (R s)) ks ≡ Some c → insert_entry R ks s w ≡ set_value (is_at (R s)) ks w
  insert-set_value [] s c w h there = absurd cc
  insert-set_value (k ∷ ks) s c w h there =
      elim (R s k.0) as (λ r. R s k.0 ≡ r → cond (is_eq r) (Some k.1) (lookup (is_at (R s)) ks) ≡ Some c
      → match_ordering r ((s, w) ∷ k ∷ ks) ((k.0, w) ∷ ks) (k ∷ insert_entry R ks s w) ≡ cond (is_eq r) ((k.0, w) ∷ ks) (k ∷ set_value (is_at (R s)) ks w)) [
        | Less ↦ λ e l. let none = lookup_before R s ks (before_less s k.0 ks e (first_so _ _ h)) in absurd (cc (none, l))
        | Equal ↦ λ e l. refl
        | Greater ↦ λ e l. ap (λ r. k ∷ r) (insert-set_value ks s c w (second_so _ _ h) l)
      ] refl there

  pub sorted_set_value : (ks : List (K × X)) (s : K) (c w : X) → T (is_sorted R ks) → lookup (is_at (R s)) ks ≡ Some c → T (is_sorted R (set_value (is_at (R s)) ks w))
  sorted_set_value ks s c w h there = subst (λ (xs : List (K × X)). T (is_sorted R xs)) (insert-set_value ks s c w h there) (sorted_insert ks s w h)

  pub lookup_added : (ks : List (K × X)) (s : K) (w : X) → lookup (is_at (R s)) ks ≡ None → lookup (is_at (R s)) (insert_entry R ks s w) ≡ Some w
  lookup_added [] s w none = ap (λ r. cond (is_eq r) (Some w) None) (tied_itself o s)
  lookup_added (k ∷ ks) s w none =
      elim (R s k.0) as (λ r. R s k.0 ≡ r → cond (is_eq r) (Some k.1) (lookup (is_at (R s)) ks) ≡ None
      → lookup (is_at (R s)) (match_ordering r ((s, w) ∷ k ∷ ks) ((k.0, w) ∷ ks) (k ∷ insert_entry R ks s w)) ≡ Some w) [
        | Less ↦ λ e l. ap (λ r. cond (is_eq r) (Some w) (lookup (is_at (R s)) (k ∷ ks))) (tied_itself o s)
        | Equal ↦ λ e l. absurd cc
        | Greater ↦ λ e l. ap (λ r. cond (is_eq r) (Some k.1) (lookup (is_at (R s)) (insert_entry R ks s w))) e ∙ lookup_added ks s w l
      ] refl none

  pub added_twice : (ks : List (K × X)) (s : K) (w x : X) → lookup (is_at (R s)) ks ≡ None → set_value (is_at (R s)) (insert_entry R ks s w) x ≡ insert_entry R ks s x
  added_twice [] s w x none = ap (λ r. cond (is_eq r) ((s, x) ∷ []) ((s, w) ∷ [])) (tied_itself o s)
  added_twice (k ∷ ks) s w x none =
      elim (R s k.0) as (λ r. R s k.0 ≡ r → cond (is_eq r) (Some k.1) (lookup (is_at (R s)) ks) ≡ None
      → set_value (is_at (R s)) (match_ordering r ((s, w) ∷ k ∷ ks) ((k.0, w) ∷ ks) (k ∷ insert_entry R ks s w)) x
      ≡ match_ordering r ((s, x) ∷ k ∷ ks) ((k.0, x) ∷ ks) (k ∷ insert_entry R ks s x)) [
        | Less ↦ λ e l. ap (λ r. cond (is_eq r) ((s, x) ∷ k ∷ ks) ((s, w) ∷ set_value (is_at (R s)) (k ∷ ks) x)) (tied_itself o s)
        | Equal ↦ λ e l. absurd cc
        | Greater ↦ λ e l.
            ap (λ r. cond (is_eq r) ((k.0, x) ∷ insert_entry R ks s w) (k ∷ set_value (is_at (R s)) (insert_entry R ks s w) x)) e ∙ ap (λ (r : List (K × X)). k ∷ r) (added_twice ks s w x l)
      ] refl none
