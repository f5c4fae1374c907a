-- What stands at each word after one of them changes, or after trees are put to their words.
use Rattle.std.proofs.Common.{◌≡◌, ℕ, ◌-◌, ◌<◌, ◌≤◌, zero, suc, Bool, true, false, cond, ◌||◌, List, [], ◌∷◌, ◌++◌, length, inl, inr, Option, Some, None, refl, sym, ap, ◌∙◌, arith, length-append}
use Rattle.std.specs.Prelude.{is_some}
use Rattle.std.specs.Ordering.{is_eq}
use Rattle.std.specs.Map.{lookup}
use Rattle.std.specs.BTreeMap.{is_at}
use Rattle.std.proofs.lemmas.Bool.{cases_lt}
use Rattle.mj_store.specs.Questions.{Subtree}
use Rattle.mj_tree.specs.Nest.{nodes_of}
use Rattle.mj_globs.proofs.Groups.{W}
use Rattle.mj_locals.specs.Trees.{Trees, at, has_room, placed, added, word_at}
use Rattle.mj_locals.specs.Hiding.{Grows, all_put}
use Rattle.mj_locals.specs.Snapshots.{HaveRoom}
use Rattle.mj_locals.proofs.Places.{same_word, itself, word_placed, length_placed, word_front}

-- ---- one word

pub room_placed : (ts : Trees) (w : List ℕ) (nodes : Subtree) (v : List ℕ) → has_room (placed ts w nodes) v ≡ has_room ts v
room_placed [] w nodes v = refl
room_placed (k ∷ ks) w nodes v =
    elim (is_eq (W w k.0)) as (λ b. is_some (lookup (is_at (W v)) (cond b ((k.0, nodes) ∷ ks) (k ∷ placed ks w nodes))) ≡ is_some (cond (is_eq (W v k.0)) (Some k.1) (lookup (is_at (W v)) ks))) [
      | true ↦ elim (is_eq (W v k.0)) as (λ b. is_some (cond b (Some nodes) (lookup (is_at (W v)) ks)) ≡ is_some (cond b (Some k.1) (lookup (is_at (W v)) ks))) [ true ↦ refl | false ↦ refl ]
      | false ↦ elim (is_eq (W v k.0)) as (λ b. is_some (cond b (Some k.1) (lookup (is_at (W v)) (placed ks w nodes))) ≡ is_some (cond b (Some k.1) (lookup (is_at (W v)) ks))) [
        | true ↦ refl
        | false ↦ room_placed ks w nodes v
      ]
    ]

-- another word keeps its nodes
pub at_other : (ts : Trees) (w : List ℕ) (nodes : Subtree) (v : List ℕ) → is_eq (W v w) ≡ false → at (placed ts w nodes) v ≡ at ts v
at_other [] w nodes v ne = refl
at_other (k ∷ ks) w nodes v ne = by (at_other ks w nodes v ne) (is_eq (W w k.0)) refl
  where
    by : at (placed ks w nodes) v ≡ at ks v → (b : Bool) → is_eq (W w k.0) ≡ b
        → nodes_of (lookup (is_at (W v)) (cond b ((k.0, nodes) ∷ ks) (k ∷ placed ks w nodes))) ≡ nodes_of (cond (is_eq (W v k.0)) (Some k.1) (lookup (is_at (W v)) ks))
    by rest true e =
        let apart : is_eq (W v k.0) ≡ false = ap (λ x. is_eq (W v x)) (sym (same_word w k.0 e)) ∙ ne in
        (λ i. nodes_of (cond (apart i) (Some nodes) (lookup (is_at (W v)) ks))) ∙ sym (ap (λ b. nodes_of (cond b (Some k.1) (lookup (is_at (W v)) ks))) apart)
    by rest false e = elim (is_eq (W v k.0)) as (λ b. nodes_of (cond b (Some k.1) (lookup (is_at (W v)) (placed ks w nodes))) ≡ nodes_of (cond b (Some k.1) (lookup (is_at (W v)) ks))) [
      | true ↦ refl
      | false ↦ rest
    ]

at_same : (ts : Trees) (w : List ℕ) (nodes : Subtree) → has_room ts w ≡ true → at (placed ts w nodes) w ≡ nodes
at_same [] w nodes h = absurd cc
at_same (k ∷ ks) w nodes h =
    elim (is_eq (W w k.0)) as (λ b. is_eq (W w k.0) ≡ b
    → is_some (cond b (Some k.1) (lookup (is_at (W w)) ks)) ≡ true → nodes_of (lookup (is_at (W w)) (cond b ((k.0, nodes) ∷ ks) (k ∷ placed ks w nodes))) ≡ nodes) [
      | true ↦ λ e r. ap (λ b. nodes_of (cond b (Some nodes) (lookup (is_at (W w)) ks))) e
      | false ↦ λ e r. ap (λ b. nodes_of (cond b (Some k.1) (lookup (is_at (W w)) (placed ks w nodes)))) e ∙ at_same ks w nodes r
    ] refl h

pub no_room : (ts : Trees) (w : List ℕ) → has_room ts w ≡ false → lookup (is_at (W w)) ts ≡ None
no_room ts w e = by (lookup (is_at (W w)) ts) e
  where
    by : (o : Option Subtree) → is_some o ≡ false → o ≡ None
    by None e = refl
    by (Some x) e = absurd cc

pub at_nowhere : (ts : Trees) (w : List ℕ) → has_room ts w ≡ false → at ts w ≡ []
at_nowhere ts w e = ap nodes_of (no_room ts w e)

pub at_placed : (ts : Trees) (w : List ℕ) (nodes : Subtree) (v : List ℕ) → has_room ts w ≡ true → at (placed ts w nodes) v ≡ cond (is_eq (W v w)) nodes (at ts v)
at_placed ts w nodes v h = by (is_eq (W v w)) refl
  where
    by : (b : Bool) → is_eq (W v w) ≡ b → at (placed ts w nodes) v ≡ cond (is_eq (W v w)) nodes (at ts v)
    by true e = ap (at (placed ts w nodes)) (same_word v w e) ∙ at_same ts w nodes h ∙ sym (ap (λ b. cond b nodes (at ts v)) e)
    by false e = at_other ts w nodes v e ∙ sym (ap (λ b. cond b nodes (at ts v)) e)

-- ---- a word behind the others

pub lookup_pushed : (ts : Trees) (k : List ℕ × Subtree) (v : List ℕ) → lookup (is_at (W v)) (ts ++ k ∷ []) ≡ cond (has_room ts v) (lookup (is_at (W v)) ts) (cond (is_eq (W v k.0)) (Some k.1) None)
lookup_pushed [] k v = refl
lookup_pushed (x ∷ xs) k v =
    elim (is_eq (W v x.0)) as (λ b. cond b (Some x.1) (lookup (is_at (W v)) (xs ++ k ∷ []))
    ≡ cond (is_some (cond b (Some x.1) (lookup (is_at (W v)) xs))) (cond b (Some x.1) (lookup (is_at (W v)) xs)) (cond (is_eq (W v k.0)) (Some k.1) None)) [
      | true ↦ refl
      | false ↦ lookup_pushed xs k v
    ]

pub room_pushed : (ts : Trees) (k : List ℕ × Subtree) (v : List ℕ) → has_room (ts ++ k ∷ []) v ≡ (has_room ts v || is_eq (W v k.0))
room_pushed ts k v = ap is_some (lookup_pushed ts k v) ∙ by (lookup (is_at (W v)) ts) (is_eq (W v k.0))
  where
    by : (o : Option Subtree) (b : Bool) → is_some (cond (is_some o) o (cond b (Some k.1) None)) ≡ (is_some o || b)
    by None true = refl
    by None false = refl
    by (Some x) b = refl

pub at_pushed : (ts : Trees) (k : List ℕ × Subtree) (v : List ℕ) → at (ts ++ k ∷ []) v ≡ cond (has_room ts v) (at ts v) (cond (is_eq (W v k.0)) k.1 [])
at_pushed ts k v = ap nodes_of (lookup_pushed ts k v) ∙ by (lookup (is_at (W v)) ts) (is_eq (W v k.0))
  where
    by : (o : Option Subtree) (b : Bool) → nodes_of (cond (is_some o) o (cond b (Some k.1) None)) ≡ cond (is_some o) (nodes_of o) (cond b k.1 [])
    by None true = refl
    by None false = refl
    by (Some x) b = refl

pub at_added : (ts : Trees) (w v : List ℕ) → at (added ts w) v ≡ at ts v
at_added ts w v = by (has_room ts w) refl
  where
    inner : (b e : Bool) → has_room ts v ≡ b → is_eq (W v w) ≡ e → cond b (at ts v) (cond e [] []) ≡ at ts v
    inner true e f g = refl
    inner false true f g = sym (at_nowhere ts v f)
    inner false false f g = sym (at_nowhere ts v f)

    by : (b : Bool) → has_room ts w ≡ b → at (cond (has_room ts w) ts (ts ++ (w, []) ∷ [])) v ≡ at ts v
    by true e = ap (λ b. at (cond b ts (ts ++ (w, []) ∷ [])) v) e
    by false e = ap (λ b. at (cond b ts (ts ++ (w, []) ∷ [])) v) e ∙ at_pushed ts (w, []) v ∙ inner (has_room ts v) (is_eq (W v w)) refl refl

-- a word that has a place stands there
pub room_at : (ts : Trees) (p : ℕ) → p < length ts → has_room ts (word_at ts p) ≡ true
room_at [] p h = absurd (omega arith)
room_at (k ∷ ks) zero h = ap (λ b. is_some (cond b (Some k.1) (lookup (is_at (W k.0)) ks))) (itself k.0)
room_at (k ∷ ks) (suc p) h =
    elim (is_eq (W (word_at ks p) k.0)) as (λ b. is_some (cond b (Some k.1) (lookup (is_at (W (word_at ks p))) ks)) ≡ true) [ true ↦ refl | false ↦ room_at ks p (omega arith) ]

-- ---- words keep their places

pub grows_same : (ts us : Trees) → length us ≡ length ts → ((p : ℕ) → word_at us p ≡ word_at ts p) → Grows ts us
grows_same ts us n same p h = (omega (arith, n), same p)

pub grows_itself : (ts : Trees) → Grows ts ts
grows_itself ts p h = (h, refl)

pub grows_on : (ts us xs : Trees) → Grows ts us → Grows us xs → Grows ts xs
grows_on ts us xs g h p less = let a = g p less in let b = h p a.0 in (b.0, b.1 ∙ a.1)

pub grows_placed : (ts : Trees) (w : List ℕ) (n : Subtree) → Grows ts (placed ts w n)
grows_placed ts w n = grows_same ts (placed ts w n) (length_placed ts w n) (word_placed ts w n)

pub grows_added : (ts : Trees) (w : List ℕ) → Grows ts (added ts w)
grows_added ts w =
    elim (has_room ts w) as (λ b. Grows ts (cond b ts (ts ++ (w, []) ∷ []))) [
      | true ↦ grows_itself ts
      | false ↦ λ p less. (omega (arith, length-append ts ((w, []) ∷ []), less), word_front ts ((w, []) ∷ []) p less)
    ]

pub grows_length : (ts us : Trees) → Grows ts us → length ts ≤ length us
grows_length ts us g = elim (cases_lt 0 (length ts)) [
  | inl some ↦ (let last = g (length ts - 1) (omega arith) in omega (arith, last.0))
  | inr none ↦ omega arith
]

-- ---- trees are put to their words

pub word_all_put : (ks ts : Trees) (p : ℕ) → word_at (all_put ks ts) p ≡ word_at ts p
word_all_put [] ts p = refl
word_all_put (k ∷ ks) ts p = word_placed (all_put ks ts) k.0 k.1 p ∙ word_all_put ks ts p

pub length_all_put : (ks ts : Trees) → length (all_put ks ts) ≡ length ts
length_all_put [] ts = refl
length_all_put (k ∷ ks) ts = length_placed (all_put ks ts) k.0 k.1 ∙ length_all_put ks ts

pub room_all_put : (ks ts : Trees) (v : List ℕ) → has_room (all_put ks ts) v ≡ has_room ts v
room_all_put [] ts v = refl
room_all_put (k ∷ ks) ts v = room_placed (all_put ks ts) k.0 k.1 v ∙ room_all_put ks ts v

pub at_all_put : (ks ts : Trees) (v : List ℕ) → HaveRoom ts ks → at (all_put ks ts) v ≡ cond (has_room ks v) (at ks v) (at ts v)
at_all_put [] ts v h = refl
at_all_put (k ∷ ks) ts v h =
    at_placed (all_put ks ts) k.0 k.1 v (room_all_put ks ts k.0 ∙ h.0)
    ∙ ap (λ (n : Subtree). cond (is_eq (W v k.0)) k.1 n) (at_all_put ks ts v h.1)
    ∙ elim (is_eq (W v k.0)) as (λ b. cond b k.1 (cond (has_room ks v) (at ks v) (at ts v))
    ≡ cond (is_some (cond b (Some k.1) (lookup (is_at (W v)) ks))) (nodes_of (cond b (Some k.1) (lookup (is_at (W v)) ks))) (at ts v)) [ true ↦ refl | false ↦ refl ]

pub all_put_pushed : (ks : Trees) (k : List ℕ × Subtree) (ts : Trees) → all_put (ks ++ k ∷ []) ts ≡ all_put ks (placed ts k.0 k.1)
all_put_pushed [] k ts = refl
all_put_pushed (x ∷ xs) k ts = ap (λ (us : Trees). placed us x.0 x.1) (all_put_pushed xs k ts)
