-- What was read so far, before what is still read.
use Rattle.std.proofs.Common.{◌≡◌, ◌∙◌, suc, ℕ, Bool, true, false, List, [], ◌∷◌, ◌++◌, Option, Some, None, refl, sym, ap, append_assoc, append-nil}
use Rattle.std.specs.Option.{option_map}
use Rattle.mj_gfile.specs.Reading.{Whole, preceded, quoted_at, listed, mark_at, marked, with_mark, item_at, continued_by, subscripts_of}
use Rattle.mj_gfile.specs.declared.field.Field.{Field}
use Rattle.mj_text.specs.declared.limit.Limit.{Limit}
use Rattle.mj_gfile.specs.Listing.{limited, is_short, are_small, text_field, item_field, subscripts_field}
use Rattle.mj_gfile.specs.Units.{IsUnit}

-- the bytes v before those of what is read
abbrev pub joined : List ℕ → Option (List ℕ × List ℕ) → Option (List ℕ × List ℕ)
joined v None = None
joined v (Some p) = Some (v ++ p.0, p.1)

pub joined_none : (o : Option (List ℕ × List ℕ)) → joined [] o ≡ o
joined_none None = refl
joined_none (Some p) = refl

-- one byte more is read
pub joined_preceded : (v : List ℕ) (c : ℕ) (o : Option (List ℕ × List ℕ)) → joined v (preceded c o) ≡ joined (v ++ c ∷ []) o
joined_preceded v c None = refl
joined_preceded v c (Some p) = ap (λ s. Some (s, p.1)) (sym (append_assoc v (c ∷ []) p.0))

-- a step of the reading: v was read of `total`, and the rest is read from bs on
module _ (v bs : List ℕ) (total : Option (List ℕ × List ℕ)) (inv : total ≡ joined v (quoted_at Whole bs)) where
  -- nothing is spelled there
  pub no_unit : quoted_at Whole bs ≡ None → None ≡ total
  no_unit e = sym (inv ∙ ap (joined v) e)

  -- the closing quote stands there
  pub closing_unit : (rest : List ℕ) → IsUnit (quoted_at Whole bs) bs (None, rest) → Some (v, rest) ≡ total
  closing_unit rest u = ap (λ s. Some (s, rest)) (sym (append-nil v)) ∙ sym (inv ∙ ap (joined v) u.reads)

  -- a byte stands there
  pub byte_unit : (c : ℕ) (rest w : List ℕ) → IsUnit (quoted_at Whole bs) bs (Some c, rest) → w ≡ v ++ c ∷ [] → total ≡ joined w (quoted_at Whole rest)
  byte_unit c rest w u e = inv ∙ ap (joined v) u.reads ∙ joined_preceded v c (quoted_at Whole rest) ∙ ap (λ s. joined s (quoted_at Whole rest)) (sym e)

-- the subscripts vs before those that are read
abbrev pub joined_list : List (List ℕ) → Option (List (List ℕ) × List ℕ) → Option (List (List ℕ) × List ℕ)
joined_list vs None = None
joined_list vs (Some p) = Some (vs ++ p.0, p.1)

pub joined_list_none : (o : Option (List (List ℕ) × List ℕ)) → joined_list [] o ≡ o
joined_list_none None = refl
joined_list_none (Some p) = refl

-- one subscript more is read
pub joined_listed : (vs : List (List ℕ)) (s : List ℕ) (o : Option (List (List ℕ) × List ℕ)) → joined_list vs (listed s o) ≡ joined_list (vs ++ s ∷ []) o
joined_listed vs s None = refl
joined_listed vs s (Some p) = ap (λ ss. Some (ss, p.1)) (sym (append_assoc vs (s ∷ []) p.0))

-- ---- lists of subscripts

-- what is read of an item is an item, by whether it is within its limit
pub item_inverted : (limit : Limit) (f : Field (List ℕ)) (more : Bool) (rest : List ℕ) (o : Option (List ℕ × Bool × List ℕ)) → Some (f, more, rest) ≡ item_field limit o
    → (s : List ℕ) × ((o ≡ Some (s, more, rest)) × (f ≡ limited (is_short limit s) s))
item_inverted limit f more rest None e = absurd cc
item_inverted limit f more rest (Some p) e =
    let same : ◌≡◌ {A = Field (List ℕ) × Bool × List ℕ} (f, more, rest) (limited (is_short limit p.0) p.0, p.1, p.2) = cc in
    (p.0, (λ i. Some (p.0, (sym same i).1, (sym same i).2), ap (λ t. t.0) same))

pub none_inverted : (limit : Limit) (o : Option (List ℕ × Bool × List ℕ)) → None ≡ item_field limit o → o ≡ None
none_inverted limit None e = refl
none_inverted limit (Some p) e = absurd cc

-- a subscript and its mark are an item
marked_read : (limit : Limit) (f : Field (List ℕ)) (s : List ℕ) (m : Option (Bool × List ℕ)) → f ≡ limited (is_short limit s) s → option_map (λ q. (f, q.0, q.1)) m ≡ item_field limit (marked s m)
marked_read limit f s None e = refl
marked_read limit f s (Some q) e = ap (λ x. Some (x, q.0, q.1)) e

pub item_read : (limit : Limit) (f : Field (List ℕ)) (tail : List ℕ) (o : Option (List ℕ × List ℕ)) (m : Option (Bool × List ℕ)) → Some (f, tail) ≡ text_field limit o → m ≡ mark_at tail
    → option_map (λ q. (f, q.0, q.1)) m ≡ item_field limit (with_mark o)
item_read limit f tail None m e k = absurd cc
item_read limit f tail (Some p) m e k =
    let same : ◌≡◌ {A = Field (List ℕ) × List ℕ} (f, tail) (limited (is_short limit p.0) p.0, p.1) = cc in
    marked_read limit f p.0 m (ap (λ t. t.0) same) ∙ ap (λ x. item_field limit (marked p.0 x)) (k ∙ ap (λ t. mark_at t.1) same)

pub no_subscript : (limit : Limit) (o : Option (List ℕ × List ℕ)) → None ≡ text_field limit o → None ≡ item_field limit (with_mark o)
no_subscript limit None e = refl
no_subscript limit (Some p) e = absurd cc

-- a step of the reading of a list: vs was read of `total`, and the rest is read from bs on
module _ (limit : Limit) (vs : List (List ℕ)) (k n : ℕ) (bs : List ℕ) (total : Option (List (List ℕ) × List ℕ)) (inv : total ≡ joined_list vs (subscripts_of n bs)) (left : n ≡ suc k) where
  at_item : (o : Option (List ℕ × Bool × List ℕ)) → item_at bs ≡ o → total ≡ joined_list vs (continued_by (subscripts_of k) o)
  unfolding subscripts_of
  at_item o e = inv ∙ (λ i. joined_list vs (subscripts_of (left i) bs)) ∙ ap (λ p. joined_list vs (continued_by (subscripts_of k) p)) e

  -- no subscript stands there
  pub no_item : None ≡ item_field limit (item_at bs) → None ≡ subscripts_field limit total
  no_item e = ap (subscripts_field limit) (sym (at_item None (none_inverted limit (item_at bs) e)))

  -- it is the last
  pub last_item : (s rest : List ℕ) → item_at bs ≡ Some (s, false, rest) → (ss : Field (List (List ℕ))) → ss ≡ limited (are_small limit (vs ++ s ∷ [])) (vs ++ s ∷ [])
      → Some (ss, rest) ≡ subscripts_field limit total
  last_item s rest e ss is = ap (λ x. Some (x, rest)) is ∙ ap (subscripts_field limit) (sym (at_item (Some (s, false, rest)) e))

  -- more follow
  pub next_item : (s rest : List ℕ) (m : ℕ) → item_at bs ≡ Some (s, true, rest) → m ≡ k → total ≡ joined_list (vs ++ s ∷ []) (subscripts_of m rest)
  next_item s rest m e d =
      at_item (Some (s, true, rest)) e ∙ joined_listed vs s (subscripts_of k rest) ∙ ap (λ j. joined_list (vs ++ s ∷ []) (subscripts_of j rest)) (sym d)

pub none_left : (limit : Limit) (vs : List (List ℕ)) (n : ℕ) (bs : List ℕ) (total : Option (List (List ℕ) × List ℕ)) → total ≡ joined_list vs (subscripts_of n bs) → n ≡ 0
    → None ≡ subscripts_field limit total
unfolding subscripts_of
none_left limit vs n bs total inv e = ap (subscripts_field limit) (sym (inv ∙ (λ i. joined_list vs (subscripts_of (e i) bs))))
