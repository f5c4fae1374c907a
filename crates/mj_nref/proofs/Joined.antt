-- What was read so far, before what is still read.
use Rattle.std.proofs.lemmas.List.{at_drop_more}
use Rattle.std.proofs.Common.{suc, ◌∙◌, ◌+◌, ◌<◌, length, get_or, drop, Bool, true, false, cond, ne_eqb, ◌≡◌, ℕ, List, [], ◌∷◌, ◌++◌, Option, Some, None, refl, sym, ap, append_assoc}
use Rattle.mj_nref.specs.Reading.{preceded, quoted_at, listed, item_of, continued_by, subscripts_of}

-- the bytes v before those of what is read
abbrev pub joined : List ℕ → Option (List ℕ × List ℕ) → Option (List ℕ × List ℕ)
joined v None = None
joined v (Some p) = Some (v ++ p.0, p.1)

pub joined_none : (o : Option (List ℕ × List ℕ)) → joined [] o ≡ o
joined_none None = refl
joined_none (Some p) = refl

-- one byte more is read
pub joined_preceded : (v : List ℕ) (c : ℕ) (o : Option (List ℕ × List ℕ)) → joined v (preceded c o) ≡ joined (v ++ c ∷ []) o
joined_preceded v c None = refl
joined_preceded v c (Some p) = ap (λ s. Some (s, p.1)) (sym (append_assoc v (c ∷ []) p.0))

-- the subscripts vs before those that are read
abbrev pub joined_list : List (List ℕ) → Option (List (List ℕ)) → Option (List (List ℕ))
joined_list vs None = None
joined_list vs (Some ss) = Some (vs ++ ss)

pub joined_list_none : (o : Option (List (List ℕ))) → joined_list [] o ≡ o
joined_list_none None = refl
joined_list_none (Some p) = refl

-- one subscript more is read
pub joined_listed : (vs : List (List ℕ)) (s : List ℕ) (o : Option (List (List ℕ))) → joined_list vs (listed s o) ≡ joined_list (vs ++ s ∷ []) o
joined_listed vs s None = refl
joined_listed vs s (Some ss) = ap Some (sym (append_assoc vs (s ∷ []) ss))

-- a step of the reading: v was read of `total`, and the rest is read from place i on, behind a quote or not
module _ (bytes v : List ℕ) (i : ℕ) (a : Bool) (total : Option (List ℕ × List ℕ)) (inv : total ≡ joined v (quoted_at a (drop i bytes))) (within : i < length bytes) where
  at_byte : (c : ℕ) → get_or bytes i 0 ≡ c → total ≡ joined v (quoted_at a (c ∷ drop (i + 1) bytes))
  at_byte c here = inv ∙ ap (joined v) (at_drop_more (quoted_at a) bytes i 0 within ∙ ap (λ x. quoted_at a (x ∷ drop (i + 1) bytes)) here)

  -- a quote, behind no quote
  pub first_quote : get_or bytes i 0 ≡ 34 → a ≡ false → (w : List ℕ) (b : Bool) → w ≡ v → b ≡ true → total ≡ joined w (quoted_at b (drop (i + 1) bytes))
  first_quote here e w b p q =
      at_byte 34 here ∙ ap (λ x. joined v (quoted_at x (34 ∷ drop (i + 1) bytes))) e ∙ (λ j. joined (sym p j) (quoted_at (sym q j) (drop (i + 1) bytes)))

  -- a quote, behind a quote
  pub second_quote : get_or bytes i 0 ≡ 34 → a ≡ true → (w : List ℕ) (b : Bool) → w ≡ v ++ 34 ∷ [] → b ≡ false → total ≡ joined w (quoted_at b (drop (i + 1) bytes))
  second_quote here e w b p q =
      at_byte 34 here ∙ ap (λ x. joined v (quoted_at x (34 ∷ drop (i + 1) bytes))) e
      ∙ joined_preceded v 34 (quoted_at false (drop (i + 1) bytes)) ∙ (λ j. joined (sym p j) (quoted_at (sym q j) (drop (i + 1) bytes)))

  -- another byte, behind no quote
  pub other_byte : (get_or bytes i 0 ≡ 34 → ⊥) → a ≡ false → (w : List ℕ) (b : Bool) → w ≡ v ++ get_or bytes i 0 ∷ [] → b ≡ false → total ≡ joined w (quoted_at b (drop (i + 1) bytes))
  other_byte ne e w b p q =
      at_byte (get_or bytes i 0) refl ∙ ap (λ x. joined v (quoted_at x (get_or bytes i 0 ∷ drop (i + 1) bytes))) e
      ∙ ap (λ t. joined v (cond t (quoted_at true (drop (i + 1) bytes)) (preceded (get_or bytes i 0) (quoted_at false (drop (i + 1) bytes))))) (ne_eqb (get_or bytes i 0) 34 ne)
      ∙ joined_preceded v (get_or bytes i 0) (quoted_at false (drop (i + 1) bytes)) ∙ (λ j. joined (sym p j) (quoted_at (sym q j) (drop (i + 1) bytes)))

-- a step of the reading of a list: vs was read of `total`, and the rest is read from bs on
module _ (vs : List (List ℕ)) (k n : ℕ) (bs : List ℕ) (total : Option (List (List ℕ))) (inv : total ≡ joined_list vs (subscripts_of n bs)) (left : n ≡ suc k) where
  at_item : (o : Option (List ℕ × Option (List ℕ))) → o ≡ item_of bs → total ≡ joined_list vs (continued_by (subscripts_of k) o)
  unfolding subscripts_of
  at_item o e = inv ∙ (λ i. joined_list vs (subscripts_of (left i) bs)) ∙ ap (λ p. joined_list vs (continued_by (subscripts_of k) p)) (sym e)

  -- no subscript stands there
  pub no_item : None ≡ item_of bs → None ≡ total
  no_item e = sym (at_item None e)

  -- it is the last
  pub last_item : (s : List ℕ) (ws : List (List ℕ)) → Some (s, None) ≡ item_of bs → ws ≡ vs ++ s ∷ [] → Some ws ≡ total
  last_item s ws e w = ap Some w ∙ sym (at_item (Some (s, None)) e)

  -- more follow
  pub next_item : (s cs : List ℕ) (ws : List (List ℕ)) (m : ℕ) → Some (s, Some cs) ≡ item_of bs → ws ≡ vs ++ s ∷ [] → m ≡ k → total ≡ joined_list ws (subscripts_of m cs)
  next_item s cs ws m e w d = at_item (Some (s, Some cs)) e ∙ joined_listed vs s (subscripts_of k cs) ∙ (λ i. joined_list (sym w i) (subscripts_of (sym d i) cs))

pub none_left : (vs : List (List ℕ)) (n : ℕ) (bs : List ℕ) (total : Option (List (List ℕ))) → total ≡ joined_list vs (subscripts_of n bs) → n ≡ 0 → None ≡ total
unfolding subscripts_of
none_left vs n bs total inv e = sym (inv ∙ (λ i. joined_list vs (subscripts_of (e i) bs)))
