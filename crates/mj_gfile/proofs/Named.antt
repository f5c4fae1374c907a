-- The name of a word and of what was read behind it.
use Rattle.std.proofs.Common.{◌≡◌, ◌∙◌, ℕ, ◌-◌, ◌<◌, Bool, true, false, eqb, eqb-true, List, [], ◌∷◌, length, take, drop, Option, Some, None, if◌then◌else◌, refl, sym, ap, arith}
use Rattle.std.specs.List.{slice_index_or}
use Rattle.std.proofs.lemmas.List.{take_all}
use Rattle.mj_text.specs.declared.limit.Limit.{Limit}
use Rattle.mj_subs.specs.Name.{Name}
use Rattle.mj_gfile.specs.declared.field.Field.{Field}
use Rattle.mj_gfile.specs.Spelling.{is_any_word}
use Rattle.mj_gfile.specs.Reading.{front_by, rest_by, is_word_byte, named, subscripts_at, name_with, name_in}
use Rattle.mj_gfile.specs.Listing.{limited, are_small, is_small, subscripts_field, name_field, name}

-- bytes whose first is a parenthesis
opened : (bs : List ℕ) → slice_index_or bs 0 0 ≡ 40 → bs ≡ 40 ∷ take (length bs - 1) (drop 1 bs)
opened [] is = absurd cc
opened (c ∷ cs) is = λ i. is i ∷ sym (take_all (length (c ∷ cs) - 1) cs (omega arith)) i

-- what stands behind the word
module _ (g : Bool) (w : List ℕ) where
  -- a list
  pub list_behind : (bs : List ℕ) → slice_index_or bs 0 0 ≡ 40 → named g w (subscripts_at (take (length bs - 1) (drop 1 bs))) ≡ name_with g w bs
  list_behind bs is = sym (ap (name_with g w) (opened bs is))

  -- nothing
  pub none_behind : (bs : List ℕ) → length bs < 1 → named g w (Some ([], bs)) ≡ name_with g w bs
  none_behind [] h = refl
  none_behind (c ∷ cs) h = absurd (omega arith)

  -- something else
  by_first : (c : ℕ) (cs : List ℕ) (b : Bool) → eqb c 40 ≡ b → (c ≡ 40 → ⊥) → named g w (Some ([], c ∷ cs)) ≡ (if b then named g w (subscripts_at cs) else named g w (Some ([], c ∷ cs)))
  by_first c cs true e h = absurd (h (eqb-true c 40 e))
  by_first c cs false e h = refl

  pub other_behind : (bs : List ℕ) → (slice_index_or bs 0 0 ≡ 40 → ⊥) → named g w (Some ([], bs)) ≡ name_with g w bs
  other_behind [] h = refl
  other_behind (c ∷ cs) h = by_first c cs (eqb c 40) refl h

module _ (limit : Limit) (g : Bool) where
  -- the subscripts and the name are within their limits, or not
  pub named_read : (w : List ℕ) (subs : Field (List (List ℕ))) (rest : List ℕ) (o : Option (List (List ℕ) × List ℕ)) → Some (subs, rest) ≡ subscripts_field limit o
      → (n : Field Name) → ((l : Limit) (list : List (List ℕ)) → subs ≡ limited (are_small l list) list → n ≡ limited (is_small l (name g w list)) (name g w list))
      → Some (n, rest) ≡ name_field limit (named g w o)
  named_read w subs rest None e n f = absurd cc
  named_read w subs rest (Some p) e n f =
      let same : ◌≡◌ {A = Field (List (List ℕ)) × List ℕ} (subs, rest) (limited (are_small limit p.0) p.0, p.1) = cc in
      λ i. Some (f limit p.0 (ap (λ t. t.0) same) i, ap (λ t. t.1) same i)

  -- the word and what follows it are those of the bytes
  pub name_read : (bs word behind : List ℕ) → word ≡ front_by is_word_byte bs → behind ≡ rest_by is_word_byte bs → is_any_word word ≡ true
      → name_field limit (name_with g word behind) ≡ name_field limit (name_in g bs)
  name_read bs word behind f r any =
      ap (name_field limit) ((λ i. if sym any i then name_with g word behind else None) ∙ (λ i. if is_any_word (f i) then name_with g (f i) (r i) else None))
