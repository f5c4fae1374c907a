-- How long parts of a name text are.
use Rattle.std.proofs.Common.{◌≡◌, ℕ, suc, ◌+◌, ◌≤◌, ◌<◌, List, [], ◌∷◌, ◌++◌, length, drop, get_or, cond, true, false, Bool, refl, sym, ap, ◌∙◌, arith, lit<, length-append}
use Rattle.std.proofs.lemmas.List.{drop_more, drop_all}
use Rattle.mj_num.specs.Number.{is_canonic}
use Rattle.mj_subs.specs.Name.{Name}
use Rattle.mj_nref.specs.Spelling.{doubled, word_text, subscript_text, rest_text, subscripts_text, name_text}

-- there is the closing parenthesis at least
pub rest_some : (ss : List (List ℕ)) → 0 < length (rest_text ss)
rest_some [] = lit< tt
rest_some (s ∷ ss) = omega arith

-- a mark and a subscript more
pub rest_more : (ss : List (List ℕ)) (i : ℕ) (s : List ℕ) → i < length ss → s ≡ get_or ss i s
    → length (rest_text (drop i ss)) ≡ length (subscript_text s) + length (rest_text (drop (i + 1) ss)) + 1
rest_more ss i s h is =
    let both = length-append (subscript_text s) (rest_text (drop (i + 1) ss)) in
    let here : drop i ss ≡ s ∷ drop (i + 1) ss = drop_more ss i s h ∙ ap (λ t. t ∷ drop (i + 1) ss) (sym is) in
    let long : length (rest_text (s ∷ drop (i + 1) ss)) ≡ length (subscript_text s) + length (rest_text (drop (i + 1) ss)) + 1 = omega (arith, both) in
    ap (λ l. length (rest_text l)) here ∙ long

-- the subscripts with their parentheses are as long as with a comma before the first
pub subscripts_length : (ss : List (List ℕ)) → (ss ≡ [] → ⊥) → length (subscripts_text ss) ≡ length (rest_text ss)
subscripts_length [] h = absurd (h refl)
subscripts_length (s ∷ ss) h = refl

-- ---- how many bytes of the subscripts were counted, from `front` on, and the closing parenthesis with them

module _ (front len i : ℕ) (ss : List (List ℕ)) (inv : len + length (rest_text (drop i ss)) ≡ front + length (rest_text ss) + 1) where
  -- one subscript more
  pub counted_more : (s : List ℕ) (next n : ℕ) → i < length ss → s ≡ get_or ss i s → n ≡ length (subscript_text s) → next ≡ len + (1 + n)
      → next + length (rest_text (drop (i + 1) ss)) ≡ front + length (rest_text ss) + 1
  counted_more s next n within here many more = omega (arith, inv, many, more, rest_more ss i s within here)

  -- they are too many already
  pub counted_over : (most : ℕ) → most < len → (ss ≡ [] → ⊥) → most < front + length (subscripts_text ss)
  counted_over most over some = omega (arith, inv, over, rest_some (drop i ss), subscripts_length ss some)

  -- all were counted
  pub counted_all : length ss ≤ i → (ss ≡ [] → ⊥) → len ≡ front + length (subscripts_text ss)
  counted_all past some =
      let last : length (rest_text (drop i ss)) ≡ 1 = ap (λ l. length (rest_text l)) (drop_all i ss past) in
      omega (arith, inv, last, subscripts_length ss some)

pub counted_none : (front : ℕ) (ss : List (List ℕ)) → ss ≡ [] → front ≡ front + length (subscripts_text ss)
counted_none front ss none = let no : length (subscripts_text ss) ≡ 0 = ap (λ l. length (subscripts_text l)) none in omega (arith, no)

-- the bytes of a name text are those of the word and those of the subscripts
pub name_length : (n : Name) → length (name_text n) ≡ length (word_text n.global n.word) + length (subscripts_text n.subscripts)
name_length n = length-append (word_text n.global n.word) (subscripts_text n.subscripts)

-- a subscript in quotes
pub quoted_length : (s : List ℕ) → is_canonic s ≡ false → length (subscript_text s) ≡ length (doubled s) + 2
quoted_length s plain =
    let quotes = length-append (doubled s) (34 ∷ []) in
    let long : length (34 ∷ (doubled s ++ 34 ∷ [])) ≡ length (doubled s) + 2 = omega (arith, quotes) in
    ap (λ b. length (cond b s (34 ∷ (doubled s ++ 34 ∷ [])))) plain ∙ long

-- a byte more, which counts twice where it is a quote
pub doubled_at : (b : Bool) (c : ℕ) (cs : List ℕ) → length (cond b (34 ∷ 34 ∷ cs) (c ∷ cs)) ≡ cond b 2 1 + length cs
doubled_at true c cs = omega arith
doubled_at false c cs = omega arith
