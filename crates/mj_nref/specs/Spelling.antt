-- Name texts: how a name is spelled. `"` is byte 34, `(` is 40, `)` is 41, `,` is 44, and `^` is 94.
use Rattle.std.specs.Prelude.{◌≡◌, ℕ, ◌≤◌, Bool, true, false, ◌==◌, if◌then◌else◌, List, [], ◌∷◌, ◌++◌, length, ℤ, pos, negsuc, zero, suc, slice_index_or}
use Rattle.std.specs.List.{list_all}
use Rattle.mj_num.specs.Number.{is_canonic}
use Rattle.mj_subs.specs.Name.{Name, is_word}
use Rattle.mj_subs.specs.declared.subs.TheConstants.{SUBSCRIPTS_LIMIT}

-- a text in which each `"` is doubled
abbrev pub doubled : List ℕ → List ℕ
doubled [] = []
doubled (c ∷ cs) = if c == 34 then 34 ∷ 34 ∷ doubled cs else c ∷ doubled cs

-- a subscript in a name text: a canonic number bare, any other text in quotes
abbrev pub subscript_text : List ℕ → List ℕ
subscript_text s = if is_canonic s then s else 34 ∷ (doubled s ++ 34 ∷ [])

-- the subscripts behind the first, each after a comma, and the closing parenthesis
abbrev pub rest_text : List (List ℕ) → List ℕ
rest_text [] = 41 ∷ []
rest_text (s ∷ ss) = 44 ∷ (subscript_text s ++ rest_text ss)

-- a list of subscripts in a name text: in parentheses, and nothing for none
abbrev pub subscripts_text : List (List ℕ) → List ℕ
subscripts_text [] = []
subscripts_text (s ∷ ss) = 40 ∷ (subscript_text s ++ rest_text ss)

-- a word in a name text: a global's with a `^` before it
abbrev pub word_text : Bool → List ℕ → List ℕ
word_text true w = 94 ∷ w
word_text false w = w

-- the name text of a name (this profile; ISO/IEC 11756:1999, 7.1.5, the values of $NAME and $QUERY)
abbrev pub name_text : Name → List ℕ
name_text n = word_text n.global n.word ++ subscripts_text n.subscripts

-- the subscript has a byte
abbrev pub is_filled : List ℕ → Bool
is_filled [] = false
is_filled (c ∷ cs) = true

-- a name that has a name text: its word is one, and it has at most `SUBSCRIPTS_LIMIT` subscripts, none of them empty
pub record IsFormed (n : Name) : Type 0 where
  pub word : is_word n.word ≡ true
  pub few : length n.subscripts ≤ SUBSCRIPTS_LIMIT
  pub filled : list_all is_filled n.subscripts ≡ true

-- $QSUBSCRIPT of a name: its word for 0, its k-th subscript for k from 1, and else the empty text
abbrev pub part_at : Name → ℤ → List ℕ
part_at n (pos zero) = word_text n.global n.word
part_at n (pos (suc k)) = slice_index_or n.subscripts k []
part_at n (negsuc k) = []
