-- Names of variables and of their nodes: which is above which, and which overlap.
use Rattle.std.specs.Prelude.{◌≡◌, ℕ, Bool, true, false, ◌&&◌, ◌||◌, ◌⊎◌, List, [], ◌∷◌, ◌==◌, length, nat_lt, ⊤}
use Rattle.std.specs.Char.{is_ascii_alphabetic, is_ascii_alphanumeric}
use Rattle.std.specs.List.{list_all}
use Rattle.std.specs.Str.{bytes_eq}
use Rattle.std.specs.Cmp.Lexicographic.{pointwise}
use Rattle.mj_subs.specs.declared.word.TheConstants.{WORD_LIMIT}

-- a name: global (written with a `^`) or local, its word, and its subscripts (ISO/IEC 11756:1999, 7.1.2: glvn)
pub record Name : Type 0 where
  pub global : Bool
  pub word : List ℕ
  pub subscripts : List (List ℕ)

-- a word (7.1.2: name): a letter or `%`, then letters and digits, of 1 to `WORD_LIMIT` bytes (this profile)
abbrev pub is_word : List ℕ → Bool
is_word [] = false
is_word (c ∷ cs) = (is_ascii_alphabetic c || c == 37) && list_all is_ascii_alphanumeric cs && nat_lt (length cs) WORD_LIMIT

-- the first list of subscripts is a proper front of the second
abbrev pub IsProperFront : List (List ℕ) → List (List ℕ) → Type 0
IsProperFront ss [] = ⊥
IsProperFront [] (t ∷ ts) = ⊤
IsProperFront (s ∷ ss) (t ∷ ts) = (s ≡ t) × IsProperFront ss ts

-- m is above n: of one kind and word, with a list of subscripts that is a proper front of n's
pub record IsAbove (m n : Name) : Type 0 where
  pub same_kind : m.global ≡ n.global
  pub same_word : m.word ≡ n.word
  pub front : IsProperFront m.subscripts n.subscripts

-- m and n overlap: they are equal, or one is above the other
abbrev pub Overlaps : Name → Name → Type 0
Overlaps m n = (m ≡ n) ⊎ (IsAbove m n ⊎ IsAbove n m)

-- the test of `IsProperFront`
abbrev pub is_proper_front : List (List ℕ) → List (List ℕ) → Bool
is_proper_front ss [] = false
is_proper_front [] (t ∷ ts) = true
is_proper_front (s ∷ ss) (t ∷ ts) = bytes_eq s t && is_proper_front ss ts

-- the test of lists that agree as far as both go: they are equal, or one is a proper front of the other
abbrev pub are_in_line : List (List ℕ) → List (List ℕ) → Bool
are_in_line [] ts = true
are_in_line (s ∷ ss) [] = true
are_in_line (s ∷ ss) (t ∷ ts) = bytes_eq s t && are_in_line ss ts

-- the test of equal kinds
abbrev pub kinds_eq : Bool → Bool → Bool
kinds_eq true b = b
kinds_eq false true = false
kinds_eq false false = true

-- the test of equal names
abbrev pub names_eq : Name → Name → Bool
names_eq m n = kinds_eq m.global n.global && bytes_eq m.word n.word && pointwise bytes_eq m.subscripts n.subscripts

-- the test of `IsAbove`
abbrev pub is_above : Name → Name → Bool
is_above m n = kinds_eq m.global n.global && bytes_eq m.word n.word && is_proper_front m.subscripts n.subscripts

-- the test of `Overlaps`
abbrev pub overlaps : Name → Name → Bool
overlaps m n = kinds_eq m.global n.global && bytes_eq m.word n.word && are_in_line m.subscripts n.subscripts
