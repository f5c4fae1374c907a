-- Name texts: which name a text spells, if any, by one pass over its bytes.
use Rattle.std.specs.Prelude.{◌↔◌, ◌≡◌, ℕ, zero, suc, Bool, true, false, not, ◌||◌, ◌==◌, if◌then◌else◌, List, [], ◌∷◌, Option, None, Some}
use Rattle.mj_num.specs.Number.{is_canonic}
use Rattle.mj_subs.specs.Name.{Name, is_word}
use Rattle.mj_nref.specs.Spelling.{name_text, IsFormed}
use Rattle.mj_subs.specs.declared.subs.TheConstants.{SUBSCRIPTS_LIMIT}

-- a byte at which a word or a bare subscript ends
abbrev pub is_mark : ℕ → Bool
is_mark c = c == 40 || c == 41 || c == 44

-- the bytes before the first mark
abbrev pub front_of : List ℕ → List ℕ
front_of [] = []
front_of (c ∷ cs) = if is_mark c then [] else c ∷ front_of cs

-- the bytes from the first mark on
abbrev pub rest_of : List ℕ → List ℕ
rest_of [] = []
rest_of (c ∷ cs) = if is_mark c then c ∷ cs else rest_of cs

-- one more byte before what was read
abbrev pub preceded : ℕ → Option (List ℕ × List ℕ) → Option (List ℕ × List ℕ)
preceded c None = None
preceded c (Some p) = Some (c ∷ p.0, p.1)

-- the text up to the closing quote, and what follows that; it is told whether a quote was read directly before
abbrev pub quoted_at : Bool → List ℕ → Option (List ℕ × List ℕ)
quoted_at false [] = None
quoted_at true [] = Some ([], [])
quoted_at false (c ∷ cs) = if c == 34 then quoted_at true cs else preceded c (quoted_at false cs)
quoted_at true (c ∷ cs) = if c == 34 then preceded 34 (quoted_at false cs) else Some ([], c ∷ cs)

-- a text that is spelled in quotes: neither empty nor canonic
abbrev pub is_plain : List ℕ → Bool
is_plain [] = false
is_plain (c ∷ cs) = not (is_canonic (c ∷ cs))

-- what was read in quotes, where it is spelled so
abbrev pub plain_only : Option (List ℕ × List ℕ) → Option (List ℕ × List ℕ)
plain_only None = None
plain_only (Some p) = if is_plain p.0 then Some p else None

-- the subscript at the front, and what follows it
abbrev pub subscript_of : List ℕ → Option (List ℕ × List ℕ)
subscript_of [] = None
subscript_of (c ∷ cs) =
    if c == 34 then plain_only (quoted_at false cs)
    else (if is_canonic (front_of (c ∷ cs)) then Some (front_of (c ∷ cs), rest_of (c ∷ cs)) else None)

-- the subscript s, where the bytes behind its `)` are given: there may be none
abbrev pub closed : List ℕ → List ℕ → Option (List ℕ × Option (List ℕ))
closed s [] = Some (s, None)
closed s (c ∷ cs) = None

-- the subscript s, where the bytes that follow it are given: a comma and more of the list, or `)` and no more
abbrev pub marked : List ℕ → List ℕ → Option (List ℕ × Option (List ℕ))
marked s [] = None
marked s (c ∷ cs) = if c == 44 then Some (s, Some cs) else (if c == 41 then closed s cs else None)

abbrev pub with_mark : Option (List ℕ × List ℕ) → Option (List ℕ × Option (List ℕ))
with_mark None = None
with_mark (Some p) = marked p.0 p.1

-- the subscript at the front, with what follows its comma, or none where it is the last
abbrev pub item_of : List ℕ → Option (List ℕ × Option (List ℕ))
item_of bs = with_mark (subscript_of bs)

-- one more subscript before those that were read
abbrev pub listed : List ℕ → Option (List (List ℕ)) → Option (List (List ℕ))
listed s None = None
listed s (Some ss) = Some (s ∷ ss)

-- the subscripts from s on, where s is the last or more of them follow
abbrev pub continued : (List ℕ → Option (List (List ℕ))) → List ℕ → Option (List ℕ) → Option (List (List ℕ))
continued more s None = Some (s ∷ [])
continued more s (Some cs) = listed s (more cs)

abbrev pub continued_by : (List ℕ → Option (List (List ℕ))) → Option (List ℕ × Option (List ℕ)) → Option (List (List ℕ))
continued_by more None = None
continued_by more (Some p) = continued more p.0 p.1

-- the subscripts up to `)`, of which there are one to k, and which end the text
unfoldable pub subscripts_of : ℕ → List ℕ → Option (List (List ℕ))
subscripts_of zero bs = None
subscripts_of (suc k) bs = continued_by (subscripts_of k) (item_of bs)

-- the name of this kind and word with the subscripts that were read
abbrev pub named : Bool → List ℕ → Option (List (List ℕ)) → Option Name
named g w None = None
named g w (Some ss) = Some (record { global = g; word = w; subscripts = ss })

-- the name of this kind and word, where the bytes that follow the word are given
abbrev pub name_with : Bool → List ℕ → List ℕ → Option Name
name_with g w [] = named g w (Some [])
name_with g w (c ∷ cs) = if c == 40 then named g w (subscripts_of SUBSCRIPTS_LIMIT cs) else None

-- the name of this kind that the bytes spell
abbrev pub name_in : Bool → List ℕ → Option Name
name_in g bs = if is_word (front_of bs) then name_with g (front_of bs) (rest_of bs) else None

-- the name that the bytes spell
abbrev pub name_of : List ℕ → Option Name
name_of [] = None
name_of (c ∷ cs) = if c == 94 then name_in true cs else name_in false (c ∷ cs)

-- r is the name that the bytes spell: it is some name exactly where the bytes are the name text of that name, which is formed
pub record IsReading (bs : List ℕ) (r : Option Name) : Type 0 where
  pub spells : (n : Name) → (r ≡ Some n) ↔ ((bs ≡ name_text n) × IsFormed n)
