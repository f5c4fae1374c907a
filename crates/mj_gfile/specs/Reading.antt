-- The fields of a listing: what stands at the front of some bytes, and what follows it, by one pass. Nothing is said here of limits.
use Rattle.std.specs.Prelude.{ℕ, zero, suc, ◌+◌, ◌-◌, ◌*◌, Bool, true, false, not, ◌&&◌, ◌||◌, ◌==◌, nat_lt, nat_le, if◌then◌else◌, List, [], ◌∷◌, length, Option, None, Some}
use Rattle.std.specs.Char.{is_ascii_digit, is_ascii_alphanumeric}
use Rattle.mj_num.specs.Number.{is_canonic}
use Rattle.mj_subs.specs.Name.{Name}
use Rattle.mj_gfile.specs.Spelling.{is_shown, is_any_word}

-- ---- runs of bytes

-- the bytes at the front that pass a test
abbrev pub front_by : (ℕ → Bool) → List ℕ → List ℕ
front_by p [] = []
front_by p (c ∷ cs) = if p c then c ∷ front_by p cs else []

-- what follows them
abbrev pub rest_by : (ℕ → Bool) → List ℕ → List ℕ
rest_by p [] = []
rest_by p (c ∷ cs) = if p c then rest_by p cs else c ∷ cs

-- ---- texts in listing quotes

-- a hexadecimal digit, in lower case
abbrev pub is_digit_byte : ℕ → Bool
is_digit_byte c = is_ascii_digit c || (nat_le 97 c && nat_le c 102)

-- its value
abbrev pub digit_value : ℕ → ℕ
digit_value c = if nat_lt c 58 then c - 48 else c - 87

-- where a reading stands in listing quotes: behind a whole byte, a `"`, a `\`, or a `\` and a digit
pub data Place : Type 0 where
  Whole : Place
  Quote : Place
  Slash : Place
  Digit : ℕ → Place

-- one more byte before what was read
abbrev pub preceded : ℕ → Option (List ℕ × List ℕ) → Option (List ℕ × List ℕ)
preceded c None = None
preceded c (Some p) = Some (c ∷ p.0, p.1)

-- a byte that was spelled by its digits, before what was read: it must be one without a sign
abbrev pub unshown : ℕ → Option (List ℕ × List ℕ) → Option (List ℕ × List ℕ)
unshown c o = if is_shown c then None else preceded c o

-- the text up to the closing quote, and what follows that
abbrev pub quoted_at : Place → List ℕ → Option (List ℕ × List ℕ)
quoted_at Whole [] = None
quoted_at Quote [] = Some ([], [])
quoted_at Slash [] = None
quoted_at (Digit h) [] = None
quoted_at Whole (c ∷ cs) =
    if c == 34 then quoted_at Quote cs
    else (if c == 92 then quoted_at Slash cs else (if is_shown c then preceded c (quoted_at Whole cs) else None))
quoted_at Quote (c ∷ cs) = if c == 34 then preceded 34 (quoted_at Whole cs) else Some ([], c ∷ cs)
quoted_at Slash (c ∷ cs) =
    if c == 92 then preceded 92 (quoted_at Whole cs) else (if is_digit_byte c then quoted_at (Digit c) cs else None)
quoted_at (Digit h) (c ∷ cs) =
    if is_digit_byte c then unshown (16 * digit_value h + digit_value c) (quoted_at Whole cs) else None

-- the text in listing quotes at the front, and what follows it
abbrev pub text_at : List ℕ → Option (List ℕ × List ℕ)
text_at [] = None
text_at (c ∷ cs) = if c == 34 then quoted_at Whole cs else None

-- ---- subscripts

-- a byte of a canonic number
abbrev pub is_number_byte : ℕ → Bool
is_number_byte c = is_ascii_digit c || c == 45

-- a subscript that is spelled in listing quotes: neither empty nor canonic
abbrev pub is_plain : List ℕ → Bool
is_plain [] = false
is_plain (c ∷ cs) = not (is_canonic (c ∷ cs))

-- what was read in listing quotes, where it is spelled so
abbrev pub plain_only : Option (List ℕ × List ℕ) → Option (List ℕ × List ℕ)
plain_only None = None
plain_only (Some p) = if is_plain p.0 then Some p else None

-- the canonic number at the front, and what follows it
abbrev pub number_at : List ℕ → Option (List ℕ × List ℕ)
number_at bs = if is_canonic (front_by is_number_byte bs) then Some (front_by is_number_byte bs, rest_by is_number_byte bs) else None

-- the subscript at the front, and what follows it
abbrev pub subscript_at : List ℕ → Option (List ℕ × List ℕ)
subscript_at [] = None
subscript_at (c ∷ cs) = if c == 34 then plain_only (quoted_at Whole cs) else number_at (c ∷ cs)

-- the mark at the front, and what follows it: true for a comma, behind which more of a list follow, and false for the parenthesis that
-- closes the list
abbrev pub mark_at : List ℕ → Option (Bool × List ℕ)
mark_at [] = None
mark_at (c ∷ cs) = if c == 44 then Some (true, cs) else (if c == 41 then Some (false, cs) else None)

-- the subscript s with its mark
abbrev pub marked : List ℕ → Option (Bool × List ℕ) → Option (List ℕ × Bool × List ℕ)
marked s None = None
marked s (Some m) = Some (s, m.0, m.1)

abbrev pub with_mark : Option (List ℕ × List ℕ) → Option (List ℕ × Bool × List ℕ)
with_mark None = None
with_mark (Some p) = marked p.0 (mark_at p.1)

-- the subscript at the front, whether more of the list follow, and what follows its comma or parenthesis
abbrev pub item_at : List ℕ → Option (List ℕ × Bool × List ℕ)
item_at bs = with_mark (subscript_at bs)

-- one more subscript before those that were read
abbrev pub listed : List ℕ → Option (List (List ℕ) × List ℕ) → Option (List (List ℕ) × List ℕ)
listed s None = None
listed s (Some p) = Some (s ∷ p.0, p.1)

-- the subscripts from s on, where s is the last or more of them follow
abbrev pub continued : (List ℕ → Option (List (List ℕ) × List ℕ)) → List ℕ → Bool → List ℕ → Option (List (List ℕ) × List ℕ)
continued more s false cs = Some (s ∷ [], cs)
continued more s true cs = listed s (more cs)

abbrev pub continued_by : (List ℕ → Option (List (List ℕ) × List ℕ)) → Option (List ℕ × Bool × List ℕ) → Option (List (List ℕ) × List ℕ)
continued_by more None = None
continued_by more (Some p) = continued more p.0 p.1 p.2

-- the subscripts up to `)`, of which there are one to k, and what follows that
unfoldable pub subscripts_of : ℕ → List ℕ → Option (List (List ℕ) × List ℕ)
subscripts_of zero bs = None
subscripts_of (suc k) bs = continued_by (subscripts_of k) (item_at bs)

-- the subscripts up to `)`, of which there are no more than bytes, and what follows that
abbrev pub subscripts_at : List ℕ → Option (List (List ℕ) × List ℕ)
subscripts_at bs = subscripts_of (length bs) bs

-- ---- names

-- a byte of a word
abbrev pub is_word_byte : ℕ → Bool
is_word_byte c = is_ascii_alphanumeric c || c == 37

-- the name of this kind and word, where its subscripts are read
abbrev pub named : Bool → List ℕ → Option (List (List ℕ) × List ℕ) → Option (Name × List ℕ)
named g w None = None
named g w (Some p) = Some (record { global = g; word = w; subscripts = p.0 }, p.1)

-- the name of this kind and word, where the bytes that follow the word are given
abbrev pub name_with : Bool → List ℕ → List ℕ → Option (Name × List ℕ)
name_with g w [] = named g w (Some ([], []))
name_with g w (c ∷ cs) = if c == 40 then named g w (subscripts_at cs) else named g w (Some ([], c ∷ cs))

-- the name of this kind at the front
abbrev pub name_in : Bool → List ℕ → Option (Name × List ℕ)
name_in g bs = if is_any_word (front_by is_word_byte bs) then name_with g (front_by is_word_byte bs) (rest_by is_word_byte bs) else None

-- the name at the front, and what follows it
abbrev pub name_at : List ℕ → Option (Name × List ℕ)
name_at [] = None
name_at (c ∷ cs) = if c == 94 then name_in true cs else name_in false (c ∷ cs)

-- ---- lines

-- the text t, where nothing follows it
abbrev pub whole : List ℕ → List ℕ → Option (List ℕ)
whole t [] = Some t
whole t (c ∷ cs) = None

abbrev pub whole_only : Option (List ℕ × List ℕ) → Option (List ℕ)
whole_only None = None
whole_only (Some p) = whole p.0 p.1

-- what follows the byte b at the front
abbrev pub past_byte : ℕ → List ℕ → Option (List ℕ)
past_byte b [] = None
past_byte b (c ∷ cs) = if c == b then Some cs else None

abbrev pub assigned : Option (List ℕ) → Option (List ℕ)
assigned None = None
assigned (Some cs) = whole_only (text_at cs)

-- the text in listing quotes that stands behind `=` and is followed by nothing, where the bytes behind a name are given
abbrev pub value_of : List ℕ → Option (List ℕ)
value_of bs = assigned (past_byte 61 bs)

-- the name n with its text
abbrev pub with_value : Name → Option (List ℕ) → Option (Name × List ℕ)
with_value n None = None
with_value n (Some t) = Some (n, t)

abbrev pub valued : Option (Name × List ℕ) → Option (Name × List ℕ)
valued None = None
valued (Some p) = with_value p.0 (value_of p.1)

abbrev pub globally : Option (List ℕ) → Option (Name × List ℕ)
globally None = None
globally (Some cs) = valued (name_in true cs)

-- the name of a global, which begins with `^`, and the text that a line spells, of any size. A line is given without the byte 10 that
-- ends it
abbrev pub line_of : List ℕ → Option (Name × List ℕ)
line_of bs = globally (past_byte 94 bs)
