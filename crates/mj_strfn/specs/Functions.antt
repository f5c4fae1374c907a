-- What each string function gives: a text, seen as the list of its bytes, or the fault that stands in its place.
-- The arguments are texts; those that stand for numbers are read here, from left to right, before anything else is looked at.
-- ISO/IEC 11756:1999, 7.1.5 (functions) and 8.2.18 (SET); the limits, the faults and the edge cases are this profile's.
use Rattle.std.specs.Prelude.{◌≡◌, ℕ, zero, suc, ◌+◌, ◌-◌, ◌==◌, max, nat_lt, Bool, true, ◌||◌, List, [], ◌∷◌, ◌++◌, length, take, drop, reverse, replicate, ℤ, pos, negsuc, int_lt, Option, Some, None, Result, Ok, Err, ⊤, if◌then◌else◌}
use Rattle.std.specs.List.{flat_map}
use Rattle.mj_text.specs.Limit.{within_limit}
use Rattle.mj_text.specs.declared.limit.Limit.{Limit}
use Rattle.mj_text.specs.declared.fault.Fault.{Fault}
use Rattle.mj_text.specs.declared.fault.Fault.TheVariants.{Char}
use Rattle.mj_text.specs.declared.fault.Failure.{Failure}
use Rattle.mj_text.specs.declared.fault.Failure.TheVariants.{Fault as FaultFailure, Memory}
use Rattle.mj_num.specs.Number.{reading, canonic_text}
use Rattle.mj_text.specs.Find.{find_from}
use Rattle.mj_text.specs.Failing.{then_value}
use Rattle.mj_strfn.specs.Pieces.{pieces, joined}

-- ---- numbers and places

-- an argument that stands for a number and may be left out
abbrev pub number_or : ℤ → Option (List ℕ) → Result ℤ Fault
number_or default None = Ok default
number_or default (Some t) = reading t

-- two arguments that stand for the first and the last place: the first is 1 where it is left out, the last is the first
abbrev pub from_to : Option (List ℕ) → Option (List ℕ) → Result (ℤ × ℤ) Fault
from_to a b = then_value (number_or (pos 1) a) (λ m. then_value (number_or m b) (λ n. Ok (m, n)))

-- a number as a place: what lies below 0 counts as 0, where nothing stands
abbrev pub place : ℤ → ℕ
place (pos n) = n
place (negsuc n) = 0

-- what stands at the places from a to b, the first place being 1
abbrev pub places : {A : Type 0} → ℤ → ℤ → List A → List A
places a b xs = let first = max 1 (place a) in take (place b + 1 - first) (drop (first - 1) xs)

-- what a call answers that may want memory before it finds a fault
abbrev pub AnswersOrMemory : Result (List ℕ) Fault → Result (List ℕ) Failure → Type 0
AnswersOrMemory value (Ok text) = value ≡ Ok text
AnswersOrMemory value (Err (FaultFailure fault)) = value ≡ Err fault
AnswersOrMemory value (Err Memory) = ⊤

-- a number as a text
abbrev pub number_text : ℕ → List ℕ
number_text n = canonic_text (pos n)

-- ---- $ASCII

-- the code of the byte at a place that counts from 0, -1 past the end
abbrev pub code_behind : ℕ → List ℕ → ℤ
code_behind n [] = negsuc 0
code_behind zero (x ∷ xs) = pos x
code_behind (suc n) (x ∷ xs) = code_behind n xs

-- the code of the byte at a place that counts from 1, -1 where none stands
abbrev pub code_at : ℤ → List ℕ → ℤ
code_at (negsuc n) s = negsuc 0
code_at (pos zero) s = negsuc 0
code_at (pos (suc n)) s = code_behind n s

-- `$ASCII(s,k)`; k is 1 where it is left out
abbrev pub ascii_value : List ℕ → Option (List ℕ) → Result (List ℕ) Fault
ascii_value s k = then_value (number_or (pos 1) k) (λ m. Ok (canonic_text (code_at m s)))

-- ---- $CHAR

-- the byte of a code, or none below 0; CHAR above 255
abbrev pub byte_of : ℤ → Result (List ℕ) Fault
byte_of (pos n) = if nat_lt n 256 then Ok (n ∷ []) else Err Char
byte_of (negsuc n) = Ok []

-- the byte of the code that a text reads as
abbrev pub byte_of_text : List ℕ → Result (List ℕ) Fault
byte_of_text t = then_value (reading t) byte_of

-- the bytes of the codes that the texts read as; each is read and looked at before the next
abbrev pub bytes_of_codes : List (List ℕ) → Result (List ℕ) Fault
bytes_of_codes [] = Ok []
bytes_of_codes (t ∷ ts) = then_value (byte_of_text t) (λ b. then_value (bytes_of_codes ts) (λ bs. Ok (b ++ bs)))

-- `$CHAR(n1,..)`
abbrev pub char_value : Limit → List (List ℕ) → Result (List ℕ) Fault
char_value limit ts = then_value (bytes_of_codes ts) (within_limit limit)

-- ---- $EXTRACT

-- `$EXTRACT(s,a,b)`: the bytes at the places from a to b
abbrev pub extract_value : List ℕ → Option (List ℕ) → Option (List ℕ) → Result (List ℕ) Fault
extract_value s a b = then_value (from_to a b) (λ r. Ok (places r.0 r.1 s))

-- ---- $FIND

-- the place behind a place that counts from 0 and the n bytes that stand there, which counts from 1; 0 for none
abbrev pub place_behind : ℕ → Option ℕ → ℕ
place_behind n None = 0
place_behind n (Some p) = p + n + 1

-- the place behind the first occurrence of t in s that begins at place k or later, 0 if there is none; k for an empty t
abbrev pub found_behind : List ℕ → List ℕ → ℕ → ℕ
found_behind s [] k = k
found_behind s (y ∷ t) k = place_behind (length (y ∷ t)) (find_from s (y ∷ t) (k - 1))

-- `$FIND(s,t,k)`; k is 1 where it is left out or lower
abbrev pub find_value : List ℕ → List ℕ → Option (List ℕ) → Result (List ℕ) Fault
find_value s t k = then_value (number_or (pos 1) k) (λ m. Ok (number_text (found_behind s t (max 1 (place m)))))

-- ---- $JUSTIFY

-- `$JUSTIFY(s,w)`: blanks before s up to w bytes
abbrev pub justify_value : Limit → List ℕ → List ℕ → Result (List ℕ) Fault
justify_value limit s w = then_value (reading w) (λ m. within_limit limit (replicate (place m - length s) 32 ++ s))

-- ---- $LENGTH

-- how many pieces a text has; none where the separator is empty
abbrev pub piece_count : List ℕ → List ℕ → ℕ
piece_count s [] = 0
piece_count s (x ∷ d) = length (pieces (x ∷ d) s)

-- `$LENGTH(s)` and `$LENGTH(s,d)`
abbrev pub length_value : List ℕ → Option (List ℕ) → List ℕ
length_value s None = number_text (length s)
length_value s (Some d) = number_text (piece_count s d)

-- ---- $PIECE

-- the pieces from a to b with the separator between them; nothing where the separator is empty
abbrev pub some_pieces : List ℕ → List ℕ → ℤ → ℤ → List ℕ
some_pieces s [] a b = []
some_pieces s (x ∷ d) a b = joined (x ∷ d) (places a b (pieces (x ∷ d) s))

-- `$PIECE(s,d,a,b)`
abbrev pub piece_value : List ℕ → List ℕ → Option (List ℕ) → Option (List ℕ) → Result (List ℕ) Fault
piece_value s d a b = then_value (from_to a b) (λ r. Ok (some_pieces s d r.0 r.1))

-- ---- SET of $PIECE

-- whether nothing is assigned: the separator is empty, the last piece lies below 1 or below the first
abbrev pub assigns_nothing : List ℕ → ℤ → ℤ → Bool
assigns_nothing [] a b = true
assigns_nothing (x ∷ d) a b = int_lt b (pos 1) || int_lt b a

-- the first and the last piece that `SET $PIECE(v,d,a,b)` assigns, from 1 on, if it assigns any
abbrev pub assigned_pieces : List ℕ → Option (List ℕ) → Option (List ℕ) → Result (Option (ℕ × ℕ)) Fault
assigned_pieces d a b =
    then_value (from_to a b) (λ r. Ok (if assigns_nothing d r.0 r.1 then None else Some (max 1 (place r.0), place r.1)))

-- the pieces, joined again, where those of a range give way to e
abbrev pub with_pieces : List ℕ → List ℕ → ℕ × ℕ → List ℕ → List ℕ
with_pieces old d range e =
    let ps = pieces d old in
    let before = range.0 - 1 in
    joined d (take before (ps ++ replicate before []) ++ e ∷ drop range.1 ps)

-- the new value where the pieces from `first` to `last` become e: the pieces before, with empty ones where there are too few,
-- then e, then the pieces after. By an empty separator there are no pieces to set: the value stays.
abbrev pub set_piece_value : Limit → List ℕ → List ℕ → ℕ × ℕ → List ℕ → Result (List ℕ) Fault
set_piece_value limit old [] range e = Ok old
set_piece_value limit old (x ∷ d) range e = within_limit limit (with_pieces old (x ∷ d) range e)

-- ---- $REVERSE

-- `$REVERSE(s)`
abbrev pub reverse_value : List ℕ → List ℕ
reverse_value s = reverse s

-- ---- $TRANSLATE

-- what becomes of byte c: the byte of b at the first place at which c stands in a, or nothing where b has none there; c itself
-- where it doesn't stand in a
abbrev pub becomes : List ℕ → List ℕ → ℕ → List ℕ
becomes [] b c = c ∷ []
becomes (x ∷ a) [] c = if x == c then [] else becomes a [] c
becomes (x ∷ a) (y ∷ b) c = if x == c then y ∷ [] else becomes a b c

-- `$TRANSLATE(s,a,b)`; b is empty where it is left out
abbrev pub translate_value : List ℕ → List ℕ → Option (List ℕ) → List ℕ
translate_value s a None = flat_map (becomes a []) s
translate_value s a (Some b) = flat_map (becomes a b) s
