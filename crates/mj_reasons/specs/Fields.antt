-- Where a line of a trace stops being one, by its fields (this profile): the number of a job, where it asked from, and the word of what it asked.
use Rattle.std.specs.Prelude.{ℕ, ◌+◌, ◌==◌, nat_lt, Bool, true, false, not, ◌&&◌, ◌||◌, if◌then◌else◌, List, [], ◌∷◌, length, take, take_while, drop, Option, Some, None, codes}
use Rattle.std.specs.List.{list_all}
use Rattle.std.specs.Cmp.Lexicographic.{slice_cmp}
use Rattle.std.specs.Ordering.{nat_cmp, is_le}
use Rattle.std.specs.Str.{bytes_eq}
use Rattle.mj_reasons.specs.Parts.{is_digit, is_letter}
use Rattle.mj_reasons.specs.declared.asks.Asked.{Asked}
use Rattle.mj_reasons.specs.declared.asks.Asked.TheVariants as asked
use Rattle.mj_reasons.specs.declared.words.Said.{Said}
use Rattle.mj_reasons.specs.declared.words.Said.TheVariants as said

-- ---- words

abbrev pub is_no_blank : ℕ → Bool
is_no_blank b = not (b == 32)

-- how many bytes stand before the first blank
abbrev pub word_length : List ℕ → ℕ
word_length line = length (take_while is_no_blank line)

-- the first byte may be the first of several digits
abbrev pub leads : List ℕ → Bool
leads [] = false
leads (b ∷ bs) = not (b == 48)

-- digits: fewer than those of 4294967295, or as many that don't come behind them
unfoldable pub is_small : List ℕ → Bool
is_small word = nat_lt (length word) 10 || (length word == 10 && is_le (slice_cmp nat_cmp word (codes "4294967295")))

-- a decimal number without leading zeros, at most 4294967295
unfoldable pub is_number : List ℕ → Bool
is_number word = bytes_eq word (codes "0") || (leads word && list_all is_digit word && is_small word)

abbrev pub is_no_colon : ℕ → Bool
is_no_colon b = not (b == 58)

abbrev pub is_word_byte : ℕ → Bool
is_word_byte b = is_letter b || is_digit b

-- the name of a routine: a letter or `%`, then letters and digits, at most 31 bytes
abbrev pub is_routine : List ℕ → Bool
is_routine [] = false
is_routine (b ∷ bs) = (is_letter b || b == 37) && list_all is_word_byte bs && nat_lt (length bs) 31

-- how many bytes stand before the first `:`
abbrev pub no_colons : List ℕ → ℕ
no_colons word = length (take_while is_no_colon word)

-- a routine, a `:` behind so many bytes, and a number
abbrev pub is_spot_at : ℕ → List ℕ → Bool
is_spot_at count word = nat_lt count (length word) && is_routine (take count word) && is_number (drop (count + 1) word)

abbrev pub is_spot : List ℕ → Bool
is_spot word = is_spot_at (no_colons word) word

-- where a job asked from
abbrev pub is_place : List ℕ → Bool
is_place word = bytes_eq word (codes "-") || is_spot word

-- ---- what is asked

-- what is asked by a word that names no question and no change of globals, and no lock
abbrev pub other_named : List ℕ → Option Asked
other_named word =
    if bytes_eq word (codes "unlock") then Some asked.Unlock
    else if bytes_eq word (codes "begin") then Some asked.Begin
    else if bytes_eq word (codes "commit") then Some asked.Commit
    else if bytes_eq word (codes "rollback") then Some asked.Rollback
    else if bytes_eq word (codes "open") then Some asked.Open
    else if bytes_eq word (codes "close") then Some asked.Close
    else if bytes_eq word (codes "start") then Some asked.Start
    else if bytes_eq word (codes "dev") then Some asked.Device
    else if bytes_eq word (codes "rest") then Some asked.Rest
    else if bytes_eq word (codes "halt") then Some asked.Halt
    else None

-- what is asked by a word
abbrev pub ask_named : List ℕ → Option Asked
ask_named word =
    if bytes_eq word (codes "value") then Some asked.Value
    else if bytes_eq word (codes "data") then Some asked.Data
    else if bytes_eq word (codes "order") then Some asked.Order
    else if bytes_eq word (codes "query") then Some asked.Query
    else if bytes_eq word (codes "subtree") then Some asked.Subtree
    else if bytes_eq word (codes "set") then Some asked.Set
    else if bytes_eq word (codes "kill") then Some asked.Kill
    else if bytes_eq word (codes "put") then Some asked.Put
    else if bytes_eq word (codes "try") then Some asked.Try
    else other_named word

-- ---- what is wanted

-- what is wanted of an ask: the form of what the word asks, or such a word
abbrev pub ask_said : Option Asked → Said
ask_said None = said.Asks
ask_said (Some a) = said.Ask a

-- the bytes behind the blank that ends a field there, up to the next blank
abbrev pub field_behind : List ℕ → ℕ → List ℕ
field_behind line end = take (word_length (drop (end + 1) line)) (drop (end + 1) line)

-- behind the place, or behind the number where events have none: how many bytes stand before the ask, and what is wanted there
abbrev pub ask_wanted : List ℕ → ℕ → ℕ × Said
ask_wanted line end = if end == length line then (end, said.Asks) else (end + 1, ask_said (ask_named (field_behind line end)))

-- behind the number of the job: the same of its place, and if that is one, of what is behind
abbrev pub place_wanted : List ℕ → ℕ → ℕ × Said
place_wanted line end =
    if end == length line then (end, said.Place)
    else if is_place (field_behind line end) then ask_wanted line (end + 1 + word_length (drop (end + 1) line))
    else (end + 1, said.Place)

-- the first word of a line
abbrev pub first_word : List ℕ → List ℕ
first_word line = take (word_length line) line

-- how many bytes of a line stand before what is wanted otherwise, and what is wanted there, in a form whose events have places or not
abbrev pub field_wanted : Bool → List ℕ → ℕ × Said
field_wanted placed line =
    if bytes_eq (first_word line) (codes "pool") then (0, said.Pool)
    else if bytes_eq (first_word line) (codes "start") then (0, said.Start)
    else if not (is_number (first_word line)) then (0, said.First)
    else if placed then place_wanted line (word_length line)
    else ask_wanted line (word_length line)

-- a line begins as one of a start or of an event does
abbrev pub begins_run : List ℕ → Bool
begins_run line = bytes_eq (first_word line) (codes "start") || is_number (first_word line)
