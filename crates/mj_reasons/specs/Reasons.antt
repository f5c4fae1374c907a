-- What is told of which refusal (this profile): the file, the line, where it can't go on, and what is wanted there.
use Rattle.std.specs.Prelude.{ℕ, suc, ◌+◌, ◌-◌, ◌^◌, ◌==◌, min, nat_lt, Bool, true, false, not, ◌&&◌, ◌||◌, if◌then◌else◌, List, [], ◌∷◌, ◌++◌}
use Rattle.std.specs.Prelude.{length, take_while, slice_get, Option, Some, None, decimal, codes}
use Rattle.std.specs.Str.{bytes_eq}
use Rattle.mj_gfile.specs.declared.error.ReadError.{ReadError}
use Rattle.mj_gfile.specs.declared.error.ReadError.TheVariants as listings
use Rattle.mj_trace.specs.declared.refusal.TraceError.{TraceError}
use Rattle.mj_trace.specs.declared.refusal.TraceError.TheVariants as traces
use Rattle.mj_steps.specs.declared.file.StepsError.{StepsError}
use Rattle.mj_steps.specs.declared.file.StepsError.TheVariants as steps
use Rattle.mj_hints.specs.Refusals.{line_at}
use Rattle.mj_hints.specs.Shown.{caret_front, source_line, start_of}
use Rattle.mj_reasons.specs.Parts.{reached, is_whole}
use Rattle.mj_reasons.specs.Fields.{begins_run, field_wanted}
use Rattle.mj_reasons.specs.Words.{said_text}
use Rattle.mj_reasons.specs.declared.part.Part.{Part}
use Rattle.mj_reasons.specs.declared.part.Part.TheVariants as part
use Rattle.mj_reasons.specs.declared.words.Said.{Said}
use Rattle.mj_reasons.specs.declared.words.Said.TheVariants as said
use Rattle.mj_reasons.specs.declared.reason.Reason.{Reason}

-- ---- reasons

-- what is told of a whole line
abbrev pub plain : Said → Reason
plain s = record { at = None; said = s }

-- what is told behind so many bytes of a line
abbrev pub told_at : ℕ → Said → Reason
told_at at s = record { at = Some at; said = s }

-- of a line that is one but for its end
abbrev pub at_end : List ℕ → Reason
at_end line = told_at (length line) said.Ends

-- how many bytes 10 there are
abbrev pub newlines : List ℕ → ℕ
newlines [] = 0
newlines (b ∷ bs) = if b == 10 then suc (newlines bs) else newlines bs

-- no byte 10 ends the line of this number
abbrev pub is_unended : List ℕ → ℕ → Bool
is_unended text number = nat_lt (newlines text) number

-- a byte 10 comes first
abbrev pub begins_newline : List ℕ → Bool
begins_newline [] = false
begins_newline (b ∷ bs) = b == 10

-- a byte 13 stands before the byte 10 that ends the line at this place, which counts from 0
abbrev pub returns_at : ℕ → List ℕ → Bool
returns_at place [] = false
returns_at place (b ∷ bs) =
    if b == 10 then (if place == 0 then false else returns_at (place - 1) bs)
    else if place == 0 && b == 13 && begins_newline bs then true
    else returns_at place bs

-- and so of the line of this number
abbrev pub is_returned : List ℕ → ℕ → Bool
is_returned text number = returns_at (number - 1) text

-- ---- listings

-- the first line isn't a header, or isn't ended as one
abbrev pub listing_header : List ℕ → Reason
listing_header line = if bytes_eq line (codes "mj-globals 2") || bytes_eq line (codes "mj-globals 1") then at_end line else plain said.Listing

-- a line that is read up to a byte, and stands at a part that wants another there; or one that is read whole
abbrev pub read_part : List ℕ → ℕ × Part → Reason → Reason
read_part line x whole = if nat_lt x.0 (length line) || not (is_whole x.1) then told_at x.0 (said.Wanted x.1) else whole

-- a line that isn't a node's
abbrev pub node_reason : List ℕ → ℕ → List ℕ → Reason
node_reason text number line = read_part line (reached part.Caret line) (if is_unended text number then at_end line else plain said.Node)

abbrev pub is_in_word : ℕ → Bool
is_in_word b = not (b == 40) && not (b == 61)

-- how many bytes stand before the subscripts and the value
abbrev pub word_end : List ℕ → ℕ
word_end line = length (take_while is_in_word line)

-- a line over a limit: its word has more than 31 bytes, or it is another
abbrev pub over_limit : List ℕ → Reason
over_limit line = if nat_lt 32 (word_end line) then told_at 32 said.LongWord else plain said.LongNode

-- ---- files of steps

abbrev pub steps_reason : List ℕ → Reason
steps_reason line = read_part line (reached part.Job line) (told_at (length line) said.Returned)

-- ---- traces

abbrev pub trace_header : List ℕ → Reason
trace_header line = if bytes_eq line (codes "mj-trace 2") || bytes_eq line (codes "mj-trace 1") then at_end line else plain said.Trace

-- events have places
abbrev pub has_places : List ℕ → Bool
has_places text = bytes_eq (line_at 0 text) (codes "mj-trace 2")

-- by the fields of a line, unless it is an event's and no start stands before it
abbrev pub fields_reason : List ℕ → ℕ → ℕ × Said → Reason
fields_reason text number x = if nat_lt 0 x.0 && not (begins_run (line_at (number - 2) text)) then told_at 0 said.Start else told_at x.0 x.1

-- the second line of today's form: one of a limit but for its end, or none
abbrev pub limit_reason : List ℕ → Reason
limit_reason line = if bytes_eq line (codes "limit 1048576") || bytes_eq line (codes "limit 32767") then at_end line else told_at 0 said.Limit

-- a line that no byte 10 ends. Where there is none, behind the last, the first start is missing
abbrev pub unended_reason : List ℕ → Reason
unended_reason line = if length line == 0 then told_at 0 said.Start else at_end line

-- a line that isn't one of a trace: the second of today's form, one without its end, one with a byte 13 before that, or another
abbrev pub trace_reason : List ℕ → ℕ → List ℕ → Reason
trace_reason text number line =
    if has_places text && number == 2 then limit_reason line
    else if is_unended text number then unended_reason line
    else if not (length line == 0) && is_returned text number then at_end line
    else fields_reason text number (field_wanted (has_places text) line)

-- ---- what is told

-- the file, and the number of the line
abbrev pub file_line : List ℕ → ℕ → List ℕ
file_line file number = codes "    " ++ file ++ codes ", line " ++ decimal number ++ codes ":" ++ 10 ∷ []

-- a byte, or its number where it can't be shown
abbrev pub byte_text : ℕ → List ℕ
byte_text b = if b == 32 then codes "a blank" else if nat_lt 32 b && nat_lt b 127 then b ∷ [] else codes "byte " ++ decimal b

-- what stands there
abbrev pub there_text : Option ℕ → List ℕ
there_text None = codes "the line's end"
there_text (Some b) = byte_text b

-- the line, and what is said of it as a whole
abbrev pub whole_lines : List ℕ → Said → List ℕ
whole_lines line s = source_line 0 line ++ codes "    " ++ said_text s ++ 10 ∷ []

-- the caret under a column, and what stands there
abbrev pub mark : List ℕ → ℕ → Option ℕ → List ℕ
mark line column there = caret_front (start_of column) column line ++ codes "^ " ++ there_text there

-- what is said behind that
abbrev pub said_behind : Said → List ℕ
said_behind s = codes ": " ++ said_text s ++ 10 ∷ []

-- the line, and below it the caret under this column, what stands there, and what is said
abbrev pub caret_at : List ℕ → ℕ → Option ℕ → Said → List ℕ
caret_at line column there s = source_line (start_of column) line ++ mark line column there ++ said_behind s

-- and so behind so many bytes of the line

abbrev pub caret_lines : List ℕ → ℕ → Said → List ℕ
caret_lines line at s = caret_at line (min (at + 1) (2 ^ 64 - 1)) (slice_get line at) s

abbrev pub reason_lines : List ℕ → Reason → List ℕ
reason_lines line r = elim r.at [ None ↦ whole_lines line r.said | Some at ↦ caret_lines line at r.said ]

-- what is told of the line of this number
abbrev pub line_told : List ℕ → ℕ → List ℕ → Reason → List ℕ
line_told file number line r = file_line file number ++ reason_lines line r

-- the line of this number, which counts from 1
abbrev pub line_of : ℕ → List ℕ → List ℕ
line_of number text = line_at (number - 1) text

-- of a listing of globals: what is told of each code
abbrev pub listing_told : List ℕ → List ℕ → ReadError → List ℕ
listing_told file text listings.Header = line_told file 1 (line_of 1 text) (listing_header (line_of 1 text))
listing_told file text (listings.Line n) = line_told file n (line_of n text) (node_reason text n (line_of n text))
listing_told file text (listings.Order n) = line_told file n (line_of n text) (plain said.Rises)
listing_told file text (listings.Limit n) = line_told file n (line_of n text) (over_limit (line_of n text))
listing_told file text listings.Memory = []

-- of a trace
abbrev pub trace_told : List ℕ → List ℕ → TraceError → List ℕ
trace_told file text traces.Header = line_told file 1 (line_of 1 text) (trace_header (line_of 1 text))
trace_told file text (traces.Line n) = line_told file n (line_of n text) (trace_reason text n (line_of n text))
trace_told file text (traces.Long n) = line_told file n (line_of n text) (plain said.Many)
trace_told file text traces.Memory = []

-- of a file of steps
abbrev pub steps_told : List ℕ → List ℕ → StepsError → List ℕ
steps_told file text (steps.Line n) = line_told file n (line_of n text) (steps_reason (line_of n text))
steps_told file text steps.Memory = []
