-- Traces as a whole: which trace some bytes are, and which refusal comes for bytes that are none.
use Rattle.std.specs.Prelude.{◌≡◌, ◌≤◌, ℕ, suc, ◌-◌, Bool, true, false, not, ◌&&◌, ◌==◌, nat_lt, if◌then◌else◌, List, [], ◌∷◌, ◌++◌, length, slice_get, Option, Some, None, Result, Ok, Err, codes}
use Rattle.std.specs.Option.{option_map}
use Rattle.std.specs.List.{list_all}
use Rattle.std.specs.Str.{bytes_eq}
use Rattle.std.specs.Cmp.Lexicographic.{slice_cmp}
use Rattle.std.specs.Ordering.{nat_cmp, is_lt}
use Rattle.mj_store.specs.Nodes.{is_empty}
use Rattle.mj_ask.specs.Written.{is_entry, entry_of}
use Rattle.mj_ask.specs.declared.ask.Ask.{Ask}
use Rattle.mj_ask.specs.declared.ask.Reply.{Reply}
use Rattle.mj_ask.specs.Formed.{is_ask, is_reply}
use Rattle.mj_ask.specs.Fits.{is_reply_to}
use Rattle.mj_ask.specs.Within.{is_ask_within, is_reply_within}
use Rattle.mj_ask.specs.declared.noted.Noted.{Noted}
use Rattle.mj_ask.specs.declared.noted.Spot.{Spot}
use Rattle.mj_subs.specs.Name.{is_word}
use Rattle.mj_text.specs.Limit.{is_within}
use Rattle.mj_text.specs.declared.limit.Limit.TheVariants.{V1, V2}
use Rattle.mj_gfile.specs.Listing.{lines_of}
use Rattle.mj_trace.specs.declared.piece.Piece.{Piece}
use Rattle.mj_trace.specs.declared.piece.Piece.TheVariants as pieces
use Rattle.mj_trace.specs.declared.refusal.TraceError.{TraceError}
use Rattle.mj_trace.specs.declared.refusal.TraceError.TheVariants as errors
use Rattle.mj_trace.specs.declared.run.Run.TheVariants as runs
use Rattle.mj_trace.specs.declared.form.Form.{Form}
use Rattle.mj_trace.specs.declared.form.Form.TheVariants.{First, Second}
use Rattle.mj_trace.specs.Spelling.{event_text}
use Rattle.mj_trace.specs.Trace.{Traced, header, limit_line, limit_of, pool_line, start_line}
use Rattle.mj_trace.specs.Reading.{onward, front, behind_bytes, skipped, count_in, text_in, spot_in, ask_in, reply_in}

-- ---- one line

-- the line in a form, without its byte 10
abbrev pub piece_text : Form → Piece → List ℕ
piece_text form (pieces.Device name count) = pool_line (name, count)
piece_text form (pieces.Start entry) = start_line entry
piece_text form (pieces.Event e) = event_text form e

-- what was asked and told can be written: the reply stands in the table behind the ask, whatever the ask's timeout
abbrev pub are_told : Ask → Reply → Bool
are_told ask reply = is_ask ask && is_reply reply && is_reply_to ask reply

-- where an ask came from can be written: nowhere in the older form, and in today's nowhere too, or a line of a routine whose name is a word
abbrev pub is_spot : Form → Option Spot → Bool
is_spot form None = true
is_spot First (Some s) = false
is_spot (Second limit) (Some s) = is_word s.routine

-- an event that can be written in a form, which has its limit for texts
abbrev pub is_event : Form → Noted → Bool
is_event form e = is_spot form e.spot && are_told e.ask e.reply && is_ask_within (limit_of form) e.ask && is_reply_within (limit_of form) e.reply

-- a line that can be written in a form
abbrev pub is_piece : Form → Piece → Bool
is_piece form (pieces.Device name count) = is_within (limit_of form) name
is_piece form (pieces.Start entry) = is_entry entry
is_piece form (pieces.Event e) = is_event form e

abbrev pub replied : Ask → List ℕ → Option (Ask × Reply)
replied ask rest = option_map (λ reply. (ask, reply)) (reply_in ask (skipped rest))

-- an ask and its reply
abbrev pub told_in : List ℕ → Option (Ask × Reply)
told_in bs = onward replied (ask_in bs)

-- what a job asked from a place, and what it was told
abbrev pub asked : ℕ → Option Spot → List ℕ → Option Piece
asked job spot rest = option_map (λ told. pieces.Event (record { job = job; spot = spot; ask = told.0; reply = told.1 })) (told_in (skipped rest))

-- what stands behind a job's number
abbrev pub placed : Form → ℕ → List ℕ → Option Piece
placed First job rest = asked job None rest
placed (Second limit) job rest = onward (asked job) (spot_in (skipped rest))

-- an event
abbrev pub event_in : Form → List ℕ → Option Piece
event_in form line = onward (placed form) (count_in line)

abbrev pub counted : List ℕ → List ℕ → Option Piece
counted name rest = option_map (λ p. pieces.Device name p.0) (count_in (skipped rest))

-- a device, behind its word
abbrev pub pooled : List ℕ → Option Piece
pooled bs = onward counted (text_in bs)

-- a start, behind its word
abbrev pub starting : List ℕ → Option Piece
starting bs = option_map pieces.Start (entry_of bs)

abbrev pub piece_with : Form → List ℕ → List ℕ → List ℕ → Option Piece
piece_with form line word rest =
    if bytes_eq word (codes "pool") then pooled (skipped rest)
    else (if bytes_eq word (codes "start") then starting (skipped rest) else event_in form line)

-- what a line may say
abbrev pub piece_in : Form → List ℕ → Option Piece
piece_in form line = piece_with form line (front runs.Letters line) (behind_bytes runs.Letters line)

-- what was found, where it is spelled so
abbrev pub respelled : Form → List ℕ → Option Piece → Option Piece
respelled form line None = None
respelled form line (Some p) = if is_piece form p && bytes_eq (piece_text form p) line then Some p else None

-- what a line says
abbrev pub piece_of : Form → List ℕ → Option Piece
piece_of form line = respelled form line (piece_in form line)

-- ---- one line behind others

-- the most starts, and the most events. A reader may take fewer events
abbrev pub starts_limit : ℕ
starts_limit = 255

abbrev pub events_limit : ℕ
events_limit = 4294967295

-- there are events, and no more than these may be there
abbrev pub is_full : ℕ → Traced → Bool
is_full most t = not (is_empty t.events) && (length t.events == most)

-- a name comes after another by its bytes
abbrev pub is_before : List ℕ → List ℕ → Bool
is_before a b = is_lt (slice_cmp nat_cmp a b)

-- a name stands behind that of a device, if there is one
abbrev pub stands_behind : Option (List ℕ × ℕ) → List ℕ → Bool
stands_behind None name = true
stands_behind (Some d) name = is_before d.0 name

-- the last device
abbrev pub last_device : List (List ℕ × ℕ) → Option (List ℕ × ℕ)
last_device ds = slice_get ds (length ds - 1)

-- the sessions of the principal device, which is called `0`
abbrev pub principal : List (List ℕ × ℕ) → ℕ
principal [] = 0
principal (d ∷ ds) = if bytes_eq d.0 (codes "0") then d.1 else principal ds

-- one more start: no more than there may be, and than the principal device has sessions
abbrev pub may_start : List (List ℕ × ℕ) → ℕ → Bool
may_start pool count = nat_lt count starts_limit && nat_lt count (principal pool)

-- a line may follow: devices come first, by their names, then the starts, of which there is one at least, then the events, where there may be so many
abbrev pub may_follow : ℕ → Traced → Piece → Bool
may_follow most t (pieces.Device name count) = is_empty t.starts && is_empty t.events && stands_behind (last_device t.pool) name
may_follow most t (pieces.Start entry) = is_empty t.events && may_start t.pool (length t.starts)
may_follow most t (pieces.Event e) = not (is_empty t.starts) && nat_lt (length t.events) most

-- the trace with one line more
abbrev pub with_piece : Traced → Piece → Traced
with_piece t (pieces.Device name count) = record t { pool = t.pool ++ (name, count) ∷ [] }
with_piece t (pieces.Start entry) = record t { starts = t.starts ++ entry ∷ [] }
with_piece t (pieces.Event e) = record t { events = t.events ++ e ∷ [] }

abbrev pub followed_by : ℕ → Traced → ℕ → Option Piece → Result Traced TraceError
followed_by most t k None = Err (errors.Line k)
followed_by most t k (Some p) = if may_follow most t p then Ok (with_piece t p) else Err (errors.Line k)

-- the trace with line k, which byte 10 ends, where there may be so many events. One more than that is too many, whatever it says
abbrev pub lined : ℕ → Traced → ℕ → List ℕ → Result Traced TraceError
lined most t k line = if is_full most t then Err (errors.Long k) else followed_by most t k (piece_of t.form line)

-- ---- all lines

-- why line k is refused that no byte 10 ends
abbrev pub unfinished : ℕ → Traced → ℕ → TraceError
unfinished most t k = if is_full most t then errors.Long k else errors.Line k

abbrev pub line_added : ℕ → Traced → ℕ → List ℕ × Bool → Result Traced TraceError
line_added most t k l = if l.1 then lined most t k l.0 else Err (unfinished most t k)

abbrev pub then_more : (Traced → Result Traced TraceError) → Result Traced TraceError → Result Traced TraceError
then_more more (Ok t) = more t
then_more more (Err e) = Err e

-- the trace with the lines from k on: the first that is refused decides. Where no start stood, it is missing at the end
abbrev pub lines_from : ℕ → Traced → ℕ → List (List ℕ × Bool) → Result Traced TraceError
lines_from most t k [] = if is_empty t.starts then Err (errors.Line k) else Ok t
lines_from most t k (l ∷ ls) = then_more (λ u. lines_from most u (suc k) ls) (line_added most t k l)

abbrev pub no_lines : Form → Traced
no_lines form = record { form = form; pool = []; starts = []; events = [] }

-- the lines behind the header of today's form: the first is that of a limit
abbrev pub limited : ℕ → List (List ℕ × Bool) → Result Traced TraceError
limited most [] = Err (errors.Line 2)
limited most (l ∷ ls) =
    if l.1 && bytes_eq l.0 (limit_line V2) then lines_from most (no_lines (Second V2)) 3 ls
    else (if l.1 && bytes_eq l.0 (limit_line V1) then lines_from most (no_lines (Second V1)) 3 ls else Err (errors.Line 2))

-- the lines of a file: the first is the header of a form
abbrev pub headed : ℕ → List (List ℕ × Bool) → Result Traced TraceError
headed most [] = Err errors.Header
headed most (l ∷ ls) =
    if l.1 && bytes_eq l.0 (header (Second V2)) then limited most ls
    else (if l.1 && bytes_eq l.0 (header First) then lines_from most (no_lines First) 2 ls else Err errors.Header)

-- the trace that some bytes are, or their refusal, where there may be so many events
abbrev pub reading_of : ℕ → List ℕ → Result Traced TraceError
reading_of most bs = headed most (lines_of bs)

-- ---- traces

-- the names rise by their bytes
abbrev pub rises : List (List ℕ × ℕ) → Bool
rises [] = true
rises (d ∷ []) = true
rises (d ∷ e ∷ ds) = is_before d.0 e.0 && rises (e ∷ ds)

-- a trace that can be written: its devices rise by name, it has a start for each session that it takes and one at least, and no more events than there may be
pub record IsTrace (t : Traced) : Type 0 where
  pub devices : rises t.pool ≡ true
  pub starts : list_all is_entry t.starts ≡ true
  pub started : is_empty t.starts ≡ false
  pub starts_few : length t.starts ≤ starts_limit
  pub sessions : length t.starts ≤ principal t.pool
  pub named : list_all (λ d. is_within (limit_of t.form) d.0) t.pool ≡ true
  pub events : list_all (is_event t.form) t.events ≡ true
  pub events_few : length t.events ≤ events_limit
