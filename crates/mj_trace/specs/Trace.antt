-- A trace of a run (this profile): its first line, in today's form the limit of texts, the devices that there are, the starts, and the events. Byte 10 ends each
-- line.
use Rattle.std.specs.Prelude.{ℕ, List, [], ◌∷◌, ◌++◌, codes, decimal}
use Rattle.mj_text.specs.declared.limit.Limit.{Limit}
use Rattle.mj_text.specs.declared.limit.Limit.TheVariants.{V1, V2}
use Rattle.mj_ask.specs.Written.{entry_text}
use Rattle.mj_ask.specs.declared.entry.Entry.{Entry}
use Rattle.mj_ask.specs.declared.noted.Noted.{Noted}
use Rattle.mj_gfile.specs.Spelling.{listed_text}
use Rattle.mj_trace.specs.declared.form.Form.{Form}
use Rattle.mj_trace.specs.declared.form.Form.TheVariants.{First, Second}
use Rattle.mj_trace.specs.Spelling.{spaced, event_text}

abbrev pub version_of : Form → ℕ
version_of First = 1
version_of (Second limit) = 2

-- how long the texts of the run may be
abbrev pub limit_of : Form → Limit
limit_of First = V1
limit_of (Second limit) = limit

-- the first line, without its byte 10
abbrev pub header : Form → List ℕ
header First = codes "mj-trace 1"
header (Second limit) = codes "mj-trace 2"

-- the line of a limit, without its byte 10
abbrev pub limit_line : Limit → List ℕ
limit_line V1 = codes "limit 32767"
limit_line V2 = codes "limit 1048576"

-- the lines that tell the form
abbrev pub head_text : Form → List ℕ
head_text First = header First ++ 10 ∷ []
head_text (Second limit) = header (Second limit) ++ 10 ∷ (limit_line limit ++ 10 ∷ [])

-- the line of a device: its name, and how many sessions of it there are
abbrev pub pool_line : List ℕ × ℕ → List ℕ
pool_line d = codes "pool " ++ listed_text d.0 ++ spaced (decimal d.1)

abbrev pub pool_lines : List (List ℕ × ℕ) → List ℕ
pool_lines [] = []
pool_lines (d ∷ ds) = pool_line d ++ 10 ∷ pool_lines ds

-- the line of a start
abbrev pub start_line : Entry → List ℕ
start_line e = codes "start " ++ entry_text e

abbrev pub start_lines : List Entry → List ℕ
start_lines [] = []
start_lines (e ∷ es) = start_line e ++ 10 ∷ start_lines es

-- what stands before the events
abbrev pub opening_text : Form → List (List ℕ × ℕ) → List Entry → List ℕ
opening_text form pool starts = head_text form ++ (pool_lines pool ++ start_lines starts)

-- the lines of events
abbrev pub event_lines : Form → List Noted → List ℕ
event_lines form [] = []
event_lines form (e ∷ es) = event_text form e ++ 10 ∷ event_lines form es

-- a trace: its form, the devices, by name, the starts, and the events, in order
pub record Traced : Type 0 where
  pub form : Form
  pub pool : List (List ℕ × ℕ)
  pub starts : List Entry
  pub events : List Noted

-- how a trace is written
abbrev pub trace_text : Traced → List ℕ
trace_text t = opening_text t.form t.pool t.starts ++ event_lines t.form t.events
