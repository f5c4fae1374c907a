-- Lines and frames, and what a job does from its start.
use Rattle.std.specs.Prelude.{ℕ, zero, suc, List, [], ◌∷◌, Option, Some, None, Bool, false, length, nat_lt, nat_eq, if◌then◌else◌}
use Rattle.mj_text.specs.declared.fault.Fault.TheVariants.{NoLine, Params}
use Rattle.mj_ask.specs.declared.ask.DeviceAsk.TheVariants as device_asks
use Rattle.mj_ask.specs.declared.ask.Reply.{Reply}
use Rattle.mj_ask.specs.declared.bounds.Bounds.{Bounds}
use Rattle.mj_ask.specs.declared.entry.Entry.{Entry}
use Rattle.mj_ast.specs.Syntax.{Line, Routine}
use Rattle.mj_semantics.specs.State.{State, principal, untouched, level_of, may_go, pushed, passed, at_place}
use Rattle.mj_semantics.specs.Outcome.{Outcome, More, Timed, no_restart, turn, turns, look, change, restartable, to_device, end, fault}
use Rattle.mj_semantics.specs.Lines.{Here, place_at, next_line, line_before, line_at, levels_of, entered}
use Rattle.mj_semantics.specs.Points.{Leave, Ways, Loop, AtLine, Called, Jumped, Pass, Started, Points}
use Rattle.mj_semantics.specs.Program.{Program}
use Rattle.mj_semantics.specs.Commands.{quit_frame, for_again, deeper, obey_all}

-- the end of a routine or of a block is a QUIT of its frame, at the line before it
abbrev pub quit_before : Here → Leave → Timed
quit_before here leave = change (at_place (place_at (line_before here))) (quit_frame (leave []))

-- a line: one that is deeper than its frame is passed over, and one that is less deep stands behind the block
abbrev pub obey_line : Points → Here → Option Line → Leave → Timed
obey_line points here None leave = quit_before here leave
obey_line points here (Some line) leave = look (λ s.
    let next : Timed = turn (points (AtLine (next_line here) leave)) in
    if nat_lt line.level (level_of s) then quit_before here leave
    else if nat_lt (level_of s) line.level then next
    else change (at_place (place_at here)) (obey_all points here line.steps (record { line_end = next; for_quit = None; leave = leave })))

-- a new frame, a function's or not, at the line that an entry names, which is of level 1, with no more values than the line has
-- formals. Each formal takes a turn, before that of the line. A function's restores `$TEST`
abbrev pub call : Points → Bool → Option (Here × Line) → List (Option (List ℕ)) → Leave → Timed
call points function None vs leave = fault NoLine
call points function (Some to) vs leave =
    if nat_eq to.1.level 1
    then if nat_lt (length to.1.formals) (length vs) then fault Params
    else deeper
    (change (λ s. passed to.1.formals vs (pushed (place_at to.0) 1 function (if function then Some s.test else None) s))
    (turns (length to.1.formals) (turn (points (AtLine to.0 leave)))))
    else fault NoLine

-- a GOTO of the line that an entry names
abbrev pub jump : List Routine → Points → Option (Here × Line) → Leave → Timed
jump image points None leave = fault NoLine
jump image points (Some to) leave = look (λ s.
    if may_go s (place_at to.0) to.1.level (levels_of image to.0.routine) then turn (points (AtLine to.0 leave)) else fault NoLine)

-- in a pass of a FOR: the line's end leads to the next pass, and a QUIT to where the line without this FOR would end, in a turn
-- of its own (this profile)
abbrev pub in_pass : Loop → Timed → Timed → Ways → Ways
in_pass loop after pass ways = record { line_end = turn (for_again loop after pass); for_quit = Some (turn ways.line_end); leave = ways.leave }

abbrev pub at_point : List Routine → Points → Points
at_point image points (AtLine here leave) = obey_line points here (line_at image here) leave
at_point image points (Called function entry vs leave) = call points function (entered image entry) vs leave
at_point image points (Jumped entry leave) = jump image points (entered image entry) leave
at_point image points (Pass here loop body after ways) =
    obey_all points here body (in_pass loop after (points (Pass here loop body after ways)) ways)
at_point image points (Started rest) = restartable (turn (points (Started rest))) rest

-- where one point leads to another, at most so deep: each takes a turn, so that a depth above the number of turns is
-- deep enough
abbrev pub points_of : List Routine → ℕ → Points
points_of image zero point = λ n h s replies. More
points_of image (suc d) point = λ n h s replies. at_point image (points_of image d) point n h s replies

-- how a job starts: its number, the entry where it begins, and the values for the formals of that line, of which one that is left
-- out has none
pub record Start : Type 0 where
  pub job : ℕ
  pub entry : Entry
  pub values : List (Option (List ℕ))

-- a job before its first ask: only its principal device is open
abbrev pub opening : Bounds → ℕ → State
opening bounds job = record {
  bounds = bounds;
  job = job;
  locals = [];
  saved = [];
  test = false;
  frames = [];
  devices = untouched ∷ [];
  current = principal;
  level = 0;
  restarts = 0;
  mark = None;
  replied = 0;
  held = [];
}

-- what a job does from its start, where points lead to points at most so deep: its principal session begins, in a
-- turn, and then the line that its entry names; the QUIT of its first frame ends it
abbrev pub start : List Routine → Start → ℕ → Timed
start image job depth =
    turn (to_device principal device_asks.Begin (λ r. points_of image depth (Called false job.entry job.values (λ v. end None))))

abbrev pub run : Program → Start → ℕ → ℕ → List Reply → Outcome
run program job depth n replies = start program.routines job depth n no_restart (opening program.bounds job.job) replies

-- a job from its start, for at most n turns, fed with these replies: the private run
abbrev pub next : Program → Start → ℕ → List Reply → Outcome
next program job n replies = run program job (suc n) n replies
