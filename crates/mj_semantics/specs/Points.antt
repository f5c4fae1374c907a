-- Where a run may go on, and what it is told of what comes after.
use Rattle.std.specs.Prelude.{ℕ, ℤ, List, Option, Bool}
use Rattle.mj_subs.specs.Name.{Name}
use Rattle.mj_ask.specs.declared.entry.Entry.{Entry}
use Rattle.mj_ast.specs.Syntax.{LineCommand}
use Rattle.mj_semantics.specs.Outcome.{Timed}
use Rattle.mj_semantics.specs.Lines.{Here}

-- what the QUIT of a frame leads to, with its value, which is empty where it has none
abbrev pub Leave : Type 0
Leave = List ℕ → Timed

-- what three things lead to: the end of the line, or of a pass of its innermost FOR; a QUIT in that FOR, if there is one; the
-- QUIT of the frame
pub record Ways : Type 0 where
  pub line_end : Timed
  pub for_quit : Option Timed
  pub leave : Leave

-- the passes of a FOR: one; or without end; or by steps, with the local, the step, and the end, if there is one
pub data Loop : Type 0 where
  Once : Loop
  Always : Loop
  By : (x : Name) (step : ℤ) (end : Option ℤ) → Loop

-- what control may reach again: a line of the frame; a new frame, a function's or not, at the line that an entry names, with the
-- values of its actuals; the line that a GOTO names; a pass of a FOR, with the commands of its line that stand behind it, and what comes
-- after the FOR; what stands behind the outermost TSTART
pub data Point : Type 0 where
  AtLine : (here : Here) (leave : Leave) → Point
  Called : (function : Bool) (entry : Entry) (values : List (Option (List ℕ))) (leave : Leave) → Point
  Jumped : (entry : Entry) (leave : Leave) → Point
  Pass : (here : Here) (loop : Loop) (body : List LineCommand) (after : Timed) (ways : Ways) → Point
  Started : (rest : Timed) → Point

-- what is done from a point on, which is always after a turn
abbrev pub Points : Type 0
Points = Point → Timed
