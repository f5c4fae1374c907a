-- The end of a frame.
use Rattle.std.specs.Prelude.{ℕ, List}
use Rattle.mj_semantics.specs.State.{at_place}
use Rattle.mj_semantics.specs.Outcome.{Timed, change}
use Rattle.mj_pcode.specs.declared.instr.Unit.{Unit}
use Rattle.mj_pcode.specs.Context.{Call}
use Rattle.mj_pcode.specs.Machine.{Next, place_in, quits}

-- the frame is over at a line of its unit, above frames that go on
abbrev pub left_at : Unit → ℕ → List Call → Next → Timed
left_at u line below next = change (at_place (place_in u line)) (quits next below)
