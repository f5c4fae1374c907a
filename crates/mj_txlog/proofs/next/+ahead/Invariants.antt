use Rattle.std.proofs.Common.{◌≡◌, ◌+◌, ◌-◌, ◌*◌, true, length}
use Rattle.mj_txlog.specs.Accesses.{Accesses, seen}
use Rattle.mj_txlog.specs.Laid.{IsLaid}
use Rattle.mj_txlog.specs.Skips.{IsBare, KeepSkips}
use Rattle.mj_txlog.proofs.Nexts.{ArePassed}
use Rattle.mj_txlog.proofs.next.+ahead.Given as goal

abbrev pub decreases-next_below : goal.decreases-next_below
decreases-next_below l = 6 * (32 - length l.front.now.subscripts)

abbrev pub decreases-next_of_both : goal.decreases-next_of_both
decreases-next_of_both l = 6 * (32 - length l.front.now.subscripts) - 1

abbrev pub decreases-pass_over : goal.decreases-pass_over
decreases-pass_over l = 6 * (32 - length l.front.now.subscripts) - 2

abbrev pub decreases-take_step : goal.decreases-take_step
decreases-take_step l = 6 * (32 - length l.front.now.subscripts) - 3

abbrev pub decreases-far_from : goal.decreases-far_from
decreases-far_from l = 6 * (32 - length l.front.now.subscripts) - 4

abbrev pub decreases-stands : goal.decreases-stands
decreases-stands l = 6 * (32 - length l.name.now.subscripts) + 1

-- what stands in the globals so far is seen only where an own text does; nothing is left of what was passed last; and what is kept of it is so
abbrev pub invariant-pass_over-loop : goal.invariant-pass_over-loop
invariant-pass_over-loop l = record {
  passed : (es : Accesses) → IsLaid l.own es → ArePassed l.own.over l.globals (seen l.globals es) l.front l.way l.fn.at l.at;
  bare : (es : Accesses) → IsLaid l.own es → l.is_passed ≡ true → IsBare l.globals l.own.gone l.front l.at;
  skips : KeepSkips l.globals l.own l.skips;
}
