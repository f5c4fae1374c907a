use Rattle.std.proofs.Common.{◌≤◌}
use Rattle.std.specs.Prelude.{option_copied}
use Rattle.mj_guide.specs.Ends.{IsCounted}
use Rattle.mj_guide.specs.Goes.{ArePassed}
use Rattle.mj_guide.specs.Notes.{situation}
use Rattle.mj_guide.proofs.going.go.Given as goal

-- the steps so far were made, none was the last, and the tally is that of the record
abbrev pub invariant-loop-made : goal.invariant-loop-made
invariant-loop-made g l = record {
  made : ArePassed g.O.Opening.opening (option_copied l.fn.goal) l.made (situation l.fn.debugger l.fn.notes (g.W.Write.contents l.fn.out))
      (situation l.debugger l.notes (g.W.Write.contents l.out)) l.tally.waited;
  counted : IsCounted l.tally l.debugger.core.history;
  few : l.tally.waited ≤ l.made;
}
