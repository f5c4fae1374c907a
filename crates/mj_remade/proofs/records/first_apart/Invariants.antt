use Rattle.mj_load.specs.Image.{program_of}
use Rattle.mj_remade.proofs.Comparing.{AreAsNoted}
use Rattle.mj_remade.proofs.records.first_apart.Given as goal

-- the events so far are what was noted
abbrev pub invariant-loop-at : goal.invariant-loop-at
invariant-loop-at g l = AreAsNoted l.form (program_of l.core.image) g.O.Opening.opening l.events l.core.history l.at
