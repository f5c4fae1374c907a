use Rattle.std.proofs.Common.{◌≡◌, ℕ, ◌+◌, ◌-◌, ◌<◌, ◌≤◌, None}
use Rattle.mj_semantics.specs.Job.{Start}
use Rattle.mj_turn.specs.Starts.{start_of}
use Rattle.mj_jobvm.specs.Jobs.{IsRunOfAfter, running}
use Rattle.mj_pcode.specs.Sound.{AreChecked}
use Rattle.mj_machine.specs.Kept.{standing}
use Rattle.mj_turn.specs.Sound.{IsSound}
use Rattle.mj_turn.specs.Units.{AreSmall}
use Rattle.mj_jobvm.proofs.job.Job.advance.Given as goal

abbrev pub invariant-turns : goal.invariant-turns
invariant-turns l = record {
  most : l.done ≤ l.fuel;
  run : (start : Start) (turns : ℕ) → IsRunOfAfter l.image start turns l.fn.self
      → IsRunOfAfter l.image start (turns + l.done) (running (start_of l.self-inside.start) l.self-inside.machine l.self-inside.log.items l.self-inside.places.places
      l.self-inside.given None (l.fn.self.run.spent + l.done));
  code : l.units ≡ l.image.units;
  small : AreSmall l.units;
  checked : AreChecked l.units;
  sound : IsSound l.units (standing l.self-inside.machine None);
  log : l.self-inside.log.items ≡ l.fn.self.run.log;
  places : l.self-inside.places.places ≡ l.fn.self.run.places;
  room : l.self-inside.log.len < l.self-inside.log.cap;
  pending : l.self-inside.pending ≡ None;
  was : l.fn.self.run.pending ≡ None;
  spent : l.self-inside.spent ≡ l.fn.self.run.spent;
}

abbrev pub decreases-turns : goal.decreases-turns
decreases-turns l = l.fuel - l.done
