-- A walk up to a fault, and one that stops before it.
use Rattle.std.proofs.Common.{◌≡◌, ℕ, ◌+◌, List, None, subst}
use Rattle.mj_text.specs.declared.fault.Fault.{Fault}
use Rattle.mj_ask.specs.declared.ask.Reply.{Reply}
use Rattle.mj_semantics.specs.Job.{Start}
use Rattle.mj_load.specs.Image.{Loaded}
use Rattle.mj_machine.specs.declared.control.Control.TheVariants.{Faulted}
use Rattle.mj_machine.specs.Standing.{Standing}
use Rattle.mj_machine.specs.Kept.{standing}
use Rattle.mj_faulted.specs.declared.walk.Walk.{Walk}
use Rattle.mj_faulted.specs.Stands.{Stands, ComesTo, FaultsAt}
use Rattle.mj_faulted.specs.Walks.{IsWalk}

module _ (image : Loaded) (start : Start) (replies : List Reply) (fault : Fault) where
  pub comes_to : (w : Walk) (turns : ℕ) → IsWalk image start replies w → w.turns ≡ turns → w.machine.control ≡ Faulted fault
      → ComesTo image start replies fault turns (standing w.machine None)
  comes_to w turns is same faulted = record {
    taken = w.taken;
    stands = subst (λ (n : ℕ). Stands image start replies n w.taken (standing w.machine None)) same is.stands;
    which = faulted;
  }

  pub faults_at : (w : Walk) (before : ℕ) (fallen : Standing) → IsWalk image start replies w → w.turns ≡ before
      → ComesTo image start replies fault (before + 1) fallen → FaultsAt image start replies fault (standing w.machine None) fallen
  faults_at w before fallen is same comes = record {
    turns = before;
    taken = w.taken;
    stands = subst (λ (n : ℕ). Stands image start replies n w.taken (standing w.machine None)) same is.stands;
    comes = comes;
  }
