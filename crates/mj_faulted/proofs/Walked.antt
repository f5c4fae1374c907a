-- A walk goes on.
use Rattle.std.proofs.Common.{◌≡◌, ℕ, ◌+◌, List, Option, Some, None, Result, Ok, Err, OnOk, sym, subst, arith, slice_get}
use Rattle.mj_ask.specs.declared.ask.Reply.{Reply}
use Rattle.mj_semantics.specs.Job.{Start}
use Rattle.mj_segment.specs.Segments.{Runs}
use Rattle.mj_pcode.specs.declared.instr.Unit.{Unit}
use Rattle.mj_load.specs.Image.{Loaded, IsImage}
use Rattle.mj_machine.specs.declared.machine.Machine.{Machine}
use Rattle.mj_machine.specs.Standing.{Standing, Over, Steps}
use Rattle.mj_machine.specs.Kept.{standing}
use Rattle.mj_turn.specs.Sound.{IsSound}
use Rattle.mj_faulted.specs.declared.walk.Walk.{Walk}
use Rattle.mj_faulted.specs.Walks.{IsWalk}
use Rattle.mj_jobvm.specs.Jobs.{opening_at}
use Rattle.mj_faulted.specs.Stands.{Stands}
use Rattle.mj_faulted.proofs.Walking.{begins, walked_by, walked, walked_taking, stayed}

module _ (image : Loaded) (start : Start) (replies : List Reply) (units : List Unit) (are : units ≡ image.units) where
  pub several_on : (old : Walk) (machine : Machine) (made : ℕ) → Runs units made old.machine machine → IsSound units (standing machine None)
      → IsWalk image start replies old → IsWalk image start replies (record { machine = machine; turns = old.turns + made; taken = old.taken })
  several_on old machine made h sound i = record {
    stands = walked_by image start replies units are old.turns old.taken made old.machine machine h sound i.stands;
    few = let f = i.few in omega (arith, f);
  }

  pub one_on : (old : Walk) (machine : Machine) (given : Option Reply) → given ≡ slice_get replies old.taken
      → Steps (record { units = units; start = start }) (standing old.machine given) Over (standing machine given) → IsSound units (standing machine None)
      → IsWalk image start replies old → IsWalk image start replies (record { machine = machine; turns = old.turns + 1; taken = old.taken })
  one_on old machine given is h sound i = record {
    stands = walked image start replies units are old.turns old.taken old.machine machine given is h sound i.stands;
    few = let f = i.few in omega (arith, f);
  }

  pub one_taking : (old : Walk) (machine : Machine) (given : Option Reply) → given ≡ slice_get replies old.taken
      → Steps (record { units = units; start = start }) (standing old.machine given) Over (standing machine None) → IsSound units (standing machine None)
      → IsWalk image start replies old → IsWalk image start replies (record { machine = machine; turns = old.turns + 1; taken = old.taken + 1 })
  one_taking old machine given is h sound i = record {
    stands = walked_taking image start replies units are old.turns old.taken old.machine machine given is h sound i.stands;
    few = let f = i.few in omega (arith, f);
  }

module _ (image : Loaded) (start : Start) (replies : List Reply) where
  -- before the first turn
  pub begun_walk : (m : Machine) → IsImage image → standing m None ≡ opening_at image.bounds start.job
      → IsWalk image start replies (record { machine = m; turns = 0; taken = 0 })
  begun_walk m is same = record {
    stands = subst (λ (s : Standing). Stands image start replies 0 0 s) (sym same) (begins image start replies is);
    few = omega arith;
  }

  -- what a turn does with whatever replies it does with these
  pub goes_on : {A E : Type 0} (r : Result A E) (given : Option Reply) (mid new : Walk) → given ≡ slice_get replies mid.taken → IsWalk image start replies mid
      → OnOk r ((rs : List Reply) → given ≡ slice_get rs mid.taken → IsWalk image start rs mid → IsWalk image start rs new) → OnOk r (IsWalk image start replies new)
  goes_on (Ok done) given mid new same i h = h replies same i
  goes_on (Err refused) given mid new same i h = tt
