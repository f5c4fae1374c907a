use Rattle.std.proofs.Common.{◌≡◌, ◌++◌, take, drop, map}
use Rattle.mj_sys.specs.Kept.{without}
use Rattle.mj_sys.proofs.shared.release_all.Given as goal

abbrev pub invariant-loop-holder : goal.invariant-loop-holder
invariant-loop-holder l =
    l.holder-items ≡ map (without l.job) (take l.holder-index l.initial.holder-items) ++ drop l.holder-index l.initial.holder-items
