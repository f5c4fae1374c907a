use Rattle.std.proofs.Common.{◌≡◌, false}
use Rattle.mj_txlog.specs.Laid.{went_before}
use Rattle.mj_txlog.proofs.overlay.Overlay.went.Given as goal

-- none of the names so far went
abbrev pub invariant-loop-count : goal.invariant-loop-count
invariant-loop-count l = went_before l.self.gone l.name l.count ≡ false
