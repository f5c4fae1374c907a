use Rattle.std.proofs.Common.{◌≡◌, ◌≤◌, length, take}
use Rattle.mj_txlog.specs.Laid.{IsLaid}
use Rattle.mj_txlog.specs.Skips.{gone_by}
use Rattle.mj_txlog.proofs.log.lay.Given as goal

-- as many are laid as were gone through
abbrev pub invariant-loop-at : goal.invariant-loop-at
invariant-loop-at l =
    (l.at ≤ length l.entries) × (l.laid ≡ l.at) × IsLaid l.own (take l.laid l.entries) × (l.own.gone ≡ gone_by (take l.laid l.entries))
