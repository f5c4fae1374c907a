use Rattle.std.proofs.Common.{◌≡◌, drop}
use Rattle.mj_expect.specs.Heeds.{heed_of}
use Rattle.mj_expect.proofs.heed.Heeds.of.Given as goal

abbrev pub invariant-loop-name : goal.invariant-loop-name
invariant-loop-name l = record { same : heed_of l.device l.self ≡ heed_of l.device (drop l.name-index l.self) }
