use Rattle.std.proofs.Common.{◌≡◌, drop}
use Rattle.mj_gather.specs.Rans.{places_in}
use Rattle.mj_gather.proofs.gathering.places_in.Given as goal

abbrev pub invariant-loop-ran : goal.invariant-loop-ran
invariant-loop-ran l = places_in l.rans l.job ≡ places_in (drop l.ran-index l.rans) l.job
