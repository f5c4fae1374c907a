use Rattle.std.proofs.Common.{◌≡◌, ◌-◌}
use Rattle.mj_nref.specs.Reading.{subscripts_of}
use Rattle.mj_nref.proofs.Joined.{joined_list}
use Rattle.mj_nref.proofs.read.read_subscripts.Given as goal

abbrev pub invariant-loop-place : goal.invariant-loop-place
invariant-loop-place l = subscripts_of 31 l.list ≡ joined_list l.subs (subscripts_of (31 - l._place) l.rest)
