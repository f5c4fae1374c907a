use Rattle.std.proofs.Common.{◌≡◌, ◌-◌, ◌+◌, length}
use Rattle.mj_trace.specs.Reading.{all_more}
use Rattle.mj_trace.proofs.lists.read_all.Given as goal

-- what is left to be read leads to the same
abbrev pub invariant-loop-place : goal.invariant-loop-place
invariant-loop-place g l =
    all_more g.L.List.one (length l.bytes + 1) l.initial.list l.bytes ≡ all_more g.L.List.one (length l.bytes + 1 - l._place) l.list l.rest
