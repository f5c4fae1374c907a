use Rattle.std.proofs.Common.{◌≡◌, drop, map}
use Rattle.std.specs.Prelude.{nat_lt}
use Rattle.std.specs.List.{list_any}
use Rattle.mj_turn.proofs.entering.has_less_deep.Given as goal

-- those before it are as deep
abbrev pub invariant-loop-head : goal.invariant-loop-head
invariant-loop-head l = list_any (λ k. nat_lt k l.level) (map (λ h. h.level) (drop l.head-index l.heads)) ≡ list_any (λ k. nat_lt k l.level) (map (λ h. h.level) l.heads)
