use Rattle.std.proofs.Common.{◌≡◌, None, drop, take}
use Rattle.std.specs.Prelude.{option_map}
use Rattle.mj_inspect.specs.Own.{seen_behind}
use Rattle.mj_inspect.proofs.own.seen_from.Given as goal

-- what the events that are left make of what is seen so far is what is seen behind all
abbrev pub invariant-loop-at : goal.invariant-loop-at
invariant-loop-at g l =
    seen_behind l.globals.content l.job (option_map (λ g. g.content) l.own) (drop l.at (take l.place l.core.history))
    ≡ seen_behind l.globals.content l.job None (drop l.first (take l.place l.core.history))
