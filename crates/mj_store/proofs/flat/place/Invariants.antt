use Rattle.std.proofs.Common.{◌≡◌, ◌++◌, ℕ, List, drop, take}
use Rattle.std.specs.FinMap.{put}
use Rattle.mj_subs.specs.Collation.{name_cmp}
use Rattle.mj_store.proofs.flat.place.Given as goal

-- the name goes among what is left
abbrev pub invariant-loop-i : goal.invariant-loop-i
invariant-loop-i l = (text : List ℕ) → put name_cmp l.name text l.entries ≡ take l.i l.entries ++ put name_cmp l.name text (drop l.i l.entries)
