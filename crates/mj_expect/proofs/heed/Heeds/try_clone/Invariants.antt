use Rattle.std.proofs.Common.{◌≡◌, take}
use Rattle.mj_expect.proofs.heed.Heeds.try_clone.Given as goal

-- the copy has those so far
abbrev pub invariant-loop-name : goal.invariant-loop-name
invariant-loop-name l = record { copied : l.list.items ≡ take l.name-index l.self }
