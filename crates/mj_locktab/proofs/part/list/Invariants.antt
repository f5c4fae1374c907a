use Rattle.std.proofs.Common.{◌≡◌, ◌++◌, map}
use Rattle.mj_locktab.specs.Locks.{job_of, name_of}
use Rattle.mj_locktab.specs.Parts.{held_by}
use Rattle.mj_locktab.proofs.part.list.Given as goal

-- the list so far and what the names that are left add to it are all
abbrev pub invariant-loop-name : goal.invariant-loop-name
invariant-loop-name l =
    l.list.items ++ map (λ e. (job_of e.0, name_of e.0, e.1)) (held_by l.job l.name-iterator)
    ≡ l.fn.list.items ++ map (λ e. (job_of e.0, name_of e.0, e.1)) (held_by l.job l.part.entries)
