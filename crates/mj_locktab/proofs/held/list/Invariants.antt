use Rattle.std.proofs.Common.{◌≡◌, ◌++◌, map}
use Rattle.mj_locktab.specs.Locks.{job_of, name_of}
use Rattle.mj_locktab.specs.Parts.{holds_of}
use Rattle.mj_locktab.proofs.held.list.Given as goal

-- the list so far and what the jobs that are left add to it are all
abbrev pub invariant-loop-job : goal.invariant-loop-job
invariant-loop-job l =
    l.list.items ++ map (λ e. (job_of e.0, name_of e.0, e.1)) (holds_of l.job-iterator) ≡ map (λ e. (job_of e.0, name_of e.0, e.1)) (holds_of l.parts.entries)
