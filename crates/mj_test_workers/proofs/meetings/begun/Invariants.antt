use Rattle.std.proofs.Common.{[]}
use Rattle.mj_sys.specs.Opening.{opening_of}
use Rattle.mj_test_workers.proofs.meetings.begun.Given as goal

-- the opening is that of what the jobs begin with
abbrev pub ghosts-run : goal.ghosts-run
ghosts-run g a = record { opening = opening_of [] a.pool a.starts.items }
