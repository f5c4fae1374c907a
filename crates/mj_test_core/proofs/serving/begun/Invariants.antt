use Rattle.std.proofs.Common.{[]}
use Rattle.mj_sys.specs.Opening.{opening_of}
use Rattle.mj_test_core.proofs.serving.begun.Given as goal

-- the opening is that of what the system begins with
abbrev pub ghosts-tell : goal.ghosts-tell
ghosts-tell a = record { opening = opening_of [] a.pool a.starts.items }
