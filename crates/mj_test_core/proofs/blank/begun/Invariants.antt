use Rattle.std.proofs.Common.{[]}
use Rattle.mj_sys.specs.Opening.{opening_of}
use Rattle.mj_dev.specs.Pools.{shelves_of}
use Rattle.mj_test_core.proofs.blank.begun.Given as goal

-- the opening is that of what the core begins with
abbrev pub ghosts-run : goal.ghosts-run
ghosts-run a = record { opening = opening_of [] (shelves_of a.sessions.items) a.starts.items }
