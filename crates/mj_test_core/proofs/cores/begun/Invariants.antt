use Rattle.mj_sys.specs.Opening.{opening_of}
use Rattle.mj_test_core.proofs.cores.begun.Given as goal

-- the opening is that of what the core begins with
abbrev pub ghosts-run : goal.ghosts-run
ghosts-run a = record { opening = opening_of a.globals.content a.pool a.starts.items }
