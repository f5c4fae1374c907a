use Rattle.mj_sys.specs.Opening.{opening_of}
use Rattle.mj_test_core.proofs.counted.begun_on.Given as goal

-- the opening is that of what the core begins with
abbrev pub ghosts-run : goal.ghosts-run
ghosts-run g a = record { opening = opening_of a.globals.content a.pool a.starts.items }
