use Rattle.mj_sys.specs.Opening.{opening_of}
use Rattle.mj_refused.proofs.served.begun.Given as goal

-- the opening is that of what the system begins with
abbrev pub ghosts-run : goal.ghosts-run
ghosts-run a = record { opening = opening_of a.globals.content a.pool a.starts.items }
