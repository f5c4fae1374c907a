use Rattle.mj_sys.specs.Opening.{opening_of}
use Rattle.mj_main.proofs.lives.live_from.Given as goal

-- the opening is that of what the run begins with
abbrev pub ghosts-with_lines : goal.ghosts-with_lines
ghosts-with_lines g a = record { opening = opening_of a.beginning.globals.content a.beginning.pool a.beginning.starts.items }
