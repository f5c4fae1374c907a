use Rattle.mj_sys.specs.Opening.{opening_of}
use Rattle.mj_main.proofs.program.run_from.Given as goal

-- the opening is that of what the run begins with
abbrev pub ghosts-with_files : goal.ghosts-with_files
ghosts-with_files g a = record { opening = opening_of a.beginning.globals.content a.beginning.pool a.beginning.starts.items }

abbrev pub ghosts-with_workers : goal.ghosts-with_workers
ghosts-with_workers g a = record { opening = opening_of a.beginning.globals.content a.beginning.pool a.beginning.starts.items }
