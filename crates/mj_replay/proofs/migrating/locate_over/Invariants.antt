use Rattle.mj_sys.specs.Opening.{opening_of}
use Rattle.mj_replay.proofs.migrating.locate_over.Given as goal

-- the opening is that of these globals, devices and starts
abbrev pub ghosts-locate : goal.ghosts-locate
ghosts-locate a = record { opening = opening_of a.globals.content a.pool a.starts.items }
