use Rattle.mj_sys.specs.Opening.{opening_of}
use Rattle.mj_replay.proofs.replaying.replay_over.Given as goal

-- the opening is that of these globals, devices and starts
abbrev pub ghosts-replay : goal.ghosts-replay
ghosts-replay a = record { opening = opening_of a.globals.content a.pool a.starts.items }

abbrev pub ghosts-replay_placed : goal.ghosts-replay_placed
ghosts-replay_placed a = record { opening = opening_of a.globals.content a.pool a.starts.items }
