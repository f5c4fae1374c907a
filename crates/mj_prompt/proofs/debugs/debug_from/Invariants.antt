use Rattle.mj_sys.specs.Opening.{opening_of}
use Rattle.mj_prompt.proofs.debugs.debug_from.Given as goal

-- the opening is that of what the run begins with
abbrev pub ghosts-with_prompt : goal.ghosts-with_prompt
ghosts-with_prompt g a = record { opening = opening_of a.beginning.globals.content a.beginning.pool a.beginning.starts.items }
