use Rattle.mj_sys.specs.Opening.{opening_of}
use Rattle.mj_retrace.proofs.doing.instead_over.Given as goal

-- the opening is that of these globals, devices and starts
abbrev pub ghosts-instead_in : goal.ghosts-instead_in
ghosts-instead_in a = record { opening = opening_of a.globals.content a.pool a.starts.items }
