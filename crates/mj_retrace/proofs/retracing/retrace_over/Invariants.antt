use Rattle.mj_sys.specs.Opening.{opening_of}
use Rattle.mj_retrace.proofs.retracing.retrace_over.Given as goal

-- the opening is that of these globals, devices and starts
abbrev pub ghosts-retrace_in : goal.ghosts-retrace_in
ghosts-retrace_in a = record { opening = opening_of a.globals.content a.pool a.starts.items }
