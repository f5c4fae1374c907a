use Rattle.mj_script.specs.Scripts.{opening_in}
use Rattle.mj_search.proofs.searching.runs_over.Given as goal

-- the opening is that of the script over these globals
abbrev pub ghosts-runs_from : goal.ghosts-runs_from
ghosts-runs_from a = record { opening = opening_in a.script.now a.globals.now.content }
