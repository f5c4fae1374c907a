use Rattle.mj_script.specs.Scripts.{opening_in}
use Rattle.mj_judge.proofs.conditions.judge.Given as goal

-- the opening is that of the script over these globals
abbrev pub ghosts-judged : goal.ghosts-judged
ghosts-judged a = record { opening = opening_in a.condition.now a.globals.now.content }
