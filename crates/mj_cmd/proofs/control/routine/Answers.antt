use Rattle.std.proofs.Common.{refl, inl}
use Rattle.mj_lex.specs.Seen.{tokens_seen}
use Rattle.mj_line.specs.Forms.{RoutineWanted, RoutineEnd}
use Rattle.mj_cmd.proofs.Follow.{went_word, fails_here}
use Rattle.mj_cmd.proofs.Jumps.{routine_untaken}
use Rattle.mj_cmd.proofs.control.routine.Goals as goal

pub returns-in-None-clause-reads : goal.returns-in-None-clause-reads
returns-in-None-clause-reads c = λ m mode o condition k done. fails_here c.args.phrases.limited c.stuck.result m c.args.tokens.now (RoutineWanted mode) o
    condition k done refl (routine_untaken mode (tokens_seen c.args.tokens.now) c.in-None.ensures) (inl refl) (c.stuck.ensures c.args.phrases.limited)

pub returns-in_ok-name-in-Some-clause-reads : goal.returns-in_ok-name-in-Some-clause-reads
returns-in_ok-name-in-Some-clause-reads c = λ m mode o condition k done. went_word c.args.phrases.limited m (RoutineWanted mode) (RoutineEnd mode)
    c.args.tokens.now c.in-Some.rest.now c.in-Some.word.now c.in_ok-name-in-Some.name o condition k done refl refl c.in-Some.ensures.0 c.in-Some.ensures.1
    c.in_ok-name-in-Some.ensures.ok
