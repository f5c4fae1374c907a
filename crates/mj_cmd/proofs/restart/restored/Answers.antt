use Rattle.std.proofs.Common.{[], ◌∷◌, ◌++◌, refl, inr}
use Rattle.mj_ast.specs.declared.sign.Sign.TheVariants.{Star, Open, Close}
use Rattle.mj_ast.specs.Tokens.{Signed}
use Rattle.mj_ast.specs.Commands.{Put, with_commas, name_parts}
use Rattle.mj_lex.specs.Seen.{tokens_seen}
use Rattle.mj_line.specs.Forms.{RestartWanted, RestoredOpens, RestoredEnd}
use Rattle.mj_cmd.proofs.Follow.{reads_err, went_then, went_token, went_word, fails_then, fails_here}
use Rattle.mj_cmd.proofs.Restarts.{restart_untaken}
use Rattle.mj_cmd.proofs.restart.restored.Goals as goal

pub returns-in-Some-clause-reads : goal.returns-in-Some-clause-reads
returns-in-Some-clause-reads c = λ m o condition k done. went_token c.args.phrases.limited (Signed Star) (Put Star) m c.args.tokens.now RestartWanted
    c.in-Some.rest.now RestoredEnd o condition k done c.in-Some.ensures.0 refl refl

pub returns-in_err-names-in-Some-behind_open-clause-reads : goal.returns-in_err-names-in-Some-behind_open-clause-reads
returns-in_err-names-in-Some-behind_open-clause-reads c = λ m o condition k done.
    reads_err c.args.phrases.limited _ _ c.from_residual-in_err-names-in-Some-behind_open.result c.in_err-names-in-Some-behind_open.field-0.0 m
    c.args.tokens.now _ _ c.from_residual-in_err-names-in-Some-behind_open.ensures.1
    (fails_then c.args.phrases.limited (Put Open ∷ []) c.in_err-names-in-Some-behind_open.field-0.0 m c.args.tokens.now RestartWanted
    c.in-Some-behind_open.behind.now RestoredOpens o condition k done
    (went_token c.args.phrases.limited (Signed Open) (Put Open) m c.args.tokens.now RestartWanted c.in-Some-behind_open.behind.now RestoredOpens o condition
    k done c.in-Some-behind_open.ensures.0 refl refl)
    (λ d. c.in_err-names-in-Some-behind_open.ensures.reads m o condition k d))

pub returns-in_ok-names-in-Some-behind_open-clause-reads : goal.returns-in_ok-names-in-Some-behind_open-clause-reads
returns-in_ok-names-in-Some-behind_open-clause-reads c = λ m o condition k done.
    went_then c.args.phrases.limited (Put Open ∷ []) (with_commas name_parts c.in_ok-names-in-Some-behind_open.names.items ++ Put Close ∷
    []) m c.args.tokens.now RestartWanted c.in-Some-behind_open.behind.now RestoredOpens c.in_ok-names-in-Some-behind_open.rest.now RestoredEnd o condition
    k done (went_token c.args.phrases.limited (Signed Open) (Put Open) m c.args.tokens.now RestartWanted c.in-Some-behind_open.behind.now RestoredOpens o
    condition k done c.in-Some-behind_open.ensures.0 refl refl)
    (λ d. c.in_ok-names-in-Some-behind_open.ensures.reads m o condition k d)

pub returns-in-None-behind_name-clause-reads : goal.returns-in-None-behind_name-clause-reads
returns-in-None-behind_name-clause-reads c = λ m o condition k done. fails_here c.args.phrases.limited c.stuck.result m c.args.tokens.now RestartWanted o
    condition k done refl (restart_untaken (tokens_seen c.args.tokens.now) c.in_default.ensures c.in-None.ensures c.in-None-behind_name.ensures)
    (inr c.requires) (c.stuck.ensures c.args.phrases.limited)

pub returns-in_ok-name-in-Some-behind_name-clause-reads : goal.returns-in_ok-name-in-Some-behind_name-clause-reads
returns-in_ok-name-in-Some-behind_name-clause-reads c = λ m o condition k done. went_word c.args.phrases.limited m RestartWanted RestoredEnd c.args.tokens.now
    c.in-Some-behind_name.rest.now c.in-Some-behind_name.word.now c.in_ok-name-in-Some-behind_name.name o condition k done refl refl
    c.in-Some-behind_name.ensures.0 c.in-Some-behind_name.ensures.1 c.in_ok-name-in-Some-behind_name.ensures.ok
