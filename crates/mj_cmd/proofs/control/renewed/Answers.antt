use Rattle.std.proofs.Common.{[], ◌∷◌, ◌++◌, refl}
use Rattle.mj_ast.specs.declared.sign.Sign.TheVariants.{Open, Close}
use Rattle.mj_ast.specs.Tokens.{Signed}
use Rattle.mj_ast.specs.Commands.{Put, with_commas, name_parts}
use Rattle.mj_lex.specs.Seen.{tokens_seen}
use Rattle.mj_line.specs.Forms.{NewWanted, NewEnd, KeptWanted}
use Rattle.mj_cmd.proofs.Follow.{reads_err, went_then, went_token, went_word, fails_then, fails_here}
use Rattle.mj_cmd.specs.Parts.{Keeping}
use Rattle.mj_cmd.proofs.Jumps.{renewed_untaken}
use Rattle.mj_cmd.proofs.control.renewed.Goals as goal

pub returns-in_err-names-in-Some-clause-reads : goal.returns-in_err-names-in-Some-clause-reads
returns-in_err-names-in-Some-clause-reads c = λ m r first u o condition k done.
    reads_err c.args.phrases.limited _ _ c.from_residual-in_err-names-in-Some.result c.in_err-names-in-Some.field-0.0 m c.args.tokens.now _ _ c.from_residual-in_err-names-in-Some.ensures.1
    (fails_then c.args.phrases.limited (Put Open ∷ []) c.in_err-names-in-Some.field-0.0 m c.args.tokens.now (NewWanted first) c.in-Some.behind.now KeptWanted o
    condition k done (went_token c.args.phrases.limited (Signed Open) (Put Open) m c.args.tokens.now (NewWanted first) c.in-Some.behind.now KeptWanted o
    condition k done c.in-Some.ensures.0 refl refl)
    (λ d. c.in_err-names-in-Some.ensures.reads m Keeping o condition k d))

pub returns-in-None-behind_name-clause-reads : goal.returns-in-None-behind_name-clause-reads
returns-in-None-behind_name-clause-reads c = λ m r first u o condition k done. fails_here c.args.phrases.limited c.stuck.result m c.args.tokens.now
    (NewWanted first) o condition k done refl (renewed_untaken first (tokens_seen c.args.tokens.now) c.in-None.ensures c.in-None-behind_name.ensures) u
    (c.stuck.ensures c.args.phrases.limited)

pub returns-in_ok-name-in-Some-behind_name-clause-reads : goal.returns-in_ok-name-in-Some-behind_name-clause-reads
returns-in_ok-name-in-Some-behind_name-clause-reads c = λ m r first u o condition k done. went_word c.args.phrases.limited m (NewWanted first) NewEnd
    c.args.tokens.now c.in-Some-behind_name.rest.now c.in-Some-behind_name.word.now c.in_ok-name-in-Some-behind_name.name o condition k done refl refl
    c.in-Some-behind_name.ensures.0 c.in-Some-behind_name.ensures.1 c.in_ok-name-in-Some-behind_name.ensures.ok

pub returns-in_ok-names-in-Some-clause-reads : goal.returns-in_ok-names-in-Some-clause-reads
returns-in_ok-names-in-Some-clause-reads c = λ m r first u o condition k done.
    went_then c.args.phrases.limited (Put Open ∷ []) (with_commas name_parts c.in_ok-names-in-Some.names.items ++ Put Close ∷
    []) m c.args.tokens.now (NewWanted first) c.in-Some.behind.now KeptWanted c.in_ok-names-in-Some.rest.now NewEnd o condition k done
    (went_token c.args.phrases.limited (Signed Open) (Put Open) m c.args.tokens.now (NewWanted first) c.in-Some.behind.now KeptWanted o condition k done
    c.in-Some.ensures.0 refl refl)
    (λ d. c.in_ok-names-in-Some.ensures.reads m Keeping o condition k d)
