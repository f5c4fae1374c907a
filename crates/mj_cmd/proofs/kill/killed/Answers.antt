use Rattle.std.proofs.Common.{[], ◌∷◌, ◌++◌, refl}
use Rattle.mj_ast.specs.declared.sign.Sign.TheVariants.{Open, Close}
use Rattle.mj_ast.specs.Tokens.{Signed}
use Rattle.mj_ast.specs.Commands.{Put, with_commas, name_parts}
use Rattle.mj_ast.specs.Trees.{variable_of}
use Rattle.mj_lex.specs.Seen.{tokens_seen}
use Rattle.mj_line.specs.Forms.{KillWanted, NameWanted, KillEnd, AVar}
use Rattle.mj_line.specs.Machine.{Argument}
use Rattle.mj_cmd.proofs.Follow.{reads_err, went_then, went_token, went_place, fails_then, fails_enter}
use Rattle.mj_cmd.specs.Parts.{Sparing}
use Rattle.mj_cmd.proofs.Places.{killed_untaken}
use Rattle.mj_cmd.proofs.kill.killed.Goals as goal

pub returns-in_err-variable-in-None-clause-reads : goal.returns-in_err-variable-in-None-clause-reads
returns-in_err-variable-in-None-clause-reads c = λ m r first u o condition k done.
    reads_err c.args.phrases.limited _ _ c.from_residual.result c.in_err-variable-in-None.field-0.0 m c.args.tokens.now _ _ c.from_residual.ensures.1
    (fails_enter c.args.phrases.limited c.in_err-variable-in-None.field-0.0 m c.args.tokens.now (KillWanted first) (AVar 0 KillEnd) o condition k done tt refl
    (killed_untaken first (tokens_seen c.args.tokens.now) c.in-None.ensures) u
    (c.in_err-variable-in-None.ensures.reads m r (Argument o condition k done (AVar 0 KillEnd)) refl refl))

pub returns-in_err-names-in-Some-clause-reads : goal.returns-in_err-names-in-Some-clause-reads
returns-in_err-names-in-Some-clause-reads c = λ m r first u o condition k done.
    reads_err c.args.phrases.limited _ _ c.from_residual-in_err-names-in-Some.result c.in_err-names-in-Some.field-0.0 m c.args.tokens.now _ _ c.from_residual-in_err-names-in-Some.ensures.1
    (fails_then c.args.phrases.limited (Put Open ∷ []) c.in_err-names-in-Some.field-0.0 m c.args.tokens.now (KillWanted first) c.in-Some.behind.now NameWanted o
    condition k done (went_token c.args.phrases.limited (Signed Open) (Put Open) m c.args.tokens.now (KillWanted first) c.in-Some.behind.now NameWanted o
    condition k done c.in-Some.ensures.0 refl refl)
    (λ d. c.in_err-names-in-Some.ensures.reads m Sparing o condition k d))

pub returns-in_ok-variable-in-None-clause-reads : goal.returns-in_ok-variable-in-None-clause-reads
returns-in_ok-variable-in-None-clause-reads c = λ m r first u o condition k done. went_place c.args.phrases.limited 0
    (variable_of c.in_ok-variable-in-None.variable) m c.args.tokens.now (KillWanted first) c.in_ok-variable-in-None.rest.now KillEnd o condition k done refl
    (killed_untaken first (tokens_seen c.args.tokens.now) c.in-None.ensures) u
    (c.in_ok-variable-in-None.ensures.reads m r (Argument o condition k done (AVar 0 KillEnd)) refl refl)

pub returns-in_ok-names-in-Some-clause-reads : goal.returns-in_ok-names-in-Some-clause-reads
returns-in_ok-names-in-Some-clause-reads c = λ m r first u o condition k done.
    went_then c.args.phrases.limited (Put Open ∷ []) (with_commas name_parts c.in_ok-names-in-Some.names.items ++ Put Close ∷
    []) m c.args.tokens.now (KillWanted first) c.in-Some.behind.now NameWanted c.in_ok-names-in-Some.rest.now KillEnd o condition k done
    (went_token c.args.phrases.limited (Signed Open) (Put Open) m c.args.tokens.now (KillWanted first) c.in-Some.behind.now NameWanted o condition k done
    c.in-Some.ensures.0 refl refl)
    (λ d. c.in_ok-names-in-Some.ensures.reads m Sparing o condition k d)
