use Rattle.std.proofs.Common.{[], ◌∷◌, refl, inl, arith}
use Rattle.mj_ast.specs.declared.sign.Sign.TheVariants.{Colon}
use Rattle.mj_ast.specs.Tokens.{Signed}
use Rattle.mj_ast.specs.Commands.{Put, Text}
use Rattle.mj_ast.specs.Trees.{expr_of}
use Rattle.mj_lex.specs.Seen.{tokens_seen}
use Rattle.mj_line.specs.Forms.{IntoEnd, IntoTimed, OutputEnd, Reads, AnExpr}
use Rattle.mj_line.specs.Machine.{Argument}
use Rattle.mj_cmd.proofs.Follow.{reads_err, room_for, went_then, went_token, went_text, fails_then, fails_enter}
use Rattle.mj_cmd.proofs.Layouts.{into_timed_untaken, went_untimed}
use Rattle.mj_cmd.proofs.read.timeout.Goals as goal

pub returns-in-None-clause-reads : goal.returns-in-None-clause-reads
returns-in-None-clause-reads c = λ m r o condition k done. went_untimed c.args.phrases.limited m c.args.tokens.now o condition k done c.in-None.ensures

pub returns-in_err-timeout-in-Some-clause-reads : goal.returns-in_err-timeout-in-Some-clause-reads
returns-in_err-timeout-in-Some-clause-reads c = λ m r o condition k done.
    reads_err c.args.phrases.limited _ _ c.from_residual.result c.in_err-timeout-in-Some.field-0.0 m c.args.tokens.now _ _ c.from_residual.ensures.1
    (fails_then c.args.phrases.limited (Put Colon ∷ []) c.in_err-timeout-in-Some.field-0.0 m c.args.tokens.now IntoEnd c.in-Some.behind.now IntoTimed o
    condition k done (went_token c.args.phrases.limited (Signed Colon) (Put Colon) m c.args.tokens.now IntoEnd c.in-Some.behind.now IntoTimed o condition k
    done c.in-Some.ensures.0 refl refl)
    (λ d. fails_enter c.args.phrases.limited c.in_err-timeout-in-Some.field-0.0 m c.in-Some.behind.now IntoTimed (AnExpr 0 (OutputEnd Reads)) o condition k d tt
    refl (into_timed_untaken (tokens_seen c.in-Some.behind.now)) (inl refl)
    (c.in_err-timeout-in-Some.ensures.reads m (room_for c.args.phrases.limited m c.args.tokens.now c.in-Some.behind.now (omega (arith, c.in-Some.ensures.1))
    r) (Argument o condition k d (AnExpr 0 (OutputEnd Reads))) refl refl)))

pub returns-in_ok-timeout-in-Some-clause-reads : goal.returns-in_ok-timeout-in-Some-clause-reads
returns-in_ok-timeout-in-Some-clause-reads c = λ m r o condition k done.
    went_then c.args.phrases.limited (Put Colon ∷ []) (Text 0 (expr_of c.in_ok-timeout-in-Some.timeout) ∷
    []) m c.args.tokens.now IntoEnd c.in-Some.behind.now IntoTimed c.in_ok-timeout-in-Some.rest.now (OutputEnd Reads) o condition k done
    (went_token c.args.phrases.limited (Signed Colon) (Put Colon) m c.args.tokens.now IntoEnd c.in-Some.behind.now IntoTimed o condition k done
    c.in-Some.ensures.0 refl refl)
    (λ d. went_text c.args.phrases.limited 0 (expr_of c.in_ok-timeout-in-Some.timeout) m c.in-Some.behind.now IntoTimed c.in_ok-timeout-in-Some.rest.now
    (OutputEnd Reads) o condition k d refl (into_timed_untaken (tokens_seen c.in-Some.behind.now)) (inl refl)
    (c.in_ok-timeout-in-Some.ensures.reads m (room_for c.args.phrases.limited m c.args.tokens.now c.in-Some.behind.now (omega (arith, c.in-Some.ensures.1))
    r) (Argument o condition k d (AnExpr 0 (OutputEnd Reads))) refl refl))
