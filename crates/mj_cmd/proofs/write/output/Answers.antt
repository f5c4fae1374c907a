use Rattle.std.proofs.Common.{[], ◌∷◌, refl, inl, arith}
use Rattle.mj_ast.specs.declared.sign.Sign.TheVariants.{Star}
use Rattle.mj_ast.specs.Tokens.{Signed}
use Rattle.mj_ast.specs.Commands.{Put, Text}
use Rattle.mj_ast.specs.Trees.{expr_of}
use Rattle.mj_lex.specs.Seen.{tokens_seen}
use Rattle.mj_line.specs.Forms.{OutputWanted, OutputEnd, CodeWanted, Writes, AnExpr}
use Rattle.mj_line.specs.Machine.{Argument}
use Rattle.mj_cmd.proofs.Follow.{reads_err, room_for, went_then, went_token, went_text, fails_then, fails_enter}
use Rattle.mj_cmd.proofs.Layouts.{write_untaken, code_untaken}
use Rattle.mj_cmd.proofs.write.output.Goals as goal

pub returns-in_err-layout-clause-reads : goal.returns-in_err-layout-clause-reads
returns-in_err-layout-clause-reads c = λ m r o condition k done.
    reads_err c.args.phrases.limited _ _ c.from_residual.result c.in_err-layout.field-0.0 m c.args.tokens.now _ _ c.from_residual.ensures.1
    (c.in_err-layout.ensures.reads m r Writes o condition k done)

pub returns-then-begins_layout-clause-reads : goal.returns-then-begins_layout-clause-reads
returns-then-begins_layout-clause-reads c = λ m r o condition k done. c.in_ok-layout.ensures.reads m r Writes o condition k done

pub returns-in_err-code-in-Some-clause-reads : goal.returns-in_err-code-in-Some-clause-reads
returns-in_err-code-in-Some-clause-reads c = λ m r o condition k done.
    reads_err c.args.phrases.limited _ _ c.from_residual-in_err-code-in-Some.result c.in_err-code-in-Some.field-0.0 m c.args.tokens.now _ _ c.from_residual-in_err-code-in-Some.ensures.1
    (fails_then c.args.phrases.limited (Put Star ∷ []) c.in_err-code-in-Some.field-0.0 m c.args.tokens.now (OutputWanted Writes) c.in-Some.behind.now CodeWanted
    o condition k done (went_token c.args.phrases.limited (Signed Star) (Put Star) m c.args.tokens.now (OutputWanted Writes) c.in-Some.behind.now CodeWanted
    o condition k done c.in-Some.ensures.0 refl refl)
    (λ d. fails_enter c.args.phrases.limited c.in_err-code-in-Some.field-0.0 m c.in-Some.behind.now CodeWanted (AnExpr 0 (OutputEnd Writes)) o condition k d tt
    refl (code_untaken (tokens_seen c.in-Some.behind.now)) (inl refl)
    (c.in_err-code-in-Some.ensures.reads m (room_for c.args.phrases.limited m c.args.tokens.now c.in-Some.behind.now (omega (arith, c.in-Some.ensures.1)) r)
    (Argument o condition k d (AnExpr 0 (OutputEnd Writes))) refl refl)))

pub returns-in_ok-code-in-Some-clause-reads : goal.returns-in_ok-code-in-Some-clause-reads
returns-in_ok-code-in-Some-clause-reads c = λ m r o condition k done.
    went_then c.args.phrases.limited (Put Star ∷ []) (Text 0 (expr_of c.in_ok-code-in-Some.code) ∷
    []) m c.args.tokens.now (OutputWanted Writes) c.in-Some.behind.now CodeWanted c.in_ok-code-in-Some.rest.now (OutputEnd Writes) o condition k done
    (went_token c.args.phrases.limited (Signed Star) (Put Star) m c.args.tokens.now (OutputWanted Writes) c.in-Some.behind.now CodeWanted o condition k done
    c.in-Some.ensures.0 refl refl)
    (λ d. went_text c.args.phrases.limited 0 (expr_of c.in_ok-code-in-Some.code) m c.in-Some.behind.now CodeWanted c.in_ok-code-in-Some.rest.now
    (OutputEnd Writes) o condition k d refl (code_untaken (tokens_seen c.in-Some.behind.now)) (inl refl)
    (c.in_ok-code-in-Some.ensures.reads m (room_for c.args.phrases.limited m c.args.tokens.now c.in-Some.behind.now (omega (arith, c.in-Some.ensures.1)) r)
    (Argument o condition k d (AnExpr 0 (OutputEnd Writes))) refl refl))

pub returns-in_err-value-in-None-clause-reads : goal.returns-in_err-value-in-None-clause-reads
returns-in_err-value-in-None-clause-reads c = λ m r o condition k done.
    let u = c.begins_layout.ensures.no c.if-begins_layout.false in
    reads_err c.args.phrases.limited _ _ c.from_residual-in_err-value-in-None.result c.in_err-value-in-None.field-0.0 m c.args.tokens.now _ _ c.from_residual-in_err-value-in-None.ensures.1
    (fails_enter c.args.phrases.limited c.in_err-value-in-None.field-0.0 m c.args.tokens.now (OutputWanted Writes) (AnExpr 0 (OutputEnd Writes)) o condition k
    done tt refl (write_untaken (tokens_seen c.args.tokens.now) u.0 u.1 c.in-None.ensures) (inl refl)
    (c.in_err-value-in-None.ensures.reads m r (Argument o condition k done (AnExpr 0 (OutputEnd Writes))) refl refl))

pub returns-in_ok-value-in-None-clause-reads : goal.returns-in_ok-value-in-None-clause-reads
returns-in_ok-value-in-None-clause-reads c = λ m r o condition k done.
    let u = c.begins_layout.ensures.no c.if-begins_layout.false in
    went_text c.args.phrases.limited 0 (expr_of c.in_ok-value-in-None.value) m c.args.tokens.now (OutputWanted Writes) c.in_ok-value-in-None.rest.now
    (OutputEnd Writes) o condition k done refl (write_untaken (tokens_seen c.args.tokens.now) u.0 u.1 c.in-None.ensures) (inl refl)
    (c.in_ok-value-in-None.ensures.reads m r (Argument o condition k done (AnExpr 0 (OutputEnd Writes))) refl refl)
