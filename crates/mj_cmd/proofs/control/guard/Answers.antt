use Rattle.std.proofs.Common.{[], ◌∷◌, refl, inl, arith}
use Rattle.mj_ast.specs.declared.sign.Sign.TheVariants.{Colon}
use Rattle.mj_ast.specs.Commands.{Put, Text}
use Rattle.mj_ast.specs.Trees.{expr_of}
use Rattle.mj_lex.specs.Seen.{tokens_seen}
use Rattle.mj_line.specs.Forms.{GuardWanted, GuardEnd, AnExpr}
use Rattle.mj_line.specs.Machine.{Argument}
use Rattle.mj_cmd.proofs.Follow.{reads_err, room_for, went_then, went_text, fails_then, fails_enter}
use Rattle.mj_cmd.proofs.Jumps.{went_guard, went_unguarded, guard_text_untaken}
use Rattle.mj_cmd.proofs.control.guard.Goals as goal

pub returns-in-None-clause-reads : goal.returns-in-None-clause-reads
returns-in-None-clause-reads c = λ m r mode e n g o condition k done. went_unguarded c.args.phrases.limited m mode n c.args.tokens.now o condition k done g c.in-None.ensures

pub returns-in_err-condition-in-Some-clause-reads : goal.returns-in_err-condition-in-Some-clause-reads
returns-in_err-condition-in-Some-clause-reads c = λ m r mode e n g o condition k done.
    reads_err c.args.phrases.limited _ _ c.from_residual.result c.in_err-condition-in-Some.field-0.0 m c.args.tokens.now _ _ c.from_residual.ensures.1
    (fails_then c.args.phrases.limited (Put Colon ∷ []) c.in_err-condition-in-Some.field-0.0 m c.args.tokens.now n c.in-Some.behind.now (GuardWanted mode) o
    condition k done (went_guard c.args.phrases.limited m mode n c.args.tokens.now c.in-Some.behind.now o condition k done e g c.in-Some.ensures.0)
    (λ d. fails_enter c.args.phrases.limited c.in_err-condition-in-Some.field-0.0 m c.in-Some.behind.now (GuardWanted mode) (AnExpr 0 (GuardEnd mode)) o
    condition k d tt refl (guard_text_untaken mode (tokens_seen c.in-Some.behind.now)) (inl refl)
    (c.in_err-condition-in-Some.ensures.reads m (room_for c.args.phrases.limited m c.args.tokens.now c.in-Some.behind.now
    (omega (arith, c.in-Some.ensures.1)) r) (Argument o condition k d (AnExpr 0 (GuardEnd mode))) refl refl)))

pub returns-in_ok-condition-in-Some-clause-reads : goal.returns-in_ok-condition-in-Some-clause-reads
returns-in_ok-condition-in-Some-clause-reads c = λ m r mode e n g o condition k done.
    went_then c.args.phrases.limited (Put Colon ∷ []) (Text 0 (expr_of c.in_ok-condition-in-Some.condition) ∷
    []) m c.args.tokens.now n c.in-Some.behind.now (GuardWanted mode) c.in_ok-condition-in-Some.rest.now (GuardEnd mode) o condition k done
    (went_guard c.args.phrases.limited m mode n c.args.tokens.now c.in-Some.behind.now o condition k done e g c.in-Some.ensures.0)
    (λ d. went_text c.args.phrases.limited 0 (expr_of c.in_ok-condition-in-Some.condition) m c.in-Some.behind.now (GuardWanted mode)
    c.in_ok-condition-in-Some.rest.now (GuardEnd mode) o condition k d refl (guard_text_untaken mode (tokens_seen c.in-Some.behind.now)) (inl refl)
    (c.in_ok-condition-in-Some.ensures.reads m (room_for c.args.phrases.limited m c.args.tokens.now c.in-Some.behind.now
    (omega (arith, c.in-Some.ensures.1)) r) (Argument o condition k d (AnExpr 0 (GuardEnd mode))) refl refl))
