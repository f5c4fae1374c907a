use Rattle.std.proofs.Common.{[], ◌∷◌, refl, inl, arith}
use Rattle.mj_ast.specs.declared.sign.Sign.TheVariants.{Colon}
use Rattle.mj_ast.specs.Tokens.{Signed}
use Rattle.mj_ast.specs.Commands.{Put, Text}
use Rattle.mj_ast.specs.Trees.{expr_of}
use Rattle.mj_lex.specs.Seen.{tokens_seen}
use Rattle.mj_line.specs.Forms.{Starts, WaitColon, GuardWanted, GuardEnd, AnExpr}
use Rattle.mj_line.specs.Machine.{Argument}
use Rattle.mj_cmd.proofs.Follow.{reads_err, room_for, went_then, went_token, went_text, fails_then, fails_enter, fails_here}
use Rattle.mj_cmd.proofs.Jumps.{went_colon, went_unguarded, guard_text_untaken, wait_untaken}
use Rattle.mj_cmd.proofs.call.wait.Goals as goal

pub returns-in-None-clause-reads : goal.returns-in-None-clause-reads
returns-in-None-clause-reads c = λ m r n g o condition k done. went_unguarded c.args.phrases.limited m Starts n c.args.tokens.now o condition k done g c.in-None.ensures

pub returns-in-None-behind_colon-clause-reads : goal.returns-in-None-behind_colon-clause-reads
returns-in-None-behind_colon-clause-reads c = λ m r n g o condition k done.
    fails_then c.args.phrases.limited (Put Colon ∷ []) c.stuck.result m c.args.tokens.now n c.in-Some.behind.now WaitColon o condition k done
    (went_colon c.args.phrases.limited m Starts n c.args.tokens.now c.in-Some.behind.now o condition k done g c.in-Some.ensures.0)
    (λ d. fails_here c.args.phrases.limited c.stuck.result m c.in-Some.behind.now WaitColon o condition k d refl
    (wait_untaken (tokens_seen c.in-Some.behind.now) c.in-None-behind_colon.ensures) (inl refl) (c.stuck.ensures c.args.phrases.limited))

pub returns-in_err-timeout-in-Some-behind_colon-clause-reads : goal.returns-in_err-timeout-in-Some-behind_colon-clause-reads
returns-in_err-timeout-in-Some-behind_colon-clause-reads c = λ m r n g o condition k done.
    reads_err c.args.phrases.limited _ _ c.from_residual.result c.in_err-timeout-in-Some-behind_colon.field-0.0 m c.args.tokens.now _ _ c.from_residual.ensures.1
    (fails_then c.args.phrases.limited (Put Colon ∷ []) c.in_err-timeout-in-Some-behind_colon.field-0.0 m c.args.tokens.now n c.in-Some.behind.now WaitColon o
    condition k done (went_colon c.args.phrases.limited m Starts n c.args.tokens.now c.in-Some.behind.now o condition k done g c.in-Some.ensures.0)
    (λ d. fails_then c.args.phrases.limited (Put Colon ∷ []) c.in_err-timeout-in-Some-behind_colon.field-0.0 m c.in-Some.behind.now WaitColon
    c.in-Some-behind_colon.behind.now (GuardWanted Starts) o condition k d
    (went_token c.args.phrases.limited (Signed Colon) (Put Colon) m c.in-Some.behind.now WaitColon c.in-Some-behind_colon.behind.now (GuardWanted Starts) o
    condition k d c.in-Some-behind_colon.ensures.0 refl refl)
    (λ e. fails_enter c.args.phrases.limited c.in_err-timeout-in-Some-behind_colon.field-0.0 m c.in-Some-behind_colon.behind.now (GuardWanted Starts)
    (AnExpr 0 (GuardEnd Starts)) o condition k e tt refl (guard_text_untaken Starts (tokens_seen c.in-Some-behind_colon.behind.now)) (inl refl)
    (c.in_err-timeout-in-Some-behind_colon.ensures.reads m (room_for c.args.phrases.limited m c.args.tokens.now c.in-Some-behind_colon.behind.now
    (omega (arith, c.in-Some.ensures.1, c.in-Some-behind_colon.ensures.1)) r) (Argument o condition k e (AnExpr 0 (GuardEnd Starts))) refl refl))))

pub returns-in_ok-timeout-in-Some-behind_colon-clause-reads : goal.returns-in_ok-timeout-in-Some-behind_colon-clause-reads
returns-in_ok-timeout-in-Some-behind_colon-clause-reads c = λ m r n g o condition k done.
    went_then c.args.phrases.limited (Put Colon ∷ []) (Put Colon ∷ Text 0 (expr_of c.in_ok-timeout-in-Some-behind_colon.timeout) ∷
    []) m c.args.tokens.now n c.in-Some.behind.now WaitColon c.in_ok-timeout-in-Some-behind_colon.rest.now (GuardEnd Starts) o condition k done
    (went_colon c.args.phrases.limited m Starts n c.args.tokens.now c.in-Some.behind.now o condition k done g c.in-Some.ensures.0)
    (λ d. went_then c.args.phrases.limited (Put Colon ∷ []) (Text 0 (expr_of c.in_ok-timeout-in-Some-behind_colon.timeout) ∷
    []) m c.in-Some.behind.now WaitColon c.in-Some-behind_colon.behind.now (GuardWanted Starts) c.in_ok-timeout-in-Some-behind_colon.rest.now
    (GuardEnd Starts) o condition k d (went_token c.args.phrases.limited (Signed Colon) (Put Colon) m c.in-Some.behind.now WaitColon
    c.in-Some-behind_colon.behind.now (GuardWanted Starts) o condition k d c.in-Some-behind_colon.ensures.0 refl refl)
    (λ e. went_text c.args.phrases.limited 0 (expr_of c.in_ok-timeout-in-Some-behind_colon.timeout) m c.in-Some-behind_colon.behind.now (GuardWanted Starts)
    c.in_ok-timeout-in-Some-behind_colon.rest.now (GuardEnd Starts) o condition k e refl
    (guard_text_untaken Starts (tokens_seen c.in-Some-behind_colon.behind.now)) (inl refl)
    (c.in_ok-timeout-in-Some-behind_colon.ensures.reads m (room_for c.args.phrases.limited m c.args.tokens.now c.in-Some-behind_colon.behind.now
    (omega (arith, c.in-Some.ensures.1, c.in-Some-behind_colon.ensures.1)) r) (Argument o condition k e (AnExpr 0 (GuardEnd Starts))) refl refl)))
