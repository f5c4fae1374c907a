use Rattle.std.proofs.Common.{[], ◌∷◌, refl, inl, arith, false}
use Rattle.mj_ast.specs.declared.sign.Sign.TheVariants.{Equals}
use Rattle.mj_ast.specs.Tokens.{Signed}
use Rattle.mj_ast.specs.Commands.{Put, Text, targets_parts}
use Rattle.mj_ast.specs.Trees.{expr_of, targets_of}
use Rattle.mj_lex.specs.Seen.{tokens_seen}
use Rattle.mj_line.specs.Forms.{SetTarget, SetBehind, SetValue, SetEnd, AnExpr}
use Rattle.mj_line.specs.Machine.{Argument}
use Rattle.mj_cmd.proofs.Follow.{room_for, went_then, went_token, went_text, fails_then, fails_enter, fails_here}
use Rattle.mj_cmd.proofs.Places.{value_untaken, behind_untaken}
use Rattle.mj_cmd.proofs.set.assignment.Goals as goal

pub returns-in-Err-clause-reads : goal.returns-in-Err-clause-reads
returns-in-Err-clause-reads c = λ m r o condition k done.
    (fails_then c.args.phrases.limited _ c.in-Err.stop m c.args.tokens.now (SetTarget false) c.in_ok-targets.rest.now (SetBehind false) o condition k done
    (c.in_ok-targets.ensures.reads m r o condition k done)
    (λ d. fails_then c.args.phrases.limited (Put Equals ∷ []) c.in-Err.stop m c.in_ok-targets.rest.now (SetBehind false) c.in-Some.behind.now SetValue o
    condition k d (went_token c.args.phrases.limited (Signed Equals) (Put Equals) m c.in_ok-targets.rest.now (SetBehind false) c.in-Some.behind.now SetValue
    o condition k d c.in-Some.ensures.0 refl refl)
    (λ e. fails_enter c.args.phrases.limited c.in-Err.stop m c.in-Some.behind.now SetValue (AnExpr 0 SetEnd) o condition k e tt refl (value_untaken (tokens_seen c.in-Some.behind.now)) (inl refl)
    (c.in-Err.ensures.reads m (room_for c.args.phrases.limited m c.args.tokens.now c.in-Some.behind.now
    (omega (arith, c.in-Some.ensures.1, c.in_ok-targets.ensures.shorter)) r) (Argument o condition k e (AnExpr 0 SetEnd)) refl refl))))

pub returns-in-None-clause-reads : goal.returns-in-None-clause-reads
returns-in-None-clause-reads c = λ m r o condition k done.
    fails_then c.args.phrases.limited _ c.stuck.result m c.args.tokens.now (SetTarget false) c.in_ok-targets.rest.now (SetBehind false) o condition k done
    (c.in_ok-targets.ensures.reads m r o condition k done)
    (λ d. fails_here c.args.phrases.limited c.stuck.result m c.in_ok-targets.rest.now (SetBehind false) o condition k d refl
    (behind_untaken (tokens_seen c.in_ok-targets.rest.now) c.in-None.ensures) (inl refl) (c.stuck.ensures c.args.phrases.limited))

pub returns-in-Ok-clause-reads : goal.returns-in-Ok-clause-reads
returns-in-Ok-clause-reads c = λ m r o condition k done.
    went_then c.args.phrases.limited (targets_parts (targets_of c.in_ok-targets.targets)) (Put Equals ∷ Text 0 (expr_of c.in-Ok.value) ∷
    []) m c.args.tokens.now (SetTarget false) c.in_ok-targets.rest.now (SetBehind false) c.in-Ok.rest.now SetEnd o condition k done
    (c.in_ok-targets.ensures.reads m r o condition k done)
    (λ d. went_then c.args.phrases.limited (Put Equals ∷ []) (Text 0 (expr_of c.in-Ok.value) ∷
    []) m c.in_ok-targets.rest.now (SetBehind false) c.in-Some.behind.now SetValue c.in-Ok.rest.now SetEnd o condition k d
    (went_token c.args.phrases.limited (Signed Equals) (Put Equals) m c.in_ok-targets.rest.now (SetBehind false) c.in-Some.behind.now SetValue o condition k
    d c.in-Some.ensures.0 refl refl)
    (λ e. went_text c.args.phrases.limited 0 (expr_of c.in-Ok.value) m c.in-Some.behind.now SetValue c.in-Ok.rest.now SetEnd o condition k e refl
    (value_untaken (tokens_seen c.in-Some.behind.now)) (inl refl)
    (c.in-Ok.ensures.reads m (room_for c.args.phrases.limited m c.args.tokens.now c.in-Some.behind.now
    (omega (arith, c.in-Some.ensures.1, c.in_ok-targets.ensures.shorter)) r) (Argument o condition k e (AnExpr 0 SetEnd)) refl refl)))
