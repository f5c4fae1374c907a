use Rattle.std.proofs.Common.{[], ◌∷◌, refl, inl, arith}
use Rattle.mj_ast.specs.declared.sign.Sign.TheVariants.{Colon}
use Rattle.mj_ast.specs.Commands.{Put, Text}
use Rattle.mj_ast.specs.Trees.{expr_of}
use Rattle.mj_lex.specs.Seen.{tokens_seen}
use Rattle.mj_line.specs.Forms.{RangeWanted, RangeEnd, StepWanted, StepEnd, LimitWanted, LimitEnd, AnExpr}
use Rattle.mj_line.specs.Machine.{Argument}
use Rattle.mj_cmd.proofs.Follow.{reads_err, room_for, went_then, went_text, fails_then, fails_enter}
use Rattle.mj_cmd.proofs.Ranges.{range_untaken, step_untaken, limit_untaken, went_colon_text, fails_colon_text, went_unstepped, went_unlimited}
use Rattle.mj_cmd.proofs.repeat.range.Goals as goal

pub returns-in_err-first-clause-reads : goal.returns-in_err-first-clause-reads
returns-in_err-first-clause-reads c = λ m r o condition k done.
    reads_err c.args.phrases.limited _ _ c.from_residual.result c.in_err-first.field-0.0 m c.args.tokens.now _ _ c.from_residual.ensures.1
    (fails_enter c.args.phrases.limited c.in_err-first.field-0.0 m c.args.tokens.now RangeWanted (AnExpr 0 RangeEnd) o condition k done tt refl
    (range_untaken (tokens_seen c.args.tokens.now)) (inl refl) (c.in_err-first.ensures.reads m r (Argument o condition k done (AnExpr 0 RangeEnd)) refl refl))

pub returns-in-Err-clause-reads : goal.returns-in-Err-clause-reads
returns-in-Err-clause-reads c = λ m r o condition k done.
    (fails_then c.args.phrases.limited (Text 0 (expr_of c.in_ok-first.first) ∷
    []) c.in-Err.stop m c.args.tokens.now RangeWanted c.in_ok-first.rest.now RangeEnd o condition k done
    (went_text c.args.phrases.limited 0 (expr_of c.in_ok-first.first) m c.args.tokens.now RangeWanted c.in_ok-first.rest.now RangeEnd o condition k done
    refl (range_untaken (tokens_seen c.args.tokens.now)) (inl refl)
    (c.in_ok-first.ensures.reads m r (Argument o condition k done (AnExpr 0 RangeEnd)) refl refl))
    (λ d. fails_colon_text c.args.phrases.limited c.in-Err.stop m c.in_ok-first.rest.now RangeEnd c.in-Some.behind.now StepWanted StepEnd o condition k d
    c.in-Some.ensures.0 refl refl (step_untaken (tokens_seen c.in-Some.behind.now)) refl
    (λ e. c.in-Err.ensures.reads m (room_for c.args.phrases.limited m c.args.tokens.now c.in-Some.behind.now
    (omega (arith, c.in-Some.ensures.1, c.in_ok-first.ensures.shorter)) r) (Argument o condition k e (AnExpr 0 StepEnd)) refl refl)))

pub returns-in-Err-expression-clause-reads : goal.returns-in-Err-expression-clause-reads
returns-in-Err-expression-clause-reads c = λ m r o condition k done.
    (fails_then c.args.phrases.limited (Text 0 (expr_of c.in_ok-first.first) ∷
    []) c.in-Err-expression.stop m c.args.tokens.now RangeWanted c.in_ok-first.rest.now RangeEnd o condition k done
    (went_text c.args.phrases.limited 0 (expr_of c.in_ok-first.first) m c.args.tokens.now RangeWanted c.in_ok-first.rest.now RangeEnd o condition k done
    refl (range_untaken (tokens_seen c.args.tokens.now)) (inl refl)
    (c.in_ok-first.ensures.reads m r (Argument o condition k done (AnExpr 0 RangeEnd)) refl refl))
    (λ d. fails_then c.args.phrases.limited (Put Colon ∷ Text 0 (expr_of c.in-Ok.step) ∷
    []) c.in-Err-expression.stop m c.in_ok-first.rest.now RangeEnd c.in-Ok.rest.now StepEnd o condition k d
    (went_colon_text c.args.phrases.limited (expr_of c.in-Ok.step) m c.in_ok-first.rest.now RangeEnd c.in-Some.behind.now StepWanted c.in-Ok.rest.now
    StepEnd o condition k d c.in-Some.ensures.0 refl refl (step_untaken (tokens_seen c.in-Some.behind.now)) refl
    (λ e. c.in-Ok.ensures.reads m (room_for c.args.phrases.limited m c.args.tokens.now c.in-Some.behind.now
    (omega (arith, c.in-Some.ensures.1, c.in_ok-first.ensures.shorter)) r) (Argument o condition k e (AnExpr 0 StepEnd)) refl refl))
    (λ e. fails_colon_text c.args.phrases.limited c.in-Err-expression.stop m c.in-Ok.rest.now StepEnd c.in-Some-behind_colon.behind.now LimitWanted LimitEnd o
    condition k e c.in-Some-behind_colon.ensures.0 refl refl (limit_untaken (tokens_seen c.in-Some-behind_colon.behind.now)) refl
    (λ f. c.in-Err-expression.ensures.reads m (room_for c.args.phrases.limited m c.args.tokens.now c.in-Some-behind_colon.behind.now
    (omega (arith, c.in-Some.ensures.1, c.in-Some-behind_colon.ensures.1, c.in_ok-first.ensures.shorter, c.in-Ok.ensures.shorter)) r)
    (Argument o condition k f (AnExpr 0 LimitEnd)) refl refl))))

pub returns-in-None-clause-reads : goal.returns-in-None-clause-reads
returns-in-None-clause-reads c = λ m r o condition k done.
    went_then c.args.phrases.limited (Text 0 (expr_of c.in_ok-first.first) ∷
    []) [] m c.args.tokens.now RangeWanted c.in_ok-first.rest.now RangeEnd c.in_ok-first.rest.now LimitEnd o condition k done
    (went_text c.args.phrases.limited 0 (expr_of c.in_ok-first.first) m c.args.tokens.now RangeWanted c.in_ok-first.rest.now RangeEnd o condition k done
    refl (range_untaken (tokens_seen c.args.tokens.now)) (inl refl)
    (c.in_ok-first.ensures.reads m r (Argument o condition k done (AnExpr 0 RangeEnd)) refl refl))
    (λ d. went_unstepped c.args.phrases.limited m c.in_ok-first.rest.now o condition k d c.in-None.ensures)

pub returns-in-None-behind_colon-clause-reads : goal.returns-in-None-behind_colon-clause-reads
returns-in-None-behind_colon-clause-reads c = λ m r o condition k done.
    went_then c.args.phrases.limited (Text 0 (expr_of c.in_ok-first.first) ∷ []) (Put Colon ∷ Text 0 (expr_of c.in-Ok.step) ∷
    []) m c.args.tokens.now RangeWanted c.in_ok-first.rest.now RangeEnd c.in-Ok.rest.now LimitEnd o condition k done
    (went_text c.args.phrases.limited 0 (expr_of c.in_ok-first.first) m c.args.tokens.now RangeWanted c.in_ok-first.rest.now RangeEnd o condition k done
    refl (range_untaken (tokens_seen c.args.tokens.now)) (inl refl)
    (c.in_ok-first.ensures.reads m r (Argument o condition k done (AnExpr 0 RangeEnd)) refl refl))
    (λ d. went_then c.args.phrases.limited (Put Colon ∷ Text 0 (expr_of c.in-Ok.step) ∷
    []) [] m c.in_ok-first.rest.now RangeEnd c.in-Ok.rest.now StepEnd c.in-Ok.rest.now LimitEnd o condition k d
    (went_colon_text c.args.phrases.limited (expr_of c.in-Ok.step) m c.in_ok-first.rest.now RangeEnd c.in-Some.behind.now StepWanted c.in-Ok.rest.now
    StepEnd o condition k d c.in-Some.ensures.0 refl refl (step_untaken (tokens_seen c.in-Some.behind.now)) refl
    (λ e. c.in-Ok.ensures.reads m (room_for c.args.phrases.limited m c.args.tokens.now c.in-Some.behind.now
    (omega (arith, c.in-Some.ensures.1, c.in_ok-first.ensures.shorter)) r) (Argument o condition k e (AnExpr 0 StepEnd)) refl refl))
    (λ e. went_unlimited c.args.phrases.limited m c.in-Ok.rest.now o condition k e c.in-None-behind_colon.ensures))

pub returns-in-Ok-expression-clause-reads : goal.returns-in-Ok-expression-clause-reads
returns-in-Ok-expression-clause-reads c = λ m r o condition k done.
    went_then c.args.phrases.limited (Text 0 (expr_of c.in_ok-first.first) ∷ []) (Put Colon ∷ Text 0 (expr_of c.in-Ok.step) ∷ Put Colon ∷
    Text 0 (expr_of c.in-Ok-expression.last) ∷ []) m c.args.tokens.now RangeWanted c.in_ok-first.rest.now RangeEnd c.in-Ok-expression.rest.now LimitEnd o
    condition k done (went_text c.args.phrases.limited 0 (expr_of c.in_ok-first.first) m c.args.tokens.now RangeWanted c.in_ok-first.rest.now RangeEnd o
    condition k done refl (range_untaken (tokens_seen c.args.tokens.now)) (inl refl)
    (c.in_ok-first.ensures.reads m r (Argument o condition k done (AnExpr 0 RangeEnd)) refl refl))
    (λ d. went_then c.args.phrases.limited (Put Colon ∷ Text 0 (expr_of c.in-Ok.step) ∷ []) (Put Colon ∷ Text 0 (expr_of c.in-Ok-expression.last) ∷
    []) m c.in_ok-first.rest.now RangeEnd c.in-Ok.rest.now StepEnd c.in-Ok-expression.rest.now LimitEnd o condition k d
    (went_colon_text c.args.phrases.limited (expr_of c.in-Ok.step) m c.in_ok-first.rest.now RangeEnd c.in-Some.behind.now StepWanted c.in-Ok.rest.now
    StepEnd o condition k d c.in-Some.ensures.0 refl refl (step_untaken (tokens_seen c.in-Some.behind.now)) refl
    (λ e. c.in-Ok.ensures.reads m (room_for c.args.phrases.limited m c.args.tokens.now c.in-Some.behind.now
    (omega (arith, c.in-Some.ensures.1, c.in_ok-first.ensures.shorter)) r) (Argument o condition k e (AnExpr 0 StepEnd)) refl refl))
    (λ e. went_colon_text c.args.phrases.limited (expr_of c.in-Ok-expression.last) m c.in-Ok.rest.now StepEnd c.in-Some-behind_colon.behind.now LimitWanted
    c.in-Ok-expression.rest.now LimitEnd o condition k e c.in-Some-behind_colon.ensures.0 refl refl
    (limit_untaken (tokens_seen c.in-Some-behind_colon.behind.now)) refl
    (λ f. c.in-Ok-expression.ensures.reads m (room_for c.args.phrases.limited m c.args.tokens.now c.in-Some-behind_colon.behind.now
    (omega (arith, c.in-Some.ensures.1, c.in-Some-behind_colon.ensures.1, c.in_ok-first.ensures.shorter, c.in-Ok.ensures.shorter)) r)
    (Argument o condition k f (AnExpr 0 LimitEnd)) refl refl)))
