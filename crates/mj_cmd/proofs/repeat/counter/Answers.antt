use Rattle.std.proofs.Common.{[], ◌∷◌, refl, inl, inr}
use Rattle.mj_ast.specs.declared.sign.Sign.TheVariants.{Equals}
use Rattle.mj_ast.specs.Tokens.{Signed}
use Rattle.mj_ast.specs.Commands.{Put, Control}
use Rattle.mj_ast.specs.Trees.{variable_of}
use Rattle.mj_lex.specs.Seen.{tokens_seen}
use Rattle.mj_line.specs.Forms.{ForWanted, ForBehind, RangeWanted, ALocal}
use Rattle.mj_line.specs.Machine.{Argument}
use Rattle.mj_cmd.proofs.Follow.{reads_err, went_then, went_token, fails_then, fails_enter, fails_here}
use Rattle.mj_cmd.proofs.Ranges.{for_untaken, equals_untaken, went_local}
use Rattle.mj_cmd.proofs.repeat.counter.Goals as goal

pub returns-in_err-counter-in-None-clause-reads : goal.returns-in_err-counter-in-None-clause-reads
returns-in_err-counter-in-None-clause-reads c = λ m r o condition k done.
    reads_err c.args.phrases.limited _ _ c.from_residual.result c.in_err-counter-in-None.field-0.0 m c.args.tokens.now _ _ c.from_residual.ensures.1
    (fails_enter c.args.phrases.limited c.in_err-counter-in-None.field-0.0 m c.args.tokens.now ForWanted (ALocal ForBehind) o condition k done c.in-None.ensures
    refl (for_untaken (tokens_seen c.args.tokens.now)) (inr c.requires)
    (c.in_err-counter-in-None.ensures.reads m r (Argument o condition k done (ALocal ForBehind)) refl refl))

pub returns-in-None-behind_equals-clause-reads : goal.returns-in-None-behind_equals-clause-reads
returns-in-None-behind_equals-clause-reads c = λ m r o condition k done.
    fails_then c.args.phrases.limited (Control (variable_of c.in_ok-counter-in-None.counter) ∷
    []) c.stuck-in-None-behind_equals.result m c.args.tokens.now ForWanted c.in_ok-counter-in-None.rest.now ForBehind o condition k done
    (went_local c.args.phrases.limited (variable_of c.in_ok-counter-in-None.counter) m c.args.tokens.now c.in_ok-counter-in-None.rest.now o condition k done
    c.in-None.ensures c.requires (c.in_ok-counter-in-None.ensures.reads m r (Argument o condition k done (ALocal ForBehind)) refl refl))
    (λ d. fails_here c.args.phrases.limited c.stuck-in-None-behind_equals.result m c.in_ok-counter-in-None.rest.now ForBehind o condition k d refl
    (equals_untaken (tokens_seen c.in_ok-counter-in-None.rest.now) c.in-None-behind_equals.ensures) (inl refl)
    (c.stuck-in-None-behind_equals.ensures c.args.phrases.limited))

pub returns-in-Some-behind_equals-clause-reads : goal.returns-in-Some-behind_equals-clause-reads
returns-in-Some-behind_equals-clause-reads c = λ m r o condition k done.
    went_then c.args.phrases.limited (Control (variable_of c.in_ok-counter-in-None.counter) ∷ []) (Put Equals ∷
    []) m c.args.tokens.now ForWanted c.in_ok-counter-in-None.rest.now ForBehind c.in-Some-behind_equals.behind.now RangeWanted o condition k done
    (went_local c.args.phrases.limited (variable_of c.in_ok-counter-in-None.counter) m c.args.tokens.now c.in_ok-counter-in-None.rest.now o condition k done
    c.in-None.ensures c.requires (c.in_ok-counter-in-None.ensures.reads m r (Argument o condition k done (ALocal ForBehind)) refl refl))
    (λ d. went_token c.args.phrases.limited (Signed Equals) (Put Equals) m c.in_ok-counter-in-None.rest.now ForBehind c.in-Some-behind_equals.behind.now
    RangeWanted o condition k d c.in-Some-behind_equals.ensures.0 refl refl)
