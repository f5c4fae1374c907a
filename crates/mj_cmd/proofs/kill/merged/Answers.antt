use Rattle.std.proofs.Common.{[], ◌∷◌, refl, inl, arith}
use Rattle.mj_ast.specs.declared.sign.Sign.TheVariants.{Equals}
use Rattle.mj_ast.specs.Tokens.{Signed}
use Rattle.mj_ast.specs.Commands.{Put, Place}
use Rattle.mj_ast.specs.Trees.{variable_of}
use Rattle.mj_lex.specs.Seen.{tokens_seen}
use Rattle.mj_line.specs.Forms.{MergeInto, MergeBehind, MergeFrom, MergeEnd, AVar}
use Rattle.mj_line.specs.Machine.{Argument}
use Rattle.mj_cmd.proofs.Follow.{reads_err, room_for, went_then, went_token, went_place, fails_then, fails_enter, fails_here}
use Rattle.mj_cmd.proofs.Places.{into_untaken, from_untaken, merged_untaken}
use Rattle.mj_cmd.proofs.kill.merged.Goals as goal

pub returns-in_err-into-clause-reads : goal.returns-in_err-into-clause-reads
returns-in_err-into-clause-reads c = λ m r o condition k done.
    reads_err c.args.phrases.limited _ _ c.from_residual.result c.in_err-into.field-0.0 m c.args.tokens.now _ _ c.from_residual.ensures.1
    (fails_enter c.args.phrases.limited c.in_err-into.field-0.0 m c.args.tokens.now MergeInto (AVar 0 MergeBehind) o condition k done tt refl
    (into_untaken (tokens_seen c.args.tokens.now)) (inl refl) (c.in_err-into.ensures.reads m r (Argument o condition k done (AVar 0 MergeBehind)) refl refl))

pub returns-in-Err-clause-reads : goal.returns-in-Err-clause-reads
returns-in-Err-clause-reads c = λ m r o condition k done.
    (fails_then c.args.phrases.limited _ c.in-Err.stop m c.args.tokens.now MergeInto c.in_ok-into.rest.now MergeBehind o condition k done
    (went_place c.args.phrases.limited 0 (variable_of c.in_ok-into.into) m c.args.tokens.now MergeInto c.in_ok-into.rest.now MergeBehind o condition k done
    refl (into_untaken (tokens_seen c.args.tokens.now)) (inl refl)
    (c.in_ok-into.ensures.reads m r (Argument o condition k done (AVar 0 MergeBehind)) refl refl))
    (λ d. fails_then c.args.phrases.limited (Put Equals ∷ []) c.in-Err.stop m c.in_ok-into.rest.now MergeBehind c.in-Some.behind.now MergeFrom o condition k d
    (went_token c.args.phrases.limited (Signed Equals) (Put Equals) m c.in_ok-into.rest.now MergeBehind c.in-Some.behind.now MergeFrom o condition k d
    c.in-Some.ensures.0 refl refl)
    (λ e. fails_enter c.args.phrases.limited c.in-Err.stop m c.in-Some.behind.now MergeFrom (AVar 0 MergeEnd) o condition k e tt refl
    (from_untaken (tokens_seen c.in-Some.behind.now)) (inl refl)
    (c.in-Err.ensures.reads m (room_for c.args.phrases.limited m c.args.tokens.now c.in-Some.behind.now
    (omega (arith, c.in-Some.ensures.1, c.in_ok-into.ensures.shorter)) r) (Argument o condition k e (AVar 0 MergeEnd)) refl refl))))

pub returns-in-None-clause-reads : goal.returns-in-None-clause-reads
returns-in-None-clause-reads c = λ m r o condition k done.
    fails_then c.args.phrases.limited _ c.stuck.result m c.args.tokens.now MergeInto c.in_ok-into.rest.now MergeBehind o condition k done
    (went_place c.args.phrases.limited 0 (variable_of c.in_ok-into.into) m c.args.tokens.now MergeInto c.in_ok-into.rest.now MergeBehind o condition k done
    refl (into_untaken (tokens_seen c.args.tokens.now)) (inl refl)
    (c.in_ok-into.ensures.reads m r (Argument o condition k done (AVar 0 MergeBehind)) refl refl))
    (λ d. fails_here c.args.phrases.limited c.stuck.result m c.in_ok-into.rest.now MergeBehind o condition k d refl
    (merged_untaken (tokens_seen c.in_ok-into.rest.now) c.in-None.ensures) (inl refl) (c.stuck.ensures c.args.phrases.limited))

pub returns-in-Ok-clause-reads : goal.returns-in-Ok-clause-reads
returns-in-Ok-clause-reads c = λ m r o condition k done.
    went_then c.args.phrases.limited (Place 0 (variable_of c.in_ok-into.into) ∷ []) (Put Equals ∷ Place 0 (variable_of c.in-Ok.from) ∷
    []) m c.args.tokens.now MergeInto c.in_ok-into.rest.now MergeBehind c.in-Ok.rest.now MergeEnd o condition k done
    (went_place c.args.phrases.limited 0 (variable_of c.in_ok-into.into) m c.args.tokens.now MergeInto c.in_ok-into.rest.now MergeBehind o condition k done
    refl (into_untaken (tokens_seen c.args.tokens.now)) (inl refl)
    (c.in_ok-into.ensures.reads m r (Argument o condition k done (AVar 0 MergeBehind)) refl refl))
    (λ d. went_then c.args.phrases.limited (Put Equals ∷ []) (Place 0 (variable_of c.in-Ok.from) ∷
    []) m c.in_ok-into.rest.now MergeBehind c.in-Some.behind.now MergeFrom c.in-Ok.rest.now MergeEnd o condition k d
    (went_token c.args.phrases.limited (Signed Equals) (Put Equals) m c.in_ok-into.rest.now MergeBehind c.in-Some.behind.now MergeFrom o condition k d
    c.in-Some.ensures.0 refl refl)
    (λ e. went_place c.args.phrases.limited 0 (variable_of c.in-Ok.from) m c.in-Some.behind.now MergeFrom c.in-Ok.rest.now MergeEnd o condition k e refl
    (from_untaken (tokens_seen c.in-Some.behind.now)) (inl refl)
    (c.in-Ok.ensures.reads m (room_for c.args.phrases.limited m c.args.tokens.now c.in-Some.behind.now
    (omega (arith, c.in-Some.ensures.1, c.in_ok-into.ensures.shorter)) r) (Argument o condition k e (AVar 0 MergeEnd)) refl refl)))
