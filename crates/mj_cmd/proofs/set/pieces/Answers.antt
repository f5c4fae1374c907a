use Rattle.std.proofs.Common.{[], ◌∷◌, ◌++◌, refl, inl, arith}
use Rattle.mj_ast.specs.declared.sign.Sign.TheVariants.{Open, Close}
use Rattle.mj_ast.specs.Tokens.{Signed}
use Rattle.mj_ast.specs.Commands.{Put, Place, more_parts}
use Rattle.mj_ast.specs.Trees.{variable_of, exprs_of}
use Rattle.mj_lex.specs.Seen.{tokens_seen}
use Rattle.mj_line.specs.Forms.{PieceOpens, PieceVariable, PieceComma, SetBehind, AVar}
use Rattle.mj_line.specs.Machine.{Argument}
use Rattle.mj_cmd.proofs.Follow.{reads_err, room_for, went_then, went_token, went_place, fails_then, fails_enter, fails_here}
use Rattle.mj_cmd.proofs.Places.{variable_untaken, opens_untaken}
use Rattle.mj_cmd.proofs.set.pieces.Goals as goal

pub returns-in_err-variable-in-Some-clause-reads : goal.returns-in_err-variable-in-Some-clause-reads
returns-in_err-variable-in-Some-clause-reads c = λ m r listed o condition k done.
    reads_err c.args.phrases.limited _ _ c.from_residual.result c.in_err-variable-in-Some.field-0.0 m c.args.tokens.now _ _ c.from_residual.ensures.1
    (fails_then c.args.phrases.limited (Put Open ∷ []) c.in_err-variable-in-Some.field-0.0 m c.args.tokens.now (PieceOpens listed) c.in-Some.behind.now
    (PieceVariable listed) o condition k done (went_token c.args.phrases.limited (Signed Open) (Put Open) m c.args.tokens.now (PieceOpens listed)
    c.in-Some.behind.now (PieceVariable listed) o condition k done c.in-Some.ensures.0 refl refl)
    (λ d. fails_enter c.args.phrases.limited c.in_err-variable-in-Some.field-0.0 m c.in-Some.behind.now (PieceVariable listed) (AVar 1 (PieceComma listed)) o
    condition k d tt refl (variable_untaken listed (tokens_seen c.in-Some.behind.now)) (inl refl)
    (c.in_err-variable-in-Some.ensures.reads m (room_for c.args.phrases.limited m c.args.tokens.now c.in-Some.behind.now (omega (arith, c.in-Some.ensures.1)) r)
    (Argument o condition k d (AVar 1 (PieceComma listed))) refl refl)))

pub returns-in_err-texts-in-Some-clause-reads : goal.returns-in_err-texts-in-Some-clause-reads
returns-in_err-texts-in-Some-clause-reads c = λ m r listed o condition k done.
    reads_err c.args.phrases.limited _ _ c.from_residual-in_err-texts-in-Some.result c.in_err-texts-in-Some.field-0.0 m c.args.tokens.now _ _ c.from_residual-in_err-texts-in-Some.ensures.1
    (fails_then c.args.phrases.limited _ c.in_err-texts-in-Some.field-0.0 m c.args.tokens.now (PieceOpens listed) c.in_ok-variable-in-Some.rest.now
    (PieceComma listed) o condition k done (went_then c.args.phrases.limited (Put Open ∷ []) (Place 1 (variable_of c.in_ok-variable-in-Some.variable) ∷
    []) m c.args.tokens.now (PieceOpens listed) c.in-Some.behind.now (PieceVariable listed) c.in_ok-variable-in-Some.rest.now (PieceComma listed) o
    condition k done (went_token c.args.phrases.limited (Signed Open) (Put Open) m c.args.tokens.now (PieceOpens listed) c.in-Some.behind.now
    (PieceVariable listed) o condition k done c.in-Some.ensures.0 refl refl)
    (λ d. (went_place c.args.phrases.limited 1 (variable_of c.in_ok-variable-in-Some.variable) m c.in-Some.behind.now (PieceVariable listed)
    c.in_ok-variable-in-Some.rest.now (PieceComma listed) o condition k d refl (variable_untaken listed (tokens_seen c.in-Some.behind.now)) (inl refl)
    (c.in_ok-variable-in-Some.ensures.reads m (room_for c.args.phrases.limited m c.args.tokens.now c.in-Some.behind.now (omega (arith, c.in-Some.ensures.1))
    r) (Argument o condition k d (AVar 1 (PieceComma listed))) refl refl))))
    (λ d. c.in_err-texts-in-Some.ensures.reads m (room_for c.args.phrases.limited m c.args.tokens.now c.in_ok-variable-in-Some.rest.now
    (omega (arith, c.in_ok-variable-in-Some.ensures.shorter, c.in-Some.ensures.1)) r) listed o condition k d))

pub returns-in_ok-texts-in-Some-clause-reads : goal.returns-in_ok-texts-in-Some-clause-reads
returns-in_ok-texts-in-Some-clause-reads c = λ m r listed o condition k done.
    went_then c.args.phrases.limited (Put Open ∷ Place 1 (variable_of c.in_ok-variable-in-Some.variable) ∷
    []) (more_parts (exprs_of c.in_ok-texts-in-Some.texts.items) ++ Put Close ∷
    []) m c.args.tokens.now (PieceOpens listed) c.in_ok-variable-in-Some.rest.now (PieceComma listed) c.in_ok-texts-in-Some.rest.now (SetBehind listed) o
    condition k done (went_then c.args.phrases.limited (Put Open ∷ []) (Place 1 (variable_of c.in_ok-variable-in-Some.variable) ∷
    []) m c.args.tokens.now (PieceOpens listed) c.in-Some.behind.now (PieceVariable listed) c.in_ok-variable-in-Some.rest.now (PieceComma listed) o
    condition k done (went_token c.args.phrases.limited (Signed Open) (Put Open) m c.args.tokens.now (PieceOpens listed) c.in-Some.behind.now
    (PieceVariable listed) o condition k done c.in-Some.ensures.0 refl refl)
    (λ d. (went_place c.args.phrases.limited 1 (variable_of c.in_ok-variable-in-Some.variable) m c.in-Some.behind.now (PieceVariable listed)
    c.in_ok-variable-in-Some.rest.now (PieceComma listed) o condition k d refl (variable_untaken listed (tokens_seen c.in-Some.behind.now)) (inl refl)
    (c.in_ok-variable-in-Some.ensures.reads m (room_for c.args.phrases.limited m c.args.tokens.now c.in-Some.behind.now (omega (arith, c.in-Some.ensures.1))
    r) (Argument o condition k d (AVar 1 (PieceComma listed))) refl refl))))
    (λ d. c.in_ok-texts-in-Some.ensures.reads m (room_for c.args.phrases.limited m c.args.tokens.now c.in_ok-variable-in-Some.rest.now
    (omega (arith, c.in_ok-variable-in-Some.ensures.shorter, c.in-Some.ensures.1)) r) listed o condition k d)

pub returns-in-None-clause-reads : goal.returns-in-None-clause-reads
returns-in-None-clause-reads c = λ m r listed o condition k done. fails_here c.args.phrases.limited c.stuck.result m c.args.tokens.now (PieceOpens listed) o
    condition k done refl (opens_untaken listed (tokens_seen c.args.tokens.now) c.in-None.ensures) (inl refl) (c.stuck.ensures c.args.phrases.limited)
