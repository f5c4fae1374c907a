use Rattle.std.proofs.Common.{[], ◌∷◌, ◌++◌, refl, inl, arith}
use Rattle.mj_ast.specs.Commands.{PieceCall}
use Rattle.mj_ast.specs.Trees.{variable_of, destination_of}
use Rattle.mj_lex.specs.Seen.{tokens_seen}
use Rattle.mj_line.specs.Forms.{SetTarget, SetBehind, AVar}
use Rattle.mj_line.specs.Machine.{Argument}
use Rattle.mj_cmd.proofs.Follow.{reads_err, room_for, went_place, fails_enter}
use Rattle.mj_cmd.proofs.Places.{target_untaken, piece_reads}
use Rattle.mj_cmd.proofs.set.destination.Goals as goal

pub returns-in_err-variable-in-None-clause-reads : goal.returns-in_err-variable-in-None-clause-reads
returns-in_err-variable-in-None-clause-reads c = λ m r listed u o condition k done.
    reads_err c.args.phrases.limited _ _ c.from_residual.result c.in_err-variable-in-None.field-0.0 m c.args.tokens.now _ _ c.from_residual.ensures.1
    (fails_enter c.args.phrases.limited c.in_err-variable-in-None.field-0.0 m c.args.tokens.now (SetTarget listed) (AVar 0 (SetBehind listed)) o condition k
    done tt refl (target_untaken listed (tokens_seen c.args.tokens.now) u c.in-None.ensures) (inl refl)
    (c.in_err-variable-in-None.ensures.reads m r (Argument o condition k done (AVar 0 (SetBehind listed))) refl refl))

pub returns-in-Some-clause-reads : goal.returns-in-Some-clause-reads
returns-in-Some-clause-reads c = λ m r listed u o condition k done.
    piece_reads c.args.phrases.limited (λ x. destination_of x.0) (λ x. x.1.now) c.pieces.result m c.args.tokens.now c.in-Some.behind.now c.in-Some.ensures.0
    listed o condition k done c.in-Some.ensures.1 c.in-Some.ensures.2 c.pieces.ensures.pieces
    (c.pieces.ensures.reads m (room_for c.args.phrases.limited m c.args.tokens.now c.in-Some.behind.now (omega (arith, c.in-Some.ensures.3)) r) listed o
    condition k (done ++ PieceCall ∷ []))

pub returns-in_ok-variable-in-None-clause-reads : goal.returns-in_ok-variable-in-None-clause-reads
returns-in_ok-variable-in-None-clause-reads c = λ m r listed u o condition k done.
    went_place c.args.phrases.limited 0 (variable_of c.in_ok-variable-in-None.variable) m c.args.tokens.now (SetTarget listed) c.in_ok-variable-in-None.rest.now
    (SetBehind listed) o condition k done refl (target_untaken listed (tokens_seen c.args.tokens.now) u c.in-None.ensures) (inl refl)
    (c.in_ok-variable-in-None.ensures.reads m r (Argument o condition k done (AVar 0 (SetBehind listed))) refl refl)
