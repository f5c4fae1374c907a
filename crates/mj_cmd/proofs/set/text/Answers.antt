use Rattle.std.proofs.Common.{◌-◌, [], ◌∷◌, refl, inl, arith}
use Rattle.mj_ast.specs.declared.sign.Sign.TheVariants.{Comma}
use Rattle.mj_ast.specs.Tokens.{Signed}
use Rattle.mj_ast.specs.Commands.{Put, Text}
use Rattle.mj_ast.specs.Trees.{expr_of}
use Rattle.mj_lex.specs.Seen.{tokens_seen}
use Rattle.mj_line.specs.Forms.{PieceText, PieceBehind, AnExpr, sort_of}
use Rattle.mj_line.specs.Machine.{Argument}
use Rattle.mj_cmd.specs.Parts.{piece_node}
use Rattle.mj_cmd.proofs.Follow.{sign_at, reads_err, room_for, went_then, went_token, went_text, fails_then, fails_enter}
use Rattle.mj_cmd.proofs.Places.{text_untaken, piece_comma_takes}
use Rattle.mj_cmd.proofs.set.text.Goals as goal

pub returns-in_err-text-clause-reads : goal.returns-in_err-text-clause-reads
returns-in_err-text-clause-reads c = λ m r listed o condition k done.
    reads_err c.args.phrases.limited _ _ c.from_residual.result c.in_err-text.field-0.0 m c.args.tokens.now _ _ c.from_residual.ensures.1
    (fails_then c.args.phrases.limited (Put Comma ∷ []) c.in_err-text.field-0.0 m c.args.tokens.now (piece_node listed c.args.count) c.args.behind.now
    (PieceText listed (2 - c.args.count)) o condition k done (went_token c.args.phrases.limited (Signed Comma) (Put Comma) m c.args.tokens.now
    (piece_node listed c.args.count) c.args.behind.now (PieceText listed (2 - c.args.count)) o condition k done c.requires.comma
    (sign_at (sort_of (piece_node listed c.args.count)) Comma) (piece_comma_takes listed c.args.count (omega arith)))
    (λ d. fails_enter c.args.phrases.limited c.in_err-text.field-0.0 m c.args.behind.now (PieceText listed (2 - c.args.count))
    (AnExpr 1 (PieceBehind listed (2 - c.args.count))) o condition k d tt refl (text_untaken listed (2 - c.args.count) (tokens_seen c.args.behind.now)) (inl refl)
    (c.in_err-text.ensures.reads m (room_for c.args.phrases.limited m c.args.tokens.now c.args.behind.now c.requires.room r)
    (Argument o condition k d (AnExpr 1 (PieceBehind listed (2 - c.args.count)))) refl refl)))

pub returns-clause-reads : goal.returns-clause-reads
returns-clause-reads c = λ m r listed o condition k done.
    went_then c.args.phrases.limited (Put Comma ∷ []) (Text 1 (expr_of c.in_ok-text.text) ∷
    []) m c.args.tokens.now (piece_node listed c.args.count) c.args.behind.now (PieceText listed (2 - c.args.count)) c.in_ok-text.rest.now
    (PieceBehind listed (2 - c.args.count)) o condition k done (went_token c.args.phrases.limited (Signed Comma) (Put Comma) m c.args.tokens.now
    (piece_node listed c.args.count) c.args.behind.now (PieceText listed (2 - c.args.count)) o condition k done c.requires.comma
    (sign_at (sort_of (piece_node listed c.args.count)) Comma) (piece_comma_takes listed c.args.count (omega arith)))
    (λ d. went_text c.args.phrases.limited 1 (expr_of c.in_ok-text.text) m c.args.behind.now (PieceText listed (2 - c.args.count)) c.in_ok-text.rest.now
    (PieceBehind listed (2 - c.args.count)) o condition k d refl (text_untaken listed (2 - c.args.count) (tokens_seen c.args.behind.now)) (inl refl)
    (c.in_ok-text.ensures.reads m (room_for c.args.phrases.limited m c.args.tokens.now c.args.behind.now c.requires.room r)
    (Argument o condition k d (AnExpr 1 (PieceBehind listed (2 - c.args.count)))) refl refl))
