use Rattle.std.proofs.Common.{[], ◌∷◌, refl, length, inl, inr, arith}
use Rattle.mj_ast.specs.declared.sign.Sign.TheVariants.{Comma, Close}
use Rattle.mj_ast.specs.Tokens.{Signed}
use Rattle.mj_ast.specs.Commands.{Put, Text, more_parts}
use Rattle.mj_ast.specs.Trees.{expr_of, exprs_of}
use Rattle.mj_lex.specs.Seen.{tokens_seen}
use Rattle.mj_line.specs.Forms.{PieceComma, PieceText, PieceBehind, SetBehind, AnExpr, sort_of}
use Rattle.mj_line.specs.Machine.{Argument}
use Rattle.mj_cmd.specs.Parts.{piece_node}
use Rattle.mj_cmd.proofs.Follow.{sign_at, reads_err, room_for, went_then, went_token, went_text, fails_then, fails_enter, fails_here}
use Rattle.mj_cmd.proofs.Places.{text_untaken, first_untaken, pieces_untaken, piece_closes, piece_wants, piece_ends, went_from, went_count, went_more, first_length, more_length}
use Rattle.mj_cmd.proofs.set.texts.Goals as goal

pub returns-in-None-clause-reads : goal.returns-in-None-clause-reads
returns-in-None-clause-reads c = λ m r listed o condition k done. fails_here c.args.phrases.limited c.stuck.result m c.args.tokens.now (PieceComma listed) o
    condition k done refl (first_untaken listed (tokens_seen c.args.tokens.now) c.in-None.ensures) (inl refl) (c.stuck.ensures c.args.phrases.limited)

pub returns-in_err-first-in-Some-clause-reads : goal.returns-in_err-first-in-Some-clause-reads
returns-in_err-first-in-Some-clause-reads c = λ m r listed o condition k done.
    reads_err c.args.phrases.limited _ _ c.from_residual.result c.in_err-first-in-Some.field-0.0 m c.args.tokens.now _ _ c.from_residual.ensures.1
    (fails_then c.args.phrases.limited (Put Comma ∷ []) c.in_err-first-in-Some.field-0.0 m c.args.tokens.now (PieceComma listed) c.in-Some.behind.now
    (PieceText listed 2) o condition k done (went_token c.args.phrases.limited (Signed Comma) (Put Comma) m c.args.tokens.now (PieceComma listed)
    c.in-Some.behind.now (PieceText listed 2) o condition k done c.in-Some.ensures.0 refl refl)
    (λ d. fails_enter c.args.phrases.limited c.in_err-first-in-Some.field-0.0 m c.in-Some.behind.now (PieceText listed 2) (AnExpr 1 (PieceBehind listed 2)) o
    condition k d tt refl (text_untaken listed 2 (tokens_seen c.in-Some.behind.now)) (inl refl)
    (c.in_err-first-in-Some.ensures.reads m (room_for c.args.phrases.limited m c.args.tokens.now c.in-Some.behind.now (omega (arith, c.in-Some.ensures.1)) r)
    (Argument o condition k d (AnExpr 1 (PieceBehind listed 2))) refl refl)))

pub commas-init : goal.commas-init
commas-init c = record {
  goes = λ m r listed o condition k done.
      went_from c.args.phrases.limited c.new-texts.result.items c.added.new.list.items c.in_ok-first-in-Some.first m c.args.tokens.now
      c.in_ok-first-in-Some.rest.now listed o condition k done c.new-texts.ensures.items c.in_ok-added-in-Some.ensures
      (went_then c.args.phrases.limited (Put Comma ∷ []) (Text 1 (expr_of c.in_ok-first-in-Some.first) ∷
      []) m c.args.tokens.now (PieceComma listed) c.in-Some.behind.now (PieceText listed 2) c.in_ok-first-in-Some.rest.now (PieceBehind listed 2) o
      condition k done (went_token c.args.phrases.limited (Signed Comma) (Put Comma) m c.args.tokens.now (PieceComma listed) c.in-Some.behind.now
      (PieceText listed 2) o condition k done c.in-Some.ensures.0 refl refl)
      (λ d. went_text c.args.phrases.limited 1 (expr_of c.in_ok-first-in-Some.first) m c.in-Some.behind.now (PieceText listed 2) c.in_ok-first-in-Some.rest.now
      (PieceBehind listed 2) o condition k d refl (text_untaken listed 2 (tokens_seen c.in-Some.behind.now)) (inl refl)
      (c.in_ok-first-in-Some.ensures.reads m (room_for c.args.phrases.limited m c.args.tokens.now c.in-Some.behind.now (omega (arith, c.in-Some.ensures.1)) r)
      (Argument o condition k d (AnExpr 1 (PieceBehind listed 2))) refl refl)));
  some = first_length c.new-texts.result.items c.added.new.list.items c.in_ok-first-in-Some.first c.new-texts.ensures.items c.in_ok-added-in-Some.ensures;
  falls = omega (arith, c.in_ok-first-in-Some.ensures.shorter, c.in-Some.ensures.1);
}

pub returns-in_err-text-in-Some-clause-reads : goal.returns-in_err-text-in-Some-clause-reads
returns-in_err-text-in-Some-clause-reads c = λ m r listed o condition k done.
    reads_err c.args.phrases.limited _ _ c.from_residual-in_err-text-in-Some.result c.in_err-text-in-Some.field-0.0 m c.args.tokens.now _ _ c.from_residual-in_err-text-in-Some.ensures.1
    (fails_then c.args.phrases.limited (more_parts (exprs_of c.commas.texts.items)) c.in_err-text-in-Some.field-0.0 m c.args.tokens.now (PieceComma listed)
    c.commas.rest.now (piece_node listed c.len.result) o condition k done
    (went_count c.args.phrases.limited (more_parts (exprs_of c.commas.texts.items)) m c.args.tokens.now c.commas.rest.now listed c.len.result
    (length c.commas.texts.items) o condition k done (omega (arith, c.len.ensures)) (c.commas.invariant.goes m r listed o condition k done))
    (λ d. c.in_err-text-in-Some.ensures.reads m (room_for c.args.phrases.limited m c.args.tokens.now c.commas.rest.now c.commas.invariant.falls r) listed o condition k d))

pub commas-preserved : goal.commas-preserved
commas-preserved c = record {
  goes = λ m r listed o condition k done.
      went_more c.args.phrases.limited c.commas.texts.items c.added-in-Some-behind_comma.new.list.items c.in_ok-text-in-Some.text c.len.result m
      c.args.tokens.now c.commas.rest.now c.in_ok-text-in-Some.behind.now listed o condition k done (omega (arith, c.len.ensures))
      c.in_ok-added-in-Some-2.ensures c.commas.invariant.some.0
      (c.commas.invariant.goes m r listed o condition k done)
      (λ d. c.in_ok-text-in-Some.ensures.reads m (room_for c.args.phrases.limited m c.args.tokens.now c.commas.rest.now c.commas.invariant.falls r) listed o condition k d);
  some = more_length c.commas.texts.items c.added-in-Some-behind_comma.new.list.items c.in_ok-text-in-Some.text c.len.result (omega (arith, c.len.ensures))
      c.in_ok-added-in-Some-2.ensures c.in_ok-text-in-Some.ensures.few;
  falls = omega (arith, c.in_ok-text-in-Some.ensures.shorter, c.in-Some-behind_comma.ensures.1, c.commas.invariant.falls);
}

pub returns-in-None-behind_close-clause-reads : goal.returns-in-None-behind_close-clause-reads
returns-in-None-behind_close-clause-reads c = λ m r listed o condition k done.
    fails_then c.args.phrases.limited _ c.stuck-in-None-behind_close.result m c.args.tokens.now (PieceComma listed) c.commas.rest.now
    (piece_node listed (length c.commas.texts.items)) o condition k done (c.commas.invariant.goes m r listed o condition k done)
    (λ d. fails_here c.args.phrases.limited c.stuck-in-None-behind_close.result m c.commas.rest.now (piece_node listed (length c.commas.texts.items)) o
    condition k d (piece_wants listed (length c.commas.texts.items))
    (pieces_untaken listed (length c.commas.texts.items) (tokens_seen c.commas.rest.now) c.in_default.ensures (inr c.in-None-behind_close.ensures))
    (inl (piece_ends listed (length c.commas.texts.items))) (c.stuck-in-None-behind_close.ensures c.args.phrases.limited))

pub returns-clause-reads : goal.returns-clause-reads
returns-clause-reads c = λ m r listed o condition k done.
    went_then c.args.phrases.limited (more_parts (exprs_of c.commas.texts.items)) (Put Close ∷
    []) m c.args.tokens.now (PieceComma listed) c.commas.rest.now (piece_node listed (length c.commas.texts.items)) c.in-Some-behind_close.behind.now
    (SetBehind listed) o condition k done (c.commas.invariant.goes m r listed o condition k done)
    (λ d. went_token c.args.phrases.limited (Signed Close) (Put Close) m c.commas.rest.now (piece_node listed (length c.commas.texts.items))
    c.in-Some-behind_close.behind.now (SetBehind listed) o condition k d c.in-Some-behind_close.ensures.0
    (sign_at (sort_of (piece_node listed (length c.commas.texts.items))) Close)
    (piece_closes listed (length c.commas.texts.items) c.commas.invariant.some.0))
