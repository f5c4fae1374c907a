use Rattle.std.proofs.Common.{[], ◌∷◌, refl, inl, arith}
use Rattle.mj_ast.specs.declared.sign.Sign.TheVariants.{Question}
use Rattle.mj_ast.specs.Tokens.{Signed}
use Rattle.mj_ast.specs.Commands.{Put, Text}
use Rattle.mj_ast.specs.Trees.{expr_of}
use Rattle.mj_lex.specs.Seen.{tokens_seen}
use Rattle.mj_line.specs.Forms.{ColumnWanted, OutputEnd, AnExpr, sort_of}
use Rattle.mj_line.specs.Machine.{Argument}
use Rattle.mj_cmd.proofs.Follow.{reads_err, room_for, went_then, went_token, went_text, fails_then, fails_enter}
use Rattle.mj_cmd.proofs.Layouts.{column_untaken, question_at, question_takes, went_no_column}
use Rattle.mj_cmd.proofs.layout.column.Goals as goal

pub returns-in-None-clause-reads : goal.returns-in-None-clause-reads
returns-in-None-clause-reads c = λ m r talk n g o condition k done. went_no_column c.args.phrases.limited talk n m c.args.tokens.now o condition k done g c.in-None.ensures

pub returns-in_err-column-in-Some-clause-reads : goal.returns-in_err-column-in-Some-clause-reads
returns-in_err-column-in-Some-clause-reads c = λ m r talk n g o condition k done.
    reads_err c.args.phrases.limited _ _ c.from_residual.result c.in_err-column-in-Some.field-0.0 m c.args.tokens.now _ _ c.from_residual.ensures.1
    (fails_then c.args.phrases.limited (Put Question ∷ []) c.in_err-column-in-Some.field-0.0 m c.args.tokens.now n c.in-Some.behind.now (ColumnWanted talk) o
    condition k done (went_token c.args.phrases.limited (Signed Question) (Put Question) m c.args.tokens.now n c.in-Some.behind.now (ColumnWanted talk) o
    condition k done c.in-Some.ensures.0 (question_at (sort_of n)) (question_takes talk n (tokens_seen c.args.tokens.now) g))
    (λ d. fails_enter c.args.phrases.limited c.in_err-column-in-Some.field-0.0 m c.in-Some.behind.now (ColumnWanted talk) (AnExpr 0 (OutputEnd talk)) o
    condition k d tt refl (column_untaken talk (tokens_seen c.in-Some.behind.now)) (inl refl)
    (c.in_err-column-in-Some.ensures.reads m (room_for c.args.phrases.limited m c.args.tokens.now c.in-Some.behind.now (omega (arith, c.in-Some.ensures.1))
    r) (Argument o condition k d (AnExpr 0 (OutputEnd talk))) refl refl)))

pub returns-in_ok-column-in-Some-clause-reads : goal.returns-in_ok-column-in-Some-clause-reads
returns-in_ok-column-in-Some-clause-reads c = λ m r talk n g o condition k done.
    went_then c.args.phrases.limited (Put Question ∷ []) (Text 0 (expr_of c.in_ok-column-in-Some.column) ∷
    []) m c.args.tokens.now n c.in-Some.behind.now (ColumnWanted talk) c.in_ok-column-in-Some.rest.now (OutputEnd talk) o condition k done
    (went_token c.args.phrases.limited (Signed Question) (Put Question) m c.args.tokens.now n c.in-Some.behind.now (ColumnWanted talk) o condition k done
    c.in-Some.ensures.0 (question_at (sort_of n)) (question_takes talk n (tokens_seen c.args.tokens.now) g))
    (λ d. went_text c.args.phrases.limited 0 (expr_of c.in_ok-column-in-Some.column) m c.in-Some.behind.now (ColumnWanted talk) c.in_ok-column-in-Some.rest.now
    (OutputEnd talk) o condition k d refl (column_untaken talk (tokens_seen c.in-Some.behind.now)) (inl refl)
    (c.in_ok-column-in-Some.ensures.reads m (room_for c.args.phrases.limited m c.args.tokens.now c.in-Some.behind.now (omega (arith, c.in-Some.ensures.1))
    r) (Argument o condition k d (AnExpr 0 (OutputEnd talk))) refl refl))
