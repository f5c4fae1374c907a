use Rattle.std.proofs.Common.{Option, Some, None, ◌≡◌, ◌<◌, ◌≤◌, ◌∷◌, ◌++◌, [], ℕ, Bool, subst, length, length-append, ap, sym, ◌∙◌, refl, arith, List}
use Rattle.mj_ast.specs.declared.sign.Sign.TheVariants.{Open, Comma, Close}
use Rattle.mj_ast.specs.declared.function.Callee.{Callee}
use Rattle.mj_ast.specs.Expressions.{Symbol, Applied, Entry, Mark, symbol, count}
use Rattle.mj_ast.specs.declared.expr.Actual as actual
use Rattle.mj_ast.specs.declared.expr.Choice as choice
use Rattle.mj_ast.specs.declared.expr.Expr as expr
use Rattle.mj_ast.specs.declared.expr.Variable.{out-Variable}
use Rattle.std.specs.Borrow.{Bor}
use Rattle.std.specs.Option.{is_some}
use Rattle.mj_lex.specs.Seen.{token_seen}
use Rattle.mj_ast.specs.Syntax.{Extrinsic, Actuals, Expr, Operand, Variable, Exprs, Tails, No, About, Select, Choices, Before, Var}
use Rattle.mj_ast.specs.Trees.{operand_of, expr_of, variable_of, choice_of, tails_of, exprs_of, actuals_of, option_of}
use Rattle.mj_expr.specs.Lists.{behind_list}
use Rattle.mj_expr.specs.Readers.{IsWanted, IsWhole, IsLeft, behind_actual, and_actual}
use Rattle.mj_expr.specs.Machine.{InActuals, Entering, Front, DeepAt, entry_at, State, Sought, Marked, Named, Right, Subscripts, Arguments, InList, InChoice, Held, Wanted, Calling, Behind, AsNamed, held, placed, filled, and_pair, before_choices, run, refused_in, most_of, least_of}
use Rattle.mj_expr.specs.declared.token.Head.{Head}
use Rattle.mj_expr.specs.Reads.{limits, symbols_seen, least_in, most_in, limited_in, IsHead, BeginsNone, IsLabelSize, HasNoComma, HasNoClose, label_seen}
use Rattle.mj_expr.proofs.Made.{expr_made, variable_made, call_made, others_made, variable_count, extrinsic_made, tails_push, exprs_push, actuals_push, count_exprs}
use Rattle.mj_expr.proofs.Steps.{named_ends, comma_goes, comma_over, close_goes, list_refuses, few_refuses, kind_least, kind_most, kind_limited, behind_pushed, reads_from, reads_err, refuses_from, binary_goes, open_goes, call_goes, choice_goes, before_pair, kind_full, about_bare, about_closes, about_goes, entry_ends, actuals_open, actuals_deep}
use Rattle.mj_expr.proofs.Missing.{none_refuses}
use Rattle.mj_expr.proofs.Entries.{caret_enters, actual_goes, actual_closes, actual_refuses}
use Rattle.mj_expr.proofs.Runs.{seen_length}
use Rattle.mj_expr.proofs.Zipper.{levels_some}
use Rattle.mj_expr.proofs.read.+parse.Goals as goal

pub call-returns-in_ok-arguments-in-Texts-clause-reads : goal.call-returns-in_ok-arguments-in-Texts-clause-reads
call-returns-in_ok-arguments-in-Texts-clause-reads t c = λ c' d e.
    ap (λ (ks : List Symbol). run (limits d) ks (Calling c.args.callee c')) c.in-Some.ensures.0
    ∙ ap (λ (f : Callee). run (limits d) (Mark Open ∷ symbols_seen c.in-Some.rest.now) (Calling f c')) c.in-Texts.is
    ∙ c.in_ok-arguments-in-Texts.ensures.reads (Arguments c.in-Texts.function c') d e refl
    ∙ ap (λ (x : Operand). run (limits d) (symbols_seen c.in_ok-arguments-in-Texts.rest.now) (filled x c')) (sym (call_made c.in-Texts.function c.in_ok-arguments-in-Texts.arguments))

pub others-returns-in-Some-clause-reads : goal.others-returns-in-Some-clause-reads
others-returns-in-Some-clause-reads t c = λ before a v c' d e.
    let others = choice_of c.in_ok-others.others in
    ap (λ (ks : List Symbol). run (limits d) ks (held v (InChoice before a c'))) c.in-Some.ensures.0
    ∙ choice_goes (limits d) (symbols_seen c.in-Some.behind.now) before a v c'
    ∙ c.in_ok-others.ensures.reads (and_pair before a v) c' d e
    ∙ ap (λ (x : Choices). run (limits d) (symbols_seen c.in_ok-others.rest.now) (filled (Select x) c')) (before_pair before a v others)
    ∙ ap (λ (x : choice.Choice). run (limits d) (symbols_seen c.in_ok-others.rest.now) (filled (Select (before_choices before (Before a v (choice_of x)))) c')) (sym c.in_ok-new.ensures.ok)

pub expr-joins-preserved : goal.expr-joins-preserved
expr-joins-preserved t c = record {
  reads = λ o d e f g.
      c.joins.invariant.reads o d e f g
      ∙ binary_goes (limits d) (symbols_seen c.joins.rest.now) (symbols_seen c.in-Some.after.now) c.in-Some.op (operand_of c.joins.first-1) (tails_of c.joins.tails.items) o c.in-Some.ensures.0
      ∙ c.in_ok-operand.ensures.reads (Right (operand_of c.joins.first-1) (tails_of c.joins.tails.items) c.in-Some.op o) d e f tt
      ∙ ap (λ (ts : Tails). run (limits d) (symbols_seen c.in_ok-operand.behind.now) (Held (operand_of c.joins.first-1) ts o))
      (sym (ap tails_of c.in_ok-added.ensures ∙ tails_push c.joins.tails.items (record { op = c.in-Some.op; operand = c.in_ok-operand.operand })));
  shorter = omega (arith, c.in_ok-operand.ensures.shorter, c.in-Some.ensures.1, c.joins.invariant.shorter);
}

pub expr-returns-clause-reads : goal.expr-returns-clause-reads
expr-returns-clause-reads t c = λ o d e f g.
    c.joins.invariant.reads o d e f g
    ∙ ap (λ (x : Expr). run (limits d) (symbols_seen c.joins.rest.now) (held x o)) (sym (expr_made _ c.joins.tails))

pub global-returns-in-Some-clause-reads : goal.global-returns-in-Some-clause-reads
global-returns-in-Some-clause-reads t c = λ p d e f.
    reads_from _ _ c.named.result d c.args.tokens.now c.in-Some.rest.now _ _ _
    (ap (λ (ks : List Symbol). run (limits d) ks (Marked p)) c.in-Some.ensures.0) (c.named.ensures.reads p d e)

pub list-returns-then-len-most-clause-reads : goal.list-returns-then-len-most-clause-reads
list-returns-then-len-most-clause-reads t c = λ w d e k.
    let n = count_exprs c.commas.items.items in
    let es = exprs_of c.commas.items.items in
    let most : most_of (limits d) w ≤ count es = omega (arith, n, c.if-len-most.true, c.len.ensures, c.most.ensures, kind_most d w, ap most_in k) in
    refuses_from c.refusal.result _ _
    (c.commas.invariant.reads w d e k
    ∙ ap (λ (ks : List Symbol). run (limits d) ks (behind_list w es)) c.in-Some.ensures.0
    ∙ comma_over (limits d) (symbols_seen c.in-Some.after.now) w es (omega (arith, n, c.commas.invariant.shorter.1)) most
    ∙ ap (λ (b : Bool). refused_in b (Mark Comma ∷ symbols_seen c.in-Some.after.now)) (sym (kind_limited w) ∙ ap limited_in k ∙ sym c.is_limited.ensures)
    ∙ ap (λ (ks : List Symbol). refused_in c.is_limited.result ks) (sym c.in-Some.ensures.0))
    c.refusal.ensures

pub list-returns-in_err-item-clause-reads : goal.list-returns-in_err-item-clause-reads
list-returns-in_err-item-clause-reads t c = λ w d e k.
    let n = count_exprs c.commas.items.items in
    let es = exprs_of c.commas.items.items in
    let few : count es < most_of (limits d) w = omega (arith, n, c.if-len-most.false, c.len.ensures, c.most.ensures, kind_most d w, ap most_in k) in
    let went = c.commas.invariant.reads w d e k
    ∙ ap (λ (ks : List Symbol). run (limits d) ks (behind_list w es)) c.in-Some.ensures.0
    ∙ comma_goes (limits d) (symbols_seen c.in-Some.after.now) w es (omega (arith, n, c.commas.invariant.shorter.1)) few in
    reads_from _ _ c.from_residual-in_err-item.result d c.args.tokens.now c.in-Some.after.now _ _ _ went
    (reads_err _ _ c.from_residual-in_err-item.result c.in_err-item.field-0.0 d c.in-Some.after.now _ _ c.from_residual-in_err-item.ensures.1
    (c.in_err-item.ensures.reads (InList w es) d e (kind_full w c.args.kind (count es) c.len-in-Some.result k (omega (arith, n, c.len-in-Some.ensures)) ∙ sym c.fills-full.ensures) tt))

pub list-commas-preserved : goal.list-commas-preserved
list-commas-preserved t c = record {
  reads = λ w d e k.
      let n = count_exprs c.commas.items.items in
      let es = exprs_of c.commas.items.items in
      let few : count es < most_of (limits d) w = omega (arith, n, c.if-len-most.false, c.len.ensures, c.most.ensures, kind_most d w, ap most_in k) in
      c.commas.invariant.reads w d e k
      ∙ ap (λ (ks : List Symbol). run (limits d) ks (behind_list w es)) c.in-Some.ensures.0
      ∙ comma_goes (limits d) (symbols_seen c.in-Some.after.now) w es (omega (arith, n, c.commas.invariant.shorter.1)) few
      ∙ c.in_ok-item.ensures.reads (InList w es) d e (kind_full w c.args.kind (count es) c.len-in-Some.result k (omega (arith, n, c.len-in-Some.ensures)) ∙ sym c.fills-full.ensures) tt
      ∙ ap (λ (s : State). run (limits d) (symbols_seen c.in_ok-item.behind.now) s) (sym (behind_pushed w es (expr_of c.in_ok-item.item)))
      ∙ ap (λ (xs : Exprs). run (limits d) (symbols_seen c.in_ok-item.behind.now) (behind_list w xs)) (sym (ap exprs_of c.in_ok-added-2.ensures ∙ exprs_push c.commas.items.items c.in_ok-item.item));
  shorter = (
    omega (arith, c.in_ok-item.ensures.shorter, c.in-Some.ensures.1, c.commas.invariant.shorter.0),
    omega (arith, ap length c.in_ok-added-2.ensures, length-append c.commas.items.items (c.in_ok-item.item ∷ [])),
    c.in_ok-item.ensures.stops,
  );
}

pub list-returns-then-len-least-clause-reads : goal.list-returns-then-len-least-clause-reads
list-returns-then-len-least-clause-reads t c = λ w d e k.
    let n = count_exprs c.commas.items.items in
    let es = exprs_of c.commas.items.items in
    let few : count es < least_of w = omega (arith, n, c.if-len-least.true, c.len-2.ensures, c.least.ensures, kind_least w, ap least_in k) in
    refuses_from c.refusal-then-len-least.result _ _
    (c.commas.invariant.reads w d e k
    ∙ few_refuses (limits d) (symbols_seen c.commas.rest.now) w es (omega (arith, n, c.commas.invariant.shorter.1)) few c.commas.invariant.shorter.2 c.in_default.ensures)
    c.refusal-then-len-least.ensures

pub list-returns-in-Some-behind_close-clause-reads : goal.list-returns-in-Some-behind_close-clause-reads
list-returns-in-Some-behind_close-clause-reads t c = λ w d e k.
    let n = count_exprs c.commas.items.items in
    let es = exprs_of c.commas.items.items in
    let many : least_of w ≤ count es = omega (arith, n, c.if-len-least.false, c.len-2.ensures, c.least.ensures, kind_least w, ap least_in k) in
    c.commas.invariant.reads w d e k
    ∙ ap (λ (ks : List Symbol). run (limits d) ks (behind_list w es)) c.in-Some-behind_close.ensures.0
    ∙ close_goes (limits d) (symbols_seen c.in-Some-behind_close.rest.now) w es (omega (arith, n, c.commas.invariant.shorter.1)) many

pub list-returns-clause-reads : goal.list-returns-clause-reads
list-returns-clause-reads t c = λ w d e k.
    let n = count_exprs c.commas.items.items in
    refuses_from c.refusal-in-None.result _ _
    (c.commas.invariant.reads w d e k
    ∙ list_refuses (limits d) (symbols_seen c.commas.rest.now) w (exprs_of c.commas.items.items) (omega (arith, n, c.commas.invariant.shorter.1))
    c.commas.invariant.shorter.2 c.in_default.ensures c.in-None.ensures)
    c.refusal-in-None.ensures

pub named-returns-in_ok-subscripts-in-Some-clause-reads : goal.named-returns-in_ok-subscripts-in-Some-clause-reads
named-returns-in_ok-subscripts-in-Some-clause-reads t c = λ p d e.
    ap (λ (ks : List Symbol). run (limits d) ks (Named c.args.scope c.args.word.now p)) c.in-Some.ensures.0
    ∙ open_goes (limits d) (symbols_seen c.in-Some.rest.now) c.args.scope c.args.word.now p (omega (arith, c.if-room-eq0.false))
    ∙ c.in_ok-subscripts-in-Some.ensures.reads (Subscripts c.args.scope c.args.word.now p) d (omega (arith, c.if-room-eq0.false)) refl
    ∙ ap (λ (v : Variable). run (limits d) (symbols_seen c.in_ok-subscripts-in-Some.rest.now) (placed v p))
    (ap (λ (w : List ℕ). Var c.args.scope w (exprs_of c.in_ok-subscripts-in-Some.subscripts.items)) (sym c.in_ok-word.ensures)
    ∙ sym (variable_made c.args.scope c.in_ok-word.word c.in_ok-subscripts-in-Some.subscripts))

pub named-returns-in-None-clause-reads : goal.named-returns-in-None-clause-reads
named-returns-in-None-clause-reads t c = λ p d e.
    named_ends (limits d) c.args.scope c.args.word.now p (symbols_seen c.args.tokens.now) c.in-None.ensures
    ∙ ap (λ (v : Variable). run (limits d) (symbols_seen c.args.tokens.now) (placed v p))
    (ap (λ (w : List ℕ). Var c.args.scope w No) (sym c.in_ok-word.ensures)
    ∙ ap (λ (es : Exprs). Var c.args.scope c.in_ok-word.word es) (sym (ap exprs_of c.new.ensures.items))
    ∙ sym (variable_made c.args.scope c.in_ok-word.word c.new.result))

pub operand-returns-else-room-levels-clause-reads : goal.operand-returns-else-room-levels-clause-reads
operand-returns-else-room-levels-clause-reads t c = λ c' d e f g.
    let P : Head → Type 0 = λ h. IsHead h (symbol (token_seen c.in-Some.token.now)) in
    let head : symbol (token_seen c.in-Some.token.now) ≡ Applied c.in-Callee.callee = subst P c.in-Callee.is c.in_ok-text.ensures in
    let went = ap (λ (ks : List Symbol). run (limits d) ks (Wanted c')) c.in-Some.ensures.0
    ∙ ap (λ (k : Symbol). run (limits d) (k ∷ symbols_seen c.in-Some.rest.now) (Wanted c')) head
    ∙ call_goes (limits d) (symbols_seen c.in-Some.rest.now) c.in-Callee.callee c' (omega (arith, e, c.if-room-levels.false, c.levels.ensures)) in
    reads_from _ _ c.call.result d c.args.tokens.now c.in-Some.rest.now _ _ _ went
    (c.call.ensures.reads c' d (omega (arith, e, c.if-room-levels.false, c.levels.ensures, levels_some c.in-Callee.callee)))

pub operand-returns-in-Nothing-clause-reads : goal.operand-returns-in-Nothing-clause-reads
operand-returns-in-Nothing-clause-reads t c = λ c' d e f g.
    let P : Head → Type 0 = λ h. IsHead h (symbol (token_seen c.in-Some.token.now)) in
    let wanted : IsWanted c' (symbol (token_seen c.in-Some.token.now) ∷ symbols_seen c.in-Some.rest.now) = subst (IsWanted c') c.in-Some.ensures.0 g in
    let none : BeginsNone (symbol (token_seen c.in-Some.token.now)) = subst P c.in-Nothing.is c.in_ok-text.ensures in
    refuses_from c.refusal-in-Nothing.result _ _
    (ap (λ (ks : List Symbol). run (limits d) ks (Wanted c')) c.in-Some.ensures.0
    ∙ none_refuses (limits d) (limits 0) c' (symbol (token_seen c.in-Some.token.now)) (symbols_seen c.in-Some.rest.now) c.args.full refl f wanted none
    ∙ ap (λ (ks : List Symbol). refused_in c.args.full ks) (sym c.in-Some.ensures.0))
    c.refusal-in-Nothing.ensures

pub operand-returns-in-Entry-clause-reads : goal.operand-returns-in-Entry-clause-reads
operand-returns-in-Entry-clause-reads t c = λ c' d e f g.
    let P : Head → Type 0 = λ h. IsHead h (symbol (token_seen c.in-Some.token.now)) in
    let head : (symbol (token_seen c.in-Some.token.now) ≡ Entry (label_seen c.in-Entry.label)) × IsLabelSize (label_seen c.in-Entry.label) = subst P c.in-Entry.is c.in_ok-text.ensures in
    let went = ap (λ (ks : List Symbol). run (limits d) ks (Wanted c')) c.in-Some.ensures.0
    ∙ ap (λ (k : Symbol). run (limits d) (k ∷ symbols_seen c.in-Some.rest.now) (Wanted c')) head.0 in
    reads_from _ _ c.extrinsic.result d c.args.tokens.now c.in-Some.rest.now _ _ _ went (c.extrinsic.ensures.reads c' d e f)

pub sought-returns-in-Some-clause-reads : goal.sought-returns-in-Some-clause-reads
sought-returns-in-Some-clause-reads t c = λ p d e f.
    reads_from _ _ c.named.result d c.args.tokens.now c.in-Some.rest.now _ _ _
    (ap (λ (ks : List Symbol). run (limits d) ks (Sought p)) c.in-Some.ensures.0) (c.named.ensures.reads p d e)

pub sought-returns-in-Some-behind_caret-clause-reads : goal.sought-returns-in-Some-behind_caret-clause-reads
sought-returns-in-Some-behind_caret-clause-reads t c = λ p d e f.
    reads_from _ _ c.global.result d c.args.tokens.now c.in-Some-behind_caret.rest.now _ _ _
    (ap (λ (ks : List Symbol). run (limits d) ks (Sought p)) c.in-Some-behind_caret.ensures.0) (c.global.ensures.reads p d e f)

pub call-returns-in-Names-clause-reads : goal.call-returns-in-Names-clause-reads
call-returns-in-Names-clause-reads t c = λ c' d e.
    reads_from _ _ c.about.result d c.args.tokens.now c.in-Some.rest.now _ _ _
    (ap (λ (ks : List Symbol). run (limits d) ks (Calling c.args.callee c')) c.in-Some.ensures.0
    ∙ ap (λ (f : Callee). run (limits d) (Mark Open ∷ symbols_seen c.in-Some.rest.now) (Calling f c')) c.in-Names.is)
    (c.about.ensures.reads c' d e)

pub about-returns-then-len-least_subscripts-clause-reads : goal.about-returns-then-len-least_subscripts-clause-reads
about-returns-then-len-least_subscripts-clause-reads t c = λ c' d e.
    let f = c.args.function in
    let v = c.in_ok-variable.variable in
    let n = c.len.ensures ∙ (out-Variable v).subscripts.ok.0 ∙ sym (variable_count v) in
    refuses_from c.refusal.result _ _
    (c.in_ok-variable.ensures.reads (AsNamed f c') d e refl
    ∙ about_bare (limits d) (symbols_seen c.in_ok-variable.rest.now) f (variable_of v) c' (omega (arith, n, c.if-len-least_subscripts.true, c.least_subscripts.ensures)))
    c.refusal.ensures

pub about-returns-in-Some-clause-reads : goal.about-returns-in-Some-clause-reads
about-returns-in-Some-clause-reads t c = λ c' d e.
    let f = c.args.function in
    let v = c.in_ok-variable.variable in
    let n = c.len.ensures ∙ (out-Variable v).subscripts.ok.0 ∙ sym (variable_count v) in
    c.in_ok-variable.ensures.reads (AsNamed f c') d e refl
    ∙ ap (λ (ks : List Symbol). run (limits d) ks (Behind f (variable_of v) c')) c.in-Some.ensures.0
    ∙ about_closes (limits d) (symbols_seen c.in-Some.rest.now) f (variable_of v) c' (omega (arith, n, c.if-len-least_subscripts.false, c.least_subscripts.ensures))
    ∙ ap (λ (es : Exprs). run (limits d) (symbols_seen c.in-Some.rest.now) (filled (About f (variable_of v) es) c')) (sym (others_made c.new.result ∙ ap exprs_of c.new.ensures.items))

pub about-returns-in_err-other-clause-reads : goal.about-returns-in_err-other-clause-reads
about-returns-in_err-other-clause-reads t c = λ c' d e.
    let f = c.args.function in
    let v = c.in_ok-variable.variable in
    let n = c.len.ensures ∙ (out-Variable v).subscripts.ok.0 ∙ sym (variable_count v) in
    let went = c.in_ok-variable.ensures.reads (AsNamed f c') d e refl
    ∙ ap (λ (ks : List Symbol). run (limits d) ks (Behind f (variable_of v) c')) c.in-Some-behind_comma.ensures.0
    ∙ about_goes (limits d) (symbols_seen c.in-Some-behind_comma.behind.now) f (variable_of v) c'
    (omega (arith, n, c.if-len-least_subscripts.false, c.least_subscripts.ensures)) (omega (arith, c.if-most_others-eq0.false, c.most_others.ensures)) in
    reads_from _ _ c.from_residual-in_err-other.result d c.args.tokens.now c.in-Some-behind_comma.behind.now _ _ _ went
    (reads_err _ _ c.from_residual-in_err-other.result c.in_err-other.field-0.0 d c.in-Some-behind_comma.behind.now _ _ c.from_residual-in_err-other.ensures.1
    (c.in_err-other.ensures.other f (variable_of v) c' d e))

pub about-returns-clause-reads : goal.about-returns-clause-reads
about-returns-clause-reads t c = λ c' d e.
    let f = c.args.function in
    let v = c.in_ok-variable.variable in
    let n = c.len.ensures ∙ (out-Variable v).subscripts.ok.0 ∙ sym (variable_count v) in
    c.in_ok-variable.ensures.reads (AsNamed f c') d e refl
    ∙ ap (λ (ks : List Symbol). run (limits d) ks (Behind f (variable_of v) c')) c.in-Some-behind_comma.ensures.0
    ∙ about_goes (limits d) (symbols_seen c.in-Some-behind_comma.behind.now) f (variable_of v) c'
    (omega (arith, n, c.if-len-least_subscripts.false, c.least_subscripts.ensures)) (omega (arith, c.if-most_others-eq0.false, c.most_others.ensures))
    ∙ c.in_ok-other.ensures.other f (variable_of v) c' d e
    ∙ ap (λ (es : Exprs). run (limits d) (symbols_seen c.in_ok-other.rest.now) (filled (About f (variable_of v) es) c'))
    (sym (others_made c.added.new.list ∙ ap exprs_of (c.in_ok-added.ensures ∙ ap (λ (es : List expr.Expr). es ++ c.in_ok-other.other ∷ []) c.new-others.ensures.items)))

pub passed-returns-in_default-clause-reads : goal.passed-returns-in_default-clause-reads
passed-returns-in_default-clause-reads t c = λ label routine c' d e w.
    entry_ends (limits d) label routine c' (symbols_seen c.args.tokens.now) c.in_default.ensures w
    ∙ ap (λ (es : Actuals). run (limits d) (symbols_seen c.args.tokens.now) (filled (Extrinsic (entry_at label routine) es) c')) (sym (ap actuals_of c.new.ensures.items))

pub passed-returns-then-room-eq0-clause-reads : goal.passed-returns-then-room-eq0-clause-reads
passed-returns-then-room-eq0-clause-reads t c = λ label routine c' d e w.
    let ks = symbols_seen c.in-Some.behind.now in
    ap (λ (zs : List Symbol). run (limits d) zs (Entering label routine c')) c.in-Some.ensures.0
    ∙ actuals_deep (limits d) ks label routine c' (omega (arith, e, c.if-room-eq0.true)) (subst (IsWhole label routine) c.in-Some.ensures.0 w)
    ∙ ap DeepAt (sym (ap length c.in-Some.ensures.0) ∙ seen_length c.args.tokens.now)

pub passed-returns-clause-reads : goal.passed-returns-clause-reads
passed-returns-clause-reads t c = λ label routine c' d e w.
    let ks = symbols_seen c.in-Some.behind.now in
    reads_from _ _ c.actuals.result d c.args.tokens.now c.in-Some.behind.now _ _ _
    (ap (λ (zs : List Symbol). run (limits d) zs (Entering label routine c')) c.in-Some.ensures.0
    ∙ actuals_open (limits d) ks label routine c' (omega (arith, e, c.if-room-eq0.false)) (subst (IsWhole label routine) c.in-Some.ensures.0 w))
    (c.actuals.ensures.reads (entry_at label routine) c' d (omega (arith, e, c.if-room-eq0.false)))

pub actual-returns-in-Some-clause-left : goal.actual-returns-in-Some-clause-left
actual-returns-in-Some-clause-left t c = λ h i. subst HasNoComma c.in-Some.ensures.0 h

pub actual-returns-in-Some-behind_close-clause-left : goal.actual-returns-in-Some-behind_close-clause-left
actual-returns-in-Some-behind_close-clause-left t c = λ h i. subst HasNoClose c.in-Some-behind_close.ensures.0 i

pub actual-returns-in_ok-value-in-None-behind_close-clause-reads : goal.actual-returns-in_ok-value-in-None-behind_close-clause-reads
actual-returns-in_ok-value-in-None-behind_close-clause-reads t c = λ u before c' d e.
    c.in_ok-value-in-None-behind_close.ensures.reads (InActuals u before c') d e refl (c.in-None.ensures, c.in-None-behind_close.ensures)

pub actual-returns-in_err-value-in-None-behind_close-clause-reads : goal.actual-returns-in_err-value-in-None-behind_close-clause-reads
actual-returns-in_err-value-in-None-behind_close-clause-reads t c = λ u before c' d e.
    reads_err _ _ c.from_residual.result c.in_err-value-in-None-behind_close.field-0.0 d c.args.tokens.now _ _ c.from_residual.ensures.1
    (c.in_err-value-in-None-behind_close.ensures.reads (InActuals u before c') d e refl (c.in-None.ensures, c.in-None-behind_close.ensures))

pub actuals-commas-preserved : goal.actuals-commas-preserved
actuals-commas-preserved t c = record {
  reads = λ u c' d e.
      let es = actuals_of c.commas.items.items in
      let last = option_of c.commas.last in
      c.commas.invariant.reads u c' d e
      ∙ ap (λ (ks : List Symbol). run (limits d) ks (behind_actual u es c' last)) c.in-Some.ensures.0
      ∙ actual_goes (limits d) (symbols_seen c.in-Some.after.now) u es c' last
      ∙ c.in_ok-item.ensures.reads u (and_actual es last) c' d e
      ∙ ap (λ (xs : Actuals). run (limits d) (symbols_seen c.in_ok-item.behind.now) (behind_actual u xs c' (option_of c.in_ok-item.item)))
      (sym (ap actuals_of c.in_ok-added.ensures ∙ actuals_push c.commas.items.items c.replace-before.result
      ∙ ap (λ (a : actual.Actual). and_actual es (option_of a)) c.replace-before.ensures.value))
      ∙ ap (λ (a : actual.Actual). run (limits d) (symbols_seen c.in_ok-item.behind.now) (behind_actual u (actuals_of c.added.new.list.items) c' (option_of a))) (sym c.replace-before.ensures.after);
  shorter = (
    omega (arith, c.in_ok-item.ensures.shorter, c.in-Some.ensures.1, c.commas.invariant.shorter.0),
    subst (λ (a : actual.Actual). IsLeft (option_of a) (symbols_seen c.in_ok-item.behind.now)) (sym c.replace-before.ensures.after) c.in_ok-item.ensures.left,
  );
}

pub actuals-returns-in_err-item-clause-reads : goal.actuals-returns-in_err-item-clause-reads
actuals-returns-in_err-item-clause-reads t c = λ u c' d e.
    let es = actuals_of c.commas.items.items in
    let last = option_of c.commas.last in
    let went = c.commas.invariant.reads u c' d e
    ∙ ap (λ (ks : List Symbol). run (limits d) ks (behind_actual u es c' last)) c.in-Some.ensures.0
    ∙ actual_goes (limits d) (symbols_seen c.in-Some.after.now) u es c' last in
    reads_from _ _ c.from_residual-in_err-item.result d c.args.tokens.now c.in-Some.after.now _ _ _ went
    (reads_err _ _ c.from_residual-in_err-item.result c.in_err-item.field-0.0 d c.in-Some.after.now _ _ c.from_residual-in_err-item.ensures.1
    (c.in_err-item.ensures.reads u (and_actual es last) c' d e))

pub actuals-returns-in-Some-behind_close-clause-reads : goal.actuals-returns-in-Some-behind_close-clause-reads
actuals-returns-in-Some-behind_close-clause-reads t c = λ u c' d e.
    let es = actuals_of c.commas.items.items in
    let last = option_of c.commas.last in
    c.commas.invariant.reads u c' d e
    ∙ ap (λ (ks : List Symbol). run (limits d) ks (behind_actual u es c' last)) c.in-Some-behind_close.ensures.0
    ∙ actual_closes (limits d) (symbols_seen c.in-Some-behind_close.rest.now) u es c' last
    ∙ ap (λ (xs : Actuals). run (limits d) (symbols_seen c.in-Some-behind_close.rest.now) (filled (Extrinsic u xs) c'))
    (sym (ap actuals_of c.in_ok-added-in-Some-behind_close.ensures ∙ actuals_push c.commas.items.items c.commas.last))

pub actuals-returns-clause-reads : goal.actuals-returns-clause-reads
actuals-returns-clause-reads t c = λ u c' d e.
    refuses_from c.refusal.result _ _
    (c.commas.invariant.reads u c' d e
    ∙ actual_refuses (limits d) (symbols_seen c.commas.rest.now) u (actuals_of c.commas.items.items) c' (option_of c.commas.last) c.commas.invariant.shorter.1 c.in_default.ensures c.in-None.ensures)
    c.refusal.ensures

labelled : (o : Option (Bor (List ℕ))) → is_some (label_seen o) ≡ is_some o
labelled None = refl
labelled (Some l) = refl

pub extrinsic-returns-in_err-routine-clause-reads : goal.extrinsic-returns-in_err-routine-clause-reads
extrinsic-returns-in_err-routine-clause-reads t c = λ c' d e f.
    reads_err _ _ c.from_residual.result c.in_err-routine.field-0.0 d c.args.tokens.now _ _ c.from_residual.ensures.1
    (c.in_err-routine.ensures.reads (label_seen c.args.label) (labelled c.args.label ∙ sym c.is_some.ensures) c' d f)

pub extrinsic-returns-in-Err-clause-reads : goal.extrinsic-returns-in-Err-clause-reads
extrinsic-returns-in-Err-clause-reads t c = λ c' d e f.
    let label = label_seen c.args.label in
    let is = labelled c.args.label ∙ sym c.is_some.ensures in
    refuses_from c.in-Err.stop _ _ (c.in_ok-routine.ensures.reads label is c' d f)
    (c.in-Err.ensures.reads label c.in_ok-routine.routine c' d e (c.in_ok-routine.ensures.whole label is))

pub extrinsic-returns-in-Ok-label_of-clause-reads : goal.extrinsic-returns-in-Ok-label_of-clause-reads
extrinsic-returns-in-Ok-label_of-clause-reads t c = λ c' d e f.
    let label = label_seen c.args.label in
    let is = labelled c.args.label ∙ sym c.is_some.ensures in
    let routine = c.in_ok-routine.routine in
    let made = c.in-Ok-label_of.label in
    c.in_ok-routine.ensures.reads label is c' d f
    ∙ c.in-Ok.ensures.reads label routine c' d e (c.in_ok-routine.ensures.whole label is)
    ∙ ap (λ (l : Option (List ℕ)). run (limits d) (symbols_seen c.in-Ok.rest.now) (filled (Extrinsic (entry_at l routine) (actuals_of c.in-Ok.actuals.items)) c')) (sym c.in-Ok-label_of.ensures)
    ∙ ap (λ (x : Operand). run (limits d) (symbols_seen c.in-Ok.rest.now) (filled x c')) (sym (extrinsic_made (record { label = made; routine = routine }) c.in-Ok.actuals))
