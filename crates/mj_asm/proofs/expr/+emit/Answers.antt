use Rattle.std.proofs.Common.{◌≡◌, arith, ◌+◌, [], ◌∷◌, ◌++◌, length, map, ap, sym, ◌∙◌, append_assoc, length-append}
use Rattle.std.proofs.lemmas.Result.{on_ok_weaker}
use Rattle.mj_ast.specs.Syntax.{as_actuals}
use Rattle.mj_ast.specs.Trees.{tails_of, operand_of, exprs_of, option_of}
use Rattle.mj_ast.specs.declared.expr.Expr.{out-Expr}
use Rattle.mj_ast.specs.Trees.{expr_of, choice_of, variable_of}
use Rattle.mj_ast.specs.declared.expr.Choice.{out-Choice}
use Rattle.mj_ast.specs.declared.expr.Variable.{out-Variable}
use Rattle.mj_pcode.specs.declared.instr.Instr.TheVariants.{JumpUnless, Jump}
use Rattle.mj_pcode.specs.declared.instr.Instr.TheVariants as instr
use Rattle.mj_asm.specs.Code.{expr_code, tails_code, operand_code, exprs_code, subscripts_code, others_code, reference, count, actuals_code, shape_of, plain_shape}
use Rattle.mj_asm.proofs.Emitted.{chosen, about_made}
use Rattle.mj_asm.proofs.Rows.{expr_is, variable_is, call_is, about_is, extrinsic_is, choice_is, count_is}
use Rattle.mj_asm.proofs.expr.+emit.Goals as goal

pub emit_expr-returns : goal.emit_expr-returns
emit_expr-returns t c =
    let base = c.args.code.now.items in
    let x = operand_code (length base) (operand_of (out-Expr c.args.e.now).first) in
    on_ok_weaker c.emit_tails.result (λ h.
    h
    ∙ ap (λ is. is ++ tails_code (length is) (tails_of c.deref.result.now)) c.in_ok-emit_operand.ensures
    ∙ append_assoc base x _
    ∙ ap (λ n. base ++ (x ++ tails_code n (tails_of c.deref.result.now))) (length-append base x)
    ∙ ap (λ ts. base ++ (x ++ tails_code (length base + length x) (tails_of ts))) c.deref.ensures.value
    ∙ ap (λ e. base ++ expr_code (length base) e) (sym (expr_is c.args.e.now))) c.emit_tails.ensures

pub emit_subscripts-returns : goal.emit_subscripts-returns
emit_subscripts-returns t c =
    let base = c.args.code.now.items in
    on_ok_weaker c.emit_all.result (λ h.
    h
    ∙ ap (λ es. base ++ exprs_code (length base) (exprs_of es)) c.deref.ensures.value
    ∙ ap (λ v. base ++ subscripts_code (length base) v) (sym (variable_is c.args.variable.now))) c.emit_all.ensures

pub emit_choice-returns : goal.emit_choice-returns
emit_choice-returns t c =
    let base = c.args.code.now.items in
    let x = c.args.choice.now in
    chosen base (expr_code (length base) (expr_of (out-Choice x).condition)) (λ k. expr_code k (expr_of (out-Choice x).value)) (λ k. others_code k (choice_of x))
    c.emit_expr.new.code.items c.put.new.code.items c.emit_expr-2.new.code.items c.put-2.new.code.items c.aim.new.code.items c.emit_others.new.code.items _ (JumpUnless 0)
    (Jump 0) c.len-test.result c.len-exit.result
    c.in_ok-emit_expr.ensures (c.len-test.ensures ∙ c.emit_expr.new.code.ok.0) c.in_ok-put.ensures c.in_ok-emit_expr-2.ensures
    (c.len-exit.ensures ∙ c.emit_expr-2.new.code.ok.0) c.in_ok-put-2.ensures c.aim.ensures c.in_ok-emit_others.ensures c.aim_jump.ensures
    ∙ ap (λ is. base ++ is) (sym (choice_is (length base) x))

pub emit_operand-returns-in_ok-emit_all-in-Call : goal.emit_operand-returns-in_ok-emit_all-in-Call
emit_operand-returns-in_ok-emit_all-in-Call t c =
    let base = c.args.code.now.items in
    let f = c.in-Call.function in
    let es = exprs_of c.in-Call.arguments.items in
    let all = c.in_ok-emit_all-in-Call.ensures ∙ ap (λ l. base ++ exprs_code (length base) (exprs_of l)) c.deref-in-Call.ensures.value in
    let n = c.len.ensures ∙ c.in-Call.arguments.ok.0 ∙ sym (count_is c.in-Call.arguments.items) in
    on_ok_weaker c.put-in-Call.result (λ h.
    h
    ∙ ap (λ l. l ++ instr.CallFunction f c.len.result ∷ []) all
    ∙ append_assoc base (exprs_code (length base) es) (instr.CallFunction f c.len.result ∷ [])
    ∙ ap (λ k. base ++ (exprs_code (length base) es ++ instr.CallFunction f k ∷ [])) n
    ∙ ap (λ x. base ++ operand_code (length base) x) (sym (ap operand_of c.in-Call.is ∙ call_is f c.in-Call.arguments))) c.put-in-Call.ensures

pub emit_operand-returns-in_ok-name-in-About-2 : goal.emit_operand-returns-in_ok-name-in-About-2
emit_operand-returns-in_ok-name-in-About-2 t c =
    let base = c.args.code.now.items in
    let f = c.in-About.function in
    let v = c.in-About.variable in
    let x = variable_of v in
    let es = exprs_of c.in-About.others.items in
    let cs = subscripts_code (length base) x in
    let ce = exprs_code (length base + length cs + 1) es in
    let subscripts = (out-Variable v).subscripts in
    let held : c.len-in-About.result ≡ (reference x).count =
    c.len-in-About.ensures ∙ subscripts.ok.0 ∙ sym (count_is subscripts.items) ∙ sym (ap (λ y. (reference y).count) (variable_is v)) in
    let more : c.len-in-About-2.result ≡ count es = c.len-in-About-2.ensures ∙ c.in-About.others.ok.0 ∙ sym (count_is c.in-About.others.items) in
    let total : c.len-in-About.result + c.len-in-About-2.result ≡ (reference x).count + count es = omega (arith, held, more) in
    on_ok_weaker c.put-in-About-2.result (λ h.
    about_made base cs (λ k. exprs_code k es) c.emit_subscripts-in-About.new.code.items c.put-in-About.new.code.items c.emit_all-in-About.new.code.items _
    (instr.CheckNamed f c.in_ok-name-in-About.name) _
    c.in_ok-emit_subscripts-in-About.ensures c.in_ok-put-in-About.ensures
    (c.in_ok-emit_all-in-About.ensures ∙ ap (λ l. c.put-in-About.new.code.items ++ exprs_code (length c.put-in-About.new.code.items) (exprs_of l)) c.deref-in-About.ensures.value) h
    ∙ ap (λ q. base ++ (cs ++ instr.CheckNamed f q ∷ (ce ++ instr.CallNameFunction f c.in_ok-name-in-About-2.name (c.len-in-About.result + c.len-in-About-2.result) ∷ [])))
    c.in_ok-name-in-About.ensures
    ∙ ap (λ q. base ++ (cs ++ instr.CheckNamed f (reference x) ∷ (ce ++ instr.CallNameFunction f q (c.len-in-About.result + c.len-in-About-2.result) ∷ []))) c.in_ok-name-in-About-2.ensures
    ∙ ap (λ k. base ++ (cs ++ instr.CheckNamed f (reference x) ∷ (ce ++ instr.CallNameFunction f (reference x) k ∷ []))) total
    ∙ ap (λ o. base ++ operand_code (length base) o) (sym (ap operand_of c.in-About.is ∙ about_is f v c.in-About.others))) c.put-in-About-2.ensures

pub emit_operand-returns-in_ok-begins-in-Extrinsic : goal.emit_operand-returns-in_ok-begins-in-Extrinsic
emit_operand-returns-in_ok-begins-in-Extrinsic t c =
    let base = c.args.code.now.items in
    let x = c.in-Extrinsic.target in
    let held = c.deref-in-Extrinsic.ensures.value in
    let ca = actuals_code (length base) (as_actuals (map option_of c.in-Extrinsic.actuals.items)) in
    let all = c.in_ok-written-in-Extrinsic.ensures.code ∙ ap (λ l. base ++ actuals_code (length base) (as_actuals (map option_of l))) held in
    let passed = c.plain-passed.ensures ∙ ap plain_shape (c.in_ok-written-in-Extrinsic.ensures.shape ∙ ap (λ l. shape_of (as_actuals (map option_of l))) held) in
    on_ok_weaker c.put-in-Extrinsic.result (λ h.
    h
    ∙ ap (λ l. l ++ instr.Invoke c.in_ok-begins-in-Extrinsic.begins c.plain-passed.result ∷ []) all
    ∙ append_assoc base ca (instr.Invoke c.in_ok-begins-in-Extrinsic.begins c.plain-passed.result ∷ [])
    ∙ ap (λ q. base ++ (ca ++ instr.Invoke q c.plain-passed.result ∷ [])) c.in_ok-begins-in-Extrinsic.ensures
    ∙ ap (λ s. base ++ (ca ++ instr.Invoke x s ∷ [])) passed
    ∙ ap (λ o. base ++ operand_code (length base) o) (sym (ap operand_of c.in-Extrinsic.is ∙ extrinsic_is x c.in-Extrinsic.actuals))) c.put-in-Extrinsic.ensures
