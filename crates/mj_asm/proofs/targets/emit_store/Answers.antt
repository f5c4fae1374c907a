use Rattle.std.proofs.Common.{◌+◌, [], ◌∷◌, ◌++◌, sym, ap, ◌∙◌, arith, append_assoc}
use Rattle.std.proofs.lemmas.Result.{on_ok_weaker}
use Rattle.mj_ast.specs.Trees.{variable_of, destination_of}
use Rattle.mj_pcode.specs.declared.instr.Instr.TheVariants as instr
use Rattle.mj_asm.specs.Code as code
use Rattle.mj_asm.proofs.Rows.{count_is}
use Rattle.mj_asm.proofs.targets.emit_store.Goals as goal

pub overflow_add-under : goal.overflow_add-under
overflow_add-under c =
    let es = c.in-Pieces.arguments in
    let n = c.len-count.ensures ∙ es.ok.0 ∙ sym (count_is es.items) in
    let whole = ap (λ d. code.size (destination_of d)) c.in-Pieces.is in
    omega (arith, n, whole, c.requires.above)

pub overflow_add-under-in-Pieces : goal.overflow_add-under-in-Pieces
overflow_add-under-in-Pieces c =
    let es = c.in-Pieces.arguments in
    let n = c.len-count.ensures ∙ es.ok.0 ∙ sym (count_is es.items) in
    let whole = ap (λ d. code.size (destination_of d)) c.in-Pieces.is in
    omega (arith, n, whole, c.requires.above)

pub returns-in_ok-stored-in-Pieces : goal.returns-in_ok-stored-in-Pieces
returns-in_ok-stored-in-Pieces c =
    let base = c.args.code.now.items in
    let es = c.in-Pieces.arguments in
    let r = code.reference (variable_of c.in-Pieces.variable) in
    let depth = c.args.depth in
    let n = c.len-count.ensures ∙ es.ok.0 ∙ sym (count_is es.items) in
    on_ok_weaker c.put-in-Pieces-2.result (λ h.
    h
    ∙ ap (λ l. l ++ instr.Store c.in_ok-stored-in-Pieces.stored (record { above = depth.above + c.len-count.result + 1; taken = depth.taken + 1 }) ∷ []) c.in_ok-put-in-Pieces.ensures
    ∙ append_assoc base (instr.SetPiece c.in_ok-read-in-Pieces.read c.len-count.result depth ∷ []) _
    ∙ ap (λ x. base ++ (instr.SetPiece x c.len-count.result depth
    ∷ instr.Store c.in_ok-stored-in-Pieces.stored (record { above = depth.above + c.len-count.result + 1; taken = depth.taken + 1 }) ∷ [])) c.in_ok-read-in-Pieces.ensures
    ∙ ap (λ x. base ++ (instr.SetPiece r c.len-count.result depth ∷ instr.Store x (record { above = depth.above + c.len-count.result + 1; taken = depth.taken + 1 }) ∷ []))
    c.in_ok-stored-in-Pieces.ensures
    ∙ ap (λ k. base ++ (instr.SetPiece r k depth ∷ instr.Store r (record { above = depth.above + k + 1; taken = depth.taken + 1 }) ∷ [])) n
    ∙ ap (λ d. base ++ code.store_code (destination_of d) depth) (sym c.in-Pieces.is)) c.put-in-Pieces-2.ensures
