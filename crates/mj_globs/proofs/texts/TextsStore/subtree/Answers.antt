use Rattle.std.proofs.Common.{ℕ, List, sym, ap, ◌∙◌}
use Rattle.std.proofs.lemmas.Result.{IfOk-weaker}
use Rattle.mj_subs.specs.Collation.{subscript_cmp}
use Rattle.mj_store.specs.Nodes.{subtree}
use Rattle.mj_globs.proofs.texts.TextsStore.subtree.Goals as goal

pub returns-in-None : goal.returns-in-None
returns-in-None c = c.new.ensures ∙ sym (c.in-None.ensures.own c.args.name.now.subscripts)

pub returns-in-Some : goal.returns-in-Some
returns-in-Some c =
    IfOk-weaker c.subtree.result _ _ (λ nodes is. is ∙ ap (λ (p : List (List ℕ)). subtree subscript_cmp p c.in-Some.tree.now) c.subscripts.ensures
    ∙ sym (c.in-Some.ensures.own c.args.name.now.subscripts)) c.subtree.ensures
