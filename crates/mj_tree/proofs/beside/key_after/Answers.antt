use Rattle.std.proofs.Common.{◌≡◌, true, false, refl, ap, ◌∙◌}
use Rattle.mj_subs.specs.Collation.{subscript_cmp}
use Rattle.mj_subs.specs.Laws.Total.{subscript_cmp_total}
use Rattle.mj_store.specs.Nodes.{is_empty}
use Rattle.mj_tree.specs.Rows.{all_of, live}
use Rattle.mj_tree.proofs.Orders.{filled, first_of_all, first_beyond}
use Rattle.mj_tree.proofs.Places.{sorted-live}
use Rattle.mj_tree.proofs.Trees.{keys_rise}
use Rattle.mj_tree.proofs.beside.key_after.Goals as goal

pub returns-then-is_empty : goal.returns-then-is_empty
returns-then-is_empty c =
    let es = live (all_of c.args.children.now) in
    let rises = keys_rise subscript_cmp es (sorted-live subscript_cmp (all_of c.args.children.now) c.requires.rises) in
    c.subscript.ensures
    ∙ first_of_all subscript_cmp subscript_cmp_total c.first.result es es c.first.ensures.0 c.args.last.now (is_empty c.args.last.now) (ap is_empty (c.if-is_empty.ensures.0 refl))
    refl c.first.ensures.1 rises

pub returns : goal.returns
returns c =
    let es = live (all_of c.args.children.now) in
    let rises = keys_rise subscript_cmp es (sorted-live subscript_cmp (all_of c.args.children.now) c.requires.rises) in
    c.subscript-2.ensures
    ∙ first_beyond subscript_cmp subscript_cmp_total c.after.result es c.after.ensures.0 c.args.last.now (is_empty c.args.last.now)
    (filled c.args.last.now (λ e. let f : false ≡ true = c.if-is_empty.ensures.1 e in absurd cc)) c.after.ensures.1 rises
