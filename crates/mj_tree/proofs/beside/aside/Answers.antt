use Rattle.std.proofs.Common.{refl}
use Rattle.mj_subs.specs.Collation.{subscript_cmp}
use Rattle.mj_tree.specs.Rows.{all_of}
use Rattle.mj_tree.proofs.Laters.{aside_none, aside_some}
use Rattle.mj_tree.proofs.beside.aside.Goals as goal

pub returns-in-None : goal.returns-in-None
returns-in-None c = aside_none subscript_cmp c.args.sub.now (all_of c.args.children.now) c.in-None.ensures.1.0

pub returns-in-Some : goal.returns-in-Some
returns-in-Some c =
    let found = aside_some subscript_cmp c.args.sub.now (all_of c.args.children.now) (c.in-Some.next, c.in-Some.child) c.in-Some.ensures.0 c.in-Some.ensures.1 in (refl, found.0, found.1)
