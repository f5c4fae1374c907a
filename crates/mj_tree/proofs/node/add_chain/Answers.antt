use Rattle.std.proofs.Common.{◌<◌, [], ◌∷◌, length, refl, sym, subst, arith}
use Rattle.mj_store.specs.Questions.{Subtree}
use Rattle.mj_tree.specs.Rows.{Adds}
use Rattle.mj_tree.proofs.Written.{adds_stopped}
use Rattle.mj_tree.proofs.node.add_chain.Goals as goal

pub returns-in_err-child : goal.returns-in_err-child
returns-in_err-child c =
    adds_stopped c.from_residual.result c.args.children.now c.args.children.now c.args.sub.now ((c.args.path.now, c.args.text) ∷ []) c.from_residual.ensures.0 c.requires.sound refl

pub add-requires : goal.add-requires
add-requires c = record {
  sound = c.requires.sound;
  absent = c.requires.absent;
  filled = subst (λ (n : Subtree). 0 < length n) (sym c.in_ok-child.ensures) (omega arith);
}

pub returns : goal.returns
returns c = subst (λ (n : Subtree). Adds c.args.children.now c.add.new.self c.args.sub.now n c.add.result) c.in_ok-child.ensures c.add.ensures
