use Rattle.std.proofs.Common.{◌<◌, ◌-◌, take, drop, length, sym, subst, arith}
use Rattle.mj_store.specs.Questions.{Subtree}
use Rattle.mj_tree.specs.Rows.{all_of}
use Rattle.mj_tree.proofs.Nest.{first_and_rest}
use Rattle.mj_tree.proofs.Written.{some_alone, chained}
use Rattle.mj_tree.proofs.node.+chain.Goals as goal

pub only-requires : goal.only-requires
only-requires t c = subst (λ (n : Subtree). 0 < length n) (sym c.in_ok-child-in-len1-up.ensures) (omega arith)

pub invariant_of-result-in-len1-up : goal.invariant_of-result-in-len1-up
invariant_of-result-in-len1-up t c = (
  c.in_ok-only-in-len1-up.ensures.sound,
  some_alone (all_of c.in_ok-only-in-len1-up.field-0.value) c.sub-item.result c.in_ok-child-in-len1-up.child c.in_ok-only-in-len1-up.ensures.alone,
)

pub returns-in_ok-only-in-len1-up : goal.returns-in_ok-only-in-len1-up
returns-in_ok-only-in-len1-up t c =
    chained c.args.path.now (take (length c.args.path.now - 1) (drop 1 c.args.path.now)) c.sub-item.result c.args.text (all_of c.in_ok-only-in-len1-up.field-0.value)
    c.in_ok-child-in-len1-up.child c.in_ok-only-in-len1-up.ensures.alone c.in_ok-child-in-len1-up.ensures
    (first_and_rest c.args.path.now c.sub-item.result c.in-len1-up.len_at_least c.sub-item.is)
