use Rattle.std.proofs.Common.{◌≡◌}
use Rattle.mj_tree.specs.Nest.{behind, below, weight}
use Rattle.mj_tree.specs.Steps.{steps_rest}
use Rattle.mj_tree.specs.Walks.{named}
use Rattle.mj_tree.proofs.Lighter.{AreLighter}
use Rattle.mj_tree.proofs.Walked.{Leads, ClosesOn}
use Rattle.mj_tree.proofs.node.Node.+walk.Given as goal

-- where the children to come are taken too, all is; each of them weighs less than the node
abbrev pub invariant-loop-sub : goal.invariant-loop-sub
invariant-loop-sub g l = record {
  taken : Leads g.S.Sink.takes g.S.Sink.more l.sink (named l.global l.word (behind l.fn.front (below (steps_rest l.sub-iterator)))) l.fn.sink (named l.global l.word (behind l.fn.front l.fn.self));
  closed : ClosesOn g.S.Sink.closes l.sink (named l.global l.word (behind l.fn.front (below (steps_rest l.sub-iterator)))) l.fn.sink (named l.global l.word (behind l.fn.front l.fn.self));
  front : l.front ≡ l.fn.front;
  light : AreLighter (weight l.fn.self) (steps_rest l.sub-iterator);
}

abbrev pub decreases-walk : goal.decreases-walk
decreases-walk g l = weight l.self.now
