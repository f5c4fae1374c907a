use Rattle.std.proofs.Common.{OnOk, IfErr, ◌≡◌, ◌∙◌, subst}
use Rattle.mj_store.specs.Questions.{Subtree}
use Rattle.mj_tree.specs.Nest.{behind}
use Rattle.mj_tree.specs.Walks.{named, StopsSo}
use Rattle.mj_tree.proofs.Copies.{behind_none}
use Rattle.mj_tree.proofs.tree.Tree.walk.Goals as goal

-- all stand behind no subscript
pub returns : goal.returns
returns g c =
    let all : behind c.new.result c.self.inside.root ≡ c.args.self.now = (λ i. behind (c.new.ensures i) (c.self.view_is i)) ∙ behind_none c.args.self.now in
    let first = c.args.sink.now in
    let last = c.walk.new.sink in
    record {
      taken = subst (λ (nodes : Subtree). OnOk c.walk.result (g.S.Sink.takes first (named c.args.global c.args.word.now nodes) last)) all c.walk.ensures.taken;
      closed = subst (λ (nodes : Subtree). IfErr c.walk.result (StopsSo g.S.Sink.closes first (named c.args.global c.args.word.now nodes) last)) all c.walk.ensures.closed;
    }
