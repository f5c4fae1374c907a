use Rattle.std.proofs.Common.{◌≡◌, ℕ, List, ap, ◌∙◌, subst}
use Rattle.std.specs.Prelude.{◌↔◌, IsTrue}
use Rattle.std.proofs.lemmas.Result.{IfOk-weaker}
use Rattle.mj_txlog.specs.Accesses.{Accesses}
use Rattle.mj_txlog.specs.Logged.{Logged}
use Rattle.mj_txlog.specs.Follows.{AreFollowing}
use Rattle.mj_txlog.proofs.log.TxLog.follows.Goals as goal

pub returns : goal.returns
returns c =
    let g = c.args.globals.now in
    let log = c.args.self.now in
    let entries : c.deref.result.now ≡ log.transaction.accesses = c.deref.ensures.value ∙ ap (λ (l : Logged). l.transaction.accesses) c.self.view_is in
    let stamps : c.deref-2.result.now ≡ log.stamps = c.deref-2.ensures.value ∙ ap (λ (l : Logged). l.stamps) c.self.view_is in
    IfOk-weaker c.are_following.result _ _
    (λ b told. subst (λ (xs : Accesses). IsTrue b ↔ AreFollowing g xs log.stamps) entries
    (subst (λ (ss : List ℕ). IsTrue b ↔ AreFollowing g c.deref.result.now ss) stamps told))
    c.are_following.ensures
