use Rattle.std.proofs.Common.{◌≡◌, ◌++◌, ◌∷◌, [], sym, ap, ◌∙◌}
use Rattle.std.proofs.lemmas.Result.{IfOk-weaker}
use Rattle.mj_subs.specs.Name.{Name}
use Rattle.mj_store.specs.Questions.{with_subscripts, order_at}
use Rattle.mj_store.specs.Changes.{followed_by}
use Rattle.mj_txlog.specs.Accesses.{seen, front_of}
use Rattle.mj_txlog.proofs.Fronts.{front_last}
use Rattle.mj_txlog.proofs.sight.order.Goals as goal

pub returns-in-len1-up-clause-next : goal.returns-in-len1-up-clause-next
returns-in-len1-up-clause-next c = IfOk-weaker c.next_below.result _ _
    (λ next h es laid.
    let list = c.as_slice.result.now in
    let last = c.last-item.result in
    let same : list ≡ c.args.name.now.subscripts = c.as_slice.ensures.value ∙ c.subscripts.ensures in
    let whole : followed_by c.args.front.now (last ∷ []) ≡ c.args.name.now =
    ap (λ (k : Name). followed_by k (last ∷ [])) c.requires.front
    ∙ (λ i. with_subscripts c.args.name.now (front_of (sym same i) ++ last ∷ []))
    ∙ ap (with_subscripts c.args.name.now) (front_last list last c.in-len1-up.len_at_least c.last-item.is ∙ same)
    in
    h es laid ∙ ap (λ (k : Name). order_at (seen c.args.globals.now es) k c.args.way) whole)
    c.next_below.ensures.next
