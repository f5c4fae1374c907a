use Rattle.std.proofs.Common.{◌≡◌, ◌-◌, ◌++◌, ◌∷◌, [], List, ℕ, length, take, sym, ap, ◌∙◌, arith}
use Rattle.std.proofs.lemmas.Option.{IfSome_then}
use Rattle.std.proofs.lemmas.Result.{IfOk-weaker}
use Rattle.mj_subs.specs.Name.{Name}
use Rattle.mj_txlog.specs.Accesses.{seen}
use Rattle.mj_txlog.specs.Walks.{first_in, is_within, is_beyond}
use Rattle.mj_txlog.proofs.Fronts.{front_of_take, front_last, none_in}
use Rattle.mj_txlog.proofs.Nexts.{full_so}
use Rattle.mj_txlog.proofs.Walks.{none_past, first_past, none_beside}
use Rattle.mj_txlog.proofs.query.+up.Goals as goal

pub first_beside-returns-in-None-clause-next : goal.first_beside-returns-in-None-clause-next
first_beside-returns-in-None-clause-next t c = IfOk-weaker c.first_past.result _ _
    (λ x h. IfSome_then x h (λ next k es laid. k es laid ∙ none_beside (seen c.args.globals.now es) c.args.front.now c.args.front.now.subscripts c.args.last.now
    (sym (c.in_ok-next_below.ensures.next es laid) ∙ c.in-None.is)))
    c.first_past.ensures.next

pub first_beside-returns-in_ok-found-in-Some-clause-next : goal.first_beside-returns-in_ok-found-in-Some-clause-next
first_beside-returns-in_ok-found-in-Some-clause-next t c es laid =
    let sees = seen c.args.globals.now es in
    c.in_ok-found-in-Some.ensures.next es laid
    ∙ ap (λ (k : Name). first_in sees k (is_within k.subscripts)) c.in_ok-beside-in-Some.ensures.value
    ∙ first_past sees c.args.front.now c.args.front.now.subscripts c.args.last.now c.in-Some.sub (sym (c.in_ok-next_below.ensures.next es laid) ∙ c.in-Some.is)
    (full_so c.is_empty.result c.in-Some.sub c.is_empty.ensures c.if-is_empty.false)

pub first_past-returns-in-empty-clause-next : goal.first_past-returns-in-empty-clause-next
first_past-returns-in-empty-clause-next t c es laid =
    let sees = seen c.args.globals.now es in
    sym (ap (λ (p : List (List ℕ)). first_in sees c.args.name.now (is_beyond p)) (sym c.subscripts.ensures ∙ sym c.as_slice.ensures.value ∙ none_in c.as_slice.result.now c.in-empty.len_below)
    ∙ none_past sees c.args.name.now)

pub first_past-returns-in_ok-front-in-len1-up-clause-next : goal.first_past-returns-in_ok-front-in-len1-up-clause-next
first_past-returns-in_ok-front-in-len1-up-clause-next t c = IfOk-weaker c.first_beside-found.result _ _
    (λ x h. IfSome_then x h (λ next k es laid.
    let sees = seen c.args.globals.now es in
    let list = c.as_slice.result.now in
    let last = c.last-item.result in
    let whole : take (length list - 1) list ++ last ∷ [] ≡ c.args.name.now.subscripts =
    ap (λ (p : List (List ℕ)). p ++ last ∷ []) (front_of_take list (omega (arith, c.in-len1-up.len_at_least)))
    ∙ front_last list last c.in-len1-up.len_at_least c.last-item.is
    ∙ c.as_slice.ensures.value
    ∙ c.subscripts.ensures
    in
    k es laid
    ∙ ap (λ (n : Name). first_in sees n (is_beyond (n.subscripts ++ last ∷ []))) c.in_ok-front-in-len1-up.ensures
    ∙ ap (λ (p : List (List ℕ)). first_in sees c.args.name.now (is_beyond p)) whole))
    c.first_beside-found.ensures.next
