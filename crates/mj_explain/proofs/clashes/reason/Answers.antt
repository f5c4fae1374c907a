use Rattle.std.proofs.Common.{◌≡◌, ℕ, suc, ◌+◌, ◌-◌, ap, ◌∙◌, subst, arith}
use Rattle.std.specs.Prelude.{IfOk}
use Rattle.mj_txlog.specs.Accesses.{Accesses}
use Rattle.mj_explain.specs.Clashes.{told_at, own_in, own_before, IsCause}
use Rattle.mj_explain.proofs.clashes.reason.Goals as goal

pub returns-in-Ok-clause-now : goal.returns-in-Ok-clause-now
returns-in-Ok-clause-now c =
    let es = c.args.events.now in
    let g = c.args.globals.now.content in
    let a = c.args.access.now in
    let next : c.args.begin + 1 ≡ suc c.args.begin = omega arith in
    let own = c.deref.ensures.value ∙ c.in-Ok.ensures ∙ ap (λ (n : ℕ). own_in es c.args.job n (c.args.read - n)) next in
    subst (λ (xs : Accesses). IfOk c.cause.result (λ found. found.0 ≡ told_at es g a xs c.args.commit)) own c.cause.ensures.now

pub returns-in-Ok-clause-cause : goal.returns-in-Ok-clause-cause
returns-in-Ok-clause-cause c =
    let es = c.args.events.now in
    let g = c.args.globals.now.content in
    let a = c.args.access.now in
    let next : c.args.begin + 1 ≡ suc c.args.begin = omega arith in
    let behind : c.args.read + 1 ≡ suc c.args.read = omega arith in
    let own = c.deref.ensures.value ∙ c.in-Ok.ensures ∙ ap (λ (n : ℕ). own_in es c.args.job n (c.args.read - n)) next in
    subst (λ (n : ℕ). IfOk c.cause.result (λ found. IsCause es g a (own_before es c.args.job c.args.begin c.args.read) n c.args.commit found.1)) behind
    (subst (λ (xs : Accesses). IfOk c.cause.result (λ found. IsCause es g a xs (c.args.read + 1) c.args.commit found.1)) own c.cause.ensures.cause)
