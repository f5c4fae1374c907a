use Rattle.std.proofs.Common.{◌≡◌, ◌-◌, ◌<◌, ◌∙◌, ℕ, refl, sym, ap, subst, arith}
use Rattle.std.specs.Prelude.{option_map, slice_get}
use Rattle.mj_core.specs.Shown.{Shown}
use Rattle.mj_inspect.specs.Spots.{asker}
use Rattle.mj_inspect.proofs.Asking.{asker_none, asker_at}
use Rattle.mj_inspect.proofs.spots.last_job.Goals as goal

pub returns-then-place-eq0 : goal.returns-then-place-eq0
returns-then-place-eq0 g c = asker_none c.args.debugger.now.core.history c.args.debugger.now.place (sym c.place-place.ensures.value ∙ c.if-place-eq0.true)

pub returns : goal.returns
returns g c =
    let h = c.args.debugger.now.core.history in
    let more : 0 < c.place-place.result = omega (arith, c.if-place-eq0.false) in
    let P : ℕ → Type 0 = λ place. c.job_at.result ≡ asker h place in
    subst P c.place-place.ensures.value
    (asker_at h c.place-place.result (c.place-place.result - 1) c.job_at.result more refl
    (c.job_at.ensures ∙ ap (λ (core : Shown). option_map (λ e. e.job) (slice_get core.history (c.place-place.result - 1))) c.core.ensures))
