use Rattle.std.proofs.Common.{◌≡◌, ◌<◌, ◌≤◌, List, length, Some, sym, ap, ◌∙◌, subst, arith}
use Rattle.std.specs.Prelude.{slice_get}
use Rattle.std.proofs.lemmas.Bool.{ltb-false}
use Rattle.mj_semantics.specs.State.{ending_order}
use Rattle.mj_open_devices.specs.declared.devices.Other.{Other}
use Rattle.mj_open_devices.specs.Opened.{Opened}
use Rattle.mj_open_devices.proofs.Places.{names, ends_at, ends_last, ends_past}
use Rattle.mj_open_devices.proofs.devices.Devices.ending.Goals as goal

pub returns-then-done-len-clause-name : goal.returns-then-done-len-clause-name
returns-then-done-len-clause-name c =
    let os = c.self.inside.others.items in
    let last : c.args.done ≡ length os = omega (arith, c.if-done-len.true, c.len.ensures, c.self.inside.others.ok.0) in
    ap Some c.principal.ensures ∙ sym (ends_last os) ∙ ap (λ k. slice_get (names os) k) (sym last)
    ∙ ap (λ (o : Opened). slice_get (ending_order o.devices) c.args.done) c.self.view_is

pub returns-in_ok-try_clone-in-Some-clause-name : goal.returns-in_ok-try_clone-in-Some-clause-name
returns-in_ok-try_clone-in-Some-clause-name c =
    let o = c.in-Some.other.now in
    let h = c.in-Some.ensures.lookup in
    let P : List Other → Type 0 = λ l. slice_get (names l) c.args.done ≡ Some o.name in
    ap Some c.in_ok-try_clone-in-Some.ensures
    ∙ sym (subst P c.deref.ensures.value (ends_at c.deref.result.now c.args.done o h.3.0 h.1))
    ∙ ap (λ (q : Opened). slice_get (ending_order q.devices) c.args.done) c.self.view_is

pub returns-in-None-clause-name : goal.returns-in-None-clause-name
returns-in-None-clause-name c =
    let os = c.self.inside.others.items in
    let no_less : length c.deref.result.now ≤ c.args.done = ltb-false c.args.done (length c.deref.result.now) (sym c.in-None.ensures.lookup.0) in
    let past : length os < c.args.done = omega (arith, no_less, c.if-done-len.false, c.len.ensures, c.self.inside.others.ok.0, ap length c.deref.ensures.value) in
    sym (ends_past os c.args.done past) ∙ ap (λ (q : Opened). slice_get (ending_order q.devices) c.args.done) c.self.view_is
