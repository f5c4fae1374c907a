use Rattle.std.proofs.Common.{◌≡◌, ℕ, ◌≤◌, length, refl, sym, ap, subst}
use Rattle.std.proofs.lemmas.Result.{err_from_is_err_and}
use Rattle.mj_sys.specs.History.{History}
use Rattle.mj_sys.specs.System.{history_limit}
use Rattle.mj_core.specs.Shown.{Shown}
use Rattle.mj_core.specs.Asking.{turn_of}
use Rattle.mj_debug.specs.Walks.{Walk, is_ready}
use Rattle.mj_debug.proofs.Showing.{keeps_on}
use Rattle.mj_debug.proofs.Turning.{came, rest_so, passed_on, stopped}
use Rattle.mj_debug.proofs.debugger.Debugger+D+Sessions+D+O.go_on.Goals as goal

-- there was no memory for the line
pub returns-in_err-line-in-Ok-clause-err : goal.returns-in_err-line-in-Ok-clause-err
returns-in_err-line-in-Ok-clause-err g c =
    let on = c.ready_on.ensures in
    let W : Shown → Walk =
    λ k. record {
      core = k;
      place = c.self.inside.place;
      ready = is_ready c.self.inside.place c.self.inside.views c.self.inside.replica;
      marks = c.self.inside.marks.items;
      turn = c.self.inside.turn;
    } in
    let opening = g.O.Opening.opening in
    let answer = turn_of c.ready_on.result in
    let asks = ap turn_of c.in-Ok.ensures.asks in
    let p = err_from_is_err_and c.from_residual.result c.from_residual.ensures.1 in
    rw p.1 (
      rest_so opening (W c.self.inside.core) (W c.ready_on.new.core) c.args.self.now c.args.job answer c.self.view_is asks on.gives refl,
      came opening (W c.self.inside.core) (W c.ready_on.new.core) c.args.self.now c.args.job answer c.self.view_is asks on.gives refl,
    )

pub returns-in-Some-clause-ok : goal.returns-in-Some-clause-ok
returns-in-Some-clause-ok g c =
    let on = c.ready_on.ensures in
    let W : Shown → Walk =
    λ k. record {
      core = k;
      place = c.self.inside.place;
      ready = is_ready c.self.inside.place c.self.inside.views c.self.inside.replica;
      marks = c.self.inside.marks.items;
      turn = c.self.inside.turn;
    } in
    stopped g.O.Opening.opening (W c.self.inside.core) (W c.ready_on.new.core) c.args.self.now c.args.job (turn_of c.ready_on.result) c.self.view_is (ap turn_of c.in-Ok.ensures.asks) on.gives refl
    c.in-Some.routine c.in-Some.line c.requires.end c.requires.ready c.requires.turn c.in-Some.ensures.some

pub returns-clause-ok : goal.returns-clause-ok
returns-clause-ok g c =
    let on = c.ready_on.ensures in
    let W : Shown → Walk =
    λ k. record {
      core = k;
      place = c.self.inside.place;
      ready = is_ready c.self.inside.place c.self.inside.views c.self.inside.replica;
      marks = c.self.inside.marks.items;
      turn = c.self.inside.turn;
    } in
    passed_on g.O.Opening.opening (W c.self.inside.core) (W c.ready_on.new.core) c.args.self.now c.args.job (turn_of c.ready_on.result) c.self.view_is (ap turn_of c.in-Ok.ensures.asks) on.gives refl
    c.pass.result c.pass.new.self c.requires.end c.requires.turn c.in_default.ensures.none c.pass.ensures

pub invariant_of-self : goal.invariant_of-self
invariant_of-self g c =
    let i = c.self.inside in
    let on = c.ready_on.ensures in
    let long : length c.ready_on.new.core.history ≡ length i.core.history = ap (λ (h : History). length h) on.history in
    let P : ℕ → Type 0 = λ n. i.place ≤ n in
    let L : ℕ → Type 0 = λ n. n ≤ history_limit in
    keeps_on g.O.Opening.opening i.kept i.place i.place i.core c.ready_on.new.core i.replica i.views (subst P (sym long) c.self.invariant.1) (subst L (sym long) c.self.invariant.2) on.replica on.views
    c.self.invariant

pub invariant_of-self-2 : goal.invariant_of-self-2
invariant_of-self-2 g c =
    let i = c.self.inside in
    let on = c.ready_on.ensures in
    let long : length c.ready_on.new.core.history ≡ length i.core.history = ap (λ (h : History). length h) on.history in
    let P : ℕ → Type 0 = λ n. i.place ≤ n in
    let L : ℕ → Type 0 = λ n. n ≤ history_limit in
    keeps_on g.O.Opening.opening i.kept i.place i.place i.core c.ready_on.new.core i.replica i.views (subst P (sym long) c.self.invariant.1) (subst L (sym long) c.self.invariant.2) on.replica on.views
    c.self.invariant

pub invariant_of-self-in-Err : goal.invariant_of-self-in-Err
invariant_of-self-in-Err g c =
    let i = c.self.inside in
    let on = c.ready_on.ensures in
    let long : length c.ready_on.new.core.history ≡ length i.core.history = ap (λ (h : History). length h) on.history in
    let P : ℕ → Type 0 = λ n. i.place ≤ n in
    let L : ℕ → Type 0 = λ n. n ≤ history_limit in
    keeps_on g.O.Opening.opening i.kept i.place i.place i.core c.ready_on.new.core i.replica i.views (subst P (sym long) c.self.invariant.1) (subst L (sym long) c.self.invariant.2) on.replica on.views
    c.self.invariant

pub invariant_of-self-in-Some : goal.invariant_of-self-in-Some
invariant_of-self-in-Some g c =
    let i = c.self.inside in
    let on = c.ready_on.ensures in
    let long : length c.ready_on.new.core.history ≡ length i.core.history = ap (λ (h : History). length h) on.history in
    let P : ℕ → Type 0 = λ n. i.place ≤ n in
    let L : ℕ → Type 0 = λ n. n ≤ history_limit in
    keeps_on g.O.Opening.opening i.kept i.place i.place i.core c.ready_on.new.core i.replica i.views (subst P (sym long) c.self.invariant.1) (subst L (sym long) c.self.invariant.2) on.replica on.views
    c.self.invariant

pub invariant_of-self-in_default : goal.invariant_of-self-in_default
invariant_of-self-in_default g c =
    let i = c.self.inside in
    let on = c.ready_on.ensures in
    let long : length c.ready_on.new.core.history ≡ length i.core.history = ap (λ (h : History). length h) on.history in
    let P : ℕ → Type 0 = λ n. i.place ≤ n in
    let L : ℕ → Type 0 = λ n. n ≤ history_limit in
    keeps_on g.O.Opening.opening i.kept i.place i.place i.core c.ready_on.new.core i.replica i.views (subst P (sym long) c.self.invariant.1) (subst L (sym long) c.self.invariant.2) on.replica on.views
    c.self.invariant
