use Rattle.std.proofs.Common.{◌≡◌, ◌∙◌, ◌+◌, ℕ, length, ap, refl, arith}
use Rattle.mj_sys.specs.History.{state_of}
use Rattle.mj_core.specs.Shown.{Shown}
use Rattle.mj_explore.proofs.Holding.{IsHeldIn, held_before, is_numbered, one_held_more}
use Rattle.mj_explore.proofs.waiting.all_wait.Goals as goal

pub each-init : goal.each-init
each-init g c = record {
  history = refl;
  image = refl;
  held = λ job few live. absurd (omega (arith, (is_numbered (state_of g.O.Opening.opening c.args.jobs.now.history).rows job live).0));
}

pub each-preserved : goal.each-preserved
each-preserved g c =
    let l = c.each in
    let opening = g.O.Opening.opening in
    let is = c.if-not-branch.false in
    record {
      history = c.in_ok-waits.ensures.history is ∙ l.invariant.history;
      image = c.in_ok-waits.ensures.image is ∙ l.invariant.image;
      held = one_held_more (IsHeldIn opening c.args.jobs.now) l.done l.invariant.held
          (held_before opening l.jobs c.args.jobs.now (l.done + 1) l.invariant.history l.invariant.image (c.in_ok-waits.ensures.held is));
    }

pub returns : goal.returns
returns g c is job live =
    let l = c.each in
    let rows : Shown → ℕ = λ (s : Shown). length (state_of g.O.Opening.opening s.history).rows in
    let count : c.jobs-count.result ≡ rows c.args.jobs.now = c.jobs-count.ensures.value ∙ ap rows c.jobs.view_is in
    let numbers = is_numbered (state_of g.O.Opening.opening c.args.jobs.now.history).rows job live in
    l.invariant.held job (omega (arith, numbers.1, count, c.each-test.false)) live
