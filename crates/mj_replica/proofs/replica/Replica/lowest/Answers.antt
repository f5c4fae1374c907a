use Rattle.std.proofs.Common.{◌≡◌, ℕ, ◌<◌, ◌≤◌, length, true, false, sym, ap, ◌∙◌, subst, inl, inr, arith}
use Rattle.std.specs.Prelude.{◌⊎◌}
use Rattle.mj_jobs.specs.Rows.{IsLive}
use Rattle.mj_sys.specs.History.{History, state_of}
use Rattle.mj_replica.specs.Replicas.{Replayed}
use Rattle.mj_replica.proofs.Rounds.{live_within, next_or_before}
use Rattle.mj_replica.proofs.replica.Replica.lowest.Goals as goal

pub loop-job-preserved : goal.loop-job-preserved
loop-job-preserved g c = λ other from below. by other from (next_or_before other c.loop-job.job below) where
  by : (other : ℕ) → c.args.from ≤ other → (other ≡ c.loop-job.job) ⊎ (other < c.loop-job.job) → IsLive (state_of g.O.Opening.opening c.args.self.now.system.history).rows other → ⊥
  by other from (inr earlier) = c.loop-job.invariant other from earlier
  by other from (inl is) = λ live. (
      let L : History → Type 0 = λ h. IsLive (state_of g.O.Opening.opening h).rows c.loop-job.job in
      let here : IsLive (state_of g.O.Opening.opening c.args.self.now.system.history).rows c.loop-job.job =
      subst (λ (j : ℕ). IsLive (state_of g.O.Opening.opening c.args.self.now.system.history).rows j) is live in
      let inside : IsLive (state_of g.O.Opening.opening c.self.inside.system.history).rows c.loop-job.job = subst L (ap (λ (r : Replayed). r.system.history) (sym c.self.view_is)) here in
      let no : true ≡ false = sym (c.is_live.ensures.1 inside) ∙ c.if-is_live.false in cc)

pub returns-clause-none : goal.returns-clause-none
returns-clause-none g c = λ job from live. c.loop-job.invariant job from (
    let opening = g.O.Opening.opening in
    let within = live_within (state_of g.O.Opening.opening c.args.self.now.system.history).rows job live in
    let rows : length (state_of opening c.self.inside.system.history).rows ≡ length (state_of g.O.Opening.opening c.args.self.now.system.history).rows =
    ap (λ (r : Replayed). length (state_of opening r.system.history).rows) c.self.view_is in
    let value = c.rows.ensures.value in
    let past = c.loop-job-test.false in
    omega (arith, within, rows, value, past)) live
