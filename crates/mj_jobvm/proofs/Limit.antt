-- A job asks no more often before its ending than its program lets it: whatever it does, it is told no more replies than it may have.
use Rattle.std.proofs.Common.{◌≡◌, ℕ, suc, ◌+◌, ◌≤◌, List, [], ◌∷◌, ◌++◌, length, inl, inr, subst, arith, length-append}
use Rattle.std.proofs.lemmas.List.{length-map}
use Rattle.mj_ask.specs.declared.ask.Ask.{Ask}
use Rattle.mj_ask.specs.declared.ask.Ask.TheVariants as asks
use Rattle.mj_ask.specs.declared.ask.SharedAsk.TheVariants as shared_asks
use Rattle.mj_ask.specs.declared.ask.DeviceAsk.TheVariants as device_asks
use Rattle.mj_ask.specs.declared.ask.Reply.{Reply}
use Rattle.mj_semantics.specs.State.{Locals, Place, devices_limit}
use Rattle.mj_semantics.specs.Outcome.{Needs, no_restart, fault}
use Rattle.mj_semantics.specs.Program.{Program}
use Rattle.mj_semantics.specs.Job.{Start, opening, start as starts, next}
use Rattle.mj_jobvm.specs.Run.{Log, replies_of, IsTrace, begins, goes_on}
use Rattle.mj_jobvm.specs.Limit.{IsAllowed, AreAllowed, IsLimited}
use Rattle.mj_jobvm.proofs.Everywhere.{rule_of}
use Rattle.mj_jobvm.proofs.Rows as rows
use Rattle.mj_jobvm.proofs.Words.{IsFair, Keeps, none_goes, limited}

module _ (program : Program) where
  -- a job from its start
  pub job_keeps : (start : Start) (n : ℕ) (replies : List Reply) (a : Ask) (locals : Locals) (at : List Place)
      → next program start n replies ≡ Needs a locals at → IsAllowed program.bounds.events (length replies) a
  job_keeps start n replies a locals at e =
      let k : Keeps (starts program.routines start (suc n)) = rows.job_keeps Keeps Keeps (rule_of Keeps Keeps limited) program.routines start (suc n) in
      let fair : IsFair (opening program.bounds start.job) = (omega arith, omega arith) in
      subst (λ i. IsAllowed program.bounds.events i a) (let z : (opening program.bounds start.job).replied + length replies ≡ length replies = omega arith in z)
      (k.by n no_restart none_goes (opening program.bounds start.job) replies a locals at fair e)

-- Logs.

allowed_with : (events k : ℕ) (log : Log) (a : Ask) (r : Reply) → AreAllowed events k log → IsAllowed events (k + length log) a → AreAllowed events k (log ++ (a, r) ∷ [])
allowed_with events k [] a r all this = (subst (λ i. IsAllowed events i a) (let e : k + 0 ≡ k = omega arith in e) this, tt)
allowed_with events k (x ∷ log) a r all this =
    (all.0, allowed_with events (k + 1) log a r all.1 (subst (λ i. IsAllowed events i a) (let e : k + length (x ∷ log) ≡ k + 1 + length log = omega arith in e) this))

-- an ask of the ending has its place
in_time : (events k : ℕ) (a : Ask) → IsAllowed events k a → k ≤ events + 2 + devices_limit
in_time events k a (inl lt) = omega (arith, lt)
in_time events k (asks.Device device (device_asks.Write bytes)) (inr e) = let le = e.0 in omega (arith, le)
in_time events k (asks.Device device device_asks.End) (inr e) = omega (arith, e)
in_time events k (asks.Shared (shared_asks.Halt fault)) (inr e) = e
in_time events k _ (inr e) = absurd e

module _ (program : Program) (start : Start) where
  pub trace_is_limited : (log : Log) → IsTrace program start log → IsLimited program.bounds.events log
  trace_is_limited _ begins = record { allowed = tt; short = omega arith }
  trace_is_limited _ (goes_on log a r n locals at trace needs fit within) =
      let before = trace_is_limited log trace in
      let events = program.bounds.events in
      let this : IsAllowed events (length log) a =
      subst (λ i. IsAllowed events i a) (length-map log (λ e. e.1)) (job_keeps program start n (replies_of log) a locals at needs) in
      let le = in_time events (length log) a this in
      record {
        allowed = allowed_with events 0 log a r before.allowed (subst (λ i. IsAllowed events i a) (let e : length log ≡ 0 + length log = omega arith in e) this);
        short = omega (arith, le, length-append log ((a, r) ∷ []));
      }
