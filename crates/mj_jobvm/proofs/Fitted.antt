-- What traces ask of devices fits.
use Rattle.std.proofs.Common.{◌≡◌, ℕ, suc, ◌+◌, List, [], ◌∷◌, ◌++◌, Bool, true, false, refl, ◌∙◌, subst, inl, inr, arith}
use Rattle.std.specs.Prelude.{◌⊎◌, if◌then◌else◌}
use Rattle.std.specs.Str.{bytes_eq}
use Rattle.mj_ask.specs.declared.ask.Ask.{Ask}
use Rattle.mj_ask.specs.declared.ask.Reply.{Reply}
use Rattle.mj_semantics.specs.State.{Locals, Place, principal}
use Rattle.mj_semantics.specs.Outcome.{Outcome, Needs, More, no_restart}
use Rattle.mj_semantics.specs.Program.{Program}
use Rattle.mj_semantics.specs.Job.{Start, opening, start as starts, next}
use Rattle.mj_semantics.proofs.Depth.{steady}
use Rattle.mj_jobvm.specs.Run.{Log, replies_of, IsTrace, begins, goes_on}
use Rattle.mj_jobvm.specs.Fit.{Links, first_links, links_behind, AreFit, AsksWhatFits}
use Rattle.mj_jobvm.proofs.Names.{never}
use Rattle.mj_jobvm.proofs.Fits.{AreAsked, Fits, StandsIn}
use Rattle.mj_jobvm.proofs.Fitting.{Keeps, none_goes, fitting}
use Rattle.mj_jobvm.proofs.Rows as rows

-- what a run asks behind a log goes on with it
asked_more : (run : List Reply → Outcome) (log : Log) (a : Ask) (r : Reply) (locals : Locals) (at : List Place) → AreAsked run log → run (replies_of log) ≡ Needs a locals at
    → AreAsked run (log ++ (a, r) ∷ [])
asked_more run [] a r locals at all e = (record { locals = locals; at = at; is = e }, tt)
asked_more run (f ∷ log) a r locals at all e = (all.0, asked_more (λ replies. run (f.1 ∷ replies)) log a r locals at all.1 e)

-- each ask of a log fits, where whatever the run asks does
all_fit : (links : Links) (run : List Reply → Outcome) (log : Log) → Fits links run → AreAsked run log → AreFit links log
all_fit links run [] k asked = tt
all_fit links run (f ∷ log) k asked = (
  k.by [] tt f.0 asked.0.locals asked.0.at asked.0.is,
  all_fit (links_behind links f.0 f.1) (λ replies. run (f.1 ∷ replies)) log (record { by = λ more asks a locals at e. k.by (f ∷ more) (asked.0, asks) a locals at e }) asked.1,
)

module _ (program : Program) (start : Start) where
  abbrev run_of : ℕ → List Reply → Outcome
  run_of n = λ replies. next program start n replies

  -- with more turns it needs the same
  needs_more : (n k : ℕ) (replies : List Reply) (a : Ask) (locals : Locals) (at : List Place) → next program start n replies ≡ Needs a locals at
      → next program start (n + k) replies ≡ Needs a locals at
  needs_more n k replies a locals at e = by (steady program start n k replies)
    where
      by : (next program start n replies ≡ More) ⊎ (next program start (n + k) replies ≡ next program start n replies) → next program start (n + k) replies ≡ Needs a locals at
      by (inl more) = absurd cc
      by (inr same) = same ∙ e

  -- with enough turns a trace is what the run asks
  asked_from : (log : Log) → IsTrace program start log → (m : ℕ) × ((k : ℕ) → AreAsked (run_of (m + k)) log)
  asked_from _ begins = (0, (λ k. tt))
  asked_from _ (goes_on log a r n locals at trace needs fit within) =
      let f = asked_from log trace in (
        f.0 + n,
        (λ k. asked_more (run_of (f.0 + n + k)) log a r locals at
            (subst (λ i. AreAsked (run_of i) log) (let e : f.0 + (n + k) ≡ f.0 + n + k = omega arith in e) (f.1 (n + k)))
            (subst (λ i. next program start i (replies_of log) ≡ Needs a locals at) (let e : n + (f.0 + k) ≡ f.0 + n + k = omega arith in e)
            (needs_more n (f.0 + k) (replies_of log) a locals at needs))),
      )

  opened : StandsIn (opening program.bounds start.job) first_links
  opened = record {
    session = λ x. by (bytes_eq principal x);
    whole = λ x. refl;
    named = λ x e. never false e refl;
    first = refl;
    current = refl;
    apart = (refl, tt);
  }
    where
      by : (b : Bool) → b ≡ (if b then true else false)
      by true = refl
      by false = refl

  fits : (n : ℕ) → Fits first_links (run_of n)
  fits n =
      let k : Keeps (starts program.routines start (suc n)) = rows.job_keeps Keeps Keeps fitting program.routines start (suc n) in
      k.by n no_restart (opening program.bounds start.job) first_links none_goes opened

-- so of a job's log, and of what its run needs next
pub asks_what_fits : AsksWhatFits
asks_what_fits program start log trace =
    let f = asked_from program start log trace in (
      all_fit first_links (run_of program start (f.0 + 0)) log (fits program start (f.0 + 0)) (f.1 0),
      (λ a n locals at e.
          (fits program start (f.0 + n)).by log (f.1 n) a locals at
          (subst (λ i. next program start i (replies_of log) ≡ Needs a locals at) (let q : n + f.0 ≡ f.0 + n = omega arith in q) (needs_more program start n f.0 (replies_of log) a locals at e))),
    )
