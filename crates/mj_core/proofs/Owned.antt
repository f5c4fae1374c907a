-- What a job is told by one part of a step leaves it that of its claim.
use Rattle.std.specs.Prelude.{Result, Ok, Err, IfOk, IfErr}
use Rattle.std.proofs.Common.{◌≡◌, Bool, true, false, Option, Some, sym, ap, ◌∙◌, subst}
use Rattle.mj_ask.specs.declared.ask.Ask.{Ask}
use Rattle.mj_ask.specs.declared.ask.Reply.{Reply}
use Rattle.mj_ask.specs.declared.ask.Reply.TheVariants as replies
use Rattle.mj_ask.specs.Fits.{is_shared}
use Rattle.mj_dev.specs.Heard.{Heard}
use Rattle.mj_load.specs.Image.{Loaded}
use Rattle.mj_jobvm.specs.Jobs.{Running}
use Rattle.mj_sys.specs.declared.served.Served.{Served}
use Rattle.mj_sys.specs.declared.served.Served.TheVariants as serveds
use Rattle.mj_sys.specs.System.{Claimed}
use Rattle.mj_steps.specs.declared.step.Refusal.{Refusal}
use Rattle.mj_steps.specs.declared.step.Refusal.TheVariants as refusals
use Rattle.mj_core.specs.declared.parts.Made.{Made}
use Rattle.mj_core.specs.declared.parts.Made.TheVariants as made
use Rattle.mj_core.specs.Answering.{Answering, Stays}
use Rattle.mj_core.specs.Ties.{IsJobOf, Talks, TakesUp, claim_behind}
use Rattle.mj_core.proofs.Owning.{own_same, own_talk, own_share}
use Rattle.mj_core.proofs.Stepping.{same_ask}

module _ {A : Type 0} (ans : Answering A) (job job' : Running) (x x' : A) (b : Ask) (pending : job.run.pending ≡ Some b) where
  -- by who answers for it, or the clock
  by_talk : (late : Bool) (given : Option Reply) (m : Made) (a : Ask) → is_shared a ≡ false → Talks ans job x a late given m job' x'
      → (image : Loaded) (claim : Claimed) → IsJobOf ans image claim job x → IsJobOf ans image claim job' x'
  by_talk late given made.Event a unshared t image claim own = own_talk ans image claim job x own job' x' a t.0 t.3 t.4 unshared
  by_talk late given made.NotYet a unshared t image claim own = own_same ans image claim job x own job' x' t.1 t.2
  by_talk late given made.Unfit a unshared t image claim own = own_same ans image claim job x own job' x' t.1 t.2
  by_talk late given (made.Busy holder held) a unshared t image claim own = absurd t
  by_talk late given made.Ran a unshared t image claim own = absurd t
  by_talk late given made.Ended a unshared t image claim own = absurd t

  pub talk_own : (late : Bool) (given : Option Reply) (result : Result Made Refusal) → is_shared b ≡ false
      → IfOk result (λ m. (a : Ask) × (job.run.pending ≡ Some a) × Talks ans job x a late given m job' x')
      → IfErr result (λ why. (why ≡ refusals.Memory) × (job' ≡ job) × Stays ans x x')
      → (image : Loaded) (claim : Claimed) → IsJobOf ans image claim job x → IsJobOf ans image claim job' x'
  talk_own late given (Ok m) unshared ok err image claim own =
      let P : Ask → Type 0 = λ a. is_shared a ≡ false in
      by_talk late given m ok.0 (subst P (same_ask job.run.pending b ok.0 pending ok.1) unshared) ok.2 image claim own
  talk_own late given (Err why) unshared ok err image claim own = own_same ans image claim job x own job' x' err.1 err.2

  -- by the system
  pub take_own : (told : Served Heard) → is_shared b ≡ true → TakesUp ans job x b told job' x'
      → (image : Loaded) (claim : Claimed) → IsJobOf ans image claim job x → IsJobOf ans image (claim_behind claim told) job' x'
  take_own (serveds.Reply reply) shared t image claim own = own_share ans image claim job x own job' x' b reply t.0 t.1 shared
  take_own (serveds.Opened session) shared t image claim own = own_share ans image claim job x own job' x' b replies.Got t.0 t.1 shared
  take_own (serveds.Busy holder held) shared t image claim own = own_same ans image claim job x own job' x' t.0 t.1
