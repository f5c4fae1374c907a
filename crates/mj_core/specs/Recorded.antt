-- What it means at a step that a job asks a device, where no device is called: it is told what is recorded, where the device protocol allows it.
use Rattle.std.specs.Prelude.{◌≡◌, [], ◌∷◌, ◌++◌, Bool, true, false, not, Option, Some, None, Result, ◌⊎◌}
use Rattle.std.proofs.Common.{sym, ◌∙◌}
use Rattle.std.proofs.lemmas.Option.{none-some}
use Rattle.mj_ask.specs.declared.ask.Ask.{Ask}
use Rattle.mj_ask.specs.declared.ask.Reply.{Reply}
use Rattle.mj_ask.specs.declared.ask.Reply.TheVariants as replies
use Rattle.mj_ask.specs.Fits.{fits, timeout_of}
use Rattle.mj_ask.specs.Late.{is_timed_out}
use Rattle.mj_sessions.specs.Events.{Log}
use Rattle.mj_sessions.specs.Follow.{AreTalks}
use Rattle.mj_sys.specs.Shared.{Shared}
use Rattle.mj_expect.specs.Heeds.{Heeds, AreHeeds}
use Rattle.mj_steps.specs.declared.step.Refusal.{Refusal}
use Rattle.mj_steps.specs.declared.step.Step.{Step}
use Rattle.mj_core.specs.declared.seen.Seen.{Seen}
use Rattle.mj_core.specs.Shown.{Shown}
use Rattle.mj_core.specs.Meaning.{IsOfDevice, Means}
use Rattle.mj_core.specs.Gives.{StepGivesBy}

-- what a device is asked is told what is recorded; anything else has its reply without
abbrev pub IsRecorded : Option Reply → Ask → Reply → Type 0
IsRecorded given a reply = IsOfDevice a → given ≡ Some reply

-- the reply says that the timeout is over, and it isn't
abbrev pub is_early : Ask → Bool → Reply → Bool
is_early a late replies.Late = not (is_timed_out (timeout_of a) late)
is_early a late _ = false

-- What is recorded can't be the reply to what a device is asked, behind what its job asked and was told before: there is none; or it doesn't fit; or
-- it comes late before its time; or no device may have answered so.
abbrev pub IsUnheard : Log → Ask → Bool → Option Reply → Type 0
IsUnheard log a late None = Unit {0}
IsUnheard log a late (Some reply) = (fits a reply ≡ false) ⊎ ((is_early a late reply ≡ true) ⊎ (AreTalks (log ++ (a, reply) ∷ []) → ⊥))

-- what is known of a job's talks behind this reply; or no device may have answered so
abbrev pub IsHeard : Log → Ask → Reply → Option (Heeds × Reply) → Type 0
IsHeard log a reply None = AreTalks (log ++ (a, reply) ∷ []) → ⊥
IsHeard log a reply (Some heard) = AreHeeds (log ++ (a, reply) ∷ []) heard.0

-- a job is told what is recorded; no step says that nothing is there to read yet; or what is recorded can't be the reply
abbrev pub repeating : Means
repeating = record {
  Told = λ log given a late reply rest. IsRecorded given a reply × rest;
  NotYet = λ log a late rest. ⊥;
  Unfit = λ s log has a late given rest. IsOfDevice a × IsUnheard log a late given × rest;
  with_told = λ log given a late reply rest told more. (told.0, more);
  with_not_yet = λ log a late rest not_yet more. not_yet;
  with_unfit = λ s log has a late given rest unfit more. (unfit.0, unfit.1, more);
  told_rest = λ log given a late reply rest told. told.1;
  not_yet_rest = λ log a late rest not_yet. absurd not_yet;
  unfit_rest = λ s log has a late given rest unfit. unfit.2;
  of_no_device = λ log given a late reply none. ((λ of. absurd (none-some of.0 (sym none ∙ of.1))), tt);
}

-- What a step gives where no device is called, for which this is recorded or nothing.
abbrev pub RecordStepGives : Shared → Shown → Step → Option Reply → Result Seen Refusal → Shown → Type 0
RecordStepGives opening old step given answer new = StepGivesBy repeating opening old step given answer new
