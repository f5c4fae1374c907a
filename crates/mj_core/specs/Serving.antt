-- What it means at a step that a job asks a device, where the job's own sessions serve it.
use Rattle.std.specs.Prelude.{◌≡◌, ◌∷◌, ◌++◌, [], List, Bool, false, None}
use Rattle.std.proofs.Common.{sym, ◌∙◌}
use Rattle.std.proofs.lemmas.Option.{none-some}
use Rattle.mj_ask.specs.declared.ask.Ask.{Ask}
use Rattle.mj_ask.specs.declared.ask.Reply.{Reply}
use Rattle.mj_ask.specs.Fits.{timeout_of}
use Rattle.mj_ask.specs.Late.{is_timed_out}
use Rattle.mj_sessions.specs.declared.answer.Answer.{Answer}
use Rattle.mj_sessions.specs.declared.answer.Answer.TheVariants as answers
use Rattle.mj_sessions.specs.Answers.{Answers, IsReading}
use Rattle.mj_sessions.specs.Asked.{Answering, AreAsked}
use Rattle.mj_sessions.specs.Events.{Log}
use Rattle.mj_sessions.specs.Named.{Named, AreTold}
use Rattle.mj_core.specs.Having.{IsQuiet, IsUnfitBy}
use Rattle.mj_core.specs.Meaning.{IsOfDevice, Means}

-- an event says no more; nothing is there to read yet where no rest of a line is left on a session that is open; or no session of the job can serve it
abbrev pub serving : Means
serving = record {
  Told = λ log given a late reply rest. rest;
  NotYet = λ log a late rest. IsReading a × (is_timed_out (timeout_of a) late ≡ false) × IsQuiet log a × rest;
  Unfit = λ s log has a late given rest. IsUnfitBy s log has a × rest;
  with_told = λ log given a late reply rest told more. more;
  with_not_yet = λ log a late rest not_yet more. (not_yet.0, not_yet.1, not_yet.2, more);
  with_unfit = λ s log has a late given rest unfit more. (unfit.0, more);
  told_rest = λ log given a late reply rest told. told;
  not_yet_rest = λ log a late rest not_yet. not_yet.3;
  unfit_rest = λ s log has a late given rest unfit. unfit.1;
  of_no_device = λ log given a late reply none. tt;
}

-- Sessions were asked this, and it came to that: what the session of the device says, with the last call to the device itself, and what that answered. No
-- core shows its sessions, so they are some; the job's log before the ask ties them (`AreTold`). By it the session under each name stands, took and came of the
-- calls as the log's talk with that device says, and there is one wherever a talk isn't ended. The log leaves open what else a device keeps, and whether a
-- session is there that wasn't asked yet.
abbrev pub WereAsked : Answering → Log → Ask → Bool → Answer → List Named → Type 0
WereAsked tells log a late answer new = (old : List Named) × AreTold log old × Answers old a late answer new × AreAsked tells old a late answer new

-- A device was asked and answered, and that is what its job was told. The sessions behind it are those of the log then, which has this event too.
abbrev pub DeviceTells : Answering → Log → Ask → Bool → Reply → Type 0
DeviceTells tells log a late reply = (new : List Named) × WereAsked tells log a late (answers.Told reply) new × AreTold (log ++ (a, reply) ∷ []) new

-- A device was asked, and answered that nothing is there to read yet. The sessions behind it are still those of the log.
abbrev pub DeviceWaits : Answering → Log → Ask → Bool → Type 0
DeviceWaits tells log a late = (new : List Named) × WereAsked tells log a late answers.NotYet new × AreTold log new

-- `serving`, and which call to a device each reply comes from: `tells` says which call was the last to a device with these counts.
abbrev pub calling : Answering → Means
calling tells = record {
  Told = λ log given a late reply rest. (IsOfDevice a → DeviceTells tells log a late reply) × rest;
  NotYet = λ log a late rest. IsReading a × (is_timed_out (timeout_of a) late ≡ false) × IsQuiet log a × DeviceWaits tells log a late × rest;
  Unfit = λ s log has a late given rest. IsUnfitBy s log has a × rest;
  with_told = λ log given a late reply rest told more. (told.0, more);
  with_not_yet = λ log a late rest not_yet more. (not_yet.0, not_yet.1, not_yet.2, not_yet.3, more);
  with_unfit = λ s log has a late given rest unfit more. (unfit.0, more);
  told_rest = λ log given a late reply rest told. told.1;
  not_yet_rest = λ log a late rest not_yet. not_yet.4;
  unfit_rest = λ s log has a late given rest unfit. unfit.1;
  of_no_device = λ log given a late reply none. ((λ of. absurd (none-some of.0 (sym none ∙ of.1))), tt);
}
