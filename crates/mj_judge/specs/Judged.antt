-- What an expression comes to, by a run of its script.
use Rattle.std.specs.Prelude.{◌≡◌, Bool, true, false, Option, Some, None, codes}
use Rattle.std.specs.Str.{bytes_eq}
use Rattle.mj_text.specs.declared.fault.Fault.{Fault}
use Rattle.mj_text.specs.declared.fault.Fault.TheVariants as faults
use Rattle.mj_dev.specs.Shelves.{principal}
use Rattle.mj_dev.specs.Supply.{Supply}
use Rattle.mj_dev.specs.Told.{IsToldBy}
use Rattle.mj_load.specs.Image.{Loaded, program_of}
use Rattle.mj_sessions.specs.Asked.{Answering}
use Rattle.mj_sys.specs.Shared.{Shared}
use Rattle.mj_sys.specs.History.{History}
use Rattle.mj_core.specs.Runs.{IsRun, out_of}
use Rattle.mj_core.specs.Shown.{Shown}
use Rattle.mj_judge.specs.declared.conditions.Verdict.{Verdict}
use Rattle.mj_judge.specs.declared.conditions.Verdict.TheVariants as verdicts
use Rattle.mj_judge.specs.Marks.{fault_in, is_over}
use Rattle.mj_script.specs.Scripts.{Scripted, IsImageOf}

-- devices in memory, of whose calls the replies come
abbrev pub by_memory : Answering
by_memory = IsToldBy (λ (m : Supply). 0) (λ m. m.failures) (λ m. m.taken) (λ m. m.given) (λ m inside call. Unit {0})

-- what an expression comes to, by the fault by which its run ended, if there is one, and by whether that run wrote 1
abbrev pub verdict_by : Option Fault → Bool → Verdict
verdict_by (Some fault) is = verdicts.Faults fault
verdict_by None true = verdicts.Holds
verdict_by None false = verdicts.Untrue

-- what it comes to in a history of its script
abbrev pub verdict_in : History → Verdict
verdict_in history = verdict_by (fault_in history) (bytes_eq (out_of history 1 principal 1) (codes "1"))

-- that is the fault of a job whose device failed
abbrev pub is_of_device : Verdict → Bool
is_of_device (verdicts.Faults faults.Device) = true
is_of_device _ = false

-- Jobs that stand so show what the expression of their script comes to: a run came to its end, and this is what it comes to there. The device didn't fail.
abbrev pub ShowsVerdict : Shared → Shown → Verdict → Type 0
ShowsVerdict opening core verdict =
    IsRun (program_of core.image) opening core.history × (is_over opening core.history ≡ true) × (verdict ≡ verdict_in core.history) × (is_of_device verdict ≡ false)

-- An expression was judged over the globals with which this opening begins: a run of the script that writes 1 where it is true came to its end, and
-- this is what it comes to there. The device didn't fail to which that is written: where it does, the run says nothing of the expression, which asks no device.
abbrev pub IsJudged : Scripted → Shared → Verdict → Type 0
IsJudged script opening verdict =
    (image : Loaded) × (history : History) × IsImageOf script.sources image × IsRun (program_of image) opening history × (is_over opening history ≡ true)
    × (verdict ≡ verdict_in history) × (is_of_device verdict ≡ false)
