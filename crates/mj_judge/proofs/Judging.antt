-- A run that judges an expression.
use Rattle.std.specs.Prelude.{IfOk, IfSome, Result}
use Rattle.std.specs.Str.{bytes_eq}
use Rattle.std.proofs.Common.{◌≡◌, ℕ, List, Option, Bool, true, false, codes, sym, ap, ◌∙◌, subst}
use Rattle.std.specs.declared.alloc.AllocError.{AllocError}
use Rattle.std.proofs.lemmas.Option.{IfSome_then}
use Rattle.std.proofs.lemmas.Result.{IfOk-weaker}
use Rattle.mj_sys.specs.Shared.{Shared}
use Rattle.mj_script.specs.Scripts.{Scripted, IsImageOf}
use Rattle.mj_load.specs.Image.{Loaded, program_of}
use Rattle.mj_dev.specs.Shelves.{principal}
use Rattle.mj_core.specs.Runs.{IsRun, out_of}
use Rattle.mj_core.specs.Shown.{Shown, begun}
use Rattle.mj_run.specs.Stepping.{AreSteps}
use Rattle.mj_run.proofs.Stepping.{steps_image}
use Rattle.mj_judge.specs.declared.conditions.Verdict.{Verdict}
use Rattle.mj_text.specs.declared.fault.Fault.{Fault}
use Rattle.mj_judge.specs.Marks.{fault_in, is_over}
use Rattle.mj_judge.specs.Judged.{IsJudged, ShowsVerdict, by_memory, is_of_device, verdict_by}

-- the routines stay those of the script
pub still_of : (script : Scripted) (opening : Shared) (old core : Shown) (image : Loaded) → IsImageOf script.sources image → old ≡ begun image
    → AreSteps by_memory opening old core → IsImageOf script.sources core.image
still_of script opening old core image is begins run =
    let same : core.image ≡ image = steps_image by_memory opening old core run ∙ ap (λ (s : Shown). s.image) begins in
    let P : Loaded → Type 0 = λ i. IsImageOf script.sources i in
    subst P (sym same) is

-- jobs that stand so show it, by the fault by which the first ended, if there is one, and by what it wrote
pub shows_verdict : (opening : Shared) (core : Shown) (verdict : Verdict) (fault : Option Fault) (is_one : Bool) (out : List ℕ)
    → IsRun (program_of core.image) opening core.history
    → is_over opening core.history ≡ true → out ≡ out_of core.history 1 principal 1 → is_one ≡ bytes_eq out (codes "1") → fault ≡ fault_in core.history
    → verdict ≡ verdict_by fault is_one → is_of_device verdict ≡ false → ShowsVerdict opening core verdict
shows_verdict opening core verdict fault is_one out run over wrote one ended comes apart =
    let one_wrote : is_one ≡ bytes_eq (out_of core.history 1 principal 1) (codes "1") = one ∙ ap (λ o. bytes_eq o (codes "1")) wrote in (
      run,
      over,
      comes ∙ ap (λ (f : Option Fault). verdict_by f is_one) ended ∙ ap (verdict_by (fault_in core.history)) one_wrote,
      apart,
    )

-- jobs of an expression's script that were stepped from their beginning, and show it so, judge it
pub judged_so : (script : Scripted) (opening : Shared) (old core : Shown) (image : Loaded) (judged : Result (Option Verdict) AllocError)
    → IsImageOf script.sources image → old ≡ begun image → AreSteps by_memory opening old core
    → IfOk judged (λ j. IfSome j (ShowsVerdict opening core)) → IfOk judged (λ j. IfSome j (IsJudged script opening))
judged_so script opening old core image judged is begins steps shown =
    IfOk-weaker judged _ _
    (λ j h. IfSome_then j h (λ verdict shows. (core.image, core.history, still_of script opening old core image is begins steps, shows.0, shows.1, shows.2, shows.3)))
    shown
