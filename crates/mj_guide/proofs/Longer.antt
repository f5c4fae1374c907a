-- The record is longer behind a step in turn, or what it was.
use Rattle.std.proofs.Common.{◌≡◌, ℕ, Bool, true, false, [], ◌++◌, sym, ap, ◌∙◌, inl, inr, append-nil}
use Rattle.std.specs.Prelude.{Result, Ok}
use Rattle.mj_steps.specs.declared.step.Refusal.{Refusal}
use Rattle.mj_steps.specs.declared.step.Way.TheVariants as ways
use Rattle.mj_jobvm.specs.declared.job.Turn.TheVariants as turns
use Rattle.mj_sys.specs.Shared.{Shared}
use Rattle.mj_sys.specs.History.{History}
use Rattle.mj_core.specs.declared.seen.Seen.{Seen}
use Rattle.mj_core.specs.Shown.{Shown}
use Rattle.mj_debug.specs.declared.debugger.Gone.{Gone}
use Rattle.mj_debug.specs.declared.debugger.Gone.TheVariants as gones
use Rattle.mj_debug.specs.Goes.{GoGives, Passes}
use Rattle.mj_debug.specs.Walks.{Walk}
use Rattle.mj_debug.proofs.Growing.{step_grows, ready_grows, ready_keeps}

abbrev pub IsLonger : History → History → Type 0
IsLonger old new = (more : History) × (new ≡ old ++ more)

-- by a step that is made, also where its job was made ready before
passes : (opening : Shared) (old : Walk) (first : Bool) (job : ℕ) (answer : Result Seen Refusal) (new : Shown) → Passes opening old first job answer new
    → IsLonger old.core.history new.history
passes opening old true job answer new is =
    let grows = step_grows opening old.core new (record { job = job; way = ways.Go }) answer is in
    (grows.more, grows.history)
passes opening old false job answer new (inl (places, stop, (ready, readies, steps))) =
    let kept = ready_keeps opening old.core ready job (Ok turns.Asks) readies in
    let grows = step_grows opening ready new (record { job = job; way = ways.Go }) answer steps in
    (grows.more, grows.history ∙ ap (λ (h : History). h ++ grows.more) kept.1)
passes opening old false job answer new (inr (turn, unasked, readies)) =
    let grows = ready_grows opening old.core new job turn readies in
    (grows.more, grows.history)

-- by a step in turn, whatever came of it
pub goes_longer : (opening : Shared) (old : Walk) (first : Bool) (gone : Gone) (new : Walk) → GoGives opening old first gone new → IsLonger old.core.history new.core.history
goes_longer opening old first gones.NotAtEnd new is = ([], ap (λ (w : Walk). w.core.history) is.1 ∙ sym (append-nil old.core.history))
goes_longer opening old first gones.Over new is = ([], ap (λ (w : Walk). w.core.history) is.2 ∙ sym (append-nil old.core.history))
goes_longer opening old first (gones.At job routine line) new is =
    let grows = ready_grows opening old.core new.core job (Ok turns.Asks) is.4 in
    (grows.more, grows.history)
goes_longer opening old first (gones.Step job answer) new is = passes opening old first job answer new.core is.2
