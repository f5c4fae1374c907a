-- The bytes that are written of a run are read back.
use Rattle.std.specs.Prelude.{IfOk, Vec}
use Rattle.std.specs.Global.{Global}
use Rattle.std.specs.List.{list_all}
use Rattle.std.proofs.Common.{◌≡◌, ◌∙◌, ◌≤◌, ℕ, true, List, ◌++◌, length, Option, Result, Ok, Err, sym, ap, subst}
use Rattle.mj_ask.specs.declared.noted.Noted.{Noted}
use Rattle.mj_semantics.specs.State.{Place}
use Rattle.mj_load.specs.Image.{Loaded, program_of}
use Rattle.mj_sys.specs.Opening.{opening_of}
use Rattle.mj_sys.specs.Shared.{Shared}
use Rattle.mj_sys.specs.History.{History}
use Rattle.mj_core.specs.Runs.{IsRun, ArePlacedIn}
use Rattle.mj_text.specs.declared.limit.Limit.{Limit}
use Rattle.mj_text.specs.declared.limit.Limit.TheVariants.{V2}
use Rattle.mj_trace.specs.declared.form.Form.TheVariants.{Second}
use Rattle.mj_trace.specs.Lines.{events_limit}
use Rattle.mj_trace.specs.Trace.{Traced, trace_text, event_lines}
use Rattle.mj_trace.specs.Sized.{IsSized, event_fits}
use Rattle.mj_recorded.specs.Traces.{noted_of, trace_of, IsWithin, IsReadBack, AreReadBack}
use Rattle.mj_report.specs.Traced.{IsHead}

module _ (law : AreReadBack) (image : Loaded) (opening : Shared) (history : History) (places : ℕ → List (Option Place)) (head : List ℕ)
    (is : IsHead image opening head) (run : IsRun (program_of image) opening history) (placed : ArePlacedIn (program_of image) opening history places)
    (most : ℕ) (short : length history ≤ most) (bound : most ≤ events_limit) where
  abbrev events : List Noted
  events = noted_of places history

  abbrev trace : Traced
  trace = trace_of V2 is.pool is.starts events

  of_trace : list_all event_fits events ≡ true → IsReadBack most image opening history (trace_text trace)
  of_trace fits =
      let sized : IsSized trace = record { devices = is.sized; events = fits } in
      let P : Shared → Type 0 = λ o. IsRun (program_of image) o history in
      let W : Shared → Type 0 = λ o. ArePlacedIn (program_of image) o history places in
      let Q : Shared → Type 0 = λ o. IsReadBack most image o history (trace_text trace) in
      let begun = opening_of opening.globals is.pool is.starts in
      let L : Limit → Type 0 = λ l. IsSized (trace_of l is.pool is.starts events) → IsWithin l (trace_of l is.pool is.starts events)
      → IsReadBack most image begun history (trace_text (trace_of l is.pool is.starts events)) in
      let whole : L V2 =
      subst L is.long
      (law most image opening.globals is.pool is.starts history places is.worded is.begins (subst P is.opens run) (subst W is.opens placed) short bound) in
      subst Q (sym is.opens) (whole sized tt)

  pub back : {E : Type 0} (r : Result (Vec ℕ Global) E) → IfOk r (λ bytes. bytes.items ≡ head ++ event_lines (Second V2) events)
      → IfOk r (λ bytes. list_all event_fits events ≡ true) → IfOk r (λ bytes. IsReadBack most image opening history bytes.items)
  back (Ok bytes) text fits =
      let Q : List ℕ → Type 0 = λ l. IsReadBack most image opening history l in
      subst Q (sym (text ∙ ap (λ (l : List ℕ). l ++ event_lines (Second V2) events) is.text)) (of_trace fits)
  back (Err e) text fits = tt
