-- The head of a trace is that of the run that begins so.
use Rattle.std.specs.Prelude.{IfSome}
use Rattle.std.specs.Borrow.{Bor}
use Rattle.std.specs.List.{list_all}
use Rattle.std.proofs.Common.{◌≡◌, ◌≤◌, ℕ, true, List, length, map, Option, Some, None, refl, sym, subst}
use Rattle.mj_store.specs.Questions.{Content}
use Rattle.mj_ask.specs.Fitting.{is_content}
use Rattle.mj_ask.specs.Started.{Started}
use Rattle.mj_rou.specs.Words.{Each, IsRoutineWorded}
use Rattle.mj_load.specs.Image.{Loaded, routines_of}
use Rattle.mj_dev.specs.Shelves.{Shelf, AreRising, count_of, principal, left_of}
use Rattle.mj_jobs.specs.Rows.{rows_limit}
use Rattle.mj_sys.specs.Opening.{opening_of}
use Rattle.mj_sys.specs.Shared.{Shared}
use Rattle.mj_replica.specs.Replicas.{AreWhole}
use Rattle.mj_text.specs.declared.limit.Limit.TheVariants.{V2}
use Rattle.mj_trace.specs.declared.form.Form.TheVariants.{Second}
use Rattle.mj_trace.specs.Trace.{opening_text}
use Rattle.mj_trace.specs.Sized.{device_count_fits}
use Rattle.mj_recorded.specs.Traces.{entries_of, IsBeginning}
use Rattle.mj_report.specs.Traced.{IsHead}
use Rattle.mj_begin.specs.Words.{WereBegun}
use Rattle.mj_begin.proofs.Starting.{entries_so, bare_so}

module _ (globals : Content) (pool : List Shelf) (starts : List Started) (words files : List (Bor (List ℕ))) (were : WereBegun words files starts) (content : is_content globals ≡ true)
    (whole : AreWhole pool) (some : 1 ≤ length starts) (few : length starts ≤ rows_limit) (fits : length starts ≤ left_of principal pool) where
  begins_so : AreRising pool → IsBeginning globals pool starts
  begins_so rising = record {
    listed = content;
    rising = rising;
    whole = whole;
    entries = entries_so words files starts were;
    bare = bare_so words files starts were;
    some = some;
    few = few;
    fits = fits;
  }

  -- of a trace, if there is one
  pub heads : {X : Type 0} (head : X → List ℕ) (trace : Option X) (image given : Loaded) (opening : Shared) → image ≡ given → opening_of globals pool starts ≡ opening
      → given.bounds.limit ≡ V2 → Each IsRoutineWorded (routines_of given) → IfSome trace (λ t. head t ≡ opening_text (Second V2) (map count_of pool) (entries_of starts))
      → IfSome trace (λ t. list_all device_count_fits (map count_of pool) ≡ true) → IfSome trace (λ t. AreRising pool) → IfSome trace (λ t. IsHead image opening (head t))
  heads head None image given opening same opens long worded text sized rising = tt
  heads head (Some t) image given opening same opens long worded text sized rising =
      let P : Shared → Type 0 = λ o. IsHead image o (head t) in
      let Q : Loaded → Type 0 = λ i. Each IsRoutineWorded (routines_of i) in
      let L : Loaded → Type 0 = λ i. i.bounds.limit ≡ V2 in
      subst P opens (record {
        pool = pool;
        starts = starts;
        long = subst L (sym same) long;
        worded = subst Q (sym same) worded;
        begins = begins_so rising;
        opens = refl;
        text = text;
        sized = sized;
      })
