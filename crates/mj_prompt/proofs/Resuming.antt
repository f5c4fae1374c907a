-- What a debugger begins with that goes on from a place, or opens a trace.
use Rattle.std.proofs.Common.{◌≡◌, ℕ, List, [], ◌∷◌, ◌++◌, Option, Some, None, Bool, true, false, codes, inl, inr, refl}
use Rattle.std.specs.Io.KnownBytes.{Appends}
use Rattle.mj_semantics.specs.Program.{Program}
use Rattle.mj_sys.specs.Shared.{Shared}
use Rattle.mj_sys.specs.History.{History}
use Rattle.mj_trace.specs.Trace.{Traced}
use Rattle.mj_remade.specs.Records.{Compares}
use Rattle.mj_prompt.specs.Ends.{IsResumed, IsOpened}

-- what is told is whether the record is that of before
pub resumed_by : (told h : History) (old new : Option (List ℕ)) (same : Bool)
    → (same ≡ true → h ≡ told) → (same ≡ false → h ≡ told → ⊥)
    → (same ≡ true → Appends old new (codes "ok" ++ 10 ∷ [])) → (same ≡ false → Appends old new (codes "differs" ++ 10 ∷ []))
    → IsResumed told h old new
resumed_by told h old new true is isnt ok differs = inl (is refl, ok refl)
resumed_by told h old new false is isnt ok differs = inr (isnt refl, differs refl)

-- the record is that of the trace
pub opened_same : (program : Program) (opening : Shared) (trace : Traced) (h : History)
    → Compares trace.form program opening trace.events h None → IsOpened program opening trace h false
opened_same program opening trace h is = is

-- it isn't
pub opened_apart : (program : Program) (opening : Shared) (trace : Traced) (h : History) (at : ℕ)
    → Compares trace.form program opening trace.events h (Some at) → IsOpened program opening trace h true
opened_apart program opening trace h at is = (at, is)
