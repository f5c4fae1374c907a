-- How commands end, and what a debugger begins with that opens a trace, or goes on from a place.
use Rattle.std.specs.Prelude.{◌≡◌, ◌≤◌, ℕ, List, Option, codes, take, ◌++◌, ◌∷◌, [], ◌⊎◌, Bool, true, false}
use Rattle.std.specs.Io.KnownBytes.{Appends}
use Rattle.mj_semantics.specs.Program.{Program}
use Rattle.mj_sys.specs.Shared.{Shared}
use Rattle.mj_sys.specs.History.{History}
use Rattle.mj_replica.specs.Replays.{history_of}
use Rattle.mj_debug.specs.Walks.{Walk}
use Rattle.mj_trace.specs.Trace.{Traced}
use Rattle.mj_remade.specs.Marks.{AreMarksOf}
use Rattle.mj_remade.specs.Records.{IsRecord, IsApart}
use Rattle.mj_prompt.specs.declared.talking.Talked.{Talked}
use Rattle.mj_prompt.specs.declared.talking.Talked.TheVariants as talks

-- Commands ended at this place of this record. The exit status is one that the program has; where all is to begin again, the events before the place go over,
-- and the breakpoints.
abbrev pub IsEnd : Talked → Walk → Type 0
IsEnd (talks.Over status) walk = status ≤ 4
IsEnd (talks.Again again) walk =
    (history_of again.told.items ≡ take walk.place walk.core.history) × AreMarksOf walk.core.image walk.marks again.marks.items

-- the record is that of before, and this is told; or it isn't, and that is
abbrev pub IsResumed : History → History → Option (List ℕ) → Option (List ℕ) → Type 0
IsResumed told history old new =
    ((history ≡ told) × Appends old new (codes "ok" ++ 10 ∷ [])) ⊎ ((history ≡ told → ⊥) × Appends old new (codes "differs" ++ 10 ∷ []))

-- the record is that of the trace; or it differs, and there is a first place where it isn't
abbrev pub IsOpened : Program → Shared → Traced → History → Bool → Type 0
IsOpened program opening trace history false = IsRecord trace.form program opening trace.events history
IsOpened program opening trace history true = (at : ℕ) × IsApart trace.form program opening trace.events history at
