-- A history that is woven of the logs of jobs.
use Rattle.std.specs.Prelude.{◌≡◌, ℕ, zero, suc, List, [], ◌∷◌, ◌++◌, length, Option, Some, None, ⊤, slice_get}
use Rattle.mj_ask.specs.declared.ask.Ask.{Ask}
use Rattle.mj_ask.specs.declared.ask.Reply.{Reply}
use Rattle.mj_sys.specs.History.{History, log_of}
use Rattle.mj_core.specs.declared.happened.Happened.{Happened}

-- what each job asked and was told, the first job first
abbrev pub Logs : Type 0
Logs = List (List (Ask × Reply))

-- an entry of the log of a job
abbrev pub entry_at : Logs → ℕ → ℕ → Option (Ask × Reply)
entry_at logs zero at = None
entry_at logs (suc k) at = elim (slice_get logs k) [ None ↦ None | Some log ↦ slice_get log at ]

-- what happened, where it is known which entry of which job's log came when
abbrev pub woven : Logs → List Happened → History
woven logs [] = []
woven logs (h ∷ order) = elim (entry_at logs h.job h.at) [
  | None ↦ woven logs order
  | Some e ↦ record { job = h.job; ask = e.0; reply = e.1 } ∷ woven logs order
]

-- each of them is an entry that is there
abbrev pub AreThere : Logs → List Happened → Type 0
AreThere logs [] = ⊤
AreThere logs (h ∷ order) = ((e : Ask × Reply) × (entry_at logs h.job h.at ≡ Some e)) × AreThere logs order

-- each of them is the next entry of its job's log, behind those of the events before it
abbrev pub AreInOrder : History → List Happened → History → Type 0
AreInOrder front [] history = ⊤
AreInOrder front (h ∷ order) [] = ⊤
AreInOrder front (h ∷ order) (e ∷ history) = (h.at ≡ length (log_of h.job front)) × AreInOrder (front ++ e ∷ []) order history
