-- What is told of a job that ended by a fault.
use Rattle.std.specs.Prelude.{◌≡◌, ℕ, List, ◌++◌, ◌⊎◌, Option, Some, None}
use Rattle.mj_text.specs.declared.fault.Fault.{Fault}
use Rattle.mj_ask.specs.declared.ask.Reply.{Reply}
use Rattle.mj_ask.specs.declared.entry.Entry.{Entry}
use Rattle.mj_ask.specs.Started.{Started}
use Rattle.mj_semantics.specs.Job.{Start}
use Rattle.mj_load.specs.Image.{Loaded}
use Rattle.mj_machine.specs.Standing.{Standing}
use Rattle.mj_machine.specs.Kept.{standing}
use Rattle.mj_faulted.specs.declared.fault.Fall.{Fall}
use Rattle.mj_faulted.specs.Stands.{FaultsAt}
use Rattle.mj_faulted.specs.Stories.{story_text, lost_text}

-- how a job of this number starts
abbrev pub begun : ℕ → Started → Start
begun job start = record { job = job; entry = start.entry; values = start.values }

-- What is told of a job that starts so and got these replies: its run comes to the fault from where it is said to stand, and stands then where it is said to.
-- Or the fault isn't found again.
abbrev pub IsStory : Loaded → List (List ℕ × List ℕ) → Started → List Reply → ℕ → Fault → List ℕ → Type 0
IsStory image sources start replies job fault text =
    ((at : Standing) × (fallen : Standing) × FaultsAt image (begun job start) replies fault at fallen
    × (text ≡ story_text image sources job fault start.entry at fallen))
    ⊎ (text ≡ lost_text job fault)

-- it is put to the end of some bytes
abbrev pub AddsStory : Loaded → List (List ℕ × List ℕ) → Started → List Reply → ℕ → Fault → List ℕ → List ℕ → Type 0
AddsStory image sources start replies job fault old new =
    (text : List ℕ) × IsStory image sources start replies job fault text × (new ≡ old ++ text)

-- what is told by a machine before the fault and one at it, if they were found
abbrev pub found_text : Loaded → List (List ℕ × List ℕ) → ℕ → Fault → Entry → Option Fall → List ℕ
found_text image sources job fault entry None = lost_text job fault
found_text image sources job fault entry (Some f) = story_text image sources job fault entry (standing f.before None) (standing f.fallen None)
