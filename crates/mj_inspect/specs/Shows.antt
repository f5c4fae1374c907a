-- What is shown of a variable.
use Rattle.std.specs.Prelude.{◌≡◌, ℕ, Bool, true, false, ◌&&◌, not, List, [], ◌∷◌, ◌++◌, ◌⊎◌, if◌then◌else◌}
use Rattle.mj_subs.specs.Name.{Name, overlaps, is_above}
use Rattle.mj_store.specs.Questions.{Content}
use Rattle.mj_gfile.specs.Spelling.{listed_line}
use Rattle.mj_semantics.specs.State.{Locals, Place}
use Rattle.mj_load.specs.Image.{program_of}
use Rattle.mj_sys.specs.Shared.{Shared}
use Rattle.mj_sys.specs.History.{state_of}
use Rattle.mj_replica.specs.Shows.{HasStood}
use Rattle.mj_debug.specs.Walks.{Walk, front}
use Rattle.mj_dialogue.specs.Lines.{lined}
use Rattle.mj_dialogue.specs.Says.{IsNoJob}
use Rattle.mj_inspect.specs.Listed.{or_mark}
use Rattle.mj_inspect.specs.Own.{seen_globals}

-- a name is this one, or below it
abbrev pub is_in : Name → Name → Bool
is_in node name = overlaps name node && not (is_above node name)

-- the lines of those that are this name, or below it
abbrev pub node_lines : Content → Name → List ℕ
node_lines [] name = []
node_lines (e ∷ es) name = (if is_in e.0 name then lined (listed_line e) else []) ++ node_lines es name

-- what is shown of a variable, of these: they, or a mark where there are none
abbrev pub variable_lines : Content → Name → List ℕ
variable_lines content name = or_mark (node_lines content name)

-- What is shown of a variable of a job at the place: of a global as the job sees it; of a local as the job stood at the ask of its last event before the
-- place. Of a local of no job, that there is none.
abbrev pub ShowsOf : Bool → Shared → Walk → ℕ → Name → List ℕ → Type 0
ShowsOf true opening walk job name bytes =
    bytes ≡ variable_lines (seen_globals (state_of opening (front walk)) job) name
ShowsOf false opening walk job name bytes =
    IsNoJob opening walk job bytes
    ⊎ ((locals : Locals) × (places : List Place) × HasStood (program_of walk.core.image) opening (front walk) job locals places
    × (bytes ≡ variable_lines locals name))

abbrev pub ShowsVariable : Shared → Walk → ℕ → Name → List ℕ → Type 0
ShowsVariable opening walk job name bytes = ShowsOf name.global opening walk job name bytes
