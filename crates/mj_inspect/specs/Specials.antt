-- What is shown of a special variable of a job.
use Rattle.std.specs.Prelude.{◌≡◌, ℕ, List, [], ◌∷◌, ◌++◌, take, Option, Some, None, decimal, codes, ◌⊎◌, if◌then◌else◌}
use Rattle.mj_ask.specs.Started.{Started}
use Rattle.mj_ask.specs.declared.ask.Reply.{Reply}
use Rattle.mj_semantics.specs.Job.{Start}
use Rattle.mj_semantics.specs.State.{State}
use Rattle.mj_load.specs.Image.{Loaded, program_of}
use Rattle.mj_jobvm.specs.Jobs.{Running}
use Rattle.mj_jobvm.specs.declared.job.Turn.{Turn}
use Rattle.mj_sys.specs.History.{History}
use Rattle.mj_core.specs.Runs.{start_in}
use Rattle.mj_replica.specs.Replays.{turns_limit}
use Rattle.mj_dialogue.specs.Lines.{lined}
use Rattle.mj_inspect.specs.declared.special.Special.{Special}
use Rattle.mj_inspect.specs.declared.special.Special.TheVariants as specials
use Rattle.mj_inspect.specs.Stands.{IsBehind, IsNext}
use Rattle.mj_inspect.specs.Waits.{IsCutBefore, numbered, started_in, told_before}

-- its value in a state
abbrev pub special_of : Special → State → ℕ
special_of specials.Level s = s.level
special_of specials.Test s = if s.test then 1 else 0

-- its value at the ask that a job comes to behind these replies, or as far as it is followed there
abbrev pub HasSpecial : Loaded → Start → List Reply → Special → ℕ → Type 0
HasSpecial image start told special value =
    (job : Running) × (turn : Turn) × IsBehind image start told job × IsNext turns_limit (program_of image) start told turn job
    × (value ≡ special_of special job.run.at.state)

-- the line of it
abbrev pub ShowsValue : Loaded → Start → List Reply → Special → List ℕ → Type 0
ShowsValue image start told special bytes = (value : ℕ) × HasSpecial image start told special value × (bytes ≡ lined (decimal value))

-- that there is none to show
abbrev pub IsNone : List ℕ → Type 0
IsNone bytes = bytes ≡ lined (codes "C1")

-- the last of the events of a job before a place, of which it has the reply beyond those before it; none where the job has none
abbrev pub IsLast : ℕ → History → ℕ → Option ℕ → Type 0
IsLast job history place None = told_before job history place ≡ []
IsLast job history place (Some last) = (reply : Reply) × (told_before job history place ≡ told_before job history last ++ reply ∷ [])

-- What is shown of a job at the ask of this event: the value there, if it is followed so far. Before its first event it is as at its start.
abbrev pub ShowsAt : Loaded → History → Start → Special → Option ℕ → List ℕ → Type 0
ShowsAt image history start special None bytes = bytes ≡ lined (decimal 0)
ShowsAt image history start special (Some last) bytes =
    (IsCutBefore image start history last × IsNone bytes) ⊎ ShowsValue image start (told_before start.job history last) special bytes

-- one of these
abbrev pub IsAmong : Start → List Start → Type 0
IsAmong start [] = ⊥
IsAmong start (s ∷ starts) = (start ≡ s) ⊎ IsAmong start starts

-- none of these is the job of this number
abbrev pub IsNowhere : ℕ → List Start → Type 0
IsNowhere number starts = (start : Started) → IsAmong (start_in number start) starts → ⊥

-- the jobs that there are at a place of a history, where the first started so
abbrev pub jobs_at : List Started → History → ℕ → List Start
jobs_at starts history place = numbered 1 starts ++ started_in (take place history)

-- What is shown of the job of a number at a place: at the ask of its last event before the place; or that there is no such job.
abbrev pub ShowsSpecial : Loaded → List Started → History → ℕ → ℕ → Special → List ℕ → Type 0
ShowsSpecial image starts history place number special bytes =
    (IsNowhere number (jobs_at starts history place) × IsNone bytes)
    ⊎ ((start : Started) × (last : Option ℕ) × IsAmong (start_in number start) (jobs_at starts history place)
    × IsLast number history place last × ShowsAt image history (start_in number start) special last bytes)
