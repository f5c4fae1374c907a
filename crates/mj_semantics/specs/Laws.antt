-- What holds of every job.
use Rattle.std.specs.Prelude.{◌≡◌, ℕ, ◌+◌, ◌<◌, ◌≤◌, List, ◌⊎◌}
use Rattle.mj_ask.specs.declared.ask.Reply.{Reply}
use Rattle.mj_ast.specs.Syntax.{Routine}
use Rattle.mj_semantics.specs.State.{State}
use Rattle.mj_semantics.specs.Program.{Program}
use Rattle.mj_semantics.specs.Outcome.{More, Handler}
use Rattle.mj_semantics.specs.Job.{Start, start as starts, run, next}

-- `next` looks as deep as any run of its turns comes
abbrev pub IsDeepEnough : Type 0
IsDeepEnough =
    (program : Program) (start : Start) (depth n : ℕ) (replies : List Reply) → n < depth
    → run program start depth n replies ≡ next program start n replies

-- what a job comes to with some turns, but for using them up, it comes to with more
abbrev pub IsSteady : Type 0
IsSteady =
    (program : Program) (start : Start) (n k : ℕ) (replies : List Reply)
    → (next program start n replies ≡ More) ⊎ (next program start (n + k) replies ≡ next program start n replies)

-- a job with some turns hands no more turns than these to what a restart goes on with: where two restarts go on alike for as many, it
-- comes to the same
abbrev pub HandsOnAtMost : Type 0
HandsOnAtMost =
    (image : List Routine) (start : Start) (depth n : ℕ) (h k : Handler) (s : State) (replies : List Reply) → n < depth
    → ((m : ℕ) → m ≤ n → h m ≡ k m) → starts image start depth n h s replies ≡ starts image start depth n k s replies
