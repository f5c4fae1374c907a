-- What a job asks and is told, and the program that it runs.
use Rattle.std.specs.Prelude.{◌≡◌, ◌⊎◌, ℕ, ◌+◌, List, [], ◌∷◌, ◌++◌, map, ⊤}
use Rattle.mj_ask.specs.declared.ask.Ask.{Ask}
use Rattle.mj_ask.specs.declared.ask.Reply.{Reply}
use Rattle.mj_semantics.specs.State.{Locals, Place}
use Rattle.mj_semantics.specs.Outcome.{Outcome, Needs, More}

-- the asks of a job and their replies, in order
abbrev pub Log : Type 0
Log = List (Ask × Reply)

-- the replies of a log
abbrev pub replies_of : Log → List Reply
replies_of log = map (λ e. e.1) log

-- what a job comes to with some turns and these replies
abbrev pub Program : Type 0
Program = ℕ → List Reply → Outcome

-- more turns keep what it comes to, but for using them up
abbrev pub IsSteady : Program → Type 0
IsSteady p = (n k : ℕ) (replies : List Reply) → (p n replies ≡ More) ⊎ (p (n + k) replies ≡ p n replies)

-- after this log the program makes this ask
abbrev pub Asks : Program → Log → Ask → Type 0
Asks p log a = (n : ℕ) × (locals : Locals) × (places : List Place) × (p n (replies_of log) ≡ Needs a locals places)

-- from one log on, each ask of the other is the one that the program makes then
abbrev pub AreAsked : Program → Log → Log → Type 0
AreAsked p before [] = ⊤
AreAsked p before (e ∷ es) = Asks p before e.0 × AreAsked p (before ++ e ∷ []) es
