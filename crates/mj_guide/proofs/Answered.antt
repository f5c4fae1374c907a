-- What is answered, and what is written of it.
use Rattle.std.proofs.Common.{◌≡◌, ℕ, Bool, true, false, List, [], Option, Some, Result, IfOk, refl, sym, subst}
use Rattle.std.proofs.lemmas.Result.{IfOk-weaker}
use Rattle.std.specs.Io.KnownBytes.{Appends}
use Rattle.mj_steps.specs.declared.step.Step.{Step}
use Rattle.mj_sys.specs.Shared.{Shared}
use Rattle.mj_debug.specs.Walks.{Walk}
use Rattle.mj_dialogue.specs.declared.command.Command.{Command}
use Rattle.mj_dialogue.specs.declared.command.Command.TheVariants as commands
use Rattle.mj_dialogue.specs.Says.{Says}
use Rattle.mj_inspect.specs.declared.source.Source.{Source}
use Rattle.mj_guide.specs.declared.request.Request.{Request}
use Rattle.mj_guide.specs.declared.request.Request.TheVariants as requests
use Rattle.mj_guide.specs.declared.request.Goal.{Goal}
use Rattle.mj_guide.specs.declared.request.Goal.TheVariants as goals
use Rattle.mj_guide.specs.declared.responding.TheConstants.{MOST}
use Rattle.mj_guide.specs.Goes.{GoesOn, GoesUntil}
use Rattle.mj_guide.specs.Notes.{Situation}
use Rattle.mj_guide.specs.Responds.{Answers, Responds, RespondsPlainly, SaysPlainly, watched_behind}

-- ---- requests that are no commands, and up to no goal

abbrev pub IsOther : Request → Type 0
IsOther (requests.Plain command) = ⊥
IsOther (requests.Until goal) = ⊥
IsOther _ = Unit {0}

abbrev pub Answered : Shared → List Source → Situation → Request → Bool → Situation → Type 0
Answered opening sources old request full new =
    (bytes : List ℕ) × Answers opening sources old request bytes new.walk × (full ≡ false) × Appends old.written new.written bytes
    × (new.steps ≡ old.steps) × (new.watched ≡ watched_behind old.watched request) × (new.starts ≡ old.starts)

responds : (opening : Shared) (sources : List Source) (old : Situation) (request : Request) (full : Bool) (new : Situation)
    → IsOther request → Answered opening sources old request full new → Responds opening sources old request full new
responds opening sources old (requests.Plain command) full new none is = absurd none
responds opening sources old (requests.Until goal) full new none is = absurd none
responds opening sources old requests.Help full new other is = is
responds opening sources old requests.Breaks full new other is = is
responds opening sources old (requests.SetAt entry) full new other is = is
responds opening sources old (requests.ClearAt entry) full new other is = is
responds opening sources old requests.Source full new other is = is
responds opening sources old (requests.SourceAt routine line) full new other is = is
responds opening sources old (requests.SourceOf entry) full new other is = is
responds opening sources old (requests.Show name) full new other is = is
responds opening sources old (requests.ShowOf job name) full new other is = is
responds opening sources old (requests.Special special) full new other is = is
responds opening sources old (requests.SpecialOf job special) full new other is = is
responds opening sources old requests.Waits full new other is = is
responds opening sources old requests.Watched full new other is = is
responds opening sources old (requests.Watch name) full new other is = is
responds opening sources old (requests.Unwatch name) full new other is = is
responds opening sources old (requests.Keep file) full new other is = is
responds opening sources old requests.Branch full new other is = is

-- what is answered to it is written
pub answered : {E : Type 0} (opening : Shared) (sources : List Source) (old new : Situation) (request given : Request) (bytes told : List ℕ) (r : Result Bool E)
    → given ≡ request → IsOther request → told ≡ bytes → Answers opening sources old request bytes new.walk
    → new.steps ≡ old.steps → new.watched ≡ watched_behind old.watched request → new.starts ≡ old.starts
    → IfOk r (λ full. (full ≡ false) × Appends old.written new.written told) → IfOk r (λ full. Responds opening sources old given full new)
answered opening sources old new request given bytes told r is other same says steps watched starts put =
    IfOk-weaker r _ _
    (λ full wrote.
    (let P : List ℕ → Type 0 = λ l. Appends old.written new.written l in
    let R : Request → Type 0 = λ q. Responds opening sources old q full new in
    subst R (sym is) (responds opening sources old request full new other (bytes, says, wrote.0, subst P same wrote.1, steps, watched, starts)))) put

-- what holds of the answer to this request holds of that to the one that was given
pub request_so : {E : Type 0} (opening : Shared) (sources : List Source) (old new : Situation) (request given : Request) (r : Result Bool E) → given ≡ request
    → IfOk r (λ full. Responds opening sources old request full new) → IfOk r (λ full. Responds opening sources old given full new)
request_so opening sources old new request given r is says =
    IfOk-weaker r _ _ (λ full so. (let R : Request → Type 0 = λ q. Responds opening sources old q full new in subst R (sym is) so)) says

-- ---- commands that stand without a prompt too

-- what holds of the answer to this command holds of that to the one that was given
pub plain_so : {E : Type 0} (opening : Shared) (old new : Situation) (command given : Command) (r : Result Bool E)
    → given ≡ command → IfOk r (λ full. RespondsPlainly opening old command full new) → IfOk r (λ full. RespondsPlainly opening old given full new)
plain_so opening old new command given r is says =
    IfOk-weaker r _ _ (λ full so. (let R : Command → Type 0 = λ q. RespondsPlainly opening old q full new in subst R (sym is) so)) says

-- to `q` nothing is answered
pub quits : {E : Type 0} (opening : Shared) (old new : Situation) (told : List ℕ) (r : Result Bool E)
    → new.walk ≡ old.walk → new.steps ≡ old.steps → new.watched ≡ old.watched → new.starts ≡ old.starts → told ≡ []
    → IfOk r (λ full. (full ≡ false) × Appends old.written new.written told) → IfOk r (λ full. RespondsPlainly opening old commands.Quit full new)
quits opening old new told r walk steps watched starts none put =
    IfOk-weaker r _ _
    (λ full wrote.
    (let P : List ℕ → Type 0 = λ l. Appends old.written new.written l in
    ([], (walk, refl, wrote.0), subst P none wrote.1, steps, watched, starts))) put

-- a line that is set as a breakpoint
pub sets : {E : Type 0} (opening : Shared) (old new : Situation) (routine : List ℕ) (line : ℕ) (bytes told : List ℕ) (r : Result Bool E)
    → told ≡ bytes → SaysPlainly opening old.walk (commands.Set routine line) bytes false new.walk
    → new.steps ≡ old.steps → new.watched ≡ old.watched → new.starts ≡ old.starts
    → IfOk r (λ full. (full ≡ false) × Appends old.written new.written told) → IfOk r (λ full. RespondsPlainly opening old (commands.Set routine line) full new)
sets opening old new routine line bytes told r same says steps watched starts put =
    IfOk-weaker r _ _
    (λ full wrote.
    (let P : List ℕ → Type 0 = λ l. Appends old.written new.written l in
    (bytes, (says.0, says.1, wrote.0), subst P same wrote.1, steps, watched, starts))) put

-- any other is answered as without a prompt
pub others : {E : Type 0} (opening : Shared) (old new : Situation) (command : Command) (r : Result Bool E)
    → ((step : Step) → command ≡ commands.Step step → ⊥) → ((count : ℕ) → command ≡ commands.Go count → ⊥)
    → ((routine : List ℕ) (line : ℕ) → command ≡ commands.Set routine line → ⊥)
    → new.steps ≡ old.steps → new.watched ≡ old.watched → new.starts ≡ old.starts
    → IfOk r (λ full. (bytes : List ℕ) × Says opening old.walk command bytes full new.walk × Appends old.written new.written bytes)
    → IfOk r (λ full. RespondsPlainly opening old command full new)
others opening old new command r stepping going setting steps watched starts says = IfOk-weaker r _ _ (λ full so. by command stepping going setting full so) says
  where
    by : (command : Command) → ((step : Step) → command ≡ commands.Step step → ⊥) → ((count : ℕ) → command ≡ commands.Go count → ⊥)
        → ((routine : List ℕ) (line : ℕ) → command ≡ commands.Set routine line → ⊥) → (full : Bool)
        → (bytes : List ℕ) × Says opening old.walk command bytes full new.walk × Appends old.written new.written bytes → RespondsPlainly opening old command full new
    by (commands.Step step) stepping going setting full so = absurd (stepping step refl)
    by (commands.Go count) stepping going setting full so = absurd (going count refl)
    by (commands.Set routine line) stepping going setting full so = absurd (setting routine line refl)
    by (commands.Clear routine line) stepping going setting full so = (so.0, so.1, so.2, steps, watched, starts)
    by commands.Back stepping going setting full so = (so.0, so.1, so.2, steps, watched, starts)
    by commands.Forward stepping going setting full so = (so.0, so.1, so.2, steps, watched, starts)
    by (commands.Frames job) stepping going setting full so = (so.0, so.1, so.2, steps, watched, starts)
    by (commands.Locals job) stepping going setting full so = (so.0, so.1, so.2, steps, watched, starts)
    by commands.Locks stepping going setting full so = (so.0, so.1, so.2, steps, watched, starts)
    by commands.Globals stepping going setting full so = (so.0, so.1, so.2, steps, watched, starts)
    by commands.Quit stepping going setting full so = (so.0, so.1, so.2, steps, watched, starts)

-- ---- goals

-- up to a goal that is no line
pub until_other : {E : Type 0} (opening : Shared) (old new : Situation) (goal : Goal) (r : Result Bool E)
    → ((routine : List ℕ) (line : ℕ) → goal ≡ goals.Line routine line → ⊥)
    → IfOk r (λ full. GoesOn opening (Some goal) MOST old full new) → IfOk r (λ full. GoesUntil opening goal old full new)
until_other opening old new goal r isnt goes = IfOk-weaker r _ _ (λ full so. by goal isnt full so) goes
  where
    by : (goal : Goal) → ((routine : List ℕ) (line : ℕ) → goal ≡ goals.Line routine line → ⊥)
        → (full : Bool) → GoesOn opening (Some goal) MOST old full new → GoesUntil opening goal old full new
    by goals.Clash isnt full so = so
    by goals.Busy isnt full so = so
    by goals.Fault isnt full so = so
    by (goals.Line routine line) isnt full so = absurd (isnt routine line refl)
