-- What is looked for, by the word for it.
use Rattle.std.specs.Prelude.{◌≡◌, ℕ, List, Option, Some, None, true, false, codes}
use Rattle.std.specs.Str.{bytes_eq}
use Rattle.mj_explore.specs.declared.goals.Goal.{Goal}
use Rattle.mj_explore.specs.declared.goals.Goal.TheVariants as goals
use Rattle.mj_judge.specs.Conditions.{IsConditionOf, has_caret}
use Rattle.mj_search.specs.Printed.{is_kind}

-- A word says that this is looked for. What isn't one of three words is an expression that isn't true; it spells one, which names a global.
abbrev pub IsGoal : List ℕ → Goal → Type 0
IsGoal word goals.Fault = bytes_eq word (codes "fault") ≡ true
IsGoal word goals.Stuck = bytes_eq word (codes "stuck") ≡ true
IsGoal word goals.Clash = bytes_eq word (codes "clash") ≡ true
IsGoal word (goals.False script) = (is_kind word ≡ false) × (has_caret word ≡ true) × IsConditionOf word script

-- and where there is no word, nothing is
abbrev pub IsGoalOf : Option (List ℕ) → Option Goal → Type 0
IsGoalOf None None = Unit {0}
IsGoalOf (Some word) (Some goal) = IsGoal word goal
IsGoalOf _ _ = ⊥
