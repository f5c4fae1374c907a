-- What is told of a trace is so.
use Rattle.std.specs.Prelude.{◌≡◌, ℕ, true, List, All, length, take}
use Rattle.mj_store.specs.Questions.{Content}
use Rattle.mj_ask.specs.declared.noted.Noted.{Noted}
use Rattle.mj_explain.specs.declared.clashes.ToldClash.{ToldClash}
use Rattle.mj_explain.specs.declared.cycles.Wait.{Wait}
use Rattle.mj_explain.specs.declared.losses.Loss.{Loss}
use Rattle.mj_explain.specs.Clashes.{AreClashes, clash_places}
use Rattle.mj_explain.specs.Losses.{AreLosses}
use Rattle.mj_explain.specs.Waiting.{Asked, Hold, is_deadlock}

-- what is told: the first clashes and how many there are, the deadlocks at the end, the first lost updates and how many were found
pub record Story : Type 0 where
  pub clashes : List ToldClash
  pub all_clashes : ℕ
  pub deadlocks : List (List Wait)
  pub losses : List Loss
  pub all_losses : ℕ

-- the first so many of a list of updates that were lost are told, and how many are in it
pub record AreFirstLosses (es : List Noted) (most : ℕ) (told : List Loss) (count : ℕ) : Type 0 where
  pub found : List Loss
  pub are : AreLosses es found
  pub first : told ≡ take most found
  pub all : count ≡ length found

-- What is told of the events of a run over these globals, where the jobs that go on ask this, and names are held so: the first clashes, so many at most, in
-- order, and how many there are; deadlocks; and the first of the lost updates that were found, so many at most, in order, and how many were found.
pub record IsStory (globals : Content) (es : List Noted) (asked : List Asked) (holds : List Hold) (most : ℕ) (story : Story) : Type 0 where
  pub clashes : AreClashes globals es most story.clashes
  pub all_clashes : story.all_clashes ≡ length (clash_places es (length es))
  pub deadlocks : All (λ waits. is_deadlock asked holds waits ≡ true) story.deadlocks
  pub losses : AreFirstLosses es most story.losses story.all_losses
