-- What a clash keeps of an answer.
use Rattle.std.specs.Prelude.{◌≡◌, ℕ, Bool, true, false, Some, None, pos, List, if◌then◌else◌}
use Rattle.mj_num.specs.Number.{number_of, is_canonic}
use Rattle.mj_store.specs.declared.access.Access.{Access}
use Rattle.mj_store.specs.declared.access.Answer.{Answer}
use Rattle.mj_store.specs.declared.access.Answer.TheVariants as answers_are
use Rattle.mj_ask.specs.declared.clash.Kept.{Kept}
use Rattle.mj_ask.specs.declared.clash.Kept.TheVariants as kepts
use Rattle.mj_ask.specs.Formed.{is_kept, is_answer}
use Rattle.mj_ask.specs.Fits.{answers}

-- a subscript: a number where it is canonic
abbrev pub kept_subscript : List ℕ → Kept
kept_subscript s = if is_canonic s then kepts.Number (number_of s) else kepts.Text s

-- an answer, of which it is forgotten what was asked. No question is answered as a change is, of which nothing is kept
abbrev pub kept_of : Answer → Kept
kept_of (answers_are.Value v) = elim v [ None ↦ kepts.Nothing | Some t ↦ kepts.Text t ]
kept_of (answers_are.Data d) = kepts.Number (pos d)
kept_of (answers_are.Order s) = elim s [ None ↦ kepts.Nothing | Some t ↦ kept_subscript t ]
kept_of (answers_are.Query m) = elim m [ None ↦ kepts.Nothing | Some n ↦ kepts.Name n ]
kept_of (answers_are.Subtree nodes) = kepts.Subtree nodes
kept_of answers_are.Done = kepts.Nothing
kept_of answers_are.Limit = kepts.Nothing

-- the answer is that a limit is passed
abbrev pub is_limit : Answer → Bool
is_limit answers_are.Limit = true
is_limit _ = false

-- two answers to one access, of which neither says that a limit is passed
pub record AreAnswers (a : Access) (x y : Answer) : Type 0 where
  pub one : answers a x ≡ true
  pub other : answers a y ≡ true
  pub one_within : is_limit x ≡ false
  pub other_within : is_limit y ≡ false

-- what is kept of an answer that can be written can be written, and it tells the answers to one access apart
pub record KeepsAnswer (x : Answer) (k : Kept) : Type 0 where
  pub formed : is_answer x ≡ true → is_kept k ≡ true
  pub apart : (a : Access) (y : Answer) → AreAnswers a x y → kept_of y ≡ k → y ≡ x
