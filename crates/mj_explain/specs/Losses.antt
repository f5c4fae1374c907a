-- Updates that were lost outside transactions: a job set a name over what another had set, after a look from before.
use Rattle.std.specs.Prelude.{◌≡◌, ◌≢◌, ℕ, ◌<◌, Bool, true, false, List, All, take, slice_get, Option, Some, None}
use Rattle.std.specs.List.{list_any}
use Rattle.mj_subs.specs.Name.{Name}
use Rattle.mj_store.specs.declared.access.Access.{Access}
use Rattle.mj_explain.specs.declared.landings.Landing.{Landing}
use Rattle.mj_explain.specs.declared.losses.Loss.{Loss}
use Rattle.mj_ask.specs.declared.noted.Noted.{Noted}
use Rattle.mj_explain.specs.Events.{began_by, change_at, touches, is_set_of, is_touch_of}
use Rattle.mj_explain.specs.Looks.{is_look_of}
use Rattle.mj_explain.specs.Landings.{made_at}

-- ---- an update

-- a job does something at a place, and has no transaction open there
pub record IsOutside (es : List Noted) (job place : ℕ) (does : Option Noted → Bool) : Type 0 where
  pub is : does (slice_get es place) ≡ true
  pub outside : began_by job (take place es) ≡ None

-- a job has no access between two places that may tell of the text of a name, or change it
abbrev pub IsUntouched : List Noted → ℕ → Name → ℕ → ℕ → Type 0
IsUntouched es job name from end = (k : ℕ) → from < k → k < end → is_touch_of job name (slice_get es k) ≡ false

-- A job looks at a name at one place and sets it at a later one, both outside transactions: it reads its text, or is told that it has none. Between them it has
-- no access that may tell of the name, or change it: so the look is the last that it knew of the name, and counts for this setting alone.
pub record IsUpdate (es : List Noted) (job : ℕ) (name : Name) (look write : ℕ) : Type 0 where
  pub looks : IsOutside es job look (λ e. is_look_of job name e)
  pub sets : IsOutside es job write (λ e. is_set_of job name e)
  pub order : look < write
  pub untouched : IsUntouched es job name look write

-- ---- a lost one

-- whether a change is to the text of a name
abbrev pub is_to : Name → Option Access → Bool
is_to n None = false
is_to n (Some a) = touches n a

-- whether one of some changes is
abbrev pub are_to : List Noted → Name → List Landing → Bool
are_to es n ls = list_any (λ l. is_to n (change_at es l.write)) ls

-- between two places no event changes the text of a name
abbrev pub IsUnchanged : List Noted → Name → ℕ → ℕ → Type 0
IsUnchanged es name from end = (k : ℕ) → from < k → k < end → are_to es name (made_at es k) ≡ false

-- Two jobs update a name. The second looks at it before the first sets it, and sets it behind that, and between the two settings nobody changes it. So what the
-- first set is set over by the second, which hadn't looked at that name since. Where the second had been told that the name has no text, that was so no more.
pub record IsLoss (es : List Noted) (l : Loss) : Type 0 where
  pub first : ℕ
  pub second : ℕ
  pub name : Name
  pub differ : first ≢ second
  pub one : IsUpdate es first name l.first_look l.first_write
  pub other : IsUpdate es second name l.second_look l.second_write
  pub early : l.second_look < l.first_write
  pub over : l.first_write < l.second_write
  pub unchanged : IsUnchanged es name l.first_write l.second_write

-- the settings by which they were lost are before a place
abbrev pub AreBefore : ℕ → List Loss → Type 0
AreBefore place ls = All (λ l. l.second_write < place) ls

-- updates that were lost, in the order of the settings by which they were, of which none is there twice
pub record AreLosses (es : List Noted) (ls : List Loss) : Type 0 where
  pub each : All (IsLoss es) ls
  pub order : (k : ℕ) (l : Loss) → slice_get ls k ≡ Some l → AreBefore l.second_write (take k ls)
