-- What a device was asked last, and what it answered.
use Rattle.std.specs.Prelude.{ℕ, List, Option, ◌≡◌}
use Rattle.mj_dev.specs.Heard.{Heard}
use Rattle.mj_dev.specs.Rest.{TakesOne}
use Rattle.mj_dev.specs.declared.device.Did.{Did}
use Rattle.mj_dev.specs.declared.device.Input.{Input}
use Rattle.mj_dev.specs.declared.device.Input.TheVariants as input
use Rattle.mj_dev.specs.declared.talk.Code.{Code}
use Rattle.mj_dev.specs.declared.talk.Code.TheVariants as codes

-- a call to a device, with its answer
pub data DeviceCall : Type 0 where
  Begun : Did → DeviceCall
  Wrote : List ℕ → Did → DeviceCall
  Gave : Input → DeviceCall
  Over : Did → DeviceCall

-- the code that is read where a device was asked for a line: the first byte's, or 10 where it is empty, and else why there is no line
abbrev pub IsCodeOf : Input → Code → Type 0
IsCodeOf (input.Line line) code = (rest : Option (List ℕ)) × TakesOne line code rest
IsCodeOf input.End code = code ≡ codes.End
IsCodeOf input.NotYet code = code ≡ codes.NotYet
IsCodeOf input.Failed code = code ≡ codes.Failed
IsCodeOf input.Memory code = code ≡ codes.Memory

-- these are the number and the counts of the session's device
pub record AreOf (session : Heard) (inside : ℕ) (failures : ℕ) (taken : List ℕ) (given : List (List ℕ)) : Type 0 where
  pub of_inside : inside ≡ session.inside
  pub of_failures : failures ≡ session.failures
  pub of_taken : taken ≡ session.taken
  pub of_given : given ≡ session.given

-- Some device, whose members these are and which is as the new session has it, was told so where the old session had it: so between the two there was
-- this call alone.
abbrev pub IsToldBy : {D : Type 0} → (D → ℕ) → (D → ℕ) → (D → List ℕ) → (D → List (List ℕ)) → (D → ℕ → DeviceCall → Type 0) → Heard → Heard → DeviceCall
    → Type 0
IsToldBy {D} inside failures taken given is_told old new told =
    (device : D) × AreOf new (inside device) (failures device) (taken device) (given device) × is_told device old.inside told

-- some such device was asked for a line, of which this is the code that is read
abbrev pub IsToldCodeBy : {D : Type 0} → (D → ℕ) → (D → ℕ) → (D → List ℕ) → (D → List (List ℕ)) → (D → ℕ → DeviceCall → Type 0) → Heard → Heard → Code
    → Type 0
IsToldCodeBy {D} inside failures taken given is_told old new code =
    (device : D) × AreOf new (inside device) (failures device) (taken device) (given device)
    × ((read : Input) × IsCodeOf read code × is_told device old.inside (Gave read))
