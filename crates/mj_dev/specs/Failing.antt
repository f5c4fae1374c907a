-- A device that fails in one of its calls.
use Rattle.std.specs.Prelude.{ℕ, ◌≡◌, List, Option, Some, None, zero, suc}
use Rattle.mj_dev.specs.declared.device.Did.{Did}
use Rattle.mj_dev.specs.declared.device.Did.TheVariants as did
use Rattle.mj_dev.specs.declared.device.Input.{Input}
use Rattle.mj_dev.specs.declared.device.Input.TheVariants as input

-- a device that fails once: how many calls are before that, if it is ahead; how many failed, and the bytes that it took
pub record Failing : Type 0 where
  pub ahead : Option ℕ
  pub failures : ℕ
  pub taken : List ℕ

-- how many calls are before a call that is counted from 1
abbrev pub calls_before : ℕ → Option ℕ
calls_before zero = None
calls_before (suc n) = Some n

-- one call later
abbrev pub one_later : Option ℕ → Option ℕ
one_later None = None
one_later (Some n) = calls_before n

-- the call fails exactly where none is before the one that fails; where memory is refused it isn't counted
abbrev pub Fails : Option ℕ → Did → Option ℕ → Type 0
Fails old did.Done new = (¬ (old ≡ Some 0)) × (new ≡ one_later old)
Fails old did.Failed new = (old ≡ Some 0) × (new ≡ None)
Fails old did.Memory new = new ≡ old

-- a reading of a device that has no more lines fails exactly where no call is before the one that fails
abbrev pub FailsReading : Option ℕ → Input → Option ℕ → Type 0
FailsReading old (input.Line line) new = ⊥
FailsReading old input.End new = (¬ (old ≡ Some 0)) × (new ≡ one_later old)
FailsReading old input.NotYet new = ⊥
FailsReading old input.Failed new = (old ≡ Some 0) × (new ≡ None)
FailsReading old input.Memory new = ⊥
