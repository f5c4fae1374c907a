-- What the answer to a call says of a device.
use Rattle.std.specs.Prelude.{ℕ, List, []}
use Rattle.mj_dev.specs.declared.device.Did.{Did}
use Rattle.mj_dev.specs.declared.device.Did.TheVariants.{Done, Failed, Memory}

-- how many failures an answer brings
abbrev pub failures_of : Did → ℕ
failures_of Done = 0
failures_of Failed = 1
failures_of Memory = 0

-- the bytes that a write adds to those that the device took
abbrev pub bytes_of : Did → List ℕ → List ℕ
bytes_of Done bytes = bytes
bytes_of Failed bytes = []
bytes_of Memory bytes = []

-- memory wasn't refused
abbrev pub IsAnswered : Did → Type 0
IsAnswered Done = Unit {0}
IsAnswered Failed = Unit {0}
IsAnswered Memory = ⊥
