-- What the answer to a reading says of a device.
use Rattle.std.specs.Prelude.{ℕ, List, [], ◌∷◌}
use Rattle.mj_dev.specs.declared.device.Input.{Input}
use Rattle.mj_dev.specs.declared.device.Input.TheVariants.{Line, End, NotYet, Failed, Memory}

-- how many failures a reading brings
abbrev pub failures_of_reading : Input → ℕ
failures_of_reading (Line line) = 0
failures_of_reading End = 0
failures_of_reading NotYet = 0
failures_of_reading Failed = 1
failures_of_reading Memory = 0

-- the lines that a reading adds to those that the device gave
abbrev pub lines_of : Input → List (List ℕ)
lines_of (Line line) = line ∷ []
lines_of End = []
lines_of NotYet = []
lines_of Failed = []
lines_of Memory = []
