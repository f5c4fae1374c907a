-- The devices that a job has open, and how they change.
use Rattle.std.specs.Prelude.{◌≡◌, ℕ, ◌+◌, ◌*◌, ◌≤◌, List, [], ◌∷◌, Option, Some, None, Bool, false, map, nat_lt, if◌then◌else◌}
use Rattle.std.specs.Str.{bytes_eq}
use Rattle.mj_text.specs.declared.text.TheConstants.{TEXT_LIMIT}
use Rattle.mj_text.specs.declared.limit.Limit.TheVariants.{V2}
use Rattle.mj_semantics.specs.State.{State, OpenDevice, principal, column_after, row_after, device_at, wrote, broke, with_device, used, dropped}
use Rattle.mj_semantics.specs.Job.{opening}
use Rattle.mj_open_devices.specs.declared.devices.Spot.{Spot}
use Rattle.mj_open_devices.specs.declared.devices.Other.{Other}

-- the open devices in order of opening, of which the principal one is the first; the name of the current one; and how many writes to
-- them were done
pub record Opened : Type 0 where
  pub devices : List OpenDevice
  pub current : List ℕ
  pub writes : ℕ

-- a state with these devices, of which nothing else matters here
abbrev pub alone : Opened → State
alone o = record (opening (record { limit = V2; events = 0 }) 0) { devices = o.devices; current = o.current }

-- no job makes more writes: it has no more events than a number of 32 bits says
abbrev pub writes_limit : ℕ
writes_limit = 4294967295

-- the devices of a state, behind so many writes
abbrev pub opened : ℕ → State → Opened
opened writes s = record { devices = s.devices; current = s.current; writes = writes }

-- a write to the current device was done
abbrev pub after_write : List ℕ → Opened → Opened
after_write bytes o = opened (o.writes + 1) (wrote bytes (alone o))

-- a call of a device's session failed
abbrev pub after_fail : List ℕ → Opened → Opened
after_fail name o = opened o.writes (broke name (alone o))

-- one more device is open
abbrev pub after_add : List ℕ → Opened → Opened
after_add name o = opened o.writes (with_device name (alone o))

-- an open device becomes the current one
abbrev pub after_use : List ℕ → Opened → Opened
after_use name o = opened o.writes (used name (alone o))

-- a device isn't open any more
abbrev pub after_drop : List ℕ → Opened → Opened
after_drop name o = opened o.writes (dropped name (alone o))

-- in the place of a device that was current the principal one is
abbrev pub after_leave : List ℕ → Opened → Opened
after_leave name o = record o { current = if bytes_eq o.current name then principal else o.current }

-- How they are kept.

-- what an open device is like, and as untouched where there is none
abbrev pub spot_in : Option OpenDevice → Spot
spot_in None = record { column = 0; row = 0; failed = false }
spot_in (Some d) = record { column = d.column; row = d.row; failed = d.failed }

abbrev pub spot_at : List ℕ → List OpenDevice → Spot
spot_at name devices = spot_in (device_at name devices)

abbrev pub device_of : List ℕ → Spot → OpenDevice
device_of name s = record { name = name; column = s.column; row = s.row; failed = s.failed }

abbrev pub other_of : Other → OpenDevice
other_of o = device_of o.name o.spot

abbrev pub is_named : List ℕ → Other → Bool
is_named name o = bytes_eq o.name name

abbrev pub current_of : Option (List ℕ) → List ℕ
current_of None = principal
current_of (Some name) = name

abbrev pub opened_by : Spot → List Other → Option (List ℕ) → ℕ → Opened
opened_by p others current writes = record {
  devices = device_of principal p ∷ map other_of others;
  current = current_of current;
  writes = writes;
}

-- a byte above those that lead to a line's start or to another row
abbrev pub is_plain : ℕ → Bool
is_plain b = nat_lt 13 b

-- a device as these bytes leave it
abbrev pub went : List ℕ → Spot → Spot
went bytes s = record s { column = column_after s.column bytes; row = row_after s.row bytes }

-- at most so many columns and rows
abbrev pub IsSpotWithin : ℕ → Spot → Type 0
IsSpotWithin most s = (s.column ≤ most) × (s.row ≤ most)

abbrev pub AreWithin : ℕ → List Other → Type 0
AreWithin most [] = Unit {0}
AreWithin most (o ∷ others) = IsSpotWithin most o.spot × AreWithin most others

-- it isn't the name of the principal device
abbrev pub IsBeside : Option (List ℕ) → Type 0
IsBeside None = Unit {0}
IsBeside (Some name) = bytes_eq principal name ≡ false

-- no write adds more columns or rows than a text has bytes
pub record IsWithinWrites (p : Spot) (others : List Other) (current : Option (List ℕ)) (writes : ℕ) : Type 0 where
  pub first : IsSpotWithin (TEXT_LIMIT * writes) p
  pub rest : AreWithin (TEXT_LIMIT * writes) others
  pub beside : IsBeside current
