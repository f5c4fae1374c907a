-- Which job has which device (ISO/IEC 11756:1999, 8.2.15: OPEN; 8.2.2: CLOSE).
use Rattle.std.specs.Prelude.{ℕ, ◌+◌, ◌==◌, List, [], ◌∷◌, map, Bool, false, Option, Some, None, if◌then◌else◌}
use Rattle.std.specs.Str.{bytes_eq}

-- a device name: how many sessions it has in all, how many of them were taken, and the job that holds the name, if one does
pub record Device : Type 0 where
  pub name : List ℕ
  pub sessions : ℕ
  pub taken : ℕ
  pub holder : Option ℕ

-- the names of devices, each once, by rising bytes
abbrev pub Devices : Type 0
Devices = List Device

-- the device of a name
abbrev pub device_at : Devices → List ℕ → Option Device
device_at [] name = None
device_at (d ∷ devices) name = if bytes_eq d.name name then Some d else device_at devices name

-- how many sessions a name has, none where it is unknown
abbrev pub sessions_of : Devices → List ℕ → ℕ
sessions_of devices name = elim (device_at devices name) [ None ↦ 0 | Some d ↦ d.sessions ]

-- the job that holds a name
abbrev pub holder_of : Devices → List ℕ → Option ℕ
holder_of devices name = elim (device_at devices name) [ None ↦ None | Some d ↦ d.holder ]

-- a device that a job holds
abbrev pub is_held_by : ℕ → Device → Bool
is_held_by job d = elim d.holder [ None ↦ false | Some holder ↦ holder == job ]

-- a change of the device of a name
abbrev pub with_device : Devices → List ℕ → (Device → Device) → Devices
with_device [] name f = []
with_device (d ∷ devices) name f = if bytes_eq d.name name then f d ∷ devices else d ∷ with_device devices name f

-- the job takes the next session of the name, and holds it
abbrev pub opened_by : ℕ → Device → Device
opened_by job d = record d { taken = d.taken + 1; holder = Some job }

-- the job's hold of the name ends; that of another stays
abbrev pub released_by : ℕ → Device → Device
released_by job d = if is_held_by job d then record d { holder = None } else d

-- all names that the job holds are free
abbrev pub freed : Devices → ℕ → Devices
freed devices job = map (released_by job) devices
