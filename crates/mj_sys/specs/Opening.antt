-- What is shared when a system begins.
use Rattle.std.specs.Prelude.{◌≡◌, ℕ, ◌+◌, nat_eq, Bool, false, List, [], map, replicate, length, Option, None, Some, if◌then◌else◌}
use Rattle.std.specs.List.{list_all}
use Rattle.std.specs.Str.{bytes_eq}
use Rattle.mj_store.specs.Questions.{Content}
use Rattle.mj_ask.specs.Started.{Started}
use Rattle.mj_dev.specs.Shelves.{Shelf, principal, left_of}
use Rattle.mj_jobs.specs.Rows.{Row, row_at, opened}
use Rattle.mj_sys.specs.Devices.{Device, Devices}
use Rattle.mj_sys.specs.Shared.{Shared}

-- The device that a name of the pool is. Of the name `0` there are so many sessions as jobs may have; a job has its own from the claim of its
-- row on, so none is taken by an ask
abbrev pub device_of : ℕ → Shelf → Option ℕ → Device
device_of principals shelf holder = record {
  name = shelf.name;
  sessions = if bytes_eq shelf.name principal then principals else shelf.left + shelf.taken;
  taken = if bytes_eq shelf.name principal then 0 else shelf.taken;
  holder = holder;
}

-- the devices of a pool that no job holds
abbrev pub free_devices : ℕ → List Shelf → Devices
free_devices principals shelves = map (λ shelf. device_of principals shelf None) shelves

-- the opening: these globals, no names and no devices held, a row for each of the first jobs, and no transaction open
abbrev pub opening_of : Content → List Shelf → List Started → Shared
opening_of globals shelves starts = record {
  globals = globals;
  locks = [];
  devices = free_devices (left_of principal shelves) shelves;
  rows = map opened starts;
  transactions = replicate (length starts) None;
}

-- no job has a transaction open, and each has a place for one
abbrev pub NoneIsOpen : Shared → Type 0
NoneIsOpen s = s.transactions ≡ replicate (length s.rows) None

-- no job of these rows has ended
abbrev pub NoneHasEnded : List Row → Type 0
NoneHasEnded rows = (job : ℕ) (row : Row) → row_at rows job ≡ Some row → row.ended ≡ false

-- whether no start gives values: the first jobs have none, and a trace names only where they start
abbrev pub are_bare : List Started → Bool
are_bare starts = list_all (λ start. nat_eq (length start.values) 0) starts
