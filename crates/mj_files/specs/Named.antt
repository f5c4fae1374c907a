-- The devices of a run, and words that name them (this profile).
use Rattle.std.specs.Prelude.{◌≡◌, ◌≢◌, ℕ, zero, suc, ◌<◌, ◌≤◌, Bool, ◌==◌, List, [], ◌∷◌, ◌++◌, length, codes}
use Rattle.std.specs.List.{position_or_len, before_first, after_first}
use Rattle.mj_text.specs.declared.text.TheConstants.{TEXT_LIMIT}
use Rattle.mj_dev.specs.Shelves.{Shelf, principal, added}
use Rattle.mj_files.specs.declared.devices.Side.{Side}
use Rattle.mj_files.specs.declared.devices.Side.TheVariants as sides
use Rattle.mj_files.specs.declared.devices.Named.{Named}

-- what a device does with its file, as a word says it
abbrev pub side_text : Side → List ℕ
side_text sides.In = codes "in:"
side_text sides.Out = codes "out:"

-- the byte of `=`
abbrev pub is_equals : ℕ → Bool
is_equals b = b == 61

-- A word names a device: its name stands before the first `=`, and isn't that of the principal ones; behind it stands what the device does, and
-- with which file.
pub record IsDevice (word : List ℕ) (name : List ℕ) (side : Side) (file : List ℕ) : Type 0 where
  pub there : position_or_len is_equals word < length word
  pub before : name ≡ before_first is_equals word
  pub behind : after_first is_equals word ≡ side_text side ++ file
  pub other : name ≢ principal

-- it names none whose name is a text
abbrev pub IsNoDevice : List ℕ → Type 0
IsNoDevice word = (name : List ℕ) (side : Side) (file : List ℕ) → length name ≤ TEXT_LIMIT → IsDevice word name side file → ⊥

-- the names of devices
abbrev pub names_of : List Named → List (List ℕ)
names_of [] = []
names_of (d ∷ ds) = d.name ∷ names_of ds

-- a pool of so many principal devices
abbrev pub with_principals : ℕ → List Shelf
with_principals zero = []
with_principals (suc n) = added principal (with_principals n)

-- a pool to which devices of these names were added, one after the other
abbrev pub with_devices : List (List ℕ) → List Shelf → List Shelf
with_devices [] pool = pool
with_devices (name ∷ names) pool = with_devices names (added name pool)
