-- A device of the program, and what each call to it does.
use Rattle.std.specs.Prelude.{◌≡◌, ℕ, ◌+◌, List, [], ◌++◌, Option, Some, None, Bool, true, false, ◌||◌}
use Rattle.std.specs.Io.KnownBytes.{Appends}
use Rattle.mj_dev.specs.declared.device.Did.{Did}
use Rattle.mj_dev.specs.declared.device.Did.TheVariants as did
use Rattle.mj_dev.specs.declared.device.Input.{Input}
use Rattle.mj_dev.specs.Input.{failures_of_reading, lines_of}
use Rattle.mj_dev.specs.Supply.{ReadsAhead}

-- A device: whether its lines are those of a file, and whether what it takes goes to one; the bytes of its lines that weren't read yet; the
-- file that it writes to, once it is open, by what is known of the bytes that it holds; how many calls failed, the bytes that it took and the
-- lines that it gave.
pub record Ported : Type 0 where
  pub reads_file : Bool
  pub writes_file : Bool
  pub ahead : List ℕ
  pub file : Option (Option (List ℕ))
  pub failures : ℕ
  pub taken : List ℕ
  pub given : List (List ℕ)

-- a device of which nothing was asked yet, with these lines
abbrev pub untouched : Bool → Bool → List ℕ → Ported
untouched reads_file writes_file lines = record {
  reads_file = reads_file;
  writes_file = writes_file;
  ahead = lines;
  file = None;
  failures = 0;
  taken = [];
  given = [];
}

-- nothing was asked of the device yet, and it has no lines but those of a file
abbrev pub IsUntouched : Ported → Type 0
IsUntouched p = p ≡ untouched p.reads_file p.writes_file []

-- some call failed
abbrev pub after_failure : Ported → Ported
after_failure old = record old { failures = old.failures + 1 }

-- where it is to be open, it is
abbrev pub IsOpened : Bool → Option (Option (List ℕ)) → Option (Option (List ℕ)) → Type 0
IsOpened false old new = new ≡ old
IsOpened true old None = ⊥
IsOpened true old (Some contents) = Unit {0}

-- only where they are those of a file, the lines become others
abbrev pub AreSupplied : Bool → List ℕ → List ℕ → Type 0
AreSupplied false old new = new ≡ old
AreSupplied true old new = Unit {0}

-- it has a file
abbrev pub HasFile : Bool → Bool → Type 0
HasFile reads_file writes_file = (reads_file || writes_file) ≡ true

-- The device begins: its file is read, or open. It fails only where it has a file.
abbrev pub PortBegins : Ported → Did → Ported → Type 0
PortBegins old did.Done new =
    (new ≡ record old { ahead = new.ahead; file = new.file })
    × AreSupplied old.reads_file old.ahead new.ahead × IsOpened old.writes_file old.file new.file
PortBegins old did.Failed new = (new ≡ after_failure old) × HasFile old.reads_file old.writes_file
PortBegins old did.Memory new = (new ≡ old) × HasFile old.reads_file old.writes_file

-- the file gets just these bytes behind those that it holds, as far as they are known; where there is none, nothing does
abbrev pub Gets : Bool → List ℕ → Option (Option (List ℕ)) → Option (Option (List ℕ)) → Type 0
Gets false bytes old new = new ≡ old
Gets true bytes None new = ⊥
Gets true bytes (Some old) None = ⊥
Gets true bytes (Some old) (Some new) = Appends old new bytes

-- some bytes are written; it fails only where it writes to a file
abbrev pub Writes : Ported → List ℕ → Did → Ported → Type 0
Writes old bytes did.Done new =
    (new ≡ record old { taken = old.taken ++ bytes; file = new.file }) × Gets old.writes_file bytes old.file new.file
Writes old bytes did.Failed new =
    (new ≡ record old { failures = old.failures + 1; file = new.file }) × (old.writes_file ≡ true)
Writes old bytes did.Memory new = new ≡ old

-- a line is read of those that it has
abbrev pub PortReads : Ported → Input → Ported → Type 0
PortReads old r new =
    (new ≡ record old { ahead = new.ahead; failures = old.failures + failures_of_reading r; given = old.given ++ lines_of r })
    × ReadsAhead old.ahead r new.ahead
