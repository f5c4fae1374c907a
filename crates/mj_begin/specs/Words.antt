-- What a run begins with, by the words of the command line and the bytes of files.
use Rattle.std.specs.Prelude.{◌≡◌, ℕ, true, List, [], ◌∷◌, map, option_map, All, Option, Some, None, Vec}
use Rattle.std.specs.List.{list_all, AllZip}
use Rattle.std.specs.Global.{Global}
use Rattle.std.specs.Borrow.{Bor}
use Rattle.mj_ask.specs.Started.{Started}
use Rattle.mj_ask.specs.Written.{is_entry, entry_of}
use Rattle.mj_dev.specs.Shelves.{Shelf}
use Rattle.mj_subs.specs.Name.{is_word}
use Rattle.mj_files.specs.Named.{IsDevice, names_of, with_principals, with_devices}
use Rattle.mj_files.specs.declared.devices.Named.{Named}
use Rattle.mj_jobs.specs.Rows.{rows_limit}
use Rattle.mj_ast.specs.declared.routine.Routine.{Routine}
use Rattle.mj_ast.specs.Routines.{IsName}
use Rattle.mj_ast.specs.Trees.{routine_of}
use Rattle.mj_load.specs.Image.{Loaded}
use Rattle.mj_rou.specs.Read.{IsRoutineRead}
use Rattle.mj_store.specs.Questions.{Content}
use Rattle.mj_text.specs.declared.limit.Limit.{Limit}
use Rattle.mj_text.specs.declared.limit.Limit.TheVariants.{V2}
use Rattle.mj_gfile.specs.Listing.{IsListed}
use Rattle.mj_steps.specs.Steps.{AreSpelled}
use Rattle.mj_steps.specs.declared.step.Step.{Step}
use Rattle.mj_command_line.specs.declared.order.Run.{Run}
use Rattle.mj_recorded.specs.Traces.{entries_of}
use Rattle.mj_replay.specs.Traces.{bare_start}
use Rattle.mj_begin.specs.Names.{name_at}

-- a routine was read from the bytes of a file, and its name is a word
abbrev pub WasRead : Routine → Type 0
WasRead routine = (bytes : List ℕ) × IsName routine.name × IsRoutineRead routine.name bytes (routine_of routine)

-- the routines were read from the files at these paths, in order, and have their names
pub record WereRead (paths : List (Bor (List ℕ))) (routines : List Routine) : Type 0 where
  pub named : map (λ routine. routine.name) routines ≡ map (λ path. name_at path.now) paths
  pub read : All WasRead routines

-- the first jobs start at the entries that these words spell, in order, and without values
pub record WereStarts (words : List (Bor (List ℕ))) (starts : List Started) : Type 0 where
  pub spelled : map (λ word. entry_of word.now) words ≡ map (λ start. Some start.entry) starts
  pub entries : list_all is_entry (entries_of starts) ≡ true
  pub bare : starts ≡ map bare_start (entries_of starts)

-- one job starts at the first line of the routine in the first of these files, without values
abbrev pub StartsAtFirst : List (Bor (List ℕ)) → List Started → Type 0
StartsAtFirst [] starts = ⊥
StartsAtFirst (file ∷ files) starts =
    (is_word (name_at file.now) ≡ true) × (starts ≡ bare_start (record { label = None; routine = name_at file.now }) ∷ [])

-- The first jobs start where the words say; where there are no words, one starts with the first file's routine.
abbrev pub WereBegun : List (Bor (List ℕ)) → List (Bor (List ℕ)) → List Started → Type 0
WereBegun [] files starts = StartsAtFirst files starts
WereBegun (word ∷ words) files starts = WereStarts (word ∷ words) starts

-- the word names the device
abbrev pub IsNamedBy : Bor (List ℕ) → Named → Type 0
IsNamedBy word device = IsDevice word.now device.name device.side device.file.now

-- each word names the device at its place
abbrev pub AreDevices : List (Bor (List ℕ)) → List Named → Type 0
AreDevices words devices = AllZip IsNamedBy words devices

-- the pool has a principal device for each job that there may be, and for each word one of the name that it gives
abbrev pub IsPoolOf : List (Bor (List ℕ)) → List Shelf → Type 0
IsPoolOf words pool = (devices : List Named) × AreDevices words devices × (pool ≡ with_devices (names_of devices) (with_principals rows_limit))

-- the globals are those that the file lists, where one is named and texts have this limit; else there are none
abbrev pub WereListed : Limit → Option (Bor (List ℕ)) → Content → Type 0
WereListed limit None globals = globals ≡ []
WereListed limit (Some file) globals = (bytes : List ℕ) × IsListed limit bytes globals

-- the steps are those of the file, where one is named; else there are none to make
abbrev pub AreOrdered : Option (Bor (List ℕ)) → Option (List Step) → Type 0
AreOrdered None None = Unit {0}
AreOrdered None (Some steps) = ⊥
AreOrdered (Some file) None = ⊥
AreOrdered (Some file) (Some steps) = (bytes : List ℕ) × AreSpelled bytes steps

-- and so as they were read
abbrev pub WereSteps : Option (Bor (List ℕ)) → Option (Vec Step Global) → Type 0
WereSteps file steps = AreOrdered file (option_map (λ (steps : Vec Step Global). steps.items) steps)

-- what a run begins with is what the words ask for: the starts of its first jobs, its devices, its routines, how many events it may have, its globals and its
-- steps
pub record WereGiven (order : Run) (starts : List Started) (pool : List Shelf) (image : Loaded) (globals : Content) (steps : Option (Vec Step Global)) : Type 0 where
  pub begun : WereBegun order.starts.items order.files.items starts
  pub devices : IsPoolOf order.devices.items pool
  pub read : WereRead order.files.items image.routines
  pub events : image.bounds.events ≡ order.events
  pub listed : WereListed V2 order.globals globals
  pub ordered : WereSteps order.steps steps
