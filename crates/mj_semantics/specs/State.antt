-- What a job holds for itself, and what changes it.
use Rattle.std.specs.Prelude.{ℕ, pos, ◌+◌, ◌-◌, ◌==◌, List, [], ◌∷◌, ◌++◌, length, take, drop, Option, Some, None, Bool, true, false, not, ◌&&◌, ◌||◌, nat_lt, max, min, map, if◌then◌else◌}
use Rattle.std.specs.List.{filter, fold, list_any}
use Rattle.std.specs.Option.{is_some, unwrap_or}
use Rattle.std.specs.Str.{bytes_eq}
use Rattle.mj_num.specs.Number.{canonic_text}
use Rattle.mj_subs.specs.Name.{Name}
use Rattle.mj_oper.specs.Operators.{truth_text}
use Rattle.mj_ast.specs.declared.function.Special.{Special}
use Rattle.mj_ast.specs.declared.function.Special.TheVariants.{Io, Job, Test, TLevel, TRestart, X, Y}
use Rattle.mj_store.specs.Questions.{Content, Subtree}
use Rattle.mj_store.specs.Changes.{after_set}
use Rattle.mj_store.specs.Runs.{after_access}
use Rattle.mj_store.specs.declared.access.Access.{Access}
use Rattle.mj_ask.specs.declared.bounds.Bounds.{Bounds}

-- the locals that have a value, with it, by rising names
abbrev pub Locals : Type 0
Locals = Content

-- a line of a routine, by the routine's name; a routine's first line is line 1
pub record Place : Type 0 where
  pub routine : List ℕ
  pub line : ℕ

-- the locals of some words, or all but those of some
pub data Words : Type 0 where
  Only AllBut : (words : List (List ℕ)) → Words

-- what a NEW saved (8.2.14): which locals, and those that had a value, with it
pub record Saved : Type 0 where
  pub words : Words
  pub locals : Locals

-- a frame: the line where it stands, the level of its lines, whether it is a function's, whose QUIT gives a value, the `$TEST` that
-- its QUIT restores, if it restores one, and how many NEWs had saved locals before it began
pub record Frame : Type 0 where
  pub place : Place
  pub level : ℕ
  pub function : Bool
  pub test : Option Bool
  pub height : ℕ

-- a device that the job has open: its name, `$X` and `$Y` there (7.1.4.10), and whether a call of its session failed, after which
-- the session can only be ended
pub record OpenDevice : Type 0 where
  pub name : List ℕ
  pub column : ℕ
  pub row : ℕ
  pub failed : Bool

-- the outermost TSTART (8.2.22): which locals a restart restores, if it can be restarted, and those of them that had a value there, with
-- it; whether it is SERIAL; and what else stood there: `$TEST`, how many NEWs had saved locals, how many frames there were, and the place of
-- the innermost one. That frame and those below it stay until the transaction is over
pub record TransactionMark : Type 0 where
  pub restored : Option Words
  pub serial : Bool
  pub locals : Locals
  pub test : Bool
  pub height : ℕ
  pub depth : ℕ
  pub place : Option Place

-- the bounds of the program, which stay; the job's number, `$JOB`; the locals; what NEWs saved, the newest first; `$TEST`; the
-- frames, the innermost first; the open devices in order of opening, of which the principal one is the first; the name of the
-- current one, `$IO`; `$TLEVEL`, `$TRESTART`
-- and the mark of the outermost TSTART, if a transaction is open; how many asks were replied to; and what a MERGE has read and not
-- put yet
pub record State : Type 0 where
  pub bounds : Bounds
  pub job : ℕ
  pub locals : Locals
  pub saved : List Saved
  pub test : Bool
  pub frames : List Frame
  pub devices : List OpenDevice
  pub current : List ℕ
  pub level : ℕ
  pub restarts : ℕ
  pub mark : Option TransactionMark
  pub replied : ℕ
  pub held : Subtree

-- the name of the principal device: `0`
abbrev pub principal : List ℕ
principal = 48 ∷ []

-- how many devices a job may have open beside the principal one (this profile)
abbrev pub devices_limit : ℕ
devices_limit = 16

-- the principal device, as a job finds it
abbrev pub untouched : OpenDevice
untouched = record { name = principal; column = 0; row = 0; failed = false }

-- Questions.

abbrev pub places : State → List Place
places s = map (λ f. f.place) s.frames

-- the place of the innermost frame, if there is a frame
abbrev pub place_of : State → Option Place
place_of s = elim s.frames [ [] ↦ None | f ∷ fs ↦ Some f.place ]

-- the level of the innermost frame's lines
abbrev pub level_of : State → ℕ
level_of s = elim s.frames [ [] ↦ 1 | f ∷ fs ↦ f.level ]

-- whether the innermost frame is a function's, whose QUIT gives a value
abbrev pub is_function : State → Bool
is_function s = elim s.frames [ [] ↦ false | f ∷ fs ↦ f.function ]

-- whether any frame is a function's: an expression below it is half done
abbrev pub is_in_function : State → Bool
is_in_function s = list_any (λ f. f.function) s.frames

-- whether the frame of the outermost TSTART is the innermost one
abbrev pub is_at_mark : State → Bool
is_at_mark s = elim s.mark [ None ↦ false | Some m ↦ m.depth == length s.frames ]

-- an open device by its name
abbrev pub device_at : List ℕ → List OpenDevice → Option OpenDevice
device_at name [] = None
device_at name (d ∷ devices) = if bytes_eq d.name name then Some d else device_at name devices

-- the column of an open device
abbrev pub column_at : List ℕ → State → ℕ
column_at name s = elim (device_at name s.devices) [ None ↦ 0 | Some d ↦ d.column ]

-- the row of an open device
abbrev pub row_at : List ℕ → State → ℕ
row_at name s = elim (device_at name s.devices) [ None ↦ 0 | Some d ↦ d.row ]

-- whether the job has a device of this name open; the principal one always is
abbrev pub is_open : List ℕ → State → Bool
is_open name s = is_some (device_at name s.devices)

-- whether the job may close the device of this name: it has it open, and it isn't the principal one
abbrev pub may_close : List ℕ → State → Bool
may_close name s = not (bytes_eq name principal) && is_open name s

-- whether a call of an open device's session failed
abbrev pub has_failed : List ℕ → State → Bool
has_failed name s = elim (device_at name s.devices) [ None ↦ false | Some d ↦ d.failed ]

-- the open devices in the order in which a job's end ends them: that of opening, but the principal one last (8.2.7, HALT; this
-- profile)
abbrev pub ending_order : List OpenDevice → List (List ℕ)
ending_order [] = []
ending_order (p ∷ others) = map (λ d. d.name) others ++ p.name ∷ []

-- the value of a special variable
abbrev pub special_value : Special → State → List ℕ
special_value Io s = s.current
special_value Job s = canonic_text (pos s.job)
special_value Test s = truth_text s.test
special_value TLevel s = canonic_text (pos s.level)
special_value TRestart s = canonic_text (pos s.restarts)
special_value X s = canonic_text (pos (column_at s.current s))
special_value Y s = canonic_text (pos (row_at s.current s))

-- whether the words of locals are among these
abbrev pub covers : Words → List ℕ → Bool
covers (Only words) w = list_any (bytes_eq w) words
covers (AllBut words) w = not (list_any (bytes_eq w) words)

-- Whether a GOTO may lead from where the job stands to a line of this routine, number and level, if the lines of that routine have
-- these levels: at level 1 to any line of level 1; deeper to a line of the same level in the same block, which is where no line
-- between the two is less deep (8.2.6; this profile).
abbrev pub stays : ℕ → ℕ → ℕ → List ℕ → Bool
stays from to level levels = not (list_any (λ l. nat_lt l level) (drop (min from to - 1) (take (max from to) levels)))

abbrev pub may_go : State → Place → ℕ → List ℕ → Bool
may_go s to level levels =
    level == level_of s
    && (level == 1 || elim (place_of s) [ None ↦ false | Some from ↦ bytes_eq from.routine to.routine && stays from.line to.line level levels ])

-- Changes.

-- an access to the locals was made
abbrev pub accessed : Access → State → State
accessed a s = record s { locals = after_access a s.locals }

-- of some locals, those whose word is one of these
abbrev pub spared : List (List ℕ) → Locals → Locals
spared words locals = filter (λ e. list_any (bytes_eq e.0.word) words) locals

-- all locals go but those whose word is one of these
abbrev pub kill_except : List (List ℕ) → State → State
kill_except words s = record s { locals = spared words s.locals }

-- a MERGE has this in hand
abbrev pub hold : Subtree → State → State
hold nodes s = record s { held = nodes }

-- a frame begins, at a place and a level, a function's or not, whose QUIT restores `$TEST` or not
abbrev pub pushed : Place → ℕ → Bool → Option Bool → State → State
pushed place level function test s = record s {
  frames = record { place = place; level = level; function = function; test = test; height = length s.saved } ∷ s.frames;
}

abbrev pub at_place : Place → State → State
at_place p s = record s { frames = elim s.frames [ [] ↦ [] | f ∷ fs ↦ record f { place = p } ∷ fs ] }

abbrev pub set_test : Bool → State → State
set_test b s = record s { test = b }

-- these locals are saved, and have no value any more
abbrev pub newed : Words → State → State
newed words s = record s {
  saved = record { words = words; locals = filter (λ e. covers words e.0.word) s.locals } ∷ s.saved;
  locals = filter (λ e. not (covers words e.0.word)) s.locals;
}

-- the locals of some words as they were, and all others as they are now
abbrev pub put_back : Saved → Locals → Locals
put_back v now =
    fold (λ c e. after_set c e.0 e.1) (filter (λ e. not (covers v.words e.0.word)) now) (filter (λ e. covers v.words e.0.word) v.locals)

-- all that was saved is put back, the newest first
abbrev pub undone : List Saved → Locals → Locals
undone [] now = now
undone (v ∷ saved) now = undone saved (put_back v now)

-- the innermost frame is over: what NEWs saved in it is put back, and `$TEST`, if it restores it (8.2.16, QUIT)
abbrev pub popped : State → State
popped s = elim s.frames [
  | [] ↦ s
  | f ∷ fs ↦ record s {
    locals = undone (take (length s.saved - f.height) s.saved) s.locals;
    saved = drop (length s.saved - f.height) s.saved;
    test = unwrap_or f.test s.test;
    frames = fs;
  }
]

-- a local without subscripts
abbrev pub plain_name : List ℕ → Name
plain_name w = record { global = false; word = w; subscripts = [] }

-- formals get the values of their actuals (8.1.7); one without an actual, or whose actual is left out, has none
abbrev pub bound : List (List ℕ) → List (Option (List ℕ)) → Locals → Locals
bound [] vs locals = locals
bound (x ∷ xs) [] locals = locals
bound (x ∷ xs) (None ∷ vs) locals = bound xs vs locals
bound (x ∷ xs) (Some v ∷ vs) locals = bound xs vs (after_set locals (plain_name x) v)

-- formals are NEWed, and get values
abbrev pub passed : List (List ℕ) → List (Option (List ℕ)) → State → State
passed formals vs s = let t : State = newed (Only formals) s in record t { locals = bound formals vs t.locals }

-- one more ask was replied to
abbrev pub counted : State → State
counted s = record s { replied = s.replied + 1 }

-- the column after a byte (this profile): a line feed, a form feed and a carriage return lead to the line's start, any
-- other byte one to the right
abbrev pub column_after_byte : ℕ → ℕ → ℕ
column_after_byte column b = if b == 10 then 0 else if b == 12 then 0 else if b == 13 then 0 else column + 1

abbrev pub column_after : ℕ → List ℕ → ℕ
column_after column [] = column
column_after column (b ∷ bytes) = column_after (column_after_byte column b) bytes

-- the row after a byte (this profile): a line feed leads to the next one, a form feed to the first
abbrev pub row_after_byte : ℕ → ℕ → ℕ
row_after_byte row b = if b == 10 then row + 1 else if b == 12 then 0 else row

abbrev pub row_after : ℕ → List ℕ → ℕ
row_after row [] = row
row_after row (b ∷ bytes) = row_after (row_after_byte row b) bytes

-- a device, as these bytes leave it
abbrev pub moved : List ℕ → OpenDevice → OpenDevice
moved bytes d = record d { column = column_after d.column bytes; row = row_after d.row bytes }

-- a change of the open device of a name
abbrev pub on_device : List ℕ → (OpenDevice → OpenDevice) → List OpenDevice → List OpenDevice
on_device name f [] = []
on_device name f (d ∷ devices) = if bytes_eq d.name name then f d ∷ devices else d ∷ on_device name f devices

-- these bytes were written to the current device
abbrev pub wrote : List ℕ → State → State
wrote bytes s = record s { devices = on_device s.current (moved bytes) s.devices }

-- a call of a device's session failed
abbrev pub broke : List ℕ → State → State
broke name s = record s { devices = on_device name (λ d. record d { failed = true }) s.devices }

-- one more device is open, the last in the order of opening, at the beginning of its first row (8.2.15, OPEN)
abbrev pub with_device : List ℕ → State → State
with_device name s = record s { devices = s.devices ++ record { name = name; column = 0; row = 0; failed = false } ∷ [] }

-- an open device becomes the current one (8.2.23, USE)
abbrev pub used : List ℕ → State → State
used name s = record s { current = name }

-- a device isn't open any more; in the place of the current one the principal one is current (8.2.2, CLOSE)
abbrev pub dropped : List ℕ → State → State
dropped name s = record s {
  devices = filter (λ d. not (bytes_eq d.name name)) s.devices;
  current = if bytes_eq s.current name then principal else s.current;
}

-- Transactions (8.2.19 to 8.2.22).

-- of these locals, those of some words
abbrev pub those_of : Option Words → Locals → Locals
those_of None locals = []
those_of (Some words) locals = filter (λ e. covers words e.0.word) locals

-- the outermost TSTART was done, and says which locals a restart restores, if it can be restarted, and whether it is SERIAL
abbrev pub marked : Option Words → Bool → State → State
marked restored serial s = record s {
  level = 1;
  mark = Some (record {
    restored = restored;
    serial = serial;
    locals = those_of restored s.locals;
    test = s.test;
    height = length s.saved;
    depth = length s.frames;
    place = place_of s;
  });
}

-- one more TSTART was done in it, or a TCOMMIT that isn't that of the outermost
abbrev pub raised : State → State
raised s = record s { level = s.level + 1 }

abbrev pub lowered : State → State
lowered s = record s { level = s.level - 1 }

-- the transaction is over
abbrev pub settled : State → State
settled s = record s { level = 0; restarts = 0; mark = None }

-- whether the open transaction can be restarted
abbrev pub can_restart : State → Bool
can_restart s = elim s.mark [ None ↦ false | Some m ↦ is_some m.restored ]

-- whether the open transaction is SERIAL
abbrev pub is_serial : State → Bool
is_serial s = elim s.mark [ None ↦ false | Some m ↦ m.serial ]

-- the locals that a restart restores as they were at the mark, and all others as they are
abbrev pub restored_at : TransactionMark → Locals → Locals
restored_at m now = elim m.restored [ None ↦ now | Some words ↦ put_back (record { words = words; locals = m.locals }) now ]

-- the innermost of some frames at a place, if that is one
abbrev pub standing_at : Option Place → List Frame → List Frame
standing_at None frames = frames
standing_at (Some p) frames = elim frames [ [] ↦ [] | f ∷ fs ↦ record f { place = p } ∷ fs ]

-- A restart (8.2.20): what NEWs saved since the mark is put back, the newest first, and the frames since then are gone; `$TEST` is that of the
-- mark; then the locals that are to be restored are. Devices and `$IO` stay (this profile)
abbrev pub back_at : TransactionMark → State → State
back_at m s = record s {
  locals = restored_at m (undone (take (length s.saved - m.height) s.saved) s.locals);
  saved = drop (length s.saved - m.height) s.saved;
  test = m.test;
  frames = standing_at m.place (drop (length s.frames - m.depth) s.frames);
  level = 1;
  restarts = s.restarts + 1;
}

abbrev pub restarted : State → State
restarted s = elim s.mark [ None ↦ s | Some m ↦ back_at m s ]
