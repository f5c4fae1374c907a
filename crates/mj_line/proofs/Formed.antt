-- Trees have parts of the table, and no two have the same.
use Rattle.std.proofs.Common.{◌≡◌, ℕ, zero, suc, ◌≤◌, nat_le, List, [], ◌∷◌, ◌++◌, refl, sym, ◌∙◌, subst, Bool, true, false, append_assoc, arith, Option, Some, None, map}
use Rattle.std.specs.Prelude.{◌&&◌, ◌||◌}
use Rattle.std.proofs.lemmas.Bool.Decides.{nat_tests}
use Rattle.mj_ast.specs.declared.sign.Sign.TheVariants.{Equals, Comma, Open, Close}
use Rattle.mj_ast.specs.declared.routine.FormatMark.{FormatMark}
use Rattle.mj_ast.specs.declared.routine.FormatMark.TheVariants.{NewLine, NewPage}
use Rattle.mj_ast.specs.declared.routine.Serial.{Serial}
use Rattle.mj_ast.specs.declared.routine.Serial.TheVariants as serial
use Rattle.mj_ast.specs.declared.routine.ReadMode.{ReadMode}
use Rattle.mj_ast.specs.declared.routine.ReadMode.TheVariants.{Line, Byte}
use Rattle.mj_ast.specs.Syntax.{Expr, Exprs, No, More, Variable, Destination, Plain, Pieces, Targets, One, Several, Assignment, Killed, Gone, Spared, Merged, Layout, Output, Shown, Format, Coded, Input, Prompted, Arranged, Into, Opened, Range, Single, Endless, UpTo, Renewed, Fresh, Kept, Restored, Alone, Listed, Everything}
use Rattle.mj_ast.specs.Expressions.{count}
use Rattle.mj_ast.specs.Commands.{Part, Put, Named, PieceCall, Text, Place, restored_parts, serial_parts, behind_commas, value_parts, guard_parts, wait_parts, range_parts, renewed_parts, is_renewed, more_parts, destination_parts, targets_parts, assignment_parts, mark_part, column_parts, layout_parts, output_parts, read_mode_parts, input_parts, opened_parts, name_parts, killed_parts, merged_parts, every, is_destination, are_targets, is_assignment, has_items, is_there, is_layout, is_output, is_input, is_killed}
use Rattle.mj_line.specs.Forms.{Node, SetTarget, PieceOpens, PieceVariable, PieceComma, PieceText, PieceBehind, SetBehind, SetValue, SetEnd, Talk, Writes, Reads, OutputWanted, OutputEnd, MarksEnd, ColumnWanted, CodeWanted, IntoWanted, IntoEnd, IntoTimed, DeviceWanted, DeviceEnd, DeviceColon, DeviceTimed, DeviceWaited, KillWanted, NameWanted, NameBehind, KillEnd, MergeInto, MergeBehind, MergeFrom, MergeEnd, ValueWanted, ValueEnd, RangeWanted, RangeEnd, StepWanted, StepEnd, LimitWanted, LimitEnd, NewWanted, KeptWanted, KeptBehind, NewEnd, RestartWanted, RestoredOpens, RestoredWanted, RestoredBehind, RestoredEnd, SerialWanted, SerialInside, SerialBehind, SerialEnd, takes, ends, PartsFit}

-- ---- tests

pub false_true : {A : Type 0} → false ≡ true → A
false_true e = absurd (let f : false ≡ true = e in cc)

pub first_of : (a b : Bool) → a && b ≡ true → a ≡ true
first_of true b e = refl
first_of false b e = e

pub both : (a b : Bool) → a ≡ true → b ≡ true → a && b ≡ true
both true b e f = f
both false b e f = e

pub second_of : (a b : Bool) → a && b ≡ true → b ≡ true
second_of true b e = e
second_of false b e = false_true e

-- ---- trees have parts of the table

piece_taken : (listed : Bool) → takes (SetTarget listed) PieceCall ≡ Some (PieceOpens listed)
piece_taken false = refl
piece_taken true = refl

close_taken : (listed : Bool) (more : ℕ) → takes (PieceBehind listed more) (Put Close) ≡ Some (SetBehind listed)
close_taken listed zero = refl
close_taken listed (suc more) = refl

more_fit : (listed : Bool) (more : ℕ) (es : Exprs) (rest : List Part) → count es ≤ more → PartsFit (SetBehind listed) rest → PartsFit (PieceBehind listed more) (more_parts es ++ Put Close ∷ rest)
more_fit listed more No rest l f = (SetBehind listed, close_taken listed more, f)
more_fit listed zero (More e es) rest l f = absurd (omega arith)
more_fit listed (suc more) (More e es) rest l f = (PieceText listed more, refl, (PieceBehind listed more, refl, more_fit listed more es rest (omega arith) f))

arguments_fit : (listed : Bool) (es : Exprs) (rest : List Part) → 1 ≤ count es → count es ≤ 3 → PartsFit (SetBehind listed) rest → PartsFit (PieceComma listed) (more_parts es ++ Put Close ∷ rest)
arguments_fit listed No rest l m f = absurd (omega arith)
arguments_fit listed (More e es) rest l m f = (PieceText listed 2, refl, (PieceBehind listed 2, refl, more_fit listed 2 es rest (omega arith) f))

destination_fits : (listed : Bool) (d : Destination) (rest : List Part) → is_destination d ≡ true → PartsFit (SetBehind listed) rest → PartsFit (SetTarget listed) (destination_parts d ++ rest)
destination_fits listed (Plain v) rest h f = (SetBehind listed, refl, f)
destination_fits listed (Pieces v es) rest h f =
    let P : List Part → Type 0 = λ ps. PartsFit (SetTarget listed) (PieceCall ∷ Put Open ∷ Place 1 v ∷ ps) in
    let l = first_of (nat_le 1 (count es)) (nat_le (count es) 3) h in
    let m = second_of (nat_le 1 (count es)) (nat_le (count es) 3) h in
    let a : 1 ≤ count es = grind (arith, nat_tests) in
    let b : count es ≤ 3 = grind (arith, nat_tests) in
    subst P (sym (append_assoc (more_parts es) (Put Close ∷ []) rest))
    (PieceOpens listed, piece_taken listed, (PieceVariable listed, refl, (PieceComma listed, refl, arguments_fit listed es rest a b f)))

listed_fit : (ds : List Destination) (rest : List Part)
    → every is_destination ds ≡ true → PartsFit (SetBehind false) rest → PartsFit (SetBehind true) (behind_commas destination_parts ds ++ Put Close ∷ rest)
listed_fit [] rest h f = (SetBehind false, refl, f)
listed_fit (d ∷ ds) rest h f =
    let P : List Part → Type 0 = λ ps. PartsFit (SetTarget true) ps in (
      SetTarget true,
      refl,
      subst P (sym (append_assoc (destination_parts d) (behind_commas destination_parts ds) (Put Close ∷ rest)))
          (destination_fits true d (behind_commas destination_parts ds ++ Put Close ∷
          rest) (first_of (is_destination d) (every is_destination ds) h)
          (listed_fit ds rest (second_of (is_destination d) (every is_destination ds) h) f)),
    )

targets_fit : (t : Targets) (rest : List Part) → are_targets t ≡ true → PartsFit (SetBehind false) rest → PartsFit (SetTarget false) (targets_parts t ++ rest)
targets_fit (One d) rest h f = destination_fits false d rest h f
targets_fit (Several []) rest h f = false_true h
targets_fit (Several (d ∷ ds)) rest h f =
    let P : List Part → Type 0 = λ ps. PartsFit (SetTarget true) ps in (
      SetTarget true,
      refl,
      subst P (sym (append_assoc (destination_parts d ++ behind_commas destination_parts ds) (Put Close ∷ []) rest ∙
          append_assoc (destination_parts d) (behind_commas destination_parts ds) (Put Close ∷ rest)))
          (destination_fits true d (behind_commas destination_parts ds ++ Put Close ∷
          rest) (first_of (is_destination d) (every is_destination ds) h)
          (listed_fit ds rest (second_of (is_destination d) (every is_destination ds) h) f)),
    )

pub assignment_fits : (a : Assignment) (rest : List Part) → is_assignment a ≡ true → PartsFit SetEnd rest → PartsFit (SetTarget false) (assignment_parts a ++ rest)
assignment_fits a rest h f =
    let P : List Part → Type 0 = λ ps. PartsFit (SetTarget false) ps in
    subst P (sym (append_assoc (targets_parts a.targets) (Put Equals ∷ Text 0 a.value ∷ []) rest))
    (targets_fit a.targets (Put Equals ∷ Text 0 a.value ∷ rest) h (SetValue, refl, (SetEnd, refl, f)))

pub assignments_fit : (list : List Assignment) → every is_assignment list ≡ true → PartsFit SetEnd (behind_commas assignment_parts list)
assignments_fit [] h = refl
assignments_fit (a ∷ list) h = (
  SetTarget false,
  refl,
  assignment_fits a (behind_commas assignment_parts list)
      (first_of (is_assignment a) (every is_assignment list) h) (assignments_fit list (second_of (is_assignment a) (every is_assignment list) h)),
)

-- ---- what is written, and what is read by

abbrev pub Speech : Talk → Type 0
Speech Writes = Output
Speech Reads = Input

abbrev pub speech_parts : (talk : Talk) → Speech talk → List Part
speech_parts Writes x = output_parts x
speech_parts Reads x = input_parts x

abbrev pub is_speech : (talk : Talk) → Speech talk → Bool
is_speech Writes x = is_output x
is_speech Reads x = is_input x

-- where such an argument may end
pub record SpeechEnd (talk : Talk) (n : Node) : Type 0 where
  ends_here : ends n ≡ true
  comma : takes n (Put Comma) ≡ Some (OutputWanted talk)

-- what follows one, at each place where it may end
abbrev SpeechTail : Talk → List Part → Type 0
SpeechTail talk rest = (n : Node) → SpeechEnd talk n → PartsFit n rest

at_output : (talk : Talk) (rest : List Part) → SpeechTail talk rest → PartsFit (OutputEnd talk) rest
at_output talk rest f = f (OutputEnd talk) (record { ends_here = refl; comma = refl })

marks_fit : (talk : Talk) (marks : List FormatMark) (rest : List Part) → PartsFit (MarksEnd talk) rest → PartsFit (MarksEnd talk) (map mark_part marks ++ rest)
marks_fit talk [] rest f = f
marks_fit talk (NewLine ∷ marks) rest f = (MarksEnd talk, refl, marks_fit talk marks rest f)
marks_fit talk (NewPage ∷ marks) rest f = (MarksEnd talk, refl, marks_fit talk marks rest f)

column_fits : (talk : Talk) (column : Option Expr) (rest : List Part) → SpeechTail talk rest → PartsFit (MarksEnd talk) (column_parts column ++ rest)
column_fits talk None rest f = f (MarksEnd talk) (record { ends_here = refl; comma = refl })
column_fits talk (Some e) rest f = (ColumnWanted talk, refl, (OutputEnd talk, refl, at_output talk rest f))

format_fits : (talk : Talk) (marks : List FormatMark) (column : Option Expr) (rest : List Part) → has_items marks || is_there column ≡ true → SpeechTail talk rest →
    PartsFit (OutputWanted talk) (map mark_part marks ++ (column_parts column ++ rest))
format_fits talk [] None rest h f = false_true h
format_fits talk [] (Some e) rest h f = (ColumnWanted talk, refl, (OutputEnd talk, refl, at_output talk rest f))
format_fits talk (NewLine ∷ marks) column rest h f = (MarksEnd talk, refl, marks_fit talk marks (column_parts column ++ rest) (column_fits talk column rest f))
format_fits talk (NewPage ∷ marks) column rest h f = (MarksEnd talk, refl, marks_fit talk marks (column_parts column ++ rest) (column_fits talk column rest f))

layout_fits : (talk : Talk) (l : Layout) (rest : List Part) → is_layout l ≡ true → SpeechTail talk rest → PartsFit (OutputWanted talk) (layout_parts l ++ rest)
layout_fits talk l rest h f =
    let P : List Part → Type 0 = λ ps. PartsFit (OutputWanted talk) ps in
    subst P (sym (append_assoc (map mark_part l.marks) (column_parts l.column) rest)) (format_fits talk l.marks l.column rest h f)

pub output_fits : (x : Output) (rest : List Part) → is_output x ≡ true → SpeechTail Writes rest → PartsFit (OutputWanted Writes) (output_parts x ++ rest)
output_fits (Shown e) rest h f = (OutputEnd Writes, refl, at_output Writes rest f)
output_fits (Format l) rest h f = layout_fits Writes l rest h f
output_fits (Coded e) rest h f = (CodeWanted, refl, (OutputEnd Writes, refl, at_output Writes rest f))

input_timed : (timeout : Option Expr) (rest : List Part) → SpeechTail Reads rest → PartsFit IntoEnd (guard_parts timeout ++ rest)
input_timed None rest f = f IntoEnd (record { ends_here = refl; comma = refl })
input_timed (Some e) rest f = (IntoTimed, refl, (OutputEnd Reads, refl, at_output Reads rest f))

received_fits : (mode : ReadMode) (v : Variable) (timeout : Option Expr) (rest : List Part) → SpeechTail Reads rest →
    PartsFit (OutputWanted Reads) ((read_mode_parts mode ++ Place 0 v ∷ guard_parts timeout) ++ rest)
received_fits Line v timeout rest f = (IntoEnd, refl, input_timed timeout rest f)
received_fits Byte v timeout rest f = (IntoWanted, refl, (IntoEnd, refl, input_timed timeout rest f))

pub input_fits : (x : Input) (rest : List Part) → is_input x ≡ true → SpeechTail Reads rest → PartsFit (OutputWanted Reads) (input_parts x ++ rest)
input_fits (Prompted v) rest h f = (OutputEnd Reads, refl, at_output Reads rest f)
input_fits (Arranged l) rest h f = layout_fits Reads l rest h f
input_fits (Into r) rest h f = received_fits r.mode r.variable r.timeout rest f

speech_fits : (talk : Talk) (x : Speech talk) (rest : List Part) → is_speech talk x ≡ true → SpeechTail talk rest → PartsFit (OutputWanted talk) (speech_parts talk x ++ rest)
speech_fits Writes x rest h f = output_fits x rest h f
speech_fits Reads x rest h f = input_fits x rest h f

pub speeches_fit : (talk : Talk) (list : List (Speech talk)) → every (is_speech talk) list ≡ true → SpeechTail talk (behind_commas (speech_parts talk) list)
speeches_fit talk [] h = λ n p. p.ends_here
speeches_fit talk (x ∷ list) h =
    let tail = speeches_fit talk list (second_of (is_speech talk x) (every (is_speech talk) list) h) in
    λ n p. (OutputWanted talk, p.comma, speech_fits talk x (behind_commas (speech_parts talk) list) (first_of (is_speech talk x) (every (is_speech talk) list) h) tail)

-- devices behind one, with its timeout or without
pub record Devices (list : List Opened) : Type 0 where
  first : PartsFit DeviceEnd (behind_commas opened_parts list)
  timed : PartsFit DeviceWaited (behind_commas opened_parts list)

pub wait_fits : (timeout : Option Expr) (list : List Opened) → Devices list → PartsFit DeviceEnd (wait_parts timeout ++ behind_commas opened_parts list)
wait_fits None list f = f.first
wait_fits (Some e) list f = (DeviceColon, refl, (DeviceTimed, refl, (DeviceWaited, refl, f.timed)))

device_fits : (x : Opened) (list : List Opened) → Devices list → PartsFit DeviceWanted (opened_parts x ++ behind_commas opened_parts list)
device_fits x list f = (DeviceEnd, refl, wait_fits x.timeout list f)

pub devices_fit : (list : List Opened) → Devices list
devices_fit [] = record { first = refl; timed = refl }
devices_fit (x ∷ list) =
    let f = device_fits x list (devices_fit list) in
    record { first = (DeviceWanted, refl, f); timed = (DeviceWanted, refl, f) }

names_fit : (ws : List (List ℕ)) (rest : List Part) → PartsFit KillEnd rest → PartsFit NameBehind (behind_commas name_parts ws ++ Put Close ∷ rest)
names_fit [] rest f = (KillEnd, refl, f)
names_fit (w ∷ ws) rest f = (NameWanted, refl, (NameBehind, refl, names_fit ws rest f))

pub killed_fits : (first : Bool) (x : Killed) (rest : List Part) → is_killed x ≡ true → PartsFit KillEnd rest → PartsFit (KillWanted first) (killed_parts x ++ rest)
killed_fits first (Gone v) rest h f = (KillEnd, refl, f)
killed_fits first (Spared []) rest h f = false_true h
killed_fits first (Spared (w ∷ ws)) rest h f =
    let P : List Part → Type 0 = λ ps. PartsFit (KillWanted first) (Put Open ∷ Named w ∷ ps) in
    subst P (sym (append_assoc (behind_commas name_parts ws) (Put Close ∷ []) rest)) (NameWanted, refl, (NameBehind, refl, names_fit ws rest f))

pub kills_fit : (list : List Killed) → every is_killed list ≡ true → PartsFit KillEnd (behind_commas killed_parts list)
kills_fit [] h = refl
kills_fit (x ∷ list) h = (
  KillWanted false,
  refl,
  killed_fits false x (behind_commas killed_parts list) (first_of (is_killed x) (every is_killed list) h)
      (kills_fit list (second_of (is_killed x) (every is_killed list) h)),
)

pub merges_fit : (list : List Merged) → PartsFit MergeEnd (behind_commas merged_parts list)
merges_fit [] = refl
merges_fit (x ∷ list) = (MergeInto, refl, (MergeBehind, refl, (MergeFrom, refl, (MergeEnd, refl, merges_fit list))))

pub ifs_fit : (list : List Expr) → PartsFit ValueEnd (behind_commas value_parts list)
ifs_fit [] = refl
ifs_fit (x ∷ list) = (ValueWanted false, refl, (ValueEnd, refl, ifs_fit list))

-- ranges behind one, wherever it ends
pub record Ranges (list : List Range) : Type 0 where
  first : PartsFit RangeEnd (behind_commas range_parts list)
  second : PartsFit StepEnd (behind_commas range_parts list)
  third : PartsFit LimitEnd (behind_commas range_parts list)

pub range_fits : (x : Range) (list : List Range) → Ranges list → PartsFit RangeWanted (range_parts x ++ behind_commas range_parts list)
range_fits (Single a) list f = (RangeEnd, refl, f.first)
range_fits (Endless a b) list f = (RangeEnd, refl, (StepWanted, refl, (StepEnd, refl, f.second)))
range_fits (UpTo a b c) list f = (RangeEnd, refl, (StepWanted, refl, (StepEnd, refl, (LimitWanted, refl, (LimitEnd, refl, f.third)))))

pub ranges_fit : (list : List Range) → Ranges list
ranges_fit [] = record { first = refl; second = refl; third = refl }
ranges_fit (x ∷ list) =
    let f = range_fits x list (ranges_fit list) in
    record { first = (RangeWanted, refl, f); second = (RangeWanted, refl, f); third = (RangeWanted, refl, f) }

kept_fit : (ws : List (List ℕ)) (rest : List Part) → PartsFit NewEnd rest → PartsFit KeptBehind (behind_commas name_parts ws ++ Put Close ∷ rest)
kept_fit [] rest f = (NewEnd, refl, f)
kept_fit (w ∷ ws) rest f = (KeptWanted, refl, (KeptBehind, refl, kept_fit ws rest f))

pub renewed_fits : (first : Bool) (x : Renewed) (rest : List Part) → is_renewed x ≡ true → PartsFit NewEnd rest → PartsFit (NewWanted first) (renewed_parts x ++ rest)
renewed_fits first (Fresh w) rest h f = (NewEnd, refl, f)
renewed_fits first (Kept []) rest h f = false_true h
renewed_fits first (Kept (w ∷ ws)) rest h f =
    let P : List Part → Type 0 = λ ps. PartsFit (NewWanted first) (Put Open ∷ Named w ∷ ps) in
    subst P (sym (append_assoc (behind_commas name_parts ws) (Put Close ∷ []) rest)) (KeptWanted, refl, (KeptBehind, refl, kept_fit ws rest f))

pub news_fit : (list : List Renewed) → every is_renewed list ≡ true → PartsFit NewEnd (behind_commas renewed_parts list)
news_fit [] h = refl
news_fit (x ∷ list) h = (
  NewWanted false,
  refl,
  renewed_fits false x (behind_commas renewed_parts list) (first_of (is_renewed x) (every is_renewed list) h)
      (news_fit list (second_of (is_renewed x) (every is_renewed list) h)),
)

-- ---- the argument of TSTART

pub serial_fits : (s : Serial) → PartsFit RestoredEnd (serial_parts s)
serial_fits serial.No = refl
serial_fits serial.Bare = (SerialWanted, refl, (SerialEnd, refl, refl))
serial_fits serial.Enclosed = (SerialWanted, refl, (SerialInside, refl, (SerialBehind, refl, (SerialEnd, refl, refl))))

restored_names_fit : (ws : List (List ℕ)) (rest : List Part) → PartsFit RestoredEnd rest → PartsFit RestoredBehind (behind_commas name_parts ws ++ Put Close ∷ rest)
restored_names_fit [] rest f = (RestoredEnd, refl, f)
restored_names_fit (w ∷ ws) rest f = (RestoredWanted, refl, (RestoredBehind, refl, restored_names_fit ws rest f))

pub restored_fits : (r : Restored) (rest : List Part) → PartsFit RestoredEnd rest → PartsFit RestartWanted (restored_parts r ++ rest)
restored_fits (Alone w) rest f = (RestoredEnd, refl, f)
restored_fits (Listed []) rest f = (RestoredOpens, refl, (RestoredEnd, refl, f))
restored_fits (Listed (w ∷ ws)) rest f =
    let P : List Part → Type 0 = λ ps. PartsFit RestartWanted (Put Open ∷ Named w ∷ ps) in
    subst P (sym (append_assoc (behind_commas name_parts ws) (Put Close ∷ []) rest)) (RestoredOpens, refl, (RestoredBehind, refl, restored_names_fit ws rest f))
restored_fits Everything rest f = (RestoredEnd, refl, f)
