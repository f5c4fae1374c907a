-- Commands and the parts that they are spelled by: the table has exactly the parts of trees, and each tree its own.
use Rattle.std.proofs.Common.{◌≡◌, ℕ, zero, suc, List, [], ◌∷◌, ◌++◌, refl, sym, ◌∙◌, Bool, true, false, arith, Option, Some, None, map, inl, inr}
use Rattle.mj_ast.specs.declared.sign.Sign.TheVariants.{Star, Hash, Equals, Comma, Colon, Exclamation, Question, Open, Close}
use Rattle.mj_ast.specs.declared.routine.FormatMark.TheVariants.{NewLine, NewPage}
use Rattle.mj_ast.specs.declared.routine.ReadMode.TheVariants.{Line, Byte}
use Rattle.mj_ast.specs.declared.routine.Serial.TheVariants as serial
use Rattle.mj_ast.specs.Syntax.{Expr, No, More, Gone, Spared, Shown, Coded, Prompted, Into, Opened, Range, Single, Endless, UpTo, Fresh, Kept}
use Rattle.mj_ast.specs.Commands.{Part, Put, Named, PieceCall, Prompt, Text, Place, Control, with_commas, behind_commas, value_parts, guard_parts, range_parts, renewed_parts, more_parts, targets_parts, assignment_parts, mark_part, column_parts, wait_parts, opened_parts, name_parts, killed_parts, merged_parts, every, are_targets, is_assignment}
use Rattle.mj_line.specs.Forms.{Node, SetTarget, PieceOpens, PieceVariable, PieceComma, PieceText, PieceBehind, SetBehind, SetValue, SetEnd, Talk, Writes, Reads, OutputWanted, OutputEnd, MarksEnd, ColumnWanted, CodeWanted, IntoWanted, IntoEnd, IntoTimed, DeviceWanted, DeviceEnd, DeviceColon, DeviceTimed, DeviceWaited, KillWanted, NameWanted, NameBehind, KillEnd, MergeInto, MergeBehind, MergeFrom, MergeEnd, ValueWanted, ValueEnd, ForWanted, ForBehind, RangeWanted, RangeEnd, StepWanted, StepEnd, LimitWanted, LimitEnd, NewWanted, KeptWanted, KeptBehind, NewEnd, EntryWanted, LabelEnd, RoutineEnd, ActualsEnd, GuardEnd, LockWanted, LockNamed, LockEnd, RestartWanted, RestoredEnd, SerialEnd, ends, PartLeads, ResultWanted, ResultEnd}
use Rattle.mj_line.proofs.Tables.{none_some}
use Rattle.mj_line.proofs.Formed.{speech_parts, is_speech}
use Rattle.mj_line.proofs.Shapes.{true_false, false_true, both, limit_parts, step_parts, Shape, at_node, text_node, place_node, local_node, text_wrong, place_wrong, local_text, local_place, text_local, place_of_local, before, text_zero, text_one, place_zero, place_one, piece_aims, plain_aims, several_aims, more_aims, format_at, assignment_at, next_kill, spared_at, next_item, kept_at, plain_none, none_others, others_guard, guard_acted, timed_none}

-- ---- what stands from each place on is of that shape

pub shape_end : (n : Node) → ends n ≡ true → Shape n []
shape_end SetEnd f = ([], refl, refl)
shape_end (OutputEnd talk) f = ([], refl, refl)
shape_end (MarksEnd talk) f = ([], None, [], refl, refl)
shape_end IntoEnd f = (None, [], refl, refl)
shape_end DeviceEnd f = (None, [], refl)
shape_end DeviceWaited f = ([], refl)
shape_end (KillWanted first) f = ([], refl, refl, λ e. true_false (sym f ∙ e))
shape_end KillEnd f = ([], refl, refl)
shape_end MergeEnd f = ([], refl)
shape_end (ValueWanted optional) f = ([], refl, λ e. true_false (sym f ∙ e))
shape_end ValueEnd f = ([], refl)
shape_end ResultWanted f = (None, refl)
shape_end ResultEnd f = refl
shape_end ForWanted f = inl refl
shape_end RangeEnd f = (None, [], refl)
shape_end StepEnd f = (None, [], refl)
shape_end LimitEnd f = ([], refl)
shape_end (NewWanted first) f = ([], refl, refl, λ e. true_false (sym f ∙ e))
shape_end NewEnd f = ([], refl, refl)
shape_end (EntryWanted mode first) f = (record { list = []; are = refl; formed = refl; plain = plain_none mode }, λ e. true_false (sym f ∙ e))
shape_end (LabelEnd mode) f = (None, [], refl, guard_acted mode [] (others_guard mode [] (none_others mode)))
shape_end (RoutineEnd mode) f = guard_acted mode [] (others_guard mode [] (none_others mode))
shape_end (ActualsEnd mode) f = others_guard mode [] (none_others mode)
shape_end (GuardEnd mode) f = none_others mode
shape_end (LockWanted first) f = ([], refl, refl, λ e. true_false (sym f ∙ e))
shape_end LockNamed f = timed_none
shape_end LockEnd f = ([], refl, refl)
shape_end RestartWanted f = (None, refl)
shape_end RestoredEnd f = (serial.No, refl)
shape_end SerialEnd f = refl
shape_end n f = false_true f

pub target_part : (p : Part) (ps : List Part) (next : Node) → PartLeads (SetTarget false) p next → Shape next ps → Shape (SetTarget false) (p ∷ ps)
target_part PieceCall ps next e h = piece_aims false ps (at_node (PieceOpens false) next ps e h)
target_part (Place l v) ps next e h = let x = place_node 0 l (SetBehind false) next ps e h in plain_aims false l v ps x.1 x.0
target_part (Put Open) ps next e h = several_aims ps (at_node (SetTarget true) next ps e h)
target_part (Text l x) ps next e h = absurd (text_wrong e)
target_part (Control v) ps next e h = absurd (local_place e.0)
target_part p ps next e h = absurd (none_some _ e)

pub listed_part : (p : Part) (ps : List Part) (next : Node) → PartLeads (SetTarget true) p next → Shape next ps → Shape (SetTarget true) (p ∷ ps)
listed_part PieceCall ps next e h = piece_aims true ps (at_node (PieceOpens true) next ps e h)
listed_part (Place l v) ps next e h = let x = place_node 0 l (SetBehind true) next ps e h in plain_aims true l v ps x.1 x.0
listed_part (Text l x) ps next e h = absurd (text_wrong e)
listed_part (Control v) ps next e h = absurd (local_place e.0)
listed_part p ps next e h = absurd (none_some _ e)

pub opens_part : (listed : Bool) (p : Part) (ps : List Part) (next : Node) → PartLeads (PieceOpens listed) p next → Shape next ps → Shape (PieceOpens listed) (p ∷ ps)
opens_part listed (Put Open) ps next e h =
    let x = at_node (PieceVariable listed) next ps e h in
    (x.0, x.1, x.2, before (Put Open) (Place 1 x.0 ∷ (more_parts x.1 ++ Put Close ∷ x.2)) ps x.3, x.4, x.5, x.6)
opens_part listed (Control v) ps next e h = absurd (none_some _ e.0)
opens_part listed p ps next e h = absurd (none_some _ e)

pub variable_part : (listed : Bool) (p : Part) (ps : List Part) (next : Node) → PartLeads (PieceVariable listed) p next → Shape next ps → Shape (PieceVariable listed) (p ∷ ps)
variable_part listed (Place l v) ps next e h =
    let x = place_node 1 l (PieceComma listed) next ps e h in
    let c = x.0 in
    (v, c.0, c.1, place_one l v (more_parts c.0 ++ Put Close ∷ c.1) ps x.1 c.2, c.3, c.4, c.5)
variable_part listed (Text l x) ps next e h = absurd (text_wrong e)
variable_part listed (Control v) ps next e h = absurd (local_place e.0)
variable_part listed p ps next e h = absurd (none_some _ e)

pub comma_part : (listed : Bool) (p : Part) (ps : List Part) (next : Node) → PartLeads (PieceComma listed) p next → Shape next ps → Shape (PieceComma listed) (p ∷ ps)
comma_part listed (Put Comma) ps next e h =
    let x = at_node (PieceText listed 2) next ps e h in
    (More x.0 x.1, x.2, before (Put Comma) (Text 1 x.0 ∷ (more_parts x.1 ++ Put Close ∷ x.2)) ps x.3, (let c = x.4 in omega arith), (let c = x.4 in omega arith), x.5)
comma_part listed (Control v) ps next e h = absurd (none_some _ e.0)
comma_part listed p ps next e h = absurd (none_some _ e)

pub text_part : (listed : Bool) (more : ℕ) (p : Part) (ps : List Part) (next : Node) → PartLeads (PieceText listed more) p next → Shape next ps → Shape (PieceText listed more) (p ∷ ps)
text_part listed more (Text l v) ps next e h =
    let x = text_node 1 l (PieceBehind listed more) next ps e h in
    let c = x.0 in
    (v, c.0, c.1, text_one l v (more_parts c.0 ++ Put Close ∷ c.1) ps x.1 c.2, c.3, c.4)
text_part listed more (Place l x) ps next e h = absurd (place_wrong e)
text_part listed more (Control v) ps next e h = absurd (local_text e.0)
text_part listed more p ps next e h = absurd (none_some _ e)

pub last_part : (listed : Bool) (p : Part) (ps : List Part) (next : Node) → PartLeads (PieceBehind listed zero) p next → Shape next ps → Shape (PieceBehind listed zero) (p ∷ ps)
last_part listed (Put Close) ps next e h = (No, ps, refl, omega arith, at_node (SetBehind listed) next ps e h)
last_part listed (Control v) ps next e h = absurd (none_some _ e.0)
last_part listed p ps next e h = absurd (none_some _ e)

pub piece_part : (listed : Bool) (more : ℕ) (p : Part) (ps : List Part) (next : Node)
    → PartLeads (PieceBehind listed (suc more)) p next → Shape next ps → Shape (PieceBehind listed (suc more)) (p ∷ ps)
piece_part listed more (Put Comma) ps next e h =
    let x = at_node (PieceText listed more) next ps e h in
    (More x.0 x.1, x.2, before (Put Comma) (Text 1 x.0 ∷ (more_parts x.1 ++ Put Close ∷ x.2)) ps x.3, (let c = x.4 in omega arith), x.5)
piece_part listed more (Put Close) ps next e h = (No, ps, refl, omega arith, at_node (SetBehind listed) next ps e h)
piece_part listed more (Control v) ps next e h = absurd (none_some _ e.0)
piece_part listed more p ps next e h = absurd (none_some _ e)

pub behind_part : (p : Part) (ps : List Part) (next : Node) → PartLeads (SetBehind false) p next → Shape next ps → Shape (SetBehind false) (p ∷ ps)
behind_part (Put Equals) ps next e h =
    let x = at_node SetValue next ps e h in
    (x.0, x.1, before (Put Equals) (Text 0 x.0 ∷ behind_commas assignment_parts x.1) ps x.2, x.3)
behind_part (Control v) ps next e h = absurd (none_some _ e.0)
behind_part p ps next e h = absurd (none_some _ e)

pub listed_behind : (p : Part) (ps : List Part) (next : Node) → PartLeads (SetBehind true) p next → Shape next ps → Shape (SetBehind true) (p ∷ ps)
listed_behind (Put Comma) ps next e h = more_aims ps (at_node (SetTarget true) next ps e h)
listed_behind (Put Close) ps next e h =
    let x = at_node (SetBehind false) next ps e h in
    ([], x.0, x.1, before (Put Close) (Put Equals ∷ Text 0 x.0 ∷ behind_commas assignment_parts x.1) ps x.2, refl, x.3)
listed_behind (Control v) ps next e h = absurd (none_some _ e.0)
listed_behind p ps next e h = absurd (none_some _ e)

pub value_part : (p : Part) (ps : List Part) (next : Node) → PartLeads SetValue p next → Shape next ps → Shape SetValue (p ∷ ps)
value_part (Text l v) ps next e h =
    let x = text_node 0 l SetEnd next ps e h in
    let c = x.0 in
    (v, c.0, text_zero l v (behind_commas assignment_parts c.0) ps x.1 c.1, c.2)
value_part (Place l x) ps next e h = absurd (place_wrong e)
value_part (Control v) ps next e h = absurd (local_text e.0)
value_part p ps next e h = absurd (none_some _ e)

pub set_part : (p : Part) (ps : List Part) (next : Node) → PartLeads SetEnd p next → Shape next ps → Shape SetEnd (p ∷ ps)
set_part (Put Comma) ps next e h =
    let x = at_node (SetTarget false) next ps e h in
    let a = x.4 in (
      record { targets = x.0; value = a.0 } ∷ a.1,
      before (Put Comma) ((targets_parts x.0 ++ Put Equals ∷ Text 0 a.0 ∷ []) ++ behind_commas assignment_parts a.1) ps (assignment_at x.0 a.0 (behind_commas assignment_parts a.1) x.1 ps a.2 x.2),
      both (are_targets x.0) (every is_assignment a.1) x.3 a.3,
    )
set_part (Control v) ps next e h = absurd (none_some _ e.0)
set_part p ps next e h = absurd (none_some _ e)

pub write_part : (p : Part) (ps : List Part) (next : Node) → PartLeads (OutputWanted Writes) p next → Shape next ps → Shape (OutputWanted Writes) (p ∷ ps)
write_part (Text l v) ps next e h =
    let x = text_node 0 l (OutputEnd Writes) next ps e h in
    let c = x.0 in
    (Shown v, c.0, text_zero l v (behind_commas (speech_parts Writes) c.0) ps x.1 c.1, refl, c.2)
write_part (Put Exclamation) ps next e h =
    let x = at_node (MarksEnd Writes) next ps e h in
    format_at Writes (NewLine ∷ x.0) x.1 x.2 (Put Exclamation ∷ ps) (before (Put Exclamation) (map mark_part x.0 ++ (column_parts x.1 ++ behind_commas (speech_parts Writes) x.2)) ps x.3) refl x.4
write_part (Put Hash) ps next e h =
    let x = at_node (MarksEnd Writes) next ps e h in
    format_at Writes (NewPage ∷ x.0) x.1 x.2 (Put Hash ∷ ps) (before (Put Hash) (map mark_part x.0 ++ (column_parts x.1 ++ behind_commas (speech_parts Writes) x.2)) ps x.3) refl x.4
write_part (Put Question) ps next e h =
    let x = at_node (ColumnWanted Writes) next ps e h in
    format_at Writes [] (Some x.0) x.1 (Put Question ∷ ps) (before (Put Question) (Text 0 x.0 ∷ behind_commas (speech_parts Writes) x.1) ps x.2) refl x.3
write_part (Put Star) ps next e h =
    let x = at_node CodeWanted next ps e h in
    (Coded x.0, x.1, before (Put Star) (Text 0 x.0 ∷ behind_commas (speech_parts Writes) x.1) ps x.2, refl, x.3)
write_part (Place l x) ps next e h = absurd (place_wrong e)
write_part (Control v) ps next e h = absurd (local_text e.0)
write_part p ps next e h = absurd (none_some _ e)

pub read_part : (p : Part) (ps : List Part) (next : Node) → PartLeads (OutputWanted Reads) p next → Shape next ps → Shape (OutputWanted Reads) (p ∷ ps)
read_part (Place l v) ps next e h =
    let x = place_node 0 l IntoEnd next ps e h in
    let c = x.0 in
    (Into (record { mode = Line; variable = v; timeout = c.0 }), c.1, place_zero l v (guard_parts c.0 ++ behind_commas (speech_parts Reads) c.1) ps x.1 c.2, refl, c.3)
read_part (Put Exclamation) ps next e h =
    let x = at_node (MarksEnd Reads) next ps e h in
    format_at Reads (NewLine ∷ x.0) x.1 x.2 (Put Exclamation ∷ ps) (before (Put Exclamation) (map mark_part x.0 ++ (column_parts x.1 ++ behind_commas (speech_parts Reads) x.2)) ps x.3) refl x.4
read_part (Put Hash) ps next e h =
    let x = at_node (MarksEnd Reads) next ps e h in
    format_at Reads (NewPage ∷ x.0) x.1 x.2 (Put Hash ∷ ps) (before (Put Hash) (map mark_part x.0 ++ (column_parts x.1 ++ behind_commas (speech_parts Reads) x.2)) ps x.3) refl x.4
read_part (Put Question) ps next e h =
    let x = at_node (ColumnWanted Reads) next ps e h in
    format_at Reads [] (Some x.0) x.1 (Put Question ∷ ps) (before (Put Question) (Text 0 x.0 ∷ behind_commas (speech_parts Reads) x.1) ps x.2) refl x.3
read_part (Put Star) ps next e h =
    let x = at_node IntoWanted next ps e h in
    (Into (record { mode = Byte; variable = x.0; timeout = x.1 }), x.2, before (Put Star) (Place 0 x.0 ∷ (guard_parts x.1 ++ behind_commas (speech_parts Reads) x.2)) ps x.3, refl, x.4)
read_part (Prompt v) ps next e h =
    let x = at_node (OutputEnd Reads) next ps e h in
    (Prompted v, x.0, before (Prompt v) (behind_commas (speech_parts Reads) x.0) ps x.1, refl, x.2)
read_part (Text l x) ps next e h = absurd (text_wrong e)
read_part (Control v) ps next e h = absurd (local_place e.0)
read_part p ps next e h = absurd (none_some _ e)

pub output_end : (talk : Talk) (p : Part) (ps : List Part) (next : Node) → PartLeads (OutputEnd talk) p next → Shape next ps → Shape (OutputEnd talk) (p ∷ ps)
output_end talk (Put Comma) ps next e h =
    let x = at_node (OutputWanted talk) next ps e h in
    (x.0 ∷ x.1, before (Put Comma) (speech_parts talk x.0 ++ behind_commas (speech_parts talk) x.1) ps x.2, both (is_speech talk x.0) (every (is_speech talk) x.1) x.3 x.4)
output_end talk (Control v) ps next e h = absurd (none_some _ e.0)
output_end talk p ps next e h = absurd (none_some _ e)

pub marks_end : (talk : Talk) (p : Part) (ps : List Part) (next : Node) → PartLeads (MarksEnd talk) p next → Shape next ps → Shape (MarksEnd talk) (p ∷ ps)
marks_end talk (Put Exclamation) ps next e h =
    let x = at_node (MarksEnd talk) next ps e h in
    (NewLine ∷ x.0, x.1, x.2, before (Put Exclamation) (map mark_part x.0 ++ (column_parts x.1 ++ behind_commas (speech_parts talk) x.2)) ps x.3, x.4)
marks_end talk (Put Hash) ps next e h =
    let x = at_node (MarksEnd talk) next ps e h in
    (NewPage ∷ x.0, x.1, x.2, before (Put Hash) (map mark_part x.0 ++ (column_parts x.1 ++ behind_commas (speech_parts talk) x.2)) ps x.3, x.4)
marks_end talk (Put Question) ps next e h =
    let x = at_node (ColumnWanted talk) next ps e h in
    ([], Some x.0, x.1, before (Put Question) (Text 0 x.0 ∷ behind_commas (speech_parts talk) x.1) ps x.2, x.3)
marks_end talk (Put Comma) ps next e h =
    let x = at_node (OutputWanted talk) next ps e h in
    ([], None, x.0 ∷ x.1, before (Put Comma) (speech_parts talk x.0 ++ behind_commas (speech_parts talk) x.1) ps x.2, both (is_speech talk x.0) (every (is_speech talk) x.1) x.3 x.4)
marks_end talk (Control v) ps next e h = absurd (none_some _ e.0)
marks_end talk p ps next e h = absurd (none_some _ e)

pub column_part : (talk : Talk) (p : Part) (ps : List Part) (next : Node) → PartLeads (ColumnWanted talk) p next → Shape next ps → Shape (ColumnWanted talk) (p ∷ ps)
column_part talk (Text l v) ps next e h =
    let x = text_node 0 l (OutputEnd talk) next ps e h in
    let c = x.0 in
    (v, c.0, text_zero l v (behind_commas (speech_parts talk) c.0) ps x.1 c.1, c.2)
column_part talk (Place l x) ps next e h = absurd (place_wrong e)
column_part talk (Control v) ps next e h = absurd (local_text e.0)
column_part talk p ps next e h = absurd (none_some _ e)

pub code_part : (p : Part) (ps : List Part) (next : Node) → PartLeads CodeWanted p next → Shape next ps → Shape CodeWanted (p ∷ ps)
code_part (Text l v) ps next e h =
    let x = text_node 0 l (OutputEnd Writes) next ps e h in
    let c = x.0 in
    (v, c.0, text_zero l v (behind_commas (speech_parts Writes) c.0) ps x.1 c.1, c.2)
code_part (Place l x) ps next e h = absurd (place_wrong e)
code_part (Control v) ps next e h = absurd (local_text e.0)
code_part p ps next e h = absurd (none_some _ e)

pub star_part : (p : Part) (ps : List Part) (next : Node) → PartLeads IntoWanted p next → Shape next ps → Shape IntoWanted (p ∷ ps)
star_part (Place l v) ps next e h =
    let x = place_node 0 l IntoEnd next ps e h in
    let c = x.0 in
    (v, c.0, c.1, place_zero l v (guard_parts c.0 ++ behind_commas (speech_parts Reads) c.1) ps x.1 c.2, c.3)
star_part (Text l x) ps next e h = absurd (text_wrong e)
star_part (Control v) ps next e h = absurd (local_place e.0)
star_part p ps next e h = absurd (none_some _ e)

pub received_end : (p : Part) (ps : List Part) (next : Node) → PartLeads IntoEnd p next → Shape next ps → Shape IntoEnd (p ∷ ps)
received_end (Put Colon) ps next e h =
    let x = at_node IntoTimed next ps e h in
    (Some x.0, x.1, before (Put Colon) (Text 0 x.0 ∷ behind_commas (speech_parts Reads) x.1) ps x.2, x.3)
received_end (Put Comma) ps next e h =
    let x = at_node (OutputWanted Reads) next ps e h in
    (None, x.0 ∷ x.1, before (Put Comma) (speech_parts Reads x.0 ++ behind_commas (speech_parts Reads) x.1) ps x.2, both (is_speech Reads x.0) (every (is_speech Reads) x.1) x.3 x.4)
received_end (Control v) ps next e h = absurd (none_some _ e.0)
received_end p ps next e h = absurd (none_some _ e)

pub received_timed : (p : Part) (ps : List Part) (next : Node) → PartLeads IntoTimed p next → Shape next ps → Shape IntoTimed (p ∷ ps)
received_timed (Text l v) ps next e h =
    let x = text_node 0 l (OutputEnd Reads) next ps e h in
    let c = x.0 in
    (v, c.0, text_zero l v (behind_commas (speech_parts Reads) c.0) ps x.1 c.1, c.2)
received_timed (Place l x) ps next e h = absurd (place_wrong e)
received_timed (Control v) ps next e h = absurd (local_text e.0)
received_timed p ps next e h = absurd (none_some _ e)

pub device_part : (p : Part) (ps : List Part) (next : Node) → PartLeads DeviceWanted p next → Shape next ps → Shape DeviceWanted (p ∷ ps)
device_part (Text l v) ps next e h =
    let x = text_node 0 l DeviceEnd next ps e h in
    let c = x.0 in
    let o : Opened = record { device = v; timeout = c.0 } in
    (o, c.1, text_zero l v (wait_parts c.0 ++ behind_commas opened_parts c.1) ps x.1 c.2)
device_part (Place l x) ps next e h = absurd (place_wrong e)
device_part (Control v) ps next e h = absurd (local_text e.0)
device_part p ps next e h = absurd (none_some _ e)

pub device_end : (p : Part) (ps : List Part) (next : Node) → PartLeads DeviceEnd p next → Shape next ps → Shape DeviceEnd (p ∷ ps)
device_end (Put Colon) ps next e h =
    let x = at_node DeviceColon next ps e h in
    (Some x.0, x.1, before (Put Colon) (Put Colon ∷ Text 0 x.0 ∷ behind_commas opened_parts x.1) ps x.2)
device_end (Put Comma) ps next e h =
    let x = at_node DeviceWanted next ps e h in
    (None, x.0 ∷ x.1, before (Put Comma) (opened_parts x.0 ++ behind_commas opened_parts x.1) ps x.2)
device_end (Control v) ps next e h = absurd (none_some _ e.0)
device_end p ps next e h = absurd (none_some _ e)

pub device_colon : (p : Part) (ps : List Part) (next : Node) → PartLeads DeviceColon p next → Shape next ps → Shape DeviceColon (p ∷ ps)
device_colon (Put Colon) ps next e h =
    let x = at_node DeviceTimed next ps e h in
    (x.0, x.1, before (Put Colon) (Text 0 x.0 ∷ behind_commas opened_parts x.1) ps x.2)
device_colon (Control v) ps next e h = absurd (none_some _ e.0)
device_colon p ps next e h = absurd (none_some _ e)

pub device_timed : (p : Part) (ps : List Part) (next : Node) → PartLeads DeviceTimed p next → Shape next ps → Shape DeviceTimed (p ∷ ps)
device_timed (Text l v) ps next e h =
    let x = text_node 0 l DeviceWaited next ps e h in
    let c = x.0 in
    (v, c.0, text_zero l v (behind_commas opened_parts c.0) ps x.1 c.1)
device_timed (Place l x) ps next e h = absurd (place_wrong e)
device_timed (Control v) ps next e h = absurd (local_text e.0)
device_timed p ps next e h = absurd (none_some _ e)

pub device_waited : (p : Part) (ps : List Part) (next : Node) → PartLeads DeviceWaited p next → Shape next ps → Shape DeviceWaited (p ∷ ps)
device_waited (Put Comma) ps next e h =
    let x = at_node DeviceWanted next ps e h in
    (x.0 ∷ x.1, before (Put Comma) (opened_parts x.0 ++ behind_commas opened_parts x.1) ps x.2)
device_waited (Control v) ps next e h = absurd (none_some _ e.0)
device_waited p ps next e h = absurd (none_some _ e)

pub kill_part : (first : Bool) (p : Part) (ps : List Part) (next : Node) → PartLeads (KillWanted first) p next → Shape next ps → Shape (KillWanted first) (p ∷ ps)
kill_part first (Place l v) ps next e h =
    let x = place_node 0 l KillEnd next ps e h in
    let c = x.0 in
    (Gone v ∷ c.0, place_zero l v (behind_commas killed_parts c.0) ps x.1 c.1, c.2, λ z. refl)
kill_part first (Put Open) ps next e h =
    let x = at_node NameWanted next ps e h in
    (Spared (x.0 ∷ x.1) ∷ x.2, spared_at x.0 x.1 (behind_commas killed_parts x.2) ps x.3, x.4, λ z. refl)
kill_part first (Text l x) ps next e h = absurd (text_wrong e)
kill_part first (Control v) ps next e h = absurd (local_place e.0)
kill_part first p ps next e h = absurd (none_some _ e)

pub name_part : (p : Part) (ps : List Part) (next : Node) → PartLeads NameWanted p next → Shape next ps → Shape NameWanted (p ∷ ps)
name_part (Named w) ps next e h =
    let x = at_node NameBehind next ps e h in
    (w, x.0, x.1, before (Named w) (behind_commas name_parts x.0 ++ (Put Close ∷ behind_commas killed_parts x.1)) ps x.2, x.3)
name_part (Control v) ps next e h = absurd (none_some _ e.0)
name_part p ps next e h = absurd (none_some _ e)

pub name_behind : (p : Part) (ps : List Part) (next : Node) → PartLeads NameBehind p next → Shape next ps → Shape NameBehind (p ∷ ps)
name_behind (Put Comma) ps next e h =
    let x = at_node NameWanted next ps e h in
    (x.0 ∷ x.1, x.2, before (Put Comma) (Named x.0 ∷ (behind_commas name_parts x.1 ++ (Put Close ∷ behind_commas killed_parts x.2))) ps x.3, x.4)
name_behind (Put Close) ps next e h =
    let x = at_node KillEnd next ps e h in
    ([], x.0, before (Put Close) (behind_commas killed_parts x.0) ps x.1, x.2)
name_behind (Control v) ps next e h = absurd (none_some _ e.0)
name_behind p ps next e h = absurd (none_some _ e)

pub kill_end : (p : Part) (ps : List Part) (next : Node) → PartLeads KillEnd p next → Shape next ps → Shape KillEnd (p ∷ ps)
kill_end (Put Comma) ps next e h =
    let x = at_node (KillWanted false) next ps e h in
    (x.0, next_kill ps x.0 x.1 x.3, x.2)
kill_end (Control v) ps next e h = absurd (none_some _ e.0)
kill_end p ps next e h = absurd (none_some _ e)

pub into_part : (p : Part) (ps : List Part) (next : Node) → PartLeads MergeInto p next → Shape next ps → Shape MergeInto (p ∷ ps)
into_part (Place l v) ps next e h =
    let x = place_node 0 l MergeBehind next ps e h in
    let c = x.0 in
    (record { into = v; from = c.0 }, c.1, place_zero l v (Put Equals ∷ Place 0 c.0 ∷ behind_commas merged_parts c.1) ps x.1 c.2)
into_part (Text l x) ps next e h = absurd (text_wrong e)
into_part (Control v) ps next e h = absurd (local_place e.0)
into_part p ps next e h = absurd (none_some _ e)

pub into_behind : (p : Part) (ps : List Part) (next : Node) → PartLeads MergeBehind p next → Shape next ps → Shape MergeBehind (p ∷ ps)
into_behind (Put Equals) ps next e h =
    let x = at_node MergeFrom next ps e h in
    (x.0, x.1, before (Put Equals) (Place 0 x.0 ∷ behind_commas merged_parts x.1) ps x.2)
into_behind (Control v) ps next e h = absurd (none_some _ e.0)
into_behind p ps next e h = absurd (none_some _ e)

pub from_part : (p : Part) (ps : List Part) (next : Node) → PartLeads MergeFrom p next → Shape next ps → Shape MergeFrom (p ∷ ps)
from_part (Place l v) ps next e h =
    let x = place_node 0 l MergeEnd next ps e h in
    let c = x.0 in
    (v, c.0, place_zero l v (behind_commas merged_parts c.0) ps x.1 c.1)
from_part (Text l x) ps next e h = absurd (text_wrong e)
from_part (Control v) ps next e h = absurd (local_place e.0)
from_part p ps next e h = absurd (none_some _ e)

pub merge_end : (p : Part) (ps : List Part) (next : Node) → PartLeads MergeEnd p next → Shape next ps → Shape MergeEnd (p ∷ ps)
merge_end (Put Comma) ps next e h =
    let x = at_node MergeInto next ps e h in
    (x.0 ∷ x.1, before (Put Comma) (merged_parts x.0 ++ behind_commas merged_parts x.1) ps x.2)
merge_end (Control v) ps next e h = absurd (none_some _ e.0)
merge_end p ps next e h = absurd (none_some _ e)

pub value_list_part : (optional : Bool) (p : Part) (ps : List Part) (next : Node) → PartLeads (ValueWanted optional) p next → Shape next ps → Shape (ValueWanted optional) (p ∷ ps)
value_list_part optional (Text l v) ps next e h =
    let x = text_node 0 l ValueEnd next ps e h in
    let c = x.0 in
    (v ∷ c.0, text_zero l v (behind_commas value_parts c.0) ps x.1 c.1, λ z. refl)
value_list_part optional (Place l x) ps next e h = absurd (place_wrong e)
value_list_part optional (Control v) ps next e h = absurd (local_text e.0)
value_list_part optional p ps next e h = absurd (none_some _ e)

pub value_list_end : (p : Part) (ps : List Part) (next : Node) → PartLeads ValueEnd p next → Shape next ps → Shape ValueEnd (p ∷ ps)
value_list_end (Put Comma) ps next e h =
    let x = at_node (ValueWanted false) next ps e h in
    (x.0, next_item value_parts ps x.0 x.1 (x.2 refl))
value_list_end (Control v) ps next e h = absurd (none_some _ e.0)
value_list_end p ps next e h = absurd (none_some _ e)

pub result_part : (p : Part) (ps : List Part) (next : Node) → PartLeads ResultWanted p next → Shape next ps → Shape ResultWanted (p ∷ ps)
result_part (Text l v) ps next e h = let x = text_node 0 l ResultEnd next ps e h in (Some v, text_zero l v [] ps x.1 x.0)
result_part (Place l x) ps next e h = absurd (place_wrong e)
result_part (Control v) ps next e h = absurd (local_text e.0)
result_part p ps next e h = absurd (none_some _ e)

pub result_end : (p : Part) (ps : List Part) (next : Node) → PartLeads ResultEnd p next → Shape next ps → Shape ResultEnd (p ∷ ps)
result_end (Control v) ps next e h = absurd (none_some _ e.0)
result_end p ps next e h = absurd (none_some _ e)

pub for_part : (p : Part) (ps : List Part) (next : Node) → PartLeads ForWanted p next → Shape next ps → Shape ForWanted (p ∷ ps)
for_part (Control v) ps next e h =
    let x = local_node ForBehind next ps e.0 h in
    inr (v, x.0, x.1, before (Control v) (Put Equals ∷ with_commas range_parts (x.0 ∷ x.1)) ps x.2, e.1)
for_part (Text l x) ps next e h = absurd (text_local e)
for_part (Place l x) ps next e h = absurd (place_of_local e)
for_part p ps next e h = absurd (none_some _ e)

pub for_behind : (p : Part) (ps : List Part) (next : Node) → PartLeads ForBehind p next → Shape next ps → Shape ForBehind (p ∷ ps)
for_behind (Put Equals) ps next e h =
    let x = at_node RangeWanted next ps e h in
    (x.0, x.1, before (Put Equals) (with_commas range_parts (x.0 ∷ x.1)) ps x.2)
for_behind (Control v) ps next e h = absurd (none_some _ e.0)
for_behind p ps next e h = absurd (none_some _ e)

-- a range of these parts
abbrev range_with : Expr → Option (Expr × Option Expr) → Range
range_with a None = Single a
range_with a (Some (b, None)) = Endless a b
range_with a (Some (b, Some c)) = UpTo a b c

range_is : (a : Expr) (s : Option (Expr × Option Expr)) (rest : List Part) → range_parts (range_with a s) ++ rest ≡ Text 0 a ∷ (step_parts s ++ rest)
range_is a None rest = refl
range_is a (Some (b, None)) rest = refl
range_is a (Some (b, Some c)) rest = refl

pub range_part : (p : Part) (ps : List Part) (next : Node) → PartLeads RangeWanted p next → Shape next ps → Shape RangeWanted (p ∷ ps)
range_part (Text l v) ps next e h =
    let x = text_node 0 l RangeEnd next ps e h in
    let c = x.0 in
    (range_with v c.0, c.1, range_is v c.0 (behind_commas range_parts c.1) ∙ text_zero l v (step_parts c.0 ++ behind_commas range_parts c.1) ps x.1 c.2)
range_part (Place l x) ps next e h = absurd (place_wrong e)
range_part (Control v) ps next e h = absurd (local_text e.0)
range_part p ps next e h = absurd (none_some _ e)

-- a comma and further ranges
more_ranges : (ps : List Part) → Shape RangeWanted ps → Shape LimitEnd (Put Comma ∷ ps)
more_ranges ps h = (h.0 ∷ h.1, before (Put Comma) (with_commas range_parts (h.0 ∷ h.1)) ps h.2)

pub range_end : (p : Part) (ps : List Part) (next : Node) → PartLeads RangeEnd p next → Shape next ps → Shape RangeEnd (p ∷ ps)
range_end (Put Colon) ps next e h =
    let x = at_node StepWanted next ps e h in
    (Some (x.0, x.1), x.2, before (Put Colon) (Text 0 x.0 ∷ (limit_parts x.1 ++ behind_commas range_parts x.2)) ps x.3)
range_end (Put Comma) ps next e h = let x = more_ranges ps (at_node RangeWanted next ps e h) in (None, x.0, x.1)
range_end (Control v) ps next e h = absurd (none_some _ e.0)
range_end p ps next e h = absurd (none_some _ e)

pub step_part : (p : Part) (ps : List Part) (next : Node) → PartLeads StepWanted p next → Shape next ps → Shape StepWanted (p ∷ ps)
step_part (Text l v) ps next e h =
    let x = text_node 0 l StepEnd next ps e h in
    let c = x.0 in
    (v, c.0, c.1, text_zero l v (limit_parts c.0 ++ behind_commas range_parts c.1) ps x.1 c.2)
step_part (Place l x) ps next e h = absurd (place_wrong e)
step_part (Control v) ps next e h = absurd (local_text e.0)
step_part p ps next e h = absurd (none_some _ e)

pub step_end : (p : Part) (ps : List Part) (next : Node) → PartLeads StepEnd p next → Shape next ps → Shape StepEnd (p ∷ ps)
step_end (Put Colon) ps next e h =
    let x = at_node LimitWanted next ps e h in
    (Some x.0, x.1, before (Put Colon) (Text 0 x.0 ∷ behind_commas range_parts x.1) ps x.2)
step_end (Put Comma) ps next e h = let x = more_ranges ps (at_node RangeWanted next ps e h) in (None, x.0, x.1)
step_end (Control v) ps next e h = absurd (none_some _ e.0)
step_end p ps next e h = absurd (none_some _ e)

pub limit_part : (p : Part) (ps : List Part) (next : Node) → PartLeads LimitWanted p next → Shape next ps → Shape LimitWanted (p ∷ ps)
limit_part (Text l v) ps next e h =
    let x = text_node 0 l LimitEnd next ps e h in
    let c = x.0 in
    (v, c.0, text_zero l v (behind_commas range_parts c.0) ps x.1 c.1)
limit_part (Place l x) ps next e h = absurd (place_wrong e)
limit_part (Control v) ps next e h = absurd (local_text e.0)
limit_part p ps next e h = absurd (none_some _ e)

pub limit_end : (p : Part) (ps : List Part) (next : Node) → PartLeads LimitEnd p next → Shape next ps → Shape LimitEnd (p ∷ ps)
limit_end (Put Comma) ps next e h = more_ranges ps (at_node RangeWanted next ps e h)
limit_end (Control v) ps next e h = absurd (none_some _ e.0)
limit_end p ps next e h = absurd (none_some _ e)

pub new_part : (first : Bool) (p : Part) (ps : List Part) (next : Node) → PartLeads (NewWanted first) p next → Shape next ps → Shape (NewWanted first) (p ∷ ps)
new_part first (Named w) ps next e h =
    let x = at_node NewEnd next ps e h in
    (Fresh w ∷ x.0, before (Named w) (behind_commas renewed_parts x.0) ps x.1, x.2, λ z. refl)
new_part first (Put Open) ps next e h =
    let x = at_node KeptWanted next ps e h in
    (Kept (x.0 ∷ x.1) ∷ x.2, kept_at x.0 x.1 (behind_commas renewed_parts x.2) ps x.3, x.4, λ z. refl)
new_part first (Control v) ps next e h = absurd (none_some _ e.0)
new_part first p ps next e h = absurd (none_some _ e)

pub kept_part : (p : Part) (ps : List Part) (next : Node) → PartLeads KeptWanted p next → Shape next ps → Shape KeptWanted (p ∷ ps)
kept_part (Named w) ps next e h =
    let x = at_node KeptBehind next ps e h in
    (w, x.0, x.1, before (Named w) (behind_commas name_parts x.0 ++ (Put Close ∷ behind_commas renewed_parts x.1)) ps x.2, x.3)
kept_part (Control v) ps next e h = absurd (none_some _ e.0)
kept_part p ps next e h = absurd (none_some _ e)

pub kept_behind : (p : Part) (ps : List Part) (next : Node) → PartLeads KeptBehind p next → Shape next ps → Shape KeptBehind (p ∷ ps)
kept_behind (Put Comma) ps next e h =
    let x = at_node KeptWanted next ps e h in
    (x.0 ∷ x.1, x.2, before (Put Comma) (Named x.0 ∷ (behind_commas name_parts x.1 ++ (Put Close ∷ behind_commas renewed_parts x.2))) ps x.3, x.4)
kept_behind (Put Close) ps next e h =
    let x = at_node NewEnd next ps e h in
    ([], x.0, before (Put Close) (behind_commas renewed_parts x.0) ps x.1, x.2)
kept_behind (Control v) ps next e h = absurd (none_some _ e.0)
kept_behind p ps next e h = absurd (none_some _ e)

pub new_end : (p : Part) (ps : List Part) (next : Node) → PartLeads NewEnd p next → Shape next ps → Shape NewEnd (p ∷ ps)
new_end (Put Comma) ps next e h =
    let x = at_node (NewWanted false) next ps e h in
    (x.0, next_item renewed_parts ps x.0 x.1 (x.3 refl), x.2)
new_end (Control v) ps next e h = absurd (none_some _ e.0)
new_end p ps next e h = absurd (none_some _ e)
