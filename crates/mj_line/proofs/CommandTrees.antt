-- What stands from the places of calls, jumps and locks on is of their shape, and the parts of a command are those of one tree.
use Rattle.std.proofs.Common.{◌≡◌, zero, suc, List, [], ◌∷◌, ◌++◌, refl, ap, sym, ◌∙◌, Bool, true, false, append_assoc, Option, Some, None, map, inl, inr}
use Rattle.mj_ast.specs.declared.sign.Sign.TheVariants.{Plus, Minus, Comma, Colon, Caret, Open, Close}
use Rattle.mj_ast.specs.declared.keyword.Keyword.{Keyword}
use Rattle.mj_ast.specs.declared.keyword.Keyword.TheVariants as keyword
use Rattle.mj_ast.specs.declared.keyword.Verb.TheVariants.{Of}
use Rattle.mj_ast.specs.declared.routine.LockMode.TheVariants.{Whole, Plus as Added, Minus as Taken}
use Rattle.mj_ast.specs.Syntax.{Expr, Called, Jumped, Started, Command, Set, Write, Halt, Hang, Job, Lock, Kill, Merge, If, Else, For, Forever, Do, Goto, Quit, New, OpenDevice, UseDevice, CloseDevice, Read, TStart, TCommit, TRestart, TRollback, Break}
use Rattle.mj_ast.specs.Commands.{Part, Put, Named, Label, Text, Place, Control, with_commas, behind_commas, routine_parts, actual_parts, as_called, jumped_parts, started_parts, variable_parts, locked_parts, is_local, is_bare, is_called, is_jumped, is_started, assignment_parts, command_parts, keyword_for, has_items, every, are_targets, is_assignment, is_formed}
use Rattle.mj_line.specs.Forms.{Mode, Calls, Jumps, Starts, Node, SetTarget, PieceOpens, PieceVariable, PieceComma, PieceText, PieceBehind, SetBehind, SetValue, SetEnd, Writes, Reads, OutputWanted, OutputEnd, MarksEnd, ColumnWanted, CodeWanted, IntoWanted, IntoEnd, IntoTimed, DeviceWanted, DeviceEnd, DeviceColon, DeviceTimed, DeviceWaited, KillWanted, NameWanted, NameBehind, KillEnd, MergeInto, MergeBehind, MergeFrom, MergeEnd, ValueWanted, ValueEnd, ForWanted, ForBehind, RangeWanted, RangeEnd, StepWanted, StepEnd, LimitWanted, LimitEnd, NewWanted, KeptWanted, KeptBehind, NewEnd, EntryWanted, LabelEnd, RoutineWanted, RoutineEnd, ActualWanted, ActualEnd, ActualsEnd, WaitColon, GuardWanted, GuardEnd, LockWanted, LockSigned, LockListed, LockBehind, LockNamed, LockTimed, LockEnd, RestartWanted, RestoredOpens, RestoredWanted, RestoredBehind, RestoredEnd, SerialWanted, SerialInside, SerialBehind, SerialEnd, actuals_at, colon_at, first_node, may_be_bare, PartLeads, PartsFit, IsForm, ResultWanted, ResultEnd}
use Rattle.mj_line.proofs.Tables.{none_some}
use Rattle.mj_line.proofs.Restartables.{restart_part, restored_part, restored_behind, restored_end, serial_part, serial_inside, serial_behind, serial_end}
use Rattle.mj_line.proofs.Restartables as restart
use Rattle.mj_line.proofs.Formed.{is_speech}
use Rattle.mj_line.proofs.FormedCalls.{Plainly, entered_parts, as_entered, jumps, starts}
use Rattle.mj_line.proofs.Shapes.{false_true, both, first_of, second_of, Acted, Shape, at_node, text_node, place_node, text_wrong, place_wrong, local_text, local_place, before, text_zero, text_one, place_zero, assignment_at, next_item, others_guard, guard_acted, comma_others, colon_guard, open_acted, entries_at, timed_comma, timed_colon, naming_one, naming_several, locks_at}
use Rattle.mj_line.proofs.Trees.{shape_end, target_part, listed_part, opens_part, variable_part, comma_part, text_part, last_part, piece_part, behind_part, listed_behind, value_part, set_part, write_part, read_part, output_end, marks_end, column_part, code_part, star_part, received_end, received_timed, device_part, device_end, device_colon, device_timed, device_waited, kill_part, name_part, name_behind, kill_end, into_part, into_behind, from_part, merge_end, value_list_part, value_list_end, for_part, for_behind, range_part, range_end, step_part, step_end, limit_part, limit_end, new_part, kept_part, kept_behind, new_end, result_part, result_end}

entry_part : (mode : Mode) (first : Bool) (p : Part) (ps : List Part) (next : Node) → PartLeads (EntryWanted mode first) p next → Shape next ps → Shape (EntryWanted mode first) (p ∷ ps)
entry_part mode first (Label l) ps next e h =
    let x = at_node (LabelEnd mode) next ps e h in
    let y = entries_at mode (Some l) x.0 x.1 (Label l ∷ ps) (before (Label l) (routine_parts x.0 ++ x.1) ps x.2) refl x.3 in
    (y.0, λ z. y.1)
entry_part mode first (Put Caret) ps next e h =
    let x = at_node (RoutineWanted mode) next ps e h in
    let y = entries_at mode None (Some x.0) x.1 (Put Caret ∷ ps) (before (Put Caret) (Named x.0 ∷ x.1) ps x.2) refl x.3 in
    (y.0, λ z. y.1)
entry_part mode first (Control v) ps next e h = absurd (none_some _ e.0)
entry_part mode first p ps next e h = absurd (none_some _ e)

actuals_open : (mode : Mode) (ps : List Part) (next : Node) → actuals_at mode ≡ Some next → Shape next ps → Acted mode (Put Open ∷ ps)
actuals_open Calls ps next e h = open_acted Calls ps (λ xs. tt) (at_node (ActualWanted Calls) next ps e h)
actuals_open Jumps ps next e h = absurd (none_some _ e)
actuals_open Starts ps next e h = open_acted Starts ps (λ xs. tt) (at_node (ActualWanted Starts) next ps e h)

routine_end : (mode : Mode) (p : Part) (ps : List Part) (next : Node) → PartLeads (RoutineEnd mode) p next → Shape next ps → Shape (RoutineEnd mode) (p ∷ ps)
routine_end mode (Put Open) ps next e h = actuals_open mode ps next e h
routine_end mode (Put Colon) ps next e h = guard_acted mode (Put Colon ∷ ps) (colon_guard mode ps (at_node (colon_at mode) next ps e h))
routine_end mode (Put Comma) ps next e h = guard_acted mode (Put Comma ∷ ps) (others_guard mode (Put Comma ∷ ps) (comma_others mode ps (at_node (EntryWanted mode false) next ps e h)))
routine_end mode (Control v) ps next e h = absurd (none_some _ e.0)
routine_end mode p ps next e h = absurd (none_some _ e)

label_end : (mode : Mode) (p : Part) (ps : List Part) (next : Node) → PartLeads (LabelEnd mode) p next → Shape next ps → Shape (LabelEnd mode) (p ∷ ps)
label_end mode (Put Caret) ps next e h =
    let x = at_node (RoutineWanted mode) next ps e h in
    (Some x.0, x.1, before (Put Caret) (Named x.0 ∷ x.1) ps x.2, x.3)
label_end mode (Put Open) ps next e h = (None, Put Open ∷ ps, refl, actuals_open mode ps next e h)
label_end mode (Put Colon) ps next e h = (None, Put Colon ∷ ps, refl, guard_acted mode (Put Colon ∷ ps) (colon_guard mode ps (at_node (colon_at mode) next ps e h)))
label_end mode (Put Comma) ps next e h = (
  None,
  Put Comma ∷ ps,
  refl,
  guard_acted mode (Put Comma ∷ ps) (others_guard mode (Put Comma ∷ ps) (comma_others mode ps (at_node (EntryWanted mode false) next ps e h))),
)
label_end mode (Control v) ps next e h = absurd (none_some _ e.0)
label_end mode p ps next e h = absurd (none_some _ e)

routine_part : (mode : Mode) (p : Part) (ps : List Part) (next : Node) → PartLeads (RoutineWanted mode) p next → Shape next ps → Shape (RoutineWanted mode) (p ∷ ps)
routine_part mode (Named w) ps next e h = (w, ps, refl, at_node (RoutineEnd mode) next ps e h)
routine_part mode (Control v) ps next e h = absurd (none_some _ e.0)
routine_part mode p ps next e h = absurd (none_some _ e)

actual_part : (mode : Mode) (p : Part) (ps : List Part) (next : Node) → PartLeads (ActualWanted mode) p next → Shape next ps → Shape (ActualWanted mode) (p ∷ ps)
actual_part mode (Text l v) ps next e h =
    let x = text_node 1 l (ActualEnd mode) next ps e h in
    let c = x.0 in
    (Some v, c.0, c.1, text_one l v (behind_commas actual_parts c.0 ++ Put Close ∷ c.1) ps x.1 c.2, c.3)
actual_part mode (Put Comma) ps next e h =
    let x = at_node (ActualWanted mode) next ps e h in (
      None,
      x.0 ∷ x.1,
      x.2,
      before (Put Comma) ((actual_parts x.0 ++ behind_commas actual_parts x.1) ++ Put Close ∷
          x.2) ps (append_assoc (actual_parts x.0) (behind_commas actual_parts x.1) (Put Close ∷ x.2) ∙ x.3),
      x.4,
    )
actual_part mode (Put Close) ps next e h = (None, [], ps, refl, at_node (ActualsEnd mode) next ps e h)
actual_part mode (Place l x) ps next e h = absurd (place_wrong e)
actual_part mode (Control v) ps next e h = absurd (local_text e.0)
actual_part mode p ps next e h = absurd (none_some _ e)

actual_end : (mode : Mode) (p : Part) (ps : List Part) (next : Node) → PartLeads (ActualEnd mode) p next → Shape next ps → Shape (ActualEnd mode) (p ∷ ps)
actual_end mode (Put Comma) ps next e h =
    let x = at_node (ActualWanted mode) next ps e h in (
      x.0 ∷ x.1,
      x.2,
      before (Put Comma) ((actual_parts x.0 ++ behind_commas actual_parts x.1) ++ Put Close ∷
          x.2) ps (append_assoc (actual_parts x.0) (behind_commas actual_parts x.1) (Put Close ∷ x.2) ∙ x.3),
      x.4,
    )
actual_end mode (Put Close) ps next e h = ([], ps, refl, at_node (ActualsEnd mode) next ps e h)
actual_end mode (Control v) ps next e h = absurd (none_some _ e.0)
actual_end mode p ps next e h = absurd (none_some _ e)

actuals_end : (mode : Mode) (p : Part) (ps : List Part) (next : Node) → PartLeads (ActualsEnd mode) p next → Shape next ps → Shape (ActualsEnd mode) (p ∷ ps)
actuals_end mode (Put Colon) ps next e h = colon_guard mode ps (at_node (colon_at mode) next ps e h)
actuals_end mode (Put Comma) ps next e h = others_guard mode (Put Comma ∷ ps) (comma_others mode ps (at_node (EntryWanted mode false) next ps e h))
actuals_end mode (Control v) ps next e h = absurd (none_some _ e.0)
actuals_end mode p ps next e h = absurd (none_some _ e)

guard_part : (mode : Mode) (p : Part) (ps : List Part) (next : Node) → PartLeads (GuardWanted mode) p next → Shape next ps → Shape (GuardWanted mode) (p ∷ ps)
guard_part mode (Text l v) ps next e h = let x = text_node 0 l (GuardEnd mode) next ps e h in (v, ps, text_zero l v ps ps x.1 refl, x.0)
guard_part mode (Place l x) ps next e h = absurd (place_wrong e)
guard_part mode (Control v) ps next e h = absurd (local_text e.0)
guard_part mode p ps next e h = absurd (none_some _ e)

guard_end : (mode : Mode) (p : Part) (ps : List Part) (next : Node) → PartLeads (GuardEnd mode) p next → Shape next ps → Shape (GuardEnd mode) (p ∷ ps)
guard_end mode (Put Comma) ps next e h = comma_others mode ps (at_node (EntryWanted mode false) next ps e h)
guard_end mode (Control v) ps next e h = absurd (none_some _ e.0)
guard_end mode p ps next e h = absurd (none_some _ e)

wait_part : (p : Part) (ps : List Part) (next : Node) → PartLeads WaitColon p next → Shape next ps → Shape WaitColon (p ∷ ps)
wait_part (Put Colon) ps next e h = let x = at_node (GuardWanted Starts) next ps e h in (x.0, x.1, before (Put Colon) (Text 0 x.0 ∷ x.1) ps x.2, x.3)
wait_part (Control v) ps next e h = absurd (none_some _ e.0)
wait_part p ps next e h = absurd (none_some _ e)

lock_part : (first : Bool) (p : Part) (ps : List Part) (next : Node) → PartLeads (LockWanted first) p next → Shape next ps → Shape (LockWanted first) (p ∷ ps)
lock_part first (Place l v) ps next e h = let x = place_node 0 l LockNamed next ps e h in locks_at first Whole (Place l v ∷ ps) (Place l v ∷ ps) refl (naming_one l v ps x.1 x.0)
lock_part first (Put Open) ps next e h = locks_at first Whole (Put Open ∷ ps) (Put Open ∷ ps) refl (naming_several ps (at_node LockListed next ps e h))
lock_part first (Put Plus) ps next e h = locks_at first Added ps (Put Plus ∷ ps) refl (at_node LockSigned next ps e h)
lock_part first (Put Minus) ps next e h = locks_at first Taken ps (Put Minus ∷ ps) refl (at_node LockSigned next ps e h)
lock_part first (Text l x) ps next e h = absurd (text_wrong e)
lock_part first (Control v) ps next e h = absurd (local_place e.0)
lock_part first p ps next e h = absurd (none_some _ e)

signed_part : (p : Part) (ps : List Part) (next : Node) → PartLeads LockSigned p next → Shape next ps → Shape LockSigned (p ∷ ps)
signed_part (Place l v) ps next e h = let x = place_node 0 l LockNamed next ps e h in naming_one l v ps x.1 x.0
signed_part (Put Open) ps next e h = naming_several ps (at_node LockListed next ps e h)
signed_part (Text l x) ps next e h = absurd (text_wrong e)
signed_part (Control v) ps next e h = absurd (local_place e.0)
signed_part p ps next e h = absurd (none_some _ e)

lock_listed : (p : Part) (ps : List Part) (next : Node) → PartLeads LockListed p next → Shape next ps → Shape LockListed (p ∷ ps)
lock_listed (Place l v) ps next e h =
    let x = place_node 0 l LockBehind next ps e h in
    let c = x.0 in
    (v, c.0, c.1, place_zero l v (behind_commas variable_parts c.0 ++ Put Close ∷ c.1) ps x.1 c.2, c.3)
lock_listed (Text l x) ps next e h = absurd (text_wrong e)
lock_listed (Control v) ps next e h = absurd (local_place e.0)
lock_listed p ps next e h = absurd (none_some _ e)

lock_behind : (p : Part) (ps : List Part) (next : Node) → PartLeads LockBehind p next → Shape next ps → Shape LockBehind (p ∷ ps)
lock_behind (Put Comma) ps next e h =
    let x = at_node LockListed next ps e h in
    (x.0 ∷ x.1, x.2, before (Put Comma) (Place 0 x.0 ∷ (behind_commas variable_parts x.1 ++ Put Close ∷ x.2)) ps x.3, x.4)
lock_behind (Put Close) ps next e h = ([], ps, refl, at_node LockNamed next ps e h)
lock_behind (Control v) ps next e h = absurd (none_some _ e.0)
lock_behind p ps next e h = absurd (none_some _ e)

lock_named : (p : Part) (ps : List Part) (next : Node) → PartLeads LockNamed p next → Shape next ps → Shape LockNamed (p ∷ ps)
lock_named (Put Colon) ps next e h = timed_colon ps (at_node LockTimed next ps e h)
lock_named (Put Comma) ps next e h = timed_comma ps (at_node (LockWanted false) next ps e h)
lock_named (Control v) ps next e h = absurd (none_some _ e.0)
lock_named p ps next e h = absurd (none_some _ e)

lock_timed : (p : Part) (ps : List Part) (next : Node) → PartLeads LockTimed p next → Shape next ps → Shape LockTimed (p ∷ ps)
lock_timed (Text l v) ps next e h =
    let x = text_node 0 l LockEnd next ps e h in
    let c = x.0 in
    (v, c.0, text_zero l v (behind_commas locked_parts c.0) ps x.1 c.1, c.2)
lock_timed (Place l x) ps next e h = absurd (place_wrong e)
lock_timed (Control v) ps next e h = absurd (local_text e.0)
lock_timed p ps next e h = absurd (none_some _ e)

lock_end : (p : Part) (ps : List Part) (next : Node) → PartLeads LockEnd p next → Shape next ps → Shape LockEnd (p ∷ ps)
lock_end (Put Comma) ps next e h =
    let x = at_node (LockWanted false) next ps e h in
    (x.0, next_item locked_parts ps x.0 x.1 (x.3 refl), x.2)
lock_end (Control v) ps next e h = absurd (none_some _ e.0)
lock_end p ps next e h = absurd (none_some _ e)

shape_part : (n : Node) (p : Part) (ps : List Part) (next : Node) → PartLeads n p next → Shape next ps → Shape n (p ∷ ps)
shape_part (SetTarget false) p ps next e h = target_part p ps next e h
shape_part (SetTarget true) p ps next e h = listed_part p ps next e h
shape_part (PieceOpens listed) p ps next e h = opens_part listed p ps next e h
shape_part (PieceVariable listed) p ps next e h = variable_part listed p ps next e h
shape_part (PieceComma listed) p ps next e h = comma_part listed p ps next e h
shape_part (PieceText listed more) p ps next e h = text_part listed more p ps next e h
shape_part (PieceBehind listed zero) p ps next e h = last_part listed p ps next e h
shape_part (PieceBehind listed (suc more)) p ps next e h = piece_part listed more p ps next e h
shape_part (SetBehind false) p ps next e h = behind_part p ps next e h
shape_part (SetBehind true) p ps next e h = listed_behind p ps next e h
shape_part SetValue p ps next e h = value_part p ps next e h
shape_part SetEnd p ps next e h = set_part p ps next e h
shape_part (OutputWanted Writes) p ps next e h = write_part p ps next e h
shape_part (OutputWanted Reads) p ps next e h = read_part p ps next e h
shape_part (OutputEnd talk) p ps next e h = output_end talk p ps next e h
shape_part (MarksEnd talk) p ps next e h = marks_end talk p ps next e h
shape_part (ColumnWanted talk) p ps next e h = column_part talk p ps next e h
shape_part CodeWanted p ps next e h = code_part p ps next e h
shape_part IntoWanted p ps next e h = star_part p ps next e h
shape_part IntoEnd p ps next e h = received_end p ps next e h
shape_part IntoTimed p ps next e h = received_timed p ps next e h
shape_part DeviceWanted p ps next e h = device_part p ps next e h
shape_part DeviceEnd p ps next e h = device_end p ps next e h
shape_part DeviceColon p ps next e h = device_colon p ps next e h
shape_part DeviceTimed p ps next e h = device_timed p ps next e h
shape_part DeviceWaited p ps next e h = device_waited p ps next e h
shape_part (KillWanted first) p ps next e h = kill_part first p ps next e h
shape_part NameWanted p ps next e h = name_part p ps next e h
shape_part NameBehind p ps next e h = name_behind p ps next e h
shape_part KillEnd p ps next e h = kill_end p ps next e h
shape_part MergeInto p ps next e h = into_part p ps next e h
shape_part MergeBehind p ps next e h = into_behind p ps next e h
shape_part MergeFrom p ps next e h = from_part p ps next e h
shape_part MergeEnd p ps next e h = merge_end p ps next e h
shape_part (ValueWanted optional) p ps next e h = value_list_part optional p ps next e h
shape_part ValueEnd p ps next e h = value_list_end p ps next e h
shape_part ResultWanted p ps next e h = result_part p ps next e h
shape_part ResultEnd p ps next e h = result_end p ps next e h
shape_part ForWanted p ps next e h = for_part p ps next e h
shape_part ForBehind p ps next e h = for_behind p ps next e h
shape_part RangeWanted p ps next e h = range_part p ps next e h
shape_part RangeEnd p ps next e h = range_end p ps next e h
shape_part StepWanted p ps next e h = step_part p ps next e h
shape_part StepEnd p ps next e h = step_end p ps next e h
shape_part LimitWanted p ps next e h = limit_part p ps next e h
shape_part LimitEnd p ps next e h = limit_end p ps next e h
shape_part (NewWanted first) p ps next e h = new_part first p ps next e h
shape_part KeptWanted p ps next e h = kept_part p ps next e h
shape_part KeptBehind p ps next e h = kept_behind p ps next e h
shape_part NewEnd p ps next e h = new_end p ps next e h
shape_part (EntryWanted mode first) p ps next e h = entry_part mode first p ps next e h
shape_part (LabelEnd mode) p ps next e h = label_end mode p ps next e h
shape_part (RoutineWanted mode) p ps next e h = routine_part mode p ps next e h
shape_part (RoutineEnd mode) p ps next e h = routine_end mode p ps next e h
shape_part (ActualWanted mode) p ps next e h = actual_part mode p ps next e h
shape_part (ActualEnd mode) p ps next e h = actual_end mode p ps next e h
shape_part (ActualsEnd mode) p ps next e h = actuals_end mode p ps next e h
shape_part WaitColon p ps next e h = wait_part p ps next e h
shape_part (GuardWanted mode) p ps next e h = guard_part mode p ps next e h
shape_part (GuardEnd mode) p ps next e h = guard_end mode p ps next e h
shape_part (LockWanted first) p ps next e h = lock_part first p ps next e h
shape_part LockSigned p ps next e h = signed_part p ps next e h
shape_part LockListed p ps next e h = lock_listed p ps next e h
shape_part LockBehind p ps next e h = lock_behind p ps next e h
shape_part LockNamed p ps next e h = lock_named p ps next e h
shape_part LockTimed p ps next e h = lock_timed p ps next e h
shape_part LockEnd p ps next e h = lock_end p ps next e h
shape_part RestartWanted p ps next e h = restart_part p ps next e h
shape_part RestoredOpens p ps next e h = restart.opens_part p ps next e h
shape_part RestoredWanted p ps next e h = restored_part p ps next e h
shape_part RestoredBehind p ps next e h = restored_behind p ps next e h
shape_part RestoredEnd p ps next e h = restored_end p ps next e h
shape_part SerialWanted p ps next e h = serial_part p ps next e h
shape_part SerialInside p ps next e h = serial_inside p ps next e h
shape_part SerialBehind p ps next e h = serial_behind p ps next e h
shape_part SerialEnd p ps next e h = serial_end p ps next e h

shape : (ps : List Part) (n : Node) → PartsFit n ps → Shape n ps
shape [] n f = shape_end n f
shape (p ∷ ps) n f = shape_part n p ps f.0 f.1 (shape ps f.0 f.2)

-- a command of these parts
pub record Made (k : Keyword) (ps : List Part) : Type 0 where
  pub command : Command
  pub formed : is_formed command ≡ true
  pub named : keyword_for command ≡ k
  pub parts : command_parts command ≡ ps

-- calls without actuals as jumps
abbrev as_jumped : Called → Jumped
as_jumped c = record { target = c.target; condition = c.condition }

jumped_items : (xs : List Called) → has_items (map as_jumped xs) ≡ has_items xs
jumped_items [] = refl
jumped_items (x ∷ xs) = refl

jumped_formed : (xs : List Called) → every is_called xs ≡ true → every is_jumped (map as_jumped xs) ≡ true
jumped_formed [] h = refl
jumped_formed (x ∷ xs) h = both (is_called x) (every is_jumped (map as_jumped xs)) (first_of (is_called x) (every is_called xs) h) (jumped_formed xs (second_of (is_called x) (every is_called xs) h))

bare_nil : (list : List (Option Expr)) → is_bare list ≡ true → [] ≡ list
bare_nil [] h = refl
bare_nil (a ∷ list) h = false_true h

jumped_back : (xs : List Called) → Plainly Jumps xs → map as_called (map as_jumped xs) ≡ xs
jumped_back [] h = refl
jumped_back (x ∷ xs) h =
    ap (λ (list : List (Option Expr)). let c : Called = record { target = x.target; actuals = list; condition = x.condition } in c ∷
    map as_called (map as_jumped xs)) (bare_nil x.actuals (first_of (is_bare x.actuals) (every (λ c. is_bare c.actuals) xs) h))
    ∙ ap (λ (cs : List Called). x ∷ cs) (jumped_back xs (second_of (is_bare x.actuals) (every (λ c. is_bare c.actuals) xs) h))

jumped_with : (js : List Jumped) → with_commas jumped_parts js ≡ with_commas (entered_parts Jumps) (map as_called js)
jumped_with [] = refl
jumped_with (j ∷ js) = ap (λ (ps : List Part). jumped_parts j ++ ps) (jumps js)

-- calls with a timeout as starts
abbrev as_started : Called → Started
as_started c = record { target = c.target; actuals = c.actuals; timeout = c.condition }

started_items : (xs : List Called) → has_items (map as_started xs) ≡ has_items xs
started_items [] = refl
started_items (x ∷ xs) = refl

started_formed : (xs : List Called) → every is_called xs ≡ true → every is_started (map as_started xs) ≡ true
started_formed [] h = refl
started_formed (x ∷ xs) h = both (is_called x) (every is_started (map as_started xs)) (first_of (is_called x) (every is_called xs) h)
    (started_formed xs (second_of (is_called x) (every is_called xs) h))

started_back : (xs : List Called) → map as_entered (map as_started xs) ≡ xs
started_back [] = refl
started_back (x ∷ xs) = ap (λ (cs : List Called). x ∷ cs) (started_back xs)

started_with : (list : List Started) → with_commas started_parts list ≡ with_commas (entered_parts Starts) (map as_entered list)
started_with [] = refl
started_with (x ∷ list) = ap (λ (ps : List Part). started_parts x ++ ps) (starts list)

some_bare : (k : Keyword) → may_be_bare (Of k) ≡ true → Made k []
some_bare keyword.Set e = false_true e
some_bare keyword.Write e = false_true e
some_bare keyword.Halt e = record { command = Halt; formed = refl; named = refl; parts = refl }
some_bare keyword.Hang e = false_true e
some_bare keyword.Job e = false_true e
some_bare keyword.Lock e = record { command = Lock []; formed = refl; named = refl; parts = refl }
some_bare keyword.Kill e = record { command = Kill []; formed = refl; named = refl; parts = refl }
some_bare keyword.Merge e = false_true e
some_bare keyword.If e = record { command = If []; formed = refl; named = refl; parts = refl }
some_bare keyword.Else e = record { command = Else; formed = refl; named = refl; parts = refl }
some_bare keyword.For e = record { command = Forever; formed = refl; named = refl; parts = refl }
some_bare keyword.Do e = record { command = Do []; formed = refl; named = refl; parts = refl }
some_bare keyword.Goto e = false_true e
some_bare keyword.Quit e = record { command = Quit None; formed = refl; named = refl; parts = refl }
some_bare keyword.New e = record { command = New []; formed = refl; named = refl; parts = refl }
some_bare keyword.Open e = false_true e
some_bare keyword.Use e = false_true e
some_bare keyword.Close e = false_true e
some_bare keyword.Read e = false_true e
some_bare keyword.TStart e = record { command = TStart None; formed = refl; named = refl; parts = refl }
some_bare keyword.TCommit e = record { command = TCommit; formed = refl; named = refl; parts = refl }
some_bare keyword.TRestart e = record { command = TRestart; formed = refl; named = refl; parts = refl }
some_bare keyword.TRollback e = record { command = TRollback; formed = refl; named = refl; parts = refl }
some_bare keyword.Break e = record { command = Break; formed = refl; named = refl; parts = refl }

for_made : (ps : List Part) → Shape ForWanted ps → Made keyword.For ps
for_made ps (inl e) = record { command = Forever; formed = refl; named = refl; parts = sym e }
for_made ps (inr x) = record { command = For x.0 (x.1 ∷ x.2); formed = both (is_local x.0) true x.4 refl; named = refl; parts = x.3 }

some_made : (k : Keyword) (ps : List Part) (n : Node) → first_node (Of k) ≡ Some n → Shape n ps → Made k ps
some_made keyword.Set ps n e h =
    let x = at_node (SetTarget false) n ps e h in
    let a = x.4 in
    record {
      command = Set (record { targets = x.0; value = a.0 } ∷ a.1);
      formed = both (are_targets x.0) (every is_assignment a.1) x.3 a.3;
      named = refl;
      parts = assignment_at x.0 a.0 (behind_commas assignment_parts a.1) x.1 ps a.2 x.2;
    }
some_made keyword.Write ps n e h =
    let x = at_node (OutputWanted Writes) n ps e h in
    record { command = Write (x.0 ∷ x.1); formed = both (is_speech Writes x.0) (every (is_speech Writes) x.1) x.3 x.4; named = refl; parts = x.2 }
some_made keyword.Halt ps n e h = absurd (none_some n e)
some_made keyword.Hang ps n e h =
    let x = at_node (ValueWanted false) n ps e h in
    record { command = Hang x.0; formed = x.2 refl; named = refl; parts = x.1 }
some_made keyword.Job ps n e h =
    let x = at_node (EntryWanted Starts true) n ps e h in
    let xs = map as_started x.0.list in
    record {
      command = Job xs;
      formed = both (has_items xs) (every is_started xs) (started_items x.0.list ∙ x.1 refl) (started_formed x.0.list x.0.formed);
      named = refl;
      parts = started_with xs ∙ ap (λ (cs : List Called). with_commas (entered_parts Starts) cs) (started_back x.0.list) ∙ x.0.are;
    }
some_made keyword.Lock ps n e h =
    let x = at_node (LockWanted true) n ps e h in
    record { command = Lock x.0; formed = x.2; named = refl; parts = x.1 }
some_made keyword.If ps n e h =
    let x = at_node (ValueWanted true) n ps e h in
    record { command = If x.0; formed = refl; named = refl; parts = x.1 }
some_made keyword.Else ps n e h = absurd (none_some n e)
some_made keyword.For ps n e h = for_made ps (at_node ForWanted n ps e h)
some_made keyword.Do ps n e h =
    let x = at_node (EntryWanted Calls true) n ps e h in
    record { command = Do x.0.list; formed = x.0.formed; named = refl; parts = x.0.are }
some_made keyword.Goto ps n e h =
    let x = at_node (EntryWanted Jumps true) n ps e h in
    let js = map as_jumped x.0.list in
    record {
      command = Goto js;
      formed = both (has_items js) (every is_jumped js) (jumped_items x.0.list ∙ x.1 refl) (jumped_formed x.0.list x.0.formed);
      named = refl;
      parts = jumped_with js ∙ ap (λ (cs : List Called). with_commas (entered_parts Jumps) cs) (jumped_back x.0.list x.0.plain) ∙ x.0.are;
    }
some_made keyword.Quit ps n e h =
    let x = at_node ResultWanted n ps e h in
    record { command = Quit x.0; formed = refl; named = refl; parts = x.1 }
some_made keyword.New ps n e h =
    let x = at_node (NewWanted true) n ps e h in
    record { command = New x.0; formed = x.2; named = refl; parts = x.1 }
some_made keyword.Open ps n e h =
    let x = at_node DeviceWanted n ps e h in
    record { command = OpenDevice (x.0 ∷ x.1); formed = refl; named = refl; parts = x.2 }
some_made keyword.Use ps n e h =
    let x = at_node (ValueWanted false) n ps e h in
    record { command = UseDevice x.0; formed = x.2 refl; named = refl; parts = x.1 }
some_made keyword.Close ps n e h =
    let x = at_node (ValueWanted false) n ps e h in
    record { command = CloseDevice x.0; formed = x.2 refl; named = refl; parts = x.1 }
some_made keyword.Read ps n e h =
    let x = at_node (OutputWanted Reads) n ps e h in
    record { command = Read (x.0 ∷ x.1); formed = both (is_speech Reads x.0) (every (is_speech Reads) x.1) x.3 x.4; named = refl; parts = x.2 }
some_made keyword.TStart ps n e h =
    let x = at_node RestartWanted n ps e h in
    record { command = TStart x.0; formed = refl; named = refl; parts = x.1 }
some_made keyword.TCommit ps n e h = absurd (none_some n e)
some_made keyword.TRestart ps n e h = absurd (none_some n e)
some_made keyword.TRollback ps n e h = absurd (none_some n e)
some_made keyword.Break ps n e h = absurd (none_some n e)
some_made keyword.Kill ps n e h =
    let x = at_node (KillWanted true) n ps e h in
    record { command = Kill x.0; formed = x.2; named = refl; parts = x.1 }
some_made keyword.Merge ps n e h =
    let x = at_node MergeInto n ps e h in
    record { command = Merge (x.0 ∷ x.1); formed = refl; named = refl; parts = x.2 }

-- FORM
pub made : (k : Keyword) (ps : List Part) → IsForm (Of k) ps → Made k ps
made k [] f = some_bare k f
made k (p ∷ ps) f = some_made k (p ∷ ps) f.0 f.1 (shape (p ∷ ps) f.0 f.2)
