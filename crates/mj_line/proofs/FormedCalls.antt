-- Calls, jumps, locks and whole commands have parts of the table.
use Rattle.std.proofs.Common.{◌≡◌, ℕ, List, [], ◌∷◌, ◌++◌, refl, ap, sym, ◌∙◌, subst, Bool, true, false, append_assoc, Option, Some, None, map}
use Rattle.std.specs.Prelude.{◌||◌}
use Rattle.mj_ast.specs.declared.sign.Sign.TheVariants.{Plus, Minus, Star, Question, Equals, Comma, Colon, Caret, Open, Close}
use Rattle.mj_ast.specs.declared.routine.FormatMark.{FormatMark}
use Rattle.mj_ast.specs.declared.keyword.Keyword.{Keyword}
use Rattle.mj_ast.specs.declared.keyword.Keyword.TheVariants as keyword
use Rattle.mj_ast.specs.declared.keyword.Verb.{Verb}
use Rattle.mj_ast.specs.declared.keyword.Verb.TheVariants.{Of, HaltOrHang}
use Rattle.mj_ast.specs.declared.routine.LockMode.{LockMode}
use Rattle.mj_ast.specs.declared.routine.ReadMode.{ReadMode}
use Rattle.mj_ast.specs.declared.routine.ReadMode.TheVariants.{Line, Byte}
use Rattle.mj_ast.specs.declared.routine.LockMode.TheVariants.{Whole, Plus as Added, Minus as Taken}
use Rattle.mj_ast.specs.Syntax.{Expr, Variable, Destination, Plain, Pieces, Targets, One, Several, Assignment, Killed, Gone, Spared, Output, Shown, Format, Coded, Input, Prompted, Arranged, Into, Called, Jumped, Started, LockNames, Lone, Together, Locked, Renewed, Fresh, Kept, Restored, Alone, Listed, Everything, Command, Set, Write, Halt, Hang, Job, Lock, Kill, Merge, If, Else, For, Forever, Do, Goto, Quit, New, OpenDevice, UseDevice, CloseDevice, Read, TStart, TCommit, TRestart, TRollback, Break}
use Rattle.mj_ast.specs.Commands.{Part, Put, Named, Label, SerialWord, PieceCall, Prompt, Text, Place, Control, restored_parts, serial_parts, meant, behind_commas, entry_parts, target_parts, guard_parts, actual_parts, actuals_parts, called_parts, as_called, jumped_parts, wait_parts, started_parts, mode_parts, variable_parts, lock_names_parts, locked_parts, renewed_parts, is_local, is_bare, is_entry, is_called, is_jumped, is_started, are_lock_names, is_locked, is_renewed, destination_parts, targets_parts, assignment_parts, mark_part, column_parts, output_parts, read_mode_parts, input_parts, killed_parts, command_parts, keyword_for, every, is_assignment, has_items, is_there, is_output, is_input, is_killed, is_formed}
use Rattle.mj_line.specs.Forms.{Mode, Calls, Jumps, Starts, Node, SetTarget, Writes, Reads, OutputWanted, DeviceWanted, DeviceEnd, KillWanted, MergeInto, MergeBehind, MergeFrom, MergeEnd, ValueWanted, ValueEnd, ForWanted, ForBehind, RangeWanted, NewWanted, EntryWanted, LabelEnd, RoutineWanted, RoutineEnd, ActualWanted, ActualEnd, ActualsEnd, WaitColon, GuardWanted, GuardEnd, LockWanted, LockSigned, LockListed, LockBehind, LockNamed, LockTimed, LockEnd, RestartWanted, actuals_at, colon_at, takes, ends, first_node, AVar, wants, PartLeads, PartsFit, IsForm, ResultWanted, ResultEnd}
use Rattle.mj_line.proofs.Tables.{none_some, some_same}
use Rattle.mj_line.proofs.Formed.{false_true, first_of, both, second_of, assignment_fits, assignments_fit, output_fits, input_fits, speeches_fit, wait_fits, devices_fit, killed_fits, kills_fit, merges_fit, ifs_fit, range_fits, ranges_fit, renewed_fits, news_fit, serial_fits, restored_fits}

-- ---- calls and jumps

-- jumps have no actuals
abbrev pub Plainly : Mode → List Called → Type 0
Plainly Calls xs = Unit {0}
Plainly Jumps xs = every (λ c. is_bare c.actuals) xs ≡ true
Plainly Starts xs = Unit {0}

abbrev pub PlainOne : Mode → List (Option Expr) → Type 0
PlainOne Calls list = Unit {0}
PlainOne Jumps list = is_bare list ≡ true
PlainOne Starts list = Unit {0}

-- what stands behind an entry and its actuals: a condition, or a timeout
abbrev pub guards_of : Mode → Option Expr → List Part
guards_of Calls c = guard_parts c
guards_of Jumps c = guard_parts c
guards_of Starts c = wait_parts c

-- a start is spelled as a call, but for its timeout
abbrev pub entered_parts : Mode → Called → List Part
entered_parts mode c = target_parts c.target ++ (actuals_parts c.actuals ++ guards_of mode c.condition)

pub entered_cut : (mode : Mode) (c : Called) (r : List Part) → entered_parts mode c ++ r ≡ target_parts c.target ++ (actuals_parts c.actuals ++ (guards_of mode c.condition ++ r))
entered_cut mode c r =
    append_assoc (target_parts c.target) (actuals_parts c.actuals ++ guards_of mode c.condition) r
    ∙ ap (λ (ps : List Part). target_parts c.target ++ ps) (append_assoc (actuals_parts c.actuals) (guards_of mode c.condition) r)

-- D ++ B ++ close ++ rest
pub three : (d b : List Part) (z : Part) (rest : List Part) → ((d ++ b) ++ z ∷ []) ++ rest ≡ d ++ (b ++ z ∷ rest)
three d b z rest = append_assoc (d ++ b) (z ∷ []) rest ∙ append_assoc d b (z ∷ rest)

-- where an argument may end
record Parting (mode : Mode) (n : Node) : Type 0 where
  ends_here : ends n ≡ true
  comma : takes n (Put Comma) ≡ Some (EntryWanted mode false)

-- what follows arguments, at each place where one may end
abbrev Tail : Mode → List Part → Type 0
Tail mode rest = (n : Node) → Parting mode n → PartsFit n rest

colon_fits : (mode : Mode) (n : Node) (x : Expr) (rest : List Part) → takes n (Put Colon) ≡ Some (colon_at mode) → PartsFit (GuardEnd mode) rest → PartsFit n (guards_of mode (Some x) ++ rest)
colon_fits Calls n x rest e f = (GuardWanted Calls, e, (GuardEnd Calls, refl, f))
colon_fits Jumps n x rest e f = (GuardWanted Jumps, e, (GuardEnd Jumps, refl, f))
colon_fits Starts n x rest e f = (WaitColon, e, (GuardWanted Starts, refl, (GuardEnd Starts, refl, f)))

pub bare_guard : (mode : Mode) (rest : List Part) → guards_of mode None ++ rest ≡ rest
bare_guard Calls rest = refl
bare_guard Jumps rest = refl
bare_guard Starts rest = refl

guard_fits : (mode : Mode) (n : Node) (c : Option Expr) (rest : List Part) → Parting mode n → takes n (Put Colon) ≡ Some (colon_at mode) → Tail mode rest → PartsFit n (guards_of mode c ++ rest)
guard_fits mode n None rest p e tail = let P : List Part → Type 0 = λ ps. PartsFit n ps in subst P (sym (bare_guard mode rest)) (tail n p)
guard_fits mode n (Some x) rest p e tail = colon_fits mode n x rest e (tail (GuardEnd mode) (record { ends_here = refl; comma = refl }))

-- actuals behind one, and behind a comma
record Actuals (mode : Mode) (list : List (Option Expr)) (rest : List Part) : Type 0 where
  wanted : PartsFit (ActualWanted mode) (behind_commas actual_parts list ++ Put Close ∷ rest)
  ended : PartsFit (ActualEnd mode) (behind_commas actual_parts list ++ Put Close ∷ rest)

actual_fits : (mode : Mode) (a : Option Expr) (ps : List Part) → PartsFit (ActualWanted mode) ps → PartsFit (ActualEnd mode) ps → PartsFit (ActualWanted mode) (actual_parts a ++ ps)
actual_fits mode None ps w e = w
actual_fits mode (Some x) ps w e = (ActualEnd mode, refl, e)

actuals_fit : (mode : Mode) (list : List (Option Expr)) (rest : List Part) → PartsFit (ActualsEnd mode) rest → Actuals mode list rest
actuals_fit mode [] rest f = record { wanted = (ActualsEnd mode, refl, f); ended = (ActualsEnd mode, refl, f) }
actuals_fit mode (a ∷ list) rest f =
    let r = actuals_fit mode list rest f in
    let P : List Part → Type 0 = λ ps. PartsFit (ActualWanted mode) ps in
    let h = subst P (sym (append_assoc (actual_parts a) (behind_commas actual_parts list) (Put Close ∷ rest)))
    (actual_fits mode a (behind_commas actual_parts list ++ Put Close ∷ rest) r.wanted r.ended) in
    record { wanted = (ActualWanted mode, refl, h); ended = (ActualWanted mode, refl, h) }

opened_fits : (mode : Mode) (n : Node) (a : Option Expr) (list : List (Option Expr)) (c : Option Expr) (rest : List Part) →
    takes n (Put Open) ≡ Some (ActualWanted mode) → Tail mode rest → PartsFit n (actuals_parts (a ∷ list) ++ (guards_of mode c ++ rest))
opened_fits mode n a list c rest o tail =
    let x = guards_of mode c ++ rest in
    let r = actuals_fit mode list x (guard_fits mode (ActualsEnd mode) c rest (record { ends_here = refl; comma = refl }) refl tail) in
    let P : List Part → Type 0 = λ ps. PartsFit n (Put Open ∷ ps) in
    subst P (sym (three (actual_parts a) (behind_commas actual_parts list) (Put Close) x)) (
      ActualWanted mode,
      o,
      actual_fits mode a (behind_commas actual_parts list ++ Put Close ∷ x) r.wanted r.ended,
    )

acted_fits : (mode : Mode) (n : Node) (list : List (Option Expr)) (c : Option Expr) (rest : List Part) → Parting mode n →
    takes n (Put Colon) ≡ Some (colon_at mode) → takes n (Put Open) ≡ actuals_at mode → PlainOne mode list → Tail mode rest →
    PartsFit n (actuals_parts list ++ (guards_of mode c ++ rest))
acted_fits mode n [] c rest p e o i tail = guard_fits mode n c rest p e tail
acted_fits Jumps n (a ∷ list) c rest p e o i tail = false_true i
acted_fits Calls n (a ∷ list) c rest p e o i tail = opened_fits Calls n a list c rest o tail
acted_fits Starts n (a ∷ list) c rest p e o i tail = opened_fits Starts n a list c rest o tail

entry_fits : (mode : Mode) (first : Bool) (l r : Option (List ℕ)) (rest : List Part) → is_entry l r ≡ true → PartsFit (LabelEnd mode) rest →
    PartsFit (RoutineEnd mode) rest → PartsFit (EntryWanted mode first) (entry_parts l r ++ rest)
entry_fits mode first None None rest h a b = false_true h
entry_fits mode first None (Some w) rest h a b = (RoutineWanted mode, refl, (RoutineEnd mode, refl, b))
entry_fits mode first (Some l) None rest h a b = (LabelEnd mode, refl, a)
entry_fits mode first (Some l) (Some w) rest h a b = (LabelEnd mode, refl, (RoutineWanted mode, refl, (RoutineEnd mode, refl, b)))

called_fits : (mode : Mode) (first : Bool) (x : Called) (rest : List Part) → is_called x ≡ true → PlainOne mode x.actuals → Tail mode rest →
    PartsFit (EntryWanted mode first) (entered_parts mode x ++ rest)
called_fits mode first x rest h i tail =
    let P : List Part → Type 0 = λ ps. PartsFit (EntryWanted mode first) ps in
    let q : Parting mode (LabelEnd mode) = record { ends_here = refl; comma = refl } in
    let p : Parting mode (RoutineEnd mode) = record { ends_here = refl; comma = refl } in
    subst P (sym (entered_cut mode x rest))
    (entry_fits mode first x.target.label x.target.routine (actuals_parts x.actuals ++ (guards_of mode x.condition ++ rest)) h
    (acted_fits mode (LabelEnd mode) x.actuals x.condition rest q refl refl i tail)
    (acted_fits mode (RoutineEnd mode) x.actuals x.condition rest p refl refl i tail))

plain_one : (mode : Mode) (x : Called) (xs : List Called) → Plainly mode (x ∷ xs) → PlainOne mode x.actuals
plain_one Calls x xs h = tt
plain_one Jumps x xs h = first_of (is_bare x.actuals) (every (λ c. is_bare c.actuals) xs) h
plain_one Starts x xs h = tt

plain_rest : (mode : Mode) (x : Called) (xs : List Called) → Plainly mode (x ∷ xs) → Plainly mode xs
plain_rest Calls x xs h = tt
plain_rest Jumps x xs h = second_of (is_bare x.actuals) (every (λ c. is_bare c.actuals) xs) h
plain_rest Starts x xs h = tt

calls_fit : (mode : Mode) (xs : List Called) → every is_called xs ≡ true → Plainly mode xs → Tail mode (behind_commas (entered_parts mode) xs)
calls_fit mode [] h i = λ n p. p.ends_here
calls_fit mode (x ∷ xs) h i =
    let tail = calls_fit mode xs (second_of (is_called x) (every is_called xs) h) (plain_rest mode x xs i) in
    λ n p. (EntryWanted mode false, p.comma, called_fits mode false x (behind_commas (entered_parts mode) xs) (first_of (is_called x) (every is_called xs) h) (plain_one mode x xs i) tail)

first_called : (mode : Mode) (x : Called) (xs : List Called) → every is_called (x ∷ xs) ≡ true → Plainly mode (x ∷ xs) →
    PartsFit (EntryWanted mode true) (entered_parts mode x ++ behind_commas (entered_parts mode) xs)
first_called mode x xs h i =
    called_fits mode true x (behind_commas (entered_parts mode) xs) (first_of (is_called x) (every is_called xs) h) (plain_one mode x xs i)
    (calls_fit mode xs (second_of (is_called x) (every is_called xs) h) (plain_rest mode x xs i))

-- jumps as calls
pub jumps : (js : List Jumped) → behind_commas jumped_parts js ≡ behind_commas called_parts (map as_called js)
jumps [] = refl
jumps (j ∷ js) = ap (λ (ps : List Part). Put Comma ∷ (jumped_parts j ++ ps)) (jumps js)

jumps_called : (js : List Jumped) → every is_jumped js ≡ true → every is_called (map as_called js) ≡ true
jumps_called [] h = refl
jumps_called (j ∷ js) h = both (is_jumped j) (every is_called (map as_called js)) (first_of (is_jumped j) (every is_jumped js) h) (jumps_called js (second_of (is_jumped j) (every is_jumped js) h))

jumps_plain : (js : List Jumped) → every (λ c. is_bare c.actuals) (map as_called js) ≡ true
jumps_plain [] = refl
jumps_plain (j ∷ js) = jumps_plain js

-- a start as it is spelled as a call
abbrev pub as_entered : Started → Called
as_entered s = record { target = s.target; actuals = s.actuals; condition = s.timeout }

pub starts : (list : List Started) → behind_commas started_parts list ≡ behind_commas (entered_parts Starts) (map as_entered list)
starts [] = refl
starts (x ∷ list) = ap (λ (ps : List Part). Put Comma ∷ (started_parts x ++ ps)) (starts list)

starts_called : (list : List Started) → every is_started list ≡ true → every is_called (map as_entered list) ≡ true
starts_called [] h = refl
starts_called (x ∷ list) h = both (is_started x) (every is_called (map as_entered list)) (first_of (is_started x) (every is_started list) h)
    (starts_called list (second_of (is_started x) (every is_started list) h))

-- ---- locks

pub locked_cut : (x : Locked) (r : List Part) → locked_parts x ++ r ≡ mode_parts x.mode ++ (lock_names_parts x.names ++ (guard_parts x.timeout ++ r))
locked_cut x r =
    append_assoc (mode_parts x.mode) (lock_names_parts x.names ++ guard_parts x.timeout) r
    ∙ ap (λ (ps : List Part). mode_parts x.mode ++ ps) (append_assoc (lock_names_parts x.names) (guard_parts x.timeout) r)

listed_names_fit : (vs : List Variable) (rest : List Part) → PartsFit LockNamed rest → PartsFit LockBehind (behind_commas variable_parts vs ++ Put Close ∷ rest)
listed_names_fit [] rest f = (LockNamed, refl, f)
listed_names_fit (v ∷ vs) rest f = (LockListed, refl, (LockBehind, refl, listed_names_fit vs rest f))

-- names of LOCK, where the place takes them
record TakesNames (n : Node) : Type 0 where
  one : wants n ≡ Some (AVar 0 LockNamed)
  several : takes n (Put Open) ≡ Some LockListed

lock_names_fit : (n : Node) (x : LockNames) (rest : List Part) → TakesNames n → are_lock_names x ≡ true → PartsFit LockNamed rest → PartsFit n (lock_names_parts x ++ rest)
lock_names_fit n (Lone v) rest t h f = (LockNamed, t.one, f)
lock_names_fit n (Together []) rest t h f = false_true h
lock_names_fit n (Together (v ∷ vs)) rest t h f =
    let P : List Part → Type 0 = λ ps. PartsFit n (Put Open ∷ ps) in
    subst P (sym (three (Place 0 v ∷ []) (behind_commas variable_parts vs) (Put Close) rest)) (LockListed, t.several, (LockBehind, refl, listed_names_fit vs rest f))

-- further arguments, where one may end
record Locks (list : List Locked) : Type 0 where
  named : PartsFit LockNamed (behind_commas locked_parts list)
  timed : PartsFit LockEnd (behind_commas locked_parts list)

timeout_fits : (c : Option Expr) (list : List Locked) → Locks list → PartsFit LockNamed (guard_parts c ++ behind_commas locked_parts list)
timeout_fits None list f = f.named
timeout_fits (Some e) list f = (LockTimed, refl, (LockEnd, refl, f.timed))

mode_fits : (first : Bool) (x : Locked) (ps : List Part) → ((n : Node) → TakesNames n → PartsFit n ps) → PartsFit (LockWanted first) (mode_parts x.mode ++ ps)
mode_fits first x ps f = by x.mode
  where
    by : (mode : LockMode) → PartsFit (LockWanted first) (mode_parts mode ++ ps)
    by Whole = f (LockWanted first) (record { one = refl; several = refl })
    by Added = (LockSigned, refl, f LockSigned (record { one = refl; several = refl }))
    by Taken = (LockSigned, refl, f LockSigned (record { one = refl; several = refl }))

locked_fits : (first : Bool) (x : Locked) (list : List Locked) → is_locked x ≡ true → Locks list → PartsFit (LockWanted first) (locked_parts x ++ behind_commas locked_parts list)
locked_fits first x list h f =
    let P : List Part → Type 0 = λ ps. PartsFit (LockWanted first) ps in
    let rest = guard_parts x.timeout ++ behind_commas locked_parts list in
    subst P (sym (locked_cut x (behind_commas locked_parts list))) (mode_fits first x (lock_names_parts x.names ++ rest) (λ n t. lock_names_fit n x.names rest t h (timeout_fits x.timeout list f)))

locks_fit : (list : List Locked) → every is_locked list ≡ true → Locks list
locks_fit [] h = record { named = refl; timed = refl }
locks_fit (x ∷ list) h =
    let f = locked_fits false x list (first_of (is_locked x) (every is_locked list) h) (locks_fit list (second_of (is_locked x) (every is_locked list) h)) in
    record { named = (LockWanted false, refl, f); timed = (LockWanted false, refl, f) }

-- the form, from where it begins
as_form : (k : Verb) (n : Node) (p : Part) (ps qs : List Part) → first_node k ≡ Some n → qs ≡ p ∷ ps → PartsFit n qs → IsForm k qs
as_form k n p ps qs e h f = let P : List Part → Type 0 = λ zs. IsForm k zs in let Q : List Part → Type 0 = λ zs. PartsFit n zs in subst P (sym h) (n, e, subst Q h f)

-- parts that aren't empty
abbrev pub IsSome : List Part → Type 0
IsSome qs = (p : Part) × (ps : List Part) × (qs ≡ p ∷ ps)

destination_some : (d : Destination) (rest : List Part) → IsSome (destination_parts d ++ rest)
destination_some (Plain v) rest = (Place 0 v, rest, refl)
destination_some (Pieces v es) rest = (PieceCall, _, refl)

targets_some : (t : Targets) (rest : List Part) → IsSome (targets_parts t ++ rest)
targets_some (One d) rest = destination_some d rest
targets_some (Several ds) rest = (Put Open, _, refl)

pub assignment_some : (a : Assignment) (rest : List Part) → IsSome (assignment_parts a ++ rest)
assignment_some a rest = let h = targets_some a.targets (Put Equals ∷ Text 0 a.value ∷ rest) in (h.0, h.1, append_assoc (targets_parts a.targets) (Put Equals ∷ Text 0 a.value ∷ []) rest ∙ h.2)

pub killed_some : (x : Killed) (rest : List Part) → IsSome (killed_parts x ++ rest)
killed_some (Gone v) rest = (Place 0 v, rest, refl)
killed_some (Spared ws) rest = (Put Open, _, refl)

layout_some : (marks : List FormatMark) (column : Option Expr) (rest : List Part) → has_items marks || is_there column ≡ true → IsSome ((map mark_part marks ++ column_parts column) ++ rest)
layout_some [] None rest h = false_true h
layout_some [] (Some e) rest h = (Put Question, _, refl)
layout_some (m ∷ ms) column rest h = (mark_part m, _, refl)

pub output_some : (x : Output) (rest : List Part) → is_output x ≡ true → IsSome (output_parts x ++ rest)
output_some (Shown e) rest h = (Text 0 e, rest, refl)
output_some (Format l) rest h = layout_some l.marks l.column rest h
output_some (Coded e) rest h = (Put Star, _, refl)

received_some : (mode : ReadMode) (v : Variable) (timeout : Option Expr) (rest : List Part) → IsSome ((read_mode_parts mode ++ Place 0 v ∷ guard_parts timeout) ++ rest)
received_some Line v timeout rest = (Place 0 v, _, refl)
received_some Byte v timeout rest = (Put Star, _, refl)

pub input_some : (x : Input) (rest : List Part) → is_input x ≡ true → IsSome (input_parts x ++ rest)
input_some (Prompted v) rest h = (Prompt v, rest, refl)
input_some (Arranged l) rest h = layout_some l.marks l.column rest h
input_some (Into r) rest h = received_some r.mode r.variable r.timeout rest

pub entry_some : (l v : Option (List ℕ)) (rest : List Part) → IsSome (entry_parts l v ++ rest)
entry_some None None rest = (Put Caret, rest, refl)
entry_some None (Some v) rest = (Put Caret, _, refl)
entry_some (Some l) v rest = (Label l, _, refl)

pub entered_some : (mode : Mode) (x : Called) (rest : List Part) → IsSome (entered_parts mode x ++ rest)
entered_some mode x rest = let h = entry_some x.target.label x.target.routine (actuals_parts x.actuals ++ (guards_of mode x.condition ++ rest)) in (h.0, h.1, entered_cut mode x rest ∙ h.2)

lock_names_some : (x : LockNames) (rest : List Part) → IsSome (lock_names_parts x ++ rest)
lock_names_some (Lone v) rest = (Place 0 v, rest, refl)
lock_names_some (Together vs) rest = (Put Open, _, refl)

mode_some : (mode : LockMode) (ps : List Part) → IsSome ps → IsSome (mode_parts mode ++ ps)
mode_some Whole ps h = h
mode_some Added ps h = (Put Plus, ps, refl)
mode_some Taken ps h = (Put Minus, ps, refl)

pub locked_some : (x : Locked) (rest : List Part) → IsSome (locked_parts x ++ rest)
locked_some x rest =
    let h = mode_some x.mode (lock_names_parts x.names ++ (guard_parts x.timeout ++ rest)) (lock_names_some x.names (guard_parts x.timeout ++ rest)) in
    (h.0, h.1, locked_cut x rest ∙ h.2)

pub renewed_some : (x : Renewed) (rest : List Part) → IsSome (renewed_parts x ++ rest)
renewed_some (Fresh w) rest = (Named w, _, refl)
renewed_some (Kept ws) rest = (Put Open, _, refl)

restored_some : (r : Restored) (rest : List Part) → IsSome (restored_parts r ++ rest)
restored_some (Alone w) rest = (Named w, rest, refl)
restored_some (Listed ws) rest = (Put Open, _, refl)
restored_some Everything rest = (Put Star, rest, refl)

-- TREES
own_form : (c : Command) → is_formed c ≡ true → IsForm (Of (keyword_for c)) (command_parts c)
own_form (Set []) h = false_true h
own_form (Set (a ∷ list)) h =
    let s = assignment_some a (behind_commas assignment_parts list) in
    as_form (Of keyword.Set) (SetTarget false) s.0 s.1 (assignment_parts a ++
    behind_commas assignment_parts list) refl s.2 (assignment_fits a (behind_commas assignment_parts list)
    (first_of (is_assignment a) (every is_assignment list) h) (assignments_fit list (second_of (is_assignment a) (every is_assignment list) h)))
own_form (Write []) h = false_true h
own_form (Write (x ∷ list)) h =
    let s = output_some x (behind_commas output_parts list) (first_of (is_output x) (every is_output list) h) in
    as_form (Of keyword.Write) (OutputWanted Writes) s.0 s.1 (output_parts x ++
    behind_commas output_parts list) refl s.2 (output_fits x (behind_commas output_parts list) (first_of (is_output x) (every is_output list) h)
    (speeches_fit Writes list (second_of (is_output x) (every is_output list) h)))
own_form Halt h = refl
own_form (Hang []) h = false_true h
own_form (Hang (x ∷ list)) h = (ValueWanted false, refl, (ValueEnd, refl, ifs_fit list))
own_form (Job []) h = false_true h
own_form (Job (x ∷ list)) h =
    let P : List Part → Type 0 = λ ps. IsForm (Of keyword.Job) (started_parts x ++ ps) in
    let s = entered_some Starts (as_entered x) (behind_commas (entered_parts Starts) (map as_entered list)) in
    subst P (sym (starts list))
    (as_form (Of keyword.Job) (EntryWanted Starts true) s.0 s.1 (entered_parts Starts (as_entered x) ++
    behind_commas (entered_parts Starts) (map as_entered list)) refl s.2
    (first_called Starts (as_entered x) (map as_entered list) (starts_called (x ∷ list) h) tt))
own_form (Lock []) h = refl
own_form (Lock (x ∷ list)) h =
    let s = locked_some x (behind_commas locked_parts list) in
    as_form (Of keyword.Lock) (LockWanted true) s.0 s.1 (locked_parts x ++
    behind_commas locked_parts list) refl s.2 (locked_fits true x list (first_of (is_locked x) (every is_locked list) h)
    (locks_fit list (second_of (is_locked x) (every is_locked list) h)))
own_form (Kill []) h = refl
own_form (Kill (x ∷ list)) h =
    let s = killed_some x (behind_commas killed_parts list) in
    as_form (Of keyword.Kill) (KillWanted true) s.0 s.1 (killed_parts x ++
    behind_commas killed_parts list) refl s.2 (killed_fits true x (behind_commas killed_parts list) (first_of (is_killed x) (every is_killed list) h)
    (kills_fit list (second_of (is_killed x) (every is_killed list) h)))
own_form (If []) h = refl
own_form (If (x ∷ list)) h = (ValueWanted true, refl, (ValueEnd, refl, ifs_fit list))
own_form Else h = refl
own_form (For v []) h = false_true (second_of (is_local v) false h)
own_form (For v (x ∷ list)) h = (ForWanted, refl, (ForBehind, (refl, first_of (is_local v) true h), (RangeWanted, refl, range_fits x list (ranges_fit list))))
own_form Forever h = refl
own_form (Do []) h = refl
own_form (Do (x ∷ list)) h =
    let s = entered_some Calls x (behind_commas called_parts list) in
    as_form (Of keyword.Do) (EntryWanted Calls true) s.0 s.1 (called_parts x ++ behind_commas called_parts list) refl s.2 (first_called Calls x list h tt)
own_form (Goto []) h = false_true h
own_form (Goto (x ∷ list)) h =
    let P : List Part → Type 0 = λ ps. IsForm (Of keyword.Goto) (jumped_parts x ++ ps) in
    let s = entered_some Jumps (as_called x) (behind_commas called_parts (map as_called list)) in
    subst P (sym (jumps list))
    (as_form (Of keyword.Goto) (EntryWanted Jumps true) s.0 s.1 (called_parts (as_called x) ++
    behind_commas called_parts (map as_called list)) refl s.2 (first_called Jumps (as_called x) (map as_called list) (jumps_called (x ∷ list) h)
    (jumps_plain (x ∷ list))))
own_form (Quit None) h = refl
own_form (Quit (Some e)) h = (ResultWanted, refl, (ResultEnd, refl, refl))
own_form (New []) h = refl
own_form (New (x ∷ list)) h =
    let s = renewed_some x (behind_commas renewed_parts list) in
    as_form (Of keyword.New) (NewWanted true) s.0 s.1 (renewed_parts x ++
    behind_commas renewed_parts list) refl s.2 (renewed_fits true x (behind_commas renewed_parts list) (first_of (is_renewed x) (every is_renewed list) h)
    (news_fit list (second_of (is_renewed x) (every is_renewed list) h)))
own_form (OpenDevice []) h = false_true h
own_form (OpenDevice (x ∷ list)) h = (DeviceWanted, refl, (DeviceEnd, refl, wait_fits x.timeout list (devices_fit list)))
own_form (UseDevice []) h = false_true h
own_form (UseDevice (x ∷ list)) h = (ValueWanted false, refl, (ValueEnd, refl, ifs_fit list))
own_form (CloseDevice []) h = false_true h
own_form (CloseDevice (x ∷ list)) h = (ValueWanted false, refl, (ValueEnd, refl, ifs_fit list))
own_form (Read []) h = false_true h
own_form (Read (x ∷ list)) h =
    let s = input_some x (behind_commas input_parts list) (first_of (is_input x) (every is_input list) h) in
    as_form (Of keyword.Read) (OutputWanted Reads) s.0 s.1 (input_parts x ++
    behind_commas input_parts list) refl s.2 (input_fits x (behind_commas input_parts list) (first_of (is_input x) (every is_input list) h)
    (speeches_fit Reads list (second_of (is_input x) (every is_input list) h)))
own_form (TStart None) h = refl
own_form (TStart (Some r)) h =
    let s = restored_some r.restored (serial_parts r.serial) in
    as_form (Of keyword.TStart) RestartWanted s.0 s.1 (restored_parts r.restored ++ serial_parts r.serial) refl s.2 (restored_fits r.restored (serial_parts r.serial) (serial_fits r.serial))
own_form TCommit h = refl
own_form TRestart h = refl
own_form TRollback h = refl
own_form Break h = refl
own_form (Merge []) h = false_true h
own_form (Merge (x ∷ list)) h = (MergeInto, refl, (MergeBehind, refl, (MergeFrom, refl, (MergeEnd, refl, merges_fit list))))

-- ---- a word and the command that it is

-- where an expression may be missing, and where not, the same goes on
value_goes : (p : Part) (next : Node) → PartLeads (ValueWanted false) p next → PartLeads (ValueWanted true) p next
value_goes (Put s) next e = absurd (none_some next e)
value_goes (Named w) next e = absurd (none_some next e)
value_goes (Label w) next e = absurd (none_some next e)
value_goes SerialWord next e = absurd (none_some next e)
value_goes PieceCall next e = absurd (none_some next e)
value_goes (Prompt v) next e = absurd (none_some next e)
value_goes (Text l x) next e = e
value_goes (Place l v) next e = e
value_goes (Control v) next e = e

value_back : (p : Part) (next : Node) → PartLeads (ValueWanted true) p next → PartLeads (ValueWanted false) p next
value_back (Put s) next e = absurd (none_some next e)
value_back (Named w) next e = absurd (none_some next e)
value_back (Label w) next e = absurd (none_some next e)
value_back SerialWord next e = absurd (none_some next e)
value_back PieceCall next e = absurd (none_some next e)
value_back (Prompt v) next e = absurd (none_some next e)
value_back (Text l x) next e = e
value_back (Place l v) next e = e
value_back (Control v) next e = e

hang_form : (p : Part) (ps : List Part) → IsForm (Of keyword.Hang) (p ∷ ps) → IsForm HaltOrHang (p ∷ ps)
hang_form p ps f = let P : Node → Type 0 = λ n. PartsFit n (p ∷ ps) in let h = subst P (sym (some_same (ValueWanted false) f.0 f.1)) f.2 in (ValueWanted true, refl, (h.0, value_goes p h.0 h.1, h.2))

form_hang : (p : Part) (ps : List Part) → IsForm HaltOrHang (p ∷ ps) → IsForm (Of keyword.Hang) (p ∷ ps)
form_hang p ps f = let P : Node → Type 0 = λ n. PartsFit n (p ∷ ps) in let h = subst P (sym (some_same (ValueWanted true) f.0 f.1)) f.2 in (ValueWanted false, refl, (h.0, value_back p h.0 h.1, h.2))

verb_form : (v : Verb) (ps : List Part) → IsForm (Of (meant v ps)) ps → IsForm v ps
verb_form (Of k) [] f = f
verb_form (Of k) (p ∷ ps) f = f
verb_form HaltOrHang [] f = refl
verb_form HaltOrHang (p ∷ ps) f = hang_form p ps f

pub form_verb : (v : Verb) (ps : List Part) → IsForm v ps → IsForm (Of (meant v ps)) ps
form_verb (Of k) [] f = f
form_verb (Of k) (p ∷ ps) f = f
form_verb HaltOrHang [] f = refl
form_verb HaltOrHang (p ∷ ps) f = form_hang p ps f

-- the arguments of a command are those of each word that leads to it
pub formed_form : (c : Command) (v : Verb) → is_formed c ≡ true → keyword_for c ≡ meant v (command_parts c) → IsForm v (command_parts c)
formed_form c v h e = let P : Keyword → Type 0 = λ k. IsForm (Of k) (command_parts c) in verb_form v (command_parts c) (subst P e (own_form c h))
