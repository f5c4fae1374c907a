-- What stands from each place of the table on, in the words of trees, and how a part goes before it.
use Rattle.std.proofs.Common.{◌≡◌, ℕ, ◌≤◌, nat_le, List, [], ◌∷◌, ◌++◌, refl, ap, sym, ◌∙◌, subst, Bool, true, false, append_assoc, arith, Option, Some, None, map, ◌⊎◌}
use Rattle.std.specs.Prelude.{◌&&◌, ◌||◌}
use Rattle.std.proofs.lemmas.Bool.Decides.{nat_tests}
use Rattle.mj_ast.specs.declared.sign.Sign.TheVariants.{Equals, Comma, Colon, Open, Close}
use Rattle.mj_ast.specs.declared.routine.FormatMark.{FormatMark}
use Rattle.mj_ast.specs.declared.routine.LockMode.{LockMode}
use Rattle.mj_ast.specs.declared.routine.Serial.{Serial}
use Rattle.mj_ast.specs.Syntax.{Expr, Exprs, Variable, Destination, Plain, Pieces, Targets, One, Several, Assignment, Killed, Spared, Merged, Layout, Format, Arranged, Opened, Called, Locked, LockNames, Lone, Together, Range, Renewed, Kept, Restartable}
use Rattle.mj_ast.specs.Expressions.{count}
use Rattle.mj_ast.specs.Commands.{Part, Put, Named, SerialWord, PieceCall, Text, serial_parts, restartable_parts, Place, Control, with_commas, behind_commas, value_parts, routine_parts, entry_parts, guard_parts, actual_parts, actuals_parts, mode_parts, variable_parts, lock_names_parts, locked_parts, range_parts, renewed_parts, is_local, is_bare, is_entry, is_called, are_lock_names, is_locked, is_renewed, more_parts, destination_parts, targets_parts, assignment_parts, mark_part, column_parts, layout_parts, wait_parts, opened_parts, name_parts, killed_parts, merged_parts, has_items, every, is_destination, are_targets, is_assignment, is_there, is_layout, is_killed, result_parts}
use Rattle.mj_line.specs.Forms.{Mode, Calls, Jumps, Starts, colon_at, is_optional, Node, SetTarget, PieceOpens, PieceVariable, PieceComma, PieceText, PieceBehind, SetBehind, SetValue, SetEnd, Talk, Writes, Reads, OutputWanted, OutputEnd, MarksEnd, ColumnWanted, CodeWanted, IntoWanted, IntoEnd, IntoTimed, DeviceWanted, DeviceEnd, DeviceColon, DeviceTimed, DeviceWaited, KillWanted, NameWanted, NameBehind, KillEnd, MergeInto, MergeBehind, MergeFrom, MergeEnd, ValueWanted, ValueEnd, ForWanted, ForBehind, RangeWanted, RangeEnd, StepWanted, StepEnd, LimitWanted, LimitEnd, NewWanted, KeptWanted, KeptBehind, NewEnd, EntryWanted, LabelEnd, RoutineWanted, RoutineEnd, ActualWanted, ActualEnd, ActualsEnd, WaitColon, GuardWanted, GuardEnd, LockWanted, LockSigned, LockListed, LockBehind, LockNamed, LockTimed, LockEnd, RestartWanted, RestoredOpens, RestoredWanted, RestoredBehind, RestoredEnd, SerialWanted, SerialInside, SerialBehind, SerialEnd, AnExpr, AVar, ALocal, ResultWanted, ResultEnd}
use Rattle.mj_line.proofs.Tables.{some_same}
use Rattle.mj_line.proofs.Formed.{Speech, speech_parts, is_speech}
use Rattle.mj_line.proofs.FormedCalls.{Plainly, PlainOne, entered_parts, guards_of, entered_cut, bare_guard, locked_cut, three}

-- ---- tests

pub true_false : {A : Type 0} → true ≡ false → A
true_false e = absurd (let f : true ≡ false = e in cc)

pub false_true : {A : Type 0} → false ≡ true → A
false_true e = absurd (let f : false ≡ true = e in cc)

pub both : (a b : Bool) → a ≡ true → b ≡ true → a && b ≡ true
both true b e f = f
both false b e f = e

pub first_of : (a b : Bool) → a && b ≡ true → a ≡ true
first_of true b e = refl
first_of false b e = e

pub second_of : (a b : Bool) → a && b ≡ true → b ≡ true
second_of true b e = e
second_of false b e = false_true e

-- ---- the table has what trees have

-- what stands from a place on
abbrev pub After : Bool → List Part → Type 0
After false ps = (e : Expr) × (list : List Assignment) × (Put Equals ∷ Text 0 e ∷ behind_commas assignment_parts list ≡ ps) × (every is_assignment list ≡ true)
After true ps = (ds : List Destination) × (e : Expr) × (list : List Assignment) ×
    (behind_commas destination_parts ds ++ (Put Close ∷ Put Equals ∷ Text 0 e ∷ behind_commas assignment_parts list) ≡ ps) × (every is_destination ds ≡ true) ×
    (every is_assignment list ≡ true)

abbrev pub Aims : Bool → List Part → Type 0
Aims false ps = (t : Targets) × (rest : List Part) × (targets_parts t ++ rest ≡ ps) × (are_targets t ≡ true) × After false rest
Aims true ps = (d : Destination) × (rest : List Part) × (destination_parts d ++ rest ≡ ps) × (is_destination d ≡ true) × After true rest

-- further calls or jumps
pub record Others (mode : Mode) (ps : List Part) : Type 0 where
  pub others : List Called
  pub are : behind_commas (entered_parts mode) others ≡ ps
  pub formed : every is_called others ≡ true
  pub plain : Plainly mode others

-- a condition, if there is one, and they
pub record Guarded (mode : Mode) (ps : List Part) : Type 0 where
  pub condition : Option Expr
  pub others : List Called
  pub are : guards_of mode condition ++ behind_commas (entered_parts mode) others ≡ ps
  pub formed : every is_called others ≡ true
  pub plain : Plainly mode others

-- actuals, if there are some, and they
pub record Acted (mode : Mode) (ps : List Part) : Type 0 where
  pub actuals : List (Option Expr)
  pub condition : Option Expr
  pub others : List Called
  pub are : actuals_parts actuals ++ (guards_of mode condition ++ behind_commas (entered_parts mode) others) ≡ ps
  pub formed : every is_called others ≡ true
  pub plain : Plainly mode others
  pub bare : PlainOne mode actuals

-- calls or jumps
pub record Entries (mode : Mode) (ps : List Part) : Type 0 where
  pub list : List Called
  pub are : with_commas (entered_parts mode) list ≡ ps
  pub formed : every is_called list ≡ true
  pub plain : Plainly mode list

-- what follows the step of a range: its end, if it has one, and further ranges
abbrev pub limit_parts : Option Expr → List Part
limit_parts None = []
limit_parts (Some c) = Put Colon ∷ Text 0 c ∷ []

-- a step and that
abbrev pub step_parts : Option (Expr × Option Expr) → List Part
step_parts None = []
step_parts (Some x) = Put Colon ∷ Text 0 x.0 ∷ limit_parts x.1

-- a timeout of LOCK, if there is one, and further arguments
pub record Timed (ps : List Part) : Type 0 where
  pub timeout : Option Expr
  pub others : List Locked
  pub are : guard_parts timeout ++ behind_commas locked_parts others ≡ ps
  pub formed : every is_locked others ≡ true

-- names of LOCK, and they
pub record Naming (ps : List Part) : Type 0 where
  pub names : LockNames
  pub timeout : Option Expr
  pub others : List Locked
  pub are : lock_names_parts names ++ (guard_parts timeout ++ behind_commas locked_parts others) ≡ ps
  pub right : are_lock_names names ≡ true
  pub formed : every is_locked others ≡ true

abbrev pub Shape : Node → List Part → Type 0
Shape (SetTarget listed) ps = Aims listed ps
Shape (PieceOpens listed) ps = (v : Variable) × (es : Exprs) × (rest : List Part) × (Put Open ∷ Place 1 v ∷ (more_parts es ++ Put Close ∷ rest) ≡ ps) ×
    (1 ≤ count es) × (count es ≤ 3) × After listed rest
Shape (PieceVariable listed) ps = (v : Variable) × (es : Exprs) × (rest : List Part) × (Place 1 v ∷ (more_parts es ++ Put Close ∷ rest) ≡ ps) × (1 ≤ count es) × (count es ≤ 3) × After listed rest
Shape (PieceComma listed) ps = (es : Exprs) × (rest : List Part) × (more_parts es ++ Put Close ∷ rest ≡ ps) × (1 ≤ count es) × (count es ≤ 3) × After listed rest
Shape (PieceText listed more) ps = (e : Expr) × (es : Exprs) × (rest : List Part) × (Text 1 e ∷ (more_parts es ++ Put Close ∷ rest) ≡ ps) × (count es ≤ more) × After listed rest
Shape (PieceBehind listed more) ps = (es : Exprs) × (rest : List Part) × (more_parts es ++ Put Close ∷ rest ≡ ps) × (count es ≤ more) × After listed rest
Shape (SetBehind listed) ps = After listed ps
Shape SetValue ps = (e : Expr) × (list : List Assignment) × (Text 0 e ∷ behind_commas assignment_parts list ≡ ps) × (every is_assignment list ≡ true)
Shape SetEnd ps = (list : List Assignment) × (behind_commas assignment_parts list ≡ ps) × (every is_assignment list ≡ true)
Shape (OutputWanted talk) ps = (x : Speech talk) × (xs : List (Speech talk)) × (speech_parts talk x ++ behind_commas (speech_parts talk) xs ≡ ps) ×
    (is_speech talk x ≡ true) × (every (is_speech talk) xs ≡ true)
Shape (OutputEnd talk) ps = (xs : List (Speech talk)) × (behind_commas (speech_parts talk) xs ≡ ps) × (every (is_speech talk) xs ≡ true)
Shape (MarksEnd talk) ps = (marks : List FormatMark) × (column : Option Expr) × (xs : List (Speech talk)) ×
    (map mark_part marks ++ (column_parts column ++ behind_commas (speech_parts talk) xs) ≡ ps) × (every (is_speech talk) xs ≡ true)
Shape (ColumnWanted talk) ps = (e : Expr) × (xs : List (Speech talk)) × (Text 0 e ∷ behind_commas (speech_parts talk) xs ≡ ps) × (every (is_speech talk) xs ≡ true)
Shape CodeWanted ps = (e : Expr) × (xs : List (Speech Writes)) × (Text 0 e ∷ behind_commas (speech_parts Writes) xs ≡ ps) × (every (is_speech Writes) xs ≡ true)
Shape IntoWanted ps = (v : Variable) × (c : Option Expr) × (xs : List (Speech Reads)) ×
    (Place 0 v ∷ (guard_parts c ++ behind_commas (speech_parts Reads) xs) ≡ ps) × (every (is_speech Reads) xs ≡ true)
Shape IntoEnd ps = (c : Option Expr) × (xs : List (Speech Reads)) × (guard_parts c ++ behind_commas (speech_parts Reads) xs ≡ ps) × (every (is_speech Reads) xs ≡ true)
Shape IntoTimed ps = (e : Expr) × (xs : List (Speech Reads)) × (Text 0 e ∷ behind_commas (speech_parts Reads) xs ≡ ps) × (every (is_speech Reads) xs ≡ true)
Shape DeviceWanted ps = (x : Opened) × (xs : List Opened) × (opened_parts x ++ behind_commas opened_parts xs ≡ ps)
Shape DeviceEnd ps = (c : Option Expr) × (xs : List Opened) × (wait_parts c ++ behind_commas opened_parts xs ≡ ps)
Shape DeviceColon ps = (e : Expr) × (xs : List Opened) × (Put Colon ∷ Text 0 e ∷ behind_commas opened_parts xs ≡ ps)
Shape DeviceTimed ps = (e : Expr) × (xs : List Opened) × (Text 0 e ∷ behind_commas opened_parts xs ≡ ps)
Shape DeviceWaited ps = (xs : List Opened) × (behind_commas opened_parts xs ≡ ps)
Shape (KillWanted first) ps = (xs : List Killed) × (with_commas killed_parts xs ≡ ps) × (every is_killed xs ≡ true) × (first ≡ false → has_items xs ≡ true)
Shape NameWanted ps = (w : List ℕ) × (ws : List (List ℕ)) × (xs : List Killed) ×
    (Named w ∷ (behind_commas name_parts ws ++ (Put Close ∷ behind_commas killed_parts xs)) ≡ ps) × (every is_killed xs ≡ true)
Shape NameBehind ps = (ws : List (List ℕ)) × (xs : List Killed) × (behind_commas name_parts ws ++ (Put Close ∷ behind_commas killed_parts xs) ≡ ps) × (every is_killed xs ≡ true)
Shape KillEnd ps = (xs : List Killed) × (behind_commas killed_parts xs ≡ ps) × (every is_killed xs ≡ true)
Shape MergeInto ps = (x : Merged) × (xs : List Merged) × (merged_parts x ++ behind_commas merged_parts xs ≡ ps)
Shape MergeBehind ps = (v : Variable) × (xs : List Merged) × (Put Equals ∷ Place 0 v ∷ behind_commas merged_parts xs ≡ ps)
Shape MergeFrom ps = (v : Variable) × (xs : List Merged) × (Place 0 v ∷ behind_commas merged_parts xs ≡ ps)
Shape MergeEnd ps = (xs : List Merged) × (behind_commas merged_parts xs ≡ ps)
Shape (ValueWanted optional) ps = (xs : List Expr) × (with_commas value_parts xs ≡ ps) × (optional ≡ false → has_items xs ≡ true)
Shape ValueEnd ps = (xs : List Expr) × (behind_commas value_parts xs ≡ ps)
Shape ResultWanted ps = (v : Option Expr) × (result_parts v ≡ ps)
Shape ResultEnd ps = [] ≡ ps
Shape ForWanted ps = (ps ≡ []) ⊎ ((v : Variable) × (x : Range) × (xs : List Range) × (Control v ∷ Put Equals ∷ with_commas range_parts (x ∷ xs) ≡ ps) × (is_local v ≡ true))
Shape ForBehind ps = (x : Range) × (xs : List Range) × (Put Equals ∷ with_commas range_parts (x ∷ xs) ≡ ps)
Shape RangeWanted ps = (x : Range) × (xs : List Range) × (with_commas range_parts (x ∷ xs) ≡ ps)
Shape RangeEnd ps = (s : Option (Expr × Option Expr)) × (xs : List Range) × (step_parts s ++ behind_commas range_parts xs ≡ ps)
Shape StepWanted ps = (b : Expr) × (c : Option Expr) × (xs : List Range) × (Text 0 b ∷ (limit_parts c ++ behind_commas range_parts xs) ≡ ps)
Shape StepEnd ps = (c : Option Expr) × (xs : List Range) × (limit_parts c ++ behind_commas range_parts xs ≡ ps)
Shape LimitWanted ps = (c : Expr) × (xs : List Range) × (Text 0 c ∷ behind_commas range_parts xs ≡ ps)
Shape LimitEnd ps = (xs : List Range) × (behind_commas range_parts xs ≡ ps)
Shape (NewWanted first) ps = (xs : List Renewed) × (with_commas renewed_parts xs ≡ ps) × (every is_renewed xs ≡ true) × (first ≡ false → has_items xs ≡ true)
Shape KeptWanted ps = (w : List ℕ) × (ws : List (List ℕ)) × (xs : List Renewed) ×
    (Named w ∷ (behind_commas name_parts ws ++ (Put Close ∷ behind_commas renewed_parts xs)) ≡ ps) × (every is_renewed xs ≡ true)
Shape KeptBehind ps = (ws : List (List ℕ)) × (xs : List Renewed) × (behind_commas name_parts ws ++ (Put Close ∷ behind_commas renewed_parts xs) ≡ ps) × (every is_renewed xs ≡ true)
Shape NewEnd ps = (xs : List Renewed) × (behind_commas renewed_parts xs ≡ ps) × (every is_renewed xs ≡ true)
Shape (EntryWanted mode first) ps = (x : Entries mode ps) × (is_optional mode && first ≡ false → has_items x.list ≡ true)
Shape (LabelEnd mode) ps = (r : Option (List ℕ)) × (qs : List Part) × (routine_parts r ++ qs ≡ ps) × Acted mode qs
Shape (RoutineWanted mode) ps = (w : List ℕ) × (qs : List Part) × (Named w ∷ qs ≡ ps) × Acted mode qs
Shape (RoutineEnd mode) ps = Acted mode ps
Shape (ActualWanted mode) ps = (a : Option Expr) × (list : List (Option Expr)) × (qs : List Part) × (actual_parts a ++ (behind_commas actual_parts list ++ Put Close ∷ qs) ≡ ps) × Guarded mode qs
Shape (ActualEnd mode) ps = (list : List (Option Expr)) × (qs : List Part) × (behind_commas actual_parts list ++ Put Close ∷ qs ≡ ps) × Guarded mode qs
Shape (ActualsEnd mode) ps = Guarded mode ps
Shape WaitColon ps = (e : Expr) × (qs : List Part) × (Put Colon ∷ Text 0 e ∷ qs ≡ ps) × Others Starts qs
Shape (GuardWanted mode) ps = (e : Expr) × (qs : List Part) × (Text 0 e ∷ qs ≡ ps) × Others mode qs
Shape (GuardEnd mode) ps = Others mode ps
Shape (LockWanted first) ps = (xs : List Locked) × (with_commas locked_parts xs ≡ ps) × (every is_locked xs ≡ true) × (first ≡ false → has_items xs ≡ true)
Shape LockSigned ps = Naming ps
Shape LockListed ps = (v : Variable) × (vs : List Variable) × (qs : List Part) × (Place 0 v ∷ (behind_commas variable_parts vs ++ Put Close ∷ qs) ≡ ps) × Timed qs
Shape LockBehind ps = (vs : List Variable) × (qs : List Part) × (behind_commas variable_parts vs ++ Put Close ∷ qs ≡ ps) × Timed qs
Shape LockNamed ps = Timed ps
Shape LockTimed ps = (e : Expr) × (xs : List Locked) × (Text 0 e ∷ behind_commas locked_parts xs ≡ ps) × (every is_locked xs ≡ true)
Shape LockEnd ps = (xs : List Locked) × (behind_commas locked_parts xs ≡ ps) × (every is_locked xs ≡ true)
Shape RestartWanted ps = (a : Option Restartable) × (restartable_parts a ≡ ps)
Shape RestoredOpens ps = (ws : List (List ℕ)) × (s : Serial) × (with_commas name_parts ws ++ (Put Close ∷ serial_parts s) ≡ ps)
Shape RestoredWanted ps = (w : List ℕ) × (ws : List (List ℕ)) × (s : Serial) × (Named w ∷ (behind_commas name_parts ws ++ (Put Close ∷ serial_parts s)) ≡ ps)
Shape RestoredBehind ps = (ws : List (List ℕ)) × (s : Serial) × (behind_commas name_parts ws ++ (Put Close ∷ serial_parts s) ≡ ps)
Shape RestoredEnd ps = (s : Serial) × (serial_parts s ≡ ps)
Shape SerialWanted ps = (s : Serial) × (serial_parts s ≡ Put Colon ∷ ps)
Shape SerialInside ps = SerialWord ∷ Put Close ∷ [] ≡ ps
Shape SerialBehind ps = Put Close ∷ [] ≡ ps
Shape SerialEnd ps = [] ≡ ps

pub at_node : (n m : Node) (ps : List Part) → Some n ≡ Some m → Shape m ps → Shape n ps
at_node n m ps e h = let P : Node → Type 0 = λ x. Shape x ps in subst P (sym (some_same n m e)) h

-- behind a variable or an expression that stands there
pub text_node : (l k : ℕ) (n m : Node) (ps : List Part) → Some (AnExpr l n) ≡ Some (AnExpr k m) → Shape m ps → Shape n ps × (l ≡ k)
text_node l k n m ps e h = (let same : n ≡ m = cc in let P : Node → Type 0 = λ x. Shape x ps in subst P (sym same) h, let same : l ≡ k = cc in same)

pub place_node : (l k : ℕ) (n m : Node) (ps : List Part) → Some (AVar l n) ≡ Some (AVar k m) → Shape m ps → Shape n ps × (l ≡ k)
place_node l k n m ps e h = (let same : n ≡ m = cc in let P : Node → Type 0 = λ x. Shape x ps in subst P (sym same) h, let same : l ≡ k = cc in same)

pub local_node : (n m : Node) (ps : List Part) → Some (ALocal n) ≡ Some (ALocal m) → Shape m ps → Shape n ps
local_node n m ps e h = let same : n ≡ m = cc in let P : Node → Type 0 = λ x. Shape x ps in subst P (sym same) h

pub text_wrong : {l k : ℕ} {n m : Node} → Some (AVar l n) ≡ Some (AnExpr k m) → ⊥
text_wrong e = cc

pub place_wrong : {l k : ℕ} {n m : Node} → Some (AnExpr l n) ≡ Some (AVar k m) → ⊥
place_wrong e = cc

-- a local where another phrase is wanted, and the other way round
pub local_text : {l : ℕ} {n m : Node} → Some (AnExpr l n) ≡ Some (ALocal m) → ⊥
local_text e = cc

pub local_place : {l : ℕ} {n m : Node} → Some (AVar l n) ≡ Some (ALocal m) → ⊥
local_place e = cc

pub text_local : {l : ℕ} {n m : Node} → Some (ALocal n) ≡ Some (AnExpr l m) → ⊥
text_local e = cc

pub place_of_local : {l : ℕ} {n m : Node} → Some (ALocal n) ≡ Some (AVar l m) → ⊥
place_of_local e = cc

-- with a part before
pub before : (p : Part) (ps qs : List Part) → ps ≡ qs → p ∷ ps ≡ p ∷ qs
before p ps qs e = ap (λ (xs : List Part). p ∷ xs) e

pub text_zero : (l : ℕ) (e : Expr) (ps qs : List Part) → 0 ≡ l → ps ≡ qs → Text 0 e ∷ ps ≡ Text l e ∷ qs
text_zero l e ps qs z h = ap (λ (n : ℕ). Text n e ∷ ps) z ∙ before (Text l e) ps qs h

pub text_one : (l : ℕ) (e : Expr) (ps qs : List Part) → 1 ≡ l → ps ≡ qs → Text 1 e ∷ ps ≡ Text l e ∷ qs
text_one l e ps qs z h = ap (λ (n : ℕ). Text n e ∷ ps) z ∙ before (Text l e) ps qs h

pub place_zero : (l : ℕ) (v : Variable) (ps qs : List Part) → 0 ≡ l → ps ≡ qs → Place 0 v ∷ ps ≡ Place l v ∷ qs
place_zero l v ps qs z h = ap (λ (n : ℕ). Place n v ∷ ps) z ∙ before (Place l v) ps qs h

pub place_one : (l : ℕ) (v : Variable) (ps qs : List Part) → 1 ≡ l → ps ≡ qs → Place 1 v ∷ ps ≡ Place l v ∷ qs
place_one l v ps qs z h = ap (λ (n : ℕ). Place n v ∷ ps) z ∙ before (Place l v) ps qs h

-- a destination
pieces_are : (es : Exprs) → 1 ≤ count es → count es ≤ 3 → nat_le 1 (count es) && nat_le (count es) 3 ≡ true
pieces_are es l m = both (nat_le 1 (count es)) (nat_le (count es) 3) (grind (arith, nat_tests)) (grind (arith, nat_tests))

pieces_at : (v : Variable) (es : Exprs) (rest ps : List Part) → Put Open ∷ Place 1 v ∷ (more_parts es ++ Put Close ∷ rest) ≡ ps → destination_parts (Pieces v es) ++ rest ≡ PieceCall ∷ ps
pieces_at v es rest ps e =
    before PieceCall (Put Open ∷ Place 1 v ∷ ((more_parts es ++ Put Close ∷ []) ++ rest)) ps
    (before (Put Open) (Place 1 v ∷ ((more_parts es ++ Put Close ∷ []) ++ rest)) (Place 1 v ∷ (more_parts es ++ Put Close ∷ rest))
    (before (Place 1 v) ((more_parts es ++ Put Close ∷ []) ++ rest) (more_parts es ++ Put Close ∷ rest) (append_assoc (more_parts es) (Put Close ∷ []) rest)) ∙ e)

pub piece_aims : (listed : Bool) (ps : List Part) → Shape (PieceOpens listed) ps → Aims listed (PieceCall ∷ ps)
piece_aims false ps h = (One (Pieces h.0 h.1), h.2, pieces_at h.0 h.1 h.2 ps h.3, pieces_are h.1 h.4 h.5, h.6)
piece_aims true ps h = (Pieces h.0 h.1, h.2, pieces_at h.0 h.1 h.2 ps h.3, pieces_are h.1 h.4 h.5, h.6)

pub plain_aims : (listed : Bool) (l : ℕ) (v : Variable) (ps : List Part) → 0 ≡ l → After listed ps → Aims listed (Place l v ∷ ps)
plain_aims false l v ps z h = (One (Plain v), ps, place_zero l v ps ps z refl, refl, h)
plain_aims true l v ps z h = (Plain v, ps, place_zero l v ps ps z refl, refl, h)

pub several_aims : (ps : List Part) → Aims true ps → Aims false (Put Open ∷ ps)
several_aims ps h =
    let a = h.4 in
    let rest = Put Equals ∷ Text 0 a.1 ∷ behind_commas assignment_parts a.2 in (
      Several (h.0 ∷ a.0),
      rest,
      before (Put Open) (((destination_parts h.0 ++ behind_commas destination_parts a.0) ++ Put Close ∷ []) ++ rest) ps
          (three (destination_parts h.0) (behind_commas destination_parts a.0) (Put Close) rest ∙ ap (λ (xs : List Part). destination_parts h.0 ++ xs) a.3 ∙ h.2),
      both (is_destination h.0) (every is_destination a.0) h.3 a.4,
      (a.1, a.2, refl, a.5),
    )

pub more_aims : (ps : List Part) → Aims true ps → After true (Put Comma ∷ ps)
more_aims ps h =
    let a = h.4 in
    let rest = Put Close ∷ Put Equals ∷ Text 0 a.1 ∷ behind_commas assignment_parts a.2 in (
      h.0 ∷ a.0,
      a.1,
      a.2,
      before (Put Comma) ((destination_parts h.0 ++ behind_commas destination_parts a.0) ++ rest) ps
          (append_assoc (destination_parts h.0) (behind_commas destination_parts a.0) rest ∙ ap (λ (xs : List Part). destination_parts h.0 ++ xs) a.3 ∙ h.2),
      both (is_destination h.0) (every is_destination a.0) h.3 a.4,
      a.5,
    )

-- an assignment
pub assignment_at : (t : Targets) (e : Expr) (b rest ps : List Part) → Put Equals ∷ Text 0 e ∷ b ≡ rest → targets_parts t ++ rest ≡ ps → (targets_parts t ++ Put Equals ∷ Text 0 e ∷ []) ++ b ≡ ps
assignment_at t e b rest ps h i = append_assoc (targets_parts t) (Put Equals ∷ Text 0 e ∷ []) b ∙ ap (λ (xs : List Part). targets_parts t ++ xs) h ∙ i

pub next_kill : (ps : List Part) (xs : List Killed) → with_commas killed_parts xs ≡ ps → (false ≡ false → has_items xs ≡ true) → behind_commas killed_parts xs ≡ Put Comma ∷ ps
next_kill ps [] e h = false_true (h refl)
next_kill ps (x ∷ xs) e h = before (Put Comma) (killed_parts x ++ behind_commas killed_parts xs) ps e

pub spared_at : (w : List ℕ) (ws : List (List ℕ)) (rest ps : List Part) → Named w ∷ (behind_commas name_parts ws ++ (Put Close ∷ rest)) ≡ ps → killed_parts (Spared (w ∷ ws)) ++ rest ≡ Put Open ∷ ps
spared_at w ws rest ps e =
    before (Put Open) (Named w ∷ ((behind_commas name_parts ws ++ Put Close ∷ []) ++ rest)) ps
    (before (Named w) ((behind_commas name_parts ws ++ Put Close ∷ []) ++ rest) (behind_commas name_parts ws ++ Put Close ∷
    rest) (append_assoc (behind_commas name_parts ws) (Put Close ∷ []) rest) ∙ e)

-- with a comma before the first
pub next_item : {A : Type 0} (parts : A → List Part) (ps : List Part) (xs : List A) → with_commas parts xs ≡ ps → has_items xs ≡ true → behind_commas parts xs ≡ Put Comma ∷ ps
next_item parts ps [] e h = false_true h
next_item parts ps (x ∷ xs) e h = before (Put Comma) (parts x ++ behind_commas parts xs) ps e

pub kept_at : (w : List ℕ) (ws : List (List ℕ)) (rest ps : List Part) → Named w ∷ (behind_commas name_parts ws ++ (Put Close ∷ rest)) ≡ ps → renewed_parts (Kept (w ∷ ws)) ++ rest ≡ Put Open ∷ ps
kept_at w ws rest ps e = spared_at w ws rest ps e

-- ---- formats

-- a format as an argument
abbrev arranged : (talk : Talk) → Layout → Speech talk
arranged Writes l = Format l
arranged Reads l = Arranged l

arranged_parts : (talk : Talk) (l : Layout) → speech_parts talk (arranged talk l) ≡ layout_parts l
arranged_parts Writes l = refl
arranged_parts Reads l = refl

arranged_right : (talk : Talk) (l : Layout) → is_speech talk (arranged talk l) ≡ is_layout l
arranged_right Writes l = refl
arranged_right Reads l = refl

pub format_at : (talk : Talk) (marks : List FormatMark) (column : Option Expr) (xs : List (Speech talk)) (ps : List Part) →
    map mark_part marks ++ (column_parts column ++ behind_commas (speech_parts talk) xs) ≡ ps → has_items marks || is_there column ≡ true →
    every (is_speech talk) xs ≡ true → Shape (OutputWanted talk) ps
format_at talk marks column xs ps e h f =
    let l : Layout = record { marks = marks; column = column } in
    let rest = behind_commas (speech_parts talk) xs in
    (arranged talk l, xs, ap (λ (zs : List Part). zs ++ rest) (arranged_parts talk l) ∙ append_assoc (map mark_part marks) (column_parts column) rest ∙ e, arranged_right talk l ∙ h, f)

-- ---- calls and jumps

pub plain_none : (mode : Mode) → Plainly mode []
plain_none Calls = tt
plain_none Jumps = refl
plain_none Starts = tt

bare_none : (mode : Mode) → PlainOne mode []
bare_none Calls = tt
bare_none Jumps = refl
bare_none Starts = tt

plain_more : (mode : Mode) (c : Called) (xs : List Called) → PlainOne mode c.actuals → Plainly mode xs → Plainly mode (c ∷ xs)
plain_more Calls c xs h i = tt
plain_more Jumps c xs h i = both (is_bare c.actuals) (every (λ c. is_bare c.actuals) xs) h i
plain_more Starts c xs h i = tt

pub none_others : (mode : Mode) → Others mode []
none_others mode = record { others = []; are = refl; formed = refl; plain = plain_none mode }

pub others_guard : (mode : Mode) (ps : List Part) → Others mode ps → Guarded mode ps
others_guard mode ps h = record { condition = None; others = h.others; are = bare_guard mode (behind_commas (entered_parts mode) h.others) ∙ h.are; formed = h.formed; plain = h.plain }

pub guard_acted : (mode : Mode) (ps : List Part) → Guarded mode ps → Acted mode ps
guard_acted mode ps h = record { actuals = []; condition = h.condition; others = h.others; are = h.are; formed = h.formed; plain = h.plain; bare = bare_none mode }

and_false : (mode : Mode) → is_optional mode && false ≡ false
and_false Calls = refl
and_false Jumps = refl
and_false Starts = refl

pub comma_others : (mode : Mode) (ps : List Part) → Shape (EntryWanted mode false) ps → Others mode (Put Comma ∷ ps)
comma_others mode ps h = record { others = h.0.list; are = next_item (entered_parts mode) ps h.0.list h.0.are (h.1 (and_false mode)); formed = h.0.formed; plain = h.0.plain }

pub colon_guard : (mode : Mode) (ps : List Part) → Shape (colon_at mode) ps → Guarded mode (Put Colon ∷ ps)
colon_guard Calls ps h = record {
  condition = Some h.0;
  others = h.3.others;
  are = before (Put Colon) (Text 0 h.0 ∷ behind_commas (entered_parts Calls) h.3.others) ps (before (Text 0 h.0) (behind_commas (entered_parts Calls) h.3.others) h.1 h.3.are ∙ h.2);
  formed = h.3.formed;
  plain = h.3.plain;
}
colon_guard Jumps ps h = record {
  condition = Some h.0;
  others = h.3.others;
  are = before (Put Colon) (Text 0 h.0 ∷ behind_commas (entered_parts Jumps) h.3.others) ps (before (Text 0 h.0) (behind_commas (entered_parts Jumps) h.3.others) h.1 h.3.are ∙ h.2);
  formed = h.3.formed;
  plain = h.3.plain;
}
colon_guard Starts ps h = record {
  condition = Some h.0;
  others = h.3.others;
  are = before (Put Colon) (Put Colon ∷ Text 0 h.0 ∷ behind_commas (entered_parts Starts) h.3.others) ps
      (before (Put Colon) (Text 0 h.0 ∷ behind_commas (entered_parts Starts) h.3.others) (Text 0 h.0 ∷ h.1) (before (Text 0 h.0) (behind_commas (entered_parts Starts) h.3.others) h.1 h.3.are) ∙ h.2);
  formed = h.3.formed;
  plain = h.3.plain;
}

pub open_acted : (mode : Mode) (ps : List Part) → (list : (xs : List (Option Expr)) → PlainOne mode xs) → Shape (ActualWanted mode) ps → Acted mode (Put Open ∷ ps)
open_acted mode ps any h =
    let g = h.4 in
    let x = guards_of mode g.condition ++ behind_commas (entered_parts mode) g.others in
    record {
      actuals = h.0 ∷ h.1;
      condition = g.condition;
      others = g.others;
      are = before (Put Open) (((actual_parts h.0 ++ behind_commas actual_parts h.1) ++ Put Close ∷ []) ++ x) ps
          (three (actual_parts h.0) (behind_commas actual_parts h.1) (Put Close) x ∙ ap (λ (qs : List Part). actual_parts h.0 ++ (behind_commas actual_parts h.1 ++ Put Close ∷ qs)) g.are ∙ h.3);
      formed = g.formed;
      plain = g.plain;
      bare = any (h.0 ∷ h.1);
    }

pub entries_at : (mode : Mode) (l r : Option (List ℕ)) (qs ps : List Part) → entry_parts l r ++ qs ≡ ps → is_entry l r ≡ true → Acted mode qs → (x : Entries mode ps) × (has_items x.list ≡ true)
entries_at mode l r qs ps e i h =
    let c : Called = record { target = record { label = l; routine = r }; actuals = h.actuals; condition = h.condition } in (
      record {
        list = c ∷ h.others;
        are = entered_cut mode c (behind_commas (entered_parts mode) h.others) ∙ ap (λ (zs : List Part). entry_parts l r ++ zs) h.are ∙ e;
        formed = both (is_entry l r) (every is_called h.others) i h.formed;
        plain = plain_more mode c h.others h.bare h.plain;
      },
      refl,
    )

-- ---- locks

pub timed_none : Timed []
timed_none = record { timeout = None; others = []; are = refl; formed = refl }

pub timed_comma : (ps : List Part) → Shape (LockWanted false) ps → Timed (Put Comma ∷ ps)
timed_comma ps h = record { timeout = None; others = h.0; are = next_item locked_parts ps h.0 h.1 (h.3 refl); formed = h.2 }

pub timed_colon : (ps : List Part) → Shape LockTimed ps → Timed (Put Colon ∷ ps)
timed_colon ps h = record { timeout = Some h.0; others = h.1; are = before (Put Colon) (Text 0 h.0 ∷ behind_commas locked_parts h.1) ps h.2; formed = h.3 }

pub naming_one : (l : ℕ) (v : Variable) (ps : List Part) → 0 ≡ l → Timed ps → Naming (Place l v ∷ ps)
naming_one l v ps z h = record {
  names = Lone v;
  timeout = h.timeout;
  others = h.others;
  are =
      place_zero l v (guard_parts h.timeout ++ behind_commas locked_parts h.others) ps z h.are;
  right = refl;
  formed = h.formed;
}

pub naming_several : (ps : List Part) → Shape LockListed ps → Naming (Put Open ∷ ps)
naming_several ps h =
    let t = h.4 in
    let x = guard_parts t.timeout ++ behind_commas locked_parts t.others in
    record {
      names = Together (h.0 ∷ h.1);
      timeout = t.timeout;
      others = t.others;
      are = before (Put Open) (((Place 0 h.0 ∷ behind_commas variable_parts h.1) ++ Put Close ∷ []) ++ x) ps
          (three (Place 0 h.0 ∷ []) (behind_commas variable_parts h.1) (Put Close) x ∙ ap (λ (qs : List Part). Place 0 h.0 ∷ (behind_commas variable_parts h.1 ++ Put Close ∷ qs)) t.are ∙ h.3);
      right = refl;
      formed = t.formed;
    }

-- an argument of such a mode, with its names, and the others
pub locks_at : (first : Bool) (mode : LockMode) (qs ps : List Part) → mode_parts mode ++ qs ≡ ps → Naming qs → Shape (LockWanted first) ps
locks_at first mode qs ps e h =
    let x : Locked = record { mode = mode; names = h.names; timeout = h.timeout } in (
      x ∷ h.others,
      locked_cut x (behind_commas locked_parts h.others) ∙ ap (λ (zs : List Part). mode_parts mode ++ zs) h.are ∙ e,
      both (are_lock_names h.names) (every is_locked h.others) h.right h.formed,
      λ z. refl,
    )
