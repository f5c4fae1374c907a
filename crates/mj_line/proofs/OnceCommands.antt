-- No two commands have the same parts: what READ takes and devices, whole commands, the argument of TSTART.
use Rattle.std.proofs.Common.{◌≡◌, ℕ, Option, Some, None, List, [], ◌∷◌, ◌++◌, refl, ap, sym, ◌∙◌, subst, true, false, append_assoc, append-nil}
use Rattle.std.specs.Prelude.{◌&&◌}
use Rattle.mj_ast.specs.declared.sign.Sign.TheVariants.{Star, Equals, Colon, Open, Close}
use Rattle.mj_ast.specs.declared.keyword.Keyword.TheVariants as keyword
use Rattle.mj_ast.specs.declared.routine.ReadMode.{ReadMode}
use Rattle.mj_ast.specs.declared.routine.ReadMode.TheVariants.{Line, Byte}
use Rattle.mj_ast.specs.declared.routine.Serial.{Serial}
use Rattle.mj_ast.specs.declared.routine.Serial.TheVariants as serial
use Rattle.mj_ast.specs.Syntax.{Expr, Variable, Assignment, Killed, Merged, Output, Received, Input, Prompted, Arranged, Into, Opened, OpenDevice, UseDevice, CloseDevice, Read, Command, Called, Jumped, Started, Locked, Range, Single, Endless, UpTo, Renewed, Set, Write, Halt, Hang, Job, Lock, Kill, Merge, If, Else, For, Forever, Do, Goto, Quit, New, Restored, Alone, Listed, Everything, Restartable, TStart, TCommit, TRestart, TRollback, Break}
use Rattle.mj_ast.specs.Commands.{Part, Put, Named, SerialWord, Prompt, Text, Place, Control, restored_parts, serial_parts, restartable_parts, with_commas, behind_commas, assignment_parts, layout_parts, output_parts, read_mode_parts, input_parts, opened_parts, is_input, name_parts, killed_parts, merged_parts, value_parts, guard_parts, called_parts, as_called, jumped_parts, started_parts, locked_parts, range_parts, renewed_parts, command_parts, keyword_for, has_items, every, is_output, is_formed, result_parts}
use Rattle.mj_line.specs.Forms.{Calls, Jumps, Starts}
use Rattle.mj_line.proofs.Formed.{first_of}
use Rattle.mj_line.proofs.FormedCalls.{entered_some, as_entered, locked_some, renewed_some, assignment_some, killed_some, output_some, input_some, IsSome}
use Rattle.mj_line.proofs.Once.{tail_same, text_same, place_same, control_same, named_same, Same, IsTail, Tells, some_tell, merged_tells, assignment_tells, IsLaid, layout_laid, layout_tells, unlaid, output_tells, names_tell, value_tells, guard_tells, wait_tells, called_tells, started_tells, jumped_tells, range_tells, killed_tells, renewed_tells, locked_tells}

-- ---- what is read, and devices

prompt_same : {a b : List ℕ} {ps qs : List Part} → Prompt a ∷ ps ≡ Prompt b ∷ qs → a ≡ b
prompt_same e = cc

-- what is read begins with a variable or a `*`
abbrev IsTaken : List Part → Type 0
IsTaken (Place l v ∷ ps) = Unit {0}
IsTaken (Put Star ∷ ps) = Unit {0}
IsTaken ps = ⊥

abbrev taken_parts : ReadMode → Variable → Option Expr → List Part
taken_parts mode v c = read_mode_parts mode ++ Place 0 v ∷ guard_parts c

is_taken : (mode : ReadMode) (v : Variable) (c : Option Expr) (r : List Part) → IsTaken (taken_parts mode v c ++ r)
is_taken Line v c r = tt
is_taken Byte v c r = tt

untaken : {A : Type 0} (ps qs : List Part) → (IsTaken ps → ⊥) → IsTaken qs → ps ≡ qs → A
untaken ps qs n h e = absurd (n (subst IsTaken (sym e) h))

laid_untaken : (ps : List Part) → IsLaid ps → IsTaken ps → ⊥
laid_untaken [] h i = i
laid_untaken (Put Star ∷ ps) h i = h
laid_untaken (Place l v ∷ ps) h i = h
laid_untaken (p ∷ ps) h i = i

-- a variable and a timeout tell which they are
timed_tell : (v w : Variable) (c d : Option Expr) (r s : List Part) → IsTail r → IsTail s → Place 0 v ∷ (guard_parts c ++ r) ≡ Place 0 w ∷ (guard_parts d ++ s) → (v ≡ w) × (c ≡ d) × (r ≡ s)
timed_tell v w c d r s h i e = let a = guard_tells c d r s h i (tail_same e) in (place_same e, a.0, a.1)

taken_tell : (m n : ReadMode) (v w : Variable) (c d : Option Expr) (r s : List Part) → IsTail r → IsTail s → taken_parts m v c ++ r ≡ taken_parts n w d ++ s → (m ≡ n) × (v ≡ w) × (c ≡ d) × (r ≡ s)
taken_tell Line Line v w c d r s h i e = let a = timed_tell v w c d r s h i e in (refl, a.0, a.1, a.2)
taken_tell Line Byte v w c d r s h i e = absurd (let f : Place 0 v ∷ (guard_parts c ++ r) ≡ Put Star ∷ Place 0 w ∷ (guard_parts d ++ s) = e in cc)
taken_tell Byte Line v w c d r s h i e = absurd (let f : Put Star ∷ Place 0 v ∷ (guard_parts c ++ r) ≡ Place 0 w ∷ (guard_parts d ++ s) = e in cc)
taken_tell Byte Byte v w c d r s h i e = let a = timed_tell v w c d r s h i (tail_same e) in (refl, a.0, a.1, a.2)

received_made : (a b : Received) → a.mode ≡ b.mode → a.variable ≡ b.variable → a.timeout ≡ b.timeout → a ≡ b
received_made a b e f g =
    ap (λ (m : ReadMode). let c : Received = record { mode = m; variable = a.variable; timeout = a.timeout } in c) e
    ∙ ap (λ (v : Variable). let c : Received = record { mode = b.mode; variable = v; timeout = a.timeout } in c) f
    ∙ ap (λ (x : Option Expr). let c : Received = record { mode = b.mode; variable = b.variable; timeout = x } in c) g

input_tells : Tells input_parts
input_tells (Prompted v) (Prompted w) r s h i e = (ap Prompted (prompt_same e), tail_same e)
input_tells (Prompted v) (Arranged l) r s h i e = unlaid (Prompt v ∷ r) (layout_parts l ++ s) (λ z. z) (layout_laid l s i) e
input_tells (Prompted v) (Into y) r s h i e = untaken (Prompt v ∷ r) (taken_parts y.mode y.variable y.timeout ++ s) (λ z. z) (is_taken y.mode y.variable y.timeout s) e
input_tells (Arranged l) (Prompted w) r s h i e = unlaid (Prompt w ∷ s) (layout_parts l ++ r) (λ z. z) (layout_laid l r h) (sym e)
input_tells (Arranged l) (Arranged k) r s h i e = let a = layout_tells l k r s h i e in (ap Arranged a.0, a.1)
input_tells (Arranged l) (Into y) r s h i e = untaken (layout_parts l ++ r) (taken_parts y.mode y.variable y.timeout ++
    s) (laid_untaken (layout_parts l ++ r) (layout_laid l r h)) (is_taken y.mode y.variable y.timeout s) e
input_tells (Into x) (Prompted w) r s h i e = untaken (Prompt w ∷ s) (taken_parts x.mode x.variable x.timeout ++ r) (λ z. z) (is_taken x.mode x.variable x.timeout r) (sym e)
input_tells (Into x) (Arranged k) r s h i e = untaken (layout_parts k ++ s) (taken_parts x.mode x.variable x.timeout ++
    r) (laid_untaken (layout_parts k ++ s) (layout_laid k s i)) (is_taken x.mode x.variable x.timeout r) (sym e)
input_tells (Into x) (Into y) r s h i e =
    let a = taken_tell x.mode y.mode x.variable y.variable x.timeout y.timeout r s h i e in
    (ap Into (received_made x y a.0 a.1 a.2), a.3)

opened_made : (a b : Opened) → a.device ≡ b.device → a.timeout ≡ b.timeout → a ≡ b
opened_made a b e f = ap (λ (x : Expr). let o : Opened = record { device = x; timeout = a.timeout } in o) e ∙
    ap (λ (c : Option Expr). let o : Opened = record { device = b.device; timeout = c } in o) f

opened_tells : Tells opened_parts
opened_tells x y r s h i e =
    let a = wait_tells x.timeout y.timeout r s h i (tail_same e) in
    (opened_made x y (text_same e) a.0, a.1)

-- ---- commands

nil_some : {A : Type 0} (qs : List Part) → IsSome qs → [] ≡ qs → A
nil_some qs h e = absurd (let f : [] ≡ h.0 ∷ h.1 = e ∙ h.2 in cc)

whole_tells : {A : Type 0} (parts : A → List Part) → Tells parts → (x y : A) (xs ys : List A) → parts x ++ behind_commas parts xs ≡ parts y ++ behind_commas parts ys → x ∷ xs ≡ y ∷ ys
whole_tells parts t x y xs ys e = (some_tell parts t x y xs ys [] [] tt tt (append-nil (parts x ++ behind_commas parts xs) ∙ e ∙ sym (append-nil (parts y ++ behind_commas parts ys)))).0

sets_tell : (xs ys : List Assignment) → with_commas assignment_parts xs ≡ with_commas assignment_parts ys → xs ≡ ys
sets_tell [] [] e = refl
sets_tell [] (y ∷ ys) e = nil_some _ (assignment_some y (behind_commas assignment_parts ys)) e
sets_tell (x ∷ xs) [] e = nil_some _ (assignment_some x (behind_commas assignment_parts xs)) (sym e)
sets_tell (x ∷ xs) (y ∷ ys) e = whole_tells assignment_parts assignment_tells x y xs ys e

kills_tell : (xs ys : List Killed) → with_commas killed_parts xs ≡ with_commas killed_parts ys → xs ≡ ys
kills_tell [] [] e = refl
kills_tell [] (y ∷ ys) e = nil_some _ (killed_some y (behind_commas killed_parts ys)) e
kills_tell (x ∷ xs) [] e = nil_some _ (killed_some x (behind_commas killed_parts xs)) (sym e)
kills_tell (x ∷ xs) (y ∷ ys) e = whole_tells killed_parts killed_tells x y xs ys e

merges_tell : (xs ys : List Merged) → with_commas merged_parts xs ≡ with_commas merged_parts ys → xs ≡ ys
merges_tell [] [] e = refl
merges_tell [] (y ∷ ys) e = absurd (let f : [] ≡ Place 0 y.into ∷ _ = e in cc)
merges_tell (x ∷ xs) [] e = absurd (let f : Place 0 x.into ∷ _ ≡ [] = e in cc)
merges_tell (x ∷ xs) (y ∷ ys) e = whole_tells merged_parts merged_tells x y xs ys e

-- of the first it is known that no list is empty
writes_tell : (xs ys : List Output) → has_items xs && every is_output xs ≡ true → with_commas output_parts xs ≡ with_commas output_parts ys → xs ≡ ys
writes_tell [] ys h e = absurd (let f : false ≡ true = h in cc)
writes_tell (x ∷ xs) [] h e = nil_some _ (output_some x (behind_commas output_parts xs) (first_of (is_output x) (every is_output xs) h)) (sym e)
writes_tell (x ∷ xs) (y ∷ ys) h e = whole_tells output_parts output_tells x y xs ys e

reads_tell : (xs ys : List Input) → has_items xs && every is_input xs ≡ true → with_commas input_parts xs ≡ with_commas input_parts ys → xs ≡ ys
reads_tell [] ys h e = absurd (let f : false ≡ true = h in cc)
reads_tell (x ∷ xs) [] h e = nil_some _ (input_some x (behind_commas input_parts xs) (first_of (is_input x) (every is_input xs) h)) (sym e)
reads_tell (x ∷ xs) (y ∷ ys) h e = whole_tells input_parts input_tells x y xs ys e

-- items that have parts each
abbrev AllSome : {A : Type 0} → (A → List Part) → Type 0
AllSome {A = A} parts = (x : A) (rest : List Part) → IsSome (parts x ++ rest)

lists_tell : {A : Type 0} (parts : A → List Part) → Tells parts → AllSome parts → (xs ys : List A) → with_commas parts xs ≡ with_commas parts ys → xs ≡ ys
lists_tell parts t n [] [] e = refl
lists_tell parts t n [] (y ∷ ys) e = nil_some _ (n y (behind_commas parts ys)) e
lists_tell parts t n (x ∷ xs) [] e = nil_some _ (n x (behind_commas parts xs)) (sym e)
lists_tell parts t n (x ∷ xs) (y ∷ ys) e = whole_tells parts t x y xs ys e

value_some : AllSome value_parts
value_some x rest = (Text 0 x, rest, refl)

opened_some : AllSome opened_parts
opened_some x rest = (Text 0 x.device, _, refl)

jumped_some : AllSome jumped_parts
jumped_some x rest = entered_some Jumps (as_called x) rest

called_some : AllSome called_parts
called_some x rest = entered_some Calls x rest

started_some : AllSome started_parts
started_some x rest = entered_some Starts (as_entered x) rest

range_some : AllSome range_parts
range_some (Single a) rest = (Text 0 a, _, refl)
range_some (Endless a b) rest = (Text 0 a, _, refl)
range_some (UpTo a b c) rest = (Text 0 a, _, refl)

fors_tell : (v w : Variable) (xs ys : List Range) → command_parts (For v xs) ≡ command_parts (For w ys) → For v xs ≡ For w ys
fors_tell v w xs ys e = ap (λ (z : Variable). For z xs) (control_same e) ∙ ap (λ (zs : List Range). For w zs) (lists_tell range_parts range_tells range_some xs ys (tail_same (tail_same e)))

-- each against the others
set_once : (xs : List Assignment) (d : Command) → keyword.Set ≡ keyword_for d → with_commas assignment_parts xs ≡ command_parts d → Set xs ≡ d
set_once xs (Set ys) k e = ap Set (sets_tell xs ys e)
set_once xs d k e = absurd (let z : keyword.Set ≡ keyword_for d = k in cc)

write_once : (xs : List Output) (d : Command) → has_items xs && every is_output xs ≡ true → keyword.Write ≡ keyword_for d → with_commas output_parts xs ≡ command_parts d → Write xs ≡ d
write_once xs (Write ys) f k e = ap Write (writes_tell xs ys f e)
write_once xs d f k e = absurd (let z : keyword.Write ≡ keyword_for d = k in cc)

halt_once : (d : Command) → keyword.Halt ≡ keyword_for d → Halt ≡ d
halt_once Halt k = refl
halt_once d k = absurd (let z : keyword.Halt ≡ keyword_for d = k in cc)

hang_once : (xs : List Expr) (d : Command) → keyword.Hang ≡ keyword_for d → with_commas value_parts xs ≡ command_parts d → Hang xs ≡ d
hang_once xs (Hang ys) k e = ap Hang (lists_tell value_parts value_tells value_some xs ys e)
hang_once xs d k e = absurd (let z : keyword.Hang ≡ keyword_for d = k in cc)

job_once : (xs : List Started) (d : Command) → keyword.Job ≡ keyword_for d → with_commas started_parts xs ≡ command_parts d → Job xs ≡ d
job_once xs (Job ys) k e = ap Job (lists_tell started_parts started_tells started_some xs ys e)
job_once xs d k e = absurd (let z : keyword.Job ≡ keyword_for d = k in cc)

lock_once : (xs : List Locked) (d : Command) → keyword.Lock ≡ keyword_for d → with_commas locked_parts xs ≡ command_parts d → Lock xs ≡ d
lock_once xs (Lock ys) k e = ap Lock (lists_tell locked_parts locked_tells locked_some xs ys e)
lock_once xs d k e = absurd (let z : keyword.Lock ≡ keyword_for d = k in cc)

kill_once : (xs : List Killed) (d : Command) → keyword.Kill ≡ keyword_for d → with_commas killed_parts xs ≡ command_parts d → Kill xs ≡ d
kill_once xs (Kill ys) k e = ap Kill (kills_tell xs ys e)
kill_once xs d k e = absurd (let z : keyword.Kill ≡ keyword_for d = k in cc)

merge_once : (xs : List Merged) (d : Command) → keyword.Merge ≡ keyword_for d → with_commas merged_parts xs ≡ command_parts d → Merge xs ≡ d
merge_once xs (Merge ys) k e = ap Merge (merges_tell xs ys e)
merge_once xs d k e = absurd (let z : keyword.Merge ≡ keyword_for d = k in cc)

if_once : (xs : List Expr) (d : Command) → keyword.If ≡ keyword_for d → with_commas value_parts xs ≡ command_parts d → If xs ≡ d
if_once xs (If ys) k e = ap If (lists_tell value_parts value_tells value_some xs ys e)
if_once xs d k e = absurd (let z : keyword.If ≡ keyword_for d = k in cc)

else_once : (d : Command) → keyword.Else ≡ keyword_for d → Else ≡ d
else_once Else k = refl
else_once d k = absurd (let z : keyword.Else ≡ keyword_for d = k in cc)

for_once : (v : Variable) (xs : List Range) (d : Command) → keyword.For ≡ keyword_for d → command_parts (For v xs) ≡ command_parts d → For v xs ≡ d
for_once v xs (For w ys) k e = fors_tell v w xs ys e
for_once v xs Forever k e = absurd (let z : Control v ∷ Put Equals ∷ with_commas range_parts xs ≡ [] = e in cc)
for_once v xs d k e = absurd (let z : keyword.For ≡ keyword_for d = k in cc)

forever_once : (d : Command) → keyword.For ≡ keyword_for d → [] ≡ command_parts d → Forever ≡ d
forever_once Forever k e = refl
forever_once (For w ys) k e = absurd (let z : [] ≡ Control w ∷ Put Equals ∷ with_commas range_parts ys = e in cc)
forever_once d k e = absurd (let z : keyword.For ≡ keyword_for d = k in cc)

do_once : (xs : List Called) (d : Command) → keyword.Do ≡ keyword_for d → with_commas called_parts xs ≡ command_parts d → Do xs ≡ d
do_once xs (Do ys) k e = ap Do (lists_tell called_parts called_tells called_some xs ys e)
do_once xs d k e = absurd (let z : keyword.Do ≡ keyword_for d = k in cc)

goto_once : (xs : List Jumped) (d : Command) → keyword.Goto ≡ keyword_for d → with_commas jumped_parts xs ≡ command_parts d → Goto xs ≡ d
goto_once xs (Goto ys) k e = ap Goto (lists_tell jumped_parts jumped_tells jumped_some xs ys e)
goto_once xs d k e = absurd (let z : keyword.Goto ≡ keyword_for d = k in cc)

text_tells : (x y : Expr) → Text 0 x ∷ [] ≡ Text 0 y ∷ [] → x ≡ y
text_tells x y e = cc

result_tells : (v w : Option Expr) → result_parts v ≡ result_parts w → v ≡ w
result_tells None None e = refl
result_tells None (Some y) e = absurd (let f : [] ≡ Text 0 y ∷ [] = e in cc)
result_tells (Some x) None e = absurd (let f : Text 0 x ∷ [] ≡ [] = e in cc)
result_tells (Some x) (Some y) e = ap Some (text_tells x y e)

quit_once : (v : Option Expr) (d : Command) → keyword.Quit ≡ keyword_for d → result_parts v ≡ command_parts d → Quit v ≡ d
quit_once v (Quit w) k e = ap Quit (result_tells v w e)
quit_once v d k e = absurd (let z : keyword.Quit ≡ keyword_for d = k in cc)

new_once : (xs : List Renewed) (d : Command) → keyword.New ≡ keyword_for d → with_commas renewed_parts xs ≡ command_parts d → New xs ≡ d
new_once xs (New ys) k e = ap New (lists_tell renewed_parts renewed_tells renewed_some xs ys e)
new_once xs d k e = absurd (let z : keyword.New ≡ keyword_for d = k in cc)

open_once : (xs : List Opened) (d : Command) → keyword.Open ≡ keyword_for d → with_commas opened_parts xs ≡ command_parts d → OpenDevice xs ≡ d
open_once xs (OpenDevice ys) k e = ap OpenDevice (lists_tell opened_parts opened_tells opened_some xs ys e)
open_once xs d k e = absurd (let z : keyword.Open ≡ keyword_for d = k in cc)

use_once : (xs : List Expr) (d : Command) → keyword.Use ≡ keyword_for d → with_commas value_parts xs ≡ command_parts d → UseDevice xs ≡ d
use_once xs (UseDevice ys) k e = ap UseDevice (lists_tell value_parts value_tells value_some xs ys e)
use_once xs d k e = absurd (let z : keyword.Use ≡ keyword_for d = k in cc)

close_once : (xs : List Expr) (d : Command) → keyword.Close ≡ keyword_for d → with_commas value_parts xs ≡ command_parts d → CloseDevice xs ≡ d
close_once xs (CloseDevice ys) k e = ap CloseDevice (lists_tell value_parts value_tells value_some xs ys e)
close_once xs d k e = absurd (let z : keyword.Close ≡ keyword_for d = k in cc)

read_once : (xs : List Input) (d : Command) → has_items xs && every is_input xs ≡ true → keyword.Read ≡ keyword_for d → with_commas input_parts xs ≡ command_parts d → Read xs ≡ d
read_once xs (Read ys) f k e = ap Read (reads_tell xs ys f e)
read_once xs d f k e = absurd (let z : keyword.Read ≡ keyword_for d = k in cc)

-- ---- the argument of TSTART

serial_tells : (a b : Serial) → serial_parts a ≡ serial_parts b → a ≡ b
serial_tells serial.No serial.No e = refl
serial_tells serial.No serial.Bare e = absurd (let f : [] ≡ Put Colon ∷ SerialWord ∷ [] = e in cc)
serial_tells serial.No serial.Enclosed e = absurd (let f : [] ≡ Put Colon ∷ Put Open ∷ SerialWord ∷ Put Close ∷ [] = e in cc)
serial_tells serial.Bare serial.No e = absurd (let f : Put Colon ∷ SerialWord ∷ [] ≡ [] = e in cc)
serial_tells serial.Bare serial.Bare e = refl
serial_tells serial.Bare serial.Enclosed e = absurd (let f : SerialWord ∷ [] ≡ Put Open ∷ SerialWord ∷ Put Close ∷ [] = tail_same e in cc)
serial_tells serial.Enclosed serial.No e = absurd (let f : Put Colon ∷ Put Open ∷ SerialWord ∷ Put Close ∷ [] ≡ [] = e in cc)
serial_tells serial.Enclosed serial.Bare e = absurd (let f : Put Open ∷ SerialWord ∷ Put Close ∷ [] ≡ SerialWord ∷ [] = tail_same e in cc)
serial_tells serial.Enclosed serial.Enclosed e = refl

restored_tells : (a b : Restored) (r s : List Part) → restored_parts a ++ r ≡ restored_parts b ++ s → Same a b r s
restored_tells (Alone v) (Alone w) r s e = (ap Alone (named_same e), tail_same e)
restored_tells (Alone v) (Listed ws) r s e = absurd (let f : Named v ∷ r ≡ Put Open ∷ _ = e in cc)
restored_tells (Alone v) Everything r s e = absurd (let f : Named v ∷ r ≡ Put Star ∷ s = e in cc)
restored_tells (Listed ws) (Alone w) r s e = absurd (let f : Put Open ∷ _ ≡ Named w ∷ s = e in cc)
restored_tells (Listed ws) (Listed vs) r s e =
    let a = names_tell ws vs r s (sym (append_assoc (with_commas name_parts ws) (Put Close ∷ []) r) ∙ tail_same e ∙ append_assoc (with_commas name_parts vs) (Put Close ∷ []) s) in
    (ap Listed a.0, a.1)
restored_tells (Listed ws) Everything r s e = absurd (let f : Put Open ∷ _ ≡ Put Star ∷ s = e in cc)
restored_tells Everything (Alone w) r s e = absurd (let f : Put Star ∷ r ≡ Named w ∷ s = e in cc)
restored_tells Everything (Listed ws) r s e = absurd (let f : Put Star ∷ r ≡ Put Open ∷ _ = e in cc)
restored_tells Everything Everything r s e = (refl, tail_same e)

restartable_made : (a b : Restartable) → a.restored ≡ b.restored → a.serial ≡ b.serial → a ≡ b
restartable_made a b e f =
    ap (λ (x : Restored). let r : Restartable = record { restored = x; serial = a.serial } in r) e
    ∙ ap (λ (x : Serial). let r : Restartable = record { restored = b.restored; serial = x } in r) f

restored_some : (r : Restored) (rest : List Part) → IsSome (restored_parts r ++ rest)
restored_some (Alone w) rest = (Named w, rest, refl)
restored_some (Listed ws) rest = (Put Open, _, refl)
restored_some Everything rest = (Put Star, rest, refl)

restartables_tell : (a b : Option Restartable) → restartable_parts a ≡ restartable_parts b → a ≡ b
restartables_tell None None e = refl
restartables_tell None (Some b) e = nil_some _ (restored_some b.restored (serial_parts b.serial)) e
restartables_tell (Some a) None e = nil_some _ (restored_some a.restored (serial_parts a.serial)) (sym e)
restartables_tell (Some a) (Some b) e =
    let x = restored_tells a.restored b.restored (serial_parts a.serial) (serial_parts b.serial) e in
    ap (λ (r : Restartable). Some r) (restartable_made a b x.0 (serial_tells a.serial b.serial x.1))

tstart_once : (a : Option Restartable) (d : Command) → keyword.TStart ≡ keyword_for d → restartable_parts a ≡ command_parts d → TStart a ≡ d
tstart_once a (TStart b) k e = ap TStart (restartables_tell a b e)
tstart_once a d k e = absurd (let z : keyword.TStart ≡ keyword_for d = k in cc)

tcommit_once : (d : Command) → keyword.TCommit ≡ keyword_for d → TCommit ≡ d
tcommit_once TCommit k = refl
tcommit_once d k = absurd (let z : keyword.TCommit ≡ keyword_for d = k in cc)

trestart_once : (d : Command) → keyword.TRestart ≡ keyword_for d → TRestart ≡ d
trestart_once TRestart k = refl
trestart_once d k = absurd (let z : keyword.TRestart ≡ keyword_for d = k in cc)

trollback_once : (d : Command) → keyword.TRollback ≡ keyword_for d → TRollback ≡ d
trollback_once TRollback k = refl
trollback_once d k = absurd (let z : keyword.TRollback ≡ keyword_for d = k in cc)

break_once : (d : Command) → keyword.Break ≡ keyword_for d → Break ≡ d
break_once Break k = refl
break_once d k = absurd (let z : keyword.Break ≡ keyword_for d = k in cc)

-- ONCE
pub command_once : (c d : Command) → is_formed c ≡ true → keyword_for c ≡ keyword_for d → command_parts c ≡ command_parts d → c ≡ d
command_once (Set xs) d f k e = set_once xs d k e
command_once (Write xs) d f k e = write_once xs d f k e
command_once Halt d f k e = halt_once d k
command_once (Hang xs) d f k e = hang_once xs d k e
command_once (Job xs) d f k e = job_once xs d k e
command_once (Lock xs) d f k e = lock_once xs d k e
command_once (Kill xs) d f k e = kill_once xs d k e
command_once (Merge xs) d f k e = merge_once xs d k e
command_once (If xs) d f k e = if_once xs d k e
command_once Else d f k e = else_once d k
command_once (For v xs) d f k e = for_once v xs d k e
command_once Forever d f k e = forever_once d k e
command_once (Do xs) d f k e = do_once xs d k e
command_once (Goto xs) d f k e = goto_once xs d k e
command_once (Quit v) d f k e = quit_once v d k e
command_once (New xs) d f k e = new_once xs d k e
command_once (OpenDevice xs) d f k e = open_once xs d k e
command_once (UseDevice xs) d f k e = use_once xs d k e
command_once (CloseDevice xs) d f k e = close_once xs d k e
command_once (Read xs) d f k e = read_once xs d f k e
command_once (TStart a) d f k e = tstart_once a d k e
command_once TCommit d f k e = tcommit_once d k
command_once TRestart d f k e = trestart_once d k
command_once TRollback d f k e = trollback_once d k
command_once Break d f k e = break_once d k
