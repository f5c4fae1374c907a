-- What a job asks can be written: through expressions, commands and lines, where the names in them are words.
use Rattle.std.proofs.Common.{◌≡◌, ℕ, zero, suc, ◌+◌, ◌-◌, List, [], ◌∷◌, ◌++◌, length, map, Bool, true, false, Option, Some, None, refl, subst}
use Rattle.std.specs.Prelude.{ℤ, nat_lt, nat_eq, slice_get, if◌then◌else◌}
use Rattle.std.specs.List.{list_all}
use Rattle.std.specs.Str.{bytes_eq}
use Rattle.mj_text.specs.declared.fault.Fault.TheVariants.{NoLine, Quit as WrongQuit}
use Rattle.mj_oper.specs.Operators.{binary_value, unary_value, truth_value}
use Rattle.mj_num.specs.Number.{reading}
use Rattle.mj_subs.specs.Name.{Name, is_word}
use Rattle.mj_ask.specs.declared.bounds.Bounds.{Bounds}
use Rattle.mj_ask.specs.declared.ask.Ask.{Ask}
use Rattle.mj_ask.specs.declared.ask.Reply.{Reply}
use Rattle.mj_ask.specs.declared.entry.Entry.{Entry}
use Rattle.mj_ask.specs.Written.{is_entry}
use Rattle.mj_ask.specs.Formed.{is_ask, is_reply}
use Rattle.mj_ask.proofs.Lists.{both_true}
use Rattle.mj_ast.specs.declared.sign.Sign.TheVariants.{Comma, Colon, Close, Equals}
use Rattle.mj_ast.specs.declared.routine.FormatMark.{FormatMark}
use Rattle.mj_ast.specs.declared.expr.Scope.{Scope}
use Rattle.mj_ast.specs.declared.expr.Scope.TheVariants.{Local, Global}
use Rattle.mj_ast.specs.declared.function.NameFunction.{NameFunction}
use Rattle.mj_ast.specs.Syntax.{Expr, Chain, Tails, Done, Then, Operand, Literal, Value, Intrinsic, Unary, Group, Call, About, Select, Variable, Var, Exprs, No, More as Another, Choices, Last, Before, Extrinsic, Actuals, NoActual, Given, Omitted, as_actuals, Destination, Plain, Pieces, Targets, One, Several, Assignment, Killed, Gone, Spared, Merged, Output, Shown, Format, Coded, Opened, Received, Input, Prompted, Arranged, Into, Called as Calling, Jumped as Jumping, Started as Starting, LockNames, Lone, Together, Locked, Range, Single, Endless, UpTo, Command, Set, Write, Halt, Hang, Job, Lock, OpenDevice, UseDevice, CloseDevice, Read, Kill, Merge, If, Else, For, Forever, Do, Goto, Quit, New, Restartable, TStart, TCommit, TRestart, TRollback, Break, LineCommand, Line, Routine}
use Rattle.mj_ast.specs.Expressions.{Symbol, Name as NameSymbol, Mark, scoped, expr_symbols, tails_symbols, operand_symbols, variable_symbols, list_symbols, more_symbols, choices_symbols, routine_symbols, actuals_symbols, further_symbols}
use Rattle.mj_ast.specs.Commands.{Part, Put, Place as PlacePart, Text, with_commas, behind_commas, more_parts, destination_parts, targets_parts, assignment_parts, mark_part, column_parts, output_parts, opened_parts, read_mode_parts, received_parts, input_parts, killed_parts, merged_parts, value_parts, target_parts, guard_parts, wait_parts, actual_parts, actuals_parts, called_parts, jumped_parts, started_parts, mode_parts, variable_parts, lock_names_parts, locked_parts, range_parts, result_parts, command_parts}
use Rattle.mj_semantics.specs.State.{State, Frame, Locals, Place, principal, level_of, special_value, set_test, kill_except, passed, popped, pushed, at_place, may_go}
use Rattle.mj_semantics.specs.Outcome.{Outcome, Needs, Timed, no_restart, turn, fault}
use Rattle.mj_semantics.specs.Lines.{Here, place_at, next_line, line_before, lines_of, line_at, levels_of, line_number, entered, entry_of}
use Rattle.mj_semantics.specs.Points.{Leave, Ways, Loop, Once, Always, By, Point, AtLine, Called, Jumped, Pass, Started, Points}
use Rattle.mj_semantics.specs.Functions.{call_value, optional}
use Rattle.mj_semantics.specs.Evaluation.{name_of, named_for, ev, ev_tails, ev_operand, ev_choices, ev_name, ev_named, ev_all, ev_actuals, plain_values, ev_local, when}
use Rattle.mj_semantics.specs.Commands.{Aim, Whole, Part as PartAim, mark_byte, end_frame, quit_frame, in_function, quit, ev_destination, ev_destinations, assign_to, assign_all, kill, kill_list, kill_all, merge, merge_all, arrange, output, output_all, ev_timeout, hang_all, start_all, ev_names, ev_lock_names, lock_list, lock_all, open_all, use_all, close_all, receive, input, read_all, ifs, ranges, calls, block, jumps, do_all, if_all, start_transaction, obey, obey_all}
use Rattle.mj_semantics.specs.Transactions.{restored_by, listed_by, serial_by}
use Rattle.mj_semantics.specs.Program.{Program}
use Rattle.mj_semantics.specs.Job.{quit_before, obey_line, call, jump, in_pass, at_point, points_of, Start, start as starting, opening, next}
use Rattle.mj_rou.specs.Words.{Each, IsWorded, IsExprWorded, IsVariableWorded, IsPartWorded, IsConditionWorded, IsStepWorded, IsLineWorded, IsRoutineWorded}
use Rattle.mj_written.specs.Formed.{are_locals, IsLine}
use Rattle.mj_written.proofs.Names.{word_is, entry_is, routine_is, function_routine, IsNamed, named, Suits, suits}
use Rattle.mj_written.proofs.States.{IsFormed, IsFramed, pops, passes_on, spares}
use Rattle.mj_written.proofs.Words.{IsFine, Asks, none_back, a_turn, some_turns, looked, changed, chosen, ended, faulted, is_known, is_given, is_composed, to_its_device, restarts, reads, is_about, stores, IsAimed, puts, puts_all, removes, names_ask, takes_nodes, puts_nodes, news_all, ends_frame, quits_frame, in_its_function, goes_deeper, writes, tabs, writes_code, tests, IsLoop, goes_again, begins, reads_two, hangs, starts_job, unlocks_all, locks, opens_device, uses_device, closes, reads_input, begins_transaction, commits, rolls_back, gives_back, begins_again}

-- ---- lists

apart : {X : Type 0} (P : X → Type 0) (xs ys : List X) → Each P (xs ++ ys) → Each P xs × Each P ys
apart P [] ys h = (tt, h)
apart P (x ∷ xs) ys h = let i = apart P xs ys h.1 in ((h.0, i.0), i.1)

-- the parts of each of a list are worded
abbrev Parted : {A : Type 0} → (A → List Part) → List A → Type 0
Parted parts list = Each (λ x. Each IsPartWorded (parts x)) list

behind : {A : Type 0} (parts : A → List Part) (list : List A) → Each IsPartWorded (behind_commas parts list) → Parted parts list
behind parts [] h = tt
behind parts (x ∷ xs) h = let i = apart IsPartWorded (parts x) (behind_commas parts xs) h.1 in (i.0, behind parts xs i.1)

items : {A : Type 0} (parts : A → List Part) (list : List A) → Each IsPartWorded (with_commas parts list) → Parted parts list
items parts [] h = tt
items parts (x ∷ xs) h = let i = apart IsPartWorded (parts x) (behind_commas parts xs) h in (i.0, behind parts xs i.1)

-- ---- lists of expressions

abbrev AreWorded : Exprs → Type 0
AreWorded No = Unit {0}
AreWorded (Another e es) = IsExprWorded e × AreWorded es

more_worded : (es : Exprs) → Each IsWorded (more_symbols es) → AreWorded es
more_worded No h = tt
more_worded (Another e es) h = let i = apart IsWorded (expr_symbols e) (more_symbols es) h.1 in (i.0, more_worded es i.1)

list_worded : (es : Exprs) → Each IsWorded (list_symbols es) → AreWorded es
list_worded No h = tt
list_worded (Another e es) h = let i = apart IsWorded (expr_symbols e) (more_symbols es) h.1 in (i.0, more_worded es i.1)

parts_worded : (es : Exprs) → Each IsPartWorded (more_parts es) → AreWorded es
parts_worded No h = tt
parts_worded (Another e es) h = (h.1.0, parts_worded es h.1.1)

-- the word of a variable and its subscripts
unscoped : (scope : Scope) (ks : List Symbol) → Each IsWorded (scoped scope ks) → Each IsWorded ks
unscoped Local ks h = h
unscoped Global ks h = h.1

-- the actuals
abbrev IsActual : Option Expr → Type 0
IsActual a = IsConditionWorded a

actual : (a : Option Expr) → Each IsPartWorded (actual_parts a) → IsActual a
actual None h = tt
actual (Some e) h = h.0

each_actual : (list : List (Option Expr)) → Parted actual_parts list → Each IsActual list
each_actual [] h = tt
each_actual (a ∷ list) h = (actual a h.0, each_actual list h.1)

actuals_worded : (list : List (Option Expr)) → Each IsPartWorded (actuals_parts list) → Each IsActual list
actuals_worded [] h = tt
actuals_worded (a ∷ list) h =
    each_actual (a ∷ list) (items actual_parts (a ∷ list) (apart IsPartWorded (with_commas actual_parts (a ∷ list)) (Put Close ∷ []) h.1).0)

-- each expression among the actuals of a function, and of a call
abbrev ArePassed : Actuals → Type 0
ArePassed NoActual = Unit {0}
ArePassed (Given e es) = IsExprWorded e × ArePassed es
ArePassed (Omitted es) = ArePassed es

further_worded : (es : Actuals) → Each IsWorded (further_symbols es) → ArePassed es
further_worded NoActual h = tt
further_worded (Given e es) h = let i = apart IsWorded (expr_symbols e) (further_symbols es) h.1 in (i.0, further_worded es i.1)
further_worded (Omitted es) h = further_worded es h.1

passed_worded : (es : Actuals) → Each IsWorded (actuals_symbols es) → ArePassed es
passed_worded NoActual h = tt
passed_worded (Given e es) h = let i = apart IsWorded (expr_symbols e) (further_symbols es) h.1 in (i.0, further_worded es i.1)
passed_worded (Omitted es) h = further_worded es h.1

as_passed : (list : List (Option Expr)) → Each IsActual list → ArePassed (as_actuals list)
as_passed [] h = tt
as_passed (None ∷ list) h = as_passed list h.1
as_passed (Some e ∷ list) h = (h.0, as_passed list h.1)

guard_worded : (o : Option Expr) → Each IsPartWorded (guard_parts o) → IsConditionWorded o
guard_worded None h = tt
guard_worded (Some e) h = h.1.0

wait_worded : (o : Option Expr) → Each IsPartWorded (wait_parts o) → IsConditionWorded o
wait_worded None h = tt
wait_worded (Some e) h = h.1.1.0

-- ---- what comes after

abbrev IsLeave : Leave → Type 0
IsLeave l = (v : List ℕ) → Asks (l v)

abbrev IsQuit : Option Timed → Type 0
IsQuit None = Unit {0}
IsQuit (Some f) = Asks f

record IsWays (w : Ways) : Type 0 where
  line_end : Asks w.line_end
  for_quit : IsQuit w.for_quit
  leave : IsLeave w.leave

-- a pass of a FOR
record IsPass (here : Here) (loop : Loop) (body : List LineCommand) (after : Timed) (ways : Ways) : Type 0 where
  word : is_word here.routine ≡ true
  loop_is : IsLoop loop
  body_is : Each IsStepWorded body
  after_is : Asks after
  ways_are : IsWays ways

abbrev IsPoint : Point → Type 0
IsPoint (AtLine here leave) = (is_word here.routine ≡ true) × IsLeave leave
IsPoint (Called function entry vs leave) = (is_word entry.routine ≡ true) × IsLeave leave
IsPoint (Jumped entry leave) = (is_word entry.routine ≡ true) × IsLeave leave
IsPoint (Pass here loop body after ways) = IsPass here loop body after ways
IsPoint (Started rest) = Asks rest

record ArePoints (P : Points) : Type 0 where
  by : (p : Point) → IsPoint p → Asks (P p)

module _ (P : Points) (points : ArePoints P) (here : Here) (word : is_word here.routine ≡ true) where
  -- Expressions.

  mutual
    evaluates : (e : Expr) {f : List ℕ → Timed} → IsExprWorded e → ((v : List ℕ) → Asks (f v)) → Asks (ev P here e f)
    evaluates (Chain x ts) h l = let i = apart IsWorded (operand_symbols x) (tails_symbols ts) h in operand_asks x i.0 (λ v. tails_ask v ts i.1 l)

    tails_ask : (v : List ℕ) (ts : Tails) {f : List ℕ → Timed} → Each IsWorded (tails_symbols ts) → ((v : List ℕ) → Asks (f v)) → Asks (ev_tails P here v ts f)
    tails_ask v Done h l = l v
    tails_ask v (Then op x ts) h l =
        let i = apart IsWorded (operand_symbols x) (tails_symbols ts) h.1 in operand_asks x i.0 (λ w. a_turn (is_composed (λ limit. binary_value limit op v w) (λ u. tails_ask u ts i.1 l)))

    operand_asks : (x : Operand) {f : List ℕ → Timed} → Each IsWorded (operand_symbols x) → ((v : List ℕ) → Asks (f v)) → Asks (ev_operand P here x f)
    operand_asks (Literal t) h l = a_turn (l t)
    operand_asks (Value v) h l = name_asks v h (λ x n. reads x n l)
    operand_asks (Intrinsic v) h l = a_turn (looked (λ s k. l (special_value v s)))
    operand_asks (Unary op x) h l = operand_asks x h.1 (λ v. a_turn (is_given (unary_value op v) l))
    operand_asks (Group e) h l = evaluates e (apart IsWorded (expr_symbols e) (Mark Close ∷ []) h.1).0 l
    operand_asks (Call f es) h l = all_ask es (list_worded es h.1) (λ vs. a_turn (is_composed (λ limit. call_value limit f vs) l))
    operand_asks (About f v es) h l =
        let i = apart IsWorded (variable_symbols v) (more_symbols es) h.1.1 in
        named_asks f v i.0 (λ x n. all_ask es (more_worded es i.1) (λ vs. a_turn (is_about f x (optional 0 vs) n l)))
    operand_asks (Select choices) h l = choices_ask choices h.1.1 l
    operand_asks (Extrinsic t es) h l =
        let i = apart IsWorded (routine_symbols t.routine) (actuals_symbols es) h.1 in
        actuals_ask es (passed_worded es i.1)
        (λ vs. a_turn (points.by (Called true (entry_of here t) (plain_values vs) _) (function_routine here t word i.0, λ v. changed {c = popped} pops (l v))))

    choices_ask : (x : Choices) {f : List ℕ → Timed} → Each IsWorded (choices_symbols x) → ((v : List ℕ) → Asks (f v)) → Asks (ev_choices P here x f)
    choices_ask (Last c e) h l =
        let i = apart IsWorded (expr_symbols c) (Mark Colon ∷ (expr_symbols e ++ Mark Close ∷ [])) h in
        let j = apart IsWorded (expr_symbols e) (Mark Close ∷ []) i.1.1 in
        evaluates c i.0 (λ v. a_turn (is_given (truth_value v) (λ t. chosen t (evaluates e j.0 (λ w. a_turn (l w))) (a_turn faulted))))
    choices_ask (Before c e x) h l =
        let i = apart IsWorded (expr_symbols c) (Mark Colon ∷ (expr_symbols e ++ Mark Comma ∷ choices_symbols x)) h in
        let j = apart IsWorded (expr_symbols e) (Mark Comma ∷ choices_symbols x) i.1.1 in
        evaluates c i.0 (λ v. a_turn (is_given (truth_value v) (λ t. chosen t (evaluates e j.0 (λ w. a_turn (l w))) (choices_ask x j.1.1 l))))

    name_asks : (v : Variable) {f : Name → Timed} → IsVariableWorded v → ((x : Name) → IsNamed x → Asks (f x)) → Asks (ev_name P here v f)
    name_asks (Var scope w es) h l =
        let k = unscoped scope (NameSymbol w ∷ list_symbols es) h in
        all_ask es (list_worded es k.1) (λ ss. a_turn (is_known (name_of scope w ss) (λ x e. l x (named scope w ss x (word_is w k.0) e))))

    named_asks : (g : NameFunction) (v : Variable) {f : Name → Timed} → IsVariableWorded v → ((x : Name) → Suits g x → Asks (f x)) → Asks (ev_named P here g v f)
    named_asks g (Var scope w es) h l =
        let k = unscoped scope (NameSymbol w ∷ list_symbols es) h in
        all_ask es (list_worded es k.1) (λ ss. a_turn (is_known (named_for g scope w ss) (λ x e. l x (suits g scope w ss x (word_is w k.0) e))))

    all_ask : (es : Exprs) {f : List (List ℕ) → Timed} → AreWorded es → ((vs : List (List ℕ)) → Asks (f vs)) → Asks (ev_all P here es f)
    all_ask No h l = l []
    all_ask (Another e es) h l = evaluates e h.0 (λ v. all_ask es h.1 (λ vs. l (v ∷ vs)))

    actuals_ask : (es : Actuals) {f : List (Option (List ℕ)) → Timed} → ArePassed es → ((vs : List (Option (List ℕ))) → Asks (f vs)) → Asks (ev_actuals P here es f)
    actuals_ask NoActual h l = l []
    actuals_ask (Given e es) h l = evaluates e h.0 (λ v. actuals_ask es h.1 (λ vs. l (Some v ∷ vs)))
    actuals_ask (Omitted es) h l = actuals_ask es h (λ vs. l (None ∷ vs))

  local_asks : (v : Variable) {f : Name → Timed} → IsVariableWorded v → ((x : Name) → IsNamed x → Asks (f x)) → Asks (ev_local P here v f)
  local_asks (Var scope w es) h l =
      let k = unscoped scope (NameSymbol w ∷ list_symbols es) h in
      all_ask es (list_worded es k.1) (λ ss. a_turn (is_known (name_of Local w ss) (λ x e. l x (named Local w ss x (word_is w k.0) e))))

  where_so : (o : Option Expr) {f f' : Timed} → IsConditionWorded o → Asks f → Asks f' → Asks (when P here o f f')
  where_so None h l m = l
  where_so (Some e) h l m = evaluates e h (λ v. a_turn (is_given (truth_value v) (λ t. chosen t l m)))

  -- Commands.

  destination_asks : (d : Destination) {f : Aim → Timed} → Each IsPartWorded (destination_parts d) → ((t : Aim) → IsAimed t → Asks (f t)) → Asks (ev_destination P here d f)
  destination_asks (Plain v) h l = name_asks v h.0 (λ x n. l (Whole x) n)
  destination_asks (Pieces v es) h l =
      name_asks v h.1.1.0 (λ x n. all_ask es (parts_worded es (apart IsPartWorded (more_parts es) (Put Close ∷ []) h.1.1.1).0) (λ ts. l (PartAim x ts) n))

  destinations_ask : (list : List Destination) {f : List Aim → Timed} → Parted destination_parts list → ((ts : List Aim) → Each IsAimed ts → Asks (f ts)) → Asks (ev_destinations P here list f)
  destinations_ask [] h l = l [] tt
  destinations_ask (d ∷ list) h l = destination_asks d h.0 (λ t n. destinations_ask list h.1 (λ ts ns. l (t ∷ ts) (n, ns)))

  assigns_to : (targets : Targets) (e : Expr) {f : Timed} → Each IsPartWorded (targets_parts targets) → IsExprWorded e → Asks f → Asks (assign_to P here targets e f)
  assigns_to (One d) e h w l = destination_asks d h (λ t n. evaluates e w (λ v. a_turn (puts t v n l)))
  assigns_to (Several list) e h w l =
      destinations_ask list (items destination_parts list (apart IsPartWorded (with_commas destination_parts list) (Put Close ∷ []) h.1).0)
      (λ ts n. evaluates e w (λ v. puts_all ts v n (a_turn l)))

  assigns_all : (list : List Assignment) {f : Timed} → Parted assignment_parts list → Asks f → Asks (assign_all P here list f)
  assigns_all [] h l = l
  assigns_all (a ∷ list) h l =
      let i = apart IsPartWorded (targets_parts a.targets) (Put Equals ∷ Text 0 a.value ∷ []) h.0 in
      assigns_to a.targets a.value i.0 i.1.1.0 (assigns_all list h.1 l)

  kills : (x : Killed) {f : Timed} → Each IsPartWorded (killed_parts x) → Asks f → Asks (kill P here x f)
  kills (Gone v) h l = name_asks v h.0 (λ x n. a_turn (removes x n l))
  kills (Spared words) h l = names_ask words (a_turn (changed {c = kill_except words} (spares words) l))

  kills_list : (list : List Killed) {f : Timed} → Parted killed_parts list → Asks f → Asks (kill_list P here list f)
  kills_list [] h l = l
  kills_list (x ∷ list) h l = kills x h.0 (kills_list list h.1 l)

  kills_all : (list : List Killed) {f : Timed} → Parted killed_parts list → Asks f → Asks (kill_all P here list f)
  kills_all [] h l = a_turn (changed {c = kill_except []} (spares []) l)
  kills_all (x ∷ list) h l = kills_list (x ∷ list) h l

  merges : (m : Merged) {f : Timed} → Each IsPartWorded (merged_parts m) → Asks f → Asks (merge P here m f)
  merges m h l = name_asks m.into h.0 (λ x n. name_asks m.from h.1.1.0 (λ y k. takes_nodes x y k (a_turn (puts_nodes x n l))))

  merges_all : (list : List Merged) {f : Timed} → Parted merged_parts list → Asks f → Asks (merge_all P here list f)
  merges_all [] h l = l
  merges_all (m ∷ list) h l = merges m h.0 (merges_all list h.1 l)

  -- a format
  arranges : (marks : List FormatMark) (column : Option Expr) {f : Timed} → Each IsPartWorded (map mark_part marks ++ column_parts column) → Asks f
      → Asks (arrange P here marks column f)
  arranges marks None h l = a_turn (writes (map mark_byte marks) l)
  arranges marks (Some e) h l =
      let i = apart IsPartWorded (map mark_part marks) (column_parts (Some e)) h in evaluates e i.1.1.0 (λ v. a_turn (tabs marks v l))

  outputs : (o : Output) {f : Timed} → Each IsPartWorded (output_parts o) → Asks f → Asks (output P here o f)
  outputs (Shown e) h l = evaluates e h.0 (λ v. a_turn (writes v l))
  outputs (Format x) h l = arranges x.marks x.column h l
  outputs (Coded e) h l = evaluates e h.1.0 (λ v. a_turn (writes_code v l))

  outputs_all : (list : List Output) {f : Timed} → Parted output_parts list → Asks f → Asks (output_all P here list f)
  outputs_all [] h l = l
  outputs_all (o ∷ list) h l = outputs o h.0 (outputs_all list h.1 l)

  timeout_asks : (o : Option Expr) {f : Option ℤ → Timed} → IsConditionWorded o → ((t : Option ℤ) → Asks (f t)) → Asks (ev_timeout P here o f)
  timeout_asks None h l = l None
  timeout_asks (Some e) h l = evaluates e h (λ v. a_turn (is_given (reading v) (λ n. l (Some n))))

  hangs_all : (es : List Expr) {f : Timed} → Parted value_parts es → Asks f → Asks (hang_all P here es f)
  hangs_all [] h l = l
  hangs_all (e ∷ es) h l = evaluates e h.0.0 (λ v. a_turn (hangs v (hangs_all es h.1 l)))

  starts_all : (list : List Starting) {f : Timed} → Parted started_parts list → Asks f → Asks (start_all P here list f)
  starts_all [] h l = l
  starts_all (s ∷ list) h l =
      let i = apart IsPartWorded (target_parts s.target) (actuals_parts s.actuals ++ wait_parts s.timeout) h.0 in
      let j = apart IsPartWorded (actuals_parts s.actuals) (wait_parts s.timeout) i.1 in
      actuals_ask (as_actuals s.actuals) (as_passed s.actuals (actuals_worded s.actuals j.0))
      (λ vs. timeout_asks s.timeout (wait_worded s.timeout j.1) (λ t. a_turn (starts_job (entry_of here s.target) vs t (entry_is here s.target word i.0) (starts_all list h.1 l))))

  names_of_ask : (vs : List Variable) {f : List Name → Timed} → Parted variable_parts vs → ((xs : List Name) → Each IsNamed xs → Asks (f xs)) → Asks (ev_names P here vs f)
  names_of_ask [] h l = l [] tt
  names_of_ask (v ∷ vs) h l = name_asks v h.0.0 (λ x n. names_of_ask vs h.1 (λ xs ns. l (x ∷ xs) (n, ns)))

  lock_names_ask : (o : LockNames) {f : List Name → Timed} → Each IsPartWorded (lock_names_parts o) → ((xs : List Name) → Each IsNamed xs → Asks (f xs)) → Asks (ev_lock_names P here o f)
  lock_names_ask (Lone v) h l = names_of_ask (v ∷ []) (h, tt) l
  lock_names_ask (Together vs) h l =
      names_of_ask vs (items variable_parts vs (apart IsPartWorded (with_commas variable_parts vs) (Put Close ∷ []) h.1).0) l

  locks_list : (list : List Locked) {f : Timed} → Parted locked_parts list → Asks f → Asks (lock_list P here list f)
  locks_list [] h l = l
  locks_list (x ∷ list) h l =
      let i = apart IsPartWorded (mode_parts x.mode) (lock_names_parts x.names ++ guard_parts x.timeout) h.0 in
      let j = apart IsPartWorded (lock_names_parts x.names) (guard_parts x.timeout) i.1 in
      lock_names_ask x.names j.0 (λ xs ns. timeout_asks x.timeout (guard_worded x.timeout j.1) (λ t. locks x.mode xs t ns (locks_list list h.1 l)))

  locks_all : (list : List Locked) {f : Timed} → Parted locked_parts list → Asks f → Asks (lock_all P here list f)
  locks_all [] h l = a_turn (unlocks_all l)
  locks_all (x ∷ list) h l = locks_list (x ∷ list) h l

  opens_all : (list : List Opened) {f : Timed} → Parted opened_parts list → Asks f → Asks (open_all P here list f)
  opens_all [] h l = l
  opens_all (o ∷ list) h l =
      evaluates o.device h.0.0 (λ name. timeout_asks o.timeout (wait_worded o.timeout h.0.1) (λ t. a_turn (opens_device name t (opens_all list h.1 l))))

  uses_all : (es : List Expr) {f : Timed} → Parted value_parts es → Asks f → Asks (use_all P here es f)
  uses_all [] h l = l
  uses_all (e ∷ es) h l = evaluates e h.0.0 (λ name. a_turn (uses_device name (uses_all es h.1 l)))

  closes_all : (es : List Expr) {f : Timed} → Parted value_parts es → Asks f → Asks (close_all P here es f)
  closes_all [] h l = l
  closes_all (e ∷ es) h l = evaluates e h.0.0 (λ name. a_turn (closes name (closes_all es h.1 l)))

  receives : (r : Received) {f : Timed} → Each IsPartWorded (received_parts r) → Asks f → Asks (receive P here r f)
  receives r h l =
      let i = apart IsPartWorded (read_mode_parts r.mode) (PlacePart 0 r.variable ∷ guard_parts r.timeout) h in
      name_asks r.variable i.1.0 (λ x n. timeout_asks r.timeout (guard_worded r.timeout i.1.1) (λ t. a_turn (reads_input r.mode t (λ v. a_turn (stores x v n l)))))

  inputs : (i : Input) {f : Timed} → Each IsPartWorded (input_parts i) → Asks f → Asks (input P here i f)
  inputs (Prompted text) h l = a_turn (a_turn (writes text l))
  inputs (Arranged x) h l = arranges x.marks x.column h l
  inputs (Into r) h l = receives r h l

  inputs_all : (list : List Input) {f : Timed} → Parted input_parts list → Asks f → Asks (read_all P here list f)
  inputs_all [] h l = l
  inputs_all (i ∷ list) h l = inputs i h.0 (inputs_all list h.1 l)

  still : (b : Bool) (s : State) → IsFormed s → IsFormed (set_test b s)
  still b s h = record { locals = h.locals; saved = h.saved; mark = h.mark; held = h.held; frames = h.frames }

  ifs_ask : (es : List Expr) {f f' : Timed} → Parted value_parts es → Asks f → Asks f' → Asks (ifs P here es f f')
  ifs_ask [] h l m = m
  ifs_ask (e ∷ es) h l m =
      evaluates e h.0.0 (λ v. a_turn (is_given (truth_value v) (λ t. changed {c = set_test t} (still t) (chosen t (ifs_ask es h.1 l m) l))))

  if_asks : (es : List Expr) {f f' : Timed} → Parted value_parts es → Asks f → Asks f' → Asks (if_all P here es f f')
  if_asks [] h l m = a_turn (tests true l m)
  if_asks (e ∷ es) h l m = ifs_ask (e ∷ es) h l m

  a_pass : (loop : Loop) (body : List LineCommand) {f : Timed} {w : Ways} → IsLoop loop → Each IsStepWorded body → Asks f → IsWays w → Asks (P (Pass here loop body f w))
  a_pass loop body {f} {w} h b l k = points.by (Pass here loop body f w) (record { word = word; loop_is = h; body_is = b; after_is = l; ways_are = k })

  ranges_ask : (x : Name) (rs : List Range) (body : List LineCommand) {w : Ways} → IsNamed x → Parted range_parts rs → Each IsStepWorded body → IsWays w → Asks (ranges P here x rs body w)
  ranges_ask x [] body n h b w = a_turn w.line_end
  ranges_ask x (Single a ∷ rs) body n h b w =
      evaluates a h.0.0 (λ v. a_turn (stores x v n (a_pass Once body tt b (ranges_ask x rs body n h.1 b w) w)))
  ranges_ask x (Endless a c ∷ rs) body n h b w =
      evaluates a h.0.0 (λ v. evaluates c h.0.1.1.0 (λ u. a_turn (reads_two v u (λ i step.
      begins x i step None n (ranges_ask x rs body n h.1 b w) (a_pass (By x step None) body n b (ranges_ask x rs body n h.1 b w) w)))))
  ranges_ask x (UpTo a c d ∷ rs) body n h b w =
      evaluates a h.0.0 (λ v. evaluates c h.0.1.1.0 (λ u. evaluates d h.0.1.1.1.1.0 (λ z. a_turn (reads_two v u (λ i step. is_given (reading z) (λ end.
      begins x i step (Some end) n (ranges_ask x rs body n h.1 b w) (a_pass (By x step (Some end)) body n b (ranges_ask x rs body n h.1 b w) w)))))))

  calls_ask : (list : List Calling) {f : Timed} → Parted called_parts list → Asks f → Asks (calls P here list f)
  calls_ask [] h l = l
  calls_ask (c ∷ list) {f} h l =
      let i = apart IsPartWorded (target_parts c.target) (actuals_parts c.actuals ++ guard_parts c.condition) h.0 in
      let j = apart IsPartWorded (actuals_parts c.actuals) (guard_parts c.condition) i.1 in
      where_so c.condition (guard_worded c.condition j.1)
      (actuals_ask (as_actuals c.actuals) (as_passed c.actuals (actuals_worded c.actuals j.0))
      (λ vs. a_turn (points.by (Called false (entry_of here c.target) vs _) (routine_is here c.target word i.0, λ v. changed {c = popped} pops (calls_ask list h.1 l)))))
      (calls_ask list h.1 l)

  pushes : (p : Place) (level : ℕ) (function : Bool) (test : Option Bool) (s : State) → is_word p.routine ≡ true → IsFormed s → IsFormed (pushed p level function test s)
  pushes p level function test s w h = record { locals = h.locals; saved = h.saved; mark = h.mark; held = h.held; frames = (w, h.frames) }

  block_asks : {f : Timed} → Asks f → Asks (block P here f)
  block_asks l =
      goes_deeper (looked (λ s k. changed {c = pushed (place_at here) (level_of s + 1) false (Some s.test)} (λ t j. pushes (place_at here) (level_of s + 1) false (Some s.test) t word j)
      (a_turn (points.by (AtLine (next_line here) _) (word, λ v. changed {c = popped} pops l)))))

  do_asks : (list : List Calling) {f : Timed} → Parted called_parts list → Asks f → Asks (do_all P here list f)
  do_asks [] h l = a_turn (block_asks l)
  do_asks (c ∷ list) h l = calls_ask (c ∷ list) h l

  jumps_ask : (list : List Jumping) {l : Leave} {f : Timed} → Parted jumped_parts list → IsLeave l → Asks f → Asks (jumps P here list l f)
  jumps_ask [] h k l = l
  jumps_ask (j ∷ list) {l = m} h k l =
      let i = apart IsPartWorded (target_parts j.target) (guard_parts j.condition) h.0 in
      where_so j.condition (guard_worded j.condition i.1) (a_turn (points.by (Jumped (entry_of here j.target) m) (routine_is here j.target word i.0, k))) (jumps_ask list h.1 k l)

  quit_asks : (o : Option Timed) {l : Leave} → IsQuit o → IsLeave l → Asks (elim o [ None ↦ quit_frame (l []) | Some out ↦ out ])
  quit_asks None h l = quits_frame (l [])
  quit_asks (Some f) h l = h

  value_asks : (e : Expr) (o : Option Timed) {l : Leave} → IsExprWorded e → IsLeave l
      → Asks (elim o [ None ↦ in_function (ev P here e (λ v. turn (end_frame (l v)))) | Some out ↦ fault WrongQuit ])
  value_asks e None h l = in_its_function (evaluates e h (λ v. a_turn (ends_frame (l v))))
  value_asks e (Some f) h l = faulted {f = WrongQuit}

  quits : (o : Option Expr) {w : Ways} → Each IsPartWorded (result_parts o) → IsWays w → Asks (quit P here o w)
  quits None {w = ways} h w = a_turn (quit_asks ways.for_quit w.for_quit w.leave)
  quits (Some e) {w = ways} h w = a_turn (value_asks e ways.for_quit h.0 w.leave)

  starts_transaction : (a : Option Restartable) {f : Timed} → Asks f → Asks (start_transaction P here a f)
  starts_transaction a {f} l =
      names_ask (listed_by a) (a_turn (begins_transaction (restored_by a) (serial_by a) l (a_turn (points.by (Started f) l))))

  obeys : (c : Command) (o : Option Expr) (body : List LineCommand) {w : Ways} {f : Timed} → IsConditionWorded o → Each IsPartWorded (command_parts c) → Each IsStepWorded body → IsWays w → Asks f
      → Asks (obey P here c o body w f)
  obeys (Set list) o body k h b w l = where_so o k (assigns_all list (items assignment_parts list h) l) l
  obeys (Write list) o body k h b w l = where_so o k (outputs_all list (items output_parts list h) l) l
  obeys Halt o body k h b w l = where_so o k (a_turn ended) l
  obeys (Hang es) o body k h b w l = where_so o k (hangs_all es (items value_parts es h) l) l
  obeys (Job list) o body k h b w l = where_so o k (starts_all list (items started_parts list h) l) l
  obeys (Lock list) o body k h b w l = where_so o k (locks_all list (items locked_parts list h) l) l
  obeys (OpenDevice list) o body k h b w l = where_so o k (opens_all list (items opened_parts list h) l) l
  obeys (UseDevice es) o body k h b w l = where_so o k (uses_all es (items value_parts es h) l) l
  obeys (CloseDevice es) o body k h b w l = where_so o k (closes_all es (items value_parts es h) l) l
  obeys (Read list) o body k h b w l = where_so o k (inputs_all list (items input_parts list h) l) l
  obeys (Kill list) o body k h b w l = where_so o k (kills_all list (items killed_parts list h) l) l
  obeys (Merge list) o body k h b w l = where_so o k (merges_all list (items merged_parts list h) l) l
  obeys (If es) o body k h b w l = if_asks es (items value_parts es h) w.line_end l
  obeys Else o body k h b w l = a_turn (tests false w.line_end l)
  obeys (For v rs) o body k h b w l = local_asks v h.0 (λ x n. ranges_ask x rs body n (items range_parts rs h.1.1) b w)
  obeys Forever o body k h b w l = a_turn (a_pass Always body tt b (a_turn w.line_end) w)
  obeys (Do list) o body k h b w l = where_so o k (do_asks list (items called_parts list h) l) l
  obeys (Goto list) o body k h b w l = where_so o k (jumps_ask list (items jumped_parts list h) w.leave l) l
  obeys (Quit value) o body k h b w l = where_so o k (quits value h w) l
  obeys (New list) o body k h b w l = where_so o k (news_all list l) l
  obeys (TStart a) o body k h b w l = where_so o k (starts_transaction a l) l
  obeys TCommit o body k h b w l = where_so o k (a_turn (commits (a_turn begins_again) l)) l
  obeys TRestart o body k h b w l = where_so o k (a_turn (gives_back (a_turn begins_again))) l
  obeys TRollback o body k h b w l = where_so o k (a_turn (rolls_back l)) l
  obeys Break o body k h b w l = where_so o k (a_turn l) l

  obeys_all : (steps : List LineCommand) {w : Ways} → Each IsStepWorded steps → IsWays w → Asks (obey_all P here steps w)
  obeys_all [] h w = w.line_end
  obeys_all (step ∷ steps) h w = obeys step.command step.condition steps h.0.condition h.0.parts h.1 w (obeys_all steps h.1 w)

  -- Lines.

  moved_to : (p : Place) (fs : List Frame) → is_word p.routine ≡ true → Each IsFramed fs
      → Each IsFramed (elim fs as (λ _. List Frame) [ [] ↦ [] | f ∷ fs ↦ record f { place = p } ∷ fs ])
  moved_to p [] w h = tt
  moved_to p (f ∷ fs) w h = (w, h.1)

  stands : (p : Place) → is_word p.routine ≡ true → (s : State) → IsFormed s → IsFormed (at_place p s)
  stands p w s h = record { locals = h.locals; saved = h.saved; mark = h.mark; held = h.held; frames = moved_to p s.frames w h.frames }

  quits_before : {l : Leave} → IsLeave l → Asks (quit_before here l)
  quits_before l = changed {c = at_place (place_at (line_before here))} (stands (place_at (line_before here)) word) (quits_frame (l []))

  next_asks : {l : Leave} → IsLeave l → Asks (turn (P (AtLine (next_line here) l)))
  next_asks {l = m} l = a_turn (points.by (AtLine (next_line here) m) (word, l))

  -- the line is worded, if there is one
  line_asks : (o : Option Line) {l : Leave} → ((line : Line) → o ≡ Some line → IsLineWorded line) → IsLeave l → Asks (obey_line P here o l)
  line_asks None h l = quits_before l
  line_asks (Some line) {l = m} h l =
      looked (λ s k.
      chosen (nat_lt line.level (level_of s)) (quits_before l)
      (chosen (nat_lt (level_of s) line.level) (next_asks l)
      (changed {c = at_place (place_at here)} (stands (place_at here) word)
      (obeys_all line.steps {w = record {
        line_end = turn (P (AtLine (next_line here) m));
        for_quit = None;
        leave = m;
      }} (h line refl).steps (record { line_end = next_asks l; for_quit = tt; leave = l })))))

-- ---- images

-- one of a list
one_of : {X : Type 0} (P : X → Type 0) (xs : List X) (k : ℕ) (x : X) → Each P xs → slice_get xs k ≡ Some x → P x
one_of P [] k x h e = absurd cc
one_of {X} P (y ∷ xs) zero x h e = let p : y ≡ x = cc in let Q : X → Type 0 = P in subst Q p h.0
one_of P (y ∷ xs) (suc k) x h e = one_of P xs k x h.1 e

routine_lines : (image : List Routine) (r : List ℕ) → Each IsRoutineWorded image → Each IsLineWorded (lines_of image r)
routine_lines [] r h = tt
routine_lines (routine ∷ image) r h = by (bytes_eq routine.name r) (routine_lines image r h.1)
  where
    by : (b : Bool) → Each IsLineWorded (lines_of image r) → Each IsLineWorded (if b then routine.lines else lines_of image r)
    by true rest = h.0.lines
    by false rest = rest

line_is : (image : List Routine) (here : Here) (line : Line) → Each IsRoutineWorded image → line_at image here ≡ Some line → IsLineWorded line
line_is image here line h e = one_of IsLineWorded (lines_of image here.routine) (here.line - 1) line (routine_lines image here.routine h) e

-- what an entry names
record IsEntered (o : Option (Here × Line)) : Type 0 where
  line : (to : Here × Line) → o ≡ Some to → IsLineWorded to.1
  word : (to : Here × Line) → o ≡ Some to → is_word to.0.routine ≡ true

none_entered : IsEntered None
none_entered = record { line = λ to e. absurd cc; word = λ to e. absurd cc }

some_entered : (here : Here) (l : Line) → is_word here.routine ≡ true → IsLineWorded l → IsEntered (Some (here, l))
some_entered here l w h = record { line = λ to e. same to e; word = λ to e. at to e }
  where
    same : (to : Here × Line) → Some (here, l) ≡ Some to → IsLineWorded to.1
    same to e = let p : (here, l) ≡ to = cc in let Q : Here × Line → Type 0 = λ x. IsLineWorded x.1 in subst Q p h

    at : (to : Here × Line) → Some (here, l) ≡ Some to → is_word to.0.routine ≡ true
    at to e = let p : (here, l) ≡ to = cc in let Q : Here × Line → Type 0 = λ x. is_word x.0.routine ≡ true in subst Q p w

enters : (image : List Routine) (entry : Entry) → Each IsRoutineWorded image → is_word entry.routine ≡ true → IsEntered (entered image entry)
enters image entry h w = by (line_at image here) (λ l e. line_is image here l h e)
  where
    here : Here
    here = record { routine = entry.routine; line = line_number image entry }

    by : (o : Option Line) → ((l : Line) → o ≡ Some l → IsLineWorded l) → IsEntered (elim o [ None ↦ None | Some l ↦ Some (here, l) ])
    by None k = none_entered
    by (Some l) k = some_entered here l w (k l refl)

module _ (image : List Routine) (worded : Each IsRoutineWorded image) (P : Points) (points : ArePoints P) where
  call_asks : (function : Bool) (o : Option (Here × Line)) (vs : List (Option (List ℕ))) {l : Leave} → IsEntered o → IsLeave l → Asks (call P function o vs l)
  call_asks function None vs h l = faulted
  call_asks function (Some to) vs {l = m} h l =
      chosen (nat_eq to.1.level 1)
      (chosen (nat_lt (length to.1.formals) (length vs)) faulted
      (goes_deeper (changed {c = λ s. passed to.1.formals vs (pushed (place_at to.0) 1 function (if function then Some s.test else None) s)}
      (λ s k. passes_on to.1.formals vs (pushed (place_at to.0) 1 function (if function then Some s.test else None) s) (h.line to refl).formals (record {
        locals = k.locals;
        saved = k.saved;
        mark = k.mark;
        held = k.held;
        frames = (h.word to refl, k.frames);
      }))
      (some_turns (length to.1.formals) (a_turn (points.by (AtLine to.0 m) (h.word to refl, l)))))))
      faulted

  jump_asks : (o : Option (Here × Line)) {l : Leave} → IsEntered o → IsLeave l → Asks (jump image P o l)
  jump_asks None h l = faulted
  jump_asks (Some to) {l = m} h l =
      looked (λ s k. chosen (may_go s (place_at to.0) to.1.level (levels_of image to.0.routine)) (a_turn (points.by (AtLine to.0 m) (h.word to refl, l))) (faulted {f = NoLine}))

  in_a_pass : (loop : Loop) {f g : Timed} {w : Ways} → IsLoop loop → Asks f → Asks g → IsWays w → IsWays (in_pass loop f g w)
  in_a_pass loop h l m w = record { line_end = a_turn (goes_again loop h l m); for_quit = a_turn w.line_end; leave = w.leave }

  point_asks : (p : Point) → IsPoint p → Asks (at_point image P p)
  point_asks (AtLine here leave) h = line_asks P points here h.0 (line_at image here) (λ line e. line_is image here line worded e) h.1
  point_asks (Called function entry vs leave) h = call_asks function (entered image entry) vs (enters image entry worded h.0) h.1
  point_asks (Jumped entry leave) h = jump_asks (entered image entry) (enters image entry worded h.0) h.1
  point_asks (Pass here loop body after ways) h =
      obeys_all P points here h.word body h.body_is (in_a_pass loop h.loop_is h.after_is (points.by (Pass here loop body after ways) h) h.ways_are)
  point_asks (Started rest) h = restarts (a_turn (points.by (Started rest) h)) h

points_ask : (image : List Routine) → Each IsRoutineWorded image → (d : ℕ) → ArePoints (points_of image d)
points_ask image w zero = record { by = λ p h. record { by = λ n k s rs e f t. tt } }
points_ask image w (suc d) = record { by = λ p h. record { by = (point_asks image w (points_of image d) (points_ask image w d) p h).by } }

starts_ask : (image : List Routine) (job : Start) (d : ℕ) → Each IsRoutineWorded image → is_word job.entry.routine ≡ true → Asks (starting image job d)
starts_ask image job d w h =
    a_turn (to_its_device principal _
    (λ r p. (points_ask image w d).by (Called false job.entry job.values _) (h, λ v. ended)))

opens : (bounds : Bounds) (job : ℕ) → IsFormed (opening bounds job)
opens bounds job = record { locals = refl; saved = tt; mark = tt; held = refl; frames = tt }

entry_word : (e : Entry) → is_entry e ≡ true → is_word e.routine ≡ true
entry_word e h = (both_true _ (is_word e.routine) h).1

pub are_written : (program : Program) (job : Start) (n : ℕ) (replies : List Reply) (a : Ask) (locals : Locals) (at : List Place)
    → Each IsRoutineWorded program.routines → is_entry job.entry ≡ true → list_all is_reply replies ≡ true
    → next program job n replies ≡ Needs a locals at → (is_ask a ≡ true) × (are_locals locals ≡ true) × Each IsLine at
are_written program job n replies a locals at w h t e =
    let Q : Outcome → Type 0 = λ o. IsFine o in
    subst Q e ((starts_ask program.routines job (suc n) w (entry_word job.entry h)).by n no_restart (opening program.bounds job.job) replies none_back (opens program.bounds job.job) t)
