-- Where points lead to points as deep as there are turns, a run keeps what it comes to: with more turns, and at another such depth.
use Rattle.std.proofs.Common.{◌≡◌, ◌⊎◌, inl, inr, ℕ, zero, suc, ◌+◌, ◌-◌, ◌<◌, ◌≤◌, List, [], ◌∷◌, length, map, Bool, true, false, Option, Some, None, refl, sym, subst, arith}
use Rattle.std.proofs.lemmas.Bool.{cases_lt}
use Rattle.std.specs.Prelude.{ℤ, nat_lt, nat_eq, if◌then◌else◌}
use Rattle.mj_oper.specs.Operators.{binary_value, unary_value, truth_value}
use Rattle.mj_num.specs.Number.{reading}
use Rattle.mj_subs.specs.Name.{Name}
use Rattle.mj_ask.specs.declared.ask.Reply.{Reply}
use Rattle.mj_ask.specs.declared.entry.Entry.{Entry}
use Rattle.mj_ast.specs.declared.expr.Scope.TheVariants.{Local}
use Rattle.mj_ast.specs.declared.routine.FormatMark.{FormatMark}
use Rattle.mj_ast.specs.declared.function.NameFunction.{NameFunction}
use Rattle.mj_ast.specs.Syntax.{Expr, Chain, Tails, Done, Then, Operand, Literal, Value, Intrinsic, Unary, Group, Call, About, Select, Variable, Var, Exprs, No, More as Another, Choices, Last, Before, Extrinsic, Actuals, NoActual, Given, Omitted, as_actuals, Destination, Plain, Pieces, Targets, One, Several, Assignment, Killed, Gone, Spared, Merged, Output, Shown, Format, Coded, Called as Calling, Jumped as Jumping, Started as Starting, LockNames, Lone, Together, Locked, Opened, Received, Input, Prompted, Arranged, Into, Range, Single, Endless, UpTo, Command, Set, Write, Halt, Hang, Job, Lock, OpenDevice, UseDevice, CloseDevice, Read, Kill, Merge, If, Else, For, Forever, Do, Goto, Quit, New, Restartable, TStart, TCommit, TRestart, TRollback, Break, LineCommand, Line, Routine}
use Rattle.mj_semantics.specs.State.{State, principal, level_of, special_value, set_test, kill_except, passed, popped, pushed, at_place, may_go}
use Rattle.mj_semantics.specs.Outcome.{Outcome, More, Handler, Timed, no_restart, turn, fault}
use Rattle.mj_text.specs.declared.fault.Fault.TheVariants.{Quit as WrongQuit}
use Rattle.mj_semantics.specs.Lines.{Here, place_at, next_line, line_before, line_at, levels_of, entered, entry_of}
use Rattle.mj_semantics.specs.Points.{Leave, Ways, Loop, Point, AtLine, Called, Jumped, Pass, Started, Points}
use Rattle.mj_semantics.specs.Functions.{call_value, optional}
use Rattle.mj_semantics.specs.Evaluation.{name_of, named_for, ev, ev_tails, ev_operand, ev_choices, ev_name, ev_named, ev_all, ev_actuals, ev_local, when}
use Rattle.mj_semantics.specs.Commands.{Aim, Whole, Part, mark_byte, end_frame, quit_frame, in_function, quit, ev_destination, ev_destinations, assign_to, assign_all, kill, kill_list, kill_all, merge, merge_all, arrange, output, output_all, ev_timeout, hang_all, start_all, ev_names, ev_lock_names, lock_list, lock_all, open_all, use_all, close_all, receive, input, read_all, ifs, ranges, calls, block, jumps, do_all, if_all, start_transaction, obey, obey_all}
use Rattle.mj_semantics.specs.Transactions.{restored_by, listed_by, serial_by}
use Rattle.mj_semantics.specs.Program.{Program}
use Rattle.mj_semantics.specs.Job.{quit_before, obey_line, call, jump, in_pass, at_point, points_of, Start, start, opening, run, next}
use Rattle.mj_semantics.proofs.Words.{Stays, spent, same, Back, Keeps, none_back, less, no_turns, turned, a_turn, some_turns, looked, changed, chosen, ended, faulted, is_given, is_composed, to_its_device, restarts, reads, is_about, stores, puts, puts_all, removes, names_keep, takes_nodes, puts_nodes, news_all, ends_frame, quits_frame, in_its_function, goes_deeper, writes, tabs, writes_code, tests, goes_again, begins, reads_two, hangs, starts_job, unlocks_all, locks, opens, uses, closes, reads_input, begins_transaction, commits, rolls_back, gives_back, begins_again}

data KeepsQuit (more b : ℕ) : Option Timed → Option Timed → Type 0 where
  no_for : KeepsQuit more b None None
  a_for : {f g : Timed} → Keeps more b f g → KeepsQuit more b (Some f) (Some g)

abbrev KeepsLeave : ℕ → ℕ → Leave → Leave → Type 0
KeepsLeave more b l m = (v : List ℕ) → Keeps more b (l v) (m v)

record KeepsWays (more b : ℕ) (w v : Ways) : Type 0 where
  line_end : Keeps more b w.line_end v.line_end
  for_quit : KeepsQuit more b w.for_quit v.for_quit
  leave : KeepsLeave more b w.leave v.leave

-- points that differ only in what comes after
data KeepsPoint (more b : ℕ) : Point → Point → Type 0 where
  at_line : {here : Here} {l m : Leave} → KeepsLeave more b l m → KeepsPoint more b (AtLine here l) (AtLine here m)
  called : {function : Bool} {entry : Entry} {vs : List (Option (List ℕ))} {l m : Leave} → KeepsLeave more b l m → KeepsPoint more b (Called function entry vs l) (Called function entry vs m)
  jumped : {entry : Entry} {l m : Leave} → KeepsLeave more b l m → KeepsPoint more b (Jumped entry l) (Jumped entry m)
  pass : {here : Here} {loop : Loop} {body : List LineCommand} {f g : Timed} {w v : Ways}
      → Keeps more b f g → KeepsWays more b w v → KeepsPoint more b (Pass here loop body f w) (Pass here loop body g v)
  started : {f g : Timed} → Keeps more b f g → KeepsPoint more b (Started f) (Started g)

record KeepsPoints (more b : ℕ) (P Q : Points) : Type 0 where
  by : {p q : Point} → KeepsPoint more b p q → Keeps more b (P p) (Q q)

less_quit : {more b : ℕ} {f g : Option Timed} → KeepsQuit more (suc b) f g → KeepsQuit more b f g
less_quit no_for = no_for
less_quit (a_for l) = a_for (less l)

less_leave : {more b : ℕ} {l m : Leave} → KeepsLeave more (suc b) l m → KeepsLeave more b l m
less_leave l v = less (l v)

less_ways : {more b : ℕ} {w v : Ways} → KeepsWays more (suc b) w v → KeepsWays more b w v
less_ways l = record { line_end = less l.line_end; for_quit = less_quit l.for_quit; leave = less_leave l.leave }

module _ (more b : ℕ) (P Q : Points) (keeps : KeepsPoints more b P Q) (here : Here) where
  -- Expressions.

  mutual
    evaluates : (e : Expr) {f g : List ℕ → Timed} → ((v : List ℕ) → Keeps more (suc b) (f v) (g v)) → Keeps more (suc b) (ev P here e f) (ev Q here e g)
    evaluates (Chain x ts) l = operand_keeps x (λ v. tails_keep v ts l)

    tails_keep : (v : List ℕ) (ts : Tails) {f g : List ℕ → Timed} → ((v : List ℕ) → Keeps more (suc b) (f v) (g v)) → Keeps more (suc b) (ev_tails P here v ts f) (ev_tails Q here v ts g)
    tails_keep v Done l = l v
    tails_keep v (Then op x ts) l = operand_keeps x (λ w. a_turn (is_composed (λ limit. binary_value limit op v w) (λ u. tails_keep u ts l)))

    operand_keeps : (x : Operand) {f g : List ℕ → Timed} → ((v : List ℕ) → Keeps more (suc b) (f v) (g v)) → Keeps more (suc b) (ev_operand P here x f) (ev_operand Q here x g)
    operand_keeps (Literal t) l = a_turn (l t)
    operand_keeps (Value v) l = name_keeps v (λ x. reads x l)
    operand_keeps (Intrinsic v) l = a_turn (looked (λ s. l (special_value v s)))
    operand_keeps (Unary op x) l = operand_keeps x (λ v. a_turn (is_given (unary_value op v) l))
    operand_keeps (Group e) l = evaluates e l
    operand_keeps (Call f es) l = all_keep es (λ vs. a_turn (is_composed (λ limit. call_value limit f vs) l))
    operand_keeps (About f v es) l = named_keeps f v (λ x. all_keep es (λ vs. a_turn (is_about f x (optional 0 vs) l)))
    operand_keeps (Select choices) l = choices_keep choices l
    operand_keeps (Extrinsic t es) l = actuals_keep es (λ vs. turned (keeps.by (called (λ v. less (changed {c = popped} (l v))))))

    choices_keep : (x : Choices) {f g : List ℕ → Timed} → ((v : List ℕ) → Keeps more (suc b) (f v) (g v)) → Keeps more (suc b) (ev_choices P here x f) (ev_choices Q here x g)
    choices_keep (Last c e) l = evaluates c (λ v. a_turn (is_given (truth_value v) (λ t. chosen t (evaluates e (λ w. a_turn (l w))) (a_turn faulted))))
    choices_keep (Before c e x) l = evaluates c (λ v. a_turn (is_given (truth_value v) (λ t. chosen t (evaluates e (λ w. a_turn (l w))) (choices_keep x l))))

    name_keeps : (v : Variable) {f g : Name → Timed} → ((x : Name) → Keeps more (suc b) (f x) (g x)) → Keeps more (suc b) (ev_name P here v f) (ev_name Q here v g)
    name_keeps (Var scope word es) l = all_keep es (λ ss. a_turn (is_given (name_of scope word ss) l))

    named_keeps : (k : NameFunction) (v : Variable) {f g : Name → Timed} → ((x : Name) → Keeps more (suc b) (f x) (g x)) → Keeps more (suc b) (ev_named P here k v f) (ev_named Q here k v g)
    named_keeps k (Var scope word es) l = all_keep es (λ ss. a_turn (is_given (named_for k scope word ss) l))

    all_keep : (es : Exprs) {f g : List (List ℕ) → Timed} → ((vs : List (List ℕ)) → Keeps more (suc b) (f vs) (g vs)) → Keeps more (suc b) (ev_all P here es f) (ev_all Q here es g)
    all_keep No l = l []
    all_keep (Another e es) l = evaluates e (λ v. all_keep es (λ vs. l (v ∷ vs)))

    actuals_keep : (es : Actuals) {f g : List (Option (List ℕ)) → Timed} → ((vs : List (Option (List ℕ))) → Keeps more (suc b) (f vs) (g vs))
        → Keeps more (suc b) (ev_actuals P here es f) (ev_actuals Q here es g)
    actuals_keep NoActual l = l []
    actuals_keep (Given e es) l = evaluates e (λ v. actuals_keep es (λ vs. l (Some v ∷ vs)))
    actuals_keep (Omitted es) l = actuals_keep es (λ vs. l (None ∷ vs))

  local_keeps : (v : Variable) {f g : Name → Timed} → ((x : Name) → Keeps more (suc b) (f x) (g x)) → Keeps more (suc b) (ev_local P here v f) (ev_local Q here v g)
  local_keeps (Var scope word es) l = all_keep es (λ ss. a_turn (is_given (name_of Local word ss) l))

  where_so : (o : Option Expr) {f g f' g' : Timed} → Keeps more (suc b) f g → Keeps more (suc b) f' g' → Keeps more (suc b) (when P here o f f') (when Q here o g g')
  where_so None l m = l
  where_so (Some e) l m = evaluates e (λ v. a_turn (is_given (truth_value v) (λ t. chosen t l m)))

  -- Commands.

  destination_keeps : (d : Destination) {f g : Aim → Timed} → ((t : Aim) → Keeps more (suc b) (f t) (g t)) → Keeps more (suc b) (ev_destination P here d f) (ev_destination Q here d g)
  destination_keeps (Plain v) l = name_keeps v (λ x. l (Whole x))
  destination_keeps (Pieces v es) l = name_keeps v (λ x. all_keep es (λ ts. l (Part x ts)))

  destinations_keep : (list : List Destination) {f g : List Aim → Timed} → ((ts : List Aim) → Keeps more (suc b) (f ts) (g ts))
      → Keeps more (suc b) (ev_destinations P here list f) (ev_destinations Q here list g)
  destinations_keep [] l = l []
  destinations_keep (d ∷ list) l = destination_keeps d (λ t. destinations_keep list (λ ts. l (t ∷ ts)))

  assigns_to : (targets : Targets) (e : Expr) {f g : Timed} → Keeps more (suc b) f g → Keeps more (suc b) (assign_to P here targets e f) (assign_to Q here targets e g)
  assigns_to (One d) e l = destination_keeps d (λ t. evaluates e (λ v. a_turn (puts t v l)))
  assigns_to (Several list) e l = destinations_keep list (λ ts. evaluates e (λ v. puts_all ts v (a_turn l)))

  assigns_all : (list : List Assignment) {f g : Timed} → Keeps more (suc b) f g → Keeps more (suc b) (assign_all P here list f) (assign_all Q here list g)
  assigns_all [] l = l
  assigns_all (a ∷ list) l = assigns_to a.targets a.value (assigns_all list l)

  kills : (x : Killed) {f g : Timed} → Keeps more (suc b) f g → Keeps more (suc b) (kill P here x f) (kill Q here x g)
  kills (Gone v) l = name_keeps v (λ x. a_turn (removes x l))
  kills (Spared words) l = names_keep words (a_turn (changed {c = kill_except words} l))

  kills_list : (list : List Killed) {f g : Timed} → Keeps more (suc b) f g → Keeps more (suc b) (kill_list P here list f) (kill_list Q here list g)
  kills_list [] l = l
  kills_list (x ∷ list) l = kills x (kills_list list l)

  kills_all : (list : List Killed) {f g : Timed} → Keeps more (suc b) f g → Keeps more (suc b) (kill_all P here list f) (kill_all Q here list g)
  kills_all [] l = a_turn (changed {c = kill_except []} l)
  kills_all (x ∷ list) l = kills_list (x ∷ list) l

  merges : (m : Merged) {f g : Timed} → Keeps more (suc b) f g → Keeps more (suc b) (merge P here m f) (merge Q here m g)
  merges m l = name_keeps m.into (λ x. name_keeps m.from (λ y. takes_nodes x y (a_turn (puts_nodes x l))))

  merges_all : (list : List Merged) {f g : Timed} → Keeps more (suc b) f g → Keeps more (suc b) (merge_all P here list f) (merge_all Q here list g)
  merges_all [] l = l
  merges_all (m ∷ list) l = merges m (merges_all list l)

  arranges : (marks : List FormatMark) (o : Option Expr) {f g : Timed} → Keeps more (suc b) f g → Keeps more (suc b) (arrange P here marks o f) (arrange Q here marks o g)
  arranges marks None l = a_turn (writes (map mark_byte marks) l)
  arranges marks (Some e) l = evaluates e (λ v. a_turn (tabs marks v l))

  outputs : (o : Output) {f g : Timed} → Keeps more (suc b) f g → Keeps more (suc b) (output P here o f) (output Q here o g)
  outputs (Shown e) l = evaluates e (λ v. a_turn (writes v l))
  outputs (Format layout) l = arranges layout.marks layout.column l
  outputs (Coded e) l = evaluates e (λ v. a_turn (writes_code v l))

  outputs_all : (list : List Output) {f g : Timed} → Keeps more (suc b) f g → Keeps more (suc b) (output_all P here list f) (output_all Q here list g)
  outputs_all [] l = l
  outputs_all (o ∷ list) l = outputs o (outputs_all list l)

  timeout_keeps : (o : Option Expr) {f g : Option ℤ → Timed} → ((t : Option ℤ) → Keeps more (suc b) (f t) (g t)) → Keeps more (suc b) (ev_timeout P here o f) (ev_timeout Q here o g)
  timeout_keeps None l = l None
  timeout_keeps (Some e) l = evaluates e (λ v. a_turn (is_given (reading v) (λ n. l (Some n))))

  hangs_all : (es : List Expr) {f g : Timed} → Keeps more (suc b) f g → Keeps more (suc b) (hang_all P here es f) (hang_all Q here es g)
  hangs_all [] l = l
  hangs_all (e ∷ es) l = evaluates e (λ v. a_turn (hangs v (hangs_all es l)))

  starts_all : (list : List Starting) {f g : Timed} → Keeps more (suc b) f g → Keeps more (suc b) (start_all P here list f) (start_all Q here list g)
  starts_all [] l = l
  starts_all (s ∷ list) l =
      actuals_keep (as_actuals s.actuals) (λ vs. timeout_keeps s.timeout (λ t. a_turn (starts_job (entry_of here s.target) vs t (starts_all list l))))

  names_of_keep : (vs : List Variable) {f g : List Name → Timed} → ((xs : List Name) → Keeps more (suc b) (f xs) (g xs)) → Keeps more (suc b) (ev_names P here vs f) (ev_names Q here vs g)
  names_of_keep [] l = l []
  names_of_keep (v ∷ vs) l = name_keeps v (λ x. names_of_keep vs (λ xs. l (x ∷ xs)))

  lock_names_keep : (o : LockNames) {f g : List Name → Timed} → ((xs : List Name) → Keeps more (suc b) (f xs) (g xs)) → Keeps more (suc b) (ev_lock_names P here o f) (ev_lock_names Q here o g)
  lock_names_keep (Lone v) l = names_of_keep (v ∷ []) l
  lock_names_keep (Together vs) l = names_of_keep vs l

  locks_list : (list : List Locked) {f g : Timed} → Keeps more (suc b) f g → Keeps more (suc b) (lock_list P here list f) (lock_list Q here list g)
  locks_list [] l = l
  locks_list (x ∷ list) l = lock_names_keep x.names (λ xs. timeout_keeps x.timeout (λ t. locks x.mode xs t (locks_list list l)))

  locks_all : (list : List Locked) {f g : Timed} → Keeps more (suc b) f g → Keeps more (suc b) (lock_all P here list f) (lock_all Q here list g)
  locks_all [] l = a_turn (unlocks_all l)
  locks_all (x ∷ list) l = locks_list (x ∷ list) l

  opens_all : (list : List Opened) {f g : Timed} → Keeps more (suc b) f g → Keeps more (suc b) (open_all P here list f) (open_all Q here list g)
  opens_all [] l = l
  opens_all (o ∷ list) l = evaluates o.device (λ v. timeout_keeps o.timeout (λ t. a_turn (opens v t (opens_all list l))))

  uses_all : (es : List Expr) {f g : Timed} → Keeps more (suc b) f g → Keeps more (suc b) (use_all P here es f) (use_all Q here es g)
  uses_all [] l = l
  uses_all (e ∷ es) l = evaluates e (λ v. a_turn (uses v (uses_all es l)))

  closes_all : (es : List Expr) {f g : Timed} → Keeps more (suc b) f g → Keeps more (suc b) (close_all P here es f) (close_all Q here es g)
  closes_all [] l = l
  closes_all (e ∷ es) l = evaluates e (λ v. a_turn (closes v (closes_all es l)))

  receives : (r : Received) {f g : Timed} → Keeps more (suc b) f g → Keeps more (suc b) (receive P here r f) (receive Q here r g)
  receives r l = name_keeps r.variable (λ x. timeout_keeps r.timeout (λ t. a_turn (reads_input r.mode t (λ v. a_turn (stores x v l)))))

  inputs : (i : Input) {f g : Timed} → Keeps more (suc b) f g → Keeps more (suc b) (input P here i f) (input Q here i g)
  inputs (Prompted text) l = outputs (Shown (Chain (Literal text) Done)) l
  inputs (Arranged layout) l = arranges layout.marks layout.column l
  inputs (Into r) l = receives r l

  inputs_all : (list : List Input) {f g : Timed} → Keeps more (suc b) f g → Keeps more (suc b) (read_all P here list f) (read_all Q here list g)
  inputs_all [] l = l
  inputs_all (i ∷ list) l = inputs i (inputs_all list l)

  ifs_keep : (es : List Expr) {f g f' g' : Timed} → Keeps more (suc b) f g → Keeps more (suc b) f' g' → Keeps more (suc b) (ifs P here es f f') (ifs Q here es g g')
  ifs_keep [] l m = m
  ifs_keep (e ∷ es) l m = evaluates e (λ v. a_turn (is_given (truth_value v) (λ t. changed {c = set_test t} (chosen t (ifs_keep es l m) l))))

  if_keeps : (es : List Expr) {f g f' g' : Timed} → Keeps more (suc b) f g → Keeps more (suc b) f' g' → Keeps more (suc b) (if_all P here es f f') (if_all Q here es g g')
  if_keeps [] l m = a_turn (tests true l m)
  if_keeps (e ∷ es) l m = ifs_keep (e ∷ es) l m

  ranges_keep : (x : Name) (rs : List Range) (body : List LineCommand) {w v : Ways} → KeepsWays more (suc b) w v → Keeps more (suc b) (ranges P here x rs body w) (ranges Q here x rs body v)
  ranges_keep x [] body w = a_turn w.line_end
  ranges_keep x (Single a ∷ rs) body w = evaluates a (λ v. turned (stores x v (keeps.by (pass (less (ranges_keep x rs body w)) (less_ways w)))))
  ranges_keep x (Endless a c ∷ rs) body w =
      evaluates a (λ v. evaluates c (λ u. turned (reads_two v u (λ i step.
      begins x i step None (less (ranges_keep x rs body w)) (keeps.by (pass (less (ranges_keep x rs body w)) (less_ways w)))))))
  ranges_keep x (UpTo a c d ∷ rs) body w =
      evaluates a (λ v. evaluates c (λ u. evaluates d (λ z. turned (reads_two v u (λ i step. is_given (reading z) (λ end.
      begins x i step (Some end) (less (ranges_keep x rs body w)) (keeps.by (pass (less (ranges_keep x rs body w)) (less_ways w)))))))))

  calls_keep : (list : List Calling) {f g : Timed} → Keeps more (suc b) f g → Keeps more (suc b) (calls P here list f) (calls Q here list g)
  calls_keep [] l = l
  calls_keep (c ∷ list) l =
      where_so c.condition (actuals_keep (as_actuals c.actuals) (λ vs. turned (keeps.by (called (λ v. less (changed {c = popped} (calls_keep list l))))))) (calls_keep list l)

  block_keeps : {f g : Timed} → Keeps more (suc b) f g → Keeps more (suc b) (block P here f) (block Q here g)
  block_keeps l =
      goes_deeper (looked (λ s. changed {c = pushed (place_at here) (level_of s + 1) false (Some s.test)}
      (turned (keeps.by (at_line (λ v. less (changed {c = popped} l)))))))

  do_keeps : (list : List Calling) {f g : Timed} → Keeps more (suc b) f g → Keeps more (suc b) (do_all P here list f) (do_all Q here list g)
  do_keeps [] l = a_turn (block_keeps l)
  do_keeps (c ∷ list) l = calls_keep (c ∷ list) l

  jumps_keep : (list : List Jumping) {l m : Leave} {f g : Timed} → KeepsLeave more (suc b) l m → Keeps more (suc b) f g → Keeps more (suc b) (jumps P here list l f) (jumps Q here list m g)
  jumps_keep [] k l = l
  jumps_keep (j ∷ list) k l = where_so j.condition (turned (keeps.by (jumped (less_leave k)))) (jumps_keep list k l)

  quit_keeps : {l m : Leave} {f g : Option Timed} → KeepsQuit more (suc b) f g → KeepsLeave more (suc b) l m
      → Keeps more (suc b) (elim f [ None ↦ quit_frame (l []) | Some out ↦ out ]) (elim g [ None ↦ quit_frame (m []) | Some out ↦ out ])
  quit_keeps no_for l = quits_frame (l [])
  quit_keeps (a_for k) l = k

  value_keeps : (e : Expr) {l m : Leave} {f g : Option Timed} → KeepsQuit more (suc b) f g → KeepsLeave more (suc b) l m
      → Keeps more (suc b) (elim f [ None ↦ in_function (ev P here e (λ v. turn (end_frame (l v)))) | Some out ↦ fault WrongQuit ])
      (elim g [ None ↦ in_function (ev Q here e (λ v. turn (end_frame (m v)))) | Some out ↦ fault WrongQuit ])
  value_keeps e no_for l = in_its_function (evaluates e (λ v. a_turn (ends_frame (l v))))
  value_keeps e (a_for k) l = faulted

  quits : (o : Option Expr) {w v : Ways} → KeepsWays more (suc b) w v → Keeps more (suc b) (quit P here o w) (quit Q here o v)
  quits None w = a_turn (quit_keeps w.for_quit w.leave)
  quits (Some e) w = a_turn (value_keeps e w.for_quit w.leave)

  starts_transaction : (a : Option Restartable) {f g : Timed} → Keeps more (suc b) f g → Keeps more (suc b) (start_transaction P here a f) (start_transaction Q here a g)
  starts_transaction a l =
      names_keep (listed_by a) (a_turn (begins_transaction (restored_by a) (serial_by a) l (turned (keeps.by (started (less l))))))

  obeys : (c : Command) (o : Option Expr) (body : List LineCommand) {w v : Ways} {f g : Timed} → KeepsWays more (suc b) w v → Keeps more (suc b) f g
      → Keeps more (suc b) (obey P here c o body w f) (obey Q here c o body v g)
  obeys (Set list) o body w l = where_so o (assigns_all list l) l
  obeys (Write list) o body w l = where_so o (outputs_all list l) l
  obeys Halt o body w l = where_so o (a_turn ended) l
  obeys (Hang es) o body w l = where_so o (hangs_all es l) l
  obeys (Job list) o body w l = where_so o (starts_all list l) l
  obeys (Lock list) o body w l = where_so o (locks_all list l) l
  obeys (OpenDevice list) o body w l = where_so o (opens_all list l) l
  obeys (UseDevice es) o body w l = where_so o (uses_all es l) l
  obeys (CloseDevice es) o body w l = where_so o (closes_all es l) l
  obeys (Read list) o body w l = where_so o (inputs_all list l) l
  obeys (Kill list) o body w l = where_so o (kills_all list l) l
  obeys (Merge list) o body w l = where_so o (merges_all list l) l
  obeys (If es) o body w l = if_keeps es w.line_end l
  obeys Else o body w l = a_turn (tests false w.line_end l)
  obeys (For v rs) o body w l = local_keeps v (λ x. ranges_keep x rs body w)
  obeys Forever o body w l = turned (keeps.by (pass (less (a_turn w.line_end)) (less_ways w)))
  obeys (Do list) o body w l = where_so o (do_keeps list l) l
  obeys (Goto list) o body w l = where_so o (jumps_keep list w.leave l) l
  obeys (Quit value) o body w l = where_so o (quits value w) l
  obeys (New list) o body w l = where_so o (news_all list l) l
  obeys (TStart a) o body w l = where_so o (starts_transaction a l) l
  obeys TCommit o body w l = where_so o (a_turn (commits (a_turn begins_again) l)) l
  obeys TRestart o body w l = where_so o (a_turn (gives_back (a_turn begins_again))) l
  obeys TRollback o body w l = where_so o (a_turn (rolls_back l)) l
  obeys Break o body w l = where_so o (a_turn l) l

  obeys_all : (steps : List LineCommand) {w v : Ways} → KeepsWays more (suc b) w v → Keeps more (suc b) (obey_all P here steps w) (obey_all Q here steps v)
  obeys_all [] w = w.line_end
  obeys_all (step ∷ steps) w = obeys step.command step.condition steps w (obeys_all steps w)

  -- Lines.

  quits_before : {l m : Leave} → KeepsLeave more (suc b) l m → Keeps more (suc b) (quit_before here l) (quit_before here m)
  quits_before l = changed {c = at_place (place_at (line_before here))} (quits_frame (l []))

  next_keeps : {l m : Leave} → KeepsLeave more (suc b) l m → Keeps more (suc b) (turn (P (AtLine (next_line here) l))) (turn (Q (AtLine (next_line here) m)))
  next_keeps l = turned (keeps.by (at_line (less_leave l)))

  line_keeps : (o : Option Line) {l m : Leave} → KeepsLeave more (suc b) l m → Keeps more (suc b) (obey_line P here o l) (obey_line Q here o m)
  line_keeps None l = quits_before l
  line_keeps (Some line) l =
      looked (λ s.
      chosen (nat_lt line.level (level_of s)) (quits_before l)
      (chosen (nat_lt (level_of s) line.level) (next_keeps l)
      (changed {c = at_place (place_at here)} (obeys_all line.steps (record { line_end = next_keeps l; for_quit = no_for; leave = l })))))

module _ (image : List Routine) (more b : ℕ) (P Q : Points) (keeps : KeepsPoints more b P Q) where
  call_keeps : (function : Bool) (o : Option (Here × Line)) (vs : List (Option (List ℕ))) {l m : Leave} → KeepsLeave more (suc b) l m
      → Keeps more (suc b) (call P function o vs l) (call Q function o vs m)
  call_keeps function None vs l = faulted
  call_keeps function (Some to) vs l =
      chosen (nat_eq to.1.level 1)
      (chosen (nat_lt (length to.1.formals) (length vs)) faulted
      (goes_deeper (changed {c = λ s. passed to.1.formals vs (pushed (place_at to.0) 1 function (if function then Some s.test else None) s)}
      (some_turns (length to.1.formals) (turned (keeps.by (at_line (less_leave l))))))))
      faulted

  jump_keeps : (o : Option (Here × Line)) {l m : Leave} → KeepsLeave more (suc b) l m → Keeps more (suc b) (jump image P o l) (jump image Q o m)
  jump_keeps None l = faulted
  jump_keeps (Some to) l =
      looked (λ s. chosen (may_go s (place_at to.0) to.1.level (levels_of image to.0.routine)) (turned (keeps.by (at_line (less_leave l)))) faulted)

  in_a_pass : (loop : Loop) {f g f' g' : Timed} {w v : Ways} → Keeps more (suc b) f g → Keeps more b f' g'
      → KeepsWays more (suc b) w v → KeepsWays more (suc b) (in_pass loop f f' w) (in_pass loop g g' v)
  in_a_pass loop l m w = record { line_end = turned (goes_again loop (less l) m); for_quit = a_for (a_turn w.line_end); leave = w.leave }

  point_keeps : {p q : Point} → KeepsPoint more (suc b) p q → Keeps more (suc b) (at_point image P p) (at_point image Q q)
  point_keeps (at_line {here = here} l) = line_keeps more b P Q keeps here (line_at image here) l
  point_keeps (called {function = function} {entry = entry} {vs = vs} l) = call_keeps function (entered image entry) vs l
  point_keeps (jumped {entry = entry} l) = jump_keeps (entered image entry) l
  point_keeps (pass {here = here} {loop = loop} {body = body} l w) =
      obeys_all more b P Q keeps here body (in_a_pass loop l (keeps.by (pass (less l) (less_ways w))) w)
  point_keeps (started l) = restarts (turned (keeps.by (started (less l)))) l

-- two depths of at least b
points_keep : (image : List Routine) (more b d e : ℕ) → b ≤ d → b ≤ e → KeepsPoints more b (points_of image d) (points_of image e)
points_keep image more zero d e lt le = record { by = λ l. no_turns _ _ }
points_keep image more (suc b) zero e lt le = absurd (omega arith)
points_keep image more (suc b) (suc d) zero lt le = absurd (omega arith)
points_keep image more (suc b) (suc d) (suc e) lt le =
    record { by = λ l. record { by = (point_keeps image more b (points_of image d) (points_of image e) (points_keep image more b d e (omega arith) (omega arith)) l).by } }

-- what a job does, at two depths
starts_keep : (image : List Routine) (job : Start) (more d e n : ℕ) → n < d → n < e → Keeps more (suc n) (start image job d) (start image job e)
starts_keep image job more d e n lt lt' =
    let points : KeepsPoints more (suc n) (points_of image d) (points_of image e) = points_keep image more (suc n) d e (omega arith) (omega arith) in
    a_turn (to_its_device principal _ (λ r. points.by (called (λ v. ended))))

-- a run, beside one with as many turns or more at another depth
runs_keep : (program : Program) (job : Start) (d e n q : ℕ) (replies : List Reply) → n < d → n < e → n ≤ q → Stays (run program job e q replies) (run program job d n replies)
runs_keep program job d e n q replies lt lt' le =
    (starts_keep program.routines job q d e n lt lt').by n q (omega arith) le (omega arith) no_restart no_restart (none_back n q) (opening program.bounds job.job) replies

both : {o p : Outcome} → Stays o p → Stays p o → o ≡ p
both same k = refl
both spent spent = refl
both spent same = refl

pub deep_enough : (program : Program) (job : Start) (depth n : ℕ) (replies : List Reply) → n < depth → run program job depth n replies ≡ next program job n replies
deep_enough program job depth n replies lt =
    both (runs_keep program job (suc n) depth n n replies (omega arith) lt (omega arith)) (runs_keep program job depth (suc n) n n replies lt (omega arith) (omega arith))

or_more : {o p : Outcome} → Stays o p → (p ≡ More) ⊎ (o ≡ p)
or_more spent = inl refl
or_more same = inr refl

pub steady : (program : Program) (job : Start) (n k : ℕ) (replies : List Reply) → (next program job n replies ≡ More) ⊎ (next program job (n + k) replies ≡ next program job n replies)
steady program job n k replies = or_more (runs_keep program job (suc n) (suc (n + k)) n (n + k) replies (omega arith) (omega arith) (omega arith))

-- so there is one answer, however many turns it takes
pub one_answer : (program : Program) (job : Start) (n m : ℕ) (replies : List Reply)
    → (next program job n replies ≡ More) ⊎ ((next program job m replies ≡ More) ⊎ (next program job n replies ≡ next program job m replies))
one_answer program job n m replies = by (cases_lt n m)
  where
    later : (i j : ℕ) → i ≤ j → (next program job i replies ≡ More) ⊎ (next program job j replies ≡ next program job i replies)
    later i j le =
        let e : i + (j - i) ≡ j = omega (arith, le) in
        subst (λ q. (next program job i replies ≡ More) ⊎ (next program job q replies ≡ next program job i replies)) e (steady program job i (j - i) replies)

    before : (next program job n replies ≡ More) ⊎ (next program job m replies ≡ next program job n replies)
        → (next program job n replies ≡ More) ⊎ ((next program job m replies ≡ More) ⊎ (next program job n replies ≡ next program job m replies))
    before (inl e) = inl e
    before (inr e) = inr (inr (sym e))

    by : (n < m) ⊎ (m ≤ n) → (next program job n replies ≡ More) ⊎ ((next program job m replies ≡ More) ⊎ (next program job n replies ≡ next program job m replies))
    by (inl lt) = before (later n m (omega (arith, lt)))
    by (inr le) = inr (later m n le)

-- as many turns, with restarts that go on alike for as many
alike_back : (n : ℕ) (h k : Handler) → ((m : ℕ) → m ≤ n → h m ≡ k m) → Back 0 n n h k
alike_back n h k e = record { by = at }
  where
    with_more : (m i : ℕ) → m ≡ i → m ≤ n → (s : State) (rs : List Reply) → Stays (k i s rs) (h m s rs)
    with_more m i p u s rs = subst (λ j. Stays (k j s rs) (h m s rs)) p (subst (λ f. Stays (f s rs) (h m s rs)) (e m u) same)

    at : (m i : ℕ) → m ≤ n → m ≤ i → i ≤ n → i ≤ m + 0 → (s : State) (rs : List Reply) → Stays (k i s rs) (h m s rs)
    at m i u v w z s rs = let p : m ≡ i = omega (arith, v, z) in with_more m i p u s rs

pub hands_on : (image : List Routine) (job : Start) (depth n : ℕ) (h k : Handler) (s : State) (replies : List Reply) → n < depth
    → ((m : ℕ) → m ≤ n → h m ≡ k m) → start image job depth n h s replies ≡ start image job depth n k s replies
hands_on image job depth n h k s replies lt e =
    let starts : Keeps 0 (suc n) (start image job depth) (start image job depth) = starts_keep image job 0 depth depth n lt lt in
    both (starts.by n n (omega arith) (omega arith) (omega arith) k h (alike_back n k h (λ m u. sym (e m u))) s replies)
    (starts.by n n (omega arith) (omega arith) (omega arith) h k (alike_back n h k e) s replies)
