-- What the commands of a line do (ISO/IEC 11756:1999, 8.2).
use Rattle.std.specs.Prelude.{ℕ, ◌+◌, ◌-◌, ℤ, int_le, ◌+ℤ◌, pos, negsuc, List, [], ◌∷◌, ◌++◌, Option, Some, None, Bool, true, false, Result, Ok, Err, length, map, replicate, nat_lt, if◌then◌else◌}
use Rattle.mj_text.specs.Limit.{within_limit}
use Rattle.mj_text.specs.declared.fault.Fault.{Fault}
use Rattle.mj_text.specs.declared.fault.Fault.TheVariants.{Quit as WrongQuit, QuitInTransaction, Overlap, ForIndex, Char, Depth}
use Rattle.mj_num.specs.Number.{reading, sum_of, canonic_text}
use Rattle.mj_oper.specs.Operators.{truth_value}
use Rattle.mj_subs.specs.Name.{Name, overlaps}
use Rattle.mj_store.specs.Questions.{Subtree}
use Rattle.mj_store.specs.declared.access.Access.TheVariants as accesses
use Rattle.mj_ask.specs.declared.ask.DeviceAsk.TheVariants as device_asks
use Rattle.mj_ast.specs.declared.routine.FormatMark.{FormatMark}
use Rattle.mj_ast.specs.declared.routine.FormatMark.TheVariants.{NewLine, NewPage}
use Rattle.mj_ast.specs.Syntax.{Expr, Chain, Done, Literal, as_actuals, Destination, Plain, Pieces, Targets, One, Several, Assignment, Killed, Gone, Spared, Merged, Output, Shown, Format, Coded, Called, Jumped, Started, LockNames, Lone, Together, Locked, Opened, Received, Input, Prompted, Arranged, Into, Range, Single, Endless, UpTo, Renewed, Fresh, Kept, Variable, Command, Set, Write, Halt, Hang, Job, Lock, OpenDevice, UseDevice, CloseDevice, Read, Kill, Merge, If, Else, For, Forever, Do, Goto, Quit, New, Restartable, TStart, TCommit, TRestart, TRollback, Break, LineCommand}
use Rattle.mj_strfn.specs.Functions.{place, assigned_pieces, set_piece_value}
use Rattle.mj_semantics.specs.State.{Only, AllBut, column_at, column_after, wrote, kill_except, hold, level_of, is_function, is_at_mark, set_test, newed, pushed, popped}
use Rattle.mj_semantics.specs.Outcome.{Timed, turn, look, change, to_device, need, given, composed, end, fault}
use Rattle.mj_semantics.specs.Lines.{Here, place_at, next_line, entry_of}
use Rattle.mj_semantics.specs.Points.{Leave, Ways, Loop, Once, Always, By, Points, AtLine, Called as CalledAt, Jumped as JumpedAt, Pass, Started as StartedAt}
use Rattle.mj_semantics.specs.Accesses.{access, value_told, nodes_told}
use Rattle.mj_semantics.specs.Functions.{needed, optional}
use Rattle.mj_semantics.specs.Sharing.{hang, start_job, unlock_all, lock}
use Rattle.mj_semantics.specs.Devices.{open_device, use_device, close, read_input}
use Rattle.mj_semantics.specs.Transactions.{restored_by, listed_by, serial_by, begin_transaction, commit, roll_back, roll_back_for_restart, begin_restart}
use Rattle.mj_semantics.specs.Evaluation.{ev, ev_all, ev_name, ev_local, ev_actuals, when}

-- SET (8.2.18).

-- what a value is assigned to, once its name is whole: the value of the name, or pieces of it, once the separator and the places
-- have their texts
pub data Aim : Type 0 where
  Whole : (x : Name) → Aim
  Part : (x : Name) (arguments : List (List ℕ)) → Aim

-- a name gets a value
abbrev pub store : Name → List ℕ → Timed → Timed
store x v rest = access (accesses.Set x v) (λ a. rest)

-- a value, or the empty text where there is none
abbrev pub or_empty : Option (List ℕ) → List ℕ
or_empty None = []
or_empty (Some v) = v

-- the pieces of a range of a name's value become e: the rest with the whole new value; the old one is empty where there is none
abbrev pub renewed : Name → List ℕ → ℕ × ℕ → List ℕ → (List ℕ → Timed) → Timed
renewed x separator range e rest =
    access (accesses.Value x) (λ a. composed (λ limit. set_piece_value limit (or_empty (value_told a)) separator range e) rest)

-- which pieces become e, by the separator and the places, which are read now; where it is none, the name is neither read nor
-- assigned, and the first rest follows
abbrev pub assign_piece : Name → List (List ℕ) → List ℕ → Timed → (List ℕ → Timed) → Timed
assign_piece x ts e skipped rest =
    given (assigned_pieces (needed 0 ts) (optional 1 ts) (optional 2 ts))
    (λ range. elim range [ None ↦ skipped | Some r ↦ renewed x (needed 0 ts) r e rest ])

-- an assignment. That of pieces has a turn for the new value, and one for its assignment (this profile)
abbrev pub put : Aim → List ℕ → Timed → Timed
put (Whole x) v rest = store x v rest
put (Part x ts) v rest = assign_piece x ts v rest (λ w. turn (store x w rest))

-- the assignments of a list, each a turn
abbrev pub put_all : List Aim → List ℕ → Timed → Timed
put_all [] v rest = rest
put_all (t ∷ list) v rest = turn (put t v (put_all list v rest))

-- KILL (8.2.11).

-- a name goes, with all that is below it
abbrev pub remove : Name → Timed → Timed
remove x rest = access (accesses.Kill x) (λ a. rest)

-- a turn for each name of a list
abbrev pub named : List (List ℕ) → Timed → Timed
named [] rest = rest
named (word ∷ words) rest = turn (named words rest)

-- MERGE (8.2.13).

-- what stands at a name and below it is taken in hand; where it overlaps with the name that it is to go to, that is OVERLAP
abbrev pub take_nodes : Name → Name → Timed → Timed
take_nodes into from rest =
    if overlaps into from then fault Overlap
    else access (accesses.Subtree from) (λ a. change (hold (nodes_told a)) rest)

-- nodes go to a name and below it; where there are none, nothing is asked
abbrev pub put_these : Name → Subtree → Timed → Timed
put_these x [] rest = rest
put_these x (e ∷ nodes) rest = access (accesses.Put x (e ∷ nodes)) (λ a. change (hold []) rest)

abbrev pub put_nodes : Name → Timed → Timed
put_nodes x rest = look (λ s. put_these x s.held rest)

-- NEW (8.2.14).

-- an argument, and then the rest; a list of names takes a turn for each
abbrev pub renewal : Renewed → Timed → Timed
renewal (Fresh word) rest = turn (change (newed (Only (word ∷ []))) rest)
renewal (Kept words) rest = named words (turn (change (newed (AllBut words)) rest))

abbrev pub new_list : List Renewed → Timed → Timed
new_list [] rest = rest
new_list (r ∷ list) rest = renewal r (new_list list rest)

-- without arguments it is all locals
abbrev pub new_all : List Renewed → Timed → Timed
new_all [] rest = turn (change (newed (AllBut [])) rest)
new_all (r ∷ list) rest = new_list (r ∷ list) rest

-- Frames.

-- how many frames a job may have (this profile)
abbrev pub frames_limit : ℕ
frames_limit = 512

-- the end of a frame; that of the frame of the outermost TSTART is TXQUIT (this profile)
abbrev pub end_frame : Timed → Timed
end_frame rest = look (λ s. if is_at_mark s then fault QuitInTransaction else rest)

-- the QUIT of a frame without a value; that of a function's is QUIT (this profile)
abbrev pub quit_frame : Timed → Timed
quit_frame rest = look (λ s. if is_function s then fault WrongQuit else end_frame rest)

-- the rest in a function's own frame, whose QUIT gives a value; in any other it is QUIT (this profile)
abbrev pub in_function : Timed → Timed
in_function rest = look (λ s. if is_function s then rest else fault WrongQuit)

-- the rest with a new frame, if there may be one more; else DEPTH
abbrev pub deeper : Timed → Timed
deeper rest = look (λ s. if nat_lt (length s.frames) frames_limit then rest else fault Depth)

-- WRITE (8.2.25).

-- bytes go to the current device by one ask, and none where there are none; more than a text holds are LENGTH
abbrev pub write : List ℕ → Timed → Timed
write [] rest = rest
write (b ∷ bytes) rest =
    composed (λ limit. within_limit limit (b ∷ bytes))
    (λ text. look (λ s. to_device s.current (device_asks.Write text) (λ r. change (wrote text) rest)))

-- the byte that a format mark writes: a line feed, or a form feed
abbrev pub mark_byte : FormatMark → ℕ
mark_byte NewLine = 10
mark_byte NewPage = 12

-- what marks write, and then spaces up to a column; none where the marks lead to that column or past it, from the column where they begin
abbrev pub tab_bytes : List FormatMark → ℤ → ℕ → List ℕ
tab_bytes marks n column = map mark_byte marks ++ replicate (place n - column_after column (map mark_byte marks)) 32

-- marks and then a tab, whose column is read as a number
abbrev pub tab : List FormatMark → List ℕ → Timed → Timed
tab marks v rest = given (reading v) (λ n. look (λ s. write (tab_bytes marks n (column_at s.current s)) rest))

-- the byte of a code: 0 to 255, else CHAR
abbrev pub coded : ℤ → Result (List ℕ) Fault
coded (pos n) = if nat_lt n 256 then Ok (n ∷ []) else Err Char
coded (negsuc n) = Err Char

-- the byte whose code is read as a number
abbrev pub write_code : List ℕ → Timed → Timed
write_code v rest = given (reading v) (λ n. given (coded n) (λ bytes. write bytes rest))

-- IF (8.2.9) and ELSE (8.2.4).

-- the rest where `$TEST` is so, else the line's end
abbrev pub if_test : Bool → Timed → Timed → Timed
if_test true line_end rest = look (λ s. if s.test then rest else line_end)
if_test false line_end rest = look (λ s. if s.test then line_end else rest)

-- FOR (8.2.5).

-- a number by steps, up to an end, is still in the range
abbrev pub is_within : ℤ → ℤ → ℤ → Bool
is_within (pos step) end i = int_le i end
is_within (negsuc step) end i = int_le end i

-- behind a pass with this number: the next pass with the next number, or what comes after
abbrev pub stepped : Name → ℤ → Option ℤ → ℤ → Timed → Timed → Timed
stepped x step None i after pass = given (sum_of i step) (λ j. store x (canonic_text j) pass)
stepped x step (Some end) i after pass = if is_within step end (i +ℤ step) then store x (canonic_text (i +ℤ step)) pass else after

-- behind a pass: the local is read anew, and without a value it is FORINDEX
abbrev pub for_again : Loop → Timed → Timed → Timed
for_again Once after pass = after
for_again Always after pass = pass
for_again (By x step end) after pass =
    access (accesses.Value x) (λ a. need ForIndex (value_told a) (λ v. given (reading v) (λ i. stepped x step end i after pass)))

-- the first number of a range, and its first pass, if there is one
abbrev pub first : Name → ℤ → ℤ → Option ℤ → Timed → Timed → Timed
first x i step None after pass = store x (canonic_text i) pass
first x i step (Some end) after pass = store x (canonic_text i) (if is_within step end i then pass else after)

-- the readings of values, in order
abbrev pub reading_two : List ℕ → List ℕ → (ℤ → ℤ → Timed) → Timed
reading_two v w rest = given (reading v) (λ i. given (reading w) (λ j. rest i j))

-- What evaluates: the commands of a line that stands here.

module _ (points : Points) (here : Here) where
  -- SET.

  -- a destination: the name, and then of pieces the separator and the places
  abbrev pub ev_destination : Destination → (Aim → Timed) → Timed
  ev_destination (Plain v) rest = ev_name points here v (λ x. rest (Whole x))
  ev_destination (Pieces v es) rest = ev_name points here v (λ x. ev_all points here es (λ ts. rest (Part x ts)))

  abbrev pub ev_destinations : List Destination → (List Aim → Timed) → Timed
  ev_destinations [] rest = rest []
  ev_destinations (d ∷ list) rest = ev_destination d (λ t. ev_destinations list (λ ts. rest (t ∷ ts)))

  -- an argument: the destinations from left to right, then the value, then the assignments from left to right
  abbrev pub assign_to : Targets → Expr → Timed → Timed
  assign_to (One d) e rest = ev_destination d (λ t. ev points here e (λ v. turn (put t v rest)))
  assign_to (Several list) e rest = ev_destinations list (λ ts. ev points here e (λ v. put_all ts v (turn rest)))

  abbrev pub assign : Assignment → Timed → Timed
  assign a rest = assign_to a.targets a.value rest

  abbrev pub assign_all : List Assignment → Timed → Timed
  assign_all [] rest = rest
  assign_all (a ∷ list) rest = assign a (assign_all list rest)

  -- KILL.

  abbrev pub kill : Killed → Timed → Timed
  kill (Gone v) rest = ev_name points here v (λ x. turn (remove x rest))
  kill (Spared words) rest = named words (turn (change (kill_except words) rest))

  abbrev pub kill_list : List Killed → Timed → Timed
  kill_list [] rest = rest
  kill_list (k ∷ list) rest = kill k (kill_list list rest)

  -- without arguments all locals go
  abbrev pub kill_all : List Killed → Timed → Timed
  kill_all [] rest = turn (change (kill_except []) rest)
  kill_all (k ∷ list) rest = kill_list (k ∷ list) rest

  -- MERGE.

  -- the name that nodes go to, then the name that they stand at, with which they are taken; in a turn of its own they are put
  abbrev pub merge : Merged → Timed → Timed
  merge m rest = ev_name points here m.into (λ x. ev_name points here m.from (λ y. take_nodes x y (turn (put_nodes x rest))))

  abbrev pub merge_all : List Merged → Timed → Timed
  merge_all [] rest = rest
  merge_all (m ∷ list) rest = merge m (merge_all list rest)

  -- WRITE.

  -- a format, of which the column has its value first
  abbrev pub arrange : List FormatMark → Option Expr → Timed → Timed
  arrange marks None rest = turn (write (map mark_byte marks) rest)
  arrange marks (Some e) rest = ev points here e (λ v. turn (tab marks v rest))

  abbrev pub output : Output → Timed → Timed
  output (Shown e) rest = ev points here e (λ v. turn (write v rest))
  output (Format l) rest = arrange l.marks l.column rest
  output (Coded e) rest = ev points here e (λ v. turn (write_code v rest))

  abbrev pub output_all : List Output → Timed → Timed
  output_all [] rest = rest
  output_all (o ∷ list) rest = output o (output_all list rest)

  -- HANG, JOB and LOCK.

  -- how long an argument may wait, if it says so; that is read as a number in a turn of its own (this profile)
  abbrev pub ev_timeout : Option Expr → (Option ℤ → Timed) → Timed
  ev_timeout None rest = rest None
  ev_timeout (Some e) rest = ev points here e (λ v. turn (given (reading v) (λ n. rest (Some n))))

  abbrev pub hang_all : List Expr → Timed → Timed
  hang_all [] rest = rest
  hang_all (e ∷ es) rest = ev points here e (λ v. turn (hang v (hang_all es rest)))

  -- the values of the actuals, and then the timeout
  abbrev pub start_all : List Started → Timed → Timed
  start_all [] rest = rest
  start_all (s ∷ list) rest =
      ev_actuals points here (as_actuals s.actuals) (λ vs. ev_timeout s.timeout (λ timeout. turn (start_job (entry_of here s.target) vs timeout (start_all list rest))))

  -- the names of variables, each of which is whole before the next one
  abbrev pub ev_names : List Variable → (List Name → Timed) → Timed
  ev_names [] rest = rest []
  ev_names (v ∷ vs) rest = ev_name points here v (λ x. ev_names vs (λ xs. rest (x ∷ xs)))

  abbrev pub ev_lock_names : LockNames → (List Name → Timed) → Timed
  ev_lock_names (Lone v) rest = ev_names (v ∷ []) rest
  ev_lock_names (Together vs) rest = ev_names vs rest

  -- an argument of LOCK: its names, and then its timeout
  abbrev pub lock_one : Locked → Timed → Timed
  lock_one l rest = ev_lock_names l.names (λ xs. ev_timeout l.timeout (λ timeout. lock l.mode xs timeout rest))

  abbrev pub lock_list : List Locked → Timed → Timed
  lock_list [] rest = rest
  lock_list (l ∷ list) rest = lock_one l (lock_list list rest)

  -- without arguments all names are given up
  abbrev pub lock_all : List Locked → Timed → Timed
  lock_all [] rest = turn (unlock_all rest)
  lock_all (l ∷ list) rest = lock_list (l ∷ list) rest

  -- OPEN, USE, CLOSE and READ.

  -- an argument of OPEN: the name of its device, and then its timeout
  abbrev pub open_all : List Opened → Timed → Timed
  open_all [] rest = rest
  open_all (o ∷ list) rest = ev points here o.device (λ name. ev_timeout o.timeout (λ timeout. turn (open_device name timeout (open_all list rest))))

  abbrev pub use_all : List Expr → Timed → Timed
  use_all [] rest = rest
  use_all (e ∷ es) rest = ev points here e (λ name. turn (use_device name (use_all es rest)))

  abbrev pub close_all : List Expr → Timed → Timed
  close_all [] rest = rest
  close_all (e ∷ es) rest = ev points here e (λ name. turn (close name (close_all es rest)))

  -- what is read is assigned to a variable, whose name is whole before the timeout, in a turn of its own (this profile)
  abbrev pub receive : Received → Timed → Timed
  receive r rest =
      ev_name points here r.variable (λ x. ev_timeout r.timeout (λ timeout. turn (read_input r.mode timeout (λ v. turn (store x v rest)))))

  -- an argument of READ: a text or a format, which is written as by WRITE, or what is read
  abbrev pub input : Input → Timed → Timed
  input (Prompted text) rest = output (Shown (Chain (Literal text) Done)) rest
  input (Arranged l) rest = arrange l.marks l.column rest
  input (Into r) rest = receive r rest

  abbrev pub read_all : List Input → Timed → Timed
  read_all [] rest = rest
  read_all (i ∷ list) rest = input i (read_all list rest)

  -- IF.

  -- the conditions in order, of which each sets `$TEST`; a false one leads to the line's end
  abbrev pub ifs : List Expr → Timed → Timed → Timed
  ifs [] line_end rest = rest
  ifs (e ∷ es) line_end rest =
      ev points here e (λ v. turn (given (truth_value v) (λ b. change (set_test b) (if b then ifs es line_end rest else line_end))))

  -- FOR.

  -- what a FOR goes through, in order, each evaluated when it is reached; behind the last one the line's end, in a turn of its own
  abbrev pub ranges : Name → List Range → List LineCommand → Ways → Timed
  ranges x [] body ways = turn ways.line_end
  ranges x (Single a ∷ rs) body ways =
      ev points here a (λ v. turn (store x v (points (Pass here Once body (ranges x rs body ways) ways))))
  ranges x (Endless a b ∷ rs) body ways =
      ev points here a (λ v. ev points here b (λ w. turn (reading_two v w (λ i step.
      first x i step None (ranges x rs body ways) (points (Pass here (By x step None) body (ranges x rs body ways) ways))))))
  ranges x (UpTo a b c ∷ rs) body ways =
      ev points here a (λ v. ev points here b (λ w. ev points here c (λ u. turn (reading_two v w (λ i step. given (reading u) (λ end.
      first x i step (Some end) (ranges x rs body ways) (points (Pass here (By x step (Some end)) body (ranges x rs body ways) ways))))))))

  -- DO (8.2.3).

  -- entries, one after the other
  abbrev pub calls : List Called → Timed → Timed
  calls [] rest = rest
  calls (c ∷ list) rest =
      when points here c.condition
      (ev_actuals points here (as_actuals c.actuals) (λ vs. turn (points (CalledAt false (entry_of here c.target) vs (λ v. change popped (calls list rest))))))
      (calls list rest)

  -- the block behind this line, in a frame of its own, which restores `$TEST`
  abbrev pub block : Timed → Timed
  block rest =
      deeper (look (λ s. change (pushed (place_at here) (level_of s + 1) false (Some s.test))
      (turn (points (AtLine (next_line here) (λ v. change popped rest))))))

  -- GOTO (8.2.6): the first argument whose condition is true
  abbrev pub jumps : List Jumped → Leave → Timed → Timed
  jumps [] leave rest = rest
  jumps (j ∷ list) leave rest = when points here j.condition (turn (points (JumpedAt (entry_of here j.target) leave))) (jumps list leave rest)

  -- DO without arguments is that of the block
  abbrev pub do_all : List Called → Timed → Timed
  do_all [] rest = turn (block rest)
  do_all (c ∷ list) rest = calls (c ∷ list) rest

  -- IF without arguments is by `$TEST`
  abbrev pub if_all : List Expr → Timed → Timed → Timed
  if_all [] line_end rest = turn (if_test true line_end rest)
  if_all (e ∷ es) line_end rest = ifs (e ∷ es) line_end rest

  -- TSTART (8.2.22): a list of names takes a turn for each. What stands behind the outermost one is reached again by a restart, so it has a turn
  -- of its own (this profile)
  abbrev pub start_transaction : Option Restartable → Timed → Timed
  start_transaction a rest =
      named (listed_by a) (turn (begin_transaction (restored_by a) (serial_by a) rest (turn (points (StartedAt rest)))))

  -- TCOMMIT (8.2.19); a clash leads to a restart
  abbrev pub commit_transaction : Timed → Timed
  commit_transaction rest = turn (commit (turn begin_restart) rest)

  -- TRESTART (8.2.20)
  abbrev pub restart_transaction : Timed
  restart_transaction = turn (roll_back_for_restart (turn begin_restart))

  -- QUIT (8.2.16): without a value it leads out of the innermost FOR of the line, or else ends the frame. With one it ends a function's frame, and
  -- may be in no FOR; that is looked at before the value is evaluated, in a turn of its own (this profile)
  abbrev pub quit : Option Expr → Ways → Timed
  quit None ways = turn (elim ways.for_quit [ None ↦ quit_frame (ways.leave []) | Some out ↦ out ])
  quit (Some e) ways = turn (elim ways.for_quit [
    | None ↦ in_function (ev points here e (λ v. turn (end_frame (ways.leave v))))
    | Some out ↦ fault WrongQuit
  ])

  -- a command with its postcondition, where these are the commands behind it in its line, and then the rest. HALT (8.2.7) has none.
  -- IF, ELSE and FOR have no postcondition
  abbrev pub obey : Command → Option Expr → List LineCommand → Ways → Timed → Timed
  obey (Set list) c steps ways rest = when points here c (assign_all list rest) rest
  obey (Write list) c steps ways rest = when points here c (output_all list rest) rest
  obey Halt c steps ways rest = when points here c (turn (end None)) rest
  obey (Hang es) c steps ways rest = when points here c (hang_all es rest) rest
  obey (Job list) c steps ways rest = when points here c (start_all list rest) rest
  obey (Lock list) c steps ways rest = when points here c (lock_all list rest) rest
  obey (OpenDevice list) c steps ways rest = when points here c (open_all list rest) rest
  obey (UseDevice es) c steps ways rest = when points here c (use_all es rest) rest
  obey (CloseDevice es) c steps ways rest = when points here c (close_all es rest) rest
  obey (Read list) c steps ways rest = when points here c (read_all list rest) rest
  obey (Kill list) c steps ways rest = when points here c (kill_all list rest) rest
  obey (Merge list) c steps ways rest = when points here c (merge_all list rest) rest
  obey (If es) c steps ways rest = if_all es ways.line_end rest
  obey Else c steps ways rest = turn (if_test false ways.line_end rest)
  obey (For v rs) c steps ways rest = ev_local points here v (λ x. ranges x rs steps ways)
  obey Forever c steps ways rest = turn (points (Pass here Always steps (turn ways.line_end) ways))
  obey (Do list) c steps ways rest = when points here c (do_all list rest) rest
  obey (Goto list) c steps ways rest = when points here c (jumps list ways.leave rest) rest
  obey (Quit value) c steps ways rest = when points here c (quit value ways) rest
  obey (New list) c steps ways rest = when points here c (new_all list rest) rest
  obey (TStart a) c steps ways rest = when points here c (start_transaction a rest) rest
  obey TCommit c steps ways rest = when points here c (commit_transaction rest) rest
  obey TRestart c steps ways rest = when points here c restart_transaction rest
  obey TRollback c steps ways rest = when points here c (turn (roll_back rest)) rest
  obey Break c steps ways rest = when points here c (turn rest) rest

  -- commands in order, up to the end of their line
  abbrev pub obey_all : List LineCommand → Ways → Timed
  obey_all [] ways = ways.line_end
  obey_all (step ∷ steps) ways = obey step.command step.condition steps ways (obey_all steps ways)
