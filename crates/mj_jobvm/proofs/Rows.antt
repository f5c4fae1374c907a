-- What holds of each word that rows are made of, holds of each job: the rows of the language, one by one.
use Rattle.std.proofs.Common.{◌≡◌, ℕ, zero, suc, ◌+◌, List, [], ◌∷◌, length, map, Option, Some, None, Bool, true, false, refl, subst}
use Rattle.std.specs.Prelude.{ℤ, nat_lt, nat_eq, if◌then◌else◌}
use Rattle.mj_text.specs.declared.fault.Fault.TheVariants as faults
use Rattle.mj_subs.specs.Name.{Name, overlaps}
use Rattle.mj_store.specs.declared.access.Access.TheVariants as accesses
use Rattle.mj_num.specs.Number.{reading}
use Rattle.mj_semantics.specs.State.{State, popped, column_at, Only, AllBut, newed, set_test, special_value, level_of, may_go, pushed, passed, at_place, kill_except, hold}
use Rattle.mj_ast.specs.declared.function.NameFunction.{NameFunction}
use Rattle.mj_semantics.specs.Outcome.{Timed, turn, turns, change, end, fault}
use Rattle.mj_semantics.specs.Accesses.{access, value_told, nodes_told}
use Rattle.mj_semantics.specs.Evaluation.{read, ev, ev_tails, ev_operand, ev_choices, ev_name, ev_named, ev_all, ev_actuals, plain_values, ev_local, name_of, named_for, when}
use Rattle.mj_semantics.specs.Points.{Once, Always, By, Leave, Ways, Point, AtLine, Called, Jumped, Pass, Started, Points}
use Rattle.mj_semantics.specs.Sharing.{unlock_all}
use Rattle.mj_semantics.specs.Transactions.{restored_by, listed_by, serial_by}
use Rattle.mj_semantics.specs.Commands.{store, deeper, for_again, Aim, Whole, Part, ev_destination, ev_destinations, or_empty, renewed, assign_piece, put, put_all, assign_to, assign, assign_all, named, remove, kill, kill_list, kill_all, take_nodes, put_these, put_nodes, merge, merge_all, write, mark_byte, tab_bytes, tab, coded, write_code, arrange, output, output_all, open_all, use_all, close_all, receive, input, read_all, ev_timeout, hang_all, start_all, ev_names, ev_lock_names, lock_list, lock_all, renewal, new_list, new_all, end_frame, quit_frame, in_function, quit, ifs, if_test, if_all, start_transaction, ranges, calls, block, do_all, jumps, obey, obey_all}
use Rattle.mj_text.specs.Limit.{within_limit}
use Rattle.mj_store.specs.Questions.{Subtree}
use Rattle.mj_strfn.specs.Functions.{assigned_pieces, set_piece_value}
use Rattle.mj_ast.specs.declared.routine.FormatMark.{FormatMark}
use Rattle.mj_oper.specs.Operators.{binary_value, unary_value, truth_value}
use Rattle.mj_ast.specs.Syntax.{Expr, Chain, Tails, Done, Then, Operand, Literal, Value, Intrinsic, Unary, Group, Call, About, Select, Variable, Var, Exprs, No, More as Another, Choices, Last, Before, Extrinsic, Actuals, NoActual, Given, Omitted, as_actuals, Destination, Plain, Pieces, Targets, One, Several, Assignment, Killed, Gone, Spared, Merged, Output, Shown, Format, Coded, Opened, Received, Input, Prompted, Arranged, Into, Called as CalledOf, Jumped as JumpedOf, Started as StartedOf, LockNames, Lone, Together, Locked, Range, Single, Endless, UpTo, Renewed, Fresh, Kept, Command, Set, Write, Halt, Hang, Job, Lock, OpenDevice as OpenOf, UseDevice, CloseDevice, Read, Kill, Merge, If, Else, For, Forever, Do, Goto, Quit, New, Restartable, TStart, TCommit, TRestart, TRollback, Break, LineCommand, Line, Routine}
use Rattle.mj_ast.specs.declared.expr.Scope.TheVariants.{Local}
use Rattle.mj_semantics.specs.Functions.{call_value, needed, optional}
use Rattle.mj_semantics.specs.Lines.{Here, place_at, next_line, line_before, line_at, levels_of, entry_of, entered}
use Rattle.mj_semantics.specs.Job.{Start, quit_before, obey_line, call, jump, in_pass, points_of, start as starts}
use Rattle.mj_jobvm.proofs.Rule.{Rule, popped_same, KeepsLeave, KeepsPoint, KeepsWays, turn_keeps, turns_keep, look_keeps, change_keeps, end_keeps, fault_keeps, if_keeps, IsReached, given_keeps, composed_keeps, access_keeps, read_keeps, about_keeps, store_keeps, again_keeps, first_keeps, deeper_keeps, hang_keeps, start_job_keeps, unlock_all_keeps, lock_keeps, ended_frame_keeps, framed_keeps, function_keeps, quit_keeps}

module _ (K Apart : Timed → Type 0) (rule : Rule K Apart) where
  module _ (points : Points) (all : (p : Point) → KeepsPoint K p → IsReached K Apart rule p (points p)) (here : Here) where
    mutual
      pub ev_keeps : (e : Expr) (rest : List ℕ → Timed) → ((v : List ℕ) → K (rest v)) → K (ev points here e rest)
      ev_keeps (Chain x ts) rest k = operand_keeps x (λ v. ev_tails points here v ts rest) (λ v. tails_keep v ts rest k)

      tails_keep : (v : List ℕ) (ts : Tails) (rest : List ℕ → Timed) → ((v : List ℕ) → K (rest v)) → K (ev_tails points here v ts rest)
      tails_keep v Done rest k = k v
      tails_keep v (Then op x ts) rest k =
          operand_keeps x _ (λ w. turn_keeps K Apart rule _ (composed_keeps K Apart rule (λ limit. binary_value limit op v w) (λ u. ev_tails points here u ts rest) (λ u. tails_keep u ts rest k)))

      operand_keeps : (x : Operand) (rest : List ℕ → Timed) → ((v : List ℕ) → K (rest v)) → K (ev_operand points here x rest)
      operand_keeps (Literal t) rest k = turn_keeps K Apart rule (rest t) (k t)
      operand_keeps (Value v) rest k = name_keeps v (λ x. read x rest) (λ x. read_keeps K Apart rule x rest k)
      operand_keeps (Intrinsic v) rest k = turn_keeps K Apart rule _ (look_keeps K Apart rule _ (λ s. k (special_value v s)))
      operand_keeps (Unary op x) rest k = operand_keeps x _ (λ v. turn_keeps K Apart rule _ (given_keeps K Apart rule (unary_value op v) rest k))
      operand_keeps (Group e) rest k = ev_keeps e rest k
      operand_keeps (Call f es) rest k = all_keep es _ (λ vs. turn_keeps K Apart rule _ (composed_keeps K Apart rule (λ limit. call_value limit f vs) rest k))
      operand_keeps (About f v es) rest k = named_keeps f v _ (λ x. all_keep es _ (λ vs. turn_keeps K Apart rule _ (about_keeps K Apart rule f x (optional 0 vs) rest k)))
      operand_keeps (Select choices) rest k = choices_keep choices rest k
      operand_keeps (Extrinsic t es) rest k =
          actuals_keep es _ (λ vs. turn_keeps K Apart rule _ (all (Called true (entry_of here t) (plain_values vs) (λ v. change popped (rest v)))
          (λ v. change_keeps K Apart rule (rest v) (k v) popped popped_same)))

      choices_keep : (x : Choices) (rest : List ℕ → Timed) → ((v : List ℕ) → K (rest v)) → K (ev_choices points here x rest)
      choices_keep (Last c e) rest k =
          ev_keeps c _ (λ v. turn_keeps K Apart rule _ (given_keeps K Apart rule (truth_value v) (λ b. if b then ev points here e (λ w. turn (rest w)) else turn (fault faults.Select)) (λ b.
          if_keeps K Apart rule b (ev points here e (λ w. turn (rest w)))
          (turn (fault faults.Select)) (ev_keeps e (λ w. turn (rest w)) (λ w. turn_keeps K Apart rule (rest w) (k w)))
          (turn_keeps K Apart rule (fault faults.Select) (fault_keeps K Apart rule faults.Select)))))
      choices_keep (Before c e others) rest k =
          ev_keeps c _ (λ v. turn_keeps K Apart rule _ (given_keeps K Apart rule (truth_value v) (λ b. if b then ev points here e (λ w. turn (rest w)) else ev_choices points here others rest) (λ b.
          if_keeps K Apart rule b (ev points here e (λ w. turn (rest w)))
          (ev_choices points here others rest) (ev_keeps e (λ w. turn (rest w)) (λ w. turn_keeps K Apart rule (rest w) (k w))) (choices_keep others rest k))))

      name_keeps : (v : Variable) (rest : Name → Timed) → ((x : Name) → K (rest x)) → K (ev_name points here v rest)
      name_keeps (Var scope word es) rest k = all_keep es _ (λ ss. turn_keeps K Apart rule _ (given_keeps K Apart rule (name_of scope word ss) rest k))

      named_keeps : (f : NameFunction) (v : Variable) (rest : Name → Timed) → ((x : Name) → K (rest x)) → K (ev_named points here f v rest)
      named_keeps f (Var scope word es) rest k = all_keep es _ (λ ss. turn_keeps K Apart rule _ (given_keeps K Apart rule (named_for f scope word ss) rest k))

      all_keep : (es : Exprs) (rest : List (List ℕ) → Timed) → ((vs : List (List ℕ)) → K (rest vs)) → K (ev_all points here es rest)
      all_keep No rest k = k []
      all_keep (Another e es) rest k = ev_keeps e (λ v. ev_all points here es (λ vs. rest (v ∷ vs))) (λ v. all_keep es (λ vs. rest (v ∷ vs)) (λ vs. k (v ∷ vs)))

      actuals_keep : (es : Actuals) (rest : List (Option (List ℕ)) → Timed) → ((vs : List (Option (List ℕ))) → K (rest vs)) → K (ev_actuals points here es rest)
      actuals_keep NoActual rest k = k []
      actuals_keep (Given e es) rest k = ev_keeps e _ (λ v. actuals_keep es _ (λ vs. k (Some v ∷ vs)))
      actuals_keep (Omitted es) rest k = actuals_keep es _ (λ vs. k (None ∷ vs))

    when_keeps : (condition : Option Expr) (done skipped : Timed) → K done → K skipped → K (when points here condition done skipped)
    when_keeps None done skipped k l = k
    when_keeps (Some e) done skipped k l =
        ev_keeps e _ (λ v. turn_keeps K Apart rule _ (given_keeps K Apart rule (truth_value v) (λ b. if b then done else skipped) (λ b. if_keeps K Apart rule b done skipped k l)))

    -- Commands.

    destination_keeps : (d : Destination) (rest : Aim → Timed) → ((t : Aim) → K (rest t)) → K (ev_destination points here d rest)
    destination_keeps (Plain v) rest k = name_keeps v _ (λ x. k (Whole x))
    destination_keeps (Pieces v es) rest k = name_keeps v _ (λ x. all_keep es _ (λ ts. k (Part x ts)))

    destinations_keep : (list : List Destination) (rest : List Aim → Timed) → ((ts : List Aim) → K (rest ts)) → K (ev_destinations points here list rest)
    destinations_keep [] rest k = k []
    destinations_keep (d ∷ list) rest k = destination_keeps d _ (λ t. destinations_keep list (λ ts. rest (t ∷ ts)) (λ ts. k (t ∷ ts)))

    range_keeps : (range : Option (ℕ × ℕ)) (x : Name) (separator e : List ℕ) (skipped : Timed) (rest : List ℕ → Timed) → K skipped → ((v : List ℕ) → K (rest v)) →
        K (elim range [ None ↦ skipped | Some r ↦ renewed x separator r e rest ])
    range_keeps None x separator e skipped rest k l = k
    range_keeps (Some r) x separator e skipped rest k l =
        access_keeps K Apart rule (accesses.Value x) _ (λ a. composed_keeps K Apart rule (λ limit. set_piece_value limit (or_empty (value_told a)) separator r e) rest l)

    renew_keeps : (x : Name) (ts : List (List ℕ)) (e : List ℕ) (skipped : Timed) (rest : List ℕ → Timed) → K skipped → ((v : List ℕ) → K (rest v)) → K (assign_piece x ts e skipped rest)
    renew_keeps x ts e skipped rest k l = given_keeps K Apart rule (assigned_pieces (needed 0 ts) (optional 1 ts) (optional 2 ts)) _ (λ range. range_keeps range x (needed 0 ts) e skipped rest k l)

    put_keeps : (t : Aim) (v : List ℕ) (rest : Timed) → K rest → K (put t v rest)
    put_keeps (Whole x) v rest k = store_keeps K Apart rule x v rest k
    put_keeps (Part x ts) v rest k = renew_keeps x ts v rest _ k (λ w. turn_keeps K Apart rule (store x w rest) (store_keeps K Apart rule x w rest k))

    put_all_keeps : (ts : List Aim) (v : List ℕ) (rest : Timed) → K rest → K (put_all ts v rest)
    put_all_keeps [] v rest k = k
    put_all_keeps (t ∷ ts) v rest k = turn_keeps K Apart rule _ (put_keeps t v (put_all ts v rest) (put_all_keeps ts v rest k))

    targets_keep : (t : Targets) (e : Expr) (rest : Timed) → K rest → K (assign_to points here t e rest)
    targets_keep (One d) e rest k = destination_keeps d _ (λ t. ev_keeps e _ (λ v. turn_keeps K Apart rule (put t v rest) (put_keeps t v rest k)))
    targets_keep (Several list) e rest k = destinations_keep list _ (λ ts. ev_keeps e _ (λ v. put_all_keeps ts v (turn rest) (turn_keeps K Apart rule rest k)))

    assign_keeps : (a : Assignment) (rest : Timed) → K rest → K (assign points here a rest)
    assign_keeps a rest k = targets_keep a.targets a.value rest k

    assign_all_keeps : (list : List Assignment) (rest : Timed) → K rest → K (assign_all points here list rest)
    assign_all_keeps [] rest k = k
    assign_all_keeps (a ∷ list) rest k = assign_keeps a (assign_all points here list rest) (assign_all_keeps list rest k)

    write_keeps : (bytes : List ℕ) (rest : Timed) → K rest → K (write bytes rest)
    write_keeps [] rest k = k
    write_keeps (b ∷ bytes) rest k =
        composed_keeps K Apart rule (λ limit. within_limit limit (b ∷ bytes)) _ (λ text. rule.written text rest k)

    tab_keeps : (marks : List FormatMark) (v : List ℕ) (rest : Timed) → K rest → K (tab marks v rest)
    tab_keeps marks v rest k = given_keeps K Apart rule (reading v) _ (λ n. look_keeps K Apart rule _ (λ s. write_keeps (tab_bytes marks n (column_at s.current s)) rest k))

    write_code_keeps : (v : List ℕ) (rest : Timed) → K rest → K (write_code v rest)
    write_code_keeps v rest k = given_keeps K Apart rule (reading v) _ (λ n. given_keeps K Apart rule (coded n) _ (λ bytes. write_keeps bytes rest k))

    arrange_keeps : (marks : List FormatMark) (column : Option Expr) (rest : Timed) → K rest → K (arrange points here marks column rest)
    arrange_keeps marks None rest k = turn_keeps K Apart rule (write (map mark_byte marks) rest) (write_keeps (map mark_byte marks) rest k)
    arrange_keeps marks (Some e) rest k = ev_keeps e _ (λ v. turn_keeps K Apart rule (tab marks v rest) (tab_keeps marks v rest k))

    output_keeps : (o : Output) (rest : Timed) → K rest → K (output points here o rest)
    output_keeps (Shown e) rest k = ev_keeps e _ (λ v. turn_keeps K Apart rule (write v rest) (write_keeps v rest k))
    output_keeps (Format l) rest k = arrange_keeps l.marks l.column rest k
    output_keeps (Coded e) rest k = ev_keeps e _ (λ v. turn_keeps K Apart rule (write_code v rest) (write_code_keeps v rest k))

    output_all_keeps : (list : List Output) (rest : Timed) → K rest → K (output_all points here list rest)
    output_all_keeps [] rest k = k
    output_all_keeps (o ∷ list) rest k = output_keeps o (output_all points here list rest) (output_all_keeps list rest k)

    names_keep : (words : List (List ℕ)) (rest : Timed) → K rest → K (named words rest)
    names_keep [] rest k = k
    names_keep (word ∷ words) rest k = turn_keeps K Apart rule (named words rest) (names_keep words rest k)

    spare_keeps : (words : List (List ℕ)) (rest : Timed) → K rest → K (turn (change (kill_except words) rest))
    spare_keeps words rest k = turn_keeps K Apart rule (change (kill_except words) rest) (change_keeps K Apart rule rest k (kill_except words) (λ q. (refl, refl, refl, refl, refl)))

    kill_keeps : (x : Killed) (rest : Timed) → K rest → K (kill points here x rest)
    kill_keeps (Gone v) rest k = name_keeps v _ (λ x. turn_keeps K Apart rule (remove x rest) (access_keeps K Apart rule (accesses.Kill x) (λ a. rest) (λ a. k)))
    kill_keeps (Spared words) rest k = names_keep words _ (spare_keeps words rest k)

    kill_list_keeps : (list : List Killed) (rest : Timed) → K rest → K (kill_list points here list rest)
    kill_list_keeps [] rest k = k
    kill_list_keeps (x ∷ list) rest k = kill_keeps x (kill_list points here list rest) (kill_list_keeps list rest k)

    kill_all_keeps : (list : List Killed) (rest : Timed) → K rest → K (kill_all points here list rest)
    kill_all_keeps [] rest k = spare_keeps [] rest k
    kill_all_keeps (x ∷ list) rest k = kill_list_keeps (x ∷ list) rest k

    these_keep : (x : Name) (nodes : Subtree) (rest : Timed) → K rest → K (put_these x nodes rest)
    these_keep x [] rest k = k
    these_keep x (e ∷ nodes) rest k = access_keeps K Apart rule (accesses.Put x (e ∷ nodes)) _ (λ a. change_keeps K Apart rule rest k (hold []) (λ q. (refl, refl, refl, refl, refl)))

    nodes_keep : (x : Name) (rest : Timed) → K rest → K (put_nodes x rest)
    nodes_keep x rest k = look_keeps K Apart rule _ (λ s. these_keep x s.held rest k)

    take_keeps : (into from : Name) (rest : Timed) → K rest → K (take_nodes into from rest)
    take_keeps into from rest k =
        if_keeps K Apart rule (overlaps into from) (fault faults.Overlap) (access (accesses.Subtree from) (λ a. change (hold (nodes_told a)) rest)) (fault_keeps K Apart rule faults.Overlap)
        (access_keeps K Apart rule (accesses.Subtree from) _ (λ a. change_keeps K Apart rule rest k (hold (nodes_told a)) (λ q. (refl, refl, refl, refl, refl))))

    merge_keeps : (m : Merged) (rest : Timed) → K rest → K (merge points here m rest)
    merge_keeps m rest k = name_keeps m.into _ (λ x. name_keeps m.from _ (λ y. take_keeps x y (turn (put_nodes x rest)) (turn_keeps K Apart rule (put_nodes x rest) (nodes_keep x rest k))))

    merge_all_keeps : (list : List Merged) (rest : Timed) → K rest → K (merge_all points here list rest)
    merge_all_keeps [] rest k = k
    merge_all_keeps (m ∷ list) rest k = merge_keeps m (merge_all points here list rest) (merge_all_keeps list rest k)

    -- The local of a FOR.

    local_keeps : (v : Variable) (rest : Name → Timed) → ((x : Name) → K (rest x)) → K (ev_local points here v rest)
    local_keeps (Var scope word es) rest k = all_keep es _ (λ ss. turn_keeps K Apart rule _ (given_keeps K Apart rule (name_of Local word ss) rest k))

    -- HANG, JOB and LOCK.

    timeout_keeps : (o : Option Expr) (rest : Option ℤ → Timed) → ((t : Option ℤ) → K (rest t)) → K (ev_timeout points here o rest)
    timeout_keeps None rest k = k None
    timeout_keeps (Some e) rest k = ev_keeps e _ (λ v. turn_keeps K Apart rule _ (given_keeps K Apart rule (reading v) (λ n. rest (Some n)) (λ n. k (Some n))))

    hang_all_keeps : (es : List Expr) (rest : Timed) → K rest → K (hang_all points here es rest)
    hang_all_keeps [] rest k = k
    hang_all_keeps (e ∷ es) rest k = ev_keeps e _ (λ v. turn_keeps K Apart rule _ (hang_keeps K Apart rule v (hang_all points here es rest) (hang_all_keeps es rest k)))

    start_all_keeps : (list : List StartedOf) (rest : Timed) → K rest → K (start_all points here list rest)
    start_all_keeps [] rest k = k
    start_all_keeps (s ∷ list) rest k =
        actuals_keep (as_actuals s.actuals) _ (λ vs. timeout_keeps s.timeout _
        (λ t. turn_keeps K Apart rule _ (start_job_keeps K Apart rule (entry_of here s.target) vs t (start_all points here list rest) (start_all_keeps list rest k))))

    list_names_keep : (vs : List Variable) (rest : List Name → Timed) → ((xs : List Name) → K (rest xs)) → K (ev_names points here vs rest)
    list_names_keep [] rest k = k []
    list_names_keep (v ∷ vs) rest k = name_keeps v _ (λ x. list_names_keep vs (λ xs. rest (x ∷ xs)) (λ xs. k (x ∷ xs)))

    lock_names_keep : (o : LockNames) (rest : List Name → Timed) → ((xs : List Name) → K (rest xs)) → K (ev_lock_names points here o rest)
    lock_names_keep (Lone v) rest k = list_names_keep (v ∷ []) rest k
    lock_names_keep (Together vs) rest k = list_names_keep vs rest k

    lock_list_keeps : (list : List Locked) (rest : Timed) → K rest → K (lock_list points here list rest)
    lock_list_keeps [] rest k = k
    lock_list_keeps (l ∷ list) rest k =
        lock_names_keep l.names _ (λ xs. timeout_keeps l.timeout _ (λ t. lock_keeps K Apart rule l.mode xs t (lock_list points here list rest) (lock_list_keeps list rest k)))

    lock_all_keeps : (list : List Locked) (rest : Timed) → K rest → K (lock_all points here list rest)
    lock_all_keeps [] rest k = turn_keeps K Apart rule (unlock_all rest) (unlock_all_keeps K Apart rule rest k)
    lock_all_keeps (l ∷ list) rest k = lock_list_keeps (l ∷ list) rest k

    -- OPEN, USE, CLOSE and READ.

    open_all_keeps : (list : List Opened) (rest : Timed) → K rest → K (open_all points here list rest)
    open_all_keeps [] rest k = k
    open_all_keeps (o ∷ list) rest k =
        ev_keeps o.device _ (λ name. timeout_keeps o.timeout _ (λ t. turn_keeps K Apart rule _ (rule.opened name t (open_all points here list rest) (open_all_keeps list rest k))))

    use_all_keeps : (es : List Expr) (rest : Timed) → K rest → K (use_all points here es rest)
    use_all_keeps [] rest k = k
    use_all_keeps (e ∷ es) rest k = ev_keeps e _ (λ name. turn_keeps K Apart rule _ (rule.used name (use_all points here es rest) (use_all_keeps es rest k)))

    close_all_keeps : (es : List Expr) (rest : Timed) → K rest → K (close_all points here es rest)
    close_all_keeps [] rest k = k
    close_all_keeps (e ∷ es) rest k = ev_keeps e _ (λ name. turn_keeps K Apart rule _ (rule.closed name (close_all points here es rest) (close_all_keeps es rest k)))

    receive_keeps : (r : Received) (rest : Timed) → K rest → K (receive points here r rest)
    receive_keeps r rest k =
        name_keeps r.variable _
        (λ x. timeout_keeps r.timeout _ (λ t. turn_keeps K Apart rule _
        (rule.received r.mode t (λ v. turn (store x v rest)) (λ v. turn_keeps K Apart rule (store x v rest) (store_keeps K Apart rule x v rest k)))))

    input_keeps : (i : Input) (rest : Timed) → K rest → K (input points here i rest)
    input_keeps (Prompted text) rest k = output_keeps (Shown (Chain (Literal text) Done)) rest k
    input_keeps (Arranged l) rest k = arrange_keeps l.marks l.column rest k
    input_keeps (Into r) rest k = receive_keeps r rest k

    read_all_keeps : (list : List Input) (rest : Timed) → K rest → K (read_all points here list rest)
    read_all_keeps [] rest k = k
    read_all_keeps (i ∷ list) rest k = input_keeps i (read_all points here list rest) (read_all_keeps list rest k)

    -- NEW.

    new_keeps : (x : Renewed) (rest : Timed) → K rest → K (renewal x rest)
    new_keeps (Fresh word) rest k = turn_keeps K Apart rule (change (newed (Only (word ∷ []))) rest) (change_keeps K Apart rule rest k (newed (Only (word ∷ []))) (λ q. (refl, refl, refl, refl, refl)))
    new_keeps (Kept words) rest k =
        names_keep words _ (turn_keeps K Apart rule (change (newed (AllBut words)) rest) (change_keeps K Apart rule rest k (newed (AllBut words)) (λ q. (refl, refl, refl, refl, refl))))

    new_list_keeps : (list : List Renewed) (rest : Timed) → K rest → K (new_list list rest)
    new_list_keeps [] rest k = k
    new_list_keeps (x ∷ list) rest k = new_keeps x (new_list list rest) (new_list_keeps list rest k)

    new_all_keeps : (list : List Renewed) (rest : Timed) → K rest → K (new_all list rest)
    new_all_keeps [] rest k = turn_keeps K Apart rule (change (newed (AllBut [])) rest) (change_keeps K Apart rule rest k (newed (AllBut [])) (λ q. (refl, refl, refl, refl, refl)))
    new_all_keeps (x ∷ list) rest k = new_list_keeps (x ∷ list) rest k

    -- IF and ELSE.

    ifs_keep : (es : List Expr) (line_end rest : Timed) → K line_end → K rest → K (ifs points here es line_end rest)
    ifs_keep [] line_end rest l k = k
    ifs_keep (e ∷ es) line_end rest l k =
        ev_keeps e _ (λ v. turn_keeps K Apart rule _ (given_keeps K Apart rule (truth_value v) _ (λ b.
        change_keeps K Apart rule (if b then ifs points here es line_end rest else line_end) (if_keeps K Apart rule b (ifs points here es line_end rest) line_end (ifs_keep es line_end rest l k) l)
        (set_test b) (λ q. (refl, refl, refl, refl, refl)))))

    test_keeps : (b : Bool) (line_end rest : Timed) → K line_end → K rest → K (if_test b line_end rest)
    test_keeps true line_end rest l k = look_keeps K Apart rule _ (λ s. if_keeps K Apart rule s.test rest line_end k l)
    test_keeps false line_end rest l k = look_keeps K Apart rule _ (λ s. if_keeps K Apart rule s.test line_end rest l k)

    -- FOR.

    -- Frames.

    ranges_keep : (x : Name) (rs : List Range) (body : List LineCommand) (ways : Ways) → KeepsWays K ways → K (ranges points here x rs body ways)
    ranges_keep x [] body ways k = turn_keeps K Apart rule ways.line_end k.line_end
    ranges_keep x (Single a ∷ rs) body ways k =
        let later = ranges_keep x rs body ways k in
        ev_keeps a _ (λ v. turn_keeps K Apart rule _
        (store_keeps K Apart rule x v (points (Pass here Once body (ranges points here x rs body ways) ways)) (all (Pass here Once body (ranges points here x rs body ways) ways) (later, k))))
    ranges_keep x (Endless a b ∷ rs) body ways k =
        let later = ranges_keep x rs body ways k in
        ev_keeps a _ (λ v. ev_keeps b _ (λ w. turn_keeps K Apart rule _ (given_keeps K Apart rule (reading v) _ (λ i. given_keeps K Apart rule (reading w) _ (λ step.
        first_keeps K Apart rule x i step None (ranges points here x rs body ways) (points (Pass here (By x step None) body (ranges points here x rs body ways) ways)) later
        (all (Pass here (By x step None) body (ranges points here x rs body ways) ways) (later, k)))))))
    ranges_keep x (UpTo a b c ∷ rs) body ways k =
        let later = ranges_keep x rs body ways k in
        ev_keeps a _ (λ v. ev_keeps b _ (λ w. ev_keeps c _
        (λ u. turn_keeps K Apart rule _ (given_keeps K Apart rule (reading v) _ (λ i. given_keeps K Apart rule (reading w) _ (λ step. given_keeps K Apart rule (reading u) _ (λ end.
        first_keeps K Apart rule x i step (Some end) (ranges points here x rs body ways) (points (Pass here (By x step (Some end)) body (ranges points here x rs body ways) ways)) later
        (all (Pass here (By x step (Some end)) body (ranges points here x rs body ways) ways) (later, k)))))))))

    calls_keep : (list : List CalledOf) (rest : Timed) → K rest → K (calls points here list rest)
    calls_keep [] rest k = k
    calls_keep (c ∷ list) rest k =
        let later = calls_keep list rest k in
        let leave : Leave = λ v. change popped (calls points here list rest) in
        when_keeps c.condition _ (calls points here list rest)
        (actuals_keep (as_actuals c.actuals) _ (λ vs.
        turn_keeps K Apart rule _ (all (Called false (entry_of here c.target) vs leave) (λ v. change_keeps K Apart rule (calls points here list rest) later popped popped_same)))) later

    block_keeps : (rest : Timed) → K rest → K (block points here rest)
    block_keeps rest k =
        deeper_keeps K Apart rule _ (look_keeps K Apart rule _ (λ s.
        change_keeps K Apart rule _ (turn_keeps K Apart rule _ (all (AtLine (next_line here) (λ v. change popped rest)) (λ v. change_keeps K Apart rule rest k popped popped_same)))
        (pushed (place_at here) (level_of s + 1) false (Some s.test)) (λ q. (refl, refl, refl, refl, refl))))

    do_keeps : (list : List CalledOf) (rest : Timed) → K rest → K (do_all points here list rest)
    do_keeps [] rest k = turn_keeps K Apart rule (block points here rest) (block_keeps rest k)
    do_keeps (c ∷ list) rest k = calls_keep (c ∷ list) rest k

    jumps_keep : (list : List JumpedOf) (leave : Leave) (rest : Timed) → KeepsLeave K leave → K rest → K (jumps points here list leave rest)
    jumps_keep [] leave rest l k = k
    jumps_keep (j ∷ list) leave rest l k =
        when_keeps j.condition _ (jumps points here list leave rest) (turn_keeps K Apart rule _ (all (Jumped (entry_of here j.target) leave) l)) (jumps_keep list leave rest l k)

    if_keeps_all : (es : List Expr) (line_end rest : Timed) → K line_end → K rest → K (if_all points here es line_end rest)
    if_keeps_all [] line_end rest l k = turn_keeps K Apart rule (if_test true line_end rest) (test_keeps true line_end rest l k)
    if_keeps_all (e ∷ es) line_end rest l k = ifs_keep (e ∷ es) line_end rest l k

    starts_transaction_keeps : (o : Option Restartable) (rest : Timed) → K rest → K (start_transaction points here o rest)
    starts_transaction_keeps o rest k =
        names_keep (listed_by o) _ (turn_keeps K Apart rule _ (rule.begun (restored_by o) (serial_by o) rest (turn (points (Started rest))) k (rule.apart_turned _ (all (Started rest) k))))

    value_keeps : (e : Expr) (out : Option Timed) (leave : Leave) → KeepsLeave K leave
        → K (elim out [ None ↦ in_function (ev points here e (λ v. turn (end_frame (leave v)))) | Some t ↦ fault faults.Quit ])
    value_keeps e None leave l =
        function_keeps K Apart rule _ (ev_keeps e _ (λ v. turn_keeps K Apart rule _ (ended_frame_keeps K Apart rule (leave v) (l v))))
    value_keeps e (Some t) leave l = fault_keeps K Apart rule faults.Quit

    quits_keep : (value : Option Expr) (ways : Ways) → KeepsWays K ways → K (quit points here value ways)
    quits_keep None ways w =
        turn_keeps K Apart rule _ (quit_keeps K Apart rule ways.for_quit (quit_frame (ways.leave [])) w.for_quit (framed_keeps K Apart rule (ways.leave []) (w.leave [])))
    quits_keep (Some e) ways w = turn_keeps K Apart rule _ (value_keeps e ways.for_quit ways.leave w.leave)

    obey_keeps : (command : Command) (c : Option Expr) (steps : List LineCommand) (ways : Ways) (rest : Timed) → KeepsWays K ways → K rest → K (obey points here command c steps ways rest)
    obey_keeps (Set list) c steps ways rest w k = when_keeps c _ rest (assign_all_keeps list rest k) k
    obey_keeps (Write list) c steps ways rest w k = when_keeps c _ rest (output_all_keeps list rest k) k
    obey_keeps Halt c steps ways rest w k = when_keeps c _ rest (turn_keeps K Apart rule (end None) (end_keeps K Apart rule None)) k
    obey_keeps (Hang es) c steps ways rest w k = when_keeps c _ rest (hang_all_keeps es rest k) k
    obey_keeps (Job list) c steps ways rest w k = when_keeps c _ rest (start_all_keeps list rest k) k
    obey_keeps (Lock list) c steps ways rest w k = when_keeps c _ rest (lock_all_keeps list rest k) k
    obey_keeps (OpenOf list) c steps ways rest w k = when_keeps c _ rest (open_all_keeps list rest k) k
    obey_keeps (UseDevice es) c steps ways rest w k = when_keeps c _ rest (use_all_keeps es rest k) k
    obey_keeps (CloseDevice es) c steps ways rest w k = when_keeps c _ rest (close_all_keeps es rest k) k
    obey_keeps (Read list) c steps ways rest w k = when_keeps c _ rest (read_all_keeps list rest k) k
    obey_keeps (Kill list) c steps ways rest w k = when_keeps c _ rest (kill_all_keeps list rest k) k
    obey_keeps (Merge list) c steps ways rest w k = when_keeps c _ rest (merge_all_keeps list rest k) k
    obey_keeps (If es) c steps ways rest w k = if_keeps_all es ways.line_end rest w.line_end k
    obey_keeps Else c steps ways rest w k = turn_keeps K Apart rule (if_test false ways.line_end rest) (test_keeps false ways.line_end rest w.line_end k)
    obey_keeps (For v rs) c steps ways rest w k = local_keeps v _ (λ x. ranges_keep x rs steps ways w)
    obey_keeps Forever c steps ways rest w k = turn_keeps K Apart rule _ (all (Pass here Always steps (turn ways.line_end) ways) (turn_keeps K Apart rule ways.line_end w.line_end, w))
    obey_keeps (Do list) c steps ways rest w k = when_keeps c _ rest (do_keeps list rest k) k
    obey_keeps (Goto list) c steps ways rest w k = when_keeps c _ rest (jumps_keep list ways.leave rest w.leave k) k
    obey_keeps (Quit value) c steps ways rest w k = when_keeps c _ rest (quits_keep value ways w) k
    obey_keeps (New list) c steps ways rest w k = when_keeps c _ rest (new_all_keeps list rest k) k
    obey_keeps (TStart a) c steps ways rest w k = when_keeps c _ rest (starts_transaction_keeps a rest k) k
    obey_keeps TCommit c steps ways rest w k =
        when_keeps c _ rest (turn_keeps K Apart rule _ (rule.committed rest k)) k
    obey_keeps TRestart c steps ways rest w k = when_keeps c _ rest (turn_keeps K Apart rule _ rule.given_back) k
    obey_keeps TRollback c steps ways rest w k = when_keeps c _ rest (turn_keeps K Apart rule _ (rule.rolled_back rest k)) k
    obey_keeps Break c steps ways rest w k = when_keeps c _ rest (turn_keeps K Apart rule rest k) k

    obey_all_keeps : (steps : List LineCommand) (ways : Ways) → KeepsWays K ways → K (obey_all points here steps ways)
    obey_all_keeps [] ways w = w.line_end
    obey_all_keeps (step ∷ steps) ways w = obey_keeps step.command step.condition steps ways (obey_all points here steps ways) w (obey_all_keeps steps ways w)

  -- Lines and frames.

  no_quit : (t : Timed) → ◌≡◌ {A = Option Timed} None (Some t) → K t
  no_quit t e = cc

  module _ (image : List Routine) where
    quit_before_keeps : (here : Here) (leave : Leave) → KeepsLeave K leave → K (quit_before here leave)
    quit_before_keeps here leave k = change_keeps K Apart rule _ (framed_keeps K Apart rule (leave []) (k [])) (at_place (place_at (line_before here))) (λ q. (refl, refl, refl, refl, refl))

    line_keeps : (points : Points) → ((p : Point) → KeepsPoint K p → IsReached K Apart rule p (points p)) → (here : Here) (line : Option Line) (leave : Leave)
        → KeepsLeave K leave → K (obey_line points here line leave)
    line_keeps points all here None leave k = quit_before_keeps here leave k
    line_keeps points all here (Some line) leave k =
        let next : Timed = turn (points (AtLine (next_line here) leave)) in
        let goes_on : K next = turn_keeps K Apart rule _ (all (AtLine (next_line here) leave) k) in
        let ways : Ways = record { line_end = next; for_quit = None; leave = leave } in
        let within : Timed = change (at_place (place_at here)) (obey_all points here line.steps ways) in
        let keeps : K within = change_keeps K Apart rule _
        (obey_all_keeps points all here line.steps ways (record { line_end = goes_on; for_quit = no_quit; leave = k })) (at_place (place_at here)) (λ q. (refl, refl, refl, refl, refl)) in
        look_keeps K Apart rule _
        (λ s. if_keeps K Apart rule (nat_lt line.level (level_of s)) (quit_before here leave) (if nat_lt (level_of s) line.level then next else within) (quit_before_keeps here leave k)
        (if_keeps K Apart rule (nat_lt (level_of s) line.level) next within goes_on keeps))

    call_keeps : (points : Points) → ((p : Point) → KeepsPoint K p → IsReached K Apart rule p (points p)) → (function : Bool) (to : Option (Here × Line)) (vs : List (Option (List ℕ))) (leave : Leave)
        → KeepsLeave K leave → K (call points function to vs leave)
    call_keeps points all function None vs leave k = fault_keeps K Apart rule faults.NoLine
    call_keeps points all function (Some to) vs leave k =
        let enters : State → State = λ s. passed to.1.formals vs (pushed (place_at to.0) 1 function (if function then Some s.test else None) s) in
        let in_frame : Timed = deeper (change enters (turns (length to.1.formals) (turn (points (AtLine to.0 leave))))) in
        if_keeps K Apart rule (nat_eq to.1.level 1) (if nat_lt (length to.1.formals) (length vs) then fault faults.Params else in_frame) (fault faults.NoLine)
        (if_keeps K Apart rule (nat_lt (length to.1.formals) (length vs)) (fault faults.Params) in_frame (fault_keeps K Apart rule faults.Params)
        (deeper_keeps K Apart rule _
        (change_keeps K Apart rule _ (turns_keep K Apart rule (length to.1.formals) _ (turn_keeps K Apart rule _ (all (AtLine to.0 leave) k))) enters (λ q. (refl, refl, refl, refl, refl)))))
        (fault_keeps K Apart rule faults.NoLine)

    jump_keeps : (points : Points) → ((p : Point) → KeepsPoint K p → IsReached K Apart rule p (points p)) → (to : Option (Here × Line)) (leave : Leave)
        → KeepsLeave K leave → K (jump image points to leave)
    jump_keeps points all None leave k = fault_keeps K Apart rule faults.NoLine
    jump_keeps points all (Some to) leave k =
        look_keeps K Apart rule _ (λ s. if_keeps K Apart rule (may_go s (place_at to.0) to.1.level (levels_of image to.0.routine)) (turn (points (AtLine to.0 leave))) (fault faults.NoLine)
        (turn_keeps K Apart rule _ (all (AtLine to.0 leave) k)) (fault_keeps K Apart rule faults.NoLine))

    quits_for : (t u : Timed) → K u → ◌≡◌ {A = Option Timed} (Some u) (Some t) → K t
    quits_for t u k e = let same : u ≡ t = cc in subst K same k

    points_keep : (depth : ℕ) (p : Point) → KeepsPoint K p → IsReached K Apart rule p (points_of image depth p)
    points_keep zero (AtLine here leave) k = rule.spent
    points_keep zero (Called function entry vs leave) k = rule.spent
    points_keep zero (Jumped entry leave) k = rule.spent
    points_keep zero (Pass here loop body after ways) k = rule.spent
    points_keep zero (Started rest) k = rule.apart_spent
    points_keep (suc d) (AtLine here leave) k = line_keeps (points_of image d) (points_keep d) here (line_at image here) leave k
    points_keep (suc d) (Called function entry vs leave) k = call_keeps (points_of image d) (points_keep d) function (entered image entry) vs leave k
    points_keep (suc d) (Jumped entry leave) k = jump_keeps (points_of image d) (points_keep d) (entered image entry) leave k
    points_keep (suc d) (Pass here loop body after ways) k =
        let pass : Timed = points_of image d (Pass here loop body after ways) in
        let keeps : K pass = points_keep d (Pass here loop body after ways) k in
        obey_all_keeps (points_of image d) (points_keep d) here body (in_pass loop after pass ways)
        (record {
          line_end = turn_keeps K Apart rule (for_again loop after pass) (again_keeps K Apart rule loop after pass k.0 keeps);
          for_quit = λ t e. quits_for t (turn ways.line_end) (turn_keeps K Apart rule ways.line_end k.1.line_end) e;
          leave = k.1.leave;
        })
    points_keep (suc d) (Started rest) k =
        rule.started (turn (points_of image d (Started rest))) rest (rule.apart_turned (points_of image d (Started rest)) (points_keep d (Started rest) k)) k

    -- a job from its start
    pub job_keeps : (start : Start) (n : ℕ) → K (starts image start n)
    job_keeps start n =
        turn_keeps K Apart rule _ (rule.first_asked (points_of image n (Called false start.entry start.values (λ v. end None)))
        (points_keep n (Called false start.entry start.values (λ v. end None)) (λ v. end_keeps K Apart rule None)))
