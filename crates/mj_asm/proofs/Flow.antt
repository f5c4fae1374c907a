-- The code of commands that say where control goes does what they say.
use Rattle.std.proofs.Common.{◌≡◌, ℕ, zero, suc, ◌+◌, ◌<◌, ◌≤◌, List, [], ◌∷◌, ◌++◌, length, drop, Bool, true, false, Option, Some, None, refl, sym, ap, ◌∙◌, subst, arith, length-append}
use Rattle.std.specs.Prelude.{⊤, slice_get, if◌then◌else◌}
use Rattle.mj_text.specs.declared.fault.Fault.TheVariants.{NoLine, Quit as WrongQuit}
use Rattle.mj_subs.specs.Name.{Name}
use Rattle.mj_num.specs.Number.{reading}
use Rattle.mj_oper.specs.Operators.{truth_value}
use Rattle.mj_ask.specs.declared.entry.Entry.{Entry}
use Rattle.mj_ast.specs.declared.expr.Scope.TheVariants.{Local}
use Rattle.mj_ast.specs.Syntax.{Expr, Variable, as_actuals, Called, Jumped, Range, Single, Endless, UpTo, Command, Set, Write, Halt, Hang, Job, Lock, OpenDevice, UseDevice, CloseDevice, Read, Kill, Merge, If, Else, For, Forever, Do, Goto, Quit, New, TStart, TCommit, TRestart, TRollback, Break, LineCommand, Line, Routine}
use Rattle.mj_semantics.specs.State.{State, Place, level_of, may_go, set_test, pushed, popped}
use Rattle.mj_semantics.specs.Outcome.{Timed, turn, look, change, given, fault, end}
use Rattle.mj_semantics.specs.Lines.{Here, place_at, next_line, entry_of, entered, levels_of}
use Rattle.mj_semantics.specs.Evaluation.{ev, when, name_of, ev_actuals, ev_local}
use Rattle.mj_semantics.specs.Points.{Leave, Ways, Once as PassesOnce, Always as PassesAlways, By as PassesBy, Points, AtLine, Called as CalledAt, Jumped as JumpedAt, Pass}
use Rattle.mj_semantics.specs.Commands.{for_again, if_test, ifs, if_all, ranges, calls, block, do_all, jumps, end_frame, quit_frame, in_function, quit, assign_all, output_all, hang_all, start_all, lock_all, open_all, use_all, close_all, read_all, kill_all, merge_all, new_all, start_transaction, commit_transaction, restart_transaction, obey, obey_all}
use Rattle.mj_semantics.specs.Transactions.{roll_back}
use Rattle.mj_semantics.specs.Job.{points_of, jump, in_pass}
use Rattle.mj_pcode.specs.declared.instr.Span.TheVariants as span
use Rattle.mj_pcode.specs.declared.instr.Instr.{Instr}
use Rattle.mj_pcode.specs.declared.instr.Instr.TheVariants as instr
use Rattle.mj_pcode.specs.declared.instr.Unit as unit
use Rattle.mj_pcode.specs.Found.{Found, found, start_of, levels_in}
use Rattle.mj_pcode.specs.Context.{Passes, Once, Always, By, Loop, Call, Context, passes_of, nameless, suspended, awaiting, at_unit}
use Rattle.mj_pcode.specs.Machine as machine
use Rattle.mj_pcode.specs.Machine.{Stack, exec, returns, spread, place_in, with_passes}
use Rattle.mj_asm.specs.Code.{reference, expr_code, subscripts_code, actuals_code, shape_of, code_if, call_code, calls_code, do_code, jump_code, jumps_code, quit_code, ifs_code, if_code, range_code, ranges_code, body_code, for_code, command_code, and_then, obey_code, steps_code}
use Rattle.mj_asm.specs.Correct.{Agree, next_of, DoLines, IsFound, LeadAlike}
use Rattle.mj_asm.specs.Laws.{after_one, Leaves, same_place, at_found, call_follows}
use Rattle.mj_pcode.proofs.Agree.{if_at, look_at, change_at, deeper_at, end_frame_at, quit_frame_at, in_function_at, given_at, store_at, if_test_at, again_at, first_at, reading_two_at}
use Rattle.mj_asm.proofs.Lies.{onto, operands_are, rest_below}
use Rattle.mj_asm.proofs.Expressions.{HasAt, DoesCalls, has_front, has_back, seam, from, acts, one, moved, expr_follows, actuals_follow, local_follows, when_follows}
use Rattle.mj_asm.proofs.VariableCommands.{assigns_follow, kill_all_follows, merges_follow, new_all_follows}
use Rattle.mj_asm.proofs.SharingCommands.{hangs_follow, jobs_follow, lock_all_follows}
use Rattle.mj_asm.proofs.DeviceCommands.{outputs_follow, opens_follow, uses_follow, closes_follow, inputs_follow}
use Rattle.mj_asm.proofs.Transactions.{transaction_follows, commit_follows, restart_follows, roll_back_follows, break_follows}

-- what holds for so many turns holds for fewer
pub fewer_turns : (b m : ℕ) (f g : Timed) → m ≤ b → Agree b f g → Agree m f g
fewer_turns b m f g le h = record { by = λ n le'. h.by n (omega arith) }

pub fewer_leaves : (units : List unit.Unit) (b m : ℕ) (below : List Call) (leave : Leave) → m ≤ b → Leaves units b below leave → Leaves units m below leave
fewer_leaves units b m below leave le h v = fewer_turns b m (returns (next_of units) below v) (leave v) le (h v)

pub returns_same : (units : List unit.Unit) (n : ℕ) (below : List Call) (v : List ℕ) → returns (after_one units n) below v n ≡ returns (next_of units) below v n
returns_same units n [] v = refl
returns_same units n (k ∷ ks) v = refl

-- a QUIT of the frame
pub quits_same : (units : List unit.Unit) (n : ℕ) (below : List Call) (leave : Leave) → Leaves units n below leave → machine.quits (after_one units n) below n ≡ quit_frame (leave []) n
quits_same units n below leave h =
    quit_frame_at n (returns (after_one units n) below []) (leave []) (returns_same units n below [] ∙ (h []).by n (omega arith))

module _ (image : List Routine) (units : List unit.Unit) (alike : LeadAlike image units) where
  jump_follows : (d n : ℕ) (o : Option (Here × Line)) (f : Option Found) (below : List Call) (leave : Leave) → n ≤ d → IsFound image units o f → DoLines image units n → Leaves units n below leave
      → machine.jumps f below (after_one units n) n ≡ jump image (points_of image d) o leave n
  jump_follows d n None None below leave le is lines k = refl
  jump_follows d n None (Some f) below leave le is lines k = absurd is
  jump_follows d n (Some to) None below leave le is lines k = absurd is
  jump_follows d n (Some to) (Some f) below leave le is lines k =
      let level : to.1.level ≡ f.head.level = is.6 in
      let levels : levels_of image to.0.routine ≡ levels_in f.unit = ap (levels_of image) is.1 ∙ is.8 in
      let place : place_at to.0 ≡ place_in f.unit f.line = same_place to.0.routine f.unit.name to.0.line f.line is.1 is.2 in
      let line : Timed = turn (points_of image d (AtLine to.0 leave)) in
      let there : Timed = exec units n (at_unit f.at below) f.head.start [] in
      let whole : Place → ℕ → List ℕ → Timed → Timed = λ p l ls rest. look (λ s. if may_go s p l ls then rest else fault NoLine) in
      look_at n (λ s. if may_go s (place_in f.unit f.line) f.head.level (levels_in f.unit) then there else fault NoLine)
      (λ s. if may_go s (place_in f.unit f.line) f.head.level (levels_in f.unit) then line else fault NoLine)
      (λ s. if_at n (may_go s (place_in f.unit f.line) f.head.level (levels_in f.unit)) there line
      (fault NoLine) (fault NoLine) (at_found image units 0 d n n to f below leave (omega arith) le is lines k) refl)
      ∙ ap (λ p. whole p f.head.level (levels_in f.unit) line n) (sym place)
      ∙ ap (λ l. whole (place_at to.0) l (levels_in f.unit) line n) (sym level)
      ∙ ap (λ ls. whole (place_at to.0) to.1.level ls line n) (sym levels)

  called_at : (function : Bool) (d n : ℕ) (entry : Entry) (vs : List (Option (List ℕ))) (below : List Call) (leave : Leave) → n < d → DoLines image units n → Leaves units n below leave
      → machine.calls function (found units entry) vs below (after_one units n) n ≡ points_of image d (CalledAt function entry vs leave) n
  called_at function zero n entry vs below leave lt lines q = absurd (omega (arith, lt))
  called_at function (suc d) n entry vs below leave lt lines q = call_follows image units function d n (entered image entry) (found units entry) vs below leave (omega arith) (alike entry) lines q

  jumped_at : (d n : ℕ) (entry : Entry) (below : List Call) (leave : Leave) → n < d → DoLines image units n → Leaves units n below leave
      → machine.jumps (found units entry) below (after_one units n) n ≡ points_of image d (JumpedAt entry leave) n
  jumped_at zero n entry below leave lt lines q = absurd (omega (arith, lt))
  jumped_at (suc d) n entry below leave lt lines q = jump_follows d n (entered image entry) (found units entry) below leave (omega arith) (alike entry) lines q

  module _ (u : unit.Unit) (j k : ℕ) (at : slice_get units j ≡ Some u) (some : 1 ≤ k) (within : k ≤ length u.heads.items) (below : List Call) where
    abbrev here : Here
    here = record { routine = u.name; line = k }

    abbrev in_frame : List Loop → Context
    in_frame loops = record { unit = j; loops = loops; calls = below }

    abbrev there : List Loop → ℕ → Timed
    there loops pc = from units u (in_frame loops) at pc []

    abbrev code_here : List Instr
    code_here = u.instrs.items

    -- where a QUIT leads to in a FOR that is closed at an instruction
    abbrev pub QuitsFor : ℕ → List Loop → Option ℕ → Option Timed → Type 0
    QuitsFor b loops None None = ⊤
    QuitsFor b loops (Some close) (Some out) = Agree b (there loops close) out
    QuitsFor b loops _ _ = ⊥

    fewer_quits : (b m : ℕ) (loops : List Loop) (out : Option ℕ) (way : Option Timed) → m ≤ b → QuitsFor b loops out way → QuitsFor m loops out way
    fewer_quits b m loops None None le q = q
    fewer_quits b m loops None (Some t) le q = absurd q
    fewer_quits b m loops (Some c) None le q = absurd q
    fewer_quits b m loops (Some c) (Some t) le q = fewer_turns b m _ t le q

    -- the frame below goes on behind a DO
    goes_on : (b n pc : ℕ) (loops : List Loop) (rest : Timed) → n ≤ b → Agree b (there loops pc) rest → Leaves units n (suspended (in_frame loops) pc) (λ v. change popped rest)
    goes_on b n pc loops rest le h v =
        record { by = λ m le'. change_at m popped (λ q. exec units q (in_frame loops) pc [] q) rest (h.by m (omega arith)) }

    -- and behind a function, with its value upon the operands that were kept
    goes_on_with : (b n pc : ℕ) (loops : List Loop) (stack : Stack) (rest : List ℕ → Timed) → n ≤ b
        → ((v : List ℕ) → Agree b (from units u (in_frame loops) at pc (v ∷ stack)) (rest v)) → Leaves units n (awaiting (in_frame loops) pc stack) (λ v. change popped (rest v))
    goes_on_with b n pc loops stack rest le h v =
        record { by = λ m le'. change_at m popped (λ q. exec units q (in_frame loops) pc (v ∷ stack) q) (rest v) ((h v).by m (omega arith)) }

    module _ (b d : ℕ) (deep : b ≤ d) (lines : (m : ℕ) → m < b → DoLines image units m) (loops : List Loop) where
      abbrev follows_from : ℕ → Timed → Type 0
      follows_from pc rest = Agree b (there loops pc) rest

      abbrev ctx : Context
      ctx = in_frame loops

      points : Points
      points = points_of image d

      -- a function in an expression
      does_calls : DoesCalls units u ctx at b (points_of image d) here
      does_calls t vs pc n stack rest lt h =
          called_at true d n (entry_of here t) vs (awaiting ctx pc stack) (λ v. change popped (rest v)) (omega arith) (lines n lt)
          (goes_on_with b n pc loops stack rest (omega arith) h)

      -- one call
      call_one : (c : Called) (pc : ℕ) (rest : Timed) → HasAt code_here pc (call_code here c pc) → follows_from (pc + length (call_code here c pc)) rest
          → follows_from pc (ev_actuals (points_of image d) here (as_actuals c.actuals) (λ vs. turn (points_of image d (CalledAt false (entry_of here c.target) vs (λ v. change popped rest)))))
      call_one c pc rest has h =
          let ca = actuals_code pc (as_actuals c.actuals) in
          let shape = shape_of (as_actuals c.actuals) in
          let i = instr.Do (entry_of here c.target) shape in
          let len : pc + length ca + 1 ≡ pc + length (ca ++ i ∷ []) = omega (arith, length-append ca (i ∷ [])) in
          let after : follows_from (pc + length ca + 1) rest = moved units u ctx at b _ _ [] rest len h in
          actuals_follow units u ctx at b (points_of image d) here does_calls (as_actuals c.actuals) pc [] _ (has_front code_here pc ca _ has) (λ vs many.
          one units u ctx at b (pc + length ca) (onto vs []) _ (has_back code_here pc ca _ has).0 (λ n lt.
          ap (λ l. machine.calls false (found units (entry_of here c.target)) (spread shape l) (suspended ctx (pc + length ca + 1)) (after_one units n) n) (operands_are vs [] _ many)
          ∙ called_at false d n (entry_of here c.target) (spread shape vs) (suspended ctx (pc + length ca + 1)) (λ v. change popped rest) (omega arith) (lines n lt)
          (goes_on b n (pc + length ca + 1) loops rest (omega arith) after)))

      calls_follow : (list : List Called) (pc : ℕ) (rest : Timed)
          → HasAt code_here pc (calls_code here pc list) → follows_from (pc + length (calls_code here pc list)) rest → follows_from pc (calls (points_of image d) here list rest)
      calls_follow [] pc rest has h = moved units u ctx at b pc (pc + 0) [] rest (omega arith) h
      calls_follow (c ∷ list) pc rest has h =
          let cc = code_if pc c.condition (call_code here c) in
          let later : Timed = calls (points_of image d) here list rest in
          when_follows units u ctx at b (points_of image d) here does_calls c.condition (call_code here c)
          (ev_actuals (points_of image d) here (as_actuals c.actuals) (λ vs. turn (points_of image d (CalledAt false (entry_of here c.target) vs (λ v. change popped later))))) later pc []
          (has_front code_here pc cc _ has) (λ p has' after. call_one c p later has' after)
          (calls_follow list (pc + length cc) rest (has_back code_here pc cc _ has) (moved units u ctx at b _ _ [] rest (seam pc cc (calls_code here (pc + length cc) list)) h))

      block_follows : (pc : ℕ) (rest : Timed) → slice_get code_here pc ≡ Some (instr.DoBlock k) → follows_from (pc + 1) rest → follows_from pc (turn (block (points_of image d) here rest))
      block_follows pc rest has h =
          one units u ctx at b pc [] _ has (λ n lt.
          let there' : Timed = exec units n (at_unit j (suspended ctx (pc + 1))) (start_of u (k + 1)) [] in
          let line : Timed = turn (points_of image d (AtLine (next_line here) (λ v. change popped rest))) in
          let enters : State → State → State = λ s. pushed (place_in u k) (level_of s + 1) false (Some s.test) in
          deeper_at n (look (λ s. change (enters s) there')) (look (λ s. change (enters s) line))
          (look_at n (λ s. change (enters s) there') (λ s. change (enters s) line) (λ s. change_at n (enters s) there' line
          ((lines n lt j u at (k + 1) (omega arith) (omega arith) (suspended ctx (pc + 1)) (λ v. change popped rest) (goes_on b n (pc + 1) loops rest (omega arith) h) d (omega arith)).by n
          (omega arith)))))

      do_follows : (list : List Called) (pc : ℕ) (rest : Timed)
          → HasAt code_here pc (do_code here pc list) → follows_from (pc + length (do_code here pc list)) rest → follows_from pc (do_all (points_of image d) here list rest)
      do_follows [] pc rest has h = block_follows pc rest has.0 h
      do_follows (c ∷ list) pc rest has h = calls_follow (c ∷ list) pc rest has h

      jump_one : (y : Jumped) (pc : ℕ) (leave : Leave)
          → HasAt code_here pc (jump_code here y pc) → Leaves units b below leave → follows_from pc (turn (points_of image d (JumpedAt (entry_of here y.target) leave)))
      jump_one y pc leave has q =
          one units u ctx at b pc [] _ has.0 (λ n lt.
          jumped_at d n (entry_of here y.target) below leave (omega arith) (lines n lt) (fewer_leaves units b n below leave (omega arith) q))

      jumps_follow : (list : List Jumped) (pc : ℕ) (leave : Leave) (rest : Timed) → HasAt code_here pc (jumps_code here pc list)
          → Leaves units b below leave → follows_from (pc + length (jumps_code here pc list)) rest → follows_from pc (jumps (points_of image d) here list leave rest)
      jumps_follow [] pc leave rest has q h = moved units u ctx at b pc (pc + 0) [] rest (omega arith) h
      jumps_follow (y ∷ list) pc leave rest has q h =
          let cc = code_if pc y.condition (jump_code here y) in
          let later : Timed = jumps (points_of image d) here list leave rest in
          when_follows units u ctx at b (points_of image d) here does_calls y.condition (jump_code here y) (turn (points_of image d (JumpedAt (entry_of here y.target) leave))) later pc []
          (has_front code_here pc cc _ has) (λ p has' after. jump_one y p leave has' q)
          (jumps_follow list (pc + length cc) leave rest (has_back code_here pc cc _ has) q (moved units u ctx at b _ _ [] rest (seam pc cc (jumps_code here (pc + length cc) list)) h))

      -- a QUIT without a value
      bare_follows : (out : Option ℕ) (way : Option Timed) (leave : Leave) (pc : ℕ) → HasAt code_here pc (quit_code pc out None) → QuitsFor b loops out way
          → Leaves units b below leave → follows_from pc (turn (elim way [ None ↦ quit_frame (leave []) | Some t ↦ t ]))
      bare_follows None None leave pc has q h =
          one units u ctx at b pc [] (quit_frame (leave [])) has.0 (λ n lt. quits_same units n below leave (fewer_leaves units b n below leave (omega arith) h))
      bare_follows None (Some t) leave pc has q h = absurd q
      bare_follows (Some c) None leave pc has q h = absurd q
      bare_follows (Some c) (Some t) leave pc has q h = one units u ctx at b pc [] t has.0 (λ n lt. q.by n (omega arith))

      -- a QUIT with a value: it looks at the frame, takes the value, and then ends the frame
      gives_follow : (out : Option ℕ) (way : Option Timed) (e : Expr) (leave : Leave) (pc : ℕ) → HasAt code_here pc (quit_code pc out (Some e)) → QuitsFor b loops out way
          → Leaves units b below leave
          → follows_from pc (turn (elim way [ None ↦ in_function (ev (points_of image d) here e (λ v. turn (end_frame (leave v)))) | Some t ↦ fault WrongQuit ]))
      gives_follow None None e leave pc has q h =
          let ce = expr_code (pc + 1) e in
          let inner : Timed = ev (points_of image d) here e (λ v. turn (end_frame (leave v))) in
          let given_back : follows_from (pc + 1) inner =
          expr_follows units u ctx at b (points_of image d) here does_calls e (pc + 1) [] _ (has_front code_here (pc + 1) ce _ has.1) (λ v.
          one units u ctx at b (pc + 1 + length ce) (v ∷ []) (end_frame (leave v)) (has_back code_here (pc + 1) ce _ has.1).0 (λ n lt.
          end_frame_at n (returns (after_one units n) below v) (leave v) (returns_same units n below v ∙ (h v).by n (omega arith)))) in
          one units u ctx at b pc [] (in_function inner) has.0 (λ n lt. in_function_at n (exec units n ctx (pc + 1) []) inner (given_back.by n (omega arith)))
      gives_follow None (Some t) e leave pc has q h = absurd q
      gives_follow (Some c) None e leave pc has q h = absurd q
      gives_follow (Some c) (Some t) e leave pc has q h = one units u ctx at b pc [] (fault WrongQuit) has.0 (λ n lt. refl)

      quit_follows : (out : Option ℕ) (value : Option Expr) (ways : Ways) (pc : ℕ) → HasAt code_here pc (quit_code pc out value) → QuitsFor b loops out ways.for_quit
          → Leaves units b below ways.leave → follows_from pc (quit (points_of image d) here value ways)
      quit_follows out None ways pc has q h = bare_follows out ways.for_quit ways.leave pc has q h
      quit_follows out (Some e) ways pc has q h = gives_follow out ways.for_quit e ways.leave pc has q h

      ifs_follow : (es : List Expr) (rest : ℕ → List Instr) (line_end done : Timed) (pc : ℕ) → HasAt code_here pc (ifs_code pc es rest)
          → ((p : ℕ) → HasAt code_here p (rest p) → follows_from (p + length (rest p)) line_end → follows_from p done)
          → follows_from (pc + length (ifs_code pc es rest)) line_end → follows_from pc (ifs (points_of image d) here es line_end done)
      ifs_follow [] rest line_end done pc has f h = f pc has h
      ifs_follow (e ∷ es) rest line_end done pc has f h =
          let ce = expr_code pc e in
          let behind = pc + length ce + 1 in
          let cr = ifs_code behind es rest in
          let target = behind + length cr in
          let back = has_back code_here pc ce (instr.SetTest target ∷ cr) has in
          let len : target ≡ pc + length (ce ++ instr.SetTest target ∷ cr) = omega (arith, length-append ce (instr.SetTest target ∷ cr)) in
          let after = moved units u ctx at b target _ [] line_end len h in
          expr_follows units u ctx at b (points_of image d) here does_calls e pc [] _ (has_front code_here pc ce _ has) (λ v.
          one units u ctx at b (pc + length ce) (v ∷ []) _ back.0 (λ n lt.
          given_at n (truth_value v) _ _ (λ t q.
          change_at n (set_test t) (if t then (exec units n ctx behind []) else (exec units n ctx target [])) (if t then ifs (points_of image d) here es line_end done else line_end)
          (if_at n t (exec units n ctx behind []) (ifs (points_of image d) here es line_end done) (exec units n ctx target []) line_end
          ((ifs_follow es rest line_end done behind back.1 f after).by n (omega arith))
          (after.by n (omega arith))))))

      -- the rest of the line, where `$TEST` is so
      test_follows : (t : Bool) (i : ℕ → Instr) (rest : List Instr) (line_end done : Timed) (pc : ℕ)
          → ((n : ℕ) → acts units u ctx at (i (pc + 1 + length rest)) pc [] n n ≡ if_test t (exec units n ctx (pc + 1 + length rest) []) (exec units n ctx (pc + 1) []) n)
          → HasAt code_here pc (i (pc + 1 + length rest) ∷ rest)
          → (follows_from (pc + 1 + length rest) line_end → follows_from (pc + 1) done)
          → follows_from (pc + length (i (pc + 1 + length rest) ∷ rest)) line_end → follows_from pc (turn (if_test t line_end done))
      test_follows t i rest line_end done pc acts_so has f h =
          let target = pc + 1 + length rest in
          let len : target ≡ pc + length (i target ∷ rest) = omega arith in
          let after = moved units u ctx at b target _ [] line_end len h in
          one units u ctx at b pc [] _ has.0 (λ n lt.
          acts_so n ∙ if_test_at n t (exec units n ctx target []) line_end (exec units n ctx (pc + 1) []) done (after.by n (omega arith)) ((f after).by n (omega arith)))

      if_follows : (es : List Expr) (rest : ℕ → List Instr) (line_end done : Timed) (pc : ℕ) → HasAt code_here pc (if_code pc es rest)
          → ((p : ℕ) → HasAt code_here p (rest p) → follows_from (p + length (rest p)) line_end → follows_from p done)
          → follows_from (pc + length (if_code pc es rest)) line_end → follows_from pc (if_all (points_of image d) here es line_end done)
      if_follows [] rest line_end done pc has f h = test_follows true instr.JumpUnlessTest (rest (pc + 1)) line_end done pc (λ n. refl) has (λ h'. f (pc + 1) has.1 h') h
      if_follows (e ∷ es) rest line_end done pc has f h = ifs_follow (e ∷ es) rest line_end done pc has f h

    -- the rest of a line follows, in each FOR and for all turns
    abbrev Follows : List LineCommand → Type 0
    Follows steps =
        (b d : ℕ) → b ≤ d → ((m : ℕ) → m < b → DoLines image units m) → (loops : List Loop) (out : Option ℕ) (ways : Ways) (pc : ℕ)
        → HasAt code_here pc (steps_code here pc out steps) → Agree b (there loops (pc + length (steps_code here pc out steps))) ways.line_end
        → QuitsFor b loops out ways.for_quit → Leaves units b below ways.leave
        → Agree b (there loops pc) (obey_all (points_of image d) here steps ways)

    module _ (steps : List LineCommand) (follows : Follows steps) (ls : List Loop) (close : ℕ) (ways : Ways) where
      -- the passes of a FOR
      record Stands (l : Loop) : Type 0 where
        body : HasAt code_here l.body (steps_code here l.body (Some close) steps)
        again : slice_get code_here (l.body + length (steps_code here l.body (Some close) steps)) ≡ Some instr.ForAgain

      kept : (l : Loop) (passes : Passes) (resume : ℕ) → Stands l → Stands (with_passes l passes resume)
      kept l passes resume h = record { body = h.body; again = h.again }

      abbrev PassAt : ℕ → ℕ → Loop → Timed → Type 0
      PassAt d n l after = exec units n (in_frame (l ∷ ls)) l.body [] n ≡ points_of image d (Pass here (passes_of l) steps after ways) n

      pass_after : (b d : ℕ) → b ≤ d → ((m : ℕ) → m < b → DoLines image units m) → (l : Loop) → Stands l → (after : Timed)
          → Agree b (there (l ∷ ls) l.resume) after → Agree b (there (l ∷ ls) close) (turn ways.line_end) → Leaves units b below ways.leave
          → ((n : ℕ) → n < b → PassAt d n l after)
          → Agree b (there (l ∷ ls) l.body) (points_of image (suc d) (Pass here (passes_of l) steps after ways))
      pass_after b d deep lines l stands after resumes closes leaves next =
          let pass : Timed = points_of image d (Pass here (passes_of l) steps after ways) in
          let end = l.body + length (steps_code here l.body (Some close) steps) in
          let ended : Agree b (there (l ∷ ls) end) (turn (for_again (passes_of l) after pass)) =
          one units u (in_frame (l ∷ ls)) at b end [] _ stands.again (λ n lt.
          again_at n (passes_of l) (exec units n (in_frame (l ∷ ls)) l.resume []) after (exec units n (in_frame (l ∷ ls)) l.body []) pass
          (resumes.by n (omega arith)) (next n lt)) in
          record { by = λ n le. (follows b d deep lines (l ∷ ls) (Some close) (in_pass (passes_of l) after pass ways) l.body stands.body ended closes leaves).by n le }

      pass_follows : (d b : ℕ) → b ≤ d → ((m : ℕ) → m < b → DoLines image units m) → (l : Loop) → Stands l → (after : Timed)
          → Agree b (there (l ∷ ls) l.resume) after → Agree b (there (l ∷ ls) close) (turn ways.line_end) → Leaves units b below ways.leave
          → Agree b (there (l ∷ ls) l.body) (points_of image (suc d) (Pass here (passes_of l) steps after ways))
      pass_follows zero b deep lines l stands after resumes closes leaves =
          pass_after b zero deep lines l stands after resumes closes leaves (λ n lt. absurd (omega (arith, lt, deep)))
      pass_follows (suc d) b deep lines l stands after resumes closes leaves =
          pass_after b (suc d) deep lines l stands after resumes closes leaves (λ n lt.
          (pass_follows d n (omega arith) (λ m lt'. lines m (omega arith)) l stands after (fewer_turns b n (there (l ∷ ls) l.resume) after (omega arith) resumes)
          (fewer_turns b n (there (l ∷ ls) close) (turn ways.line_end) (omega arith) closes) (fewer_leaves units b n below ways.leave (omega arith) leaves)).by n (omega arith))

      module _ (b d : ℕ) (deep : b ≤ d) (lines : (m : ℕ)
          → m < b → DoLines image units m) (closes : (l : Loop) → Agree b (there (l ∷ ls) close) (turn ways.line_end)) (leaves : Leaves units b below ways.leave) where
        -- the first pass of a range, and what comes after the range
        begun : (d n : ℕ) (l : Loop) → Stands l → (after : Timed) → n < b → n < d → Agree b (there (l ∷ ls) l.resume) after
            → exec units n (in_frame (l ∷ ls)) l.body [] n ≡ points_of image d (Pass here (passes_of l) steps after ways) n
        begun zero n l stands after lt lt' r = absurd (omega (arith, lt'))
        begun (suc d') n l stands after lt lt' r =
            (pass_follows d' n (omega arith) (λ m lt''. lines m (omega arith)) l stands after (fewer_turns b n (there (l ∷ ls) l.resume) after (omega arith) r)
            (fewer_turns b n (there (l ∷ ls) close) (turn ways.line_end) (omega arith) (closes l)) (fewer_leaves units b n below ways.leave (omega arith) leaves)).by n (omega arith)

        ranges_follow : (rs : List Range) (l : Loop) (pc : ℕ) → Stands l → HasAt code_here pc (ranges_code pc rs) → pc + length (ranges_code pc rs) ≡ close
            → Agree b (there (l ∷ ls) pc) (ranges (points_of image d) here l.name rs steps ways)
        ranges_follow [] l pc stands has e = moved units u (in_frame (l ∷ ls)) at b pc close [] (turn ways.line_end) (omega (arith, e)) (closes l)
        ranges_follow (Single a ∷ rs) l pc stands has e =
            let c = in_frame (l ∷ ls) in
            let ca = expr_code pc a in
            let cr = range_code pc (Single a) in
            let i = instr.ForBegin span.One in
            let front = has_front code_here pc cr _ has in
            let behind = pc + length ca + 1 in
            let len : pc + length cr ≡ behind = omega (arith, length-append ca (i ∷ [])) in
            let whole : pc + length cr + length (ranges_code (pc + length cr) rs) ≡ close = omega (arith, e, length-append cr (ranges_code (pc + length cr) rs)) in
            let l' = with_passes l Once behind in
            let after : Timed = ranges (points_of image d) here l.name rs steps ways in
            let later : Agree b (there (l' ∷ ls) behind) after =
            moved units u (in_frame (l' ∷ ls)) at b behind
            (pc + length cr) [] after (sym len) (ranges_follow rs l' (pc + length cr) (kept l l'.passes l'.resume stands) (has_back code_here pc cr _ has) whole) in
            expr_follows units u c at b (points_of image d) here (does_calls b d deep lines (l ∷ ls)) a pc [] _ (has_front code_here pc ca _ front) (λ v.
            one units u c at b (pc + length ca) (v ∷ []) _ (has_back code_here pc ca _ front).0 (λ n lt.
            store_at n l.name v (exec units n (in_frame (l' ∷ ls)) l.body [])
            (points_of image d (Pass here PassesOnce steps after ways)) (begun d n l' (kept l l'.passes l'.resume stands) after lt (omega arith) later)))
        ranges_follow (Endless a a2 ∷ rs) l pc stands has e =
            let c = in_frame (l ∷ ls) in
            let ca = expr_code pc a in
            let second = pc + length ca in
            let c2 = expr_code second a2 in
            let cr = range_code pc (Endless a a2) in
            let i = instr.ForBegin span.Endless in
            let front = has_front code_here pc cr _ has in
            let back = has_back code_here pc ca (c2 ++ i ∷ []) front in
            let last = second + length c2 in
            let len : pc + length cr ≡ last + 1 = omega (arith, length-append ca (c2 ++ i ∷ []), length-append c2 (i ∷ [])) in
            let whole : pc + length cr + length (ranges_code (pc + length cr) rs) ≡ close = omega (arith, e, length-append cr (ranges_code (pc + length cr) rs)) in
            let after : Timed = ranges (points_of image d) here l.name rs steps ways in
            expr_follows units u c at b (points_of image d) here (does_calls b d deep lines (l ∷ ls)) a pc [] _ (has_front code_here pc ca _ front) (λ v.
            expr_follows units u c at b (points_of image d) here (does_calls b d deep lines (l ∷ ls)) a2 second (v ∷ []) _ (has_front code_here second c2 _ back) (λ w.
            one units u c at b last (w ∷ v ∷ []) _ (has_back code_here second c2 _ back).0 (λ n lt.
            reading_two_at n v w _ _ (λ x step.
            let l' : Loop = with_passes l (By step None) (last + 1) in
            let later : Agree b (there (l' ∷ ls) (last + 1)) after =
            moved units u (in_frame (l' ∷ ls)) at b
            (last + 1) (pc + length cr) [] after (sym len) (ranges_follow rs l' (pc + length cr) (kept l l'.passes l'.resume stands) (has_back code_here pc cr _ has) whole) in
            first_at n l.name x step None (exec units n (in_frame (l' ∷ ls)) (last + 1) []) after
            (exec units n (in_frame (l' ∷ ls)) l.body []) (points_of image d (Pass here (PassesBy l.name step None) steps after ways))
            (later.by n (omega arith)) (begun d n l' (kept l l'.passes l'.resume stands) after lt (omega arith) later)))))
        ranges_follow (UpTo a a2 a3 ∷ rs) l pc stands has e =
            let c = in_frame (l ∷ ls) in
            let ca = expr_code pc a in
            let second = pc + length ca in
            let c2 = expr_code second a2 in
            let third = second + length c2 in
            let c3 = expr_code third a3 in
            let cr = range_code pc (UpTo a a2 a3) in
            let i = instr.ForBegin span.UpTo in
            let front = has_front code_here pc cr _ has in
            let back = has_back code_here pc ca (c2 ++ (c3 ++ i ∷ [])) front in
            let back' = has_back code_here second c2 (c3 ++ i ∷ []) back in
            let last = third + length c3 in
            let len : pc + length cr ≡ last + 1 = omega (arith, length-append ca (c2 ++ (c3 ++ i ∷ [])), length-append c2 (c3 ++ i ∷ []), length-append c3 (i ∷ [])) in
            let whole : pc + length cr + length (ranges_code (pc + length cr) rs) ≡ close = omega (arith, e, length-append cr (ranges_code (pc + length cr) rs)) in
            let after : Timed = ranges (points_of image d) here l.name rs steps ways in
            expr_follows units u c at b (points_of image d) here (does_calls b d deep lines (l ∷ ls)) a pc [] _ (has_front code_here pc ca _ front) (λ v.
            expr_follows units u c at b (points_of image d) here (does_calls b d deep lines (l ∷ ls)) a2 second (v ∷ []) _ (has_front code_here second c2 _ back) (λ w.
            expr_follows units u c at b (points_of image d) here (does_calls b d deep lines (l ∷ ls)) a3 third (w ∷ v ∷ []) _ (has_front code_here third c3 _ back') (λ z.
            one units u c at b last (z ∷ w ∷ v ∷ []) _ (has_back code_here third c3 _ back').0 (λ n lt.
            reading_two_at n v w _ _ (λ x step.
            given_at n (reading z) _ _ (λ end ok.
            let l' : Loop = with_passes l (By step (Some end)) (last + 1) in
            let later : Agree b (there (l' ∷ ls) (last + 1)) after =
            moved units u (in_frame (l' ∷ ls)) at b
            (last + 1) (pc + length cr) [] after (sym len) (ranges_follow rs l' (pc + length cr) (kept l l'.passes l'.resume stands) (has_back code_here pc cr _ has) whole) in
            first_at n l.name x step (Some end) (exec units n (in_frame (l' ∷ ls)) (last + 1) []) after
            (exec units n (in_frame (l' ∷ ls)) l.body []) (points_of image d (Pass here (PassesBy l.name step (Some end)) steps after ways))
            (later.by n (omega arith)) (begun d n l' (kept l l'.passes l'.resume stands) after lt (omega arith) later)))))))

    -- where the passes of a FOR stand: what closes it, the commands, and the next pass
    body_stands : (steps : List LineCommand) (close : ℕ) (l : Loop) → l.body ≡ close + 1
        → HasAt code_here close (body_code close (λ p o. steps_code here p o steps)) → (follows : Follows steps) (ls : List Loop) (ways : Ways) → Stands steps follows ls close ways l
    body_stands steps close l e has follows ls ways =
        let cb = steps_code here (close + 1) (Some close) steps in
        record {
          body = subst (λ p. HasAt code_here p (steps_code here p (Some close) steps)) (sym e) (has_front code_here (close + 1) cb (instr.ForAgain ∷ []) has.1);
          again = ap (λ p. slice_get code_here (p + length (steps_code here p (Some close) steps))) e ∙ (has_back code_here (close + 1) cb (instr.ForAgain ∷ []) has.1).0;
        }

    closed : (b : ℕ) (steps : List LineCommand) (close : ℕ) (l : Loop) (ls : List Loop) (line_end : Timed) → HasAt code_here close (body_code close (λ p o. steps_code here p o steps))
        → Agree b (there ls (close + length (body_code close (λ p o. steps_code here p o steps)))) line_end → Agree b (there (l ∷ ls) close) (turn line_end)
    closed b steps close l ls line_end has h =
        let cb = steps_code here (close + 1) (Some close) steps in
        let target = close + 1 + length cb + 1 in
        let len : target ≡ close + length (body_code close (λ p o. steps_code here p o steps)) = omega (arith, length-append cb (instr.ForAgain ∷ [])) in
        one units u (in_frame (l ∷ ls)) at b close [] line_end has.0 (λ n lt. (moved units u (in_frame ls) at b target _ [] line_end len h).by n (omega arith))

    for_follows : (steps : List LineCommand)
        → Follows steps → (b d : ℕ) → b ≤ d → ((m : ℕ) → m < b → DoLines image units m) → (loops : List Loop) (ways : Ways) (v : Variable) (rs : List Range) (pc : ℕ)
        → HasAt code_here pc (for_code pc v rs (λ p o. steps_code here p o steps)) → Agree b (there loops (pc + length (for_code pc v rs (λ p o. steps_code here p o steps)))) ways.line_end
        → Leaves units b below ways.leave
        → Agree b (there loops pc) (ev_local (points_of image d) here v (λ x. ranges (points_of image d) here x rs steps ways))
    for_follows steps follows b d deep lines loops ways v rs pc has h leaves =
        let c = in_frame loops in
        let cs = subscripts_code pc v in
        let first = pc + length cs + 1 in
        let cr = ranges_code first rs in
        let close = first + length cr in
        let cb = body_code close (λ p o. steps_code here p o steps) in
        let i = instr.ForOpen (reference v).word (reference v).count (close + 1) in
        let back = has_back code_here pc cs (i ∷ (cr ++ cb)) has in
        let has_body = has_back code_here first cr cb back.1 in
        let len : close + length cb ≡ pc + length (cs ++ i ∷ (cr ++ cb)) = omega (arith, length-append cs (i ∷ (cr ++ cb)), length-append cr cb) in
        let behind : Agree b (there loops (close + length cb)) ways.line_end = moved units u c at b _ _ [] ways.line_end len h in
        local_follows units u c at b (points_of image d) here (does_calls b d deep lines loops) v i pc [] (λ x. ranges (points_of image d) here x rs steps ways)
        (has_front code_here pc cs _ has) back.0 (λ ss n lt many.
        let opened : List (List ℕ) → Stack → Name → Timed = λ l st x. exec units n (in_frame (record { name = x; passes = Once; body = close + 1; resume = first } ∷ loops)) first st in
        ap (λ l. given (name_of Local (reference v).word l) (λ x. exec units n
        (in_frame (record { name = x; passes = Once; body = close + 1; resume = first } ∷ loops)) first (drop (reference v).count (onto ss []))) n) (operands_are ss [] _ many)
        ∙ ap (λ st. given (name_of Local (reference v).word ss) (λ x. exec units n (in_frame (record { name = x; passes = Once; body = close + 1; resume = first } ∷ loops)) first st) n)
        (rest_below ss [] _ many)
        ∙ given_at n (name_of Local (reference v).word ss) (λ x. exec units n (in_frame (record { name = x; passes = Once; body = close + 1; resume = first } ∷ loops)) first [])
        (λ x. ranges (points_of image d) here x rs steps ways) (λ x ok.
        let l : Loop = record { name = x; passes = Once; body = close + 1; resume = first } in
        (ranges_follow steps follows loops close ways b d deep lines (λ l'. closed b steps close l' loops ways.line_end has_body behind) leaves rs l first
        (body_stands steps close l refl has_body follows loops ways) (has_front code_here first cr cb back.1) refl).by n (omega arith)))

    forever_follows : (steps : List LineCommand) → Follows steps → (b d : ℕ) → b ≤ d → ((m : ℕ) → m < b → DoLines image units m) → (loops : List Loop) (ways : Ways) (pc : ℕ)
        → HasAt code_here pc (instr.ForForever ∷ body_code (pc + 1) (λ p o. steps_code here p o steps))
        → Agree b (there loops (pc + length (instr.ForForever ∷ body_code (pc + 1) (λ p o. steps_code here p o steps)))) ways.line_end
        → Leaves units b below ways.leave
        → Agree b (there loops pc) (turn (points_of image d (Pass here PassesAlways steps (turn ways.line_end) ways)))
    forever_follows steps follows b d deep lines loops ways pc has h leaves =
        let c = in_frame loops in
        let cb = body_code (pc + 1) (λ p o. steps_code here p o steps) in
        let l : Loop = record { name = nameless; passes = Always; body = pc + 2; resume = pc + 1 } in
        let e : pc + 2 ≡ pc + 1 + 1 = omega arith in
        let len : pc + 1 + length cb ≡ pc + length (instr.ForForever ∷ cb) = omega arith in
        let behind : Agree b (there loops (pc + 1 + length cb)) ways.line_end = moved units u c at b _ _ [] ways.line_end len h in
        let ends : Agree b (there (l ∷ loops) (pc + 1)) (turn ways.line_end) = closed b steps (pc + 1) l loops ways.line_end has.1 behind in
        one units u c at b pc [] _ has.0 (λ n lt.
        begun steps follows loops (pc + 1) ways b d deep lines (λ l'. closed b steps (pc + 1) l' loops ways.line_end has.1 behind) leaves d n l
        (body_stands steps (pc + 1) l e has.1 follows loops ways) (turn ways.line_end) lt (omega arith) ends)

    -- a command behind its postcondition, and the rest of its line
    rest_follows : (command : Command) (c : Option Expr) (done : Timed) (steps : List LineCommand)
        → Follows steps → (b d : ℕ) → b ≤ d → ((m : ℕ) → m < b → DoLines image units m) → (loops : List Loop) (out : Option ℕ) (ways : Ways) (pc : ℕ)
        → HasAt code_here pc (and_then here pc out c command (λ p o. steps_code here p o steps))
        → Agree b (there loops (pc + length (and_then here pc out c command (λ p o. steps_code here p o steps)))) ways.line_end
        → QuitsFor b loops out ways.for_quit → Leaves units b below ways.leave
        → ((p : ℕ) → HasAt code_here p (command_code here p out command)
        → Agree b (there loops (p + length (command_code here p out command))) (obey_all (points_of image d) here steps ways) → Agree b (there loops p) done)
        → Agree b (there loops pc) (when (points_of image d) here c done (obey_all (points_of image d) here steps ways))
    rest_follows command c done steps f b d deep lines loops out ways pc has h quits leaves made =
        let cc = code_if pc c (λ p. command_code here p out command) in
        let cs = steps_code here (pc + length cc) out steps in
        when_follows units u (in_frame loops) at b (points_of image d) here (does_calls b d deep lines loops) c (λ p. command_code here p out command) done
        (obey_all (points_of image d) here steps ways) pc []
        (has_front code_here pc cc cs has) made
        (f b d deep lines loops out ways (pc + length cc) (has_back code_here pc cc cs has) (moved units u (in_frame loops) at b _ _ [] ways.line_end (seam pc cc cs) h) quits leaves)

    -- a command with its postcondition, and the rest of its line
    step_follows : (command : Command) (c : Option Expr) (steps : List LineCommand) → Follows steps → (b d : ℕ)
        → b ≤ d → ((m : ℕ) → m < b → DoLines image units m) → (loops : List Loop) (out : Option ℕ) (ways : Ways) (pc : ℕ)
        → HasAt code_here pc (obey_code here pc out command c (λ p o. steps_code here p o steps))
        → Agree b (there loops (pc + length (obey_code here pc out command c (λ p o. steps_code here p o steps)))) ways.line_end
        → QuitsFor b loops out ways.for_quit → Leaves units b below ways.leave
        → Agree b (there loops pc) (obey (points_of image d) here command c steps ways (obey_all (points_of image d) here steps ways))
    step_follows (Set list) c steps f b d deep lines loops out ways pc has h quits leaves =
        rest_follows (Set list) c (assign_all (points_of image d) here list (obey_all (points_of image d) here steps ways)) steps f b d deep lines loops out ways pc has h quits leaves
        (λ p has' after. assigns_follow units u (in_frame loops) at b (points_of image d) here (does_calls b d deep lines loops) list p [] _ has' after)
    step_follows (Write list) c steps f b d deep lines loops out ways pc has h quits leaves =
        rest_follows (Write list) c (output_all (points_of image d) here list (obey_all (points_of image d) here steps ways)) steps f b d deep lines loops out ways pc has h quits leaves
        (λ p has' after. outputs_follow units u (in_frame loops) at b (points_of image d) here (does_calls b d deep lines loops) list p [] _ has' after)
    step_follows Halt c steps f b d deep lines loops out ways pc has h quits leaves =
        rest_follows Halt c (turn (end None)) steps f b d deep lines loops out ways pc has h quits leaves
        (λ p has' after. one units u (in_frame loops) at b p [] _ has'.0 (λ n lt. refl))
    step_follows (Hang es) c steps f b d deep lines loops out ways pc has h quits leaves =
        rest_follows (Hang es) c (hang_all (points_of image d) here es (obey_all (points_of image d) here steps ways)) steps f b d deep lines loops out ways pc has h quits leaves
        (λ p has' after. hangs_follow units u (in_frame loops) at b (points_of image d) here (does_calls b d deep lines loops) es p [] _ has' after)
    step_follows (Job list) c steps f b d deep lines loops out ways pc has h quits leaves =
        rest_follows (Job list) c (start_all (points_of image d) here list (obey_all (points_of image d) here steps ways)) steps f b d deep lines loops out ways pc has h quits leaves
        (λ p has' after. jobs_follow units u (in_frame loops) at b (points_of image d) here (does_calls b d deep lines loops) list p [] _ has' after)
    step_follows (Lock list) c steps f b d deep lines loops out ways pc has h quits leaves =
        rest_follows (Lock list) c (lock_all (points_of image d) here list (obey_all (points_of image d) here steps ways)) steps f b d deep lines loops out ways pc has h quits leaves
        (λ p has' after. lock_all_follows units u (in_frame loops) at b (points_of image d) here (does_calls b d deep lines loops) list p [] _ has' after)
    step_follows (OpenDevice list) c steps f b d deep lines loops out ways pc has h quits leaves =
        rest_follows (OpenDevice list) c (open_all (points_of image d) here list (obey_all (points_of image d) here steps ways)) steps f b d deep lines loops out ways pc has h quits leaves
        (λ p has' after. opens_follow units u (in_frame loops) at b (points_of image d) here (does_calls b d deep lines loops) list p [] _ has' after)
    step_follows (UseDevice es) c steps f b d deep lines loops out ways pc has h quits leaves =
        rest_follows (UseDevice es) c (use_all (points_of image d) here es (obey_all (points_of image d) here steps ways)) steps f b d deep lines loops out ways pc has h quits leaves
        (λ p has' after. uses_follow units u (in_frame loops) at b (points_of image d) here (does_calls b d deep lines loops) es p [] _ has' after)
    step_follows (CloseDevice es) c steps f b d deep lines loops out ways pc has h quits leaves =
        rest_follows (CloseDevice es) c (close_all (points_of image d) here es (obey_all (points_of image d) here steps ways)) steps f b d deep lines loops out ways pc has h quits leaves
        (λ p has' after. closes_follow units u (in_frame loops) at b (points_of image d) here (does_calls b d deep lines loops) es p [] _ has' after)
    step_follows (Read list) c steps f b d deep lines loops out ways pc has h quits leaves =
        rest_follows (Read list) c (read_all (points_of image d) here list (obey_all (points_of image d) here steps ways)) steps f b d deep lines loops out ways pc has h quits leaves
        (λ p has' after. inputs_follow units u (in_frame loops) at b (points_of image d) here (does_calls b d deep lines loops) list p [] _ has' after)
    step_follows (Kill list) c steps f b d deep lines loops out ways pc has h quits leaves =
        rest_follows (Kill list) c (kill_all (points_of image d) here list (obey_all (points_of image d) here steps ways)) steps f b d deep lines loops out ways pc has h quits leaves
        (λ p has' after. kill_all_follows units u (in_frame loops) at b (points_of image d) here (does_calls b d deep lines loops) list p [] _ has' after)
    step_follows (Merge list) c steps f b d deep lines loops out ways pc has h quits leaves =
        rest_follows (Merge list) c (merge_all (points_of image d) here list (obey_all (points_of image d) here steps ways)) steps f b d deep lines loops out ways pc has h quits leaves
        (λ p has' after. merges_follow units u (in_frame loops) at b (points_of image d) here (does_calls b d deep lines loops) list p [] _ has' after)
    step_follows (If es) c steps f b d deep lines loops out ways pc has h quits leaves =
        if_follows b d deep lines loops es (λ p. steps_code here p out steps) ways.line_end (obey_all (points_of image d) here steps ways) pc has
        (λ p has' after. f b d deep lines loops out ways p has' after quits leaves) h
    step_follows Else c steps f b d deep lines loops out ways pc has h quits leaves =
        test_follows b d deep lines loops false instr.JumpIfTest (steps_code here (pc + 1) out steps) ways.line_end (obey_all (points_of image d) here steps ways) pc (λ n. refl) has
        (λ after. f b d deep lines loops out ways (pc + 1) has.1 after quits leaves) h
    step_follows (For v rs) c steps f b d deep lines loops out ways pc has h quits leaves = for_follows steps f b d deep lines loops ways v rs pc has h leaves
    step_follows Forever c steps f b d deep lines loops out ways pc has h quits leaves = forever_follows steps f b d deep lines loops ways pc has h leaves
    step_follows (Do list) c steps f b d deep lines loops out ways pc has h quits leaves =
        rest_follows (Do list) c (do_all (points_of image d) here list (obey_all (points_of image d) here steps ways)) steps f b d deep lines loops out ways pc has h quits leaves
        (λ p has' after. do_follows b d deep lines loops list p _ has' after)
    step_follows (Goto list) c steps f b d deep lines loops out ways pc has h quits leaves =
        rest_follows (Goto list) c (jumps (points_of image d) here list ways.leave (obey_all (points_of image d) here steps ways)) steps f b d deep lines loops out ways pc has h quits leaves
        (λ p has' after. jumps_follow b d deep lines loops list p ways.leave _ has' leaves after)
    step_follows (Quit value) c steps f b d deep lines loops out ways pc has h quits leaves =
        rest_follows (Quit value) c (quit (points_of image d) here value ways) steps f b d deep lines loops out ways pc has h quits leaves
        (λ p has' after. quit_follows b d deep lines loops out value ways p has' quits leaves)
    step_follows (New list) c steps f b d deep lines loops out ways pc has h quits leaves =
        rest_follows (New list) c (new_all list (obey_all (points_of image d) here steps ways)) steps f b d deep lines loops out ways pc has h quits leaves
        (λ p has' after. new_all_follows units u (in_frame loops) at b (points_of image d) here (does_calls b d deep lines loops) list p [] _ has' after)
    step_follows (TStart a) c steps f b d deep lines loops out ways pc has h quits leaves =
        rest_follows (TStart a) c (start_transaction (points_of image d) here a (obey_all (points_of image d) here steps ways)) steps f b d deep lines loops out ways pc has h quits leaves
        (λ p has' after. transaction_follows image units u (in_frame loops) at b d deep here a p _ has' after)
    step_follows TCommit c steps f b d deep lines loops out ways pc has h quits leaves =
        rest_follows TCommit c (commit_transaction (points_of image d) here (obey_all (points_of image d) here steps ways)) steps f b d deep lines loops out ways pc has h quits leaves
        (λ p has' after. commit_follows image units u (in_frame loops) at b d deep here p _ has' after)
    step_follows TRestart c steps f b d deep lines loops out ways pc has h quits leaves =
        rest_follows TRestart c (restart_transaction (points_of image d) here) steps f b d deep lines loops out ways pc has h quits leaves
        (λ p has' after. restart_follows image units u (in_frame loops) at b d deep here p has')
    step_follows TRollback c steps f b d deep lines loops out ways pc has h quits leaves =
        rest_follows TRollback c (turn (roll_back (obey_all (points_of image d) here steps ways))) steps f b d deep lines loops out ways pc has h quits leaves
        (λ p has' after. roll_back_follows image units u (in_frame loops) at b d deep here p _ has'.0 after)
    step_follows Break c steps f b d deep lines loops out ways pc has h quits leaves =
        rest_follows Break c (turn (obey_all (points_of image d) here steps ways)) steps f b d deep lines loops out ways pc has h quits leaves
        (λ p has' after. break_follows image units u (in_frame loops) at b d deep here p _ has'.0 after)

    pub steps_follow : (steps : List LineCommand) → Follows steps
    steps_follow [] b d deep lines loops out ways pc has h quits leaves = moved units u (in_frame loops) at b pc (pc + 0) [] ways.line_end (omega arith) h
    steps_follow (step ∷ steps) b d deep lines loops out ways pc has h quits leaves =
        step_follows step.command step.condition steps (steps_follow steps) b d deep lines loops out ways pc has h quits leaves
