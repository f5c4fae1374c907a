-- Where instructions lead to instructions as deep as there are turns, a run keeps what it comes to: with more turns, at another such depth,
-- and with another restart that goes on alike for as many turns.
use Rattle.std.proofs.Common.{◌≡◌, ℕ, zero, suc, ◌+◌, ◌-◌, ◌≤◌, ◌<◌, List, [], ◌∷◌, length, drop, map, Bool, true, false, Option, Some, None, refl, sym, subst, arith}
use Rattle.std.proofs.Math.Path.{fun_ext}
use Rattle.std.specs.Prelude.{ℤ, not, slice_get, nat_lt, nat_eq, if◌then◌else◌}
use Rattle.mj_num.specs.Number.{reading}
use Rattle.mj_subs.specs.Name.{Name}
use Rattle.mj_oper.specs.Operators.{binary_value, unary_value, truth_value}
use Rattle.mj_ask.specs.declared.ask.Reply.{Reply}
use Rattle.mj_ask.specs.Fits.{is_late}
use Rattle.mj_ast.specs.declared.expr.Scope.TheVariants.{Local}
use Rattle.mj_semantics.specs.State.{State, Only, AllBut, at_place, kill_except, level_of, special_value, set_test, newed, pushed, popped, passed, may_go, devices_limit, is_open, may_close, with_device, dropped}
use Rattle.mj_semantics.specs.Outcome.{Outcome, More, Handler, Timed, is_failed}
use Rattle.mj_semantics.specs.Functions.{call_value, optional}
use Rattle.mj_semantics.specs.Evaluation.{name_of, named_for}
use Rattle.mj_semantics.specs.Sharing.{is_limit, in_time, served, take_names, give_names}
use Rattle.mj_semantics.specs.Devices.{is_got, has_no_session, request_device, end_session}
use Rattle.mj_semantics.specs.Commands.{mark_byte}
use Rattle.mj_semantics.proofs.Words.{Stays, spent, same, Back, Keeps, turned, looked, changed, chosen, ended, faulted, is_given, is_composed, asked, told_of, to_its_device, restarts, reads, is_about, stores, renews, removes, takes_nodes, puts_nodes, quits_frame, ends_frame, in_its_function, goes_deeper, writes, tabs, writes_code, tests, goes_again, begins as first_keeps, reads_two, hangs, starts_job, unlocks_all, uses, reads_input, begins_transaction, commits, rolls_back, gives_back, begins_again}
use Rattle.mj_pcode.specs.declared.instr.Span.{Span}
use Rattle.mj_pcode.specs.declared.instr.Span.TheVariants as span
use Rattle.mj_pcode.specs.declared.instr.LineStart.{LineStart}
use Rattle.mj_pcode.specs.declared.instr.Wait.{Wait}
use Rattle.mj_pcode.specs.declared.instr.Wait.TheVariants.{Ever, Timed as Limited}
use Rattle.mj_pcode.specs.declared.instr.Instr.{Instr}
use Rattle.mj_pcode.specs.declared.instr.Instr.TheVariants.{Line, Push, PushSpecial, Load, Unary, Binary, CallFunction, CheckName, Store, SetPiece, Discard, Kill, KillExcept, MergeTake, MergePut, Write, WriteFormat, WriteTab, WriteByte, JumpUnless, Jump, SelectFails, Halt, CheckNumber, Hang, StartJob, UnlockAll, Lock, Unlock, OpenDevice, BeginSession, UseDevice, EndSession, GiveUpFailedDevice, GiveUpDevice, Read, CheckNamed, CallNameFunction, SetTest, JumpUnlessTest, JumpIfTest, ForOpen, ForForever, ForBegin, ForAgain, ForClose, Do, DoBlock, Goto, Quit, Invoke, CheckFunction, FailQuit, GiveValue, New, NewExcept, StartTransaction, MarkRestart, Commit, RollBackForRestart, BeginRestart, RollBack}
use Rattle.mj_pcode.specs.declared.instr.Unit.{Unit}
use Rattle.mj_pcode.specs.Found.{Found, found, start_of, levels_in}
use Rattle.mj_ast.specs.Trees.{target_of}
use Rattle.mj_semantics.specs.Lines.{entry_in}
use Rattle.mj_pcode.specs.Context.{Once, Always, By, Loop, Call as Suspended, Context, passes_of, nameless, in_loops, outer, suspended, resumed, at_unit, awaiting}
use Rattle.mj_pcode.specs.Machine.{Stack, Next, top, below, operands, returns, quits, place_in, tallies, comes_to, spread, given_count, wait_size, waits, counts, names_on, calls, jumps, blocks, with_passes, for_begins, for_passes, restored_of, act, act_in, exec}
use Rattle.mj_pcode.specs.Laws.{IsDeepEnough, HandsOnAtMost}

-- Words that only instructions are made of.

serves : {more b : ℕ} (timeout : Option ℤ) (r : Reply) {f g : Timed} → Keeps more b f g → Keeps more b (served timeout r f) (served timeout r g)
serves timeout r l = chosen (is_limit r) faulted (changed {c = in_time timeout (not (is_late r))} l)

takes_names : {more b : ℕ} (xs : List Name) (timeout : Option ℤ) {f g : Timed} → Keeps more b f g → Keeps more b (take_names xs timeout f) (take_names xs timeout g)
takes_names [] timeout l = l
takes_names (x ∷ xs) timeout l = asked _ (λ r. serves timeout r l)

gives_names : {more b : ℕ} (xs : List Name) (timeout : Option ℤ) {f g : Timed} → Keeps more b f g → Keeps more b (give_names xs timeout f) (give_names xs timeout g)
gives_names [] timeout l = l
gives_names (x ∷ xs) timeout l = asked _ (λ r. serves timeout r l)

obtains : {more b : ℕ} (name : List ℕ) (timeout : Option ℤ) {f g f' g' : Timed} → Keeps more b f g
    → Keeps more b f' g' → Keeps more b (request_device name timeout f f') (request_device name timeout g g')
obtains name timeout l m = looked (λ s.
    chosen (is_open name s) (changed {c = in_time timeout true} l)
    (chosen (nat_lt devices_limit (length s.devices)) faulted
    (asked _ (λ r.
    chosen (has_no_session r) faulted
    (chosen (is_got r) (changed {c = in_time timeout true} (changed {c = with_device name} m)) (changed {c = in_time timeout false} l))))))

ends_session : {more b : ℕ} (name : List ℕ) {f g f' g' f'' g'' : Timed} → Keeps more b f g → Keeps more b f' g' → Keeps more b f'' g''
    → Keeps more b (end_session name f f' f'') (end_session name g g' g'')
ends_session name l m k = looked (λ s.
    chosen (may_close name s) (asked _ (λ r. changed {c = dropped name} (chosen (is_failed r) m k))) l)

waits_keep : {more b : ℕ} (w : Wait) (stack : Stack) {f g : Option ℤ → Timed} → ((t : Option ℤ) → Keeps more b (f t) (g t)) → Keeps more b (waits w stack f) (waits w stack g)
waits_keep Ever stack l = l None
waits_keep Limited stack l = is_given (reading (top stack)) (λ n. l (Some n))

-- what comes next, from every place on
abbrev KeepsNext : ℕ → ℕ → Next → Next → Type 0
KeepsNext more b f g = (c : Context) (pc : ℕ) (stack : Stack) → Keeps more b (f c pc stack) (g c pc stack)

module _ (more b : ℕ) (f g : Next) (keeps : KeepsNext more b f g) where
  returns_keep : (ks : List Suspended) (v : List ℕ) → Keeps more b (returns f ks v) (returns g ks v)
  returns_keep [] v = ended
  returns_keep (k ∷ ks) v = changed {c = popped} (keeps (record { unit = k.unit; loops = k.loops; calls = ks }) k.pc (resumed k v))

  quits_keep : (ks : List Suspended) → Keeps more b (quits f ks) (quits g ks)
  quits_keep ks = quits_frame (returns_keep ks [])

  calls_keep : (function : Bool) (o : Option Found) (vs : List (Option (List ℕ))) (ks : List Suspended) → Keeps more b (calls function o vs ks f) (calls function o vs ks g)
  calls_keep function None vs ks = faulted
  calls_keep function (Some to) vs ks =
      chosen (nat_eq to.head.level 1)
      (chosen (nat_lt (length to.head.formals) (length vs)) faulted
      (goes_deeper (changed {c = λ s. passed to.head.formals vs (pushed (place_in to.unit to.line) 1 function (if function then Some s.test else None) s)}
      (keeps (at_unit to.at ks) to.head.start (tallies (length to.head.formals))))))
      faulted

  jumps_keep : (o : Option Found) (ks : List Suspended) → Keeps more b (jumps o ks f) (jumps o ks g)
  jumps_keep None ks = faulted
  jumps_keep (Some to) ks =
      looked (λ s. chosen (may_go s (place_in to.unit to.line) to.head.level (levels_in to.unit)) (keeps (at_unit to.at ks) to.head.start []) faulted)

  comes_to_keeps : (u : Unit) (m : LineStart) (c : Context) (pc : ℕ) (stack : Stack) → Keeps more b (comes_to u m f c pc stack) (comes_to u m g c pc stack)
  comes_to_keeps u m c pc [] =
      looked (λ s.
      chosen (nat_lt m.level (level_of s)) (changed {c = at_place (place_in u (m.line - 1))} (quits_keep c.calls))
      (chosen (nat_lt (level_of s) m.level) (keeps c m.next []) (changed {c = at_place (place_in u m.line)} (keeps c (pc + 1) []))))
  comes_to_keeps u m c pc (v ∷ stack) = keeps c pc stack

  block_keeps : (u : Unit) (k : ℕ) (c : Context) (pc : ℕ) → Keeps more b (blocks u k f c pc) (blocks u k g c pc)
  block_keeps u k c pc =
      goes_deeper (looked (λ s. changed {c = pushed (place_in u k) (level_of s + 1) false (Some s.test)} (keeps (at_unit c.unit (suspended c pc)) (start_of u (k + 1)) [])))

  begins_keep : (k : Span) (loops : List Loop) (c : Context) (pc : ℕ) (stack : Stack) → Keeps more b (for_begins k loops f c pc stack) (for_begins k loops g c pc stack)
  begins_keep k [] c pc stack = keeps c (pc + 1) stack
  begins_keep span.One (l ∷ ls) c pc stack = stores l.name (top stack) (keeps (in_loops c (with_passes l Once (pc + 1) ∷ ls)) l.body (drop 1 stack))
  begins_keep span.Endless (l ∷ ls) c pc stack =
      reads_two (top (drop 1 stack)) (top stack) (λ i step.
      first_keeps l.name i step None
      (keeps (in_loops c (with_passes l (By step None) (pc + 1) ∷ ls)) (pc + 1) (drop 2 stack))
      (keeps (in_loops c (with_passes l (By step None) (pc + 1) ∷ ls)) l.body (drop 2 stack)))
  begins_keep span.UpTo (l ∷ ls) c pc stack =
      reads_two (top (drop 2 stack)) (top (drop 1 stack)) (λ i step. is_given (reading (top stack)) (λ end.
      first_keeps l.name i step (Some end)
      (keeps (in_loops c (with_passes l (By step (Some end)) (pc + 1) ∷ ls)) (pc + 1) (drop 3 stack))
      (keeps (in_loops c (with_passes l (By step (Some end)) (pc + 1) ∷ ls)) l.body (drop 3 stack))))

  passes_keep : (loops : List Loop) (c : Context) (pc : ℕ) (stack : Stack) → Keeps more b (for_passes loops f c pc stack) (for_passes loops g c pc stack)
  passes_keep [] c pc stack = keeps c (pc + 1) stack
  passes_keep (l ∷ ls) c pc stack = goes_again (passes_of l) (keeps c l.resume stack) (keeps c l.body stack)

  module _ (units : List Unit) (u : Unit) (c : Context) (pc : ℕ) (stack : Stack) where
    acts_keep : (i : Instr) → Keeps more b (act units u (Some i) f c pc stack) (act units u (Some i) g c pc stack)
    acts_keep (Line m) = comes_to_keeps u m c pc stack
    acts_keep (Push t) = keeps c (pc + 1) (t ∷ stack)
    acts_keep (PushSpecial v) = looked (λ s. keeps c (pc + 1) (special_value v s ∷ stack))
    acts_keep (Load r) = is_given (name_of r.scope r.word (operands r.count stack)) (λ x. reads x (λ v. keeps c (pc + 1) (v ∷ drop r.count stack)))
    acts_keep (Unary op) = is_given (unary_value op (top stack)) (λ v. keeps c (pc + 1) (v ∷ below stack))
    acts_keep (Binary op) = is_composed (λ limit. binary_value limit op (top (below stack)) (top stack)) (λ v. keeps c (pc + 1) (v ∷ below (below stack)))
    acts_keep (CallFunction h n) = is_composed (λ limit. call_value limit h (operands n stack)) (λ v. keeps c (pc + 1) (v ∷ drop n stack))
    acts_keep (CheckNamed h r) = is_given (named_for h r.scope r.word (operands r.count stack)) (λ x. keeps c (pc + 1) stack)
    acts_keep (CallNameFunction h r k) =
        is_given (named_for h r.scope r.word (operands r.count (drop (k - r.count) stack))) (λ x.
        is_about h x (optional 0 (operands (k - r.count) stack)) (λ v. keeps c (pc + 1) (v ∷ drop k stack)))
    acts_keep (CheckName r) = is_given (name_of r.scope r.word (operands r.count stack)) (λ x. keeps c (pc + 1) stack)
    acts_keep (Store r w) = is_given (name_of r.scope r.word (operands r.count (drop w.above stack))) (λ x. stores x (top stack) (keeps c (pc + 1) (drop w.taken stack)))
    acts_keep (SetPiece r n w) =
        is_given (name_of r.scope r.word (operands r.count (drop n (drop w.above stack)))) (λ x.
        renews x (operands n (drop w.above stack)) (top stack) (keeps c (pc + 2) (drop w.taken stack)) (λ v. keeps c (pc + 1) (v ∷ stack)))
    acts_keep (Discard n) = keeps c (pc + 1) (drop n stack)
    acts_keep (Kill r) = is_given (name_of r.scope r.word (operands r.count stack)) (λ x. removes x (keeps c (pc + 1) (drop r.count stack)))
    acts_keep (KillExcept words) = changed {c = kill_except words} (keeps c (pc + 1) stack)
    acts_keep (MergeTake into from) =
        is_given (name_of from.scope from.word (operands from.count stack)) (λ y.
        is_given (name_of into.scope into.word (operands into.count (drop from.count stack))) (λ x.
        takes_nodes x y (keeps c (pc + 1) (drop from.count stack))))
    acts_keep (MergePut r) = is_given (name_of r.scope r.word (operands r.count stack)) (λ x. puts_nodes x (keeps c (pc + 1) (drop r.count stack)))
    acts_keep Write = writes (top stack) (keeps c (pc + 1) (below stack))
    acts_keep (WriteFormat marks) = writes (map mark_byte marks) (keeps c (pc + 1) stack)
    acts_keep (WriteTab marks) = tabs marks (top stack) (keeps c (pc + 1) (below stack))
    acts_keep WriteByte = writes_code (top stack) (keeps c (pc + 1) (below stack))
    acts_keep (JumpUnless target) = is_given (truth_value (top stack)) (λ t. chosen t (keeps c (pc + 1) (below stack)) (keeps c target (below stack)))
    acts_keep (Jump target) = keeps c target stack
    acts_keep SelectFails = faulted
    acts_keep Halt = ended
    acts_keep CheckNumber = is_given (reading (top stack)) (λ n. keeps c (pc + 1) stack)
    acts_keep Hang = hangs (top stack) (keeps c (pc + 1) (below stack))
    acts_keep (StartJob entry shape w) =
        waits_keep w stack (λ t.
        starts_job entry (spread shape (operands (given_count shape) (drop (wait_size w) stack))) t (keeps c (pc + 1) (drop (given_count shape + wait_size w) stack)))
    acts_keep UnlockAll = unlocks_all (keeps c (pc + 1) stack)
    acts_keep (Lock rs w) =
        waits_keep w stack (λ t. is_given (names_on rs (drop (wait_size w) stack)) (λ xs. takes_names xs t (keeps c (pc + 1) (drop (counts rs + wait_size w) stack))))
    acts_keep (Unlock rs w) =
        waits_keep w stack (λ t. is_given (names_on rs (drop (wait_size w) stack)) (λ xs. gives_names xs t (keeps c (pc + 1) (drop (counts rs + wait_size w) stack))))
    acts_keep (OpenDevice w) =
        waits_keep w stack (λ t. obtains (top (drop (wait_size w) stack)) t (keeps c (pc + 2) (drop (1 + wait_size w) stack)) (keeps c (pc + 1) (drop (wait_size w) stack)))
    acts_keep BeginSession = to_its_device (top stack) _ (λ r. keeps c (pc + 1) (below stack))
    acts_keep UseDevice = uses (top stack) (keeps c (pc + 1) (below stack))
    acts_keep EndSession = ends_session (top stack) (keeps c (pc + 3) (below stack)) (keeps c (pc + 1) stack) (keeps c (pc + 2) stack)
    acts_keep GiveUpFailedDevice = told_of _ faulted
    acts_keep GiveUpDevice = told_of _ (keeps c (pc + 1) (below stack))
    acts_keep (Read m w) = waits_keep w stack (λ t. reads_input m t (λ v. keeps c (pc + 1) (v ∷ drop (wait_size w) stack)))
    acts_keep (SetTest target) =
        is_given (truth_value (top stack)) (λ t. changed {c = set_test t} (chosen t (keeps c (pc + 1) (below stack)) (keeps c target (below stack))))
    acts_keep (JumpUnlessTest target) = tests true (keeps c target stack) (keeps c (pc + 1) stack)
    acts_keep (JumpIfTest target) = tests false (keeps c target stack) (keeps c (pc + 1) stack)
    acts_keep (ForOpen word n body) =
        is_given (name_of Local word (operands n stack)) (λ x.
        keeps (in_loops c (record { name = x; passes = Once; body = body; resume = pc + 1 } ∷ c.loops)) (pc + 1) (drop n stack))
    acts_keep ForForever = keeps (in_loops c (record { name = nameless; passes = Always; body = pc + 2; resume = pc + 1 } ∷ c.loops)) (pc + 2) stack
    acts_keep (ForBegin k) = begins_keep k c.loops c pc stack
    acts_keep ForAgain = passes_keep c.loops c pc stack
    acts_keep (ForClose target) = keeps (in_loops c (outer c.loops)) target stack
    acts_keep (Do entry shape) = calls_keep false (found units entry) (spread shape (operands (given_count shape) stack)) (suspended c (pc + 1))
    acts_keep (DoBlock k) = block_keeps u k c (pc + 1)
    acts_keep (Goto entry) = jumps_keep (found units entry) c.calls
    acts_keep Quit = quits_keep c.calls
    acts_keep (Invoke target shape) =
        calls_keep true (found units (entry_in u.name (target_of target))) (spread shape (operands (given_count shape) stack))
        (awaiting c (pc + 1) (drop (given_count shape) stack))
    acts_keep CheckFunction = in_its_function (keeps c (pc + 1) stack)
    acts_keep FailQuit = faulted
    acts_keep GiveValue = ends_frame (returns_keep c.calls (top stack))
    acts_keep (New words) = changed {c = newed (Only words)} (keeps c (pc + 1) stack)
    acts_keep (NewExcept words) = changed {c = newed (AllBut words)} (keeps c (pc + 1) stack)
    acts_keep (StartTransaction r serial) = begins_transaction (restored_of r) serial (keeps c (pc + 2) stack) (keeps c (pc + 1) stack)
    acts_keep MarkRestart = restarts (keeps c pc []) (keeps c (pc + 1) stack)
    acts_keep Commit = commits (keeps c (pc + 1) stack) (keeps c (pc + 2) stack)
    acts_keep RollBackForRestart = gives_back (keeps c (pc + 1) stack)
    acts_keep BeginRestart = begins_again
    acts_keep RollBack = rolls_back (keeps c (pc + 1) stack)

    act_keeps : (o : Option Instr) → Keeps more b (act units u o f c pc stack) (act units u o g c pc stack)
    act_keeps None = changed {c = at_place (place_in u (length u.heads.items))} (quits_keep c.calls)
    act_keeps (Some i) = acts_keep i

  act_in_keeps : (units : List Unit) (o : Option Unit) (c : Context) (pc : ℕ) (stack : Stack) → Keeps more b (act_in units o f c pc stack) (act_in units o g c pc stack)
  act_in_keeps units None c pc stack = record { by = λ n q lt le up h k e s rs. same }
  act_in_keeps units (Some u) c pc stack = act_keeps units u c pc stack (slice_get u.instrs.items pc)

-- without a turn there is none to use
no_turn : (units : List Unit) (d : ℕ) (c : Context) (pc : ℕ) (stack : Stack) (h : Handler) (s : State) (rs : List Reply) → exec units d c pc stack 0 h s rs ≡ More
no_turn units zero c pc stack h s rs = refl
no_turn units (suc d) c pc stack h s rs = refl

-- two depths of at least b
pub exec_keeps : (units : List Unit) (more b d e : ℕ) → b ≤ d → b ≤ e → (c : Context) (pc : ℕ) (stack : Stack) → Keeps more (suc b) (exec units d c pc stack) (exec units e c pc stack)
exec_keeps units more zero d e lt le c pc stack = record { by = at }
  where
    at : (n q : ℕ) → n < 1 → n ≤ q → q ≤ n + more → (h k : Handler) → Back more n q h k → (s : State) (rs : List Reply) → Stays (exec units e c pc stack q k s rs) (exec units d c pc stack n h s rs)
    at zero q few up most h k back s rs = subst (λ o. Stays (exec units e c pc stack q k s rs) o) (sym (no_turn units d c pc stack h s rs)) spent
    at (suc n) q few up most h k back s rs = absurd (omega (arith, few))
exec_keeps units more (suc b) zero e lt le c pc stack = absurd (omega (arith, lt))
exec_keeps units more (suc b) (suc d) zero lt le c pc stack = absurd (omega (arith, le))
exec_keeps units more (suc b) (suc d) (suc e) lt le c pc stack =
    turned (act_in_keeps more (suc b) (exec units d) (exec units e) (exec_keeps units more b d e (omega (arith, lt)) (omega (arith, le))) units (slice_get units c.unit) c pc stack)

both : {o p : Outcome} → Stays o p → Stays p o → o ≡ p
both same k = refl
both spent spent = refl
both spent same = refl

-- as many turns, with restarts that go on alike for as many
alike_back : (n : ℕ) (h k : Handler) → ((m : ℕ) → m ≤ n → h m ≡ k m) → Back 0 n n h k
alike_back n h k e = record { by = at }
  where
    with_more : (m i : ℕ) → m ≡ i → m ≤ n → (s : State) (rs : List Reply) → Stays (k i s rs) (h m s rs)
    with_more m i p u s rs = subst (λ j. Stays (k j s rs) (h m s rs)) p (subst (λ f. Stays (f s rs) (h m s rs)) (e m u) same)

    at : (m i : ℕ) → m ≤ n → m ≤ i → i ≤ n → i ≤ m + 0 → (s : State) (rs : List Reply) → Stays (k i s rs) (h m s rs)
    at m i u v w z s rs = let p : m ≡ i = omega (arith, v, z) in with_more m i p u s rs

-- at two depths, with restarts that go on alike
comes_alike : (units : List Unit) (d e n : ℕ) (c : Context) (pc : ℕ) (stack : Stack) (h k : Handler) (s : State) (rs : List Reply) → n ≤ d → n ≤ e
    → ((m : ℕ) → m ≤ n → h m ≡ k m) → exec units d c pc stack n h s rs ≡ exec units e c pc stack n k s rs
comes_alike units d e n c pc stack h k s rs lt le alike =
    both ((exec_keeps units 0 n e d le lt c pc stack).by n n (omega arith) (omega arith) (omega arith) k h (alike_back n k h (λ m u. sym (alike m u))) s rs)
    ((exec_keeps units 0 n d e lt le c pc stack).by n n (omega arith) (omega arith) (omega arith) h k (alike_back n h k alike) s rs)

pub deep_enough : IsDeepEnough
deep_enough units d n c pc stack le = fun_ext (λ h. fun_ext (λ s. fun_ext (λ rs. comes_alike units d n n c pc stack h h s rs le (omega arith) (λ m u. refl))))

pub hands_on : HandsOnAtMost
hands_on units n c pc stack h k s rs alike = comes_alike units n n n c pc stack h k s rs (omega arith) (omega arith) alike
