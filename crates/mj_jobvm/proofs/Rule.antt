-- What has to hold of each word that rows are made of, and what then holds of what commands share.
use Rattle.std.proofs.Common.{◌≡◌, ℕ, zero, suc, List, [], ◌∷◌, length, Option, Some, None, Bool, true, false, refl}
use Rattle.std.specs.Prelude.{Result, Ok, Err, ℤ, pos, int_lt, ◌+ℤ◌, not, nat_lt, if◌then◌else◌}
use Rattle.mj_text.specs.declared.fault.Fault.{Fault}
use Rattle.mj_text.specs.declared.fault.Fault.TheVariants as faults
use Rattle.mj_text.specs.declared.limit.Limit.{Limit}
use Rattle.mj_subs.specs.Name.{Name}
use Rattle.mj_store.specs.Runs.{name_of as name_in, answer_of}
use Rattle.mj_store.specs.declared.access.Access.{Access}
use Rattle.mj_store.specs.declared.access.Access.TheVariants as accesses
use Rattle.mj_store.specs.declared.access.Answer.{Answer}
use Rattle.mj_ask.specs.declared.ask.Ask.{Ask}
use Rattle.mj_ask.specs.declared.ask.Ask.TheVariants as asks
use Rattle.mj_ask.specs.declared.ask.SharedAsk.TheVariants as shared_asks
use Rattle.mj_ask.specs.declared.ask.DeviceAsk.TheVariants as device_asks
use Rattle.mj_ask.specs.declared.ask.Reply.{Reply}
use Rattle.mj_ask.specs.declared.entry.Entry.{Entry}
use Rattle.mj_ask.specs.Fits.{is_late}
use Rattle.mj_ast.specs.declared.routine.ReadMode.{ReadMode}
use Rattle.mj_ast.specs.declared.routine.LockMode.{LockMode}
use Rattle.mj_ast.specs.declared.routine.LockMode.TheVariants as mode
use Rattle.mj_num.specs.Number.{reading, sum_of, canonic_text}
use Rattle.mj_semantics.specs.State.{State, Words, Frame, principal, wrote, accessed, popped, is_at_mark, is_function}
use Rattle.mj_ast.specs.declared.function.NameFunction.{NameFunction}
use Rattle.mj_semantics.specs.Names.{spelled, asks as asks_some, question, function_told}
use Rattle.mj_semantics.specs.Outcome.{More, Timed, turn, turns, look, change, restartable, end, fault, ask, to_device, need, given, composed}
use Rattle.mj_semantics.specs.Accesses.{answer_told, answered, access, value_told}
use Rattle.mj_semantics.specs.Evaluation.{read, about}
use Rattle.mj_semantics.specs.Points.{Loop, Once, Always, By, Leave, Ways, Point, AtLine, Called, Jumped, Pass, Started}
use Rattle.mj_semantics.specs.Devices.{open_device, use_device, close, read_input}
use Rattle.mj_semantics.specs.Sharing.{is_limit, in_time as test_in_time, served, out_of_transaction, hang, start_job, unlock_all, take_names, give_names, lock}
use Rattle.mj_semantics.specs.Transactions.{begin_transaction, commit, roll_back, roll_back_for_restart, begin_restart}
use Rattle.mj_semantics.specs.Commands.{store, deeper, frames_limit, is_within, stepped, for_again, first, end_frame, quit_frame, in_function}

-- as many asks were replied to in one state as in another, at as many levels a transaction is, and the same devices are open, of which the same is
-- the current one; and the bounds are the same
abbrev pub IsLike : State → State → Type 0
IsLike s t = (t.replied ≡ s.replied) × (t.level ≡ s.level) × (t.devices ≡ s.devices) × (t.current ≡ s.current) × (t.bounds ≡ s.bounds)

-- an ask that leaves the job's sessions and its names of devices
abbrev pub LeavesDevices : Ask → Type 0
LeavesDevices (asks.Device name ask) = ⊥
LeavesDevices (asks.Shared (shared_asks.Open name timeout)) = ⊥
LeavesDevices (asks.Shared (shared_asks.Close name)) = ⊥
LeavesDevices _ = Unit {0}

-- What holds of what is left to do: K of most, and Apart of what stands behind the mark of a transaction, for which it is all the same what an
-- earlier one would have gone back to
pub record Rule (K Apart : Timed → Type 0) : Type 0 where
  pub turned : (t : Timed) → K t → K (turn t)
  pub looked : (t : State → Timed) → ((s : State) → K (t s)) → K (look t)
  pub changed : (f : State → State) (t : Timed) → ((s : State) → IsLike s (f s)) → K t → K (change f t)
  pub asked : (x : Ask) (t : Reply → Timed) → LeavesDevices x → ((r : Reply) → K (t r)) → K (ask x t)
  -- devices: the job's first ask, WRITE, READ, OPEN, USE and CLOSE
  pub first_asked : (t : Timed) → K t → K (to_device principal device_asks.Begin (λ r. t))
  pub written : (bytes : List ℕ) (t : Timed) → K t → K (look (λ s. to_device s.current (device_asks.Write bytes) (λ r. change (wrote bytes) t)))
  pub received : (m : ReadMode) (timeout : Option ℤ) (t : List ℕ → Timed) → ((v : List ℕ) → K (t v)) → K (read_input m timeout t)
  pub opened : (name : List ℕ) (timeout : Option ℤ) (t : Timed) → K t → K (open_device name timeout t)
  pub used : (name : List ℕ) (t : Timed) → K t → K (use_device name t)
  pub closed : (name : List ℕ) (t : Timed) → K t → K (close name t)
  pub ended : (f : Option Fault) → K (end f)
  pub faulted : (f : Fault) → K (fault f)
  pub spent : K (λ n h s replies. More)
  pub begun : (restored : Option Words) (serial : Bool) (inner outermost : Timed) → K inner → Apart outermost → K (begin_transaction restored serial inner outermost)
  pub committed : (done : Timed) → K done → K (commit (turn begin_restart) done)
  pub rolled_back : (rest : Timed) → K rest → K (roll_back rest)
  pub given_back : K (roll_back_for_restart (turn begin_restart))
  pub started : (again rest : Timed) → Apart again → K rest → Apart (restartable again rest)
  pub apart_turned : (t : Timed) → Apart t → Apart (turn t)
  pub apart_spent : Apart (λ n h s replies. More)

-- `$TEST` behind an ask that may wait.

pub tests_same : (timeout : Option ℤ) (b : Bool) (s : State) → IsLike s (test_in_time timeout b s)
tests_same None b s = (refl, refl, refl, refl, refl)
tests_same (Some n) b s = (refl, refl, refl, refl, refl)

pub popped_same : (s : State) → IsLike s (popped s)
popped_same s = by s.frames
  where
    by : (fs : List Frame) → IsLike s (popped (record s { frames = fs }))
    by [] = (refl, refl, refl, refl, refl)
    by (f ∷ fs) = (refl, refl, refl, refl, refl)

-- so is what each of the ways leads to
pub record KeepsWays (K : Timed → Type 0) (ways : Ways) : Type 0 where
  pub line_end : K ways.line_end
  pub for_quit : (t : Timed) → ways.for_quit ≡ Some t → K t
  pub leave : (v : List ℕ) → K (ways.leave v)

-- what a QUIT leads to, with whatever value
abbrev pub KeepsLeave : (Timed → Type 0) → Leave → Type 0
KeepsLeave K leave = (v : List ℕ) → K (leave v)

-- what comes after a point
abbrev pub KeepsPoint : (Timed → Type 0) → Point → Type 0
KeepsPoint K (AtLine here leave) = KeepsLeave K leave
KeepsPoint K (Called function entry vs leave) = KeepsLeave K leave
KeepsPoint K (Jumped entry leave) = KeepsLeave K leave
KeepsPoint K (Pass here loop body after ways) = K after × KeepsWays K ways
KeepsPoint K (Started rest) = K rest

module _ (K Apart : Timed → Type 0) (rule : Rule K Apart) where
  pub turn_keeps : (rest : Timed) → K rest → K (turn rest)
  turn_keeps rest k = rule.turned rest k

  pub turns_keep : (many : ℕ) (rest : Timed) → K rest → K (turns many rest)
  turns_keep zero rest k = k
  turns_keep (suc many) rest k = turn_keeps (turns many rest) (turns_keep many rest k)

  pub look_keeps : (rest : State → Timed) → ((s : State) → K (rest s)) → K (look rest)
  look_keeps rest k = rule.looked rest k

  pub change_keeps : (rest : Timed) → K rest → (f : State → State) → ((s : State) → IsLike s (f s)) → K (change f rest)
  change_keeps rest k f same = rule.changed f rest same k

  pub end_keeps : (f : Option Fault) → K (end f)
  end_keeps f = rule.ended f

  pub fault_keeps : (f : Fault) → K (fault f)
  fault_keeps f = rule.faulted f

  ask_keeps : (x : Ask) (rest : Reply → Timed) → LeavesDevices x → ((r : Reply) → K (rest r)) → K (ask x rest)
  ask_keeps x rest leaves k = rule.asked x rest leaves k

  pub if_keeps : (b : Bool) (t u : Timed) → K t → K u → K (if b then t else u)
  if_keeps true t u k l = k
  if_keeps false t u k l = l

  -- what a point comes to
  abbrev pub IsReached : Point → Timed → Type 0
  IsReached (Started rest) t = Apart t
  IsReached (AtLine here leave) t = K t
  IsReached (Called function entry vs leave) t = K t
  IsReached (Jumped entry leave) t = K t
  IsReached (Pass here loop body after ways) t = K t

  pub given_keeps : {A : Type 0} (r : Result A Fault) (rest : A → Timed) → ((v : A) → K (rest v)) → K (given r rest)
  given_keeps (Ok v) rest k = k v
  given_keeps (Err f) rest k = fault_keeps f

  pub composed_keeps : (text : Limit → Result (List ℕ) Fault) (rest : List ℕ → Timed) → ((v : List ℕ) → K (rest v)) → K (composed text rest)
  composed_keeps text rest k = look_keeps (λ s. given (text s.bounds.limit) rest) (λ s. given_keeps (text s.bounds.limit) rest k)

  need_keeps : {A : Type 0} (f : Fault) (o : Option A) (rest : A → Timed) → ((v : A) → K (rest v)) → K (need f o rest)
  need_keeps f None rest k = fault_keeps f
  need_keeps f (Some v) rest k = k v

  pub access_keeps : (x : Access) (rest : Answer → Timed) → ((v : Answer) → K (rest v)) → K (access x rest)
  access_keeps x rest k =
      if_keeps (name_in x).global _ (look (λ s. change (accessed x) (given (answered (answer_of x s.locals)) rest)))
      (ask_keeps (asks.Shared (shared_asks.Access x)) _ tt (λ r. given_keeps (answered (answer_told r)) rest k))
      (look_keeps _ (λ s. change_keeps (given (answered (answer_of x s.locals)) rest) (given_keeps (answered (answer_of x s.locals)) rest k) (accessed x) (λ q. (refl, refl, refl, refl, refl))))

  -- Expressions.

  pub read_keeps : (x : Name) (rest : List ℕ → Timed) → ((v : List ℕ) → K (rest v)) → K (read x rest)
  read_keeps x rest k = access_keeps (accesses.Value x) _ (λ a. need_keeps faults.Undefined (value_told a) rest k)

  pub about_keeps : (f : NameFunction) (x : Name) (o : Option (List ℕ)) (rest : List ℕ → Timed) → ((v : List ℕ) → K (rest v)) → K (about f x o rest)
  about_keeps f x o rest k =
      if_keeps (asks_some f) (given (question f x o) (λ a. access a (λ r. composed (λ limit. function_told limit f o r) rest))) (composed (λ limit. spelled limit x) rest)
      (given_keeps (question f x o) _ (λ a. access_keeps a _ (λ r. composed_keeps (λ limit. function_told limit f o r) rest k)))
      (composed_keeps (λ limit. spelled limit x) rest k)

  pub store_keeps : (x : Name) (v : List ℕ) (rest : Timed) → K rest → K (store x v rest)
  store_keeps x v rest k = access_keeps (accesses.Set x v) (λ a. rest) (λ a. k)

  stepped_keeps : (x : Name) (step : ℤ) (end : Option ℤ) (i : ℤ) (after pass : Timed) → K after → K pass → K (stepped x step end i after pass)
  stepped_keeps x step None i after pass a k = given_keeps (sum_of i step) _ (λ j. store_keeps x (canonic_text j) pass k)
  stepped_keeps x step (Some end) i after pass a k =
      if_keeps (is_within step end (i +ℤ step)) (store x (canonic_text (i +ℤ step)) pass) after (store_keeps x (canonic_text (i +ℤ step)) pass k) a

  pub again_keeps : (l : Loop) (after pass : Timed) → K after → K pass → K (for_again l after pass)
  again_keeps Once after pass a k = a
  again_keeps Always after pass a k = k
  again_keeps (By x step end) after pass a k =
      access_keeps (accesses.Value x) _ (λ r. need_keeps faults.ForIndex (value_told r) _ (λ v. given_keeps (reading v) _ (λ i. stepped_keeps x step end i after pass a k)))

  pub first_keeps : (x : Name) (i step : ℤ) (end : Option ℤ) (after pass : Timed) → K after → K pass → K (first x i step end after pass)
  first_keeps x i step None after pass a k = store_keeps x (canonic_text i) pass k
  first_keeps x i step (Some end) after pass a k =
      store_keeps x (canonic_text i) (if is_within step end i then pass else after) (if_keeps (is_within step end i) pass after k a)

  pub deeper_keeps : (rest : Timed) → K rest → K (deeper rest)
  deeper_keeps rest k = look_keeps _ (λ s. if_keeps (nat_lt (length s.frames) frames_limit) rest (fault faults.Depth) k (fault_keeps faults.Depth))

  -- HANG, JOB and LOCK.

  served_keeps : (timeout : Option ℤ) (r : Reply) (rest : Timed) → K rest → K (served timeout r rest)
  served_keeps timeout r rest k =
      if_keeps (is_limit r) (fault faults.Limit) (change (test_in_time timeout (not (is_late r))) rest) (fault_keeps faults.Limit)
      (change_keeps rest k (test_in_time timeout (not (is_late r))) (tests_same timeout (not (is_late r))))

  out_keeps : (rest : Timed) → K rest → K (out_of_transaction rest)
  out_keeps rest k = look_keeps _ (λ s. if_keeps (nat_lt 0 s.level) (fault faults.InTransaction) rest (fault_keeps faults.InTransaction) k)

  asks_served : (x : Ask) (timeout : Option ℤ) (rest : Timed) → LeavesDevices x → K rest → K (ask x (λ r. served timeout r rest))
  asks_served x timeout rest leaves k = ask_keeps x (λ r. served timeout r rest) leaves (λ r. served_keeps timeout r rest k)

  pub hang_keeps : (v : List ℕ) (rest : Timed) → K rest → K (hang v rest)
  hang_keeps v rest k = given_keeps (reading v) _ (λ n. if_keeps (int_lt (pos 0) n) _ rest (ask_keeps (asks.Rest n) (λ r. rest) tt (λ r. k)) k)

  pub start_job_keeps : (entry : Entry) (vs : List (Option (List ℕ))) (timeout : Option ℤ) (rest : Timed) → K rest → K (start_job entry vs timeout rest)
  start_job_keeps entry vs timeout rest k =
      out_keeps _ (asks_served (asks.Shared (shared_asks.Start (record { entry = entry; values = vs }) timeout)) timeout rest tt k)

  pub unlock_all_keeps : (rest : Timed) → K rest → K (unlock_all rest)
  unlock_all_keeps rest k = out_keeps _ (asks_served (asks.Shared shared_asks.UnlockAll) None rest tt k)

  take_names_keep : (xs : List Name) (timeout : Option ℤ) (rest : Timed) → K rest → K (take_names xs timeout rest)
  take_names_keep [] timeout rest k = k
  take_names_keep (x ∷ xs) timeout rest k = asks_served (asks.Shared (shared_asks.Try (x ∷ xs) timeout)) timeout rest tt k

  give_names_keep : (xs : List Name) (timeout : Option ℤ) (rest : Timed) → K rest → K (give_names xs timeout rest)
  give_names_keep [] timeout rest k = k
  give_names_keep (x ∷ xs) timeout rest k = asks_served (asks.Shared (shared_asks.Unlock (x ∷ xs))) timeout rest tt k

  pub lock_keeps : (m : LockMode) (xs : List Name) (timeout : Option ℤ) (rest : Timed) → K rest → K (lock m xs timeout rest)
  lock_keeps mode.Whole xs timeout rest k =
      turn_keeps _ (unlock_all_keeps (turn (take_names xs timeout rest)) (turn_keeps (take_names xs timeout rest) (take_names_keep xs timeout rest k)))
  lock_keeps mode.Plus xs timeout rest k = turn_keeps (take_names xs timeout rest) (take_names_keep xs timeout rest k)
  lock_keeps mode.Minus xs timeout rest k = turn_keeps (give_names xs timeout rest) (give_names_keep xs timeout rest k)

  -- the QUIT of a frame, without a value and with one
  pub ended_frame_keeps : (rest : Timed) → K rest → K (end_frame rest)
  ended_frame_keeps rest k = look_keeps _ (λ s. if_keeps (is_at_mark s) (fault faults.QuitInTransaction) rest (fault_keeps faults.QuitInTransaction) k)

  pub framed_keeps : (rest : Timed) → K rest → K (quit_frame rest)
  framed_keeps rest k = look_keeps _ (λ s. if_keeps (is_function s) (fault faults.Quit) (end_frame rest) (fault_keeps faults.Quit) (ended_frame_keeps rest k))

  pub function_keeps : (rest : Timed) → K rest → K (in_function rest)
  function_keeps rest k = look_keeps _ (λ s. if_keeps (is_function s) rest (fault faults.Quit) k (fault_keeps faults.Quit))

  pub quit_keeps : (quit : Option Timed) (leave : Timed) → ((t : Timed) → quit ≡ Some t → K t) → K leave → K (elim quit [ None ↦ leave | Some t ↦ t ])
  quit_keeps None leave q k = k
  quit_keeps (Some t) leave q k = q t refl
