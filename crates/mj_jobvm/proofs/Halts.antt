-- A run is over only behind the reply to its halt: each word that rows are made of keeps this, and so each row.
use Rattle.std.proofs.Common.{◌≡◌, ℕ, zero, suc, ◌⊎◌, List, [], ◌∷◌, ◌++◌, length, Option, Some, None, Bool, true, false, inl, inr, refl, ap, sym, ◌∙◌, subst}
use Rattle.std.specs.Prelude.{ℤ, nat_lt, nat_le, nat_eq, if◌then◌else◌}
use Rattle.std.proofs.lemmas.List.{map-append}
use Rattle.mj_text.specs.declared.fault.Fault.{Fault}
use Rattle.mj_text.specs.declared.fault.Fault.TheVariants as faults
use Rattle.mj_ask.specs.declared.ask.Ask.{Ask}
use Rattle.mj_ask.specs.declared.ask.Ask.TheVariants as asks
use Rattle.mj_ask.specs.declared.ask.SharedAsk.TheVariants as shared_asks
use Rattle.mj_ask.specs.declared.ask.Reply.{Reply}
use Rattle.mj_semantics.specs.State.{State, Locals, Place, Words, principal, devices_limit, has_failed, ending_order, is_open, with_device, counted, places, marked, raised, lowered, settled, can_restart, restarted, is_in_function}
use Rattle.mj_semantics.specs.Outcome.{Outcome, Needs, More, Ended, Handler, Timed, turn, look, change, asking, no_restart, until, restartable, go_back, over, halt, ends, end, fault, ask}
use Rattle.mj_semantics.specs.Devices.{is_got, has_no_session, obtained, request_device}
use Rattle.mj_semantics.specs.Sharing.{in_time as test_in_time}
use Rattle.mj_semantics.specs.Transactions.{levels_limit, kind_of, out_of_functions, begin_transaction, in_transaction, is_clash, commit, roll_back, roll_back_for_restart, begin_restart}
use Rattle.mj_semantics.specs.Program.{Program}
use Rattle.mj_semantics.specs.Job.{Start, opening, start as starts, next}
use Rattle.mj_semantics.proofs.Depth.{one_answer}
use Rattle.mj_jobvm.specs.Run.{Log, replies_of, IsTrace, begins, goes_on, HasEnded}
use Rattle.mj_jobvm.specs.Halted.{Halted, EndsByHalt, EndsInHalt}
use Rattle.mj_jobvm.proofs.Rows as rows
use Rattle.mj_jobvm.proofs.Everywhere.{Everywhere, rule_of}

-- what a restart goes on with is over only so
record Goes (h : Handler) : Type 0 where
  by : (n : ℕ) (s : State) (replies : List Reply) → h n s replies ≡ Ended → Halted (h n s) replies

-- outside a transaction nothing goes back, and in one what a restart goes on with is over only so
abbrev IsReady : Handler → State → Type 0
IsReady h s = (s.level ≡ 0) ⊎ Goes h

-- what is left to do is over only so, where it is ready; in a transaction; and wherever it is
record Halts (t : Timed) : Type 0 where
  by : (n : ℕ) (h : Handler) (s : State) (replies : List Reply) → IsReady h s → t n h s replies ≡ Ended → Halted (t n h s) replies

record Within (t : Timed) : Type 0 where
  by : (n : ℕ) (h : Handler) (s : State) (replies : List Reply) → Goes h → t n h s replies ≡ Ended → Halted (t n h s) replies

record Apart (t : Timed) : Type 0 where
  by : (n : ℕ) (h : Handler) (s : State) (replies : List Reply) → t n h s replies ≡ Ended → Halted (t n h s) replies

inside : (t : Timed) → Halts t → Within t
inside t k = record { by = λ n h s replies g e. k.by n h s replies (inr g) e }

-- behind one more reply
told_more : (run : List Reply → Outcome) (r : Reply) (rest : List Reply → Outcome) (replies : List Reply) → ((more : List Reply) → run (r ∷ more) ≡ rest more)
    → Halted rest replies → Halted run (r ∷ replies)
told_more run r rest replies same k = record {
  told = r ∷ k.told;
  last = k.last;
  more = k.more;
  fault = k.fault;
  locals = k.locals;
  at = k.at;
  are = ap (λ l. r ∷ l) k.are;
  asked = same k.told ∙ k.asked;
  over = λ behind. same (k.told ++ k.last ∷ behind) ∙ k.over behind;
}

turned : (t : Timed) → Halts t → Halts (turn t)
turned t k = record { by = at }
  where
    at : (n : ℕ) (h : Handler) (s : State) (replies : List Reply) → IsReady h s → turn t n h s replies ≡ Ended → Halted (turn t n h s) replies
    at zero h s replies w e = absurd cc
    at (suc n) h s replies w e = k.by n h s replies w e

within_turned : (t : Timed) → Within t → Within (turn t)
within_turned t k = record { by = at }
  where
    at : (n : ℕ) (h : Handler) (s : State) (replies : List Reply) → Goes h → turn t n h s replies ≡ Ended → Halted (turn t n h s) replies
    at zero h s replies g e = absurd cc
    at (suc n) h s replies g e = k.by n h s replies g e

apart_turned : (t : Timed) → Apart t → Apart (turn t)
apart_turned t k = record { by = at }
  where
    at : (n : ℕ) (h : Handler) (s : State) (replies : List Reply) → turn t n h s replies ≡ Ended → Halted (turn t n h s) replies
    at zero h s replies e = absurd cc
    at (suc n) h s replies e = k.by n h s replies e

looked : (t : State → Timed) → ((s : State) → Halts (t s)) → Halts (look t)
looked t k = record { by = λ n h s replies w e. (k s).by n h s replies w e }

within_looked : (t : State → Timed) → ((s : State) → Within (t s)) → Within (look t)
within_looked t k = record { by = λ n h s replies g e. (k s).by n h s replies g e }

-- a change that leaves the level
leveled : (f : State → State) (t : Timed) → ((s : State) → (f s).level ≡ s.level) → Halts t → Halts (change f t)
leveled f t same k = record { by = λ n h s replies w e. k.by n h (f s) replies (ready s h w) e }
  where
    ready : (s : State) (h : Handler) → IsReady h s → IsReady h (f s)
    ready s h (inl z) = inl (same s ∙ z)
    ready s h (inr g) = inr g

within_changed : (f : State → State) (t : Timed) → Within t → Within (change f t)
within_changed f t k = record { by = λ n h s replies g e. k.by n h (f s) replies g e }

chosen : (b : Bool) (t u : Timed) → Halts t → Halts u → Halts (if b then t else u)
chosen true t u k l = k
chosen false t u k l = l

within_chosen : (b : Bool) (t u : Timed) → Within t → Within u → Within (if b then t else u)
within_chosen true t u k l = k
within_chosen false t u k l = l

-- The ending.

halts : (f : Option Fault) (n : ℕ) (h : Handler) (s : State) (replies : List Reply) → halt f n h s replies ≡ Ended → Halted (halt f n h s) replies
halts f zero h s replies e = absurd cc
halts f (suc n) h s [] e = absurd cc
halts f (suc zero) h s (r ∷ replies) e = absurd cc
halts f (suc (suc n)) h s (r ∷ replies) e = record {
  told = [];
  last = r;
  more = replies;
  fault = f;
  locals = s.locals;
  at = places s;
  are = refl;
  asked = refl;
  over = λ behind. refl;
}

sessions_end : (names : List (List ℕ)) (f : Option Fault) (n : ℕ) (h : Handler) (s : State) (replies : List Reply) → ends names f n h s replies ≡ Ended → Halted (ends names f n h s) replies
sessions_end [] f n h s replies e = halts f n h s replies e
sessions_end (name ∷ names) f zero h s replies e = absurd cc
sessions_end (name ∷ names) f (suc n) h s [] e = absurd cc
sessions_end (name ∷ names) f (suc n) h s (r ∷ replies) e =
    told_more (ends (name ∷ names) f (suc n) h s) r (ends names f n h s) replies (λ more. refl) (sessions_end names f n h s replies e)

ended : (f : Option Fault) → Halts (end f)
ended f = record { by = λ n h s replies w e. sessions_end (ending_order s.devices) f n h s replies e }

-- an ask that is made in any case
replied_to : (x : Ask) (t : Reply → Timed) → ((r : Reply) → Halts (t r)) → Halts (asking x t)
replied_to x t k = record { by = at }
  where
    at : (n : ℕ) (h : Handler) (s : State) (replies : List Reply) → IsReady h s → asking x t n h s replies ≡ Ended → Halted (asking x t n h s) replies
    at n h s [] w e = absurd cc
    at n h s (r ∷ replies) w e = told_more (asking x t n h s) r (t r n h s) replies (λ more. refl) ((k r).by n h s replies w e)

within_replied_to : (x : Ask) (t : Reply → Timed) → ((r : Reply) → Within (t r)) → Within (asking x t)
within_replied_to x t k = record { by = at }
  where
    at : (n : ℕ) (h : Handler) (s : State) (replies : List Reply) → Goes h → asking x t n h s replies ≡ Ended → Halted (asking x t n h s) replies
    at n h s [] g e = absurd cc
    at n h s (r ∷ replies) g e = told_more (asking x t n h s) r (t r n h s) replies (λ more. refl) ((k r).by n h s replies g e)

faulted : (f : Fault) → Halts (fault f)
faulted f =
    turned _ (looked _ (λ s. chosen (has_failed principal s) (end (Some f)) _
    (ended (Some f)) (replied_to _ (λ r. end (Some f)) (λ r. ended (Some f)))))

asked : (x : Ask) (t : Reply → Timed) → ((r : Reply) → Halts (t r)) → Halts (ask x t)
asked x t k =
    looked _ (λ s. chosen (nat_lt s.replied s.bounds.events) (asking x (λ r. change counted (t r))) (fault faults.Steps)
    (replied_to x _ (λ r. leveled counted (t r) (λ q. refl) (k r))) (faulted faults.Steps))

within_asked : (x : Ask) (t : Reply → Timed) → ((r : Reply) → Within (t r)) → Within (ask x t)
within_asked x t k =
    within_looked _ (λ s. within_chosen (nat_lt s.replied s.bounds.events) (asking x (λ r. change counted (t r))) (fault faults.Steps)
    (within_replied_to x _ (λ r. within_changed counted (t r) (k r))) (inside _ (faulted faults.Steps)))

-- OPEN.

timed : (timeout : Option ℤ) (b : Bool) (t : Timed) → Halts t → Halts (change (test_in_time timeout b) t)
timed timeout b t k = leveled (test_in_time timeout b) t (same timeout) k
  where
    same : (o : Option ℤ) (s : State) → (test_in_time o b s).level ≡ s.level
    same None s = refl
    same (Some n) s = refl

obtains : (name : List ℕ) (timeout : Option ℤ) (late got : Timed) → Halts late → Halts got → Halts (request_device name timeout late got)
obtains name timeout late got l k =
    let opened : Timed = change (with_device name) got in
    let in_time : Timed = change (test_in_time timeout true) opened in
    let too_late : Timed = change (test_in_time timeout false) late in
    let asks_for : Timed = ask (asks.Shared (shared_asks.Open name timeout)) (λ r. obtained name timeout r late got) in
    looked _ (λ s. chosen (is_open name s) (change (test_in_time timeout true) late) (if nat_lt devices_limit (length s.devices) then fault faults.Limit else asks_for)
    (timed timeout true late l)
    (chosen (nat_lt devices_limit (length s.devices)) (fault faults.Limit) asks_for (faulted faults.Limit)
    (asked _ _ (λ r. chosen (has_no_session r) (fault faults.NoDevice) (if is_got r then in_time else too_late) (faulted faults.NoDevice)
    (chosen (is_got r) in_time too_late (timed timeout true opened (leveled (with_device name) got (λ q. refl) k)) (timed timeout false late l))))))

-- Transactions.

-- the rest at a level above 0 is in a transaction
in_level : (h : Handler) (s : State) → IsReady h s → nat_eq s.level 0 ≡ false → Goes h
in_level h s (inl z) e = let none : nat_eq 0 0 ≡ false = subst (λ k. nat_eq k 0 ≡ false) z e in absurd cc
in_level h s (inr g) e = g

begun : (restored : Option Words) (serial : Bool) (inner outermost : Timed) → Halts inner → Apart outermost → Halts (begin_transaction restored serial inner outermost)
begun restored serial inner outermost k l = record { by = λ n h s replies w e. at (nat_eq s.level 0) n h s replies refl w e }
  where
    asks_one : Timed
    asks_one = ask (asks.Shared (shared_asks.Begin (kind_of serial))) (λ r. change (marked restored serial) outermost)

    outer_one : Timed
    outer_one = out_of_functions asks_one

    one_more : State → Timed
    one_more s = if nat_lt s.level levels_limit then change raised inner else fault faults.Limit

    is_marked : Halts (change (marked restored serial) outermost)
    is_marked = record { by = λ n h s replies w e. l.by n h (marked restored serial s) replies e }

    is_raised : (s : State) → Within (one_more s)
    is_raised s = within_chosen (nat_lt s.level levels_limit) (change raised inner) (fault faults.Limit) (within_changed raised inner (inside inner k)) (inside _ (faulted faults.Limit))

    at : (b : Bool) (n : ℕ) (h : Handler) (s : State) (replies : List Reply) → nat_eq s.level 0 ≡ b → IsReady h s
        → (if b then outer_one else one_more s) n h s replies ≡ Ended → Halted ((if b then outer_one else one_more s) n h s) replies
    at true n h s replies b w e =
        (looked _ (λ t. chosen (is_in_function t) (fault faults.InTransaction) asks_one (faulted faults.InTransaction) (asked _ _ (λ r. is_marked)))).by n h s replies w e
    at false n h s replies b w e = (is_raised s).by n h s replies (in_level h s w b) e

in_it : (t : Timed) → Within t → Halts (in_transaction t)
in_it t k = record { by = λ n h s replies w e. at (nat_eq s.level 0) n h s replies refl w e }
  where
    at : (b : Bool) (n : ℕ) (h : Handler) (s : State) (replies : List Reply) → nat_eq s.level 0 ≡ b → IsReady h s
        → (if b then fault faults.NoTransaction else t) n h s replies ≡ Ended → Halted ((if b then fault faults.NoTransaction else t) n h s) replies
    at true n h s replies b w e = (faulted faults.NoTransaction).by n h s replies w e
    at false n h s replies b w e = k.by n h s replies (in_level h s w b) e

goes_back : Within go_back
goes_back = record { by = λ n h s replies g e. g.by n s replies e }

begins_again : Within begin_restart
begins_again = within_looked _ (λ s. within_asked _ _ (λ r. within_changed restarted go_back goes_back))

commits : (done : Timed) → Halts done → Halts (commit (turn begin_restart) done)
commits done k =
    in_it _ (within_looked _ (λ s. within_chosen (nat_lt 1 s.level) (change lowered done) _ (within_changed lowered done (inside done k))
    (within_asked _ _ (λ r. within_chosen (is_clash r) (turn begin_restart) (change settled done) (within_turned begin_restart begins_again)
    (within_changed settled done (inside done k))))))

rolls_back : (rest : Timed) → Halts rest → Halts (roll_back rest)
rolls_back rest k = in_it _ (within_asked _ _ (λ r. within_changed settled rest (inside rest k)))

gives_back : Halts (roll_back_for_restart (turn begin_restart))
gives_back =
    in_it _ (within_looked _ (λ s. within_chosen (can_restart s) _ (fault faults.NoRestart)
    (within_asked _ _ (λ r. within_turned begin_restart begins_again)) (inside _ (faulted faults.NoRestart))))

restarts : (again rest : Timed) → Apart again → Halts rest → Apart (restartable again rest)
restarts again rest l k = record { by = λ n h s replies e. k.by n (until n again) s replies (inr (goes n)) e }
  where
    by_turns : (b : Bool) (m : ℕ) (s : State) (replies : List Reply) → (if b then again m no_restart else (λ s replies. More)) s replies ≡ Ended
        → Halted ((if b then again m no_restart else (λ s replies. More)) s) replies
    by_turns true m s replies e = l.by m no_restart s replies e
    by_turns false m s replies e = absurd cc

    goes : (n : ℕ) → Goes (until n again)
    goes n = record { by = λ m s replies e. by_turns (nat_le m n) m s replies e }

-- so what holds of a word holds of each row, whatever is asked
halting : Everywhere Halts Apart
halting = record {
  turned = turned;
  looked = looked;
  changed = λ f t fewer k. leveled f t (λ s. (fewer s).2) k;
  asked = asked;
  ended = ended;
  faulted = faulted;
  spent = record { by = λ n h s replies w e. absurd cc };
  obtained = obtains;
  begun = begun;
  committed = commits;
  rolled_back = rolls_back;
  given_back = gives_back;
  started = restarts;
  apart_turned = apart_turned;
  apart_spent = record { by = λ n h s replies e. absurd cc };
}

pub ends_by_halt : EndsByHalt
ends_by_halt program start n replies e =
    let k : Halts (starts program.routines start (suc n)) = rows.job_keeps Halts Apart (rule_of Halts Apart halting) program.routines start (suc n) in
    k.by n no_restart (opening program.bounds start.job) replies (inl refl) e

-- Logs.

-- a list and one behind it, as they lie in another that is parted at a place
parted : {X : Type 0} (xs ys : List X) (x y : X) (zs : List X) → xs ++ x ∷ [] ≡ ys ++ y ∷ zs → ((xs ≡ ys) × (x ≡ y)) ⊎ ((vs : List X) × (xs ≡ ys ++ y ∷ vs))
parted [] [] x y zs e = let first : x ≡ y = cc in inl (refl, first)
parted [] (v ∷ []) x y zs e = absurd cc
parted [] (v ∷ w ∷ ys) x y zs e = absurd cc
parted (u ∷ xs) [] x y zs e = let first : u ≡ y = cc in inr (xs, ap (λ z. z ∷ xs) first)
parted {X} (u ∷ xs) (v ∷ ys) x y zs e =
    let first : u ≡ v = cc in
    let rest : xs ++ x ∷ [] ≡ ys ++ y ∷ zs = cc in
    by first (parted xs ys x y zs rest)
  where
    by : u ≡ v → ((xs ≡ ys) × (x ≡ y)) ⊎ ((vs : List X) × (xs ≡ ys ++ y ∷ vs)) → ((u ∷ xs ≡ v ∷ ys) × (x ≡ y)) ⊎ ((vs : List X) × (u ∷ xs ≡ (v ∷ ys) ++ y ∷ vs))
    by first (inl k) = inl (λ i. first i ∷ k.0 i, k.1)
    by first (inr k) = inr (k.0, λ i. first i ∷ k.1 i)

no_halt : (run : List Reply → Outcome) → Halted run [] → ⊥
no_halt run k = by k.told k.are
  where
    by : (told : List Reply) → [] ≡ told ++ k.last ∷ k.more → ⊥
    by [] e = cc
    by (r ∷ told) e = cc

-- the last ask of a trace is one alone
asks_one : (program : Program) (start : Start) (n m : ℕ) (replies : List Reply) (a b : Ask) (locals locals' : Locals) (at at' : List Place)
    → next program start n replies ≡ Needs a locals at → next program start m replies ≡ Needs b locals' at' → a ≡ b
asks_one program start n m replies a b locals locals' at at' e f = by (one_answer program start n m replies)
  where
    by : (next program start n replies ≡ More) ⊎ ((next program start m replies ≡ More) ⊎ (next program start n replies ≡ next program start m replies)) → a ≡ b
    by (inl k) = absurd cc
    by (inr (inl k)) = absurd cc
    by (inr (inr k)) = let same : Needs a locals at ≡ Needs b locals' at' = sym e ∙ (k ∙ f) in cc

-- a run that asks isn't over
not_over : (program : Program) (start : Start) (n m : ℕ) (replies : List Reply) (a : Ask) (locals : Locals) (at : List Place)
    → next program start n replies ≡ Ended → next program start m replies ≡ Needs a locals at → ⊥
not_over program start n m replies a locals at e f = by (one_answer program start n m replies)
  where
    by : (next program start n replies ≡ More) ⊎ ((next program start m replies ≡ More) ⊎ (next program start n replies ≡ next program start m replies)) → ⊥
    by (inl k) = cc
    by (inr (inl k)) = cc
    by (inr (inr k)) = let same : Ended ≡ Needs a locals at = sym e ∙ (k ∙ f) in cc

module _ (program : Program) (start : Start) where
  last_is : (log : Log) (a : Ask) (r : Reply) (n m : ℕ) (locals : Locals) (at : List Place) → next program start m (replies_of log) ≡ Needs a locals at
      → Halted (λ told. next program start n told) (replies_of log ++ r ∷ []) → EndsInHalt (log ++ (a, r) ∷ [])
  last_is log a r n m locals at needs k = by (parted (replies_of log) k.told r k.last k.more k.are)
    where
      by : ((replies_of log ≡ k.told) × (r ≡ k.last)) ⊎ ((vs : List Reply) × (replies_of log ≡ k.told ++ k.last ∷ vs)) → EndsInHalt (log ++ (a, r) ∷ [])
      by (inl p) =
          let here : next program start n (replies_of log) ≡ Needs (asks.Shared (shared_asks.Halt k.fault)) k.locals k.at = ap (next program start n) p.0 ∙ k.asked in
          let same : a ≡ asks.Shared (shared_asks.Halt k.fault) = asks_one program start m n (replies_of log) a (asks.Shared (shared_asks.Halt k.fault)) locals k.locals at k.at needs here in
          (log, k.fault, r, ap (λ x. log ++ (x, r) ∷ []) same)
      by (inr p) = absurd (not_over program start n m (replies_of log) a locals at (ap (next program start n) p.1 ∙ k.over p.0) needs)

  pub halt_last : (log : Log) → IsTrace program start log → HasEnded program start log → EndsInHalt log
  halt_last _ begins over = absurd (no_halt (λ told. next program start over.0 told) (ends_by_halt program start over.0 [] over.1))
  halt_last _ (goes_on log a r m locals at trace needs fit within) over =
      let is : replies_of (log ++ (a, r) ∷ []) ≡ replies_of log ++ r ∷ [] = map-append (λ e. e.1) log ((a, r) ∷ []) in
      last_is log a r over.0 m locals at needs (subst (Halted (λ told. next program start over.0 told)) is (ends_by_halt program start over.0 (replies_of (log ++ (a, r) ∷ [])) over.1))
