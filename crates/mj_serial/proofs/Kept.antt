-- What the scan knows of the transactions that are open.
use Rattle.std.proofs.Common.{◌≡◌, ℕ, suc, Bool, true, false, cond, [], ◌∷◌, ◌++◌, length, Option, Some, None, refl, ap, sym, ◌∙◌, subst, arith, append_assoc, append-nil, eq-eqb, eqb-true}
use Rattle.std.specs.Prelude.{⊤, ◌==◌, ◌||◌, ◌&&◌, not, nat_lt, if◌then◌else◌}
use Rattle.std.specs.List.{cons_option}
use Rattle.mj_store.specs.Questions.{Content}
use Rattle.mj_store.specs.Runs.{name_of, answer_of}
use Rattle.mj_store.specs.declared.access.Access.{Access}
use Rattle.mj_store.specs.declared.access.Access.TheVariants as access
use Rattle.mj_store.specs.declared.access.Answer.{Answer}
use Rattle.mj_store.specs.declared.access.Answer.TheVariants as answer
use Rattle.mj_ask.specs.Keeping.{is_limit}
use Rattle.mj_ask.specs.declared.ask.Kind.{Kind}
use Rattle.mj_ask.specs.declared.ask.Ask.{Ask}
use Rattle.mj_ask.specs.declared.ask.Ask.TheVariants as asks
use Rattle.mj_ask.specs.declared.ask.SharedAsk.TheVariants as shared_asks
use Rattle.mj_ask.specs.declared.ask.Reply.{Reply}
use Rattle.mj_ask.specs.declared.ask.Reply.TheVariants as replies
use Rattle.mj_txlog.specs.Accesses.{Transaction, is_write, is_full, seen, reply_in, with_reply, with_entry}
use Rattle.mj_txlog.specs.declared.entry.Entry.TheVariants as entry
use Rattle.mj_txlog.specs.declared.entry.Unlock.{Unlock}
use Rattle.mj_txn.specs.Closing.{is_local_write, told_in, after_told}
use Rattle.mj_sys.specs.Transactions.{is_serial, unlock_of}
use Rattle.mj_sys.specs.declared.event.Event.{Event}
use Rattle.mj_sys.specs.History.{History, log_of}
use Rattle.mj_serial.specs.Programs.{Log, Program, Asks, AreAsked}
use Rattle.mj_serial.specs.Blocks.{Block, ScanStand, taken, longer, block_after, stand_after, stands_from, unlock_entry, entry_of, accesses_of}
use Rattle.mj_serial.specs.Rules.{Rule, Sight, IsUnlockTold, IsToldByRule, after_unlock_of, transaction_after, sight_after, sight_behind, AreTold}
use Rattle.mj_serial.proofs.Logs.{asked_more, used_all, used_is, IsKept, KeptAt, Kept, kept_more, accesses_append}

-- a transaction that is open, and what the scan has of it
pub record IsOpen (programs : ℕ → Program) (j : ℕ) (log : Log) (t : Transaction) (b : Block) : Type 0 where
  pub job : b.job ≡ j
  pub serial : b.serial ≡ t.serial
  pub accesses : t.accesses ≡ accesses_of b.since
  pub is : log ≡ b.before ++ b.since
  pub front : Log
  pub kind : Kind
  pub reply : Reply
  pub begins : b.before ≡ front ++ (asks.Shared (shared_asks.Begin kind), reply) ∷ []
  pub as_kind : b.serial ≡ is_serial kind
  pub asked : AreAsked (programs b.job) b.before b.since
  pub kept : Kept 0 b.since

abbrev pub Fits : (ℕ → Program) → ℕ → Log → Option Transaction → Option Block → Type 0
Fits programs j log None None = ⊤
Fits programs j log (Some t) (Some b) = IsOpen programs j log t b
Fits programs j log None (Some b) = ⊥
Fits programs j log (Some t) None = ⊥

count : {programs : ℕ → Program} {j : ℕ} {log : Log} {t : Transaction} {b : Block} → IsOpen programs j log t b → used_all 0 b.since ≡ length t.accesses
count {b = b} o = omega (arith, used_is 0 b.since, ap length o.accesses)

-- an ask in a transaction
more_open : (programs : ℕ → Program) (j : ℕ) (log : Log) (t last : Transaction) (b : Block) (a : Ask) (r : Reply)
    → IsOpen programs j log t b → Asks (programs j) log a → KeptAt (used_all 0 b.since) a r
    → last.serial ≡ t.serial → last.accesses ≡ t.accesses ++ cons_option (entry_of a r) []
    → IsOpen programs j (log ++ (a, r) ∷ []) last (longer b a r)
more_open programs j log t last b a r o k h e f = record {
  job = o.job;
  serial = o.serial ∙ sym e;
  accesses = f ∙ ap (λ x. x ++ cons_option (entry_of a r) []) o.accesses ∙ sym (accesses_append b.since ((a, r) ∷ []));
  is = ap (λ x. x ++ (a, r) ∷ []) o.is ∙ append_assoc b.before b.since ((a, r) ∷ []);
  front = o.front;
  kind = o.kind;
  reply = o.reply;
  begins = o.begins;
  as_kind = o.as_kind;
  asked = asked_more (programs b.job) b.before b.since a r o.asked
      (subst (λ l. Asks (programs b.job) l a) o.is (subst (λ i. Asks (programs i) log a) (sym o.job) k));
  kept = kept_more 0 b.since a r o.kept h;
}

-- ---- accesses

-- a change is answered the same on each content
same_write : (a : Access) (c d : Content) → is_write a ≡ true → answer_of a c ≡ answer_of a d
same_write (access.Set n v) c d e = refl
same_write (access.Kill n) c d e = refl
same_write (access.Put n nodes) c d e = refl
same_write _ c d e = absurd cc

-- a question never passes a limit
pub within : (a : Access) (c : Content) → is_write a ≡ false → is_limit (answer_of a c) ≡ false
within (access.Set n v) c e = absurd cc
within (access.Kill n) c e = absurd cc
within (access.Put n nodes) c e = absurd cc
within _ c e = refl

write_local : (a : Access) → is_local_write a ≡ true → is_write a ≡ true
write_local a = by (is_write a) (not (name_of a).global)
  where
    by : (b c : Bool) → (b && c) ≡ true → b ≡ true
    by true c e = refl
    by false c e = absurd cc

-- what an access in a transaction is told, it is told alone
kept_told : (u : ℕ) (t : Transaction) (g : Content) (a : Access) (local room : Bool) → u ≡ length t.accesses
    → is_local_write a ≡ local → nat_lt (length t.accesses) 65536 ≡ room
    → IsKept u a (if local then answer_of a g else cond (not room) answer.Limit (answer_of a (seen g t.accesses)))
kept_told u t g a true room n l m = record {
  by = λ c h. ap (λ b. if b || nat_lt u 65536 then answer_of a c else answer.Limit) l ∙ same_write a c g (write_local a l);
  room = λ h. ap (λ b. b || nat_lt u 65536) l;
  answered = λ h. (g, refl);
}
kept_told u t g a false true n l m = record {
  by = λ c h. ap (λ b. if b || nat_lt u 65536 then answer_of a c else answer.Limit) l
      ∙ ap (λ k. if nat_lt k 65536 then answer_of a c else answer.Limit) n
      ∙ ap (λ b. if b then answer_of a c else answer.Limit) m
      ∙ by c h (is_write a) refl;
  room = λ h. ap (λ b. b || nat_lt u 65536) l ∙ ap (λ k. nat_lt k 65536) n ∙ m;
  answered = λ h. (seen g t.accesses, refl);
}
  where
    by : (c : Content) → (is_write a ≡ false → is_limit (answer_of a (seen g t.accesses)) ≡ false → answer_of a c ≡ answer_of a (seen g t.accesses))
        → (w : Bool) → is_write a ≡ w → answer_of a c ≡ answer_of a (seen g t.accesses)
    by c h true w = same_write a c (seen g t.accesses) w
    by c h false w = h w (within a (seen g t.accesses) w)
kept_told u t g a false false n l m = record {
  by = λ c h. ap (λ b. if b || nat_lt u 65536 then answer_of a c else answer.Limit) l
      ∙ ap (λ k. if nat_lt k 65536 then answer_of a c else answer.Limit) n
      ∙ ap (λ b. if b then answer_of a c else answer.Limit) m;
  room = λ h. absurd cc;
  answered = λ h. absurd cc;
}

-- the transaction with one access more, if it was taken
replied : (t : Transaction) (a : Access) (v : Answer) → is_local_write a ≡ false → (with_reply t a v).accesses ≡ t.accesses ++ cons_option (taken a v) []
replied t a answer.Limit l = sym (append-nil t.accesses)
replied t a v l = ap (λ b. t.accesses ++ cons_option (if not b then Some (entry.Access a v) else None) []) (sym l)

reply_serial : (t : Transaction) (a : Access) (v : Answer) → (with_reply t a v).serial ≡ t.serial
reply_serial t a answer.Limit = refl
reply_serial t a v = refl

or_true : (b : Bool) → (b || true) ≡ true
or_true true = refl
or_true false = refl

untaken : (a : Access) (v : Answer) → is_local_write a ≡ true → taken a v ≡ None
untaken a v l = ap (λ b. if not (is_limit v || b) then Some (entry.Access a v) else None) l
    ∙ ap (λ b. if not b then Some (entry.Access a v) else None) (or_true (is_limit v))

told_accesses : (t : Transaction) (g : Content) (a : Access) (local : Bool) → is_local_write a ≡ local
    → (if local then t else with_reply t a (reply_in t g a)).accesses
    ≡ t.accesses ++ cons_option (taken a (if local then answer_of a g else reply_in t g a)) []
told_accesses t g a true l = sym (ap (λ o. t.accesses ++ cons_option o []) (untaken a (answer_of a g) l) ∙ append-nil t.accesses)
told_accesses t g a false l = replied t a (reply_in t g a) l

told_serial : (t : Transaction) (g : Content) (a : Access) (local : Bool) → (if local then t else with_reply t a (reply_in t g a)).serial ≡ t.serial
told_serial t g a true = refl
told_serial t g a false = reply_serial t a (reply_in t g a)

-- an access in a transaction
access_open : (programs : ℕ → Program) (j : ℕ) (log : Log) (t : Transaction) (b : Block) (g : Content) (a : Access) (r : Reply)
    → IsOpen programs j log t b → Asks (programs j) log (asks.Shared (shared_asks.Access a)) → r ≡ replies.Answer (told_in t g a)
    → IsOpen programs j (log ++ (asks.Shared (shared_asks.Access a), r) ∷ []) (after_told t g a) (longer b (asks.Shared (shared_asks.Access a)) r)
access_open programs j log t b g a r o k e =
    subst (λ s. IsOpen programs j (log ++ (asks.Shared (shared_asks.Access a), s) ∷ []) (after_told t g a) (longer b (asks.Shared (shared_asks.Access a)) s)) (sym e)
    (more_open programs j log t (after_told t g a) b (asks.Shared (shared_asks.Access a)) (replies.Answer (told_in t g a)) o k
    (told_in t g a, refl, kept_told (used_all 0 b.since) t g a (is_local_write a) (nat_lt (length t.accesses) 65536) (count o) refl refl)
    (told_serial t g a (is_local_write a)) (told_accesses t g a (is_local_write a) refl))

-- an ask that is no access, in a transaction: an unlock, which waits if there is room for it, or what leaves the accesses
other_open : (programs : ℕ → Program) (j : ℕ) (log : Log) (t : Transaction) (b : Block) (a : Ask) (r : Reply) (o : Option Unlock)
    → entry_of a r ≡ unlock_entry o r → KeptAt (used_all 0 b.since) a r → IsOpen programs j log t b → Asks (programs j) log a → IsUnlockTold (Some t) o r
    → Fits programs j (log ++ (a, r) ∷ []) (after_unlock_of (Some t) o) (Some (longer b a r))
other_open programs j log t b a r None e h i k s = more_open programs j log t t b a r i k h refl (sym (ap (λ x. t.accesses ++ cons_option x []) e ∙ append-nil t.accesses))
other_open programs j log t b a r (Some u) e h i k s = by (is_full t) s
  where
    by : (full : Bool) → r ≡ (if full then replies.Limit else replies.Done) → IsOpen programs j (log ++ (a, r) ∷ []) (cond full t (with_entry t (entry.Unlock u))) (longer b a r)
    by true l = more_open programs j log t t b a r i k h refl (sym (ap (λ x. t.accesses ++ cons_option x []) (e ∙ ap (unlock_entry (Some u)) l) ∙ append-nil t.accesses))
    by false l = more_open programs j log t (with_entry t (entry.Unlock u)) b a r i k h refl (sym (ap (λ x. t.accesses ++ cons_option x []) (e ∙ ap (unlock_entry (Some u)) l)))

-- ---- one ask

abbrev FitsAfter : Rule → (ℕ → Program) → ℕ → ℕ → Log → Option Transaction → Option Block → Content → Ask → Reply → Type 0
FitsAfter rule programs j place log t block g a r =
    Fits programs j log t block → IsToldByRule rule t g a r → Asks (programs j) log a
    → Fits programs j (log ++ (a, r) ∷ []) (transaction_after t g a r) (block_after j place log block a r)

fits_none : (rule : Rule) (programs : ℕ → Program) (j place : ℕ) (log : Log) (g : Content) (a : Ask) (r : Reply) → FitsAfter rule programs j place log None None g a r
fits_none rule programs j place log g (asks.Shared (shared_asks.Begin kind)) r f s k = record {
  job = refl;
  serial = refl;
  accesses = refl;
  is = sym (append-nil (log ++ (asks.Shared (shared_asks.Begin kind), r) ∷ []));
  front = log;
  kind = kind;
  reply = r;
  begins = refl;
  as_kind = refl;
  asked = tt;
  kept = tt;
}
fits_none rule programs j place log g (asks.Shared (shared_asks.Try names timeout)) replies.Got f s k = tt
fits_none rule programs j place log g (asks.Shared (shared_asks.Try names timeout)) r f s k = tt
fits_none rule programs j place log g a r f s k = tt

fits_some : (rule : Rule) (programs : ℕ → Program) (j place : ℕ) (log : Log) (t : Transaction) (b : Block) (g : Content) (a : Ask) (r : Reply)
    → FitsAfter rule programs j place log (Some t) (Some b) g a r
fits_some rule programs j place log t b g (asks.Shared (shared_asks.Access a)) r f s k = access_open programs j log t b g a r f k s
fits_some rule programs j place log t b g (asks.Shared (shared_asks.Try names timeout)) replies.Got f s k =
    more_open programs j log t (record t { gained = t.gained ++ names }) b (asks.Shared (shared_asks.Try names timeout)) replies.Got f k tt refl (sym (append-nil t.accesses))
fits_some rule programs j place log t b g (asks.Shared (shared_asks.Try names timeout)) r f s k =
    more_open programs j log t t b (asks.Shared (shared_asks.Try names timeout)) r f k tt refl (sym (append-nil t.accesses))
fits_some rule programs j place log t b g (asks.Shared shared_asks.Commit) r f s k = tt
fits_some rule programs j place log t b g (asks.Shared shared_asks.Rollback) r f s k = tt
fits_some rule programs j place log t b g (asks.Shared (shared_asks.Halt fault)) r f s k = tt
fits_some rule programs j place log t b g a r f s k = other_open programs j log t b a r (unlock_of a) refl tt f k s

fits_after : (rule : Rule) (programs : ℕ → Program) (j place : ℕ) (log : Log) (t : Option Transaction) (block : Option Block) (g : Content) (a : Ask) (r : Reply)
    → FitsAfter rule programs j place log t block g a r
fits_after rule programs j place log None None g a r f s k = fits_none rule programs j place log g a r f s k
fits_after rule programs j place log (Some t) (Some b) g a r f s k = fits_some rule programs j place log t b g a r f s k
fits_after rule programs j place log None (Some b) g a r f s k = absurd f
fits_after rule programs j place log (Some t) None g a r f s k = absurd f

-- ---- where the jobs stand in a run, of which this history is left
pub record IsAt (rule : Rule) (programs : ℕ → Program) (s : Sight) (w : ℕ → ScanStand) (h : History) : Type 0 where
  pub fits : (j : ℕ) → Fits programs j (w j).log (s.transactions j) (w j).block
  pub told : AreTold rule s h
  pub asked : (j : ℕ) → AreAsked (programs j) (w j).log (log_of j h)

-- the job's own next event
pub own : {rule : Rule} {programs : ℕ → Program} {s : Sight} {w : ℕ → ScanStand} {e : Event} {h : History}
    → IsAt rule programs s w (e ∷ h) → AreAsked (programs e.job) (w e.job).log ((e.ask, e.reply) ∷ log_of e.job h)
own {programs = programs} {w = w} {e = e} {h = h} i =
    subst (λ b. AreAsked (programs e.job) (w e.job).log (if b then (e.ask, e.reply) ∷ log_of e.job h else log_of e.job h)) (eq-eqb e.job e.job refl) (i.asked e.job)

pub one_on : {rule : Rule} {programs : ℕ → Program} {s : Sight} {w : ℕ → ScanStand} (place : ℕ) {e : Event} {h : History}
    → IsAt rule programs s w (e ∷ h) → IsAt rule programs (sight_after s e) (stand_after place w e) h
one_on {rule} {programs} {s} {w} place {e} {h} i = record {
  fits = λ j. fit j (e.job == j) refl;
  told = i.told.1;
  asked = λ j. ask_on j (e.job == j) refl;
}
  where
    next : ScanStand
    next = record { log = (w e.job).log ++ (e.ask, e.reply) ∷ []; block = block_after e.job place (w e.job).log (w e.job).block e.ask e.reply }

    fit : (j : ℕ) (b : Bool) → (e.job == j) ≡ b
        → Fits programs j (if b then next else w j).log
        (if b then transaction_after (s.transactions e.job) s.globals e.ask e.reply else s.transactions j) (if b then next else w j).block
    fit j true q = subst (λ x. Fits programs x next.log (transaction_after (s.transactions e.job) s.globals e.ask e.reply) next.block) (eqb-true e.job j q)
        (fits_after rule programs e.job place (w e.job).log (s.transactions e.job) (w e.job).block s.globals e.ask e.reply (i.fits e.job) i.told.0 (own i).0)
    fit j false q = i.fits j

    ask_on : (j : ℕ) (b : Bool) → (e.job == j) ≡ b → AreAsked (programs j) (if b then next else w j).log (log_of j h)
    ask_on j true q = subst (λ x. AreAsked (programs x) next.log (log_of x h)) (eqb-true e.job j q) (own i).1
    ask_on j false q = subst (λ b. AreAsked (programs j) (w j).log (if b then (e.ask, e.reply) ∷ log_of j h else log_of j h)) q (i.asked j)

pub all_on : {rule : Rule} {programs : ℕ → Program} (h : History) {s : Sight} {w : ℕ → ScanStand} (place : ℕ) (later : History)
    → IsAt rule programs s w (h ++ later) → IsAt rule programs (sight_behind s h) (stands_from place w h) later
all_on [] place later i = i
all_on (e ∷ h) place later i = all_on h (suc place) later (one_on place i)
