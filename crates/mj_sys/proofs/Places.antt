-- The place of a job's transaction.
use Rattle.std.proofs.Common.{◌≡◌, ℕ, zero, suc, ◌+◌, ◌-◌, ◌≤◌, ◌<◌, Bool, true, false, cond, List, []}
use Rattle.std.proofs.Common.{◌∷◌, ◌++◌, length, replicate, take, get_or, Option, Some, None, refl, sym, ap, ◌∙◌, subst, arith}
use Rattle.std.specs.Prelude.{slice_set, Result, Ok, Err, OnErr}
use Rattle.std.specs.List.{slice_index_or}
use Rattle.mj_store.specs.declared.access.Answer.TheVariants as answers
use Rattle.mj_ask.specs.declared.ask.Reply.TheVariants as replies
use Rattle.mj_txlog.specs.Accesses.{Transaction, is_full, unlock_reply}
use Rattle.mj_store.specs.Questions.{Content}
use Rattle.mj_sys.specs.Transactions.{Transactions, Transacted, Ongoing, transaction_of, with_transaction, logged, all_logged, unlock_told}
use Rattle.mj_subs.specs.Name.{Name}
use Rattle.mj_locktab.specs.declared.taken.Taken.{Taken}
use Rattle.mj_locktab.specs.declared.taken.Taken.TheVariants as takes
use Rattle.mj_txn.specs.Closing.{gained_by_try as taken_in}
use Rattle.mj_sys.specs.Kept.{as_reply, transaction_after_try}

set_twice : (ts : Transactions) (k : ℕ) (one other : Option Transaction) → slice_set (slice_set ts k one) k other ≡ slice_set ts k other
set_twice [] zero one other = refl
set_twice [] (suc k) one other = refl
set_twice (t ∷ ts) zero one other = refl
set_twice (t ∷ ts) (suc k) one other = ap (λ l. t ∷ l) (set_twice ts k one other)

-- the last one counts
pub with_twice : (ts : Transactions) (job : ℕ) (one other : Option Transaction) → with_transaction (with_transaction ts job one) job other ≡ with_transaction ts job other
with_twice ts zero one other = refl
with_twice ts (suc k) one other = set_twice ts k one other

set_same : (ts : Transactions) (k : ℕ) → slice_set ts k (slice_index_or ts k None) ≡ ts
set_same [] zero = refl
set_same [] (suc k) = refl
set_same (t ∷ ts) zero = refl
set_same (t ∷ ts) (suc k) = ap (λ l. t ∷ l) (set_same ts k)

-- what was there already changes nothing
pub with_same : (ts : Transactions) (job : ℕ) → with_transaction ts job (transaction_of ts job) ≡ ts
with_same ts zero = refl
with_same ts (suc k) = set_same ts k

get_past : (ts : Transactions) (k : ℕ) → length ts ≤ k → slice_index_or ts k None ≡ None
get_past [] zero past = refl
get_past [] (suc k) past = refl
get_past (t ∷ ts) zero past = absurd (let no : ⊥ = omega (arith, past) in no)
get_past (t ∷ ts) (suc k) past = get_past ts k (omega (arith, past))

set_past : (ts : Transactions) (k : ℕ) (t : Option Transaction) → length ts ≤ k → slice_set ts k t ≡ ts
set_past [] zero t past = refl
set_past [] (suc k) t past = refl
set_past (x ∷ ts) zero t past = absurd (let no : ⊥ = omega (arith, past) in no)
set_past (x ∷ ts) (suc k) t past = ap (λ l. x ∷ l) (set_past ts k t (omega (arith, past)))

-- a job without a place has none
pub none_past : (ts : Transactions) (job : ℕ) → (1 ≤ job → length ts < job) → transaction_of ts job ≡ None
none_past ts zero past = refl
none_past ts (suc k) past = let p : length ts < suc k = past (omega arith) in get_past ts k (omega (arith, p))

pub stays_past : (ts : Transactions) (job : ℕ) (t : Option Transaction) → (1 ≤ job → length ts < job) → with_transaction ts job t ≡ ts
stays_past ts zero t past = refl
stays_past ts (suc k) t past = let p : length ts < suc k = past (omega arith) in set_past ts k t (omega (arith, p))

-- what an unlock in a transaction is told
pub unlock_replies : (t : Transaction) → as_reply (unlock_reply t) ≡ unlock_told (Some t)
unlock_replies t = by (is_full t) where
  by : (full : Bool) → as_reply (cond full answers.Limit answers.Done) ≡ cond full replies.Limit replies.Done
  by true = refl
  by false = refl

-- one place more
pub one_more : (n : ℕ) → replicate n None ++ None ∷ [] ≡ replicate {A = Option Transaction} (n + 1) None
one_more n = next n ∙ ap (λ m. replicate m None) (let e : suc n ≡ n + 1 = omega arith in e) where
  next : (m : ℕ) → replicate m None ++ None ∷ [] ≡ replicate {A = Option Transaction} (suc m) None
  next zero = refl
  next (suc m) = ap (λ l. None ∷ l) (next m)

-- a try where no transaction is open, and in one
pub taken_none : (names : List Name) (taken : Taken) → transaction_after_try None names taken ≡ None
taken_none names takes.Got = refl
taken_none names (takes.Busy holder name) = refl
taken_none names takes.Limit = refl

pub taken_some : (t : Transaction) (names : List Name) (taken : Taken) → Some (taken_in t names taken) ≡ transaction_after_try (Some t) names taken
taken_some t names takes.Got = refl
taken_some t names (takes.Busy holder name) = refl
taken_some t names takes.Limit = refl

-- ---- the transactions of logs

pub seen_length : (logs : List (Option Ongoing)) → length (all_logged logs) ≡ length logs
seen_length [] = refl
seen_length (l ∷ logs) = ap suc (seen_length logs)

seen_at : (logs : List (Option Ongoing)) (k : ℕ) → slice_index_or (all_logged logs) k None ≡ logged (slice_index_or logs k None)
seen_at [] zero = refl
seen_at [] (suc k) = refl
seen_at (l ∷ logs) zero = refl
seen_at (l ∷ logs) (suc k) = seen_at logs k

pub seen_set : (logs : List (Option Ongoing)) (k : ℕ) (l : Option Ongoing) → all_logged (slice_set logs k l) ≡ slice_set (all_logged logs) k (logged l)
seen_set [] zero l = refl
seen_set [] (suc k) l = refl
seen_set (x ∷ logs) zero l = refl
seen_set (x ∷ logs) (suc k) l = ap (λ ts. logged x ∷ ts) (seen_set logs k l)

-- a log is put back of which the transaction is the same
set_like : (logs : List (Option Ongoing)) (k : ℕ) (old own : Option Ongoing) → old ≡ get_or logs k old → logged own ≡ logged old → all_logged (slice_set logs k own) ≡ all_logged logs
set_like [] zero old own at is = refl
set_like [] (suc k) old own at is = refl
set_like (x ∷ logs) zero old own at is = ap (λ t. t ∷ all_logged logs) (is ∙ ap logged at)
set_like (x ∷ logs) (suc k) old own at is = ap (λ ts. logged x ∷ ts) (set_like logs k old own at is)

-- where nothing was done, the globals and the transactions are as they were
pub nothing_done : {T E : Type 0} (r : Result T E) (globals globals' : Content) (logs : List (Option Ongoing)) (k : ℕ) (old own : Option Ongoing) (v : Transacted)
    → old ≡ get_or logs k old → OnErr r ((globals' ≡ globals) × (logged own ≡ logged old)) → record { globals = globals; transactions = all_logged logs } ≡ v
    → OnErr r (record { globals = globals'; transactions = all_logged (slice_set logs k own) } ≡ v)
nothing_done (Ok x) globals globals' logs k old own v at done is = tt
nothing_done (Err e) globals globals' logs k old own v at done is =
    let P : Content → Transactions → Type 0 = λ g ts. record { globals = g; transactions = ts } ≡ v in
    subst (λ g. P g (all_logged (slice_set logs k own))) (sym done.0) (subst (λ ts. P globals ts) (sym (set_like logs k old own at done.1)) is)

-- the log at a job's place, and the logs where it is this one
abbrev pub log_of : List (Option Ongoing) → ℕ → Option Ongoing
log_of logs zero = None
log_of logs (suc k) = slice_index_or logs k None

abbrev pub with_log : List (Option Ongoing) → ℕ → Option Ongoing → List (Option Ongoing)
with_log logs zero l = logs
with_log logs (suc k) l = slice_set logs k l

pub seen_of : (logs : List (Option Ongoing)) (job : ℕ) → transaction_of (all_logged logs) job ≡ logged (log_of logs job)
seen_of logs zero = refl
seen_of logs (suc k) = seen_at logs k

pub seen_with : (logs : List (Option Ongoing)) (job : ℕ) (l : Option Ongoing) → with_transaction (all_logged logs) job (logged l) ≡ all_logged (with_log logs job l)
seen_with logs zero l = refl
seen_with logs (suc k) l = sym (seen_set logs k l)

pub seen_without : (logs : List (Option Ongoing)) (job : ℕ) → with_transaction (all_logged logs) job None ≡ all_logged (with_log logs job None)
seen_without logs job = seen_with logs job None

-- one log more, of no transaction
pub seen_more : (logs : List (Option Ongoing)) → all_logged (logs ++ None ∷ []) ≡ all_logged logs ++ None ∷ []
seen_more [] = refl
seen_more (x ∷ logs) = ap (λ ts. logged x ∷ ts) (seen_more logs)

seen_take : (logs : List (Option Ongoing)) (n : ℕ) → all_logged (take n logs) ≡ take n (all_logged logs)
seen_take logs zero = refl
seen_take [] (suc n) = refl
seen_take (x ∷ logs) (suc n) = ap (λ ts. logged x ∷ ts) (seen_take logs n)

pub seen_front : (logs left : List (Option Ongoing)) (n : ℕ) → left ≡ take n logs → all_logged left ≡ take n (all_logged logs)
seen_front logs left n is = ap all_logged is ∙ seen_take logs n

-- the last log is gone
pub seen_fewer : (logs left : List (Option Ongoing)) (n : ℕ) → n ≡ length logs → left ≡ take (n - 1) logs
    → all_logged left ≡ take (length (all_logged logs) - 1) (all_logged logs)
seen_fewer logs left n all is = seen_front logs left (n - 1) is ∙ ap (λ m. take (m - 1) (all_logged logs)) (all ∙ sym (seen_length logs))

-- a row that was put behind the others, and taken away again
pub taken_back : (ts : Transactions) (t : Option Transaction) → take (length (ts ++ t ∷ []) - 1) (ts ++ t ∷ []) ≡ ts
taken_back ts t = ap (λ k. take k (ts ++ t ∷ [])) (let e = longer ts in let f : length (ts ++ t ∷ []) - 1 ≡ length ts = omega (arith, e) in f) ∙ front ts where
  longer : (l : Transactions) → length (l ++ t ∷ []) ≡ suc (length l)
  longer [] = refl
  longer (x ∷ l) = ap suc (longer l)

  front : (l : Transactions) → take (length l) (l ++ t ∷ []) ≡ l
  front [] = refl
  front (x ∷ l) = ap (λ r. x ∷ r) (front l)
