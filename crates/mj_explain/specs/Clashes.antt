-- Why a commit clashed: the read that it was, and the event that gave it another answer.
use Rattle.std.specs.Prelude.{◌≡◌, ◌≢◌, ℕ, zero, suc, ◌+◌, ◌-◌, ◌<◌, Bool, true, false, List, [], ◌∷◌, ◌++◌, length, take, slice_get}
use Rattle.std.specs.Prelude.{Option, Some, None, ◌≤◌, All, map, if◌then◌else◌}
use Rattle.mj_store.specs.Questions.{Content}
use Rattle.mj_store.specs.Runs.{answer_of}
use Rattle.mj_store.specs.declared.access.Access.{Access}
use Rattle.mj_store.specs.declared.access.Answer.{Answer}
use Rattle.mj_store.specs.declared.access.Answer.TheVariants as answers
use Rattle.mj_ask.specs.declared.clash.Clash.{Clash}
use Rattle.mj_ask.specs.declared.ask.Ask.{Ask}
use Rattle.mj_ask.specs.declared.ask.Ask.TheVariants as asks
use Rattle.mj_ask.specs.declared.ask.SharedAsk.TheVariants as shared_asks
use Rattle.mj_ask.specs.declared.ask.Reply.{Reply}
use Rattle.mj_ask.specs.declared.ask.Reply.TheVariants as replies
use Rattle.mj_txlog.specs.Accesses.{Accesses, is_write, seen}
use Rattle.mj_txlog.specs.declared.entry.Entry.TheVariants as entries
use Rattle.mj_explain.specs.declared.landings.Landing.{Landing}
use Rattle.mj_explain.specs.declared.clashes.ToldClash.{ToldClash}
use Rattle.mj_explain.specs.declared.clashes.Why.{Why}
use Rattle.mj_ask.specs.Keeping.{kept_of}
use Rattle.mj_ask.specs.declared.noted.Noted.{Noted}
use Rattle.mj_ask.specs.declared.noted.Spot.{Spot}
use Rattle.mj_explain.specs.Events.{began_by, change_at, is_change_of, is_counted_of}
use Rattle.mj_explain.specs.Landings.{made_at, globals_behind, globals_to}

-- ---- the read

-- how many of so many events from a place on are accesses that a job's transaction counts
abbrev pub counted_in : List Noted → ℕ → ℕ → ℕ → ℕ
counted_in es job from zero = 0
counted_in es job from (suc n) = counted_in es job from n + (if is_counted_of job (slice_get es (from + n)) then 1 else 0)

-- the event at a place is the k-th access, from 1 on, of the transaction of a job that began at another
pub record IsAccessOf (es : List Noted) (job begin k place : ℕ) : Type 0 where
  pub behind : begin < place
  pub counted : is_counted_of job (slice_get es place) ≡ true
  pub which : counted_in es job (suc begin) (place - suc begin) + 1 ≡ k

-- ---- what it is answered

-- a job's own change at a place, if it made one
abbrev pub own_at : ℕ → Option Noted → Option Access → Accesses
own_at job e None = []
own_at job e (Some a) = if is_change_of job e then entries.Access a answers.Done ∷ [] else []

-- a job's own changes among so many events from a place on
abbrev pub own_in : List Noted → ℕ → ℕ → ℕ → Accesses
own_in es job from zero = []
own_in es job from (suc n) = own_in es job from n ++ own_at job (slice_get es (from + n)) (change_at es (from + n))

-- what a read is answered on these globals, with own changes made on them
abbrev pub told_on : Access → Accesses → Content → Answer
told_on a own globals = answer_of a (seen globals own)

-- a job's own changes in the transaction that it began at one place, before another
abbrev pub own_before : List Noted → ℕ → ℕ → ℕ → Accesses
own_before es job begin place = own_in es job (suc begin) (place - suc begin)

-- what the read is answered behind the events before a place
abbrev pub told_at : List Noted → Content → Access → Accesses → ℕ → Answer
told_at es globals a own k = told_on a own (globals_to es globals k)

-- and behind the first of some changes
abbrev pub told_behind : List Noted → List Landing → Content → Access → Accesses → ℕ → Answer
told_behind es ls globals a own i = told_on a own (globals_behind es ls globals i)

-- ---- the change

-- the last of the first n of some changes to give the read another answer: it gave another one, and none behind it did
pub record IsLastOf (es : List Noted) (ls : List Landing) (globals : Content) (a : Access) (own : Accesses) (n : ℕ) (l : Landing) : Type 0 where
  pub number : ℕ
  pub there : slice_get ls number ≡ Some l
  pub within : number < n
  pub other : told_behind es ls globals a own (suc number) ≢ told_behind es ls globals a own number
  pub last : (j : ℕ) → number < j → j < n → told_behind es ls globals a own (suc j) ≡ told_behind es ls globals a own j

-- which one it is, or that none of them gave another answer
abbrev pub IsLast : List Noted → List Landing → Content → Access → Accesses → ℕ → Option Landing → Type 0
IsLast es ls globals a own n None = (j : ℕ) → j < n → told_behind es ls globals a own (suc j) ≡ told_behind es ls globals a own j
IsLast es ls globals a own n (Some l) = IsLastOf es ls globals a own n l

-- The event `l.made` is the last one from a place on and before another behind which the read is answered otherwise than before it. `l.write` is the last
-- change to give it another answer of those that the event makes.
pub record IsLastMade (es : List Noted) (globals : Content) (a : Access) (own : Accesses) (from end : ℕ) (l : Landing) : Type 0 where
  pub behind : from ≤ l.made
  pub before : l.made < end
  pub other : told_at es globals a own (suc l.made) ≢ told_at es globals a own l.made
  pub last : (k : ℕ) → l.made < k → k < end → told_at es globals a own (suc k) ≡ told_at es globals a own k
  pub change : Landing
  pub write : l.write ≡ change.write
  pub turn : IsLastOf es (made_at es l.made) (globals_to es globals l.made) a own (length (made_at es l.made)) change

-- which one it is, or that behind each of these events the read is answered as before it
abbrev pub IsCause : List Noted → Content → Access → Accesses → ℕ → ℕ → Option Landing → Type 0
IsCause es globals a own from end None = (k : ℕ) → from ≤ k → k < end → told_at es globals a own (suc k) ≡ told_at es globals a own k
IsCause es globals a own from end (Some l) = IsLastMade es globals a own from end l

-- the event at a place, of which this is the last change to give the read another answer, where it isn't answered the same behind it; or the one before it
abbrev pub later_of : ℕ → Bool → Option Landing → Option Landing → Option Landing
later_of place true last found = found
later_of place false None found = found
later_of place false (Some change) found = Some (record { write = change.write; made = place })

-- ---- the clash

-- Why a commit at a place clashed, by the clash that its job was told there. The transaction is the one that the job began at `begin`. The clash names its
-- access at `read`, a read, which was answered `had`, and says so. On the globals at the commit, with the job's own changes before the read, it is answered
-- `answer`, which is another one, and the one that the clash says. The last event behind the read and before the commit to give it another answer is `cause`.
pub record IsWhy (globals : Content) (es : List Noted) (job : ℕ) (clash : Clash) (commit : ℕ) (w : Why) : Type 0 where
  pub begin : began_by job (take commit es) ≡ Some w.begin
  pub a : Access
  pub had : Answer
  pub looked : Option Spot
  pub read : slice_get es w.read ≡ Some (record { job = job; spot = looked; ask = asks.Shared (shared_asks.Access a); reply = replies.Answer had })
  pub questions : is_write a ≡ false
  pub which : IsAccessOf es job w.begin clash.place w.read
  pub before : w.read < commit
  pub now : w.answer ≡ told_at es globals a (own_before es job w.begin w.read) commit
  pub other : w.answer ≢ had
  pub says : clash ≡ record { place = clash.place; then = kept_of had; now = kept_of w.answer }
  pub cause : IsCause es globals a (own_before es job w.begin w.read) (suc w.read) commit w.cause

abbrev pub IsWhyOf : Content → List Noted → ℕ → Clash → ℕ → Option Why → Type 0
IsWhyOf globals es job clash commit None = Unit {0}
IsWhyOf globals es job clash commit (Some w) = IsWhy globals es job clash commit w

-- the event at `commit` is a commit that clashed, for this reason, if one is told
pub record IsClash (globals : Content) (es : List Noted) (c : ToldClash) : Type 0 where
  pub job : ℕ
  pub clash : Clash
  pub ended : Option Spot
  pub commit : slice_get es c.commit ≡ Some (record { job = job; spot = ended; ask = asks.Shared shared_asks.Commit; reply = replies.Clash clash })
  pub why : IsWhyOf globals es job clash c.commit c.why

-- whether an event is a commit that clashed
abbrev pub is_clash : Ask → Reply → Bool
is_clash (asks.Shared shared_asks.Commit) (replies.Clash clash) = true
is_clash _ _ = false

-- the clash that a commit was told, or that this is no commit that clashed
abbrev pub IsClashOf : Ask → Reply → Option Clash → Type 0
IsClashOf ask reply None = is_clash ask reply ≡ false
IsClashOf ask reply (Some clash) = (ask ≡ asks.Shared shared_asks.Commit) × (reply ≡ replies.Clash clash)

abbrev pub is_clash_of : Option Noted → Bool
is_clash_of None = false
is_clash_of (Some e) = is_clash e.ask e.reply

-- the places of the commits that clashed, of so many events
abbrev pub clash_places : List Noted → ℕ → List ℕ
clash_places es zero = []
clash_places es (suc k) = clash_places es k ++ (if is_clash_of (slice_get es k) then k ∷ [] else [])

-- the clashes that are told are the first ones of a trace, so many at most, in order
pub record AreClashes (globals : Content) (es : List Noted) (most : ℕ) (cs : List ToldClash) : Type 0 where
  pub each : All (IsClash globals es) cs
  pub first : map (λ c. c.commit) cs ≡ take most (clash_places es (length es))
