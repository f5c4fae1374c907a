-- Every run is as its blocks run alone.
use Rattle.std.proofs.Common.{◌≡◌, ℕ, zero, suc, ◌-◌, ◌≤◌, Bool, true, false, cond, List, [], ◌∷◌, ◌++◌, length, max, Option, Some, None, refl, ap, sym, ◌∙◌, subst, arith, append_assoc, append-nil, eq-eqb, eqb-true}
use Rattle.std.proofs.lemmas.List.Elements.{All-append, All-nil}
use Rattle.std.specs.List.{All, cons_option}
use Rattle.std.specs.Prelude.{◌==◌, ◌||◌, ◌&&◌, not, slice_index_or, if◌then◌else◌}
use Rattle.mj_store.specs.Questions.{Content}
use Rattle.mj_store.specs.Changes.{is_too_deep, after_put}
use Rattle.mj_store.specs.Runs.{name_of, answer_of, after_access, after_accesses}
use Rattle.mj_store.specs.declared.access.Access.{Access}
use Rattle.mj_store.specs.declared.access.Access.TheVariants as access
use Rattle.mj_store.specs.declared.access.Answer.TheVariants as answer
use Rattle.mj_ask.specs.Keeping.{is_limit}
use Rattle.mj_ask.specs.declared.ask.Kind.{Kind}
use Rattle.mj_ask.specs.declared.ask.Kind.TheVariants as kinds
use Rattle.mj_ask.specs.declared.ask.Ask.{Ask}
use Rattle.mj_ask.specs.declared.ask.Ask.TheVariants as asks
use Rattle.mj_ask.specs.declared.ask.SharedAsk.TheVariants as shared_asks
use Rattle.mj_ask.specs.declared.ask.Reply.{Reply}
use Rattle.mj_ask.specs.declared.ask.Reply.TheVariants as replies
use Rattle.mj_semantics.specs.State.{Locals, Place}
use Rattle.mj_semantics.specs.Outcome.{Needs}
use Rattle.mj_txlog.specs.Accesses.{Accesses, is_write, writes_of, seen, Transaction}
use Rattle.mj_txlog.specs.declared.entry.Entry.{Entry}
use Rattle.mj_txlog.specs.declared.entry.Entry.TheVariants as entry
use Rattle.mj_txn.specs.Commits.{Hold}
use Rattle.mj_txn.specs.Closing.{is_local_write}
use Rattle.mj_sys.specs.Transactions.{is_serial}
use Rattle.mj_sys.specs.Shared.{changed}
use Rattle.mj_sys.specs.declared.event.Event.{Event}
use Rattle.mj_sys.specs.History.{History, log_of}
use Rattle.mj_serial.specs.Programs.{Log, replies_of, Program, IsSteady, Asks}
use Rattle.mj_serial.specs.Blocks.{Block, ScanStand, single, ended, done_at, stand_after, blocks_from, blocks_of, nowhere, entry_of, accesses_of}
use Rattle.mj_serial.specs.Alone.{Desk, in_front, go, desk_of, with_parts, alone, others_of}
use Rattle.mj_serial.specs.Serial.{had, had_all, AtCommit, IsPart}
use Rattle.mj_serial.specs.Rules.{Rule, Sight, Exactly, IsToldByRule, IsCommitTold, committed_as, globals_left, sight_of, sight_after, sight_behind, IsRunBy, IsSerialBy}
use Rattle.mj_serial.proofs.Logs.{used_all, still_needs, one_seen, leaves}
use Rattle.mj_serial.proofs.Going.{Serves, desk, serves, past, past_is, go_ends, GoesAlong, goes_along}
use Rattle.mj_serial.proofs.Kept.{IsOpen, Fits, IsAt, own, one_on}

-- a SERIAL transaction that holds, run alone
record BlockAlone (p : Program) (b : Block) (g last : Content) : Type 0 where
  turns : ℕ
  same : (n : ℕ) → turns ≤ n
      → go p n n b.before (desk_of b.since g) ≡ record { log = b.since; globals = last; stop = p n (replies_of (b.before ++ b.since)) }
  stand : (n : ℕ) → turns ≤ n → (locals : Locals) × (places : List Place) × (p n (replies_of (b.before ++ b.since)) ≡ Needs (asks.Shared shared_asks.Commit) locals places)

served_alone : (programs : ℕ → Program) (j : ℕ) (log : Log) (t : Transaction) (b : Block) (g : Content) → IsOpen programs j log t b → Hold g [] t.accesses
    → Serves (desk_of b.since g) b.since (desk (used_all 0 b.since) [] (seen g t.accesses))
served_alone programs j log t b g o h =
    subst (λ l. Serves (desk 0 l g) b.since (desk (used_all 0 b.since) [] (seen g t.accesses))) (append-nil (others_of b.since))
    (subst (λ l. Serves (desk 0 (others_of b.since ++ []) g) b.since (desk (used_all 0 b.since) [] (seen g l))) (sym o.accesses)
    (serves 0 b.since [] g [] o.kept (subst (λ l. Hold g [] l) o.accesses h)))

block_alone : (programs : ℕ → Program) → ((j : ℕ) → IsSteady (programs j)) → (j : ℕ) (log : Log) (t : Transaction) (b : Block) (g : Content)
    → IsOpen programs j log t b → Hold g [] t.accesses → Asks (programs j) log (asks.Shared shared_asks.Commit)
    → BlockAlone (programs b.job) b g (seen g t.accesses)
block_alone programs st j log t b g o h k =
    one (goes_along p (st b.job) b.before b.since (desk_of b.since g) last o.asked (served_alone programs j log t b g o h))
    (subst (λ l. Asks p l (asks.Shared shared_asks.Commit)) o.is (subst (λ i. Asks (programs i) log (asks.Shared shared_asks.Commit)) (sym o.job) k))
  where
    p : Program
    p = programs b.job

    last : Desk
    last = desk (used_all 0 b.since) [] (seen g t.accesses)

    one : GoesAlong p b.before b.since (desk_of b.since g) last → Asks p (b.before ++ b.since) (asks.Shared shared_asks.Commit) → BlockAlone p b g (seen g t.accesses)
    one along asked = record {
      turns = max (length b.since) (max along.turns asked.0);
      same = λ n le.
          let l : along.turns ≤ n = omega arith in
          let m : n ≡ past b.since (n - length b.since) = omega (arith, past_is b.since (n - length b.since)) in
          let q : asked.0 ≤ n = omega arith in
          let e : p n (replies_of (b.before ++ b.since)) ≡ Needs (asks.Shared shared_asks.Commit) asked.1 asked.2
          = still_needs p (st b.job) asked.0 n (replies_of (b.before ++ b.since)) (asks.Shared shared_asks.Commit) asked.1 asked.2 q asked.3 in
          ap (λ x. go p n x b.before (desk_of b.since g)) m ∙ along.by n l (n - length b.since)
          ∙ ap (in_front b.since) (go_ends p n (n - length b.since) (b.before ++ b.since) last asked.1 asked.2 e)
          ∙ rw (e, append-nil) refl;
      stand = λ n le.
          let q : asked.0 ≤ n = omega arith in
          (asked.1, asked.2, still_needs p (st b.job) asked.0 n (replies_of (b.before ++ b.since)) (asks.Shared shared_asks.Commit) asked.1 asked.2 q asked.3);
    }

-- the blocks that are over with an event, run alone, do to the globals what the event does
record EventAlone (programs : ℕ → Program) (bs : List Block) (g last : Content) : Type 0 where
  turns : ℕ
  same : (n : ℕ) → turns ≤ n → (rest : List Block)
      → alone programs n g (bs ++ rest) ≡ with_parts (had_all programs n bs) (alone programs n last rest)
  stand : (n : ℕ) → turns ≤ n → All (AtCommit programs n) bs

no_block : (programs : ℕ → Program) (g : Content) → EventAlone programs [] g g
no_block programs g = record { turns = 0; same = λ n le rest. refl; stand = λ n le. All-nil (AtCommit programs n) }

one_of : (P : Block → Type 0) (b : Block) → P b → All P (b ∷ [])
one_of P b h zero d lt = h
one_of P b h (suc k) d lt = absurd (omega arith)

-- ---- single accesses

-- what passes a limit leaves the content
deep_leaves : (b : Bool) (c d : Content) → is_limit (cond b answer.Limit answer.Done) ≡ true → cond b c d ≡ c
deep_leaves true c d e = refl
deep_leaves false c d e = absurd cc

limit_leaves : (a : Access) (c : Content) → is_limit (answer_of a c) ≡ true → after_access a c ≡ c
limit_leaves (access.Put n nodes) c e = deep_leaves (is_too_deep n nodes) c (after_put c n nodes) e
limit_leaves (access.Set n v) c e = absurd cc
limit_leaves (access.Kill n) c e = absurd cc
limit_leaves _ c e = refl

-- an access that was taken, as it is made
taken_changes : (limit write global : Bool) (a : Access) (g : Content) → (limit || (write && not global)) ≡ false → is_write a ≡ write
    → (if global then after_access a g else g) ≡ after_access a g
taken_changes limit write true a g e w = refl
taken_changes true write false a g e w = absurd cc
taken_changes false true false a g e w = absurd cc
taken_changes false false false a g e w = sym (leaves a g w)

-- one that wasn't changes nothing
untaken_leaves : (limit write global : Bool) (a : Access) (g : Content) → (limit || (write && not global)) ≡ true → is_limit (answer_of a g) ≡ limit
    → (if global then after_access a g else g) ≡ g
untaken_leaves limit write false a g e l = refl
untaken_leaves true write true a g e l = limit_leaves a g l
untaken_leaves false true true a g e l = absurd cc
untaken_leaves false false true a g e l = absurd cc

alone_left : (programs : ℕ → Program) (g last : Content) (bs : List Block) → g ≡ last → EventAlone programs bs g g → EventAlone programs bs g last
alone_left programs g last bs e x = subst (λ m. EventAlone programs bs g m) e x

single_by : (programs : ℕ → Program) (j place : ℕ) (log : Log) (g : Content) (a : Access) (b : Bool)
    → (is_limit (answer_of a g) || is_local_write a) ≡ b
    → EventAlone programs (single j place log (asks.Shared (shared_asks.Access a)) (replies.Answer (answer_of a g)) (if not b then Some (entry.Access a (answer_of a g)) else None)) g (changed a g)
single_by programs j place log g a true e =
    alone_left programs g (changed a g) [] (sym (untaken_leaves (is_limit (answer_of a g)) (is_write a) (name_of a).global a g e refl)) (no_block programs g)
single_by programs j place log g a false e = record {
  turns = 0;
  same = λ n le rest. ap (λ m. alone programs n m rest) (made ∙ sym (taken_changes (is_limit (answer_of a g)) (is_write a) (name_of a).global a g e refl));
  stand = λ n le. one_of (AtCommit programs n) _ (λ q. absurd cc);
}
  where
    entry_is : entry_of (asks.Shared (shared_asks.Access a)) (replies.Answer (answer_of a g)) ≡ Some (entry.Access a (answer_of a g))
    entry_is = ap (λ b. if not b then Some (entry.Access a (answer_of a g)) else None) e

    made : after_accesses (writes_of (accesses_of ((asks.Shared (shared_asks.Access a), replies.Answer (answer_of a g)) ∷ []))) g ≡ after_access a g
    made = ap (λ o. after_accesses (writes_of (cons_option o [])) g) entry_is ∙ one_seen g a (answer_of a g)

single_alone : (programs : ℕ → Program) (j place : ℕ) (log : Log) (g : Content) (a : Access) (r : Reply) → r ≡ replies.Answer (answer_of a g)
    → EventAlone programs (single j place log (asks.Shared (shared_asks.Access a)) r (entry_of (asks.Shared (shared_asks.Access a)) r)) g (changed a g)
single_alone programs j place log g a r e =
    subst (λ s. EventAlone programs (single j place log (asks.Shared (shared_asks.Access a)) s (entry_of (asks.Shared (shared_asks.Access a)) s)) g (changed a g)) (sym e)
    (single_by programs j place log g a (is_limit (answer_of a g) || is_local_write a) refl)

-- ---- commits

serial_alone : (programs : ℕ → Program) (b : Block) (g last : Content) → b.serial ≡ true → BlockAlone (programs b.job) b g last
    → EventAlone programs (b ∷ []) g last
serial_alone programs b g last e x = record {
  turns = x.turns;
  same = λ n le rest. rw e (rw (x.same n le) refl);
  stand = λ n le. one_of (AtCommit programs n) b (λ q. x.stand n le);
}

plain_alone : (programs : ℕ → Program) (b : Block) (g : Content) (accesses : Accesses) → b.serial ≡ false → accesses ≡ accesses_of b.since
    → EventAlone programs (b ∷ []) g (seen g accesses)
plain_alone programs b g accesses e x = record {
  turns = 0;
  same = λ n le rest. rw (e, x) refl;
  stand = λ n le. one_of (AtCommit programs n) b (λ q. absurd cc);
}

commit_alone : (programs : ℕ → Program) → ((j : ℕ) → IsSteady (programs j)) → (j : ℕ) (log : Log) (t : Transaction) (b : Block) (g : Content) (r : Reply) (serial : Bool)
    → t.serial ≡ serial → IsOpen programs j log t b → IsCommitTold Exactly (Some t) g r → Asks (programs j) log (asks.Shared shared_asks.Commit)
    → EventAlone programs (ended b r) g (committed_as (Some t) g r)
commit_alone programs st j log t b g replies.Done true e o s k =
    serial_alone programs b g (seen g t.accesses) (o.serial ∙ e) (block_alone programs st j log t b g o (rw e at s) k)
commit_alone programs st j log t b g replies.Done false e o s k = plain_alone programs b g t.accesses (o.serial ∙ e) o.accesses
commit_alone programs st j log t b g r x e o s k = no_block programs g

event_alone : (programs : ℕ → Program) → ((j : ℕ) → IsSteady (programs j)) → (j place : ℕ) (log : Log) (t : Option Transaction) (block : Option Block) (g : Content) (a : Ask) (r : Reply)
    → Fits programs j log t block → IsToldByRule Exactly t g a r → Asks (programs j) log a
    → EventAlone programs (done_at j place log block a r) g (globals_left t g a r)
event_alone programs st j place log None (Some b) g a r f s k = absurd f
event_alone programs st j place log (Some t) None g a r f s k = absurd f
event_alone programs st j place log None None g (asks.Shared (shared_asks.Access a)) r f s k = single_alone programs j place log g a r s
event_alone programs st j place log None None g a r f s k = no_block programs g
event_alone programs st j place log (Some t) (Some b) g (asks.Shared shared_asks.Commit) r f s k = commit_alone programs st j log t b g r t.serial refl f s k
event_alone programs st j place log (Some t) (Some b) g a r f s k = no_block programs g

record AloneFrom (programs : ℕ → Program) (s : Sight) (bs : List Block) (h : History) : Type 0 where
  turns : ℕ
  same : (n : ℕ) → turns ≤ n → alone programs n s.globals bs ≡ record { globals = (sight_behind s h).globals; serial = had_all programs n bs }
  stand : (n : ℕ) → turns ≤ n → All (AtCommit programs n) bs

had_append : (programs : ℕ → Program) (n : ℕ) (xs ys : List Block) → had_all programs n (xs ++ ys) ≡ had_all programs n xs ++ had_all programs n ys
had_append programs n [] ys = refl
had_append programs n (b ∷ xs) ys =
    ap (λ l. had programs n b ++ l) (had_append programs n xs ys) ∙ sym (append_assoc (had programs n b) (had_all programs n xs) (had_all programs n ys))

alone_from : (programs : ℕ → Program) → ((j : ℕ) → IsSteady (programs j)) → (h : History) (s : Sight) (w : ℕ → ScanStand) (place : ℕ)
    → IsAt Exactly programs s w h → AloneFrom programs s (blocks_from place w h) h
alone_from programs st [] s w place i = record { turns = 0; same = λ n le. refl; stand = λ n le. All-nil (AtCommit programs n) }
alone_from programs st (e ∷ h) s w place i =
    both (event_alone programs st e.job place (w e.job).log (s.transactions e.job) (w e.job).block s.globals e.ask e.reply (i.fits e.job) i.told.0 (own i).0)
    (alone_from programs st h (sight_after s e) (stand_after place w e) (suc place) (one_on place i))
  where
    bs : List Block
    bs = done_at e.job place (w e.job).log (w e.job).block e.ask e.reply

    rest : List Block
    rest = blocks_from (suc place) (stand_after place w e) h

    both : EventAlone programs bs s.globals (globals_left (s.transactions e.job) s.globals e.ask e.reply) → AloneFrom programs (sight_after s e) rest h
        → AloneFrom programs s (bs ++ rest) (e ∷ h)
    both x y = record {
      turns = max x.turns y.turns;
      same = λ n le.
          let l : x.turns ≤ n = omega arith in
          let m : y.turns ≤ n = omega arith in
          x.same n l rest ∙ ap (with_parts (had_all programs n bs)) (y.same n m)
          ∙ ap (λ l. record { globals = (sight_behind s (e ∷ h)).globals; serial = l }) (sym (had_append programs n bs rest));
      stand = λ n le.
          let l : x.turns ≤ n = omega arith in
          let m : y.turns ≤ n = omega arith in
          All-append (AtCommit programs n) bs rest (x.stand n l) (y.stand n m);
    }

-- ---- the parts of the logs

-- a block in a log of which the scan has the front
record IsIn (w : ℕ → ScanStand) (h : History) (b : Block) : Type 0 where
  front : Log
  reply : Reply
  begins : b.before ≡ front ++ (asks.Shared (shared_asks.Begin kinds.Serial), reply) ∷ []
  later : Log
  is : (w b.job).log ++ log_of b.job h ≡ b.before ++ (b.since ++ ((asks.Shared shared_asks.Commit), replies.Done) ∷ later)

-- the log doesn't change as the scan goes on
same_log : (place : ℕ) (w : ℕ → ScanStand) (e : Event) (h : History) (j : ℕ) (b : Bool) → (e.job == j) ≡ b
    → (stand_after place w e j).log ++ log_of j h ≡ (w j).log ++ log_of j (e ∷ h)
same_log place w e h j true q =
    rw q (ap (λ i. ((w i).log ++ (e.ask, e.reply) ∷ []) ++ log_of j h) (eqb-true e.job j q) ∙ append_assoc (w j).log ((e.ask, e.reply) ∷ []) (log_of j h))
same_log place w e h j false q = rw q refl

goes_back : (place : ℕ) (w : ℕ → ScanStand) (e : Event) (h : History) (b : Block) → IsIn (stand_after place w e) h b → IsIn w (e ∷ h) b
goes_back place w e h b i = record {
  front = i.front;
  reply = i.reply;
  begins = i.begins;
  later = i.later;
  is = sym (same_log place w e h b.job (e.job == b.job) refl) ∙ i.is;
}

abbrev InIfSerial : (ℕ → ScanStand) → History → Block → Type 0
InIfSerial w h b = b.serial ≡ true → IsIn w h b

none_in : (w : ℕ → ScanStand) (h : History) → All (InIfSerial w h) []
none_in w h = All-nil (InIfSerial w h)

serial_kind : (kind : Kind) → is_serial kind ≡ true → kind ≡ kinds.Serial
serial_kind kinds.Serial e = refl
serial_kind kinds.Plain e = absurd cc

single_in : (w : ℕ → ScanStand) (h : History) (j place : ℕ) (log : Log) (a : Ask) (r : Reply) (o : Option Entry) → All (InIfSerial w h) (single j place log a r o)
single_in w h j place log a r None = none_in w h
single_in w h j place log a r (Some e) = one_of (InIfSerial w h) _ (λ q. absurd cc)

-- the block that is over with an event
ended_in : (programs : ℕ → Program) (w : ℕ → ScanStand) (e : Event) (h : History) (j place : ℕ) (log : Log) (t : Option Transaction) (block : Option Block) (a : Ask) (r : Reply)
    → j ≡ e.job → log ≡ (w e.job).log → ◌≡◌ {A = Ask × Reply} (a, r) (e.ask, e.reply) → Fits programs j log t block
    → (later : Log) → log_of e.job (e ∷ h) ≡ (e.ask, e.reply) ∷ later → All (InIfSerial w (e ∷ h)) (done_at j place log block a r)
ended_in programs w e h j place log (Some t) (Some b) (asks.Shared shared_asks.Commit) replies.Done je le ae f later l =
    one_of (InIfSerial w (e ∷ h)) b (λ q. record {
      front = f.front;
      reply = f.reply;
      begins = f.begins ∙ ap (λ k. f.front ++ (asks.Shared (shared_asks.Begin k), f.reply) ∷ []) (serial_kind f.kind (sym f.as_kind ∙ q));
      later = later;
      is = ap (λ i. (w i).log ++ log_of i (e ∷ h)) (f.job ∙ je) ∙ ap (λ x. (w e.job).log ++ x) l
          ∙ ap (λ x. x ++ (e.ask, e.reply) ∷ later) (sym le ∙ f.is) ∙ ap (λ (x : Ask × Reply). (b.before ++ b.since) ++ x ∷ later) (sym ae)
          ∙ append_assoc b.before b.since (((asks.Shared shared_asks.Commit), replies.Done) ∷ later);
    })
ended_in programs w e h j place log (Some t) (Some b) (asks.Shared shared_asks.Commit) r je le ae f later l = none_in w (e ∷ h)
ended_in programs w e h j place log (Some t) (Some b) a r je le ae f later l = none_in w (e ∷ h)
ended_in programs w e h j place log None None (asks.Shared (shared_asks.Access x)) r je le ae f later l =
    single_in w (e ∷ h) j place log (asks.Shared (shared_asks.Access x)) r (entry_of (asks.Shared (shared_asks.Access x)) r)
ended_in programs w e h j place log None None a r je le ae f later l = none_in w (e ∷ h)
ended_in programs w e h j place log None (Some b) a r je le ae f later l = absurd f
ended_in programs w e h j place log (Some t) None a r je le ae f later l = absurd f

all_back : (place : ℕ) (w : ℕ → ScanStand) (e : Event) (h : History) (bs : List Block) → All (InIfSerial (stand_after place w e) h) bs → All (InIfSerial w (e ∷ h)) bs
all_back place w e h bs i k d lt q = goes_back place w e h (slice_index_or bs k d) (i k d lt q)

all_in : (rule : Rule) (programs : ℕ → Program) (h : History) (s : Sight) (w : ℕ → ScanStand) (place : ℕ)
    → IsAt rule programs s w h → All (InIfSerial w h) (blocks_from place w h)
all_in rule programs [] s w place i = none_in w []
all_in rule programs (e ∷ h) s w place i =
    All-append (InIfSerial w (e ∷ h)) (done_at e.job place (w e.job).log (w e.job).block e.ask e.reply) (blocks_from (suc place) (stand_after place w e) h)
    (ended_in programs w e h e.job place (w e.job).log (s.transactions e.job) (w e.job).block e.ask e.reply refl refl refl (i.fits e.job) (log_of e.job h) (own_log e h))
    (all_back place w e h (blocks_from (suc place) (stand_after place w e) h) (all_in rule programs h (sight_after s e) (stand_after place w e) (suc place) (one_on place i)))
  where
    own_log : (e : Event) (h : History) → log_of e.job (e ∷ h) ≡ (e.ask, e.reply) ∷ log_of e.job h
    own_log e h = ap (λ b. if b then (e.ask, e.reply) ∷ log_of e.job h else log_of e.job h) (eq-eqb e.job e.job refl)

abbrev IsPartIf : History → Block → Type 0
IsPartIf h b = b.serial ≡ true → IsPart h b

in_is_part : (h : History) (bs : List Block) → All (InIfSerial nowhere h) bs → All (IsPartIf h) bs
in_is_part h bs all k d lt q =
    let i = all k d lt q in
    record { front = i.front; reply = i.reply; begins = i.begins; later = i.later; is = i.is }

-- ---- before the first event

pub at_first : {rule : Rule} {programs : ℕ → Program} {g : Content} {h : History} → IsRunBy rule programs g h → IsAt rule programs (sight_of g) nowhere h
at_first r = record { fits = λ j. tt; told = r.told; asked = r.asked }

pub serial : IsSerialBy Exactly
serial programs g h st r =
    let i = at_first r in
    let x = alone_from programs st h (sight_of g) nowhere 1 i in
    record { turns = x.turns; same = x.same; stand = x.stand; parts = in_is_part h (blocks_of h) (all_in Exactly programs h (sight_of g) nowhere 1 i) }
