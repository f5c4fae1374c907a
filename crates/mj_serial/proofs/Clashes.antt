-- A clash comes only where it must.
use Rattle.std.proofs.Common.{◌≡◌, ℕ, suc, ◌+◌, ◌≤◌, Bool, true, false, [], ◌∷◌, ◌++◌, length, max, Option, Some, None, refl, ap, sym, ◌∙◌, subst, arith}
use Rattle.std.specs.Prelude.{◌&&◌, ◌||◌, not, if◌then◌else◌}
use Rattle.std.specs.List.{cons_option}
use Rattle.mj_store.specs.Questions.{Content}
use Rattle.mj_store.specs.Runs.{answer_of}
use Rattle.mj_store.specs.declared.access.Access.{Access}
use Rattle.mj_store.specs.declared.access.Answer.{Answer}
use Rattle.mj_store.specs.declared.access.Answer.TheVariants as answer
use Rattle.mj_ask.specs.Fits.{answers}
use Rattle.mj_ask.proofs.Fitting.{answered}
use Rattle.mj_ask.proofs.Keeping.{keeps}
use Rattle.mj_ask.specs.Keeping.{is_limit, kept_of}
use Rattle.mj_ask.specs.declared.clash.Clash.{Clash}
use Rattle.mj_ask.specs.declared.ask.Ask.{Ask}
use Rattle.mj_ask.specs.declared.ask.Ask.TheVariants as asks
use Rattle.mj_ask.specs.declared.ask.SharedAsk.TheVariants as shared_asks
use Rattle.mj_ask.specs.declared.ask.Reply.{Reply}
use Rattle.mj_ask.specs.declared.ask.Reply.TheVariants as replies
use Rattle.mj_txlog.specs.Accesses.{Accesses, is_write, seen, Transaction}
use Rattle.mj_txlog.specs.declared.entry.Entry.{Entry}
use Rattle.mj_txlog.specs.declared.entry.Entry.TheVariants as entry
use Rattle.mj_txlog.specs.declared.entry.Unlock.{Unlock}
use Rattle.mj_txn.specs.Commits.{Hold, DiffersNow}
use Rattle.mj_txn.specs.Closing.{is_local_write, clash_of}
use Rattle.mj_txn.specs.declared.changed.Changed.{Changed}
use Rattle.mj_sys.specs.Transactions.{unlock_of}
use Rattle.mj_sys.specs.History.{History}
use Rattle.mj_serial.specs.Programs.{Log, replies_of, Program, IsSteady, Asks, AreAsked}
use Rattle.mj_serial.specs.Blocks.{Block, stands_from, nowhere, open_after, unlock_entry, entry_of, accesses_of}
use Rattle.mj_serial.specs.Alone.{Desk, told_alone, used_after, go, desk_of, others_of}
use Rattle.mj_serial.specs.Serial.{MustClash}
use Rattle.mj_serial.specs.Rules.{Exactly, IsKindTold, IsCommitTold, sight_of, sight_behind, committed_by, clashes_at, ClashesMustBy}
use Rattle.mj_serial.proofs.Logs.{asked_front, asked_next, still_needs, used_all, KeptAt, Kept, kept_front, kept_next, others_append}
use Rattle.mj_serial.proofs.Going.{Serves, desk, serves, past, past_is, go_one, left_alone, step_access, GoesAlong, goes_along}
use Rattle.mj_serial.proofs.Kept.{within, Fits, IsAt, all_on}
use Rattle.mj_serial.proofs.Runs.{at_first}

-- ---- an access of a log

-- what is an access was asked so
record IsAsked (q : Ask) (r : Reply) (a : Access) (v : Answer) : Type 0 where
  is : ◌≡◌ {A = Ask × Reply} (q, r) (asks.Shared (shared_asks.Access a), replies.Answer v)
  within : is_limit v ≡ false

taken_is : (b c : Bool) (z a : Access) (y v : Answer) → is_limit y ≡ b → ◌≡◌ {A = Option Entry} (if not (b || c) then Some (entry.Access z y) else None) (Some (entry.Access a v))
    → IsAsked (asks.Shared (shared_asks.Access z)) (replies.Answer y) a v
taken_is true c z a y v l e = absurd cc
taken_is false true z a y v l e = absurd cc
taken_is false false z a y v l e =
    let p : z ≡ a = cc in
    let q : y ≡ v = cc in
    record { is = λ i. (asks.Shared (shared_asks.Access (p i)), replies.Answer (q i)); within = subst (λ x. is_limit x ≡ false) q l }

-- no unlock is one
no_access : (u : Option Unlock) (r : Reply) (a : Access) (v : Answer) → unlock_entry u r ≡ Some (entry.Access a v) → ⊥
no_access None r a v e = cc
no_access (Some u) replies.Done a v e = cc
no_access (Some u) r a v e = cc

entry_is : (q : Ask) (r : Reply) (a : Access) (v : Answer) → entry_of q r ≡ Some (entry.Access a v) → IsAsked q r a v
entry_is (asks.Shared (shared_asks.Access z)) (replies.Answer y) a v e = taken_is (is_limit y) (is_local_write z) z a y v refl e
entry_is (asks.Shared (shared_asks.Access z)) r a v e = absurd cc
entry_is q r a v e = absurd (no_access (unlock_of q) r a v e)

-- a log with an access among those that were taken
record Split (es : Log) (earlier : Accesses) (a : Access) (v : Answer) : Type 0 where
  early : Log
  late : Log
  is : es ≡ early ++ (asks.Shared (shared_asks.Access a), replies.Answer v) ∷ late
  accesses : accesses_of early ≡ earlier
  within : is_limit v ≡ false

data Last (xs : Accesses) (x : Entry) (earlier : Accesses) (y : Entry) (later : Accesses) : Type 0 where
  here : earlier ≡ [] → x ≡ y → Last xs x earlier y later
  further : (before : Accesses) → earlier ≡ x ∷ before → xs ≡ before ++ y ∷ later → Last xs x earlier y later

last : (xs : Accesses) (x : Entry) (earlier : Accesses) (y : Entry) (later : Accesses) → x ∷ xs ≡ earlier ++ y ∷ later → Last xs x earlier y later
last xs x [] y later e = let q : x ≡ y = cc in here refl q
last xs x (z ∷ before) y later e = let p : z ∷ before ≡ x ∷ before = cc in let q : xs ≡ before ++ y ∷ later = cc in further before p q

split : (es : Log) (earlier : Accesses) (a : Access) (v : Answer) (later : Accesses) → accesses_of es ≡ earlier ++ entry.Access a v ∷ later → Split es earlier a v
split [] [] a v later e = absurd cc
split [] (x ∷ earlier) a v later e = absurd cc
split (q ∷ es) earlier a v later e = by (entry_of q.0 q.1) refl e (λ before h. split es before a v later h)
  where
    with_first : Split es earlier a v → accesses_of (q ∷ []) ≡ [] → Split (q ∷ es) earlier a v
    with_first s none = record {
      early = q ∷ s.early;
      late = s.late;
      is = ap (λ l. q ∷ l) s.is;
      accesses = none_first (entry_of q.0 q.1) none ∙ s.accesses;
      within = s.within;
    }
      where
        none_first : (o : Option Entry) → cons_option o [] ≡ [] → cons_option o (accesses_of s.early) ≡ accesses_of s.early
        none_first None h = refl
        none_first (Some x) h = absurd cc

    by_place : (x : Entry) → entry_of q.0 q.1 ≡ Some x → Last (accesses_of es) x earlier (entry.Access a v) later
        → ((before : Accesses) → accesses_of es ≡ before ++ entry.Access a v ∷ later → Split es before a v) → Split (q ∷ es) earlier a v
    by_place x is (here p s) ih =
        let k : IsAsked q.0 q.1 a v = entry_is q.0 q.1 a v (is ∙ ap Some s) in
        record { early = []; late = es; is = ap (λ (z : Ask × Reply). z ∷ es) k.is; accesses = sym p; within = k.within }
    by_place x is (further before p s) ih =
        let t : Split es before a v = ih before s in
        record {
          early = q ∷ t.early;
          late = t.late;
          is = ap (λ l. q ∷ l) t.is;
          accesses = ap (λ o. cons_option o (accesses_of t.early)) is ∙ ap (λ l. x ∷ l) t.accesses ∙ sym p;
          within = t.within;
        }

    by : (o : Option Entry) → entry_of q.0 q.1 ≡ o → cons_option (entry_of q.0 q.1) (accesses_of es) ≡ earlier ++ entry.Access a v ∷ later
        → ((before : Accesses) → accesses_of es ≡ before ++ entry.Access a v ∷ later → Split es before a v) → Split (q ∷ es) earlier a v
    by None is h ih = with_first (ih earlier (sym (ap (λ o. cons_option o (accesses_of es)) is) ∙ h)) (ap (λ o. cons_option o []) is)
    by (Some x) is h ih =
        by_place x is (last (accesses_of es) x earlier (entry.Access a v) later (sym (ap (λ o. cons_option o (accesses_of es)) is) ∙ h)) ih

-- ---- the transaction, run alone up to the access that differs

record Comes (p : Program) (b : Block) (g : Content) (early : Log) (a : Access) (new : Answer) : Type 0 where
  turns : ℕ
  by : (n : ℕ) → turns ≤ n
      → (go p n (suc (length early)) b.before (desk_of b.since g)).log ≡ early ++ (asks.Shared (shared_asks.Access a), replies.Answer new) ∷ []

comes : (p : Program) → IsSteady p → (b : Block) (g : Content) (early : Log) (a : Access) (old new : Answer) (late : Log)
    → b.since ≡ early ++ (asks.Shared (shared_asks.Access a), replies.Answer old) ∷ late → AreAsked p b.before b.since → Kept 0 b.since
    → Hold g [] (accesses_of early) → is_limit old ≡ false → answer_of a (seen g (accesses_of early)) ≡ new → Comes p b g early a new
comes p st b g early a old new late is f k h l e =
    one (goes_along p st b.before early (desk_of b.since g) mid (asked_front p b.before early ((asks.Shared (shared_asks.Access a), replies.Answer old) ∷ late) (subst (AreAsked p b.before) is f))
    (subst (λ l. Serves (desk 0 l g) early mid) others
    (serves 0 early (others_of late) g [] (kept_front 0 early ((asks.Shared (shared_asks.Access a), replies.Answer old) ∷ late) (subst (Kept 0) is k)) h)))
    (asked_next p b.before early (asks.Shared (shared_asks.Access a)) (replies.Answer old) late (subst (AreAsked p b.before) is f))
    (room (kept_next 0 early (asks.Shared (shared_asks.Access a)) (replies.Answer old) late (subst (Kept 0) is k)))
  where
    there : Content
    there = seen g (accesses_of early)

    mid : Desk
    mid = desk (used_all 0 early) (others_of late) there

    others : others_of early ++ others_of late ≡ others_of b.since
    others = sym (ap others_of is ∙ others_append early ((asks.Shared (shared_asks.Access a), replies.Answer old) ∷ late))

    room : KeptAt (used_all 0 early) (asks.Shared (shared_asks.Access a)) (replies.Answer old) → told_alone (used_all 0 early) there a ≡ new
    room kept =
        let v : Answer = kept.0 in
        let same : old ≡ v = cc (kept.1) in
        ap (λ b. if b then answer_of a there else answer.Limit) (kept.2.room (subst (λ x. is_limit x ≡ false) same l)) ∙ e

    one : GoesAlong p b.before early (desk_of b.since g) mid → Asks p (b.before ++ early) (asks.Shared (shared_asks.Access a)) → told_alone (used_all 0 early) there a ≡ new → Comes p b g early a new
    one along asked told = record {
      turns = max along.turns asked.0;
      by = λ n le.
          let l : along.turns ≤ n = omega arith in
          let q : asked.0 ≤ n = omega arith in
          let m : suc (length early) ≡ past early 1 = omega (arith, past_is early 1) in
          ap (λ x. (go p n x b.before (desk_of b.since g)).log) m ∙ ap (λ x. x.log) (along.by n l 1)
          ∙ ap (λ x. early ++ x.log)
          (go_one p n 0 (b.before ++ early) mid (desk (used_after (used_all 0 early) (asks.Shared (shared_asks.Access a)) (replies.Answer new)) (others_of late) (left_alone a new there))
          (asks.Shared (shared_asks.Access a)) (replies.Answer new) asked.1 asked.2
          (still_needs p st asked.0 n (replies_of (b.before ++ early)) (asks.Shared (shared_asks.Access a)) asked.1 asked.2 q asked.3)
          (step_access (used_all 0 early) (others_of late) there a new told));
    }

-- ---- what a clash keeps

first_true : (x y : Bool) → (x && y) ≡ true → x ≡ true
first_true true y e = refl
first_true false y e = absurd cc

is_answer : (a : Access) (c : Content) → answers a (answer_of a c) ≡ true
is_answer a c = first_true (answers a (answer_of a c)) _ (answered a c)

-- of two answers to one read that differ, what is kept differs
kept_apart : (a : Access) (old new : Answer) (c : Content) → is_write a ≡ false → new ≡ answer_of a c → (there : Content) × (old ≡ answer_of a there)
    → is_limit old ≡ false → (new ≡ old → ⊥) → kept_of new ≡ kept_of old → ⊥
kept_apart a old new c read now was within_old differ same =
    differ ((keeps old (kept_of old) refl).apart a new (record {
      one = subst (λ v. answers a v ≡ true) (sym was.1) (is_answer a was.0);
      other = subst (λ v. answers a v ≡ true) (sym now) (is_answer a c);
      one_within = within_old;
      other_within = subst (λ v. is_limit v ≡ false) (sym now) (within a c read);
    }) same)

-- ---- what a job has open where its commit clashes

clash_is : (programs : ℕ → Program) → ((j : ℕ) → IsSteady (programs j)) → (g0 : Content) (h : History) (j : ℕ) (log : Log) (t : Option Transaction) (block : Option Block) (clash : Clash)
    → open_after h j ≡ block → Fits programs j log t block → IsCommitTold Exactly t (committed_by g0 h) (replies.Clash clash)
    → MustClash programs (committed_by g0 h) h j clash
clash_is programs st g0 h j log None None clash o f s = absurd cc
clash_is programs st g0 h j log None (Some b) clash o f s = absurd f
clash_is programs st g0 h j log (Some t) None clash o f s = absurd f
clash_is programs st g0 h j log (Some t) (Some b) clash o f s = by_kind t.serial refl s
  where
    g : Content
    g = committed_by g0 h

    own_answer : {a : Access} {v : Answer} {earlier : Accesses} → Split b.since earlier a v → (there : Content) × (v ≡ answer_of a there)
    own_answer {a} {v} x =
        let kept : KeptAt (used_all 0 x.early) (asks.Shared (shared_asks.Access a)) (replies.Answer v)
        = kept_next 0 x.early (asks.Shared (shared_asks.Access a)) (replies.Answer v) x.late (subst (Kept 0) x.is f.kept) in
        let same : v ≡ kept.0 = cc (kept.1) in
        let there = kept.2.answered (subst (λ y. is_limit y ≡ false) same x.within) in
        (there.0, same ∙ there.1)

    with_split : (c : Changed) → clash ≡ clash_of c → t.serial ≡ true → (a : Access) (v : Answer) (earlier : Accesses) → Hold g [] earlier
        → DiffersNow g earlier (entry.Access a v) c.place c.then c.now → Split b.since earlier a v → MustClash programs g h j clash
    with_split c is serial a v earlier hold d x =
        let k : Comes (programs b.job) b g x.early a c.now =
        comes (programs b.job) (st b.job) b g x.early a v c.now x.late x.is f.asked f.kept (subst (Hold g []) (sym x.accesses) hold) x.within
        (ap (λ l. answer_of a (seen g l)) x.accesses ∙ sym d.1.now) in
        record {
          block = b;
          is = o;
          serial = f.serial ∙ serial;
          early = x.early;
          a = a;
          old = v;
          new = c.now;
          late = x.late;
          since = x.is;
          place = ap (λ (y : Clash). y.place) is ∙ d.1.place ∙ ap (λ l. length l + 1) (sym x.accesses);
          was = ap (λ (y : Clash). y.then) is ∙ ap kept_of d.1.then;
          now = ap (λ (y : Clash). y.now) is;
          differ = λ e. d.1.differ (e ∙ sym d.1.then);
          apart = λ e.
              kept_apart a v c.now (seen g earlier) d.0 d.1.now (own_answer x) x.within
              (λ q. d.1.differ (q ∙ sym d.1.then)) (sym (ap (λ (y : Clash). y.now) is) ∙ e ∙ ap (λ (y : Clash). y.then) is ∙ ap kept_of d.1.then);
          turns = k.turns;
          again = subst (λ i. (n : ℕ) → k.turns ≤ n
              → (go (programs i) n (suc (length x.early)) b.before (desk_of b.since g)).log ≡ x.early ++ (asks.Shared (shared_asks.Access a), replies.Answer c.now) ∷ []) f.job k.by;
        }

    with_entry : (c : Changed) → clash ≡ clash_of c → t.serial ≡ true → (e : Entry) (earlier later : Accesses) → t.accesses ≡ earlier ++ e ∷ later → Hold g [] earlier
        → DiffersNow g earlier e c.place c.then c.now → MustClash programs g h j clash
    with_entry c is serial (entry.Access a v) earlier later whole hold d =
        with_split c is serial a v earlier hold d (split b.since earlier a v later (sym f.accesses ∙ whole))
    with_entry c is serial (entry.Unlock u) earlier later whole hold d = absurd d

    by_kind : (serial : Bool) → t.serial ≡ serial → IsKindTold Exactly serial g t.accesses (replies.Clash clash) → MustClash programs g h j clash
    by_kind true q d = with_entry d.0 d.1 q d.2.e d.2.earlier d.2.later d.2.is d.2.hold d.2.differs
    by_kind false q e = absurd cc

pub clashes : ClashesMustBy Exactly
clashes programs g h later j clash st r =
    let i : IsAt Exactly programs (sight_behind (sight_of g) h) (stands_from 1 nowhere h) (clashes_at j clash ∷ later)
    = all_on h 1 (clashes_at j clash ∷ later) (at_first r) in
    clash_is programs st g h j (stands_from 1 nowhere h j).log ((sight_behind (sight_of g) h).transactions j) (open_after h j) clash refl (i.fits j) i.told.0
