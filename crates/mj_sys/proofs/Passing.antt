-- Transactions stay open on the globals, whatever changes in these, and whatever is served.
use Rattle.std.proofs.Common.{◌≡◌, ℕ, zero, suc, ◌<◌, Bool, true, false, cond, List, [], ◌∷◌}
use Rattle.std.proofs.Common.{◌++◌, length, take, get_or, Option, Some, None, refl, sym, ap, ◌∙◌, subst, arith}
use Rattle.std.specs.Prelude.{T, slice_set, if◌then◌else◌, Result, Ok, Err, IfOk, OnOk, OnErr}
use Rattle.std.specs.BTreeMap.{insert_entry}
use Rattle.std.specs.List.{slice_index_or}
use Rattle.std.specs.FinMap.{is_sorted}
use Rattle.std.specs.Map.{lookup, set_value, values_of}
use Rattle.std.specs.Ordering.{match_ordering}
use Rattle.std.specs.declared.cmp.Ordering.{Ordering}
use Rattle.std.specs.declared.cmp.Ordering.TheVariants.{Less, Equal, Greater}
use Rattle.std.proofs.lemmas.Option.{same_Some}
use Rattle.mj_subs.specs.Name.{Name}
use Rattle.mj_subs.specs.Collation.{name_cmp}
use Rattle.mj_store.specs.Questions.{Content}
use Rattle.mj_store.specs.Changes.{followed_by}
use Rattle.mj_store.specs.declared.access.Access.{Access}
use Rattle.mj_globs.specs.Stamps.{Stamped, stamp_at, is_still, Rises}
use Rattle.mj_globs.proofs.Stamping.{still_same, one_stamp, rises_same}
use Rattle.mj_locktab.specs.declared.taken.Taken.{Taken}
use Rattle.mj_locktab.specs.declared.taken.Taken.TheVariants as takes
use Rattle.mj_txlog.specs.Accesses.{Transaction, reply_in, with_reply, with_unlock}
use Rattle.mj_txlog.specs.declared.entry.Unlock.{Unlock}
use Rattle.mj_txlog.specs.Follows.{Follows}
use Rattle.mj_txlog.specs.Logged.{Logged}
use Rattle.mj_txlog.specs.Skips.{AreBare, AreSkips, AreWithin, front, gone_by}
use Rattle.mj_txlog.proofs.Following.{follows_on}
use Rattle.mj_txlog.proofs.Goes.{bare_more, reply_gone, unlock_gone}
use Rattle.mj_txn.specs.Closing.{is_local_write, after_told, gained_by_try}
use Rattle.mj_sys.specs.Transactions.{Ongoing}
use Rattle.mj_sys.specs.Passed.{IsPassed, ArePassed, IsOpenOn, IsOpen, AreOpen}
use Rattle.mj_sys.specs.declared.passed.PassedWord.{PassedWord}

-- globals that stay as they are
pub rises_self : (g : Stamped) → Rises g g
rises_self g = rises_same g g refl refl

-- ---- one word

-- where nothing is kept, nothing is wrong
pub no_skips : (globals gone : Content) → AreSkips globals gone []
no_skips globals gone n d there = absurd (let no : ⊥ = cc in no)

pub none_within : (n : Name) → AreWithin n []
none_within n m d there = absurd (let no : ⊥ = cc in no)

pub passed_none : (g : Stamped) (gone : Content) (at : ℕ) → IsPassed g gone (record { at = at; skips = [] })
passed_none g gone at = record { behind = λ n d there. absurd (let no : ⊥ = cc in no); still = λ n d there. absurd (let no : ⊥ = cc in no) }

-- what was passed over may be gone by, where the stamp stands still
pub passed_now : (g : Stamped) (gone : Content) (p : PassedWord) (n : Name) → is_still p.at (stamp_at g.stamps n) ≡ true → AreWithin n p.skips → IsPassed g gone p
    → AreSkips g.content gone p.skips
passed_now g gone p n still within was m d there =
    was.still m d there (subst (λ k. is_still p.at k ≡ true) (one_stamp g.stamps n m (within m d there)) still)

-- and what is so now is so at the stamp of now
pub passed_then : (g : Stamped) (gone runs : Content) (n : Name) → AreWithin n runs → AreSkips g.content gone runs → IsPassed g gone (record { at = stamp_at g.stamps n; skips = runs })
passed_then g gone runs n within skips = record {
  behind = λ m d there. let same = one_stamp g.stamps n m (within m d there) in omega (arith, same);
  still = λ m d there e. skips m d there;
}

pub passed_at : (g : Stamped) (gone : Content) (n : Name) (p : PassedWord) → p.at ≡ stamp_at g.stamps n → AreWithin n p.skips → AreSkips g.content gone p.skips → IsPassed g gone p
passed_at g gone n p at within skips = subst (λ k. IsPassed g gone (record { at = k; skips = p.skips })) (sym at) (passed_then g gone p.skips n within skips)

-- the globals change
pub passed_on : (g h : Stamped) (gone : Content) (p : PassedWord) → Rises g h → IsPassed g gone p → IsPassed h gone p
passed_on g h gone p rises was = record {
  behind = λ n d there. let b = was.behind n d there in let u = rises.up n in omega (arith, b, u);
  still = λ n d there e u from to below stays.
      let b = was.behind n d there in
      let up = rises.up n in
      let same : p.at ≡ stamp_at h.stamps n = still_same p.at _ e in
      let mid : stamp_at g.stamps n ≡ p.at = omega (arith, b, up, same) in
      rises.still (followed_by (front n) (u ∷ below)) (subst (λ k. is_still k (stamp_at h.stamps n) ≡ true) (sym mid) e)
      ∙ was.still n d there (subst (λ k. is_still p.at k ≡ true) (sym same ∙ sym mid) e) u from to below stays;
}

-- the transaction kills more
passed_more : (g : Stamped) (gone gone' : Content) (p : PassedWord)
    → ((f : Name) (c d : List ℕ) → AreBare g.content gone f c d → AreBare g.content gone' f c d) → IsPassed g gone p → IsPassed g gone' p
passed_more g gone gone' p more was = record { behind = was.behind; still = λ n d there e. more (front n) _ d (was.still n d there e) }

-- ---- all words of a transaction

pub all_on : (g h : Stamped) (gone : Content) (ps : List PassedWord) → Rises g h → ArePassed g gone ps → ArePassed h gone ps
all_on g h gone [] rises was = tt
all_on g h gone (p ∷ ps) rises was = (passed_on g h gone p rises was.0, all_on g h gone ps rises was.1)

pub all_more : (g : Stamped) (gone gone' : Content) (ps : List PassedWord)
    → ((f : Name) (c d : List ℕ) → AreBare g.content gone f c d → AreBare g.content gone' f c d) → ArePassed g gone ps → ArePassed g gone' ps
all_more g gone gone' [] more was = tt
all_more g gone gone' (p ∷ ps) more was = (passed_more g gone gone' p more was.0, all_more g gone gone' ps more was.1)

-- what went after an access in a transaction
pub bare_told : (g : Stamped) (t : Transaction) (a : Access) (f : Name) (c d : List ℕ) → AreBare g.content (gone_by t.accesses) f c d
    → AreBare g.content (gone_by (after_told t g.content a).accesses) f c d
bare_told g t a f c d was = by (is_local_write a) where
  by : (b : Bool) → AreBare g.content (gone_by (if b then t else with_reply t a (reply_in t g.content a)).accesses) f c d
  by true = was
  by false = reply_gone (λ gone. AreBare g.content gone f c d) (λ gone e. bare_more g.content gone f c d e) t a (reply_in t g.content a) was

-- what is bare stays so, whether the access is made or refused
abbrev pub StaysBare : Stamped → Transaction → Transaction → Type 0
StaysBare g t new = (f : Name) (c d : List ℕ) → AreBare g.content (gone_by t.accesses) f c d → AreBare g.content (gone_by new.accesses) f c d

pub stays_bare : {A E : Type 0} (r : Result A E) (g : Stamped) (t new : Transaction) (a : Access) → OnOk r (new ≡ after_told t g.content a) → OnErr r (new ≡ t) → StaysBare g t new
stays_bare (Ok x) g t new a ok err = subst (λ (u : Transaction). StaysBare g t u) (sym ok) (bare_told g t a)
stays_bare (Err e) g t new a ok err = subst (λ (u : Transaction). StaysBare g t u) (sym err) (λ f c d was. was)

-- ---- words by their keys

module _ (g : Stamped) (gone : Content) {K : Type 0} where
  pub found_passed : (test : K → Bool) (es : List (K × PassedWord)) (p : PassedWord) → lookup test es ≡ Some p → ArePassed g gone (values_of es) → IsPassed g gone p
  found_passed test [] p is was = absurd (let no : ⊥ = cc in no)
  found_passed test (e ∷ es) p is was = by (test e.0) (λ rest. found_passed test es p rest was.1) is where
    by : (b : Bool) → (lookup test es ≡ Some p → IsPassed g gone p) → cond b (Some e.1) (lookup test es) ≡ Some p → IsPassed g gone p
    by true further h = subst (λ (q : PassedWord). IsPassed g gone q) (same_Some e.1 p h) was.0
    by false further h = further h

  -- that of one key is another
  pub set_passed : (test : K → Bool) (es : List (K × PassedWord)) (p : PassedWord) → IsPassed g gone p → ArePassed g gone (values_of es)
      → ArePassed g gone (values_of (set_value test es p))
  set_passed test [] p is was = tt
  set_passed test (e ∷ es) p is was = by (test e.0) (set_passed test es p is was.1) where
    by : (b : Bool) → ArePassed g gone (values_of (set_value test es p)) → ArePassed g gone (values_of (cond b ((e.0, p) ∷ es) (e ∷ set_value test es p)))
    by true rest = (is, was.1)
    by false rest = (was.0, rest)

  -- one is put among them
  put_passed : (cmp : K → K → Ordering) (es : List (K × PassedWord)) (k : K) (p : PassedWord) → IsPassed g gone p → ArePassed g gone (values_of es)
      → ArePassed g gone (values_of (insert_entry cmp es k p))
  put_passed cmp [] k p is was = (is, tt)
  put_passed cmp (e ∷ es) k p is was = by (cmp k e.0) (put_passed cmp es k p is was.1) where
    by : (o : Ordering) → ArePassed g gone (values_of (insert_entry cmp es k p))
        → ArePassed g gone (values_of (match_ordering o ((k, p) ∷ e ∷ es) ((e.0, p) ∷ es) (e ∷ insert_entry cmp es k p)))
    by Less rest = (is, was)
    by Equal rest = (is, was.1)
    by Greater rest = (was.0, rest)

  -- or isn't, where memory is refused
  pub kept_passed : {A E : Type 0} (r : Result A E) (cmp : K → K → Ordering) (old new : List (K × PassedWord)) (k : K) (p : PassedWord)
      → OnOk r (new ≡ insert_entry cmp old k p) → OnErr r (new ≡ old) → IsPassed g gone p → ArePassed g gone (values_of old) → ArePassed g gone (values_of new)
  kept_passed (Ok x) cmp old new k p ok err is was = subst (λ (es : List (K × PassedWord)). ArePassed g gone (values_of es)) (sym ok) (put_passed cmp old k p is was)
  kept_passed (Err e) cmp old new k p ok err is was = subst (λ (es : List (K × PassedWord)). ArePassed g gone (values_of es)) (sym err) was

-- ---- one transaction

-- its log does what takes nothing of the globals
pub open_same : (o : Ongoing) (old new : Logged) (ps : List PassedWord) → record { log = old; passed = ps } ≡ o → ((g : Stamped) → Follows old g → Follows new g)
    → gone_by new.transaction.accesses ≡ gone_by old.transaction.accesses → (g : Stamped) → IsOpenOn g o → IsOpenOn g (record { log = new; passed = ps })
open_same o old new ps is follows same g was =
    let old_is : IsOpenOn g (record { log = old; passed = ps }) = subst (λ (x : Ongoing). IsOpenOn g x) (sym is) was in
    record {
      follows = follows g old_is.follows;
      passed = subst (λ (gone : Content). ArePassed g gone ps) (sym same) old_is.passed;
    }

-- a try of names
pub gone_tried : {E : Type 0} (L : Type 0) (r : Result Taken E) (t new : Transaction) (names : List Name) → IfOk r (λ taken. new ≡ gained_by_try t names taken) → OnErr r (L × (new ≡ t))
    → gone_by new.accesses ≡ gone_by t.accesses
gone_tried L (Ok takes.Got) t new names ok err = ap (λ (u : Transaction). gone_by u.accesses) ok
gone_tried L (Ok (takes.Busy holder name)) t new names ok err = ap (λ (u : Transaction). gone_by u.accesses) ok
gone_tried L (Ok takes.Limit) t new names ok err = ap (λ (u : Transaction). gone_by u.accesses) ok
gone_tried L (Err e) t new names ok err = ap (λ (u : Transaction). gone_by u.accesses) err.1

-- an unlock
pub gone_waiting : {A E : Type 0} (r : Result A E) (t new : Transaction) (u : Unlock) → OnOk r (new ≡ with_unlock t u) → OnErr r (new ≡ t)
    → gone_by new.accesses ≡ gone_by t.accesses
gone_waiting (Ok x) t new u ok err = ap (λ (k : Transaction). gone_by k.accesses) ok ∙ unlock_gone t u
gone_waiting (Err e) t new u ok err = ap (λ (k : Transaction). gone_by k.accesses) err

-- an access in it, after which more words may be kept
pub open_told : {A E : Type 0} (r : Result A E) (g : Stamped) (o : Ongoing) (old new : Logged) (ps qs : List PassedWord) (a : Access) → record { log = old; passed = ps } ≡ o
    → OnOk r (new.transaction ≡ after_told old.transaction g.content a) → OnErr r (new.transaction ≡ old.transaction) → (Follows old g → Follows new g)
    → (ArePassed g (gone_by new.transaction.accesses) ps → ArePassed g (gone_by new.transaction.accesses) qs) → IsOpenOn g o → IsOpenOn g (record { log = new; passed = qs })
open_told r g o old new ps qs a is ok err follows further was =
    let had : IsOpenOn g (record { log = old; passed = ps }) = subst (λ (x : Ongoing). IsOpenOn g x) (sym is) was in
    record {
      follows = follows had.follows;
      passed = further (all_more g (gone_by old.transaction.accesses) (gone_by new.transaction.accesses) ps (stays_bare r g old.transaction new.transaction a ok err) had.passed);
    }

-- what it passed over of one word
pub word_passed : {K : Type 0} (g : Stamped) (o : Ongoing) (log : Logged) (test : K → Bool) (es : List (K × PassedWord)) (p : PassedWord)
    → record { log = log; passed = values_of es } ≡ o → lookup test es ≡ Some p → IsOpenOn g o → IsPassed g (gone_by log.transaction.accesses) p
word_passed g o log test es p is found was =
    let had : IsOpenOn g (record { log = log; passed = values_of es }) = subst (λ (x : Ongoing). IsOpenOn g x) (sym is) was in
    found_passed g (gone_by log.transaction.accesses) test es p found had.passed

-- nothing was passed over, and nothing was read
pub open_new : (g : Stamped) (log : Logged) (ps : List PassedWord) → log.stamps ≡ [] → ps ≡ [] → IsOpenOn g (record { log = log; passed = ps })
open_new g log ps stamps none = record {
  follows = λ i e s at kept. absurd (let no : ⊥ = cc in no);
  passed = subst (λ (qs : List PassedWord). ArePassed g (gone_by log.transaction.accesses) qs) (sym none) tt;
}

-- ---- all rows

pub open_on : (g h : Stamped) (o : Option Ongoing) → T (is_sorted name_cmp g.content) → T (is_sorted name_cmp h.content) → Rises g h → IsOpen g o → IsOpen h o
open_on g h None hg hh rises was = tt
open_on g h (Some o) hg hh rises was = record {
  follows = follows_on g h o.log hg hh rises was.follows;
  passed = all_on g h (gone_by o.log.transaction.accesses) o.passed rises was.passed;
}

pub rows_on : (g h : Stamped) (os : List (Option Ongoing)) → T (is_sorted name_cmp g.content) → T (is_sorted name_cmp h.content) → Rises g h → AreOpen g os → AreOpen h os
rows_on g h [] hg hh rises was = tt
rows_on g h (o ∷ os) hg hh rises was = (open_on g h o hg hh rises was.0, rows_on g h os hg hh rises was.1)

pub row_at : (g : Stamped) (os : List (Option Ongoing)) (k : ℕ) → AreOpen g os → IsOpen g (slice_index_or os k None)
row_at g [] zero was = tt
row_at g [] (suc k) was = tt
row_at g (o ∷ os) zero was = was.0
row_at g (o ∷ os) (suc k) was = row_at g os k was.1

pub row_there : (g : Stamped) (os : List (Option Ongoing)) (k : ℕ) (o : Option Ongoing) → k < length os → o ≡ get_or os k o → AreOpen g os → IsOpen g o
row_there g [] k o below at was = absurd (let no : ⊥ = omega (arith, below) in no)
row_there g (x ∷ os) zero o below at was = subst (λ (y : Option Ongoing). IsOpen g y) (sym at) was.0
row_there g (x ∷ os) (suc k) o below at was = row_there g os k o (omega (arith, below)) at was.1

pub row_set : (g : Stamped) (os : List (Option Ongoing)) (k : ℕ) (o : Option Ongoing) → IsOpen g o → AreOpen g os → AreOpen g (slice_set os k o)
row_set g [] zero o is was = tt
row_set g [] (suc k) o is was = tt
row_set g (x ∷ os) zero o is was = (is, was.1)
row_set g (x ∷ os) (suc k) o is was = (was.0, row_set g os k o is was.1)

pub row_more : (g : Stamped) (os : List (Option Ongoing)) → AreOpen g os → AreOpen g (os ++ None ∷ [])
row_more g [] was = (tt, tt)
row_more g (o ∷ os) was = (was.0, row_more g os was.1)

pub rows_fewer : (g : Stamped) (os : List (Option Ongoing)) (k : ℕ) → AreOpen g os → AreOpen g (take k os)
rows_fewer g os zero was = tt
rows_fewer g [] (suc k) was = tt
rows_fewer g (o ∷ os) (suc k) was = (was.0, rows_fewer g os k was.1)
