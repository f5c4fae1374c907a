-- A program that runs alone makes the asks that it made.
use Rattle.std.proofs.Common.{Option, ◌≡◌, ℕ, zero, suc, ◌+◌, ◌≤◌, Bool, true, false, List, [], ◌∷◌, ◌++◌, length, max, Some, None, refl, sym, ap, ◌∙◌, subst, arith, append_assoc, append-nil}
use Rattle.std.specs.Prelude.{◌||◌, ◌&&◌, not, if◌then◌else◌}
use Rattle.std.specs.List.{cons_option}
use Rattle.mj_store.specs.Questions.{Content}
use Rattle.mj_store.specs.Runs.{name_of, after_access}
use Rattle.mj_store.specs.declared.access.Access.{Access}
use Rattle.mj_store.specs.declared.access.Answer.{Answer}
use Rattle.mj_ask.specs.declared.ask.Ask.{Ask}
use Rattle.mj_ask.specs.declared.ask.Ask.TheVariants as asks
use Rattle.mj_ask.specs.declared.ask.SharedAsk.TheVariants as shared_asks
use Rattle.mj_ask.specs.declared.ask.Reply.{Reply}
use Rattle.mj_ask.specs.declared.ask.Reply.TheVariants as replies
use Rattle.mj_ask.specs.Keeping.{is_limit}
use Rattle.mj_semantics.specs.State.{Locals, Place}
use Rattle.mj_semantics.specs.Outcome.{Needs}
use Rattle.mj_txlog.specs.Accesses.{Accesses, is_write, seen}
use Rattle.mj_txlog.specs.declared.entry.Entry.{Entry}
use Rattle.mj_txlog.specs.declared.entry.Entry.TheVariants as entry
use Rattle.mj_txlog.specs.declared.entry.Unlock.{Unlock}
use Rattle.mj_txlog.proofs.Alike.{seen_more}
use Rattle.mj_txn.specs.Commits.{Hold}
use Rattle.mj_txn.specs.Closing.{is_local_write}
use Rattle.mj_sys.specs.Transactions.{unlock_of}
use Rattle.mj_serial.specs.Programs.{Log, replies_of, Program, IsSteady, AreAsked}
use Rattle.mj_serial.specs.Blocks.{is_taken, unlock_entry, accesses_of}
use Rattle.mj_serial.specs.Alone.{Desk, used_after, told_alone, access_alone, serve_alone, in_front, go, others_of}
use Rattle.mj_serial.proofs.Logs.{still_needs, used_all, IsKept, Kept, seen_access}

-- what serves alone gives these replies to these asks, and is then the other
abbrev pub Serves : Desk → Log → Desk → Type 0
Serves d [] last = d ≡ last
Serves d (e ∷ es) last = (mid : Desk) × (serve_alone e.0 d ≡ Some (e.1, mid)) × Serves mid es last

abbrev pub desk : ℕ → List Reply → Content → Desk
desk u others g = record { used = u; others = others; globals = g }

-- the globals after an access alone
abbrev pub left_alone : Access → Answer → Content → Content
left_alone a v c = if is_taken a v then after_access a c else c

-- an access that is told this
pub step_access : (u : ℕ) (others : List Reply) (c : Content) (a : Access) (v : Answer) → told_alone u c a ≡ v
    → serve_alone (asks.Shared (shared_asks.Access a)) (desk u others c) ≡ Some
    (replies.Answer v, desk (used_after u (asks.Shared (shared_asks.Access a)) (replies.Answer v)) others (left_alone a v c))
step_access u others c a v e = ap (λ w. access_alone a w (desk u others c)) e

both_false : (a b : Bool) → (a || b) ≡ true → a ≡ false → b ≡ true
both_false true b e f = absurd cc
both_false false b e f = e

local_writes : (a b : Bool) → a ≡ false → (a && b) ≡ true → ⊥
local_writes true b e f = cc
local_writes false b e f = cc

-- an access that wasn't taken is told the same on each content
untaken : (u : ℕ) (a : Access) (v : Answer) (c : Content) → (is_limit v || is_local_write a) ≡ true → IsKept u a v → told_alone u c a ≡ v
untaken u a v c e k = k.by c (λ w l. absurd (local_writes (is_write a) (not (name_of a).global) w (both_false (is_limit v) (is_local_write a) e l)))

-- an entry more before the rest
on_from : (u last : ℕ) (es : Log) (more : List Reply) (g c : Content) (earlier : Accesses) (e : Entry) → seen g (earlier ++ e ∷ []) ≡ c
    → Serves (desk u (others_of es ++ more) (seen g (earlier ++ e ∷ []))) es (desk last more (seen g ((earlier ++ e ∷ []) ++ accesses_of es)))
    → Serves (desk u (others_of es ++ more) c) es (desk last more (seen g (earlier ++ e ∷ accesses_of es)))
on_from u last es more g c earlier e is s =
    subst (λ m. Serves (desk u (others_of es ++ more) m) es (desk last more (seen g (earlier ++ e ∷ accesses_of es)))) is
    (subst (λ l. Serves (desk u (others_of es ++ more) (seen g (earlier ++ e ∷ []))) es (desk last more (seen g l)))
    (append_assoc earlier (e ∷ []) (accesses_of es)) s)

-- what is counted of it, and what it leaves
used_by : (u : ℕ) (a : Access) (v : Answer) (b : Bool) → (is_limit v || is_local_write a) ≡ b
    → used_after u (asks.Shared (shared_asks.Access a)) (replies.Answer v) ≡ elim (if not b then Some (entry.Access a v) else None) as (λ _. ℕ) [ None ↦ u | Some e ↦ suc u ]
used_by u a v b e = ap (λ x. elim (if not x then Some (entry.Access a v) else None) as (λ _. ℕ) [ None ↦ u | Some e ↦ suc u ]) e

left_by : (a : Access) (v : Answer) (c : Content) (b : Bool) → (is_limit v || is_local_write a) ≡ b → left_alone a v c ≡ (if not b then after_access a c else c)
left_by a v c b e = ap (λ x. if not x then after_access a c else c) e

stepped : (u w : ℕ) (others : List Reply) (c d : Content) (a : Access) (v : Answer) → told_alone u c a ≡ v
    → used_after u (asks.Shared (shared_asks.Access a)) (replies.Answer v) ≡ w → left_alone a v c ≡ d
    → serve_alone (asks.Shared (shared_asks.Access a)) (desk u others c) ≡ Some (replies.Answer v, desk w others d)
stepped u w others c d a v e f h =
    step_access u others c a v e ∙ ap (λ x. Some (replies.Answer v, desk x others (left_alone a v c))) f ∙ ap (λ m. Some (replies.Answer v, desk w others m)) h

-- an access and the rest
serves_access : (u : ℕ) (a : Access) (v : Answer) (es : Log) (more : List Reply) (g : Content) (earlier : Accesses) (b : Bool)
    → (is_limit v || is_local_write a) ≡ b → IsKept u a v
    → ((w : ℕ) (before : Accesses) → w ≡ used_after u (asks.Shared (shared_asks.Access a)) (replies.Answer v) → Hold g before (accesses_of es)
    → Serves (desk w (others_of es ++ more) (seen g before)) es (desk (used_all w es) more (seen g (before ++ accesses_of es))))
    → Hold g earlier (cons_option (if not b then Some (entry.Access a v) else None) (accesses_of es))
    → (mid : Desk) × (serve_alone (asks.Shared (shared_asks.Access a)) (desk u (others_of es ++ more) (seen g earlier)) ≡ Some (replies.Answer v, mid))
    × Serves mid es (desk (used_all (used_after u (asks.Shared (shared_asks.Access a)) (replies.Answer v)) es) more
    (seen g (earlier ++ cons_option (if not b then Some (entry.Access a v) else None) (accesses_of es))))
serves_access u a v es more g earlier true e k rest h = (
  desk u (others_of es ++ more) (seen g earlier),
  stepped u u (others_of es ++ more) (seen g earlier) (seen g earlier) a v (untaken u a v (seen g earlier) e k) (used_by u a v true e) (left_by a v (seen g earlier) true e),
  subst (λ w. Serves (desk u (others_of es ++ more) (seen g earlier)) es (desk (used_all w es) more (seen g (earlier ++ accesses_of es)))) (sym (used_by u a v true e))
      (rest u earlier (sym (used_by u a v true e)) h),
)
serves_access u a v es more g earlier false e k rest h = (
  desk (suc u) (others_of es ++ more) (after_access a (seen g earlier)),
  stepped u (suc u) (others_of es ++ more) (seen g earlier) (after_access a (seen g earlier)) a v (k.by (seen g earlier) (λ w l. h.0 w))
      (used_by u a v false e) (left_by a v (seen g earlier) false e),
  subst (λ w. Serves (desk (suc u) (others_of es ++ more) (after_access a (seen g earlier))) es (desk (used_all w es) more (seen g (earlier ++ entry.Access a v ∷ accesses_of es))))
      (sym (used_by u a v false e))
      (on_from (suc u) (used_all (suc u) es) es more g (after_access a (seen g earlier)) earlier (entry.Access a v) (seen_access g earlier a v)
      (rest (suc u) (earlier ++ entry.Access a v ∷ []) (sym (used_by u a v false e)) h.1)),
)

-- how many were taken behind an entry
abbrev counted : ℕ → Option Entry → ℕ
counted u o = elim o as (λ _. ℕ) [ None ↦ u | Some e ↦ suc u ]

-- An ask that is no access, and the rest: an unlock that waits changes nothing that is seen
serves_other : (u : ℕ) (o : Option Unlock) (r : Reply) (es : Log) (more : List Reply) (g : Content) (earlier : Accesses)
    → ((w : ℕ) (before : Accesses) → Kept w es → Hold g before (accesses_of es)
    → Serves (desk w (others_of es ++ more) (seen g before)) es (desk (used_all w es) more (seen g (before ++ accesses_of es))))
    → Kept (counted u (unlock_entry o r)) es → Hold g earlier (cons_option (unlock_entry o r) (accesses_of es))
    → Serves (desk (counted u (unlock_entry o r)) (others_of es ++ more) (seen g earlier)) es
    (desk (used_all (counted u (unlock_entry o r)) es) more (seen g (earlier ++ cons_option (unlock_entry o r) (accesses_of es))))
serves_other u None r es more g earlier rest k h = rest u earlier k h
serves_other u (Some v) replies.Done es more g earlier rest k h =
    on_from (suc u) (used_all (suc u) es) es more g (seen g earlier) earlier (entry.Unlock v) (seen_more g earlier (entry.Unlock v)) (rest (suc u) (earlier ++ entry.Unlock v ∷ []) k h.1)
serves_other u (Some v) r es more g earlier rest k h = rest u earlier k h

-- a log whose accesses hold is served so
pub serves : (u : ℕ) (es : Log) (more : List Reply) (g : Content) (earlier : Accesses) → Kept u es → Hold g earlier (accesses_of es)
    → Serves (desk u (others_of es ++ more) (seen g earlier)) es (desk (used_all u es) more (seen g (earlier ++ accesses_of es)))
serves u [] more g earlier k h = rw append-nil refl
serves u ((asks.Shared (shared_asks.Access a), r) ∷ es) more g earlier k h =
    subst (λ s. Serves (desk u (others_of es ++ more) (seen g earlier)) ((asks.Shared (shared_asks.Access a), s) ∷ es)
    (desk (used_all u ((asks.Shared (shared_asks.Access a), s) ∷ es)) more (seen g (earlier ++ accesses_of ((asks.Shared (shared_asks.Access a), s) ∷ es)))))
    (sym k.0.1)
    (serves_access u a k.0.0 es more g earlier (is_limit k.0.0 || is_local_write a) refl k.0.2
    (λ w before is hold. serves w es more g before
    (subst (λ x. Kept x es) (sym is) (subst (λ s. Kept (used_after u (asks.Shared (shared_asks.Access a)) s) es) k.0.1 k.1)) hold)
    (subst (λ s. Hold g earlier (accesses_of ((asks.Shared (shared_asks.Access a), s) ∷ es))) k.0.1 h))
serves u (((asks.Shared shared_asks.Commit), r) ∷ es) more g earlier k h = absurd k.0
serves u (((asks.Shared shared_asks.Rollback), r) ∷ es) more g earlier k h = absurd k.0
serves u ((asks.Shared (shared_asks.Halt fault), r) ∷ es) more g earlier k h = absurd k.0
serves u ((a, r) ∷ es) more g earlier k h = (
  desk (used_after u a r) (others_of es ++ more) (seen g earlier),
  refl,
  serves_other u (unlock_of a) r es more g earlier (λ w before kept hold. serves w es more g before kept hold) k.1 h,
)

-- one more ask than in the log, and so on
abbrev pub past : Log → ℕ → ℕ
past [] k = k
past (e ∷ es) k = suc (past es k)

pub past_is : (es : Log) (k : ℕ) → past es k ≡ length es + k
past_is [] k = omega arith
past_is (e ∷ es) k = omega (arith, past_is es k)

pub go_one : (p : Program) (n k : ℕ) (before : Log) (d mid : Desk) (a : Ask) (r : Reply) (locals : Locals) (places : List Place)
    → p n (replies_of before) ≡ Needs a locals places → serve_alone a d ≡ Some (r, mid)
    → go p n (suc k) before d ≡ in_front ((a, r) ∷ []) (go p n k (before ++ (a, r) ∷ []) mid)
go_one p n k before d mid a r locals places e s = rw (e, go) (rw (s, go) refl)

pub go_ends : (p : Program) (n k : ℕ) (before : Log) (d : Desk) (locals : Locals) (places : List Place)
    → p n (replies_of before) ≡ Needs (asks.Shared shared_asks.Commit) locals places
    → go p n k before d ≡ record { log = []; globals = d.globals; stop = Needs (asks.Shared shared_asks.Commit) locals places }
go_ends p n zero before d locals places e = rw e refl
go_ends p n (suc k) before d locals places e = rw (e, go) (rw e refl)

-- along the log, the program goes as it went
pub record GoesAlong (p : Program) (before es : Log) (d last : Desk) : Type 0 where
  pub turns : ℕ
  pub by : (n : ℕ) → turns ≤ n → (k : ℕ) → go p n (past es k) before d ≡ in_front es (go p n k (before ++ es) last)

pub goes_along : (p : Program) → IsSteady p → (before es : Log) (d last : Desk) → AreAsked p before es → Serves d es last → GoesAlong p before es d last
goes_along p st before [] d last f s = record { turns = 0; by = λ n le k. rw (append-nil, s) refl }
goes_along p st before (e ∷ es) d last f s = one (goes_along p st (before ++ e ∷ []) es s.0 last f.1 s.2)
  where
    one : GoesAlong p (before ++ e ∷ []) es s.0 last → GoesAlong p before (e ∷ es) d last
    one ih = record {
      turns = max f.0.0 ih.turns;
      by = λ n le k.
          let l : f.0.0 ≤ n = omega arith in
          let m : ih.turns ≤ n = omega arith in
          go_one p n (past es k) before d s.0 e.0 e.1 f.0.1 f.0.2 (still_needs p st f.0.0 n (replies_of before) e.0 f.0.1 f.0.2 l f.0.3) s.1
          ∙ ap (in_front (e ∷ [])) (ih.by n m k)
          ∙ ap (λ b. in_front (e ∷ es) (go p n k b last)) (append_assoc before (e ∷ []) es);
    }
