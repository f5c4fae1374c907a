-- A program's asks along a log, and what a log has of accesses.
use Rattle.std.proofs.Common.{◌≡◌, ◌⊎◌, inl, inr, ℕ, suc, ◌+◌, ◌-◌, ◌≤◌, Bool, true, false, cond, List, [], ◌∷◌, ◌++◌, length, Option, Some, None, refl, sym, ap, ◌∙◌, arith, append_assoc, append-nil}
use Rattle.std.specs.Prelude.{⊤, ◌||◌, nat_lt}
use Rattle.std.specs.List.{cons_option}
use Rattle.mj_store.specs.Questions.{Content}
use Rattle.mj_store.specs.Runs.{answer_of, after_access, after_accesses}
use Rattle.mj_store.specs.declared.access.Access.{Access}
use Rattle.mj_store.specs.declared.access.Access.TheVariants as access
use Rattle.mj_store.specs.declared.access.Answer.{Answer}
use Rattle.mj_ask.specs.declared.ask.Ask.{Ask}
use Rattle.mj_ask.specs.declared.ask.Ask.TheVariants as asks
use Rattle.mj_ask.specs.declared.ask.SharedAsk.TheVariants as shared_asks
use Rattle.mj_ask.specs.declared.ask.Reply.{Reply}
use Rattle.mj_ask.specs.declared.ask.Reply.TheVariants as replies
use Rattle.mj_ask.specs.Keeping.{is_limit}
use Rattle.mj_semantics.specs.State.{Locals, Place}
use Rattle.mj_semantics.specs.Outcome.{Needs, More}
use Rattle.mj_txlog.specs.Accesses.{Accesses, is_write, seen}
use Rattle.mj_txlog.specs.declared.entry.Entry.{Entry}
use Rattle.mj_txlog.specs.declared.entry.Entry.TheVariants as entry
use Rattle.mj_txn.specs.Closing.{is_local_write}
use Rattle.mj_txlog.proofs.Alike.{seen_more}
use Rattle.mj_serial.specs.Programs.{Log, Program, IsSteady, Asks, AreAsked}
use Rattle.mj_serial.specs.Blocks.{entry_of, accesses_of}
use Rattle.mj_serial.specs.Alone.{used_after, told_alone, other_of, others_of}

-- ---- asks

pub asked_more : (p : Program) (before es : Log) (a : Ask) (r : Reply)
    → AreAsked p before es → Asks p (before ++ es) a → AreAsked p before (es ++ (a, r) ∷ [])
asked_more p before [] a r f k = ((rw append-nil at k), tt)
asked_more p before (e ∷ es) a r f k = (f.0, asked_more p (before ++ e ∷ []) es a r f.1 (rw append_assoc k))

pub asked_front : (p : Program) (before es more : Log) → AreAsked p before (es ++ more) → AreAsked p before es
asked_front p before [] more f = tt
asked_front p before (e ∷ es) more f = (f.0, asked_front p (before ++ e ∷ []) es more f.1)

pub asked_next : (p : Program) (before es : Log) (a : Ask) (r : Reply) (more : Log) → AreAsked p before (es ++ (a, r) ∷ more) → Asks p (before ++ es) a
asked_next p before [] a r more f = rw append-nil f.0
asked_next p before (e ∷ es) a r more f = rw append_assoc at (asked_next p (before ++ e ∷ []) es a r more f.1)

-- an ask that needs some turns is made with more
pub still_needs : (p : Program) → IsSteady p → (n m : ℕ) (rs : List Reply) (a : Ask) (locals : Locals) (places : List Place) → n ≤ m
    → p n rs ≡ Needs a locals places → p m rs ≡ Needs a locals places
still_needs p st n m rs a locals places le e = by_cases (st n (m - n) rs)
  where
    plus : n + (m - n) ≡ m
    plus = omega arith

    by_cases : (p n rs ≡ More) ⊎ (p (n + (m - n)) rs ≡ p n rs) → p m rs ≡ Needs a locals places
    by_cases (inl x) = absurd cc
    by_cases (inr x) = ap (λ k. p k rs) (sym plus) ∙ x ∙ e

-- ---- accesses

-- how many were taken after a log
abbrev pub used_all : ℕ → Log → ℕ
used_all u [] = u
used_all u (e ∷ es) = used_all (used_after u e.0 e.1) es

-- An access that was answered so where so many were taken is answered so alone, on each content where it has its answer if it is a read; and
-- if it passed no limit, there was room for it, and it was answered on some content
pub record IsKept (u : ℕ) (a : Access) (v : Answer) : Type 0 where
  pub by : (c : Content) → (is_write a ≡ false → is_limit v ≡ false → answer_of a c ≡ v) → told_alone u c a ≡ v
  pub room : is_limit v ≡ false → (is_local_write a || nat_lt u 65536) ≡ true
  pub answered : is_limit v ≡ false → (c : Content) × (v ≡ answer_of a c)

-- an entry of an open transaction
abbrev pub KeptAt : ℕ → Ask → Reply → Type 0
KeptAt u (asks.Shared (shared_asks.Access a)) r = (v : Answer) × (r ≡ replies.Answer v) × IsKept u a v
KeptAt u (asks.Shared shared_asks.Commit) r = ⊥
KeptAt u (asks.Shared shared_asks.Rollback) r = ⊥
KeptAt u (asks.Shared (shared_asks.Halt fault)) r = ⊥
KeptAt u _ r = ⊤

abbrev pub Kept : ℕ → Log → Type 0
Kept u [] = ⊤
Kept u (e ∷ es) = KeptAt u e.0 e.1 × Kept (used_after u e.0 e.1) es

pub kept_more : (u : ℕ) (es : Log) (a : Ask) (r : Reply) → Kept u es → KeptAt (used_all u es) a r → Kept u (es ++ (a, r) ∷ [])
kept_more u [] a r k h = (h, tt)
kept_more u (e ∷ es) a r k h = (k.0, kept_more (used_after u e.0 e.1) es a r k.1 h)

pub kept_front : (u : ℕ) (es more : Log) → Kept u (es ++ more) → Kept u es
kept_front u [] more k = tt
kept_front u (e ∷ es) more k = (k.0, kept_front (used_after u e.0 e.1) es more k.1)

pub kept_next : (u : ℕ) (es : Log) (a : Ask) (r : Reply) (more : Log) → Kept u (es ++ (a, r) ∷ more) → KeptAt (used_all u es) a r
kept_next u [] a r more k = k.0
kept_next u (e ∷ es) a r more k = kept_next (used_after u e.0 e.1) es a r more k.1

cons_append : (o : Option Entry) (xs ys : Accesses) → cons_option o (xs ++ ys) ≡ cons_option o xs ++ ys
cons_append None xs ys = refl
cons_append (Some e) xs ys = refl

pub accesses_append : (xs ys : Log) → accesses_of (xs ++ ys) ≡ accesses_of xs ++ accesses_of ys
accesses_append [] ys = refl
accesses_append (e ∷ xs) ys = ap (cons_option (entry_of e.0 e.1)) (accesses_append xs ys) ∙ cons_append (entry_of e.0 e.1) (accesses_of xs) (accesses_of ys)

pub others_append : (xs ys : Log) → others_of (xs ++ ys) ≡ others_of xs ++ others_of ys
others_append [] ys = refl
others_append (e ∷ xs) ys =
    ap (λ l. other_of e.0 e.1 ++ l) (others_append xs ys) ∙ sym (append_assoc (other_of e.0 e.1) (others_of xs) (others_of ys))

used_one : (u : ℕ) (o : Option Entry) (xs : Accesses) → elim o as (λ _. ℕ) [ None ↦ u | Some e ↦ suc u ] + length xs ≡ u + length (cons_option o xs)
used_one u None xs = refl
used_one u (Some e) xs = omega arith

pub used_is : (u : ℕ) (es : Log) → used_all u es ≡ u + length (accesses_of es)
used_is u [] = omega arith
used_is u (e ∷ es) = used_is (used_after u e.0 e.1) es ∙ used_one u (entry_of e.0 e.1) (accesses_of es)

-- ---- what is seen

-- a question leaves the content
pub leaves : (a : Access) (c : Content) → is_write a ≡ false → after_access a c ≡ c
leaves (access.Set n v) c e = absurd cc
leaves (access.Kill n) c e = absurd cc
leaves (access.Put n nodes) c e = absurd cc
leaves _ c e = refl

pub one_seen : (c : Content) (a : Access) (v : Answer) → seen c (entry.Access a v ∷ []) ≡ after_access a c
one_seen c a v = by (is_write a) refl
  where
    by : (b : Bool) → is_write a ≡ b → after_accesses (cond b (a ∷ []) []) c ≡ after_access a c
    by true e = refl
    by false e = sym (leaves a c e)

-- the transaction's own writes with one more access
pub seen_access : (g : Content) (earlier : Accesses) (a : Access) (v : Answer) → seen g (earlier ++ entry.Access a v ∷ []) ≡ after_access a (seen g earlier)
seen_access g earlier a v = seen_more g earlier (entry.Access a v) ∙ one_seen (seen g earlier) a v
