-- What was taken is given back where the transaction can't note it; and the unlocks that waited, one more.
use Rattle.std.proofs.Common.{◌≡◌, ℕ, ◌+◌, ◌<◌, Bool, true, false, List, [], ◌∷◌, ◌++◌, length, get_or, take, Option, Some, None, refl, sym, ap, ◌∙◌, subst}
use Rattle.std.proofs.lemmas.List.{take_more}
use Rattle.mj_subs.specs.Name.{Name}
use Rattle.mj_locktab.specs.declared.hold.Hold.{Hold}
use Rattle.mj_locktab.specs.declared.taken.Taken.TheVariants as takes
use Rattle.mj_locktab.specs.Locks.{Locks, IsLockTable, is_past_limit}
use Rattle.mj_locktab.specs.Changes.{after_take, after_give}
use Rattle.mj_locktab.specs.Tries.{conflict_of, try_answer, left, outcome_of, after_try}
use Rattle.mj_locktab.proofs.Counts.{given_back}
use Rattle.mj_globs.specs.Stamps.{Stamped}
use Rattle.mj_txlog.specs.declared.entry.Entry.{Entry}
use Rattle.mj_txlog.specs.declared.entry.Entry.TheVariants as entry
use Rattle.mj_txlog.specs.Accesses.{Accesses, Transaction, with_gained}
use Rattle.mj_txlog.specs.Logged.{Logged}
use Rattle.mj_txlog.specs.Follows.{AreFollowing, Follows}
use Rattle.mj_txn.specs.Closing.{unlocked, unlocked_by}

pub given_after : (locks : Locks) (job : ℕ) (names : List Name) → IsLockTable locks → outcome_of locks job names ≡ takes.Got
    → after_give (after_try locks job names) job names ≡ locks
given_after locks job names kept got = by (conflict_of locks job names) (is_past_limit (after_take locks job names) job) got
  where
    by : (o : Option (Hold × ℕ)) (b : Bool) → try_answer o b ≡ takes.Got → after_give (left o b locks (after_take locks job names)) job names ≡ locks
    by (Some e) b h = absurd cc
    by None true h = absurd cc
    by None false h = given_back locks job names kept.in_order kept.counted

-- what was gained is no access
pub gained_follows : (g : Stamped) (old new : Logged) (names : List Name) → new.transaction ≡ with_gained old.transaction names → new.stamps ≡ old.stamps → Follows old g → Follows new g
gained_follows g old new names is stamps h =
    subst (λ (t : Transaction). AreFollowing g t.accesses new.stamps) (sym is) (subst (λ (ss : List ℕ). AreFollowing g old.transaction.accesses ss) (sym stamps) h)

unlocked_more : (locks : Locks) (job : ℕ) (xs : Accesses) (e : Entry) → unlocked locks job (xs ++ e ∷ []) ≡ unlocked (unlocked locks job xs) job (e ∷ [])
unlocked_more locks job [] e = refl
unlocked_more locks job (entry.Access a r ∷ xs) e = unlocked_more locks job xs e
unlocked_more locks job (entry.Unlock u ∷ xs) e = unlocked_more (unlocked_by locks job u) job xs e

-- the unlocks so far, and the next
pub unlocked_next : (locks : Locks) (job : ℕ) (es : Accesses) (i : ℕ) (e : Entry) → i < length es → e ≡ get_or es i e
    → unlocked locks job (take (i + 1) es) ≡ unlocked (unlocked locks job (take i es)) job (e ∷ [])
unlocked_next locks job es i e lt here =
    ap (unlocked locks job) (take_more es i e lt ∙ ap (λ (y : Entry). take i es ++ y ∷ []) (sym here)) ∙ unlocked_more locks job (take i es) e
