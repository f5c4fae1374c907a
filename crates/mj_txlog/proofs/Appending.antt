-- What each call of an open transaction appends, told from what it kept.
use Rattle.std.proofs.Common.{◌≡◌, ℕ, true, false, List, [], ◌∷◌, ◌++◌, length, Result, Ok, Err, sym, ◌∙◌, subst, arith}
use Rattle.std.specs.Prelude.{OnOk, OnErr}
use Rattle.mj_store.specs.Runs.{name_of, answer_of}
use Rattle.mj_store.specs.declared.access.Access.{Access}
use Rattle.mj_store.specs.declared.access.Answer.{Answer}
use Rattle.mj_globs.specs.Stamps.{Stamped, stamp_at}
use Rattle.mj_txlog.specs.declared.entry.Entry.{Entry}
use Rattle.mj_txlog.specs.declared.entry.Entry.TheVariants as entry
use Rattle.mj_txlog.specs.declared.entry.Unlock.{Unlock}
use Rattle.mj_txlog.specs.Accesses.{is_write, seen, Transaction, with_entry}
use Rattle.mj_txlog.specs.Logged.{Logged}
use Rattle.mj_txlog.specs.Follows.{FollowsAt, AreFollowing, Follows}
use Rattle.mj_txlog.proofs.Following.{following_more}

-- where nothing changed, it follows what it followed
pub same_follows : (g : Stamped) (old new : Logged) → new.transaction ≡ old.transaction → new.stamps ≡ old.stamps → Follows old g → Follows new g
same_follows g old new is stamps h =
    subst (λ (t : Transaction). AreFollowing g t.accesses new.stamps) (sym is) (subst (λ (ss : List ℕ). AreFollowing g old.transaction.accesses ss) (sym stamps) h)

-- one entry more, which follows too
pub entry_follows : (g : Stamped) (old new : Logged) (e : Entry) (s : ℕ) → length old.stamps ≡ length old.transaction.accesses → FollowsAt g old.transaction.accesses e s
    → new.transaction ≡ with_entry old.transaction e → new.stamps ≡ old.stamps ++ s ∷ [] → Follows old g → Follows new g
entry_follows g old new e s len last is stamps h =
    subst (λ (t : Transaction). AreFollowing g t.accesses new.stamps) (sym is)
    (subst (λ (ss : List ℕ). AreFollowing g (old.transaction.accesses ++ e ∷ []) ss) (sym stamps) (following_more g old.transaction.accesses old.stamps e s len h last))

-- a write follows whatever globals
pub write_follows : (g : Stamped) (old new : Logged) (a : Access) (r : Answer) → length old.stamps ≡ length old.transaction.accesses → is_write a ≡ true
    → new.transaction ≡ with_entry old.transaction (entry.Access a r) → new.stamps ≡ old.stamps ++ 0 ∷ [] → Follows old g → Follows new g
write_follows g old new a r len write is stamps h =
    entry_follows g old new (entry.Access a r) 0 len (λ read. absurd (let no : true ≡ false = sym write ∙ read in let none : ⊥ = cc in none)) is stamps h

-- and so does an unlock
pub free_follows : (g : Stamped) (old new : Logged) (u : Unlock) → length old.stamps ≡ length old.transaction.accesses → new.transaction ≡ with_entry old.transaction (entry.Unlock u)
    → new.stamps ≡ old.stamps ++ 0 ∷ [] → Follows old g → Follows new g
free_follows g old new u len is stamps h = entry_follows g old new (entry.Unlock u) 0 len tt is stamps h

-- a read follows the globals on which it was answered, with the stamp of its word there; one that was refused changed nothing
pub read_follows : {X E : Type 0} (x : Result X E) (g : Stamped) (old new : Logged) (a : Access) (r : Answer) (s : ℕ) → length old.stamps ≡ length old.transaction.accesses
    → r ≡ answer_of a (seen g.content old.transaction.accesses) → s ≡ stamp_at g.stamps (name_of a) → OnOk x (new.transaction ≡ with_entry old.transaction (entry.Access a r))
    → OnOk x (new.stamps ≡ old.stamps ++ s ∷ []) → OnErr x (new.transaction ≡ old.transaction) → OnErr x (new.stamps ≡ old.stamps) → Follows old g → Follows new g
read_follows (Ok x) g old new a r s len told stamp is stamps gone same h =
    entry_follows g old new (entry.Access a r) s len (λ read. record { behind = omega (arith, stamp); still = λ _. sym told }) is stamps h
read_follows (Err e) g old new a r s len told stamp is stamps kept same h = same_follows g old new kept same h
