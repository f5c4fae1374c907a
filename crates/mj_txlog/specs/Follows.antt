-- What the stamps of its reads say of a transaction.
use Rattle.std.specs.Prelude.{◌≡◌, ◌≤◌, ℕ, ◌+◌, Bool, true, false, not, ◌&&◌, List, [], ◌∷◌, ◌++◌, Some, take, slice_get, ⊤, if◌then◌else◌}
use Rattle.mj_store.specs.Runs.{name_of, answer_of}
use Rattle.mj_store.specs.declared.access.Access.{Access}
use Rattle.mj_store.specs.declared.access.Answer.{Answer}
use Rattle.mj_store.specs.declared.access.Answer.TheVariants as answer
use Rattle.mj_globs.specs.Stamps.{Stamps, Stamped, stamp_at, is_still}
use Rattle.mj_txlog.specs.declared.entry.Entry.{Entry}
use Rattle.mj_txlog.specs.declared.entry.Entry.TheVariants as entry
use Rattle.mj_txlog.specs.Accesses.{Accesses, is_write, seen}
use Rattle.mj_txlog.specs.Logged.{Logged}

-- the stamp that an access keeps: that of its word, where it is a read
abbrev pub stamp_kept : Access → Stamps → ℕ
stamp_kept a stamps = if is_write a then 0 else stamp_at stamps (name_of a)

-- the stamps after an access that was answered so: what passes a limit isn't appended
abbrev pub with_stamp : List ℕ → Answer → ℕ → List ℕ
with_stamp stamps answer.Limit s = stamps
with_stamp stamps r s = stamps ++ s ∷ []

-- A read after these accesses kept this stamp: its word has no lower one by now, and as long as it has the same, the read has its answer.
pub record FollowsNow (globals : Stamped) (earlier : Accesses) (a : Access) (r : Answer) (s : ℕ) : Type 0 where
  pub behind : s ≤ stamp_at globals.stamps (name_of a)
  pub still : is_still s (stamp_at globals.stamps (name_of a)) ≡ true → answer_of a (seen globals.content earlier) ≡ r

-- an access after these that kept this stamp does so, if it is a read
abbrev pub FollowsAt : Stamped → Accesses → Entry → ℕ → Type 0
FollowsAt globals earlier (entry.Access a r) s = is_write a ≡ false → FollowsNow globals earlier a r s
FollowsAt globals earlier (entry.Unlock u) s = ⊤

-- and so does each of these
abbrev pub AreFollowing : Stamped → Accesses → List ℕ → Type 0
AreFollowing globals accesses stamps =
    (i : ℕ) (e : Entry) (s : ℕ) → slice_get accesses i ≡ Some e → slice_get stamps i ≡ Some s → FollowsAt globals (take i accesses) e s

-- The transaction can have been made on globals that became these: what its stamps say of its reads is so.
abbrev pub Follows : Logged → Stamped → Type 0
Follows log globals = AreFollowing globals log.transaction.accesses log.stamps

-- whether an access is a read with this stamp, whose word has another one by now
abbrev pub is_stale : Stamps → Entry → ℕ → Bool
is_stale stamps (entry.Access a r) s = not (is_write a) && not (is_still s (stamp_at stamps (name_of a)))
is_stale stamps (entry.Unlock u) s = false

-- how many of the accesses are such reads
abbrev pub stale_among : Stamps → Accesses → List ℕ → ℕ
stale_among stamps [] kept = 0
stale_among stamps (e ∷ es) [] = 0
stale_among stamps (e ∷ es) (s ∷ kept) = (if is_stale stamps e s then 1 else 0) + stale_among stamps es kept

abbrev pub stale_of : Logged → Stamps → ℕ
stale_of log stamps = stale_among stamps log.transaction.accesses log.stamps
