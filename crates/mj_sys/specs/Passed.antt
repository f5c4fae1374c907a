-- What is so of the transactions that are open on globals: they follow them, and what their reads have passed over isn't to be seen.
use Rattle.std.specs.Prelude.{◌≡◌, ◌≤◌, ℕ, true, List, [], ◌∷◌, Option, Some, None, ⊤}
use Rattle.mj_subs.specs.Name.{Name}
use Rattle.mj_store.specs.Questions.{Content, value_at}
use Rattle.mj_globs.specs.Stamps.{Stamped, stamp_at, is_still}
use Rattle.mj_txlog.specs.Follows.{Follows}
use Rattle.mj_txlog.specs.Skips.{AreBare, front, last, gone_by}
use Rattle.mj_sys.specs.Transactions.{Ongoing}
use Rattle.mj_sys.specs.declared.passed.PassedWord.{PassedWord}

-- What a transaction passed over, at a stamp of its word. As long as that stands still, none of it is to be seen
pub record IsPassed (globals : Stamped) (gone : Content) (p : PassedWord) : Type 0 where
  pub behind : (n : Name) (d : List ℕ) → value_at p.skips n ≡ Some d → p.at ≤ stamp_at globals.stamps n
  pub still : (n : Name) (d : List ℕ) → value_at p.skips n ≡ Some d → is_still p.at (stamp_at globals.stamps n) ≡ true
      → AreBare globals.content gone (front n) (last n.subscripts) d

-- so it is for each word
abbrev pub ArePassed : Stamped → Content → List PassedWord → Type 0
ArePassed globals gone [] = ⊤
ArePassed globals gone (p ∷ ps) = IsPassed globals gone p × ArePassed globals gone ps

-- the transaction follows these globals, and what it passed over isn't to be seen in them
pub record IsOpenOn (globals : Stamped) (o : Ongoing) : Type 0 where
  pub follows : Follows o.log globals
  pub passed : ArePassed globals (gone_by o.log.transaction.accesses) o.passed

-- so does that of a row, if its job has one open, and those of all rows
abbrev pub IsOpen : Stamped → Option Ongoing → Type 0
IsOpen globals None = ⊤
IsOpen globals (Some o) = IsOpenOn globals o

abbrev pub AreOpen : Stamped → List (Option Ongoing) → Type 0
AreOpen globals [] = ⊤
AreOpen globals (o ∷ os) = IsOpen globals o × AreOpen globals os
