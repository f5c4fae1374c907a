-- What the run of a trace begins with.
use Rattle.std.proofs.Common.{◌≡◌, ◌∙◌, ℕ, true, List, map, refl, ap, subst, sym}
use Rattle.mj_ask.specs.Started.{Started}
use Rattle.mj_ask.specs.declared.entry.Entry.{Entry}
use Rattle.mj_dev.specs.Shelves.{Shelf, added}
use Rattle.mj_sys.specs.Opening.{are_bare}
use Rattle.mj_sys.proofs.Bare.{bare_all}
use Rattle.mj_replay.specs.Traces.{bare_start}
use Rattle.mj_replica.specs.Replicas.{AreWhole}
use Rattle.mj_begin.proofs.Untaken.{one_added}

-- starts at entries give no values
pub bare_of : (starts : List Started) (entries : List Entry) → starts ≡ map bare_start entries → are_bare starts ≡ true
bare_of starts entries are = ap are_bare are ∙ bare_all bare_start entries (λ e. refl)

-- with one device more, of no device something was taken
pub one_whole : (name : List ℕ) (old new : List Shelf) → AreWhole old → new ≡ added name old → AreWhole new
one_whole name old new whole is = subst AreWhole (sym is) (one_added name old whole)
