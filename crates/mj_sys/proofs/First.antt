-- What is kept of a system that begins.
use Rattle.std.specs.Prelude.{slice_get}
use Rattle.std.proofs.Common.{◌≡◌, ℕ, zero, suc, List, [], ◌∷◌, length, map, replicate, None, Some, true, false, refl, sym, ap, subst, arith}
use Rattle.std.proofs.lemmas.List.{length-map}
use Rattle.std.proofs.lemmas.Option.{none-some}
use Rattle.mj_jobs.specs.Rows.{Row, opened}
use Rattle.mj_store.specs.Questions.{Content}
use Rattle.mj_ask.specs.Started.{Started}
use Rattle.mj_dev.specs.Shelves.{Shelf}
use Rattle.mj_locktab.specs.Locks.{LocksApart}
use Rattle.mj_sys.specs.Shared.{Shared, are_global}
use Rattle.mj_sys.specs.Opening.{opening_of, NoneIsOpen, NoneHasEnded}
use Rattle.mj_sys.specs.History.{History}
use Rattle.mj_sys.specs.System.{Recorded, MatchesHistory, AreCounts}
use Rattle.mj_sys.specs.Kept.{Service}
use Rattle.mj_sys.proofs.Waiting.{none_waiting}

none_apart : LocksApart []
none_apart j k m n other one two over = let no : ⊥ = omega (arith, one) in no

-- a row of a job that begins hasn't ended
goes_on : (starts : List Started) → NoneHasEnded (map opened starts)
goes_on starts zero row is = absurd (none-some row is)
goes_on starts (suc k) row is = at starts k is where
  at : (starts : List Started) (k : ℕ) → slice_get (map opened starts) k ≡ Some row → row.ended ≡ false
  at [] k is = absurd (none-some row is)
  at (start ∷ starts) zero is = let same : opened start ≡ row = (let s : Some (opened start) ≡ Some row = is in cc) in ap (λ (r : Row). r.ended) (sym same)
  at (start ∷ starts) (suc k) is = at starts k is

-- no event, and no row that was claimed
abbrev nothing : Recorded
nothing = record { history = []; claimed = 0 }

module _ (globals : Content) (shelves : List Shelf) (starts : List Started) (opening : Shared) (is : opening_of globals shelves starts ≡ opening)
    (global : are_global globals ≡ true) where
  first : MatchesHistory opening (opening_of globals shelves starts) nothing
  first = record {
    replay = is;
    served = tt;
    global = global;
    waiting = none_waiting (length starts);
    apart = none_apart;
    unclaimed = λ job above. refl;
    within = omega arith;
    none_open = subst NoneIsOpen is (ap (λ n. replicate n None) (sym (length-map starts opened)));
    none_ended = subst (λ (s : Shared). NoneHasEnded s.rows) is (goes_on starts);
  }

  none_counted : AreCounts [] nothing
  none_counted = record { all = refl; each = λ k below. absurd (let no : ⊥ = omega (arith, below) in no) }

  pub kept_first : (v : Service) (history : History) (counts : List ℕ) → v ≡ record { state = opening_of globals shelves starts; claimed = 0 } → history ≡ [] → counts ≡ []
      → MatchesHistory opening v.state (record { history = history; claimed = v.claimed }) × AreCounts counts (record { history = history; claimed = v.claimed })
  kept_first v history counts at none uncounted =
      let P : Service → History → List ℕ → Type 0 = λ w h l. MatchesHistory opening w.state (record { history = h; claimed = w.claimed }) × AreCounts l (record { history = h; claimed = w.claimed }) in
      subst (λ w. P w history counts) (sym at) (subst (λ h. P (record { state = opening_of globals shelves starts; claimed = 0 }) h counts) (sym none)
      (subst (λ l. P (record { state = opening_of globals shelves starts; claimed = 0 }) [] l) (sym uncounted) (first, none_counted)))
