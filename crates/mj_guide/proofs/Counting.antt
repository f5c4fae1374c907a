-- How many jobs have ended, as it is counted.
use Rattle.std.proofs.Common.{◌≡◌, ℕ, zero, suc, ◌<◌, ◌≤◌, ◌+◌, Bool, true, false, Option, Some, None, [], ◌∷◌, ◌++◌, length, take, get_or, refl, sym, ap, ◌∙◌, arith}
use Rattle.std.specs.Prelude.{slice_get}
use Rattle.std.proofs.lemmas.List.{take-append-le, take_all, length-take}
use Rattle.std.proofs.lemmas.List.Sums.{count_by-le-length, count_by_more_yes, count_by_more_no}
use Rattle.std.proofs.lemmas.Option.{get_or_from_slice_get, none-some, slice_get_within}
use Rattle.mj_sys.specs.declared.event.Event.{Event}
use Rattle.mj_sys.specs.Shared.{Shared}
use Rattle.mj_sys.specs.History.{History}
use Rattle.mj_debug.specs.declared.debugger.Gone.{Gone}
use Rattle.mj_inspect.specs.Waits.{is_over}
use Rattle.mj_guide.specs.declared.tally.Tally.{Tally}
use Rattle.mj_guide.specs.Ends.{IsCounted, ended_in, is_end}
use Rattle.mj_guide.specs.Goes.{Turns}
use Rattle.mj_guide.specs.Notes.{Situation}
use Rattle.mj_guide.proofs.Longer.{IsLonger, goes_longer}

front_kept : (h k : History) → IsLonger h k → take (length h) k ≡ h
front_kept h k longer =
    ap (λ (l : History). take (length h) l) longer.1 ∙ take-append-le (length h) h longer.0 (omega arith) ∙ take_all (length h) h (omega arith)

-- what was counted of the record before a step in turn is counted of its front behind it
pub still_counted : (opening : Shared) (first : Bool) (old new : Situation) (gone : Gone) (tally : Tally) → Turns opening first old gone new
    → IsCounted tally old.walk.core.history → tally.ended ≡ ended_in (take tally.counted new.walk.core.history)
still_counted opening first old new gone tally turns is =
    let h = old.walk.core.history in
    let k = new.walk.core.history in
    let front = front_kept h k (goes_longer opening old.walk first gone new.walk turns.1.0) in
    is.0 ∙ ap (λ (l : History). ended_in l) (sym front) ∙ ap (λ (n : ℕ). ended_in (take n k)) (sym is.1)

-- before the first event none has
pub counted_none : (h : History) → 0 ≡ ended_in (take 0 h)
counted_none [] = refl
counted_none (e ∷ h) = refl

-- behind the last all are counted
pub counted_all : (h : History) (at ended : ℕ) → ended ≡ ended_in (take at h) → length h ≤ at → ended ≡ ended_in h
counted_all h at ended so past = so ∙ ap (λ (l : History). ended_in l) (take_all at h past)

-- ---- one place more

abbrev ends_job : Event → Bool
ends_job e = is_over e.ask

pub counted_yes : (h : History) (at ended : ℕ) → ended ≡ ended_in (take at h) → is_end (slice_get h at) ≡ true → ended + 1 ≡ ended_in (take (at + 1) h)
counted_yes h at ended so on = by (slice_get h at) refl on
  where
    by : (got : Option Event) → slice_get h at ≡ got → is_end got ≡ true → ended + 1 ≡ ended_in (take (at + 1) h)
    by None is on = absurd cc
    by (Some e) is on =
        let here : ends_job (get_or h at e) ≡ true = ap ends_job (get_or_from_slice_get h at e e is) ∙ on in
        ap (λ (n : ℕ). n + 1) so ∙ sym (count_by_more_yes ends_job h at e (slice_get_within h at e is) here)

there : (h : History) (at : ℕ) → at < length h → (e : Event) × (slice_get h at ≡ Some e)
there [] at less = absurd (omega (arith, less))
there (e ∷ h) zero less = (e, refl)
there (e ∷ h) (suc at) less = there h at (omega (arith, less))

pub counted_no : (h : History) (at ended : ℕ) → ended ≡ ended_in (take at h) → is_end (slice_get h at) ≡ false → at < length h → ended ≡ ended_in (take (at + 1) h)
counted_no h at ended so off less = by (slice_get h at) refl off
  where
    by : (got : Option Event) → slice_get h at ≡ got → is_end got ≡ false → ended ≡ ended_in (take (at + 1) h)
    by None is off = let one = there h at less in absurd (none-some one.0 (sym is ∙ one.1))
    by (Some e) is off =
        let here : ends_job (get_or h at e) ≡ false = ap ends_job (get_or_from_slice_get h at e e is) ∙ off in
        so ∙ sym (count_by_more_no ends_job h at e less here)

-- no more have ended than there are events
pub counted_few : (h : History) (at ended most : ℕ) → ended ≡ ended_in (take at h) → length h ≤ most → ended ≤ most
counted_few h at ended most so within =
    let few : ended_in (take at h) ≤ length (take at h) = count_by-le-length ends_job (take at h) in
    let front = length-take at h in
    omega (arith, so, few, front, within)

pub counted_whole : (h : History) (ended most : ℕ) → ended ≡ ended_in h → length h ≤ most → ended ≤ most
counted_whole h ended most so within =
    let few : ended_in h ≤ length h = count_by-le-length ends_job h in
    omega (arith, so, few, within)
