-- A job's own entries, of logs that are lent, are written down.
use Rattle.std.specs.Prelude.{slice_get, slice_set}
use Rattle.std.specs.Borrow.{Bor}
use Rattle.std.proofs.Common.{◌≡◌, ℕ, suc, ◌+◌, ◌<◌, List, [], ◌∷◌, ◌++◌, length, drop, get_or, Some, false, sym, ap, ◌∙◌, subst}
use Rattle.mj_ask.specs.Fits.{is_shared}
use Rattle.mj_ask.specs.declared.ask.Ask.{Ask}
use Rattle.mj_ask.specs.declared.ask.Reply.{Reply}
use Rattle.mj_jobvm.specs.Run.{Log}
use Rattle.mj_core.specs.declared.happened.Happened.{Happened}
use Rattle.mj_core.specs.Woven.{Logs, woven}
use Rattle.mj_gather.specs.Merged.{own, onward, with_left, passed, said}
use Rattle.mj_gather.specs.Lent.{lent, place_at, left_at, log_at}
use Rattle.mj_gather.proofs.Written.{AreWritten, written_more, written_all, left_set}
use Rattle.mj_gather.proofs.Shown.{among, log_lent, same_default}

module _ (logs : List (Bor Log)) (job k : ℕ) (log : Bor Log) (numbered : job ≡ suc k) (here : slice_get logs k ≡ Some log) (from at : ℕ) (old new : List Happened)
    (so : AreWritten (lent logs) job log.now from at old new) where
  so_at : AreWritten (lent logs) (suc k) log.now from at old new
  so_at = let Q : ℕ → Type 0 = λ j. AreWritten (lent logs) j log.now from at old new in subst Q numbered so

  -- one more is
  pub put_more : (x : Ask × Reply) → slice_get log.now at ≡ Some x → is_shared x.0 ≡ false
      → AreWritten (lent logs) job log.now from (at + 1) old (new ++ record { job = job; at = at } ∷ [])
  put_more x is unshared =
      let P : ℕ → Type 0 = λ j. AreWritten (lent logs) j log.now from (at + 1) old (new ++ record { job = j; at = at } ∷ []) in
      subst P (sym numbered) (written_more (lent logs) k log.now from at old new (among logs k log here) so_at x is unshared)

  module _ (stops : (own (drop at log.now) ≡ []) × (onward (drop at log.now) ≡ drop at log.now)) where
    lent_is : log_at (lent logs) job ≡ log.now
    lent_is = ap (log_at (lent logs)) numbered ∙ log_lent logs k log here

    all : (woven (lent logs) new ≡ woven (lent logs) old ++ said (suc k) (own (drop from log.now))) × (drop at log.now ≡ onward (drop from log.now))
    all = written_all (lent logs) k log.now from at old new (among logs k log here) so_at stops.0 stops.1

    -- all are
    pub put_written : woven (lent logs) new ≡ woven (lent logs) old ++ said job (own (drop from (log_at (lent logs) job)))
    put_written =
        all.0 ∙ (ap (λ (j : ℕ). woven (lent logs) old ++ said j (own (drop from log.now))) (sym numbered)
        ∙ ap (λ (l : Log). woven (lent logs) old ++ said job (own (drop from l))) (sym lent_is))

    pub put_left : drop at (log_at (lent logs) job) ≡ onward (drop from (log_at (lent logs) job))
    put_left = ap (drop at) lent_is ∙ (all.1 ∙ ap (λ (l : Log). onward (drop from l)) (sym lent_is))

-- ---- places

module _ (logs : Logs) (places : List ℕ) (job k place d : ℕ) (numbered : job ≡ suc k) (inside : k < length places) where
  place_is : place_at places job ≡ get_or places k d
  place_is = ap (place_at places) numbered ∙ same_default places k 0 d inside

  pub said_from : (old new : List Happened) → woven logs new ≡ woven logs old ++ said job (own (drop (get_or places k d) (log_at logs job)))
      → woven logs new ≡ woven logs old ++ said job (own (left_at logs places job))
  said_from old new is = is ∙ ap (λ (n : ℕ). woven logs old ++ said job (own (drop n (log_at logs job)))) (sym place_is)

  pub left_from : drop place (log_at logs job) ≡ onward (drop (get_or places k d) (log_at logs job))
      → left_at logs (slice_set places k place) ≡ passed (left_at logs places) job
  left_from is =
      let P : ℕ → Type 0 = λ j. left_at logs (slice_set places k place) ≡ with_left (left_at logs places) j (drop place (log_at logs j)) in
      subst P (sym numbered) (left_set logs places k place inside)
      ∙ ap (with_left (left_at logs places) job) (is ∙ ap (λ (n : ℕ). onward (drop n (log_at logs job))) (sym place_is))
