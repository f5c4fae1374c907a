-- Whether an event is the next entry of its job's log.
use Rattle.std.specs.Prelude.{slice_get, slice_set}
use Rattle.std.proofs.Common.{◌≡◌, ℕ, suc, ◌+◌, ◌<◌, List, [], ◌∷◌, ◌++◌, length, drop, get_or, Option, Some, None, sym, ap, ◌∙◌, subst, append_assoc, append-nil}
use Rattle.mj_ask.specs.declared.ask.Ask.{Ask}
use Rattle.mj_ask.specs.declared.ask.Reply.{Reply}
use Rattle.mj_jobvm.specs.Run.{Log}
use Rattle.mj_sys.specs.declared.event.Event.{Event}
use Rattle.mj_sys.specs.History.{History}
use Rattle.mj_core.specs.declared.happened.Happened.{Happened}
use Rattle.mj_core.specs.Woven.{Logs, entry_at, woven}
use Rattle.mj_gather.specs.Merged.{Left, own, behind, with_left, heard, passed, said, made, begun, past, told_with, left_behind}
use Rattle.mj_gather.specs.Lent.{log_at, left_at}
use Rattle.mj_gather.specs.Gathered.{HeadsDiffer}
use Rattle.mj_gather.specs.Found.{IsLeftAt}
use Rattle.mj_gather.proofs.Written.{entry_is, woven_one, drop_here, drop_past, log_there, left_set}

-- nothing is left of its log
pub other_none : (log : Log) (y : Ask × Reply) (rest : Log) → log ≡ [] → HeadsDiffer log (y ∷ rest)
other_none log y rest is = subst (λ (l : Log). HeadsDiffer l (y ∷ rest)) (sym is) tt

pub left_gone : (logs : Logs) (k place : ℕ) (log : Log) (places : List ℕ) (job : ℕ) → job ≡ suc k → slice_get logs k ≡ Some log → get_or places k 0 ≡ place
    → slice_get log place ≡ None → left_at logs places job ≡ []
left_gone logs k place log places job numbered here at none =
    ap (left_at logs places) numbered ∙ (ap (λ n. drop n (log_at logs (suc k))) at ∙ (ap (λ l. drop place l) (log_there logs k log here) ∙ drop_past log place none))

module _ (logs : Logs) (k place : ℕ) (log : Log) (x : Ask × Reply) (places : List ℕ) (e : Event) (job : e.job ≡ suc k) (here : slice_get logs k ≡ Some log)
    (at : get_or places k 0 ≡ place) (there : slice_get log place ≡ Some x) where
  left_is : left_at logs places e.job ≡ x ∷ drop (place + 1) log
  left_is =
      ap (left_at logs places) job ∙ (ap (λ n. drop n (log_at logs (suc k))) at ∙ (ap (λ l. drop place l) (log_there logs k log here) ∙ drop_here log place x there))

  -- it is another
  pub other_next : (rest : Log) → (x ≡ (e.ask, e.reply) → ⊥) → HeadsDiffer (left_at logs places e.job) ((e.ask, e.reply) ∷ rest)
  other_next rest apart = subst (λ (l : Log). HeadsDiffer l ((e.ask, e.reply) ∷ rest)) (sym left_is) apart

  -- it is that one
  pub next_is : (order : List Happened) → k < length places → x ≡ (e.ask, e.reply)
      → IsLeftAt logs places order e (slice_set places k (place + 1)) (order ++ record { job = e.job; at = place } ∷ [])
  next_is order inside same = record {
    first = left_is ∙ (ap (λ y. y ∷ drop (place + 1) log) same ∙ ap (λ r. (e.ask, e.reply) ∷ r) (sym (ap behind left_is)));
    left = left_set logs places k (place + 1) inside
        ∙ (ap (λ l. with_left (left_at logs places) (suc k) l) (ap (λ l. drop (place + 1) l) (log_there logs k log here) ∙ sym (ap behind left_is))
        ∙ ap (λ j. with_left (left_at logs places) j (behind (left_at logs places e.job))) (sym job));
    written = woven_one logs order e.job place x (ap (λ j. entry_at logs j place) job ∙ entry_is logs k place log x here there)
        ∙ ap (λ (y : Ask × Reply). woven logs order ++ record { job = e.job; ask = y.0; reply = y.1 } ∷ []) same;
  }

-- ---- and those behind it

module _ (logs : Logs) (places places' places'' : List ℕ) (order order' order'' : List Happened) (e : Event) (is : IsLeftAt logs places order e places' order')
    (left : left_at logs places'' ≡ passed (left_at logs places') e.job)
    (written : woven logs order'' ≡ woven logs order' ++ said e.job (own (left_at logs places' e.job))) where
  abbrev one : Left
  one = heard (left_at logs places) e.job

  left_own : left_at logs places'' ≡ passed one e.job
  left_own = left ∙ ap (λ (l : Left). passed l e.job) is.left

  written_own : woven logs order'' ≡ woven logs order ++ e ∷ said e.job (own (one e.job))
  written_own =
      written ∙ (ap (λ (l : Left). woven logs order' ++ said e.job (own (l e.job))) is.left
      ∙ (ap (λ h. h ++ said e.job (own (one e.job))) is.written ∙ append_assoc (woven logs order) (e ∷ []) (said e.job (own (one e.job)))))

  -- it made no row
  pub left_alone : made e.ask e.reply ≡ None → left_at logs places'' ≡ left_behind (left_at logs places) e
  left_alone none = subst (λ (m : Option ℕ). left_at logs places'' ≡ past (passed one e.job) m) (sym none) left_own

  pub told_alone : made e.ask e.reply ≡ None → woven logs order'' ≡ woven logs order ++ told_with (left_at logs places) e
  told_alone none =
      subst (λ (m : Option ℕ). woven logs order'' ≡ woven logs order ++ e ∷ (said e.job (own (one e.job)) ++ begun (passed one e.job) m)) (sym none)
      (written_own ∙ ap (λ (h : History). woven logs order ++ e ∷ h) (sym (append-nil (said e.job (own (one e.job))))))

  -- it made a job's row
  module _ (job : ℕ) (some : made e.ask e.reply ≡ Some job) (later : List ℕ) (more : List Happened) (left' : left_at logs later ≡ passed (left_at logs places'') job)
      (written' : woven logs more ≡ woven logs order'' ++ said job (own (left_at logs places'' job))) where
    pub left_both : left_at logs later ≡ left_behind (left_at logs places) e
    left_both = subst (λ (m : Option ℕ). left_at logs later ≡ past (passed one e.job) m) (sym some) (left' ∙ ap (λ (l : Left). passed l job) left_own)

    pub told_both : woven logs more ≡ woven logs order ++ told_with (left_at logs places) e
    told_both =
        subst (λ (m : Option ℕ). woven logs more ≡ woven logs order ++ e ∷ (said e.job (own (one e.job)) ++ begun (passed one e.job) m)) (sym some)
        (written' ∙ (ap (λ (l : Left). woven logs order'' ++ said job (own (l job))) left_own ∙ (ap (λ h. h ++ said job (own (passed one e.job job))) written_own
        ∙ append_assoc (woven logs order) (e ∷ said e.job (own (one e.job))) (said job (own (passed one e.job job))))))
