-- A try of names by what is told of it.
use Rattle.std.proofs.Common.{◌≡◌, ℕ, Bool, true, false, List, Option, refl, sym, ap, ◌∙◌, subst}
use Rattle.std.specs.Prelude.{ℤ, if◌then◌else◌}
use Rattle.mj_subs.specs.Name.{Name}
use Rattle.mj_ask.specs.Late.{is_timed_out}
use Rattle.mj_ask.specs.declared.ask.SharedAsk.TheVariants as shared_asks
use Rattle.mj_ask.specs.declared.ask.Reply.TheVariants as replies
use Rattle.mj_dev.specs.Heard.{Heard}
use Rattle.mj_locktab.specs.Locks.{Locks}
use Rattle.mj_locktab.specs.Tries.{outcome_of as try_of, after_try, IsInTheWay, TryGives}
use Rattle.mj_locktab.specs.declared.taken.Taken.{Taken}
use Rattle.mj_locktab.specs.declared.taken.Taken.TheVariants as takes
use Rattle.mj_sys.specs.Transactions.{Transactions, with_transaction, with_names}
use Rattle.mj_sys.specs.Shared.{Shared, open_of}
use Rattle.mj_sys.specs.Kept.{Service, ComesOfAsk, outcome_as, transaction_after_try}
use Rattle.mj_sys.specs.declared.served.Held.TheVariants as helds
use Rattle.mj_sys.specs.declared.shared.Answered.TheVariants as answereds
use Rattle.mj_sys.specs.declared.shared.Outcome.{Outcome}
use Rattle.mj_sys.specs.declared.shared.Outcome.TheVariants as outcomes
use Rattle.mj_sys.proofs.Places.{with_same}

module _ (s : Shared) (claimed job : ℕ) (names : List Name) (timeout : Option ℤ) (late : Bool) where
  abbrev pub before : Service
  before = record { state = s; claimed = claimed }

  abbrev pub behind : Locks → Transactions → Service
  behind locks transactions = record { state = record s { locks = locks; transactions = transactions }; claimed = claimed }

  -- what comes of it
  abbrev pub outcome : Taken → Outcome Heard
  outcome takes.Got = outcomes.Told replies.Got replies.Got
  outcome (takes.Busy holder name) = outcome_as (if is_timed_out timeout late then answereds.Told replies.Late replies.Late else answereds.Busy holder (helds.Name name))
  outcome takes.Limit = outcomes.Told replies.Limit replies.Limit

  got : try_of s.locks job names ≡ takes.Got
      → ComesOfAsk before job (shared_asks.Try names timeout) late (outcomes.Told replies.Got replies.Got)
      (behind (after_try s.locks job names) (with_transaction s.transactions job (with_names (open_of s job) names)))
  got is = (rw is refl, refl, refl, refl)

  limit : try_of s.locks job names ≡ takes.Limit → ComesOfAsk before job (shared_asks.Try names timeout) late (outcomes.Told replies.Limit replies.Limit) before
  limit is = (rw is refl, refl, refl, refl)

  busy_by : (holder : ℕ) (name : Name) (over : Bool) → is_timed_out timeout late ≡ over → try_of s.locks job names ≡ takes.Busy holder name
      → IsInTheWay s.locks job names holder name
      → ComesOfAsk before job (shared_asks.Try names timeout) late (outcome_as (if over then answereds.Told replies.Late replies.Late else answereds.Busy holder (helds.Name name))) before
  busy_by holder name true over is way = (rw (is, over) refl, refl, refl, refl)
  busy_by holder name false over is way = (rw (is, over) refl, way, refl)

  -- nothing changes where the names aren't got
  still : (locks : Locks) (transactions : Transactions) → locks ≡ s.locks → transactions ≡ s.transactions → before ≡ behind locks transactions
  still locks transactions l t =
      ap (λ x. behind x s.transactions) (sym l) ∙ ap (λ x. behind locks x) (sym t)

  pub comes : (taken : Taken) (locks : Locks) (transactions : Transactions) → taken ≡ try_of s.locks job names → locks ≡ after_try s.locks job names
      → TryGives s.locks job names taken locks → transactions ≡ with_transaction s.transactions job (transaction_after_try (open_of s job) names taken)
      → ComesOfAsk before job (shared_asks.Try names timeout) late (outcome taken) (behind locks transactions)
  comes takes.Got locks transactions is left tells t =
      subst (λ v. ComesOfAsk before job (shared_asks.Try names timeout) late (outcomes.Told replies.Got replies.Got) v)
      (ap (λ x. behind x (with_transaction s.transactions job (with_names (open_of s job) names))) (sym left) ∙ ap (λ x. behind locks x) (sym t)) (got (sym is))
  comes (takes.Busy holder name) locks transactions is left tells t =
      subst (λ v. ComesOfAsk before job (shared_asks.Try names timeout) late (outcome (takes.Busy holder name)) v)
      (still locks transactions tells.1 (t ∙ with_same s.transactions job)) (busy_by holder name (is_timed_out timeout late) refl (sym is) tells.0)
  comes takes.Limit locks transactions is left tells t =
      subst (λ v. ComesOfAsk before job (shared_asks.Try names timeout) late (outcomes.Told replies.Limit replies.Limit) v)
      (still locks transactions tells.2 (t ∙ with_same s.transactions job)) (limit (sym is))
