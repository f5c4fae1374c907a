-- What holds of the words that transactions are made of, where it holds of simpler ones, whatever a level or a mark says.
use Rattle.std.proofs.Common.{◌≡◌, Option, Some, None, Bool, true, false, refl}
use Rattle.std.specs.Prelude.{nat_lt, nat_eq, if◌then◌else◌}
use Rattle.mj_text.specs.declared.fault.Fault.{Fault}
use Rattle.mj_text.specs.declared.fault.Fault.TheVariants as faults
use Rattle.mj_ask.specs.declared.ask.Ask.{Ask}
use Rattle.mj_ask.specs.declared.ask.Ask.TheVariants as asks
use Rattle.mj_ask.specs.declared.ask.SharedAsk.TheVariants as shared_asks
use Rattle.mj_ask.specs.declared.ask.Reply.{Reply}
use Rattle.mj_semantics.specs.State.{State, Words, TransactionMark, marked, raised, lowered, settled, can_restart, is_serial, back_at, restarted, is_in_function}
use Rattle.mj_semantics.specs.Outcome.{Timed, turn, look, change, go_back, fault, ask}
use Rattle.mj_semantics.specs.Transactions.{levels_limit, kind_of, begin_transaction, in_transaction, is_clash, commit, roll_back, roll_back_for_restart, begin_restart}
use Rattle.mj_jobvm.proofs.Rule.{LeavesDevices}

-- as many asks were replied to in one state as in another, the same devices are open, and the same is the current one; and the bounds are the same
abbrev pub IsBeside : State → State → Type 0
IsBeside s t = (t.replied ≡ s.replied) × (t.devices ≡ s.devices) × (t.current ≡ s.current) × (t.bounds ≡ s.bounds)

-- what has to hold of simpler words
pub record Plain (K : Timed → Type 0) : Type 0 where
  pub turned : (t : Timed) → K t → K (turn t)
  pub looked : (t : State → Timed) → ((s : State) → K (t s)) → K (look t)
  pub changed : (f : State → State) (t : Timed) → ((s : State) → IsBeside s (f s)) → K t → K (change f t)
  pub asked : (x : Ask) (t : Reply → Timed) → LeavesDevices x → ((r : Reply) → K (t r)) → K (ask x t)
  pub faulted : (f : Fault) → K (fault f)
  pub went_back : K go_back

restarted_beside : (s : State) → IsBeside s (restarted s)
restarted_beside s = by s.mark
  where
    by : (o : Option TransactionMark) → IsBeside s (elim o [ None ↦ s | Some m ↦ back_at m s ])
    by None = (refl, refl, refl, refl)
    by (Some m) = (refl, refl, refl, refl)

module _ (K : Timed → Type 0) (plain : Plain K) where
  chosen : (b : Bool) (t u : Timed) → K t → K u → K (if b then t else u)
  chosen true t u k l = k
  chosen false t u k l = l

  pub begins : (restored : Option Words) (serial : Bool) (inner outermost : Timed) → K inner → K outermost → K (begin_transaction restored serial inner outermost)
  begins restored serial inner outermost k l =
      plain.looked _ (λ s. chosen (nat_eq s.level 0) _ (if nat_lt s.level levels_limit then change raised inner else fault faults.Limit)
      (plain.looked _ (λ t. chosen (is_in_function t) (fault faults.InTransaction) _ (plain.faulted faults.InTransaction)
      (plain.asked (asks.Shared (shared_asks.Begin (kind_of serial))) _ tt (λ r. plain.changed (marked restored serial) outermost (λ q. (refl, refl, refl, refl)) l))))
      (chosen (nat_lt s.level levels_limit) (change raised inner) (fault faults.Limit) (plain.changed raised inner (λ q. (refl, refl, refl, refl)) k) (plain.faulted faults.Limit)))

  in_it : (t : Timed) → K t → K (in_transaction t)
  in_it t k = plain.looked _ (λ s. chosen (nat_eq s.level 0) (fault faults.NoTransaction) t (plain.faulted faults.NoTransaction) k)

  begins_again : K (turn begin_restart)
  begins_again =
      plain.turned begin_restart (plain.looked _ (λ s. plain.asked (asks.Shared (shared_asks.Begin (kind_of (is_serial s)))) _ tt (λ r.
      plain.changed restarted go_back restarted_beside plain.went_back)))

  pub commits : (done : Timed) → K done → K (commit (turn begin_restart) done)
  commits done k =
      in_it _ (plain.looked _ (λ s. chosen (nat_lt 1 s.level) (change lowered done) _ (plain.changed lowered done (λ q. (refl, refl, refl, refl)) k)
      (plain.asked (asks.Shared shared_asks.Commit) _ tt (λ r. chosen (is_clash r) (turn begin_restart) (change settled done) begins_again
      (plain.changed settled done (λ q. (refl, refl, refl, refl)) k)))))

  pub rolls_back : (rest : Timed) → K rest → K (roll_back rest)
  rolls_back rest k = in_it _ (plain.asked (asks.Shared shared_asks.Rollback) _ tt (λ r. plain.changed settled rest (λ q. (refl, refl, refl, refl)) k))

  pub gives_back : K (roll_back_for_restart (turn begin_restart))
  gives_back =
      in_it _ (plain.looked _ (λ s. chosen (can_restart s) _ (fault faults.NoRestart)
      (plain.asked (asks.Shared shared_asks.Rollback) (λ r. turn begin_restart) tt (λ r. begins_again)) (plain.faulted faults.NoRestart)))
