use Rattle.std.proofs.Common.{◌≡◌, refl, sym, ap, ◌∙◌, subst}
use Rattle.mj_ask.specs.declared.ask.SharedAsk.TheVariants as shared_asks
use Rattle.mj_sys.specs.Transactions.{Transacted, transaction_of, with_transaction}
use Rattle.mj_sys.specs.Shared.{Shared}
use Rattle.mj_dev.specs.Heard.{Heard}
use Rattle.mj_sys.specs.declared.shared.Answered.{Answered}
use Rattle.mj_sys.specs.declared.shared.Outcome.{Outcome}
use Rattle.mj_sys.specs.Kept.{Service, ComesOfAsk, outcome_as, devices_of, transaction_after_try}
use Rattle.mj_sys.proofs.Trying.{outcome, comes}
use Rattle.mj_sys.proofs.shared.Shared.try_take.Goals as goal
use Rattle.mj_sys.proofs.shared.Shared.try_take.Goals.{in-Got, in-Limit, in-Busy}

pub returns-clause-ok : goal.returns-clause-ok
returns-clause-ok g c =
    let i = c.self.inside in
    let job = c.args.job in
    let list = c.as_slice.result.now in
    let taken = c.in_ok-taken.field-0 in
    let ts = i.transacted.transactions in
    let left = with_transaction ts job (transaction_after_try (transaction_of ts job) list taken) in
    let s : Shared = record { globals = i.transacted.globals; locks = i.locks.holds; devices = devices_of i.principals i.pool i.holders.items; rows = i.jobs.rows; transactions = ts } in
    let of : Transacted → Service = λ x. record {
      state = record s { globals = x.globals; locks = c.try_take-taken.new.locks.holds; transactions = x.transactions };
      claimed = i.jobs.claimed;
    } in
    let all = comes s i.jobs.claimed job list c.args.timeout c.args.late taken c.try_take-taken.new.locks.holds left
    c.in_ok-taken.ensures.taken c.in_ok-taken.ensures.locks c.in_ok-taken.ensures.meaning refl in
    let wide : Answered → Outcome Heard = λ a. outcome_as a in
    let is : wide c.match-branch-2.result ≡ outcome s i.jobs.claimed job list c.args.timeout c.args.late taken = elim c.match-branch-2.branch [
      | in-Got w ↦ ap wide w.result-is ∙ ap (outcome s i.jobs.claimed job list c.args.timeout c.args.late) (sym w.in-Got.is)
      | in-Limit w ↦ ap wide w.result-is ∙ ap (outcome s i.jobs.claimed job list c.args.timeout c.args.late) (sym w.in-Limit.is)
      | in-Busy w ↦ ap wide (w.result-is ∙ w.busy.ensures) ∙ ap (outcome s i.jobs.claimed job list c.args.timeout c.args.late) (sym w.in-Busy.is)
    ] in
    let late = c.args.late in
    let old : Service = record { state = s; claimed = i.jobs.claimed } in
    let told = wide c.match-branch-2.result in
    let asked = shared_asks.Try c.args.names.now c.args.timeout in
    let behind : Service = of (record { globals = i.transacted.globals; transactions = left }) in
    subst (λ v. ComesOfAsk v job asked late told (of c.try_take-taken.new.self)) c.self.view_is
    (subst (λ o. ComesOfAsk old job asked late told (of o)) (sym c.in_ok-taken.ensures.after)
    (subst (λ n. ComesOfAsk old job (shared_asks.Try n c.args.timeout) late told behind) c.as_slice.ensures.value
    (subst (λ o. ComesOfAsk old job (shared_asks.Try list c.args.timeout) late o behind) (sym is) all)))
