use Rattle.std.proofs.Common.{◌≡◌, ◌<◌, List, sym, ap, ◌∙◌, subst, arith}
use Rattle.mj_dev.specs.Shelves.{left_of, after_take, principal}
use Rattle.mj_jobs.specs.Rows.{Row}
use Rattle.mj_sys.specs.Devices.{Devices}
use Rattle.mj_sys.specs.Shared.{Shared}
use Rattle.mj_sys.specs.Kept.{Service, devices_of}
use Rattle.mj_sys.proofs.Placed.{same_devices}
use Rattle.mj_sys.proofs.Together.{with_claim, row_within, some_is}
use Rattle.mj_sys.proofs.shared.Shared.claim.Goals as goal

pub unreachable-requires : goal.unreachable-requires
unreachable-requires g c =
    let i = c.self.inside in
    let none : left_of principal i.pool ≡ 0 = ap (λ n. left_of n i.pool) (sym c.principal.ensures) ∙ c.in-None.ensures.none in
    let claim = some_is c.in_ok-claimed.field-0 c.in-Some.claimed _ c.in-Some.is c.in_ok-claimed.ensures.some in
    let below = row_within i.jobs.rows c.in-Some.claimed.job i.jobs.claimed claim.2.0 claim.0 claim.2.1 in
    let sessions = c.self.invariant.sessions in
    let room = c.self.invariant.room in
    omega (arith, none, below, sessions, room)

pub invariant_of-self-2 : goal.invariant_of-self-2
invariant_of-self-2 g c =
    let i = c.self.inside in
    let left : 0 < left_of principal i.pool = subst (λ n. 0 < left_of n i.pool) c.principal.ensures c.in-Some-take.ensures.some in
    let claim = some_is c.in_ok-claimed.field-0 c.in-Some.claimed _ c.in-Some.is c.in_ok-claimed.ensures.some in
    rw (c.in-Some-take.ensures.taken ∙ ap (λ n. after_take n i.pool) c.principal.ensures)
    (with_claim i.principals i.pool i.holders.items i.jobs c.claim.new.self c.self.invariant left c.claim.ensures.rows claim.1)

pub returns-clause-state : goal.returns-clause-state
returns-clause-state g c =
    let i = c.self.inside in
    let of : Devices → List Row → Shared = λ d rows. record { globals = i.transacted.globals; locks = i.locks.holds; devices = d; rows = rows; transactions = i.transacted.transactions } in
    let rows = c.claim.new.self.rows in
    ap (λ l. of (devices_of i.principals l i.holders.items) rows) (c.in-Some-take.ensures.taken ∙ ap (λ n. after_take n i.pool) c.principal.ensures)
    ∙ ap (λ d. of d rows) (same_devices i.principals i.pool i.holders.items)
    ∙ ap (λ r. of (devices_of i.principals i.pool i.holders.items) r) c.claim.ensures.rows
    ∙ ap (λ (v : Service). v.state) c.self.view_is
