use Rattle.std.proofs.Common.{◌≡◌, Some, None, sym, ap, ◌∙◌, slice_set}
use Rattle.std.specs.List.{position}
use Rattle.std.proofs.lemmas.List.{length-set}
use Rattle.mj_dev.specs.Shelves.{is_named}
use Rattle.mj_sys.specs.Devices.{Devices, released_by}
use Rattle.mj_sys.specs.Shared.{device_closed}
use Rattle.mj_sys.specs.Kept.{Service, devices_of, without}
use Rattle.mj_sys.proofs.Placed.{closed_there, unchanged}
use Rattle.mj_sys.proofs.Together.{with_holders}
use Rattle.mj_sys.proofs.shared.Shared.close.Goals as goal

pub invariant_of-self : goal.invariant_of-self
invariant_of-self g c =
    let i = c.self.inside in
    with_holders i.principals i.pool i.holders.items (slice_set i.holders.items c.in-Some.place c.release.new.holder) i.jobs c.self.invariant
    (length-set i.holders.items c.in-Some.place c.release.new.holder)

pub returns-in-Some : goal.returns-in-Some
returns-in-Some g c =
    let i = c.self.inside in
    let at = c.in-Some.place in
    let name = c.args.name.now in
    let job = c.args.job in
    let of : Devices → Service = λ d. record {
      state = record { globals = i.transacted.globals; locks = i.locks.holds; devices = d; rows = i.jobs.rows; transactions = i.transacted.transactions };
      claimed = i.jobs.claimed;
    } in
    let closing : Service → Service = λ v. record { state = device_closed v.state job name; claimed = v.claimed } in
    let there : position (is_named name) i.pool ≡ Some at = sym c.place.ensures ∙ c.in-Some.is in
    ap of (ap (λ h. devices_of i.principals i.pool (slice_set i.holders.items at h)) (c.release.ensures ∙ ap (without job) c.index_mut.ensures.value)
    ∙ sym (closed_there i.principals job name i.pool i.holders.items at c.index_mut.result.now c.self.invariant.placed there))
    ∙ ap closing c.self.view_is

pub returns-in_default : goal.returns-in_default
returns-in_default g c =
    let i = c.self.inside in
    let name = c.args.name.now in
    let job = c.args.job in
    let of : Devices → Service = λ d. record {
      state = record { globals = i.transacted.globals; locks = i.locks.holds; devices = d; rows = i.jobs.rows; transactions = i.transacted.transactions };
      claimed = i.jobs.claimed;
    } in
    let closing : Service → Service = λ v. record { state = device_closed v.state job name; claimed = v.claimed } in
    let none : position (is_named name) i.pool ≡ None = sym c.place.ensures ∙ c.in_default.is in
    sym c.self.view_is ∙ ap of (sym (unchanged i.principals name (released_by job) i.pool i.holders.items none)) ∙ ap closing c.self.view_is
