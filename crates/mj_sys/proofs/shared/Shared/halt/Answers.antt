use Rattle.std.proofs.Common.{◌≡◌, List, Option, ℕ, length, map, ap, sym, ◌∙◌}
use Rattle.std.specs.Vec.{with_items}
use Rattle.std.proofs.lemmas.List.{length-map, with_items_is}
use Rattle.mj_locktab.specs.Locks.{Locks}
use Rattle.mj_locktab.specs.Changes.{after_give_all}
use Rattle.mj_jobs.specs.Rows.{Rows, with_ended}
use Rattle.mj_sys.specs.Devices.{Devices}
use Rattle.mj_sys.specs.Shared.{halted}
use Rattle.mj_sys.specs.Kept.{Service, devices_of, without}
use Rattle.mj_sys.proofs.Placed.{freed_all}
use Rattle.mj_sys.proofs.Together.{with_holders, with_rows, length-ended}
use Rattle.mj_sys.proofs.shared.Shared.halt.Given.{Over}
use Rattle.mj_sys.proofs.shared.Shared.halt.Goals as goal

-- the holders that are left
holders_are : (g : Over) (c : goal.After-end g) → (with_items c.self.inside.holders c.release_all.new.holders).items ≡ map (without c.args.job) c.self.inside.holders.items
holders_are g c =
    let new = c.release_all.ensures ∙ ap (λ l. map (without c.args.job) l) c.deref_mut.ensures.value in
    let long : length c.release_all.new.holders ≡ c.self.inside.holders.len =
    ap (λ l. length l) new ∙ length-map c.self.inside.holders.items (without c.args.job) ∙ sym c.self.inside.holders.ok.0 in
    with_items_is c.self.inside.holders c.release_all.new.holders long ∙ new

pub invariant_of-self : goal.invariant_of-self
invariant_of-self g c =
    let i = c.self.inside in
    let ended : Rows = c.end.new.self in
    let t = with_rows i.principals i.pool i.holders.items i.jobs ended c.self.invariant
    (ap (λ (r : Rows). length r.rows) c.end.ensures ∙ length-ended i.jobs.rows c.args.job) (ap (λ (r : Rows). r.claimed) c.end.ensures) in
    with_holders i.principals i.pool i.holders.items _ ended t
    (ap (λ l. length l) (holders_are g c) ∙ length-map i.holders.items (without c.args.job))

pub returns : goal.returns
returns g c =
    let i = c.self.inside in
    let job = c.args.job in
    let closing : Service → Service = λ v. record { state = halted v.state job; claimed = v.claimed } in
    let of : Locks → List (Option ℕ) → Rows → Service = λ locks holders jobs. record {
      state = record { globals = i.transacted.globals; locks = locks; devices = devices_of i.principals i.pool holders; rows = jobs.rows; transactions = i.transacted.transactions };
      claimed = jobs.claimed;
    } in
    let of_devices : Devices → Service = λ d. record {
      state = record { globals = i.transacted.globals; locks = after_give_all i.locks.holds job; devices = d; rows = with_ended i.jobs.rows job; transactions = i.transacted.transactions };
      claimed = i.jobs.claimed;
    } in
    let ended : Rows = c.end.new.self in
    ap (λ locks. of locks (with_items i.holders c.release_all.new.holders).items ended) c.give_all.ensures.after
    ∙ ap (λ l. of (after_give_all i.locks.holds job) l ended) (holders_are g c)
    ∙ ap (λ r. of (after_give_all i.locks.holds job) (map (without job) i.holders.items) r) c.end.ensures
    ∙ ap (λ d. of_devices d) (sym (freed_all i.principals job i.pool i.holders.items))
    ∙ ap closing c.self.view_is
