use Rattle.std.proofs.Common.{◌≡◌, false, Some, None, refl, sym, ap, ◌∙◌, get_or}
use Rattle.std.specs.Prelude.{nat_lt}
use Rattle.std.specs.List.{position}
use Rattle.std.specs.Str.{bytes_eq}
use Rattle.mj_ask.specs.declared.ask.SharedAsk.TheVariants as shared_asks
use Rattle.mj_dev.specs.Shelves.{principal, is_named}
use Rattle.mj_sys.specs.Devices.{device_at}
use Rattle.mj_sys.specs.Opening.{device_of}
use Rattle.mj_sys.specs.Shared.{Shared, moves_session}
use Rattle.mj_sys.specs.Kept.{Service, devices_of}
use Rattle.mj_sys.proofs.Placed.{placed, device_absent, by_left}
use Rattle.mj_sys.proofs.Opens.{unknown, own, free}
use Rattle.mj_sys.proofs.shared.Shared.takes_session.Goals as goal

pub returns-in_default-place : goal.returns-in_default-place
returns-in_default-place g c =
    let s = c.args.self.now.state in
    let i = c.self.inside in
    let name = c.in-Open.name in
    let e : bytes_eq name principal ≡ false = sym c.is_principal.ensures ∙ c.if-is_principal.false in
    let none : position (is_named name) i.pool ≡ None = sym c.place.ensures ∙ c.in_default-place.is in
    let absent : device_at s.devices name ≡ None = ap (λ (v : Service). device_at v.state.devices name) (sym c.self.view_is) ∙ device_absent i.principals name i.pool i.holders.items none in
    sym (ap (moves_session s) c.in-Open.is ∙ (unknown s 0 name c.in-Open.field-1 false e absent).1)

pub returns-in-None : goal.returns-in-None
returns-in-None g c =
    let i = c.self.inside in
    let name = c.in-Open.name in
    let e : bytes_eq name principal ≡ false = sym c.is_principal.ensures ∙ c.if-is_principal.false in
    let there : position (is_named name) i.pool ≡ Some c.in-Some.place = sym c.place.ensures ∙ c.in-Some.is in
    let p = placed i.principals name i.pool i.holders.items c.in-Some.place c.index.result.now c.self.invariant.placed there e in
    let h = get_or i.holders.items c.in-Some.place c.index.result.now in
    let devices = devices_of i.principals i.pool i.holders.items in
    let s : Shared = record {
      globals = i.transacted.globals;
      locks = i.locks.holds;
      devices = devices;
      rows = i.jobs.rows;
      transactions = i.transacted.transactions;
    } in
    let moves = ap (λ (v : Service). moves_session v.state (shared_asks.Open name c.in-Open.field-1)) (sym c.self.view_is) in
    ap (nat_lt 0) (c.left.ensures ∙ p.left)
    ∙ sym (ap (moves_session c.args.self.now.state) c.in-Open.is ∙ moves
    ∙ free s name c.in-Open.field-1 (device_of i.principals p.shelf h) e p.device (sym c.index.ensures ∙ c.in-None.is) ∙ by_left i.principals p.shelf h p.other)

pub returns-in-Some-index : goal.returns-in-Some-index
returns-in-Some-index g c =
    let i = c.self.inside in
    let name = c.in-Open.name in
    let e : bytes_eq name principal ≡ false = sym c.is_principal.ensures ∙ c.if-is_principal.false in
    let there : position (is_named name) i.pool ≡ Some c.in-Some.place = sym c.place.ensures ∙ c.in-Some.is in
    let p = placed i.principals name i.pool i.holders.items c.in-Some.place c.index.result.now c.self.invariant.placed there e in
    let h = get_or i.holders.items c.in-Some.place c.index.result.now in
    let devices = devices_of i.principals i.pool i.holders.items in
    let s : Shared = record {
      globals = i.transacted.globals;
      locks = i.locks.holds;
      devices = devices;
      rows = i.jobs.rows;
      transactions = i.transacted.transactions;
    } in
    let moves = ap (λ (v : Service). moves_session v.state (shared_asks.Open name c.in-Open.field-1)) (sym c.self.view_is) in
    let holder = c.in-Some-index.field-0 in
    sym (ap (moves_session c.args.self.now.state) c.in-Open.is ∙ moves
    ∙ (own s holder name c.in-Open.field-1 false (device_of i.principals p.shelf h) holder e p.device (sym c.index.ensures ∙ c.in-Some-index.is) refl).1)
