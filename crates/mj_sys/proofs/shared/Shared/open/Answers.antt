use Rattle.std.proofs.Common.{◌≡◌, true, false, Some, None, refl, sym, ap, ◌∙◌, subst, ◌<◌, slice_set, get_or}
use Rattle.mj_ask.specs.declared.ask.SharedAsk.TheVariants as shared_asks
use Rattle.mj_ask.specs.declared.ask.Reply.TheVariants as replies
use Rattle.std.specs.List.{position}
use Rattle.std.specs.Str.{bytes_eq}
use Rattle.std.proofs.lemmas.List.{length-set}
use Rattle.std.proofs.lemmas.Option.{same_Some}
use Rattle.mj_dev.specs.Shelves.{principal, is_named}
use Rattle.mj_sys.specs.Devices.{Devices, device_at}
use Rattle.mj_sys.specs.Opening.{device_of}
use Rattle.mj_sys.specs.Shared.{Shared, answered, moves_session}
use Rattle.mj_sys.specs.Kept.{Service, devices_of}
use Rattle.mj_sys.proofs.Placed.{placed, device_absent, opened_there, none_left, some_left}
use Rattle.mj_sys.proofs.Together.{with_session}
use Rattle.mj_sys.proofs.Opens.{own_principal, unknown, used_up, got, own, others}
use Rattle.mj_sys.proofs.shared.Shared.open.Goals as goal

pub returns-then-is_principal-clause-ok : goal.returns-then-is_principal-clause-ok
returns-then-is_principal-clause-ok g c =
    let a = c.args in
    let e : bytes_eq a.name.now principal ≡ true = sym c.is_principal.ensures ∙ c.if-is_principal.true in
    let t = own_principal a.self.now.state a.job a.name.now a.timeout a.late e in
    (t.0, t.1, refl, refl)

pub returns-in_default-clause-ok : goal.returns-in_default-clause-ok
returns-in_default-clause-ok g c =
    let a = c.args in
    let i = c.self.inside in
    let e : bytes_eq a.name.now principal ≡ false = sym c.is_principal.ensures ∙ c.if-is_principal.false in
    let none : position (is_named a.name.now) i.pool ≡ None = sym c.place.ensures ∙ c.in_default.is in
    let absent : device_at a.self.now.state.devices a.name.now ≡ None =
    ap (λ (v : Service). device_at v.state.devices a.name.now) (sym c.self.view_is) ∙ device_absent i.principals a.name.now i.pool i.holders.items none in
    let t = unknown a.self.now.state a.job a.name.now a.timeout a.late e absent in
    (t.0, t.1, refl, refl)

pub invariant_of-self-in-Some-take : goal.invariant_of-self-in-Some-take
invariant_of-self-in-Some-take g c =
    let a = c.args in
    let i = c.self.inside in
    let e : bytes_eq a.name.now principal ≡ false = sym c.is_principal.ensures ∙ c.if-is_principal.false in
    let holders = slice_set i.holders.items c.in-Some.place (Some a.job) in
    rw c.in-Some-take.ensures.taken
    (with_session i.principals a.name.now i.pool i.holders.items holders i.jobs c.self.invariant (length-set i.holders.items c.in-Some.place (Some a.job)) e)

pub returns-in-None-take-clause-ok : goal.returns-in-None-take-clause-ok
returns-in-None-take-clause-ok g c =
    let a = c.args in
    let i = c.self.inside in
    let at = c.in-Some.place in
    let e : bytes_eq a.name.now principal ≡ false = sym c.is_principal.ensures ∙ c.if-is_principal.false in
    let there : position (is_named a.name.now) i.pool ≡ Some at = sym c.place.ensures ∙ c.in-Some.is in
    let p = placed i.principals a.name.now i.pool i.holders.items at c.index.result.now c.self.invariant.placed there e in
    let d = device_of i.principals p.shelf (get_or i.holders.items at c.index.result.now) in
    let of : Devices → Shared = λ l. record { globals = i.transacted.globals; locks = i.locks.holds; devices = l; rows = i.jobs.rows; transactions = i.transacted.transactions } in
    let s = of (devices_of i.principals i.pool i.holders.items) in
    let told = ap (λ (v : Service). answered v.state a.job (shared_asks.Open a.name.now a.timeout) a.late) (sym c.self.view_is) in
    let moves = ap (λ (v : Service). moves_session v.state (shared_asks.Open a.name.now a.timeout)) (sym c.self.view_is) in
    let t = used_up s a.job a.name.now a.timeout a.late d e p.device (sym c.index.ensures ∙ c.in-None.is)
    (none_left i.principals p.shelf None p.other (sym p.left ∙ c.in-None-take.ensures.none)) in
    let kept = ap (λ l. Some (replies.NoSession, of (devices_of i.principals l i.holders.items))) (sym c.in-None-take.ensures.kept) in
    (told ∙ t.0 ∙ kept, moves ∙ t.1, refl, ap (λ (v : Service). v.claimed) c.self.view_is)

pub returns-in-Some-take-clause-ok : goal.returns-in-Some-take-clause-ok
returns-in-Some-take-clause-ok g c =
    let a = c.args in
    let i = c.self.inside in
    let at = c.in-Some.place in
    let e : bytes_eq a.name.now principal ≡ false = sym c.is_principal.ensures ∙ c.if-is_principal.false in
    let there : position (is_named a.name.now) i.pool ≡ Some at = sym c.place.ensures ∙ c.in-Some.is in
    let p = placed i.principals a.name.now i.pool i.holders.items at c.index.result.now c.self.invariant.placed there e in
    let d = device_of i.principals p.shelf (get_or i.holders.items at c.index.result.now) in
    let of : Devices → Shared = λ l. record { globals = i.transacted.globals; locks = i.locks.holds; devices = l; rows = i.jobs.rows; transactions = i.transacted.transactions } in
    let s = of (devices_of i.principals i.pool i.holders.items) in
    let told = ap (λ (v : Service). answered v.state a.job (shared_asks.Open a.name.now a.timeout) a.late) (sym c.self.view_is) in
    let moves = ap (λ (v : Service). moves_session v.state (shared_asks.Open a.name.now a.timeout)) (sym c.self.view_is) in
    let t = got s a.job a.name.now a.timeout a.late d e p.device (sym c.index.ensures ∙ c.in-None.is)
    (some_left i.principals p.shelf None p.other (subst (λ n. 0 < n) p.left c.in-Some-take.ensures.some)) in
    let new = opened_there i.principals a.job a.name.now i.pool i.holders.items at p.shelf c.self.invariant.placed there p.here p.other (subst (λ n. 0 < n) p.left c.in-Some-take.ensures.some) in
    let left = ap (λ l. Some (replies.Got, of (devices_of i.principals l (slice_set i.holders.items at (Some a.job))))) (sym c.in-Some-take.ensures.taken) in
    (told ∙ t.0 ∙ ap (λ l. Some (replies.Got, of l)) new ∙ left, moves ∙ t.1, c.in-Some-take.ensures.new, ap (λ (v : Service). v.claimed) c.self.view_is)

pub returns-in-Some-index-clause-ok : goal.returns-in-Some-index-clause-ok
returns-in-Some-index-clause-ok g c =
    let a = c.args in
    let i = c.self.inside in
    let at = c.in-Some.place in
    let e : bytes_eq a.name.now principal ≡ false = sym c.is_principal.ensures ∙ c.if-is_principal.false in
    let there : position (is_named a.name.now) i.pool ≡ Some at = sym c.place.ensures ∙ c.in-Some.is in
    let p = placed i.principals a.name.now i.pool i.holders.items at c.index.result.now c.self.invariant.placed there e in
    let d = device_of i.principals p.shelf (get_or i.holders.items at c.index.result.now) in
    let devices = devices_of i.principals i.pool i.holders.items in
    let s : Shared = record {
      globals = i.transacted.globals;
      locks = i.locks.holds;
      devices = devices;
      rows = i.jobs.rows;
      transactions = i.transacted.transactions;
    } in
    let told = ap (λ (v : Service). answered v.state a.job (shared_asks.Open a.name.now a.timeout) a.late) (sym c.self.view_is) in
    let moves = ap (λ (v : Service). moves_session v.state (shared_asks.Open a.name.now a.timeout)) (sym c.self.view_is) in
    let t = own s a.job a.name.now a.timeout a.late d c.in-Some-index.holder e p.device (sym c.index.ensures ∙ c.in-Some-index.is) c.if-holder-job.true in
    (told ∙ t.0 ∙ ap (λ (v : Service). Some (replies.Got, v.state)) c.self.view_is, moves ∙ t.1, refl, refl)

pub returns-in_ok-try_clone-in-Some-2-clause-ok : goal.returns-in_ok-try_clone-in-Some-2-clause-ok
returns-in_ok-try_clone-in-Some-2-clause-ok g c =
    let a = c.args in
    let i = c.self.inside in
    let at = c.in-Some.place in
    let e : bytes_eq a.name.now principal ≡ false = sym c.is_principal.ensures ∙ c.if-is_principal.false in
    let there : position (is_named a.name.now) i.pool ≡ Some at = sym c.place.ensures ∙ c.in-Some.is in
    let p = placed i.principals a.name.now i.pool i.holders.items at c.index.result.now c.self.invariant.placed there e in
    let d = device_of i.principals p.shelf (get_or i.holders.items at c.index.result.now) in
    let devices = devices_of i.principals i.pool i.holders.items in
    let s : Shared = record {
      globals = i.transacted.globals;
      locks = i.locks.holds;
      devices = devices;
      rows = i.jobs.rows;
      transactions = i.transacted.transactions;
    } in
    let v : Service = record { state = s; claimed = i.jobs.claimed } in
    rw (← c.self.view_is, c.widened.ensures, c.busy.ensures)
    (others v a.job a.name.now a.timeout a.late d c.in-Some-2.holder c.in_ok-try_clone-in-Some-2.field-0 c.in_ok-try_clone-in-Some-2.ensures e p.device
    (sym c.index.ensures ∙ c.in-Some-2.is) (λ is. c.if-holder-job.false (same_Some c.in-Some-index.holder c.in-Some-2.holder (sym c.in-Some-index.is ∙ c.in-Some-2.is) ∙ is)))
