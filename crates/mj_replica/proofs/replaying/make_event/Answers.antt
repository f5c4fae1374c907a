use Rattle.std.proofs.Common.{◌≡◌, List, length, true, false, sym, ap, ◌∙◌, subst}
use Rattle.std.specs.Prelude.{IfOk}
use Rattle.std.proofs.lemmas.List.{with_items_is}
use Rattle.mj_jobs.specs.Rows.{IsLive}
use Rattle.mj_sys.specs.declared.event.Event.{Event}
use Rattle.mj_sys.specs.History.{History, state_of}
use Rattle.mj_replica.specs.Playing.{Playing, AreStaged, Stages}
use Rattle.mj_replica.proofs.Staging.{dead}
use Rattle.mj_replica.proofs.Rounds.{live_within, live_numbered}
use Rattle.mj_replica.proofs.replaying.make_event.Goals as goal

pub returns-then-not-is_live : goal.returns-then-not-is_live
returns-then-not-is_live g c = λ history staged.
    dead c.args.image.now g.O.Opening.opening history c.args.system.now c.args.jobs.now.items staged (record { job = c.args.job; ask = c.args.ask.now; reply = c.args.reply.now })
    (λ live. (let no : true ≡ false = sym (c.is_live.ensures.1 live) ∙ c.if-not-is_live.true in cc))

pub admit-requires-clause-row : goal.admit-requires-clause-row
admit-requires-clause-row g c = live_within (state_of g.O.Opening.opening c.args.system.now.history).rows c.args.job (c.is_live.ensures.0 c.if-not-is_live.false)

pub make_of-requires-clause-numbered : goal.make_of-requires-clause-numbered
make_of-requires-clause-numbered g c = live_numbered (state_of g.O.Opening.opening c.args.system.now.history).rows c.args.job (c.is_live.ensures.0 c.if-not-is_live.false)

pub make_of-requires-clause-staged : goal.make_of-requires-clause-staged
make_of-requires-clause-staged g c =
    let history = c.requires.staged.0 in
    let S : List Playing → Type 0 = λ l. AreStaged c.args.image.now g.O.Opening.opening history c.admit.new.system l in
    (history, subst S (sym c.deref_mut.ensures.value) (c.in_ok-admit.ensures.staged history c.requires.staged.1))

pub make_of-requires-clause-live : goal.make_of-requires-clause-live
make_of-requires-clause-live g c =
    let L : History → Type 0 = λ h. IsLive (state_of g.O.Opening.opening h).rows c.args.job in
    subst L (sym c.admit.ensures.history) (c.is_live.ensures.0 c.if-not-is_live.false)

pub returns : goal.returns
returns g c = λ history staged.
    let S : List Playing → Type 0 = λ l. AreStaged c.args.image.now g.O.Opening.opening history c.admit.new.system l in
    let e : Event = record { job = c.args.job; ask = c.args.ask.now; reply = c.args.reply.now } in
    let J : List Playing → Type 0 = λ l. IfOk c.make_of.result (λ made. Stages c.args.image.now g.O.Opening.opening history e made c.make_of.new.system l) in
    subst J (sym (with_items_is c.admit.new.jobs c.make_of.new.jobs (c.make_of.auto.jobs ∙ ap (λ l. length l) c.deref_mut.ensures.value ∙ sym c.admit.new.jobs.ok.0)))
    (c.make_of.ensures history (subst S (sym c.deref_mut.ensures.value) (c.in_ok-admit.ensures.staged history staged)))
