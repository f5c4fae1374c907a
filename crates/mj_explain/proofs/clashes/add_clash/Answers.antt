use Rattle.std.proofs.Common.{◌≡◌, Some, All, ap, sym, ◌∙◌, subst}
use Rattle.std.proofs.lemmas.List.Elements.{All-push}
use Rattle.mj_ask.specs.declared.noted.Noted.{Noted}
use Rattle.mj_explain.specs.Clashes.{IsClash}
use Rattle.mj_explain.proofs.clashes.add_clash.Goals as goal

pub returns-clause-each : goal.returns-clause-each
returns-clause-each c = λ all.
    let e = c.args.event.now in
    let g = c.args.globals.now.content in
    let es = c.args.events.now in
    let whole : e ≡ record { job = e.job; spot = e.spot; ask = _; reply = _ } =
    λ i. record { job = e.job; spot = e.spot; ask = c.requires.is.0 i; reply = c.requires.is.1 i } in
    subst (All (IsClash g es)) (sym c.in_ok-push.ensures.items)
    (All-push (IsClash g es) c.args.clashes.now.items _ all (record {
      job = e.job;
      clash = _;
      ended = e.spot;
      commit = c.requires.there ∙ ap (λ (x : Noted). Some x) whole;
      why = c.in_ok-why.ensures;
    }))
