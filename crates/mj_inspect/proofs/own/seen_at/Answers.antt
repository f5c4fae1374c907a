use Rattle.std.proofs.Common.{◌≡◌, ◌∙◌, Option, sym, ap}
use Rattle.std.specs.Prelude.{option_map}
use Rattle.std.proofs.lemmas.Result.{IfOk-weaker}
use Rattle.mj_inspect.specs.Own.{seen_on}
use Rattle.mj_inspect.proofs.own.seen_at.Goals as goal

pub returns-in-Some : goal.returns-in-Some
returns-in-Some g c =
    let own = sym (ap (option_map (λ own. (own.0.now, own.1.now))) c.in-Some.is) ∙ c.own_event.ensures in
    let before = option_map (λ globals. globals.content) c.args.own in
    IfOk-weaker c.seen_behind.result _ _ (λ seen is. is ∙ ap (seen_on c.args.globals.now.content before) own) c.seen_behind.ensures

pub returns-in-None : goal.returns-in-None
returns-in-None g c =
    let own = sym (ap (option_map (λ own. (own.0.now, own.1.now))) c.in-None.is) ∙ c.own_event.ensures in
    ap (seen_on c.args.globals.now.content (option_map (λ globals. globals.content) c.args.own)) own
