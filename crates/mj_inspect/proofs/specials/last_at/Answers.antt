use Rattle.std.proofs.Common.{◌∙◌, refl, sym, ap}
use Rattle.std.specs.Prelude.{option_map}
use Rattle.mj_inspect.proofs.Started.{last_here, last_before}
use Rattle.mj_inspect.proofs.specials.last_at.Goals as goal

pub returns-in-Some : goal.returns-in-Some
returns-in-Some g c =
    last_here c.args.number c.args.core.now.history c.args.at _ _ _ (sym (ap (option_map (λ own. (own.0.now, own.1.now))) c.in-Some.is)) c.own_event.ensures

pub returns-in-None : goal.returns-in-None
returns-in-None g c =
    last_before c.args.number c.args.core.now.history c.args.at c.args.last
    (sym (ap (option_map (λ own. (own.0.now, own.1.now))) c.in-None.is) ∙ c.own_event.ensures) c.requires
