use Rattle.std.proofs.Common.{◌≡◌, Option, None, sym, ap, subst}
use Rattle.std.specs.Prelude.{option_copied}
use Rattle.mj_ask.specs.declared.ask.Reply.{Reply}
use Rattle.mj_core.specs.Recorded.{IsUnheard}
use Rattle.mj_core.proofs.by_record.HeedsAnswererFresh.answer.Goals as goal

pub returns-in-None : goal.returns-in-None
returns-in-None g c =
    let none : option_copied c.args.given ≡ None = ap option_copied c.in-None.is in
    ((λ s log has all held. (c.requires, (let U : Option Reply → Type 0 = λ o. IsUnheard log c.args.ask.now c.args.late o in subst U (sym none) tt), tt)), ((λ log all. all), (λ name has held. held)))
