use Rattle.std.proofs.Common.{Option, Bor, Vec, subst, sym}
use Rattle.std.specs.Prelude.{IfOk, option_map}
use Rattle.std.specs.Global.{Global}
use Rattle.mj_steps.specs.declared.step.Step.{Step}
use Rattle.mj_explore.specs.declared.goals.Goal.{Goal}
use Rattle.mj_explore.specs.Found.{IsFoundFor}
use Rattle.mj_explore.proofs.exploring.shortened.Goals as goal

pub shorten-requires : goal.shorten-requires
shorten-requires g c =
    let P : Option (Bor Goal) → Type 0 = λ o.
    IsFoundFor c.args.script.now (option_map (λ (r : Bor Goal). r.now) o) c.args.finding g.O.Opening.opening c.args.steps.items in
    subst P c.in-Some.is c.requires.found

pub returns : goal.returns
returns g c =
    let P : Option (Bor Goal) → Type 0 = λ o.
    IfOk c.shorten.result (λ (v : Vec Step Global). IsFoundFor c.args.script.now (option_map (λ (r : Bor Goal). r.now) o) c.args.finding g.O.Opening.opening v.items) in
    subst P (sym c.in-Some.is) c.shorten.ensures.shows
