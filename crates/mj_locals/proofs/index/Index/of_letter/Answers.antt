use Rattle.std.proofs.Common.{◌-◌, [], ◌∷◌, get_or, sym, ap, ◌∙◌, arith}
use Rattle.mj_locals.specs.Letters.{place_in}
use Rattle.mj_locals.proofs.index.Index.of_letter.Goals as goal

pub returns : goal.returns
returns c =
    ap (place_in (c.args.letter ∷ [])) (sym c.self.view_is)
    ∙ c.self.invariant c.args.letter (c.from-next.result - 1) (ap (λ k. get_or c.self.inside.letters k 0) (sym c.from.ensures) ∙ sym c.from-next.ensures ∙ omega (arith, c.if-next-eq0.false))
