use Rattle.std.proofs.Common.{◌≡◌, List, reverse, length, sym, ap, ◌∙◌, arith}
use Rattle.std.proofs.lemmas.List.{length-reverse}
use Rattle.mj_locals.specs.Groups.{Group}
use Rattle.mj_locals.proofs.Marks.{length_divided}
use Rattle.mj_locals.proofs.trail.Trail.height.Goals as goal

pub returns : goal.returns
returns c =
    let n : length c.args.self.now ≡ length c.self.inside.marks.items =
    sym (ap (λ (gs : List Group). length gs) c.self.view_is) ∙ length_divided (reverse c.self.inside.marks.items) c.self.inside.pairs.items ∙ length-reverse c.self.inside.marks.items in
    omega (arith, c.len.ensures, n, c.self.inside.marks.ok)
