use Rattle.std.proofs.Common.{◌≡◌, true, false, [], ◌∷◌, sym, ap, ◌∙◌}
use Rattle.mj_asm.specs.Code.{plain_shape}
use Rattle.mj_asm.proofs.expr.plain.Goals as goal

pub returns-then-given : goal.returns-then-given
returns-then-given c =
    let is : c.args.shape ≡ true ∷ [] = sym c.as_slice.ensures ∙ c.in-Some.ensures.one ∙ ap (λ b. b ∷ []) c.if-given.true in
    is ∙ sym (ap plain_shape is)

pub returns : goal.returns
returns c =
    let is : c.args.shape ≡ false ∷ [] = sym c.as_slice.ensures ∙ c.in-Some.ensures.one ∙ ap (λ b. b ∷ []) c.if-given.false in
    c.clear.ensures ∙ sym (ap plain_shape is)
