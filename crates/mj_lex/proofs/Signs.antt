-- Signs that go on with no other byte.
use Rattle.std.proofs.Common.{◌≡◌, ℕ, List, refl}
use Rattle.mj_ast.specs.declared.sign.Sign.{Sign}
use Rattle.mj_ast.specs.declared.sign.Sign.TheVariants.{CloseBracket, Apostrophe}
use Rattle.mj_ast.specs.Tokens.{longest_sign}

pub longest_other : (s : Sign) (bs : List ℕ) → (s ≡ CloseBracket → ⊥) → (s ≡ Apostrophe → ⊥) → longest_sign s bs ≡ (s, 0)
longest_other CloseBracket bs f g = absurd (f refl)
longest_other Apostrophe bs f g = absurd (g refl)
longest_other s bs f g = refl
