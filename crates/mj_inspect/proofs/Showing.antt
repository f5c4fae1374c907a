-- What is shown of a variable, and lines that are listed.
use Rattle.std.proofs.Common.{◌≡◌, ◌==◌, ℕ, Bool, true, false, eqb-true, List, [], ◌∷◌, length, refl, sym, ◌∙◌, codes, arith}
use Rattle.mj_dialogue.specs.Lines.{lined}
use Rattle.mj_subs.specs.Name.{Name}
use Rattle.mj_sys.specs.Shared.{Shared}
use Rattle.mj_debug.specs.Walks.{Walk}
use Rattle.mj_inspect.specs.Listed.{or_mark, or_nothing}
use Rattle.mj_inspect.specs.Shows.{ShowsOf}

no_line : (byte : ℕ) (found : List ℕ) (empty : Bool) → empty ≡ (length (byte ∷ found) == 0) → empty ≡ true → ⊥
no_line byte found empty is on = let e : length (byte ∷ found) ≡ 0 = eqb-true (length (byte ∷ found)) 0 (sym is ∙ on) in omega (arith, e)

-- a mark where there are no lines
pub none_marked : (found shown : List ℕ) (empty : Bool) → empty ≡ (length found == 0) → empty ≡ true → shown ≡ lined (codes "-") → shown ≡ or_mark found
none_marked [] shown empty is on so = so
none_marked (b ∷ found) shown empty is on so = absurd (no_line b found empty is on)

-- else the lines
pub some_marked : (found : List ℕ) (empty : Bool) → empty ≡ (length found == 0) → empty ≡ false → found ≡ or_mark found
some_marked [] empty is off = let e : true ≡ false = sym is ∙ off in absurd cc
some_marked (b ∷ found) empty is off = refl

-- and that there are none
pub none_listed : (found shown : List ℕ) (empty : Bool) → empty ≡ (length found == 0) → empty ≡ true → shown ≡ lined (codes "none") → shown ≡ or_nothing found
none_listed [] shown empty is on so = so
none_listed (b ∷ found) shown empty is on so = absurd (no_line b found empty is on)

pub some_listed : (found : List ℕ) (empty : Bool) → empty ≡ (length found == 0) → empty ≡ false → found ≡ or_nothing found
some_listed [] empty is off = let e : true ≡ false = sym is ∙ off in absurd cc
some_listed (b ∷ found) empty is off = refl

-- what is shown is the same whether it was at hand before or not
pub shown_before : (global : Bool) (opening : Shared) (walk : Walk) (ready : Bool) (job : ℕ) (name : Name) (bytes : List ℕ)
    → ShowsOf global opening (record walk { ready = ready }) job name bytes → ShowsOf global opening walk job name bytes
shown_before true opening walk ready job name bytes is = is
shown_before false opening walk ready job name bytes is = is
