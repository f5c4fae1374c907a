-- Lines that are listed, if there are any.
use Rattle.std.specs.Prelude.{ℕ, List, [], ◌∷◌, codes}
use Rattle.mj_dialogue.specs.Lines.{lined}

-- they, or that there are none
abbrev pub or_nothing : List ℕ → List ℕ
or_nothing [] = lined (codes "none")
or_nothing (byte ∷ bytes) = byte ∷ bytes

-- they, or a mark where there are none
abbrev pub or_mark : List ℕ → List ℕ
or_mark [] = lined (codes "-")
or_mark (byte ∷ bytes) = byte ∷ bytes
