-- Words in capitals.
use Rattle.std.specs.Prelude.{ℕ, nat_le, Bool, true, ◌&&◌, List, [], ◌∷◌}

abbrev pub are_capitals : List ℕ → Bool
are_capitals [] = true
are_capitals (b ∷ bs) = (nat_le 65 b && nat_le b 90) && are_capitals bs
