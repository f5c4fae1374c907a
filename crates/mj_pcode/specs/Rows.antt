-- How labels are kept beside their map.
use Rattle.std.specs.Prelude.{◌≡◌, ℕ, List, Some, All}
use Rattle.mj_pcode.specs.Labels.{Labels, line_with}

-- each row has a label of the map, and its line
abbrev pub IsRow : Labels → List ℕ × ℕ → Type 0
IsRow labels row = line_with row.0 labels ≡ Some row.1

abbrev pub AreRows : Labels → List (List ℕ × ℕ) → Type 0
AreRows labels rows = All (IsRow labels) rows
