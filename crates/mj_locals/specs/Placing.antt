-- How words have their places.
use Rattle.std.specs.Prelude.{◌≡◌, ℕ, ◌<◌, List, length, Some, Vec}
use Rattle.std.specs.Global.{Global}
use Rattle.std.specs.Ordering.{nat_cmp}
use Rattle.std.specs.Cmp.Lexicographic.{slice_cmp}
use Rattle.std.specs.Map.{lookup}
use Rattle.std.specs.BTreeMap.{is_at}
use Rattle.mj_locals.specs.declared.table.Table.TheInside.{Inside}
use Rattle.mj_locals.specs.Trees.{Trees, place_of, word_at, AreTrees}

-- the map leads from each word to its place, each place is that of its own word, and in each tree the subscripts rise
abbrev pub ArePlaced : List (Vec ℕ Global × ℕ) → Trees → Type 0
ArePlaced entries rows =
    ((w : List ℕ) → lookup (is_at (λ (k : Vec ℕ Global). slice_cmp nat_cmp w k.items)) entries ≡ place_of w rows)
    × ((p : ℕ) → p < length rows → place_of (word_at rows p) rows ≡ Some p)
    × AreTrees rows

abbrev pub IsPlaced : Inside → Type 0
IsPlaced a = ArePlaced a.places a.rows.items
