-- The names that words give devices.
use Rattle.std.specs.Prelude.{ℕ, List, [], ◌∷◌, map}
use Rattle.std.specs.List.{before_first}
use Rattle.std.specs.Borrow.{Bor}
use Rattle.mj_files.specs.Named.{is_equals}

-- what stands before the first `=` of each word
abbrev pub names_in : List (Bor (List ℕ)) → List (List ℕ)
names_in words = map (λ word. before_first is_equals word.now) words
