-- The name of a routine, by the path of its file (this profile).
use Rattle.std.specs.Prelude.{ℕ, Bool, ◌==◌, List, [], ◌∷◌, length, if◌then◌else◌}
use Rattle.std.specs.List.{before_last, after_last}

-- the byte of `/`
abbrev pub is_slash : ℕ → Bool
is_slash b = b == 47

-- the byte of `.`
abbrev pub is_point : ℕ → Bool
is_point b = b == 46

-- what a name says before its last point: all, where it has none or begins with it
abbrev pub stem_of : List ℕ → List ℕ
stem_of name = if length (before_last is_point name) == 0 then name else before_last is_point name

-- a first `_` stands for `%`
abbrev pub with_percent : List ℕ → List ℕ
with_percent [] = []
with_percent (b ∷ bs) = (if b == 95 then 37 else b) ∷ bs

-- the name of the routine in the file at a path: the stem of what stands behind the last `/`
abbrev pub name_at : List ℕ → List ℕ
name_at path = with_percent (stem_of (after_last is_slash path))
