-- Worked rows of the definitions.
use Rattle.std.proofs.Common.{◌≡◌, ℕ, true, false, List, [], ◌∷◌, Some, None, pos, negsuc, refl}
use Rattle.std.specs.Prelude.{codes}
use Rattle.mj_subs.specs.Name.{Name}
use Rattle.mj_nref.specs.Spelling.{name_text, part_at}
use Rattle.mj_nref.specs.Reading.{name_of, subscripts_of}

-- ^A("x""y",2)
abbrev quoted : Name
quoted = record { global = true; word = codes "A"; subscripts = (120 ∷ 34 ∷ 121 ∷ []) ∷ codes "2" ∷ [] }

abbrev quoted_text : List ℕ
quoted_text = 94 ∷ 65 ∷ 40 ∷ 34 ∷ 120 ∷ 34 ∷ 34 ∷ 121 ∷ 34 ∷ 44 ∷ 50 ∷ 41 ∷ []

spells_quoted : name_text quoted ≡ quoted_text
spells_quoted = refl

reads_quoted : name_of quoted_text ≡ Some quoted
unfolding subscripts_of
reads_quoted = refl

reads_word : name_of (codes "%1") ≡ Some (record { global = false; word = codes "%1"; subscripts = [] })
unfolding subscripts_of
reads_word = refl

-- 01 isn't bare, 1 isn't quoted, no subscript is empty, nothing follows the parenthesis
no_zero_one : name_of (codes "^A(01)") ≡ None
unfolding subscripts_of
no_zero_one = refl

no_quoted_one : name_of (65 ∷ 40 ∷ 34 ∷ 49 ∷ 34 ∷ 41 ∷ []) ≡ None
unfolding subscripts_of
no_quoted_one = refl

no_empty : name_of (65 ∷ 40 ∷ 34 ∷ 34 ∷ 41 ∷ []) ≡ None
unfolding subscripts_of
no_empty = refl

no_list : name_of (codes "A()") ≡ None
unfolding subscripts_of
no_list = refl

no_tail : name_of (codes "A(1) ") ≡ None
unfolding subscripts_of
no_tail = refl

no_word : name_of (codes "^1(1)") ≡ None
unfolding subscripts_of
no_word = refl

no_naked : name_of (codes "^(1)") ≡ None
unfolding subscripts_of
no_naked = refl

-- 0 is the word with its `^`, 1 the first subscript, and 3 and -1 are empty here
part_0 : part_at quoted (pos 0) ≡ codes "^A"
part_0 = refl

part_2 : part_at quoted (pos 2) ≡ codes "2"
part_2 = refl

part_3 : part_at quoted (pos 3) ≡ []
part_3 = refl

part_minus_1 : part_at quoted (negsuc 0) ≡ []
part_minus_1 = refl
