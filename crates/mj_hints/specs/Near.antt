-- Words that are nearly another (this profile).
use Rattle.std.specs.Prelude.{ℕ, ◌==◌, nat_le, Bool, false, ◌&&◌, ◌||◌, if◌then◌else◌, List, [], ◌∷◌, length, find, Option, bytes_eq, nat_eq, codes}
use Rattle.std.specs.List.{starts_with}

-- two bytes that stand side by side have changed places, and the rest is the same
abbrev pub is_swapped : ℕ → List ℕ → ℕ → List ℕ → Bool
is_swapped b [] c cs = false
is_swapped b (d ∷ bs) c [] = false
is_swapped b (d ∷ bs) c (e ∷ cs) = b == e && (d == c && bytes_eq bs cs)

-- from the first byte that differs on: another byte stands there, or one more, or one less, or two have changed places
abbrev pub is_slipped : ℕ → List ℕ → ℕ → List ℕ → Bool
is_slipped b bs c cs = bytes_eq bs cs || (bytes_eq bs (c ∷ cs) || (bytes_eq (b ∷ bs) cs || is_swapped b bs c cs))

-- the word is the name with one slip
abbrev pub is_slip : List ℕ → List ℕ → Bool
is_slip [] [] = false
is_slip [] (c ∷ cs) = bytes_eq [] cs
is_slip (b ∷ bs) [] = bytes_eq bs []
is_slip (b ∷ bs) (c ∷ cs) = if b == c then is_slip bs cs else is_slipped b bs c cs

-- The word, in capitals, is nearly the name: it is the name with one slip, or the front of it. A word of one or two bytes is nearly everything, so it counts as
-- nearly nothing.
abbrev pub is_near : List ℕ → List ℕ → Bool
is_near word name = nat_le 3 (length word) && (is_slip word name || starts_with nat_eq name word)

-- the first of the names that the word nearly is
abbrev pub near_of : List ℕ → List (List ℕ) → Option (List ℕ)
near_of word names = find (is_near word) names

-- ---- the words of the language, in capitals

abbrev pub function_names : List (List ℕ)
function_names =
    codes "$ASCII" ∷ codes "$CHAR" ∷ codes "$DATA" ∷ codes "$EXTRACT" ∷ codes "$FIND" ∷ codes "$GET" ∷ codes "$JUSTIFY" ∷ codes "$LENGTH" ∷
    codes "$NAME" ∷ codes "$ORDER" ∷ codes "$PIECE" ∷ codes "$QLENGTH" ∷ codes "$QSUBSCRIPT" ∷ codes "$QUERY" ∷ codes "$REVERSE" ∷ codes "$SELECT" ∷
    codes "$TRANSLATE" ∷ []

abbrev pub variable_names : List (List ℕ)
variable_names =
    codes "$IO" ∷ codes "$JOB" ∷ codes "$TEST" ∷ codes "$TLEVEL" ∷ codes "$TRESTART" ∷ codes "$X" ∷ codes "$Y" ∷ []

abbrev pub command_names : List (List ℕ)
command_names =
    codes "SET" ∷ codes "WRITE" ∷ codes "HALT" ∷ codes "HANG" ∷ codes "JOB" ∷ codes "LOCK" ∷ codes "KILL" ∷ codes "MERGE" ∷ codes "IF" ∷
    codes "ELSE" ∷ codes "FOR" ∷ codes "DO" ∷ codes "GOTO" ∷ codes "QUIT" ∷ codes "NEW" ∷ codes "OPEN" ∷ codes "USE" ∷ codes "CLOSE" ∷ codes "READ" ∷
    codes "TSTART" ∷ codes "TCOMMIT" ∷ codes "TRESTART" ∷ codes "TROLLBACK" ∷ codes "BREAK" ∷ []
