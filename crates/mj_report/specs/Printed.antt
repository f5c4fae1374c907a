-- What is printed of many jobs (this profile). Byte 10 ends a line.
use Rattle.std.specs.Prelude.{ℕ, zero, suc, ◌==◌, Bool, false, not, List, [], ◌∷◌, ◌++◌, reverse, decimal, codes, if◌then◌else◌}

-- there are bytes, and they don't end a line
abbrev pub lacks_end : List ℕ → Bool
lacks_end bytes = elim (reverse bytes) [ [] ↦ false | last ∷ _ ↦ not (last == 10) ]

-- what one job wrote, beside others: a line with its number, its bytes, and a line end where they lack it
abbrev pub part : ℕ → List ℕ → List ℕ
part job bytes = codes "--- job " ++ decimal job ++ 10 ∷ (bytes ++ (if lacks_end bytes then 10 ∷ [] else []))

-- what the first of many jobs wrote, in order of their numbers
abbrev pub parts : (ℕ → List ℕ) → ℕ → List ℕ
parts output zero = []
parts output (suc jobs) = parts output jobs ++ part (suc jobs) (output (suc jobs))

-- what is printed of so many jobs: of one its bytes alone
abbrev pub printed : (ℕ → List ℕ) → ℕ → List ℕ
printed output jobs = if jobs == 1 then output 1 else parts output jobs
