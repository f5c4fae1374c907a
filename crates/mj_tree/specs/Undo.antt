-- What a list of entries is once what was written to it is taken back.
use Rattle.std.specs.Prelude.{List, [], ◌∷◌, cond, Option, Some, None}
use Rattle.std.specs.declared.cmp.Ordering.{Ordering}
use Rattle.std.specs.Ordering.{eq_by_cmp}

-- an entry of a key before some entries, where there is a value
abbrev pub entry_before : {K V : Type 0} → K → Option V → List (K × V) → List (K × V)
entry_before k None es = es
entry_before k (Some v) es = (k, v) ∷ es

-- where the key p is there it gets a value in place of its own, or goes
abbrev pub restored : {K V : Type 0} → (K → K → Ordering) → K → Option V → List (K × V) → List (K × V)
restored R p value [] = []
restored R p value (e ∷ es) = cond (eq_by_cmp R p e.0) (entry_before e.0 value es) (e ∷ restored R p value es)

-- each of these keys, from the last one on, gets its value of before, or goes where it had none
abbrev pub undone : {K V : Type 0} → (K → K → Ordering) → List (K × Option V) → List (K × V) → List (K × V)
undone R [] es = es
undone R (w ∷ ws) es = restored R w.0 w.1 (undone R ws es)
