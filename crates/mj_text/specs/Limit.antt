-- How many bytes a text may have.
use Rattle.std.specs.Prelude.{ℕ, nat_le, Bool, true, List, length, Result, Ok, Err, if◌then◌else◌}
use Rattle.std.specs.List.{list_all}
use Rattle.mj_text.specs.declared.fault.Fault.{Fault}
use Rattle.mj_text.specs.declared.fault.Fault.TheVariants.{Length}
use Rattle.mj_text.specs.declared.text.TheConstants.{TEXT_LIMIT}
use Rattle.mj_text.specs.declared.limit.Limit.{Limit}
use Rattle.mj_text.specs.declared.limit.Limit.TheVariants.{V1, V2}

-- the greatest number of bytes of a text (this profile)
abbrev pub most_bytes : Limit → ℕ
most_bytes V1 = 32767
most_bytes V2 = TEXT_LIMIT

-- the smaller of two limits
abbrev pub smaller : Limit → Limit → Limit
smaller V1 other = V1
smaller V2 other = other

-- bytes that were put together as a text; more than the limit are LENGTH
abbrev pub within_limit : Limit → List ℕ → Result (List ℕ) Fault
within_limit limit s = if nat_le (length s) (most_bytes limit) then Ok s else Err Length

-- whether a text that there is already is one of the limit. No text is above the greater one.
abbrev pub is_within : Limit → List ℕ → Bool
is_within V1 s = nat_le (length s) (most_bytes V1)
is_within V2 s = true

-- whether each of some texts is
abbrev pub are_within : Limit → List (List ℕ) → Bool
are_within limit ss = list_all (is_within limit) ss
