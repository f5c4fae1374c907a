-- What keeps to a limit.
use Rattle.std.proofs.Common.{◌≡◌, ℕ, ◌≤◌, ◌<◌, List, length, Ok, Err, arith}
use Rattle.std.proofs.lemmas.Bool.{cond-true, cond-false, le-leb, lt-leb}
use Rattle.mj_text.specs.declared.fault.Fault.TheVariants.{Length}
use Rattle.mj_text.specs.declared.limit.Limit.{Limit}
use Rattle.mj_text.specs.declared.limit.Limit.TheVariants.{V1, V2}
use Rattle.mj_text.specs.declared.text.TheConstants.{TEXT_LIMIT}
use Rattle.mj_text.specs.Limit.{most_bytes, within_limit}

-- no limit is above that of all texts, nor below the first one
pub most_below : (limit : Limit) → most_bytes limit ≤ TEXT_LIMIT
most_below V1 = omega arith
most_below V2 = omega arith

pub most_above : (limit : Limit) → 32767 ≤ most_bytes limit
most_above V1 = omega arith
most_above V2 = omega arith

pub fits_limit : (limit : Limit) (s : List ℕ) → length s ≤ most_bytes limit → within_limit limit s ≡ Ok s
fits_limit limit s h = cond-true _ _ _ (le-leb _ _ h)

pub above_limit : (limit : Limit) (s : List ℕ) → most_bytes limit < length s → within_limit limit s ≡ Err Length
above_limit limit s h = cond-false _ _ _ (lt-leb _ _ h)
