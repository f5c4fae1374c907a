-- Why jobs that workers ran stopped before their end.
use Rattle.std.specs.Prelude.{List, [], ◌∷◌, Bool, true, false, ◌||◌, Option, Some, None, if◌then◌else◌}
use Rattle.std.specs.List.{list_any}
use Rattle.mj_gather.specs.Rans.{Kept}
use Rattle.mj_gather.specs.declared.ran.Stop.{Stop}
use Rattle.mj_gather.specs.declared.ran.Stop.TheVariants as stops
use Rattle.mj_threads.specs.declared.cuts.Cut.{Cut}
use Rattle.mj_threads.specs.declared.cuts.Cut.TheVariants as cuts

-- two stops are the same
abbrev pub is_stop : Stop → Stop → Bool
is_stop stops.Ended stops.Ended = true
is_stop stops.Full stops.Full = true
is_stop stops.Memory stops.Memory = true
is_stop stops.Refused stops.Refused = true
is_stop _ _ = false

-- one of these jobs stopped so
abbrev pub was : List Kept → Stop → Bool
was rans stop = list_any (λ r. is_stop r.stop stop) rans

-- the first of these that stopped refused, if one did: as it wasn't its turn, as nobody could answer what it asked, or as it asked behind its halt
abbrev pub first_refused : List Kept → Option Cut
first_refused [] = None
first_refused (r ∷ rans) = if is_stop r.stop stops.Refused then Some (cuts.Refused r.claim.job) else first_refused rans

-- Why jobs stopped before their end, if some did: for want of memory, be it that of a claim; or since the history was full; or as one was refused.
abbrev pub cut_of : List Kept → Bool → Option Cut
cut_of rans short =
    if short || was rans stops.Memory then Some cuts.Memory else if was rans stops.Full then Some cuts.Full else first_refused rans
