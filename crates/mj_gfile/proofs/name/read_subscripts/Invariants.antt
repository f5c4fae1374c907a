use Rattle.std.proofs.Common.{◌≡◌, ◌-◌, List, ℕ, length}
use Rattle.mj_gfile.specs.Reading.{subscripts_of, subscripts_at}
use Rattle.mj_gfile.specs.Listing.{limited, are_small}
use Rattle.mj_gfile.proofs.Joined.{joined_list}
use Rattle.mj_gfile.proofs.name.read_subscripts.Given as goal

-- the subscripts so far and those to come are all
abbrev pub invariant-loop-place : goal.invariant-loop-place
invariant-loop-place l =
    (list : List (List ℕ)) × ((subscripts_at l.list ≡ joined_list list (subscripts_of (length l.list - l._place) l.rest)) × (l.subs ≡ limited (are_small l.limit list) list))
