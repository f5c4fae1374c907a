-- The definitions at worked rows.
use Rattle.std.proofs.Common.{◌≡◌, ℕ, List, [], Some, None, Ok, Err, cond, false, nat_le, length, refl, ap}
use Rattle.std.specs.Prelude.{codes}
use Rattle.mj_text.specs.declared.fault.Fault.TheVariants.{Length}
use Rattle.mj_text.specs.declared.limit.Limit.TheVariants.{V1, V2}
use Rattle.mj_text.specs.Find.{find_from}
use Rattle.mj_text.specs.Limit.{within_limit, is_within}

first : find_from (codes "ABCABC") (codes "BC") 0 ≡ Some 1
first = refl

later : find_from (codes "ABCABC") (codes "BC") 2 ≡ Some 4
later = refl

at_start : find_from (codes "ABCABC") (codes "BC") 4 ≡ Some 4
at_start = refl

missing : find_from (codes "ABCABC") (codes "BC") 5 ≡ None
missing = refl

empty_part : find_from (codes "AB") [] 2 ≡ Some 2
empty_part = refl

empty_part_beyond : find_from (codes "AB") [] 3 ≡ None
empty_part_beyond = refl

empty_text : find_from [] (codes "A") 0 ≡ None
empty_text = refl

-- a text of 32,768 bytes is above the first limit, and within the second one, above which one of 1,048,577 bytes is
above_the_first : (s : List ℕ) → length s ≡ 32768 → within_limit V1 s ≡ Err Length
above_the_first s h = ap (λ n. cond (nat_le n 32767) (Ok s) (Err Length)) h

within_the_second : (s : List ℕ) → length s ≡ 32768 → within_limit V2 s ≡ Ok s
within_the_second s h = ap (λ n. cond (nat_le n 1048576) (Ok s) (Err Length)) h

above_the_second : (s : List ℕ) → length s ≡ 1048577 → within_limit V2 s ≡ Err Length
above_the_second s h = ap (λ n. cond (nat_le n 1048576) (Ok s) (Err Length)) h

not_within : (s : List ℕ) → length s ≡ 32768 → is_within V1 s ≡ false
not_within s h = ap (λ n. nat_le n 32767) h
