-- Numbers that are spelled can be read.
use Rattle.std.proofs.Common.{◌≡◌, ℕ, ◌<◌, ◌^◌, List, sym, ◌∙◌, subst, arith, decimal, Result, Ok}
use Rattle.std.specs.Str.{IsUtf8}
use Rattle.std.specs.Str.Parse.{ParsesUnsigned}
use Rattle.std.proofs.lemmas.Str.{IsUtf8-from_ascii}
use Rattle.std.proofs.lemmas.Fmt.{IsAscii-decimal, parse-decimal}

pub is_text : (digits : List ℕ) (n : ℕ) → n < 2 ^ 32 → digits ≡ decimal n → IsUtf8 digits
is_text digits n h e = subst IsUtf8 (sym e) (IsUtf8-from_ascii (decimal n) (IsAscii-decimal n (omega (arith, h))))

pub is_read : {E : Type 0} (text digits : List ℕ) (n : ℕ) (r : Result ℕ E) → text ≡ digits → n < 2 ^ 32 → digits ≡ decimal n → ParsesUnsigned 32 10 text r → r ≡ Ok n
is_read text digits n r same h e parses = parse-decimal 32 n text r (omega (arith, h)) (omega (arith, h)) (same ∙ e) parses
