use Rattle.std.proofs.Common.{◌≡◌, Ok, take}
use Rattle.mj_strfn.specs.Functions.{bytes_of_codes}
use Rattle.mj_strfn.proofs.bytes.char_of_all.Given as goal

abbrev pub invariant-loop-code : goal.invariant-loop-code
invariant-loop-code l = bytes_of_codes (take l.code-index l.codes) ≡ Ok l.bytes.items
