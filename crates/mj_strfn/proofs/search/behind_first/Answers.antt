use Rattle.std.proofs.lemmas.List.{take_rest}
use Rattle.mj_strfn.proofs.PieceLaws.{first_found, none_found}
use Rattle.mj_strfn.proofs.search.behind_first.Goals as goal

pub returns-in_err-place : goal.returns-in_err-place
returns-in_err-place c = rw c.from_residual.ensures (none_found _ _ c.requires c.in_err-place.ensures)

pub returns : goal.returns
returns c = rw (c.needle.ensures, take_rest) (first_found _ _ _ c.requires c.in_ok-place.ensures)
