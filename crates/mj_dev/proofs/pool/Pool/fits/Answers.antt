use Rattle.std.proofs.Common.{◌≡◌, ap, ◌∙◌, arith, lit<}
use Rattle.std.proofs.lemmas.Bool.Decides.{nat_tests}
use Rattle.std.proofs.lemmas.Fmt.{decimal_digit}
use Rattle.mj_dev.specs.Shelves.{left_of, principal}
use Rattle.mj_dev.proofs.pool.Pool.fits.Goals as goal

pub returns : goal.returns
returns g c =
    let left : c.left-2.result ≡ left_of principal c.args.self.now = c.left-2.ensures ∙ ap (λ name. left_of name c.args.self.now) (c.from_number.ensures ∙ decimal_digit 0 (lit< tt)) in
    rw (← left) (grind (arith, nat_tests))
