-- A line ends at the first byte 10.
use Rattle.std.proofs.Common.{arith, eq-eqb, get_or}
use Rattle.mj_gfile.proofs.Lines.{first_line, parts_of_line, no_end}
use Rattle.mj_gfile.proofs.line.split_line.Goals as goal

pub returns-in_default : goal.returns-in_default
returns-in_default c = no_end c.args.bytes.now (λ k h e. c.in_default.ensures k (omega arith) h (eq-eqb (get_or c.args.bytes.now k 0) 10 e))

pub returns : goal.returns
returns c =
    let at = c.in-Some.ensures in (
      first_line c.args.bytes.now c.in-Some.place at.0.high at.1 (λ k h e. at.0.before k (omega arith) h (eq-eqb (get_or c.args.bytes.now k 0) 10 e)),
      parts_of_line c.args.bytes.now c.in-Some.place at.0.high,
    )
