use Rattle.std.proofs.Common.{◌++◌, ◌∷◌, [], arith}
use Rattle.mj_hints.proofs.Lines.{cut_none, cut_more, few_lines}
use Rattle.mj_hints.proofs.text.cut_behind.Goals as goal

pub lines-init : goal.lines-init
lines-init c = record { count = omega arith; short = omega arith; behind = ([], cut_none c.args.bytes.now) }

pub lines-preserved : goal.lines-preserved
lines-preserved c =
    let b = c.lines.invariant.behind in
    record {
      count = omega arith;
      short = omega (arith, c.in-Some.ensures.shorter);
      behind = (
        b.0 ++ (c.in-Some._line.now ++ 10 ∷ []),
        cut_more c.lines.count c.args.bytes.now b.0 c.lines.rest.now c.in-Some._line.now c.in-Some.behind.now b.1 c.in-Some.ensures.one c.in-Some.ensures.all,
      );
    }

pub returns-in_default-clause-cut : goal.returns-in_default-clause-cut
returns-in_default-clause-cut c =
    let b = c.lines.invariant.behind in
    omega (arith, few_lines c.lines.count c.args.bytes.now b.0 c.lines.rest.now b.1 c.in_default.ensures.last)
