use Rattle.std.proofs.Common.{◌∙◌, ◌+◌, arith}
use Rattle.mj_lex.specs.Seen.{tokens_seen}
use Rattle.mj_cmd.proofs.Front.{with_dots, no_dots, blanks_pass, dot_passes}
use Rattle.mj_cmd.proofs.lines.dots.Goals as goal

pub dots-init : goal.dots-init
dots-init c = record {
  goes = λ m o.
      blanks_pass m o c.behind_blanks.result.0 (tokens_seen c.args.tokens.now) (tokens_seen c.behind_blanks.result.1.now) c.behind_blanks.ensures.blanks
      ∙ no_dots m o (tokens_seen c.behind_blanks.result.1.now);
  bare = c.behind_blanks.ensures.none;
  falls = omega (arith, c.behind_blanks.ensures.count);
}

pub dots-preserved : goal.dots-preserved
dots-preserved c = record {
  goes = λ m o.
      c.dots.invariant.goes m o
      ∙ dot_passes m o c.dots.dots (tokens_seen c.dots.rest.now) (tokens_seen c.in-Some.behind.now) c.in-Some.ensures.0
      ∙ blanks_pass m (with_dots (c.dots.dots + 1) o) c.behind_blanks-in-Some.result.0 (tokens_seen c.in-Some.behind.now)
      (tokens_seen c.behind_blanks-in-Some.result.1.now) c.behind_blanks-in-Some.ensures.blanks;
  bare = c.behind_blanks-in-Some.ensures.none;
  falls = omega (arith, c.behind_blanks-in-Some.ensures.count, c.in-Some.ensures.1, c.dots.invariant.falls);
}
