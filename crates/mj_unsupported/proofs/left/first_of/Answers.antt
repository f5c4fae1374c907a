use Rattle.std.proofs.Common.{sym, subst, List}
use Rattle.mj_ast.specs.declared.construct.Construct.{Construct}
use Rattle.mj_ast.specs.LeftOut.{StandsFor, IsFirstOf}
use Rattle.mj_lex.specs.Seen.{token_seen, tokens_seen}
use Rattle.mj_unsupported.proofs.Named.{passed}
use Rattle.mj_unsupported.proofs.Says.{when_not}
use Rattle.mj_unsupported.proofs.left.first_of.Goals as goal

pub rows-preserved : goal.rows-preserved
rows-preserved c =
    let front = tokens_seen c.args.front.now in
    let behind = tokens_seen c.args.behind.now in
    let t = token_seen c.args.token in
    let n = when_not c.in_ok-fits.field-0 (StandsFor c.in-Some.row front t behind) c.if-branch.false c.in_ok-fits.ensures in
    λ x h.
    let P : List Construct → Type 0 = λ rs. IsFirstOf rs front t behind x in
    c.rows.invariant x (subst P (sym c.in-Some.ensures.0) (passed c.in-Some.row c.in-Some.others.now front t behind x n h))
