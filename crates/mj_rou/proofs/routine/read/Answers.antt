use Rattle.std.proofs.Common.{◌+◌, ◌++◌, ◌∷◌, [], List, ℕ, refl, vec_len, arith}
use Rattle.mj_rou.specs.Read.{labels_of, and_label, label_seen, HoldsLabels}
use Rattle.mj_rou.proofs.Labels.{apart_none, kept_none}
use Rattle.mj_rou.proofs.Routines.{line_more, none_read, first_at, refused_at, too_many, ok_if, ok_then, routine_kept}
use Rattle.mj_rou.proofs.routine.read.Goals as goal

pub lines-init : goal.lines-init
lines-init c = record {
  count = omega (arith, c.new-lines.ensures.len);
  goes = ([], refl, none_read c.new-lines.result.items c.new-lines.ensures.items, apart_none, kept_none c.new-labels.result c.new-labels.ensures.empty);
}

pub returns-then-number-gt-ROUTINE_LIMIT-clause-refused : goal.returns-then-number-gt-ROUTINE_LIMIT-clause-refused
returns-then-number-gt-ROUTINE_LIMIT-clause-refused c =
    let g = c.lines.invariant.goes in
    let number = c.len-number.result + 1 in
    c.at_line.ensures c.args.name.now c.args.bytes.now c.in-Some.ensures.0 c.in-Some.ensures.1
    (too_many c.args.bytes.now number g.0 c.in-Some-first_line.line.now
    (first_at c.args.bytes.now c.lines.rest.now c.in-Some-first_line.behind.now c.in-Some-first_line.line.now g.0 c.lines.lines.items number g.1
    c.in-Some-first_line.ensures.lines g.2 g.3 (omega (arith, c.len-number.ensures, c.lines.lines.ok.0)))
    (omega (arith, c.len-number.ensures, c.lines.invariant.count, c.if-number-gt-ROUTINE_LIMIT.true)))

pub returns-in-Err-clause-refused : goal.returns-in-Err-clause-refused
returns-in-Err-clause-refused c =
    let g = c.lines.invariant.goes in
    let number = c.len-number.result + 1 in
    c.at_line-in-Err.ensures c.args.name.now c.args.bytes.now c.in-Some.ensures.0 c.in-Some.ensures.1
    (refused_at c.args.bytes.now number g.0 c.in-Some-first_line.line.now c.in-Err.refusal
    (first_at c.args.bytes.now c.lines.rest.now c.in-Some-first_line.behind.now c.in-Some-first_line.line.now g.0 c.lines.lines.items number g.1
    c.in-Some-first_line.ensures.lines g.2 g.3 (omega (arith, c.len-number.ensures, c.lines.lines.ok.0)))
    (omega (arith, c.if-number-gt-ROUTINE_LIMIT.false))
    (c.in-Err.ensures.refused (labels_of g.0) g.4))

pub lines-preserved : goal.lines-preserved
lines-preserved c = record {
  count = let n = ok_if c.push.result c.is_err.result (vec_len c.lines.lines + 1) (vec_len c.lines.lines) (vec_len c.push.new.self) c.push.ensures.len
      c.is_err.ensures.value c.if-is_err.false in omega (arith, c.len-number.ensures, c.if-number-gt-ROUTINE_LIMIT.false);
  goes =
      let g = c.lines.invariant.goes in
      line_more c.args.bytes.now c.lines.rest.now c.in-Some-first_line.behind.now c.in-Some-first_line.line.now g.0 c.lines.lines.items c.push.new.self.items
      c.in-Ok-line_tree.tree (label_seen c.in-Ok-line_tree.label) c.keep.new.labels g.1 g.2 g.3
      c.in-Some-first_line.ensures.lines (ok_if c.push.result c.is_err.result (c.lines.lines.items ++ c.in-Ok-line_tree.tree ∷
      []) c.lines.lines.items c.push.new.self.items c.push.ensures.items c.is_err.ensures.value c.if-is_err.false) c.in-Ok-line_tree.ensures.read
      (c.in-Ok-line_tree.ensures.apart (labels_of g.0) g.4) c.in-Ok-line_tree.ensures.label
      (ok_then c.keep.result c.is_err-else-is_err.result ((before : List (List ℕ)) → HoldsLabels before c.lines.labels →
      HoldsLabels (and_label before (label_seen c.in-Ok-line_tree.label)) c.keep.new.labels) c.keep.ensures c.is_err-else-is_err.ensures.value
      c.if-is_err-2.false (labels_of g.0) g.4);
}

pub returns-clause-read : goal.returns-clause-read
returns-clause-read c = (
  c.in-Some.ensures.0,
  routine_kept c.args.name.now c.args.bytes.now c.lines.rest.now c.lines.invariant.goes.0 c.in-Ok.name c.lines.lines.items c.in-Ok.ensures.ok
      c.lines.invariant.goes.1 c.in_default-first_line.ensures.lines c.lines.invariant.goes.2 c.lines.invariant.goes.3
      (omega (arith, c.lines.lines.ok.0, c.lines.invariant.count)),
)
