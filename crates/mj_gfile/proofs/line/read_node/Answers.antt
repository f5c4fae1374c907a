-- What is said of a line, by what was read of it.
use Rattle.std.proofs.Common.{◌∙◌, sym, ap, cond, inr, Some, Ok, Err}
use Rattle.std.specs.Option.{option_copied}
use Rattle.mj_gfile.specs.declared.error.ReadError.TheVariants as error
use Rattle.mj_gfile.specs.Reading.{line_of}
use Rattle.mj_gfile.proofs.Nodes.{judged_over, judged_within}
use Rattle.mj_gfile.proofs.line.read_node.Goals as goal

pub returns-in-Some-Over-clause-err : goal.returns-in-Some-Over-clause-err
returns-in-Some-Over-clause-err c =
    inr (judged_over c.args.limit (option_copied c.args.last) c.args.number (line_of c.args.line.now) (ap Some (sym c.in-Some-Over.field-0-is) ∙ sym c.in-Some-Over.is ∙ c.in_ok-read_line.ensures))

pub returns-then-is_after-clause-ok : goal.returns-then-is_after-clause-ok
returns-then-is_after-clause-ok c =
    judged_within c.args.limit (option_copied c.args.last) c.args.number c.in-Some-Within.node (line_of c.args.line.now)
    (ap Some (sym c.in-Some-Within.field-0-is) ∙ sym c.in-Some-Within.is ∙ c.in_ok-read_line.ensures)
    ∙ ap (λ b. cond b (Ok c.in-Some-Within.node) (Err (error.Order c.args.number))) (sym c.is_after.ensures ∙ c.if-is_after.true)
