-- A line is a name and its text.
use Rattle.std.proofs.Common.{true}
use Rattle.mj_gfile.specs.Reading.{name_in, value_of}
use Rattle.mj_gfile.proofs.Nodes.{name_inverted, value_inverted, line_read}
use Rattle.mj_gfile.proofs.line.read_line.Goals as goal

pub returns : goal.returns
returns c =
    let n = name_inverted c.args.limit c.in-Some-2.name c.in-Some-2.tail.now (name_in true c.in-Some.rest.now) (rw c.in-Some-2.is at c.in_ok-name.ensures) in
    let t = value_inverted c.args.limit c.in-Some-3.text (value_of c.in-Some-2.tail.now) (rw c.in-Some-3.is at c.in_ok-text.ensures) in
    line_read c.args.limit c.args.line.now c.in-Some.rest.now c.in-Some.ensures n.0 c.in-Some-2.tail.now t.0 n.1.0 t.1.0 c.node_of.result (c.node_of.ensures c.args.limit n.0 t.0 n.1.1 t.1.1)
