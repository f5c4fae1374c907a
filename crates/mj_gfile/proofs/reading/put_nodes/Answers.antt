-- One line more is read.
use Rattle.std.proofs.Common.{◌≡◌, ◌+◌, sym, subst, arith, Option, None}
use Rattle.mj_subs.specs.Name.{Name}
use Rattle.mj_gfile.specs.Listing.{lines_of, nodes_of}
use Rattle.mj_gfile.proofs.InOrder.{joined_nodes, AreBefore, next_reads, next_before}
use Rattle.mj_gfile.proofs.reading.put_nodes.Goals as goal

pub loop-line-preserved : goal.loop-line-preserved
loop-line-preserved c =
    let is = c.in_ok-put_node.ensures.ok in
    let line = c.loop-line in
    let all = nodes_of c.args.limit None 2 (lines_of c.args.bytes.now) in
    record {
      reads = subst (λ (x : Option Name). all ≡ joined_nodes c.put_node.new.globals.content (nodes_of c.args.limit x (line.number + 1) (lines_of c.in-Some.behind.now))) (sym is.3)
          (next_reads c.args.limit line.globals.content line.last line.number line.rest.now all line.invariant.reads c.in-Some.line.now c.in-Some.behind.now c.in-Some.ensures.0 is.0 is.1 is.2
          line.invariant.stand c.put_node.new.globals.content is.4);
      stand = subst (λ (x : Option Name). AreBefore c.put_node.new.globals.content x) (sym is.3)
          (next_before c.args.limit line.globals.content line.last line.number line.rest.now all line.invariant.reads c.in-Some.line.now c.in-Some.behind.now c.in-Some.ensures.0 is.0 is.1 is.2
          line.invariant.stand c.put_node.new.globals.content is.4);
      numbered = omega (arith, c.in-Some.ensures.1, line.invariant.numbered);
    }
