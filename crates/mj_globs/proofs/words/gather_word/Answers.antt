-- All nodes of the word are gathered.
use Rattle.mj_globs.proofs.Gathered.{word_whole}
use Rattle.mj_globs.proofs.words.gather_word.Goals as goal

pub returns : goal.returns
returns c =
    word_whole c.args.global c.args.word.now c.new.result c.args.tree.now c.in_ok-below.below c.as_slice-node-items.result.now c.args.nodes.now.items c.loop-node.nodes.items c.loop-node.node-index
    c.loop-node.invariant c.loop-node-test.false c.as_slice-node-items.ensures c.in_ok-below.ensures c.new.ensures
