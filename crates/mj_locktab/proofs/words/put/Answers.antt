use Rattle.mj_locktab.proofs.Spelled.{word_put}
use Rattle.mj_locktab.proofs.words.put.Goals as goal

pub returns-clause-ok : goal.returns-clause-ok
returns-clause-ok c =
    word_put c.args.words.now.entries c.insert.new.self.entries c.in_ok-from_slice.field-0 c.args.word.now c.args.node c.in_ok-from_slice.ensures.items c.in_ok-insert.ensures.entries
