use Rattle.std.proofs.Common.{None}
use Rattle.mj_locals.specs.Groups.{rest}
use Rattle.mj_locals.proofs.HiddenWords.{put_back_at, put_back_grows}
use Rattle.mj_locals.proofs.news.hide.Goals as goal

pub returns-in-Err-clause-grows : goal.returns-in-Err-clause-grows
returns-in-Err-clause-grows c =
    put_back_grows None c.args.table.now c.hide_words.new.table c.put_back.new.table (rest c.begin.new.self) c.hide_words.new.trail c.in-Err.ensures.err c.put_back.ensures.table

pub returns-in-Err-clause-err : goal.returns-in-Err-clause-err
returns-in-Err-clause-err c = put_back_at None c.args.table.now c.hide_words.new.table c.put_back.new.table (rest c.begin.new.self) c.hide_words.new.trail c.in-Err.ensures.err c.put_back.ensures.table
