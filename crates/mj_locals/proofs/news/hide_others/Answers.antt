use Rattle.std.proofs.Common.{Some}
use Rattle.mj_locals.specs.Groups.{rest}
use Rattle.mj_locals.proofs.HiddenWords.{put_back_at, put_back_grows}
use Rattle.mj_locals.proofs.news.hide_others.Goals as goal

pub returns-in-Err-clause-grows : goal.returns-in-Err-clause-grows
returns-in-Err-clause-grows c = put_back_grows
    (Some c.args.words.now) c.args.table.now c.hide_all_but.new.table c.put_back.new.table (rest c.begin.new.self) c.hide_all_but.new.trail c.in-Err.ensures.err c.put_back.ensures.table

pub returns-in-Err-clause-err : goal.returns-in-Err-clause-err
returns-in-Err-clause-err c = put_back_at
    (Some c.args.words.now) c.args.table.now c.hide_all_but.new.table c.put_back.new.table (rest c.begin.new.self) c.hide_all_but.new.trail c.in-Err.ensures.err c.put_back.ensures.table
