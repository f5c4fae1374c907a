-- What is read is what is listed.
use Rattle.std.specs.Prelude.{Ok}
use Rattle.std.proofs.lemmas.Result.{IfOk-weaker}
use Rattle.mj_gfile.specs.Laws.Listings.{lists_them, lists_all}
use Rattle.mj_gfile.specs.Laws.Refused.{refuses_it}
use Rattle.mj_gfile.proofs.Global.{all_global}
use Rattle.mj_gfile.proofs.reading.read.Goals as goal

pub returns-clause-lists : goal.returns-clause-lists
returns-clause-lists c = IfOk-weaker c.read_lines.result _ _ (λ g h. lists_them c.args.limit c.args.bytes.now (Ok g.content) h) c.read_lines.ensures.ok

pub returns-clause-all : goal.returns-clause-all
returns-clause-all c = lists_all c.args.limit c.args.bytes.now c.read_lines.result c.read_lines.ensures.err

pub returns-clause-global : goal.returns-clause-global
returns-clause-global c =
    IfOk-weaker c.read_lines.result _ _ (λ g h. all_global c.args.limit c.args.bytes.now (Ok g.content) (lists_them c.args.limit c.args.bytes.now (Ok g.content) h)) c.read_lines.ensures.ok

pub returns-clause-refused : goal.returns-clause-refused
returns-clause-refused c = refuses_it c.args.limit c.args.bytes.now c.read_lines.result c.read_lines.ensures.err
