use Rattle.mj_load.specs.Image.{program_of}
use Rattle.mj_serial.proofs.Cores.{is_serial, all_must}
use Rattle.mj_serial.proofs.laws.holds.Goals as goal

pub returns-clause-serial : goal.returns-clause-serial
returns-clause-serial g c =
    is_serial (program_of c.args.core.now.image) g.O.Opening.opening c.args.core.now.history c.len-run.ensures.none_open c.len-run.ensures.run

pub returns-clause-clashes : goal.returns-clause-clashes
returns-clause-clashes g c =
    all_must (program_of c.args.core.now.image) g.O.Opening.opening c.args.core.now.history c.len-run.ensures.run c.len-run.ensures.none_open
