use Rattle.mj_inspect.proofs.specials.value_line.Goals as goal

pub value_followed-shown-requires : goal.value_followed-shown-requires
value_followed-shown-requires g c = (c.args.start.now, c.in_ok-job.ensures)

pub returns : goal.returns
returns g c = c.value_followed-shown.ensures c.args.start.now c.in_ok-job.ensures
