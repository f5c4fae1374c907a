use Rattle.mj_inspect.proofs.waiting.put_next.Goals as goal

pub put_followed-put-requires : goal.put_followed-put-requires
put_followed-put-requires g c = (c.args.start.now, c.in_ok-job.ensures)

pub returns : goal.returns
returns g c = c.put_followed-put.ensures c.args.start.now c.in_ok-job.ensures
