use Rattle.mj_serial.proofs.scanning.step.Goals as goal

pub returns-in-Some-clause-after : goal.returns-in-Some-clause-after
returns-in-Some-clause-after c = rw c.in-Some.is (c.within.ensures.after c.args.job c.args.place)

pub returns-in-Some-clause-done : goal.returns-in-Some-clause-done
returns-in-Some-clause-done c = rw c.in-Some.is (c.within.ensures.done c.args.job c.args.place)
