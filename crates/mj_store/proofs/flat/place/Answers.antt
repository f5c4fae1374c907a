use Rattle.std.proofs.Common.{sym}
use Rattle.mj_store.proofs.Places.{put_there}
use Rattle.mj_store.proofs.flat.place.Goals as goal

-- the name stands at this place
pub returns-in-Equal-clause-found : goal.returns-in-Equal-clause-found
returns-in-Equal-clause-found c = (
  c.loop-i-test.true,
  λ text d. put_there c.args.entries.now c.args.name.now text c.loop-i.i c.index-entries-i.result d c.loop-i-test.true c.index-entries-i.is (sym c.in-Equal.ensures)
      (c.loop-i.invariant text),
)
