use Rattle.std.proofs.Common.{List, Option, sym, ap, ◌∙◌, subst}
use Rattle.mj_semantics.specs.State.{Place}
use Rattle.mj_load.specs.Image.{program_of}
use Rattle.mj_jobvm.specs.Places.{ArePlaces}
use Rattle.mj_jobvm.specs.Run.{replies_of}
use Rattle.mj_jobvm.specs.Jobs.{Running}
use Rattle.mj_jobvm.proofs.job.Job.places.Goals as goal

pub returns-clause-are : goal.returns-clause-are
returns-clause-are c = λ image start is.
    let P : List (Option Place) → Type 0 = λ ps. ArePlaces (program_of image) start (replies_of c.args.self.now.run.log) ps in
    subst P (sym (ap (λ (j : Running). j.run.places) c.self.view_is)) is.1.placed
