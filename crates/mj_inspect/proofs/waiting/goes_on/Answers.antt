use Rattle.std.proofs.Common.{List, IfOk, sym, subst}
use Rattle.mj_ask.specs.declared.ask.Reply.{Reply}
use Rattle.mj_semantics.specs.Job.{Start}
use Rattle.mj_load.specs.Image.{Loaded, program_of}
use Rattle.mj_jobvm.specs.Jobs.{IsIn}
use Rattle.mj_inspect.specs.Stands.{IsBehind, IsNext}
use Rattle.mj_inspect.proofs.waiting.goes_on.Goals as goal

pub going-requires-clause-within : goal.going-requires-clause-within
going-requires-clause-within g c = let P : Loaded → Type 0 = λ image. IsIn image c.args.job.now in subst P (sym c.image.ensures) c.requires.within

pub returns-clause-on : goal.returns-clause-on
returns-clause-on g c =
    let P : Loaded → Type 0 = λ image. (start : Start) (told : List Reply) → IsBehind image start told c.args.job.now
    → IfOk c.going.result (λ turn. IsNext c.args.turns (program_of image) start told turn c.going.new.job) in
    subst P c.image.ensures c.going.ensures.on

pub returns-clause-behind : goal.returns-clause-behind
returns-clause-behind g c =
    let P : Loaded → Type 0 = λ image. (start : Start) (told : List Reply) → IsBehind image start told c.args.job.now → IsBehind image start told c.going.new.job in
    subst P c.image.ensures c.going.ensures.behind
