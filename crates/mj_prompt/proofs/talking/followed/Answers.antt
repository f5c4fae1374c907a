use Rattle.std.proofs.Common.{ℕ, Option, subst}
use Rattle.mj_load.specs.Image.{program_of}
use Rattle.mj_remade.specs.Records.{Compares}
use Rattle.mj_prompt.proofs.Resuming.{opened_same, opened_apart}
use Rattle.mj_prompt.proofs.talking.followed.Goals as goal

pub returns-in-None : goal.returns-in-None
returns-in-None g c =
    let core = c.follow.new.debugger.core in
    let trace = c.args.trace.now in
    let P : Option ℕ → Type 0 = λ apart. Compares trace.form (program_of core.image) g.G.Opening.opening trace.events core.history apart in
    opened_same (program_of core.image) g.G.Opening.opening trace core.history (subst P c.in-None.is c.in_ok-apart.ensures)

pub returns-in-Some : goal.returns-in-Some
returns-in-Some g c =
    let core = c.follow.new.debugger.core in
    let trace = c.args.trace.now in
    let P : Option ℕ → Type 0 = λ apart. Compares trace.form (program_of core.image) g.G.Opening.opening trace.events core.history apart in
    opened_apart (program_of core.image) g.G.Opening.opening trace core.history c.in-Some.at (subst P c.in-Some.is c.in_ok-apart.ensures)
