use Rattle.std.proofs.Common.{[], ◌∷◌, ◌++◌, ap, ◌∙◌}
use Rattle.mj_subs.specs.Name.{Name}
use Rattle.mj_locktab.specs.Locks.{job_of, name_of}
use Rattle.mj_locktab.proofs.Listed.{name_listed, names_listed}
use Rattle.mj_locktab.proofs.part.list.Goals as goal

pub loop-name-preserved : goal.loop-name-preserved
loop-name-preserved c =
    name_listed (λ e. (job_of e.0, name_of e.0, e.1)) c.args.job c.loop-name.list.items c.push.new.self.items _ c.loop-name.name-iterator c.next.new.self
    (c.in-Some.name.now, c.in-Some.count.now) c.loop-name.invariant c.in-Some.ensures.steps
    (c.in_ok-push.ensures.items ∙ ap (λ (n : Name). c.loop-name.list.items ++ (c.args.job, n, c.in-Some.count.now) ∷ []) c.in_ok-try_clone.ensures)

pub returns : goal.returns
returns c = names_listed (λ e. (job_of e.0, name_of e.0, e.1)) c.args.job c.loop-name.list.items _ c.loop-name.name-iterator c.loop-name.invariant c.in-None.ensures.steps.0
