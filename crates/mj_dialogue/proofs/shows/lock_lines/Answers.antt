use Rattle.std.proofs.Common.{◌≡◌, ◌++◌, sym, ap, ◌∙◌, List, ℕ, []}
use Rattle.mj_subs.specs.Name.{Name}
use Rattle.mj_dialogue.specs.Lines.{held_lines}
use Rattle.mj_dialogue.proofs.Showing.{listed, listed_held, listed_on, listed_all}
use Rattle.mj_dialogue.proofs.shows.lock_lines.Goals as goal

pub loop-job-init : goal.loop-job-init
loop-job-init c =
    sym (listed_held c.args.locks.now.holds)
    ∙ ap listed (sym (c.deref-job-items.ensures.value ∙ c.in_ok-held.ensures.each))
    ∙ ap (λ (l : List ℕ). l ++ listed c.deref-job-items.result.now) (sym c.new-bytes.ensures.items)

pub loop-job-preserved : goal.loop-job-preserved
loop-job-preserved c =
    listed_on (held_lines c.args.locks.now.holds) c.loop-job.bytes.items c.put_lock.new.bytes.items c.deref-job-items.result.now c.loop-job.job-index c.loop-job-item.result
    c.loop-job.invariant c.loop-job-test.true c.loop-job-item.is c.in_ok-put_lock.ensures

pub returns : goal.returns
returns c =
    listed_all (held_lines c.args.locks.now.holds) c.loop-job.bytes.items c.deref-job-items.result.now c.loop-job.job-index c.loop-job.invariant c.loop-job-test.false
