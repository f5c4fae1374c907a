use Rattle.std.specs.Prelude.{option_copied}
use Rattle.std.proofs.Common.{sym, ap, ◌∙◌}
use Rattle.mj_faulted.specs.Sources.{sources_of}
use Rattle.mj_faulted.specs.Walks.{lent}
use Rattle.mj_faults.specs.Told.{start_told}
use Rattle.mj_faults.proofs.Entries.{adds_job}
use Rattle.mj_faults.proofs.told.put_job.Goals as goal

pub returns-in_ok-replies-in-Some : goal.returns-in_ok-replies-in-Some
returns-in_ok-replies-in-Some g c =
    adds_job c.args.image.now (sources_of c.args.sources.now) c.args.starts.now (g.H.Events.history c.args.told.now) c.put_fault.result
    (start_told c.args.starts.now (g.H.Events.history c.args.told.now) c.args.job) c.in-Some.start.now c.args.job c.args.fault (lent c.deref.result.now)
    c.args.bytes.now.items c.put_fault.new.bytes.items (sym c.start_of.ensures ∙ ap option_copied c.in-Some.is)
    (ap lent c.deref.ensures.value ∙ c.in_ok-replies-in-Some.ensures) c.put_fault.ensures
