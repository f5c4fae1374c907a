use Rattle.std.proofs.Common.{List, subst}
use Rattle.mj_script.specs.declared.script.Source.{Source}
use Rattle.mj_script.specs.Scripts.{IsUnread, sources_of}
use Rattle.mj_script.proofs.Loading.{for_memory}
use Rattle.mj_script.proofs.script.Script.image.Goals as goal

pub unreachable-requires : goal.unreachable-requires
unreachable-requires c =
    let why = c.in-Err-Routine.field-0 in
    let P : List Source → Type 0 = λ sources. IsUnread (sources_of sources) why in
    for_memory c.read_or_refused.ensures (sources_of c.self.inside.sources.items) why c.self.invariant.loads
    (subst P c.deref.ensures.value c.in-Err-Routine.ensures.unread) (λ e. cc (e, c.in-Err-Routine.field-0-is))
