use Rattle.mj_prompt.proofs.Givens.{given_by}
use Rattle.mj_prompt.proofs.debugs.begun_with.Goals as goal

pub debug_from-requires-clause-given : goal.debug_from-requires-clause-given
debug_from-requires-clause-given g c =
    let b = c.in-Ok.beginning in
    given_by c.args.run c.args.order.now.run b.starts.items b.pool b.image b.globals.content b.steps
    c.requires.starts c.requires.files c.requires.devices c.requires.globals c.requires.steps c.requires.events c.in-Ok.ensures.given
