use Rattle.mj_main.proofs.Heads.{heads}
use Rattle.mj_main.proofs.lives.with_lines.Goals as goal

pub finish-requires : goal.finish-requires
finish-requires g c =
    let b = c.args.beginning in
    let r = c.requires in
    heads b.globals.content b.pool b.starts.items c.args.order.now.starts.items c.args.order.now.files.items r.given.begun b.content r.whole b.some b.few b.fits _
    c.args.outlet.now.trace c.in-Ok.lived.core.image b.image g.G.Opening.opening c.in-Ok.ensures.image r.opening b.long r.worded r.text r.sized r.rising
