use Rattle.mj_views.proofs.Copying.{same_locals}
use Rattle.mj_views.proofs.copies.copy_locals.Goals as goal

pub returns : goal.returns
returns c =
    same_locals c.args.locals.now.now _ c.new-copy.result c.go_back.new.self c.rises.ensures c.in_ok-snapshot.ensures c.new-copy.ensures c.in_ok-go_back.ensures.ok
