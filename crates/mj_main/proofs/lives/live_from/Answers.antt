use Rattle.std.proofs.Common.{◌∙◌, List, ℕ, ap}
use Rattle.std.specs.Borrow.{Bor}
use Rattle.mj_files.specs.Named.{with_principals, with_devices}
use Rattle.mj_jobs.specs.Rows.{rows_limit}
use Rattle.mj_typed.specs.Named.{names_in}
use Rattle.mj_main.proofs.Typing.{same_pool}
use Rattle.mj_main.proofs.lives.live_from.Goals as goal

pub with_lines-status-requires-clause-same : goal.with_lines-status-requires-clause-same
with_lines-status-requires-clause-same g c =
    c.in-Ok.ensures
    ∙ ap (λ (words : List (Bor (List ℕ))). with_devices (names_in words) (with_principals rows_limit)) c.deref.ensures.value
    ∙ same_pool c.args.order.now.devices.items c.args.beginning.pool c.requires.given.devices
