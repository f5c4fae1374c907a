use Rattle.mj_locktab.proofs.Refilled.{refilled, other_key, parts_opened}
use Rattle.mj_locktab.proofs.held.open.Goals as goal

pub returns : goal.returns
returns c =
    let old = c.args.parts.now.entries in
    let new = c.insert.new.self.entries in
    let updates = c.in_ok-insert.ensures.updates in
    let change = refilled old new c.args.job c.new.result updates.1 (λ j other. updates.2 j (other_key c.args.job j other)) in
    let all = parts_opened old new c.args.job c.new.result c.requires.parts c.new.ensures.empty c.requires.untold change c.in_ok-insert.ensures.ordered in
    record { same = all.1; parts = all.0 }
