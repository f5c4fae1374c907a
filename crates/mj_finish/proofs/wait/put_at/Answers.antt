use Rattle.std.proofs.Common.{[], ◌∷◌}
use Rattle.std.specs.Option.{option_map}
use Rattle.mj_finish.specs.Printed.{place_text}
use Rattle.mj_finish.proofs.Joined.{ended}
use Rattle.mj_finish.proofs.wait.put_at.Goals as goal

pub returns : goal.returns
returns c = ended c.args.bytes.now.items c.args.words.now (place_text (option_map (λ p. (p.0.now, p.1)) c.args.place)) (10 ∷ [])
    c.extend_from_slice.new.self.items c.put_place.new.bytes.items c.push.new.self.items
    c.in_ok-extend_from_slice.ensures.items c.in_ok-put_place.ensures c.in_ok-push.ensures.items
