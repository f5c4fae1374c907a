use Rattle.std.proofs.Common.{[], ◌∷◌, decimal, codes}
use Rattle.std.specs.Option.{option_map}
use Rattle.mj_finish.specs.Printed.{place_text}
use Rattle.mj_finish.proofs.Joined.{joined}
use Rattle.mj_finish.proofs.wait.put_holder.Goals as goal

pub returns : goal.returns
returns c = joined c.args.bytes.now.items (codes ", held by job ") (decimal c.args.holder) (codes " at ") (place_text (option_map (λ p. (p.0.now, p.1)) c.args.place)) (10 ∷ [])
    c.put_numbered.new.bytes.items c.extend_from_slice.new.self.items c.put_place.new.bytes.items c.push.new.self.items
    c.in_ok-put_numbered.ensures c.in_ok-extend_from_slice.ensures.items c.in_ok-put_place.ensures c.in_ok-push.ensures.items
