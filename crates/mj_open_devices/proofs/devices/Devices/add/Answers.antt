use Rattle.std.proofs.Common.{◌≡◌, ◌*◌, ◌++◌, ◌∷◌, [], List, subst, sym, ap, ◌∙◌, arith}
use Rattle.mj_text.specs.declared.text.TheConstants.{TEXT_LIMIT}
use Rattle.mj_open_devices.specs.declared.devices.Other.{Other}
use Rattle.mj_open_devices.specs.Opened.{IsSpotWithin, AreWithin}
use Rattle.mj_open_devices.proofs.Known.{within_more}
use Rattle.mj_open_devices.proofs.devices.Devices.add.Goals as goal

pub invariant_of-self-2 : goal.invariant_of-self-2
invariant_of-self-2 c =
    let s = c.self.inside in
    let o : Other = record { name = c.args.name; spot = c.new-spot.result } in
    let is : c.push_reserved.new.self.items ≡ s.others.items ++ o ∷ [] = c.push_reserved.ensures.items ∙ ap (λ (l : List Other). l ++ o ∷ []) c.reserve.ensures.items in
    let none : IsSpotWithin (TEXT_LIMIT * s.writes) o.spot = subst (IsSpotWithin (TEXT_LIMIT * s.writes)) (sym c.new-spot.ensures) (omega arith, omega arith) in
    record {
      first = c.self.invariant.first;
      rest = subst (AreWithin (TEXT_LIMIT * s.writes)) (sym is) (within_more (TEXT_LIMIT * s.writes) s.others.items o none c.self.invariant.rest);
      beside = c.self.invariant.beside;
    }
