use Rattle.std.proofs.Common.{◌≡◌, ◌*◌, not, rules, subst, sym, ◌∙◌}
use Rattle.std.specs.List.{filter}
use Rattle.std.specs.Str.{bytes_eq}
use Rattle.std.proofs.lemmas.Fn.{filter_same}
use Rattle.mj_text.specs.declared.text.TheConstants.{TEXT_LIMIT}
use Rattle.mj_open_devices.specs.declared.devices.Other.{Other}
use Rattle.mj_open_devices.specs.Opened.{AreWithin}
use Rattle.mj_open_devices.proofs.Known.{within_less, removed}
use Rattle.mj_open_devices.proofs.devices.Devices.remove.Goals as goal

pub invariant_of-self : goal.invariant_of-self
invariant_of-self c =
    let s = c.self.inside in
    let test = λ (o : Other). not (bytes_eq o.name c.args.name.now) in
    let is : c.retain.new.self.items ≡ filter test s.others.items = filter_same _ test _ (λ x r f' k. search rules) _ _ c.retain.ensures.filtered in
    record {
      first = c.self.invariant.first;
      rest = subst (AreWithin (TEXT_LIMIT * s.writes)) (sym is) (within_less (TEXT_LIMIT * s.writes) test s.others.items c.self.invariant.rest);
      beside = c.self.invariant.beside;
    }

pub returns : goal.returns
returns c =
    let s = c.self.inside in
    let test = λ (o : Other). not (bytes_eq o.name c.args.name.now) in
    let is : c.retain.new.self.items ≡ filter test s.others.items = filter_same _ test _ (λ x r f' k. search rules) _ _ c.retain.ensures.filtered in
    removed s.principal s.others.items c.retain.new.self.items s.current s.writes c.args.name.now c.args.self.now c.requires.apart is (c.self.view_is ∙ c.leave.ensures)
