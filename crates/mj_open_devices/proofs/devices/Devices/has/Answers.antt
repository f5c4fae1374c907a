use Rattle.std.proofs.Common.{◌≡◌, false, sym, ap, ◌∙◌}
use Rattle.std.specs.Option.{is_some}
use Rattle.std.specs.Str.{bytes_eq}
use Rattle.std.specs.List.{position}
use Rattle.mj_semantics.specs.State.{is_open, principal}
use Rattle.mj_open_devices.specs.Opened.{Opened, alone, is_named}
use Rattle.mj_open_devices.proofs.Known.{is_there, past_first}
use Rattle.mj_open_devices.proofs.devices.Devices.has.Goals as goal

pub returns-else-is_principal : goal.returns-else-is_principal
returns-else-is_principal c =
    let s = c.self.inside in
    let name = c.args.name.now in
    let at : position (is_named name) s.others.items ≡ c.place.result = sym (c.place.ensures ∙ ap (position (is_named name)) c.deref.ensures.value) in
    let apart : bytes_eq principal name ≡ false = sym c.is_principal.ensures ∙ c.if-is_principal.false in
    c.is_some.ensures ∙ is_there name s.others.items c.place.result at
    ∙ ap is_some (sym (past_first s.principal s.others.items name apart)) ∙ ap (λ (q : Opened). is_open name (alone q)) c.self.view_is
