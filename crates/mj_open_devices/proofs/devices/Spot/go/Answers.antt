use Rattle.std.proofs.Common.{◌≡◌, true, ℕ, sym, ap, ◌∙◌}
use Rattle.std.specs.List.{list_all}
use Rattle.mj_semantics.specs.State.{column_after}
use Rattle.mj_open_devices.specs.declared.devices.Spot.{Spot}
use Rattle.mj_open_devices.specs.Opened.{is_plain}
use Rattle.mj_open_devices.proofs.Columns.{plain_column, plain_row}
use Rattle.mj_open_devices.proofs.devices.Spot.go.Goals as goal

pub returns-then-are_plain-clause-value : goal.returns-then-are_plain-clause-value
returns-then-are_plain-clause-value c =
    let s = c.args.self.now in
    let bytes = c.args.bytes.now in
    let plain : list_all is_plain bytes ≡ true = sym c.are_plain.ensures ∙ c.if-are_plain.true in
    let at_column : ℕ → Spot = λ column. record s { column = column } in
    let at_row : ℕ → Spot = λ row. record s { column = column_after s.column bytes; row = row } in
    ap at_column (sym (plain_column s.column bytes plain)) ∙ ap at_row (sym (plain_row s.row bytes plain))
