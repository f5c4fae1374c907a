-- What stands from each place of the argument of TSTART on is of its shape.
use Rattle.std.proofs.Common.{◌≡◌, List, [], ◌∷◌, ◌++◌, refl, ap, ◌∙◌, append_assoc, Some}
use Rattle.mj_ast.specs.declared.sign.Sign.TheVariants.{Star, Comma, Colon, Open, Close}
use Rattle.mj_ast.specs.declared.routine.Serial.TheVariants as serial
use Rattle.mj_ast.specs.Syntax.{Restored, Alone, Listed, Everything, Restartable}
use Rattle.mj_ast.specs.Commands.{Part, Put, Named, SerialWord, Control, with_commas, behind_commas, name_parts, restored_parts, serial_parts}
use Rattle.mj_line.specs.Forms.{Node, RestartWanted, RestoredOpens, RestoredWanted, RestoredBehind, RestoredEnd, SerialWanted, SerialInside, SerialBehind, SerialEnd, PartLeads}
use Rattle.mj_line.proofs.Tables.{none_some}
use Rattle.mj_line.proofs.Shapes.{Shape, at_node, before}

-- these locals, and what makes the transaction SERIAL
restart_at : (r : Restored) (ps qs : List Part) → restored_parts r ++ ps ≡ qs → Shape RestoredEnd ps → Shape RestartWanted qs
restart_at r ps qs e h =
    let a : Restartable = record { restored = r; serial = h.0 } in
    (Some a, ap (λ (xs : List Part). restored_parts r ++ xs) h.1 ∙ e)

listed_at : (ps : List Part) → Shape RestoredOpens ps → Shape RestartWanted (Put Open ∷ ps)
listed_at ps h =
    let a : Restartable = record { restored = Listed h.0; serial = h.1 } in
    (Some a, before (Put Open) ((with_commas name_parts h.0 ++ Put Close ∷ []) ++ serial_parts h.1) ps (append_assoc (with_commas name_parts h.0) (Put Close ∷ []) (serial_parts h.1) ∙ h.2))

pub restart_part : (p : Part) (ps : List Part) (next : Node) → PartLeads RestartWanted p next → Shape next ps → Shape RestartWanted (p ∷ ps)
restart_part (Named w) ps next e h = restart_at (Alone w) ps (Named w ∷ ps) refl (at_node RestoredEnd next ps e h)
restart_part (Put Star) ps next e h = restart_at Everything ps (Put Star ∷ ps) refl (at_node RestoredEnd next ps e h)
restart_part (Put Open) ps next e h = listed_at ps (at_node RestoredOpens next ps e h)
restart_part (Control v) ps next e h = absurd (none_some _ e.0)
restart_part p ps next e h = absurd (none_some _ e)

pub opens_part : (p : Part) (ps : List Part) (next : Node) → PartLeads RestoredOpens p next → Shape next ps → Shape RestoredOpens (p ∷ ps)
opens_part (Named w) ps next e h =
    let x = at_node RestoredBehind next ps e h in
    (w ∷ x.0, x.1, before (Named w) (behind_commas name_parts x.0 ++ (Put Close ∷ serial_parts x.1)) ps x.2)
opens_part (Put Close) ps next e h =
    let x = at_node RestoredEnd next ps e h in
    ([], x.0, before (Put Close) (serial_parts x.0) ps x.1)
opens_part (Control v) ps next e h = absurd (none_some _ e.0)
opens_part p ps next e h = absurd (none_some _ e)

pub restored_part : (p : Part) (ps : List Part) (next : Node) → PartLeads RestoredWanted p next → Shape next ps → Shape RestoredWanted (p ∷ ps)
restored_part (Named w) ps next e h =
    let x = at_node RestoredBehind next ps e h in
    (w, x.0, x.1, before (Named w) (behind_commas name_parts x.0 ++ (Put Close ∷ serial_parts x.1)) ps x.2)
restored_part (Control v) ps next e h = absurd (none_some _ e.0)
restored_part p ps next e h = absurd (none_some _ e)

pub restored_behind : (p : Part) (ps : List Part) (next : Node) → PartLeads RestoredBehind p next → Shape next ps → Shape RestoredBehind (p ∷ ps)
restored_behind (Put Comma) ps next e h =
    let x = at_node RestoredWanted next ps e h in
    (x.0 ∷ x.1, x.2, before (Put Comma) (Named x.0 ∷ (behind_commas name_parts x.1 ++ (Put Close ∷ serial_parts x.2))) ps x.3)
restored_behind (Put Close) ps next e h =
    let x = at_node RestoredEnd next ps e h in
    ([], x.0, before (Put Close) (serial_parts x.0) ps x.1)
restored_behind (Control v) ps next e h = absurd (none_some _ e.0)
restored_behind p ps next e h = absurd (none_some _ e)

pub restored_end : (p : Part) (ps : List Part) (next : Node) → PartLeads RestoredEnd p next → Shape next ps → Shape RestoredEnd (p ∷ ps)
restored_end (Put Colon) ps next e h = at_node SerialWanted next ps e h
restored_end (Control v) ps next e h = absurd (none_some _ e.0)
restored_end p ps next e h = absurd (none_some _ e)

pub serial_part : (p : Part) (ps : List Part) (next : Node) → PartLeads SerialWanted p next → Shape next ps → Shape SerialWanted (p ∷ ps)
serial_part SerialWord ps next e h =
    let x = at_node SerialEnd next ps e h in
    (serial.Bare, before (Put Colon) (SerialWord ∷ []) (SerialWord ∷ ps) (before SerialWord [] ps x))
serial_part (Put Open) ps next e h =
    let x = at_node SerialInside next ps e h in
    (serial.Enclosed, before (Put Colon) (Put Open ∷ SerialWord ∷ Put Close ∷ []) (Put Open ∷ ps) (before (Put Open) (SerialWord ∷ Put Close ∷ []) ps x))
serial_part (Control v) ps next e h = absurd (none_some _ e.0)
serial_part p ps next e h = absurd (none_some _ e)

pub serial_inside : (p : Part) (ps : List Part) (next : Node) → PartLeads SerialInside p next → Shape next ps → Shape SerialInside (p ∷ ps)
serial_inside SerialWord ps next e h = before SerialWord (Put Close ∷ []) ps (at_node SerialBehind next ps e h)
serial_inside (Control v) ps next e h = absurd (none_some _ e.0)
serial_inside p ps next e h = absurd (none_some _ e)

pub serial_behind : (p : Part) (ps : List Part) (next : Node) → PartLeads SerialBehind p next → Shape next ps → Shape SerialBehind (p ∷ ps)
serial_behind (Put Close) ps next e h = before (Put Close) [] ps (at_node SerialEnd next ps e h)
serial_behind (Control v) ps next e h = absurd (none_some _ e.0)
serial_behind p ps next e h = absurd (none_some _ e)

pub serial_end : (p : Part) (ps : List Part) (next : Node) → PartLeads SerialEnd p next → Shape next ps → Shape SerialEnd (p ∷ ps)
serial_end (Control v) ps next e h = absurd (none_some _ e.0)
serial_end p ps next e h = absurd (none_some _ e)
