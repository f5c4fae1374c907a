use Rattle.mj_remade.proofs.records.place_of.Goals as goal

pub returns : goal.returns
returns g c = record { asked = c.place_of.ensures }
