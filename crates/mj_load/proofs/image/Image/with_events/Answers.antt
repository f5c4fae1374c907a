use Rattle.mj_load.proofs.image.Image.with_events.Goals as goal

pub invariant_of-self : goal.invariant_of-self
invariant_of-self c = (
  record {
    within = c.self.invariant.0.within;
    apart = c.self.invariant.0.apart;
    units = c.self.invariant.0.units;
    small = c.self.invariant.0.small;
    checked = c.self.invariant.0.checked;
    does = c.self.invariant.0.does;
    some = c.requires;
  },
  c.self.invariant.1,
)
