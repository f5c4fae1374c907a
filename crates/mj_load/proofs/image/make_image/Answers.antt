use Rattle.mj_load.proofs.Entries.{are_small, are_checked, does_entries}
use Rattle.mj_load.proofs.image.make_image.Goals as goal

pub invariant_of-result : goal.invariant_of-result
invariant_of-result c = (
  record {
    within = c.requires.within;
    apart = c.requires.apart;
    units = c.requires.code;
    small = are_small c.args.routines.items c.args.units.items c.requires.within c.requires.code;
    checked = c.requires.checked;
    does = does_entries c.args.routines.items c.args.units.items c.requires.code c.requires.apart (are_checked c.args.units.items c.requires.checked) c.args.bounds;
    some = c.requires.some;
  },
  c.requires.compact,
)
