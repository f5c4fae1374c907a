use Rattle.std.proofs.Common.{◌≡◌, ◌++◌, drop}
use Rattle.std.specs.List.{list_all}
use Rattle.mj_gfile.specs.Begins.{HasFront}
use Rattle.mj_trace.specs.Spelling.{rest_of_names}
use Rattle.mj_trace.specs.Sized.{name_fits}
use Rattle.mj_trace.proofs.fields.put_names.Given as goal

abbrev pub invariant-loop-name : goal.invariant-loop-name
invariant-loop-name l = record {
  all : l.bytes.items ++ rest_of_names (drop l.name-index l.rest) ≡ l.initial.bytes.items ++ rest_of_names l.rest;
  kept : HasFront l.fn.bytes.items l.bytes.items;
  fits : list_all name_fits (drop l.name-index l.rest) ≡ list_all name_fits l.rest;
}
