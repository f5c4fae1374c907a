use Rattle.std.proofs.Common.{◌≡◌, ◌++◌, drop}
use Rattle.std.specs.List.{list_all}
use Rattle.mj_gfile.specs.Begins.{HasFront}
use Rattle.mj_trace.specs.Spelling.{rest_of_values}
use Rattle.mj_trace.specs.Sized.{value_fits}
use Rattle.mj_trace.proofs.fields.put_values.Given as goal

abbrev pub invariant-loop-value : goal.invariant-loop-value
invariant-loop-value l = record {
  all : l.bytes.items ++ rest_of_values (drop l.value-index l.rest) ≡ l.initial.bytes.items ++ rest_of_values l.rest;
  kept : HasFront l.fn.bytes.items l.bytes.items;
  fits : list_all value_fits (drop l.value-index l.rest) ≡ list_all value_fits l.rest;
}
