use Rattle.std.proofs.Common.{◌≡◌, ◌++◌, drop}
use Rattle.std.specs.List.{list_all}
use Rattle.mj_gfile.specs.Begins.{HasFront}
use Rattle.mj_trace.specs.Trace.{pool_lines}
use Rattle.mj_trace.specs.Sized.{device_count_fits}
use Rattle.mj_trace.proofs.head.put_pool.Given as goal

abbrev pub invariant-loop-device : goal.invariant-loop-device
invariant-loop-device l = record {
  all : l.bytes.items ++ pool_lines (drop l.device-index l.pool) ≡ l.initial.bytes.items ++ pool_lines l.pool;
  kept : HasFront l.fn.bytes.items l.bytes.items;
  fits : list_all device_count_fits (drop l.device-index l.pool) ≡ list_all device_count_fits l.pool;
}
