use Rattle.std.proofs.Common.{◌≡◌, drop}
use Rattle.mj_faulted.specs.Sources.{sources_of}
use Rattle.mj_faulted.specs.Stories.{source_in as the_source_in}
use Rattle.mj_faulted.proofs.sources.source_in.Given as goal

-- the bytes are still to be found
abbrev pub invariant-loop-source : goal.invariant-loop-source
invariant-loop-source l = the_source_in (sources_of l.sources) l.name ≡ the_source_in (sources_of (drop l.source-index l.sources)) l.name
