-- The routines whose source is known, without where it lies in memory.
use Rattle.std.specs.Prelude.{ℕ, List, map}
use Rattle.mj_faulted.specs.declared.sources.Source.{Source}

-- a routine's name, and the bytes of its file
abbrev pub source_of : Source → List ℕ × List ℕ
source_of s = (s.name.items, s.bytes.items)

abbrev pub sources_of : List Source → List (List ℕ × List ℕ)
sources_of sources = map source_of sources
