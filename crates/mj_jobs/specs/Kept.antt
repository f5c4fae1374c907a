-- Rows as they are kept.
use Rattle.std.specs.Prelude.{List, map}
use Rattle.mj_jobs.specs.Rows.{Row}
use Rattle.mj_jobs.specs.declared.jobs.Kept as kept

abbrev pub row_of : kept.Kept → Row
row_of k = record { start = k.start; ended = k.ended }

abbrev pub rows_of : List kept.Kept → List Row
rows_of list = map row_of list
