use Rattle.std.proofs.Common.{◌≡◌, ◌++◌, drop}
use Rattle.mj_guide.specs.Notes.{watched_lines}
use Rattle.mj_guide.proofs.notes.watched_lines.Given as goal

-- the names that are left are to come
abbrev pub invariant-loop-name : goal.invariant-loop-name
invariant-loop-name l = l.bytes.items ++ watched_lines (drop l.name-index l.notes.watched.items) ≡ watched_lines l.fn.notes.watched.items
