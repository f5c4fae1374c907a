use Rattle.std.proofs.Common.{◌≡◌, drop}
use Rattle.mj_retrace.specs.Noted.{with_names}
use Rattle.mj_retrace.proofs.holds.note_names.Given as goal

-- with the names that are left it comes to the same as with all
abbrev pub invariant-loop-name : goal.invariant-loop-name
invariant-loop-name l = with_names l.locks.holds l.job l.place (drop l.name-index l.names) l.holds.items ≡ with_names l.locks.holds l.job l.place l.names l.fn.holds.items
