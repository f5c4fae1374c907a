-- Where bytes stand that are written to a device: `$X` is the column, `$Y` the row.
use Rattle.std.specs.Prelude.{ℕ, ◌+◌, ◌==◌, List, fold, if◌then◌else◌}
use Rattle.mj_dev.specs.declared.talk.Cursor.{Cursor}

-- the place after one more byte: 10 begins a row, 12 a page, 13 the row again, and any other takes a column (this profile)
abbrev pub cursor_after : Cursor → ℕ → Cursor
cursor_after at byte =
    if byte == 10 then record { column = 0; row = at.row + 1 }
    else (if byte == 12 then record { column = 0; row = 0 }
    else (if byte == 13 then record { column = 0; row = at.row }
    else record { column = at.column + 1; row = at.row }))

-- the place after some more bytes
abbrev pub cursor_behind : Cursor → List ℕ → Cursor
cursor_behind at bytes = fold cursor_after at bytes
