-- What a few bytes, kept in the value itself, are.
use Rattle.std.specs.Prelude.{ℕ, List, take}
use Rattle.mj_text.specs.declared.short.Short.{Short}

-- the bytes: as many as there are, from the front of the room
abbrev pub short_bytes : Short → List ℕ
short_bytes s = take s.len s.room
