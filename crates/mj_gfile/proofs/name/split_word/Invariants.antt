use Rattle.std.proofs.Common.{◌≡◌, ◌++◌, take, drop}
use Rattle.mj_gfile.specs.Reading.{front_by, rest_by, is_word_byte}
use Rattle.mj_gfile.proofs.name.split_word.Given as goal

abbrev pub invariant-loop-place : goal.invariant-loop-place
invariant-loop-place l =
    (front_by is_word_byte l.bytes ≡ take l.place l.bytes ++ front_by is_word_byte (drop l.place l.bytes))
    × (rest_by is_word_byte l.bytes ≡ rest_by is_word_byte (drop l.place l.bytes))
