-- What is told of runs by chance, where hints are wanted (this profile). Byte 10 ends a line, `+` is byte 43, `.` is byte 46.
use Rattle.std.specs.Prelude.{ℕ, ◌-◌, ◌==◌, Bool, true, false, nat_lt, if◌then◌else◌, List, [], ◌∷◌, ◌++◌, length, take, drop, decimal, codes}
use Rattle.mj_explore.specs.declared.ends.End.{End}

-- whether all jobs ended, by the text of an end; and what stands behind that, and behind the header of its listing
abbrev pub whether_over : List ℕ → Bool
whether_over [] = false
whether_over (byte ∷ text) = byte == 43

abbrev pub behind_head : List ℕ → List ℕ
behind_head text = if nat_lt 14 (length text) then drop 14 text else []

abbrev pub how_word : Bool → List ℕ
how_word true = codes "with all jobs over"
how_word false = codes "with jobs that haven't ended"

-- the line on how many runs had an end, and whether all jobs ended
abbrev pub end_line : ℕ → List ℕ → List ℕ
end_line runs how = codes "    runs that ended so: " ++ decimal runs ++ codes ", " ++ how ++ 10 ∷ []

-- lines, each behind six blanks, where the byte before them is this one
abbrev pub indented : ℕ → List ℕ → List ℕ
indented last [] = []
indented last (byte ∷ text) = (if last == 10 then codes "      " else []) ++ byte ∷ indented byte text

-- all bytes, or the first 400 and two dots in place of the others; and these as such lines
abbrev pub is_long : List ℕ → Bool
is_long text = nat_lt 400 (length text)

abbrev pub fitted : List ℕ → List ℕ
fitted text = if is_long text then take 400 text ++ 46 ∷ 46 ∷ 10 ∷ [] else text

abbrev pub cut : List ℕ → List ℕ
cut text = indented 10 (fitted text)

-- an end: how many runs had it, and what it is
abbrev pub end_lines : End → List ℕ
end_lines end = end_line end.runs (how_word (whether_over end.text.items)) ++ cut (behind_head end.text.items)

abbrev pub each_end : List End → List ℕ
each_end [] = []
each_end (end ∷ ends) = end_lines end ++ each_end ends

-- how many others there are
abbrev pub rest_line : ℕ → List ℕ
rest_line count = codes "    ends that aren't shown: " ++ decimal count ++ 10 ∷ []

-- the first ten ends
abbrev pub ends_lines : List End → List ℕ
ends_lines ends = if nat_lt 10 (length ends) then each_end (take 10 ends) ++ rest_line (length ends - 10) else each_end ends
