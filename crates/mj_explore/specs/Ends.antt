-- The ends of runs (this profile). Byte 10 ends a line, `+` is byte 43, `-` is byte 45.
use Rattle.std.specs.Prelude.{◌≡◌, ℕ, zero, suc, ◌+◌, ◌-◌, ◌^◌, min, Bool, false, not, ◌==◌, reverse, List, [], ◌∷◌, ◌++◌, length, map, decimal, codes, if◌then◌else◌}
use Rattle.std.specs.List.{list_any}
use Rattle.std.specs.Str.{bytes_eq}
use Rattle.mj_text.specs.declared.limit.Limit.TheVariants.{V2}
use Rattle.mj_dev.specs.Shelves.{principal}
use Rattle.mj_gfile.specs.Spelling.{listing_of}
use Rattle.mj_sys.specs.Shared.{Shared}
use Rattle.mj_sys.specs.History.{History, state_of}
use Rattle.mj_core.specs.Runs.{out_of}
use Rattle.mj_judge.specs.Marks.{is_over}
use Rattle.mj_explore.specs.declared.ends.End.{End}

-- there are bytes, and they don't end a line
abbrev pub lacks_end : List ℕ → Bool
lacks_end bytes = elim (reverse bytes) [ [] ↦ false | last ∷ _ ↦ not (last == 10) ]

-- the line before what a job wrote: its number, and how many bytes it is
abbrev pub output_head : ℕ → ℕ → List ℕ
output_head job count = codes "job " ++ decimal job ++ codes " wrote " ++ decimal count ++ codes " bytes:" ++ 10 ∷ []

-- what a job wrote behind that line, and a line's end where it lacks one
abbrev pub output_text : ℕ → List ℕ → List ℕ
output_text job output = output_head job (length output) ++ output ++ (if lacks_end output then 10 ∷ [] else [])

-- what the first of many jobs wrote, in order of their numbers
abbrev pub outputs_of : (ℕ → List ℕ) → ℕ → List ℕ
outputs_of output zero = []
outputs_of output (suc jobs) = outputs_of output jobs ++ output_text (suc jobs) (output (suc jobs))

-- The end of a run: whether all jobs have ended, the globals that are left, and what each wrote to its principal device. Two runs have one end where
-- all of this is the same.
abbrev pub end_text : Shared → History → List ℕ
end_text opening history =
    (if is_over opening history then 43 else 45)
    ∷ (listing_of V2 (state_of opening history).globals
    ++ outputs_of (λ job. out_of history job principal 1) (length (state_of opening history).rows))

-- the different ends that were seen, and one more, if it wasn't
abbrev pub noted : List (List ℕ) → List ℕ → List (List ℕ)
noted ends text = if list_any (λ kept. bytes_eq kept text) ends then ends else ends ++ text ∷ []

-- the different ones among these, behind those that were seen
abbrev pub different_behind : List (List ℕ) → List (List ℕ) → List (List ℕ)
different_behind seen [] = seen
different_behind seen (text ∷ texts) = different_behind (noted seen text) texts

-- the different ones among these
abbrev pub different : List (List ℕ) → List (List ℕ)
different texts = different_behind [] texts

-- the texts of ends
abbrev pub texts_of : List End → List (List ℕ)
texts_of ends = map (λ (end : End). end.text.items) ends

-- how many runs had an end of this text
abbrev pub often : List End → List ℕ → ℕ
often [] text = 0
often (end ∷ ends) text = if bytes_eq end.text.items text then end.runs else often ends text

-- one more, but no number is greater than the greatest of 32 bits
abbrev pub once_more : ℕ → ℕ
once_more runs = min (runs + 1) (2 ^ 32 - 1)

-- it is noted that a run had an end of this text
pub record IsNoted (text : List ℕ) (old new : List End) : Type 0 where
  pub texts : texts_of new ≡ noted (texts_of old) text
  pub counted : (other : List ℕ) → often new other ≡ (if bytes_eq text other then once_more (often old other) else often old other)
