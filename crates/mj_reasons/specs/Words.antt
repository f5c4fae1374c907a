-- The words for each line that is refused (this profile): what is wanted there, or what the line lacks.
use Rattle.std.specs.Prelude.{ℕ, true, false, List, codes}
use Rattle.mj_reasons.specs.declared.asks.Asked.{Asked}
use Rattle.mj_reasons.specs.declared.asks.Asked.TheVariants as asked
use Rattle.mj_reasons.specs.declared.part.Part.{Part}
use Rattle.mj_reasons.specs.declared.part.Part.TheVariants as part
use Rattle.mj_reasons.specs.declared.words.Said.{Said}
use Rattle.mj_reasons.specs.declared.words.Said.TheVariants as said

-- what is wanted where a line of a listing or of steps stands
unfoldable pub part_text : Part → List ℕ
part_text part.Caret = codes "a line begins with the name of a global: `^A(1,\"b\")=\"x\"`"
part_text part.Word = codes "behind `^` stands a word: a letter or `%`, then letters and digits"
part_text part.Letters = codes "behind the word stand subscripts in parentheses, or `=` and the value"
part_text part.Subscript = codes "a subscript is a whole number, or a text in quotes"
part_text part.Minus = codes "behind `-` stands a digit that isn't 0"
part_text (part.Digits more) = codes "behind a number stands `,` or `)`; what isn't whole, or has more than 18 digits, is a text in quotes"
part_text part.Closed = codes "behind the name stands `=`"
part_text part.Value = codes "the value stands in quotes"
part_text (part.Quoted value) = codes "a text ends with a quote, and a byte outside 32 to 126 is written `\\0a`"
part_text (part.Quote true) = codes "behind the value stands nothing; a quote in it is doubled"
part_text (part.Quote false) = codes "behind a subscript stands `,` or `)`; a quote in it is doubled"
part_text (part.Escape value) = codes "behind `\\` stands another one, or two hexadecimal digits of lower case"
part_text (part.Hex value) = codes "behind `\\` stand two hexadecimal digits of lower case"
part_text part.Job = codes "a step is the number of a job, 1 to 255 without zeros in front, and may end in ` late`"
part_text (part.Number number) = codes "a step is the number of a job, 1 to 255 without zeros in front, and may end in ` late`"
part_text (part.Late count) = codes "a step is the number of a job, 1 to 255 without zeros in front, and may end in ` late`"

-- the form of what a job asks, and of what it is told
unfoldable pub asked_text : Asked → List ℕ
asked_text asked.Value = codes "`value ^A(1)` is told a text in quotes, or `-`"
asked_text asked.Data = codes "`data ^A(1)` is told `0`, `1`, `10` or `11`"
asked_text asked.Order = codes "`order ^A(\"\") 1`, or `-1`, is told a subscript, or `-`"
asked_text asked.Query = codes "`query ^A(1)` is told a name, or `-`"
asked_text asked.Subtree = codes "`subtree ^A(1)` is told `{(2)=\"x\"}`, the pairs in order, `()` for the node itself"
asked_text asked.Set = codes "`set ^A(1) \"x\"` is told `done` or `limit`"
asked_text asked.Kill = codes "`kill ^A(1)` is told `done` or `limit`"
asked_text asked.Put = codes "`put ^A(1) {(2)=\"x\"}` is told `done` or `limit`"
asked_text asked.Try = codes "`try ^A,^B(1) :5` is told `got`, `late` or `limit`; without a timeout `:5` is missing"
asked_text asked.Unlock = codes "`unlock ^A,^B(1)` and `unlock *` are told `done` or `limit`"
asked_text asked.Begin = codes "`begin` and `begin serial` are told `done`"
asked_text asked.Commit = codes "`commit` is told `done`, or `clash 1 \"old\" \"new\"`"
asked_text asked.Rollback = codes "`rollback` is told `done`"
asked_text asked.Open = codes "`open \"F\" :5` is told `got`, `late` or `none`; without a timeout `:5` is missing"
asked_text asked.Close = codes "`close \"F\"` is told `done`"
asked_text asked.Start = codes "`start A^R (\"x\",-) :5` is told `job 2` or `limit`; no values are `()`, and `-` stands for one that is left out"
asked_text asked.Device = codes "`dev \"F\" begin`, `end` and `write \"x\"` are told `done` or `failed`, `line :5` a text, `byte :5` a code, both also `end`, `late`, `failed`"
asked_text asked.Rest = codes "`rest 5` is told `done`"
asked_text asked.Halt = codes "`halt`, or `halt F2` behind a fault, is told `done`"

-- what is said
unfoldable pub said_text : Said → List ℕ
said_text (said.Wanted p) = part_text p
said_text said.Listing = codes "the first line is `mj-globals 2`, or `mj-globals 1` of older listings"
said_text said.Ends = codes "byte 10 ends each line, the last too, and no byte 13 stands before it"
said_text said.Returned = codes "no byte 13 stands before the byte 10 that ends a line"
said_text said.Node = codes "byte 10 alone ends each line, a subscript that is a number has no quotes, none is empty, and `\\0a` is only for bytes outside 32 to 126"
said_text said.Rises = codes "its name doesn't come after that of the line before: words go by bytes, then subscripts, numbers before texts"
said_text said.LongWord = codes "a word has at most 31 bytes"
said_text said.LongNode = codes "a name has at most 31 subscripts, and a text 1,048,576 bytes, or 32,767 of the older form"
said_text said.Trace = codes "the first line is `mj-trace 2`, or `mj-trace 1` of older traces"
said_text said.Limit = codes "the second line is `limit 1048576`, or `limit 32767`"
said_text said.Pool = codes "`pool \"NAME\" COUNT` stands before all starts, and behind the devices whose names come first by bytes"
said_text said.Start = codes "1 to 255 lines `start A^R` or `start ^R` stand behind all devices and before all events, each with a session of \"0\" left"
said_text said.First = codes "a line begins with `pool`, `start` or the number of a job"
said_text said.Place = codes "behind the number of the job stands where it asked from: `R:12`, or `-`"
said_text said.Asks = codes "behind that stands `value data order query subtree set kill put try unlock begin commit rollback open close start dev rest` or `halt`"
said_text said.Many = codes "no more than 1000000 events stand in a trace, or as many as `--events` says"
said_text (said.Ask a) = asked_text a
