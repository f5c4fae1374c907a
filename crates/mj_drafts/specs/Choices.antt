-- What the options of the command line want whose values may be refused (this profile).
use Rattle.std.specs.Prelude.{ℕ, List, codes}
use Rattle.mj_drafts.specs.declared.choice.Choice.{Choice}
use Rattle.mj_drafts.specs.declared.choice.Choice.TheVariants as choice

-- the form of a value
unfoldable pub wanted_by : Choice → List ℕ
wanted_by choice.Start = codes "`--start` wants `LABEL^ROUTINE` or `^ROUTINE`, and is given at most 255 times"
wanted_by choice.Device = codes "`--device` wants `NAME=in:FILE` or `NAME=out:FILE`, and another NAME than `0`"
wanted_by choice.Until = codes "`--until` wants `fault`, `stuck`, `clash` or an expression over globals, such as `^C=4`"
wanted_by choice.Save = codes "`--save` wants a file that isn't a routine's, nor that of `--steps`, a `--device` or a standard stream"
wanted_by choice.Trace = codes "`--trace` wants a file that isn't a routine's, nor that of `--steps`, `--globals`, `--save`, a `--device` or a standard stream"
wanted_by choice.Keep = codes "`--keep` wants a file that isn't a routine's, nor that of `--globals`, a `--device` or a standard stream"
wanted_by choice.Out = codes "`--out` wants a file that isn't a routine's, nor that of `--globals` or a standard stream"
wanted_by choice.Html = codes "`--html` wants a file that isn't a routine's, nor that of the trace, `--globals` or a standard stream"
