-- What each fault means, and what helps (this profile).
use Rattle.std.specs.Prelude.{ℕ, List, codes}
use Rattle.mj_text.specs.declared.fault.Fault.{Fault}
use Rattle.mj_text.specs.declared.fault.Fault.TheVariants as faults

-- what a fault means
unfoldable pub meaning_of : Fault → List ℕ
meaning_of faults.Undefined = codes "undefined variable"
meaning_of faults.Divide = codes "division by zero"
meaning_of faults.Fraction = codes "the quotient is no whole number"
meaning_of faults.Range = codes "number out of range"
meaning_of faults.Length = codes "text too long"
meaning_of faults.Subscript = codes "an empty subscript, or no text of a name"
meaning_of faults.Select = codes "no condition of $SELECT is true"
meaning_of faults.NoLine = codes "no such line"
meaning_of faults.Quit = codes "the wrong QUIT"
meaning_of faults.QuitInTransaction = codes "QUIT out of an open transaction"
meaning_of faults.NoTransaction = codes "no transaction is open"
meaning_of faults.NoRestart = codes "the transaction can't be restarted"
meaning_of faults.InTransaction = codes "not allowed in a transaction, or in a function"
meaning_of faults.Overlap = codes "MERGE of overlapping names"
meaning_of faults.NoDevice = codes "no such device, or it isn't open"
meaning_of faults.Device = codes "the device failed"
meaning_of faults.Depth = codes "too many frames"
meaning_of faults.Limit = codes "a limit is passed"
meaning_of faults.Steps = codes "too many asks"
meaning_of faults.ForIndex = codes "the variable of a FOR is undefined"
meaning_of faults.Char = codes "no byte has this code"
meaning_of faults.Params = codes "more actuals than formals"

-- what helps there
unfoldable pub help_of : Fault → List ℕ
help_of faults.Undefined = codes "`$GET` gives a value where there is none, and `$DATA` says whether there is one"
help_of faults.Divide = codes "the right operand of `/`, `\\` and `#` can be tested first: `IF Y'=0`"
help_of faults.Fraction = codes "`\\` divides without the fraction, and `#` gives the remainder"
help_of faults.Range = codes "a number has at most 18 digits, and the direction of `$ORDER` is 1 or -1"
help_of faults.Length = codes "a text has at most 1,048,576 bytes"
help_of faults.Subscript = codes "no subscript is empty, but the last one of `$ORDER` and `$QUERY`; `$QLENGTH` and `$QSUBSCRIPT` want the text of a name"
help_of faults.Select = codes "a last condition can always be true: `$SELECT(X=1:\"A\",1:\"B\")`"
help_of faults.NoLine = codes "the routine, its label, or its line outside of a block isn't there: `mj check` tells of most that routines name"
help_of faults.Quit = codes "a function ends by a `QUIT` with a value, and what `DO` calls, or a `FOR`, by one without"
help_of faults.QuitInTransaction = codes "`TCOMMIT` or `TROLLBACK` ends the transaction in the frame that began it, or above it"
help_of faults.NoTransaction = codes "`TSTART` begins one, and `$TLEVEL` is above 0 while one is open"
help_of faults.NoRestart = codes "`TSTART ()` begins one that can be restarted, and `TSTART *` one that restores all locals"
help_of faults.InTransaction = codes "in a transaction there is no `JOB`, and no `LOCK` without `+` or `-`; a function begins none"
help_of faults.Overlap = codes "neither name may be the other one, or stand above it"
help_of faults.NoDevice = codes "`--device NAME=in:FILE` and `=out:FILE` give a session each; `OPEN` takes one, and `USE` wants it open"
help_of faults.Device = codes "its file can't be opened, read or written, or a line of it is longer than a text"
help_of faults.Depth = codes "a job has at most 512 frames: what calls itself without an end?"
help_of faults.Limit = codes "the manual has the limits of names, subscripts, levels, accesses, devices and jobs"
help_of faults.Steps = codes "a job asks 1,000,000 times at most, or as often as `--events` says"
help_of faults.ForIndex = codes "a `KILL` or a `NEW` in the pass took its value away"
help_of faults.Char = codes "codes of bytes are 0 to 255"
help_of faults.Params = codes "the line has fewer formals than it is given values"
