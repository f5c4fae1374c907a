-- What is told of what a run does in the place of an event.
use Rattle.std.specs.Prelude.{Option, Some, None, IfSome, IsSomeAnd}
use Rattle.std.specs.Borrow.{Bor}
use Rattle.std.proofs.Common.{◌≡◌, ℕ, List, Vec, Global}
use Rattle.mj_store.specs.Questions.{Content}
use Rattle.mj_semantics.specs.Program.{Program}
use Rattle.mj_sys.specs.Shared.{Shared}
use Rattle.mj_sys.specs.History.{History}
use Rattle.mj_text.specs.declared.limit.Limit.TheVariants.{V2}
use Rattle.mj_load.specs.Image.{Loaded, program_of}
use Rattle.mj_begin.specs.Words.{WereRead, WereListed}
use Rattle.mj_replica.specs.Replays.{history_of}
use Rattle.mj_replay.specs.Traces.{opening_in}
use Rattle.mj_trace.specs.Trace.{Traced}
use Rattle.mj_retrace.specs.declared.doing.Instead.{Instead}
use Rattle.mj_retrace.specs.Instead.{IsInstead}
use Rattle.mj_describe.specs.Words.{instead_text}
use Rattle.mj_recall.specs.Instead.{TellsOver, TellsInstead}

-- what was found is told, if there are words
pub told_over : (program : Program) (opening : Shared) (history : History) (at : ℕ) (found : Option Instead) (words : Option (Vec ℕ Global))
    → IfSome words (λ w. IsSomeAnd found (λ it. w.items ≡ instead_text it.job it.ask it.spot it.told))
    → IfSome found (λ it. IsInstead program opening history at it.job it.ask it.spot it.told) → IfSome words (λ w. TellsOver program opening history at w.items)
told_over program opening history at found None text is = tt
told_over program opening history at None (Some w) text is = absurd text
told_over program opening history at (Some it) (Some w) text is = record { job = it.job; ask = it.ask; spot = it.spot; told = it.told; is = is; text = text }

-- over what was read
pub told_instead : (files : List (Bor (List ℕ))) (listing : Option (Bor (List ℕ))) (trace : Traced) (at : ℕ) (image : Loaded) (globals : Content)
    (words : Option (Vec ℕ Global)) → image.bounds.limit ≡ V2 → WereRead files image.routines → WereListed V2 listing globals
    → IfSome words (λ w. TellsOver (program_of image) (opening_in globals trace) (history_of trace.events) at w.items)
    → IfSome words (λ w. TellsInstead files listing trace at w.items)
told_instead files listing trace at image globals None limit read listed tells = tt
told_instead files listing trace at image globals (Some w) limit read listed tells =
    record { image = image; globals = globals; limit = limit; read = read; listed = listed; tells = tells }
