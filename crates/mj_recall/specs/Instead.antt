-- What is told of the first event of a trace that isn't made, behind the line on it.
use Rattle.std.specs.Prelude.{◌≡◌, ℕ, List, Option}
use Rattle.std.specs.Borrow.{Bor}
use Rattle.mj_ask.specs.declared.ask.Ask.{Ask}
use Rattle.mj_ask.specs.declared.ask.Reply.{Reply}
use Rattle.mj_store.specs.Questions.{Content}
use Rattle.mj_semantics.specs.Program.{Program}
use Rattle.mj_sys.specs.Shared.{Shared}
use Rattle.mj_sys.specs.History.{History}
use Rattle.mj_text.specs.declared.limit.Limit.TheVariants.{V2}
use Rattle.mj_load.specs.Image.{Loaded, program_of}
use Rattle.mj_begin.specs.Words.{WereRead, WereListed}
use Rattle.mj_replica.specs.Replays.{history_of}
use Rattle.mj_replay.specs.Traces.{opening_in}
use Rattle.mj_trace.specs.Trace.{Traced}
use Rattle.mj_retrace.specs.Retraced.{Spot}
use Rattle.mj_retrace.specs.Instead.{IsInstead}
use Rattle.mj_describe.specs.Words.{instead_text}

-- the words tell what the job of the event at a place does behind the events before it
pub record TellsOver (program : Program) (opening : Shared) (history : History) (at : ℕ) (words : List ℕ) : Type 0 where
  pub job : ℕ
  pub ask : Ask
  pub spot : Spot
  pub told : Option Reply
  pub is : IsInstead program opening history at job ask spot told
  pub text : words ≡ instead_text job ask spot told

-- They tell it of a run over routines that were read from these files, and globals that were read from this one, or over none. Texts have the greater limit.
pub record TellsInstead (files : List (Bor (List ℕ))) (listing : Option (Bor (List ℕ))) (trace : Traced) (at : ℕ) (words : List ℕ) : Type 0 where
  pub image : Loaded
  pub globals : Content
  pub limit : image.bounds.limit ≡ V2
  pub read : WereRead files image.routines
  pub listed : WereListed V2 listing globals
  pub tells : TellsOver (program_of image) (opening_in globals trace) (history_of trace.events) at words
