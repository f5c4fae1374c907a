-- What is printed of a trace that is explained.
use Rattle.std.specs.Prelude.{◌≡◌, ℕ, ◌⊎◌, List}
use Rattle.mj_store.specs.Questions.{Content}
use Rattle.mj_ask.specs.declared.noted.Noted.{Noted}
use Rattle.mj_ask.specs.declared.ask.Ask.{Ask}
use Rattle.mj_subs.specs.Name.{Name}
use Rattle.mj_semantics.specs.Program.{Program}
use Rattle.std.specs.Borrow.{Bor}
use Rattle.mj_text.specs.declared.limit.Limit.TheVariants.{V2}
use Rattle.mj_load.specs.Image.{Loaded, program_of}
use Rattle.mj_begin.specs.Words.{WereRead, WereListed}
use Rattle.mj_replica.specs.declared.replaying.Verdict.TheVariants as verdicts
use Rattle.mj_replica.specs.Replays.{history_of, IsFirstUnmade}
use Rattle.mj_replay.specs.Traces.{opening_in}
use Rattle.mj_trace.specs.declared.form.Form.{Form}
use Rattle.mj_trace.specs.declared.form.Form.TheVariants.{First, Second}
use Rattle.mj_trace.specs.Trace.{Traced}
use Rattle.mj_retrace.specs.Retraced.{Spot, IsRetraced}
use Rattle.mj_retrace.specs.declared.retracing.Retraced.{Retraced}
use Rattle.mj_explain.specs.declared.story.TheConstants.{MOST}
use Rattle.mj_explain.specs.Stories.{Story, IsStory}
use Rattle.mj_describe.specs.Elsewhere.{IsFirstElsewhere}
use Rattle.mj_describe.specs.Words.{Shown, Standing, line_of, story_text}
use Rattle.std.specs.Prelude.{Option, Some, None}
use Rattle.mj_recall.specs.Printed.{event_line, verdict_text}
use Rattle.mj_recall.specs.Statuses.{verdict_status}

-- what is known of a run that was made again
pub record Known : Type 0 where
  pub spots : List Spot
  pub asked : List (ℕ × Ask)
  pub stands : List Spot
  pub holds : List (ℕ × Name × ℕ)
  pub past : List (ℕ × Name × ℕ × ℕ)

abbrev pub known_of : Retraced → Known
known_of r = record { spots = r.spots.items; asked = r.asked.items; stands = r.stands.items; holds = r.holds.items; past = r.past.items }

-- it is known of the run of a trace
abbrev pub IsKnownOf : Program → Content → Traced → Known → Type 0
IsKnownOf program globals trace k =
    IsRetraced program (opening_in globals trace) (history_of trace.events) k.spots k.asked k.stands k.holds k.past

-- what all is told of: the events of the trace, by their lines in it, and where each came from as it was run again
pub record IsShownOf (trace : Traced) (spots : List Spot) (s : Shown) : Type 0 where
  pub events : s.events ≡ trace.events
  pub spots_are : s.spots ≡ spots
  pub lines : (k : ℕ) → line_of s.before k ≡ event_line trace k

-- how the jobs stand at its end
abbrev pub standing_of : Known → Standing
standing_of k = record { asked = k.asked; spots = k.stands; holds = k.holds }

-- The first event that comes from elsewhere than a trace of today's form says; or each comes from where it says. One of the older form says nothing.
abbrev pub IsFirstAway : Form → List Noted → List Spot → Option ℕ → Type 0
IsFirstAway First es spots found = found ≡ None
IsFirstAway (Second limit) es spots found = IsFirstElsewhere es spots found

-- these words tell this of what is known
pub record TellsStory (trace : Traced) (k : Known) (story : Story) (words : List ℕ) : Type 0 where
  pub shown : Shown
  pub shows : IsShownOf trace k.spots shown
  pub text : words ≡ story_text shown (standing_of k) story

-- they tell of it what is so
pub record TellsKnown (globals : Content) (trace : Traced) (k : Known) (words : List ℕ) : Type 0 where
  pub story : Story
  pub is : IsStory globals trace.events k.asked k.holds MOST story
  pub tells : TellsStory trace k story words

-- each event comes from where the trace says, if it says that, and the words tell of it what is so
pub record IsTold (globals : Content) (trace : Traced) (k : Known) (words : List ℕ) (status : ℕ) : Type 0 where
  pub there : IsFirstAway trace.form trace.events k.spots None
  pub tells : TellsKnown globals trace k words
  pub which : status ≡ 0

-- the line on an event is printed, and that it differs
pub record IsRefusedAt (trace : Traced) (at : ℕ) (words : List ℕ) (status : ℕ) : Type 0 where
  pub text : words ≡ verdict_text trace (verdicts.Differs at)
  pub which : status ≡ verdict_status (verdicts.Differs at)

-- the line is printed on the first event that comes from elsewhere than the trace says
pub record IsAway (trace : Traced) (k : Known) (words : List ℕ) (status : ℕ) : Type 0 where
  pub at : ℕ
  pub away : IsFirstAway trace.form trace.events k.spots (Some at)
  pub printed : IsRefusedAt trace at words status

-- what is printed of what is known of the run of a trace over these globals, and the exit status
abbrev pub TellsOf : Content → Traced → Known → List ℕ → ℕ → Type 0
TellsOf globals trace k words status = IsTold globals trace k words status ⊎ IsAway trace k words status

-- the trace is that of a run, and it is told of it
pub record IsMade (program : Program) (globals : Content) (trace : Traced) (words : List ℕ) (status : ℕ) : Type 0 where
  pub known : Known
  pub run : IsKnownOf program globals trace known
  pub tells : TellsOf globals trace known words status

-- the line is printed on the first event that isn't made
pub record IsNotMade (program : Program) (globals : Content) (trace : Traced) (words : List ℕ) (status : ℕ) : Type 0 where
  pub at : ℕ
  pub first : IsFirstUnmade program (opening_in globals trace) (history_of trace.events) at
  pub printed : IsRefusedAt trace at words status

-- what is printed of a trace over these globals, and the exit status
abbrev pub IsExplained : Program → Content → Traced → List ℕ → ℕ → Type 0
IsExplained program globals trace words status = IsMade program globals trace words status ⊎ IsNotMade program globals trace words status

-- It is printed of a trace over routines that were read from these files, and globals that were read from this one, or over none.
pub record WasExplained (files : List (Bor (List ℕ))) (listing : Option (Bor (List ℕ))) (trace : Traced) (words : List ℕ) (status : ℕ) : Type 0 where
  pub image : Loaded
  pub globals : Content
  pub read : WereRead files image.routines
  pub listed : WereListed V2 listing globals
  pub is : IsExplained (program_of image) globals trace words status
