-- The spelling of the requests at a prompt. Byte 32 is a blank.
use Rattle.std.specs.Prelude.{◌≡◌, ◌≢◌, ℕ, ◌==◌, ◌&&◌, nat_le, Bool, true, List, [], ◌∷◌, ◌++◌, length, decimal, codes}
use Rattle.std.specs.List.{list_all}
use Rattle.mj_text.specs.declared.limit.Limit.TheVariants.{V2}
use Rattle.mj_subs.specs.Name.{Name, is_word}
use Rattle.mj_subs.specs.declared.subs.TheConstants.{SUBSCRIPTS_LIMIT}
use Rattle.mj_ask.specs.Written.{is_entry, entry_text}
use Rattle.mj_gfile.specs.Listing.{is_subscript}
use Rattle.mj_gfile.specs.Spelling.{listed_name}
use Rattle.mj_steps.specs.Steps.{IsJob}
use Rattle.mj_dialogue.specs.Commands.{IsCommand, IsSpot, command_text, spot_text}
use Rattle.mj_guide.specs.declared.request.Goal.{Goal}
use Rattle.mj_guide.specs.declared.request.Goal.TheVariants as goals
use Rattle.mj_inspect.specs.declared.special.Special.{Special}
use Rattle.mj_inspect.specs.declared.special.Special.TheVariants as specials
use Rattle.mj_guide.specs.declared.request.Request.{Request}
use Rattle.mj_guide.specs.declared.request.Request.TheVariants as requests

-- the byte between a job and what follows it
abbrev pub is_blank : ℕ → Bool
is_blank byte = byte == 32

-- what jobs are to go on up to
abbrev pub goal_text : Goal → List ℕ
goal_text goals.Clash = codes "clash"
goal_text goals.Busy = codes "busy"
goal_text goals.Fault = codes "fault"
goal_text (goals.Line routine line) = spot_text routine line

-- a special variable
abbrev pub special_text : Special → List ℕ
special_text specials.Test = codes "$TEST"
special_text specials.Level = codes "$TLEVEL"

-- the line of a request
abbrev pub request_text : Request → List ℕ
request_text (requests.Plain command) = command_text command
request_text requests.Help = codes "help"
request_text requests.Breaks = codes "b"
request_text (requests.SetAt entry) = codes "b " ++ entry_text entry
request_text (requests.ClearAt entry) = codes "d " ++ entry_text entry
request_text requests.Source = codes "l"
request_text (requests.SourceAt routine line) = codes "l " ++ spot_text routine line
request_text (requests.SourceOf entry) = codes "l " ++ entry_text entry
request_text (requests.Show name) = codes "p " ++ listed_name name
request_text (requests.ShowOf job name) = codes "p " ++ decimal job ++ 32 ∷ listed_name name
request_text (requests.Special special) = codes "p " ++ special_text special
request_text (requests.SpecialOf job special) = codes "p " ++ decimal job ++ 32 ∷ special_text special
request_text requests.Waits = codes "w"
request_text requests.Watched = codes "watch"
request_text (requests.Watch name) = codes "watch " ++ listed_name name
request_text (requests.Unwatch name) = codes "unwatch " ++ listed_name name
request_text (requests.Until goal) = codes "until " ++ goal_text goal
request_text (requests.Keep file) = codes "keep " ++ file.items
request_text requests.Branch = codes "branch"

-- a goal that can be given
abbrev pub IsGoal : Goal → Type 0
IsGoal (goals.Line routine line) = IsSpot routine line
IsGoal _ = Unit {0}

-- a name that can be given: its word is one, and it has no more subscripts than a name may have, each a text that isn't empty
abbrev pub is_named : Name → Bool
is_named name = is_word name.word && nat_le (length name.subscripts) SUBSCRIPTS_LIMIT && list_all (is_subscript V2) name.subscripts

-- a request that can be given: its command can be, its entry can be written, its job is one that there may be, its name can be given, which is
-- a global's where it is watched, and its file has a name
abbrev pub IsRequest : Request → Type 0
IsRequest (requests.Plain command) = IsCommand command
IsRequest (requests.SetAt entry) = is_entry entry ≡ true
IsRequest (requests.ClearAt entry) = is_entry entry ≡ true
IsRequest (requests.SourceAt routine line) = IsSpot routine line
IsRequest (requests.SourceOf entry) = is_entry entry ≡ true
IsRequest (requests.Show name) = is_named name ≡ true
IsRequest (requests.ShowOf job name) = IsJob job × (is_named name ≡ true)
IsRequest (requests.SpecialOf job special) = IsJob job
IsRequest (requests.Watch name) = (name.global ≡ true) × (is_named name ≡ true)
IsRequest (requests.Unwatch name) = (name.global ≡ true) × (is_named name ≡ true)
IsRequest (requests.Until goal) = IsGoal goal
IsRequest (requests.Keep file) = file.items ≢ []
IsRequest _ = Unit {0}

-- a request that is a word alone, and no command
abbrev pub IsLone : Request → Type 0
IsLone requests.Help = Unit {0}
IsLone requests.Breaks = Unit {0}
IsLone requests.Source = Unit {0}
IsLone requests.Waits = Unit {0}
IsLone requests.Watched = Unit {0}
IsLone requests.Branch = Unit {0}
IsLone _ = ⊥

-- a request with an entry
abbrev pub IsEntered : Request → Type 0
IsEntered (requests.SetAt entry) = Unit {0}
IsEntered (requests.ClearAt entry) = Unit {0}
IsEntered (requests.SourceOf entry) = Unit {0}
IsEntered _ = ⊥

-- a request to watch a name, or not to
abbrev pub IsWatching : Request → Type 0
IsWatching (requests.Watch name) = Unit {0}
IsWatching (requests.Unwatch name) = Unit {0}
IsWatching _ = ⊥

-- a request to show a variable
abbrev pub IsShowing : Request → Type 0
IsShowing (requests.Show name) = Unit {0}
IsShowing (requests.ShowOf job name) = Unit {0}
IsShowing (requests.Special special) = Unit {0}
IsShowing (requests.SpecialOf job special) = Unit {0}
IsShowing _ = ⊥
