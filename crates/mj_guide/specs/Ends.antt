-- Where jobs that go on in turn end before their count, and what is told there.
use Rattle.std.specs.Prelude.{◌≡◌, ℕ, ◌+◌, nat_le, Bool, true, false, ◌&&◌, not, if◌then◌else◌, List, [], ◌++◌, length, slice_get}
use Rattle.std.specs.Prelude.{Option, Some, None, Ok, Err, codes}
use Rattle.std.specs.List.{count_by, find}
use Rattle.mj_subs.specs.Name.{Name, overlaps, is_above}
use Rattle.mj_store.specs.declared.access.Access.{Access}
use Rattle.mj_store.specs.declared.access.Access.TheVariants as accesses
use Rattle.mj_store.specs.declared.access.Answer.TheVariants as answers
use Rattle.mj_ask.specs.declared.ask.Ask.{Ask}
use Rattle.mj_ask.specs.declared.ask.Ask.TheVariants as asks
use Rattle.mj_ask.specs.declared.ask.SharedAsk.TheVariants as shared
use Rattle.mj_ask.specs.declared.ask.Reply.{Reply}
use Rattle.mj_ask.specs.declared.ask.Reply.TheVariants as replies
use Rattle.mj_gfile.specs.Spelling.{listed_name}
use Rattle.mj_sys.specs.declared.event.Event.{Event}
use Rattle.mj_sys.specs.Shared.{Shared}
use Rattle.mj_sys.specs.History.{History, state_of}
use Rattle.mj_core.specs.declared.seen.Seen.{Seen}
use Rattle.mj_core.specs.declared.seen.Seen.TheVariants as seen
use Rattle.mj_debug.specs.declared.debugger.Gone.{Gone}
use Rattle.mj_debug.specs.declared.debugger.Gone.TheVariants as gones
use Rattle.mj_dialogue.specs.Lines.{lined}
use Rattle.mj_inspect.specs.Waits.{is_over}
use Rattle.mj_guide.specs.declared.tally.Tally.{Tally}
use Rattle.mj_guide.specs.declared.request.Goal.{Goal}
use Rattle.mj_guide.specs.declared.request.Goal.TheVariants as goals

-- A write is to a name: SET of it or of one below it; KILL or MERGE also of one above it.
abbrev pub touches : Access → Name → Bool
touches (accesses.Set written text) name = overlaps name written && not (is_above written name)
touches (accesses.Kill written) name = overlaps name written
touches (accesses.Put written nodes) name = overlaps name written
touches _ name = false

-- the first of these names that an event wrote to, if there is one
abbrev pub touched : List Name → Ask → Reply → Option Name
touched names (asks.Shared (shared.Access access)) (replies.Answer answers.Done) = find (λ name. touches access name) names
touched names _ _ = None

-- an event is what jobs go on up to: a commit that clashed, or the end of a job that faulted
abbrev pub is_reached : Goal → Ask → Reply → Bool
is_reached goals.Clash a (replies.Clash clash) = true
is_reached goals.Fault (asks.Shared (shared.Halt (Some fault))) reply = true
is_reached _ _ _ = false

-- the event at a place, if there is one, ends its job
abbrev pub is_end : Option Event → Bool
is_end None = false
is_end (Some e) = is_over e.ask

-- how many jobs have ended by these events
abbrev pub ended_in : History → ℕ
ended_in history = count_by (λ e. is_over e.ask) history

-- so many jobs have ended by a history, all of which was counted
abbrev pub IsCounted : Tally → History → Type 0
IsCounted tally history = (tally.ended ≡ ended_in history) × (tally.counted ≡ length history)

-- the goal is reached by an event, if there is a goal
abbrev pub is_goal : Option Goal → Ask → Reply → Bool
is_goal None a reply = false
is_goal (Some goal) a reply = is_reached goal a reply

-- What is told behind an event that is the last: that it wrote to a watched name; of a goal that is reached, nothing.
abbrev pub event_end : Option Name → Bool → Option (List ℕ)
event_end (Some name) reached = Some (lined (codes "watch " ++ listed_name name))
event_end None true = Some []
event_end None false = None

abbrev pub end_at : List Name → Option Goal → Option Event → Option (List ℕ)
end_at names goal None = None
end_at names goal (Some e) = event_end (touched names e.ask e.reply) (is_goal goal e.ask e.reply)

-- the goal is a step that is busy
abbrev pub is_up_to_busy : Option Goal → Bool
is_up_to_busy (Some goals.Busy) = true
is_up_to_busy _ = false

-- all jobs wait that haven't ended: of the last steps as many waited, one after the other
abbrev pub all_wait : Shared → ℕ → History → Bool
all_wait opening waited history = nat_le (length (state_of opening history).rows) (waited + ended_in history)

-- what is told behind a step that waited: that all jobs wait; of a goal that is reached, nothing
abbrev pub waiting_end : Bool → Bool → Option (List ℕ)
waiting_end true reached = Some (lined (codes "stuck"))
waiting_end false true = Some []
waiting_end false false = None

-- what is told behind a step that is the last though others could follow
abbrev pub end_behind : Shared → List Name → Option Goal → ℕ → Seen → History → Option (List ℕ)
end_behind opening names goal waited (seen.Event at) history = end_at names goal (slice_get history at)
end_behind opening names goal waited (seen.Busy holder held) history = waiting_end (all_wait opening waited history) (is_up_to_busy goal)
end_behind opening names goal waited seen.NotYet history = waiting_end (all_wait opening waited history) false
end_behind opening names goal waited seen.Unfit history = None
end_behind opening names goal waited seen.Ran history = None
end_behind opening names goal waited seen.Ended history = None

-- a step waited
abbrev pub is_waiting : Seen → Bool
is_waiting (seen.Event at) = false
is_waiting (seen.Busy holder held) = true
is_waiting seen.NotYet = true
is_waiting seen.Unfit = false
is_waiting seen.Ran = false
is_waiting seen.Ended = false

-- what was seen of a step in turn, if one was made
abbrev pub seen_of : Gone → Option Seen
seen_of gones.NotAtEnd = None
seen_of gones.Over = None
seen_of (gones.At job routine line) = None
seen_of (gones.Step job (Ok what)) = Some what
seen_of (gones.Step job (Err why)) = None

-- how many of the last steps in turn waited, one after the other, with one more
abbrev pub waited_with : ℕ → Option Seen → ℕ
waited_with waited None = 0
waited_with waited (Some what) = if is_waiting what then waited + 1 else 0

abbrev pub waited_behind : ℕ → Gone → ℕ
waited_behind waited gone = waited_with waited (seen_of gone)

-- What is told behind a step in turn that is the last, of which so many waited. One that isn't made is the last.
abbrev pub ending_with : Shared → List Name → Option Goal → ℕ → Option Seen → History → Option (List ℕ)
ending_with opening names goal waited None history = Some []
ending_with opening names goal waited (Some what) history = end_behind opening names goal waited what history

abbrev pub ending : Shared → List Name → Option Goal → ℕ → Gone → History → Option (List ℕ)
ending opening names goal waited gone history = ending_with opening names goal waited (seen_of gone) history
