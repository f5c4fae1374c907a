-- Histories of all events, those that the shared state doesn't serve among them.
use Rattle.std.specs.Prelude.{◌≡◌, [], ◌∷◌, true, ⊤, if◌then◌else◌}
use Rattle.mj_ask.specs.Fits.{is_shared}
use Rattle.mj_jobs.specs.Rows.{IsLive}
use Rattle.mj_sys.specs.declared.event.Event.{Event}
use Rattle.mj_sys.specs.Shared.{Shared}
use Rattle.mj_sys.specs.History.{History, IsServed, after}

-- the events that the shared state served
abbrev pub shared_of : History → History
shared_of [] = []
shared_of (e ∷ history) = if is_shared e.ask then e ∷ shared_of history else shared_of history

-- an event comes where its job has a row that hasn't ended; and what the shared state serves is told as it serves it
abbrev pub Happens : Shared → Event → Type 0
Happens s e = IsLive s.rows e.job × (is_shared e.ask ≡ true → IsServed s e)

-- each event of the history, behind those before it. So no job has an event before its row is there, or behind its halt
abbrev pub AllHappen : Shared → History → Type 0
AllHappen s [] = ⊤
AllHappen s (e ∷ history) = Happens s e × AllHappen (after s e) history
