-- Where a job took what it holds (this profile): the last LOCK of it that got the name, or the last OPEN that got the device.
use Rattle.std.specs.Prelude.{ℕ, zero, suc, ◌==◌, Bool, true, false, ◌&&◌, if◌then◌else◌, List, slice_get, Option, Some, None}
use Rattle.std.specs.List.{list_any}
use Rattle.std.specs.Str.{bytes_eq}
use Rattle.mj_subs.specs.Name.{names_eq}
use Rattle.mj_ask.specs.declared.ask.Ask.{Ask}
use Rattle.mj_ask.specs.declared.ask.Ask.TheVariants as asks
use Rattle.mj_ask.specs.declared.ask.SharedAsk.TheVariants as shared_asks
use Rattle.mj_ask.specs.declared.ask.Reply.{Reply}
use Rattle.mj_ask.specs.declared.ask.Reply.TheVariants as replies
use Rattle.mj_sys.specs.declared.event.Event.{Event}
use Rattle.mj_sys.specs.declared.served.Held.{Held}
use Rattle.mj_sys.specs.declared.served.Held.TheVariants as helds
use Rattle.mj_sys.specs.History.{History}

-- an ask that is told this takes what is held
abbrev pub takes : Ask → Reply → Held → Bool
takes (asks.Shared (shared_asks.Try names timeout)) replies.Got (helds.Name name) = list_any (λ n. names_eq n name) names
takes (asks.Shared (shared_asks.Open device timeout)) replies.Got (helds.Device name) = bytes_eq device name
takes _ _ _ = false

-- by the event the job takes it
abbrev pub is_taking : ℕ → Held → Event → Bool
is_taking job held e = e.job == job && takes e.ask e.reply held

abbrev pub is_taken_at : (Event → Bool) → Option Event → Bool
is_taken_at takes None = false
is_taken_at takes (Some e) = takes e

-- the place of the last such event before an end
abbrev pub last_taking : (Event → Bool) → History → ℕ → Option ℕ
last_taking takes history zero = None
last_taking takes history (suc n) = if is_taken_at takes (slice_get history n) then Some n else last_taking takes history n
