-- That a job asks of devices only what its sessions with them can serve.
use Rattle.std.specs.Prelude.{◌≡◌, ℕ, List, [], ◌∷◌, Bool, true, false, if◌then◌else◌}
use Rattle.std.specs.Str.{bytes_eq}
use Rattle.mj_ask.specs.declared.ask.Ask.{Ask}
use Rattle.mj_ask.specs.declared.ask.Ask.TheVariants as asks
use Rattle.mj_ask.specs.declared.ask.SharedAsk.TheVariants as shared_asks
use Rattle.mj_ask.specs.declared.ask.DeviceAsk.{DeviceAsk}
use Rattle.mj_ask.specs.declared.ask.DeviceAsk.TheVariants as device_asks
use Rattle.mj_ask.specs.declared.ask.Reply.{Reply}
use Rattle.mj_semantics.specs.State.{Locals, Place, principal}
use Rattle.mj_semantics.specs.Outcome.{Needs, is_failed}
use Rattle.mj_semantics.specs.Devices.{is_got}
use Rattle.mj_semantics.specs.Program.{Program}
use Rattle.mj_semantics.specs.Job.{Start, next}
use Rattle.mj_jobvm.specs.Run.{Log, replies_of, IsTrace}

-- how a job stands to the device of a name, by what it was told: whether it has a session with it, which wasn't ended yet; whether a call of that
-- failed; and whether the name is the job's, which it is from the OPEN that got it up to its CLOSE
pub record Link : Type 0 where
  pub session : Bool
  pub failed : Bool
  pub named : Bool

-- how it stands to each, by its name
abbrev pub Links : Type 0
Links = List ℕ → Link

-- before its first ask a job has a session with the principal device, and no other
abbrev pub first_links : Links
first_links name = record { session = bytes_eq principal name; failed = false; named = false }

abbrev pub is_end : DeviceAsk → Bool
is_end device_asks.End = true
is_end _ = false

-- what an ask of its own session leaves of a link
abbrev pub link_called : DeviceAsk → Reply → Link → Link
link_called ask reply link =
    if is_end ask then record link { session = false; failed = false } else if is_failed reply then record link { failed = true } else link

-- what an ask of any kind leaves of the link to the device of a name
abbrev pub link_behind : List ℕ → Ask → Reply → Link → Link
link_behind name (asks.Device device ask) reply link = if bytes_eq device name then link_called ask reply link else link
link_behind name (asks.Shared (shared_asks.Open device timeout)) reply link =
    if bytes_eq device name then (if is_got reply then record link { session = true; named = true } else link) else link
link_behind name (asks.Shared (shared_asks.Close device)) reply link = if bytes_eq device name then record link { named = false } else link
link_behind name _ reply link = link

abbrev pub links_behind : Links → Ask → Reply → Links
links_behind links a reply name = link_behind name a reply (links name)

-- and what a log leaves
abbrev pub links_after : Links → Log → Links
links_after links [] = links
links_after links (e ∷ log) = links_after (links_behind links e.0 e.1) log

-- An ask that can be served. A job may end each session that it has, and ask another thing only of one of which no call failed; and OPEN asks for a device beside
-- the principal one with which the job has no session, and whose name isn't its own.
abbrev pub IsFit : Links → Ask → Type 0
IsFit links (asks.Device device ask) = ((links device).session ≡ true) × (is_end ask ≡ false → (links device).failed ≡ false)
IsFit links (asks.Shared (shared_asks.Open device timeout)) =
    (bytes_eq device principal ≡ false) × ((links device).session ≡ false) × ((links device).named ≡ false)
IsFit links _ = Unit {0}

-- each ask of a log, behind those before it
abbrev pub AreFit : Links → Log → Type 0
AreFit links [] = Unit {0}
AreFit links (e ∷ log) = IsFit links e.0 × AreFit (links_behind links e.0 e.1) log

-- each ask of a trace is fit, and so is what the run needs next
abbrev pub AsksWhatFits : Type 0
AsksWhatFits =
    (program : Program) (start : Start) (log : Log) → IsTrace program start log
    → AreFit first_links log
    × ((a : Ask) (n : ℕ) (locals : Locals) (at : List Place) → next program start n (replies_of log) ≡ Needs a locals at → IsFit (links_after first_links log) a)
