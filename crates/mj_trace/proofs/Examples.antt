-- Worked rows of the definitions.
use Rattle.std.proofs.Common.{◌≡◌, [], ◌∷◌, true, Some, None, refl}
use Rattle.std.specs.Prelude.{codes}
use Rattle.mj_subs.specs.Name.{Name}
use Rattle.mj_store.specs.declared.access.Access.TheVariants as accesses
use Rattle.mj_store.specs.declared.access.Answer.TheVariants as answers_are
use Rattle.mj_store.specs.declared.store.Direction.TheVariants as directions
use Rattle.mj_ask.specs.declared.ask.Kind.TheVariants as kinds
use Rattle.mj_ask.specs.declared.ask.Ask.TheVariants as asks
use Rattle.mj_ask.specs.declared.ask.SharedAsk.TheVariants as shared_asks
use Rattle.mj_ask.specs.declared.ask.DeviceAsk.TheVariants as device_asks
use Rattle.mj_ask.specs.declared.ask.Reply.TheVariants as replies
use Rattle.mj_trace.specs.Spelling.{ask_text, reply_text}

abbrev a : Name
a = record { global = true; word = codes "A"; subscripts = [] }

abbrev below : Name
below = record { global = true; word = codes "A"; subscripts = codes "1" ∷ codes "x" ∷ [] }

begins : ask_text (asks.Device (codes "0") device_asks.Begin) ≡ codes "dev \"0\" begin"
begins = refl

writes : ask_text (asks.Device (codes "0") (device_asks.Write (97 ∷ 10 ∷ []))) ≡ codes "dev \"0\" write \"a\\0a\""
writes = refl

reads : reply_text (replies.Answer (answers_are.Value (Some (codes "20")))) ≡ codes "\"20\""
reads = refl

orders : ask_text (asks.Shared (shared_asks.Access (accesses.Order below directions.Backward))) ≡ codes "order ^A(1,\"x\") -1"
orders = refl

finds_none : reply_text (replies.Answer (answers_are.Order None)) ≡ codes "-"
finds_none = refl

tries : ask_text (asks.Shared (shared_asks.Try (a ∷ below ∷ []) None)) ≡ codes "try ^A,^A(1,\"x\")"
tries = refl

begins_serial : ask_text (asks.Shared (shared_asks.Begin kinds.Serial)) ≡ codes "begin serial"
begins_serial = refl

starts : ask_text (asks.Shared (shared_asks.Start (record { entry = record { label = Some (codes "B"); routine = codes "R" }; values = None ∷ Some (codes "x") ∷ [] }) None))
    ≡ codes "start B^R (-,\"x\")"
starts = refl

starts_bare : ask_text (asks.Shared (shared_asks.Start (record { entry = record { label = None; routine = codes "R" }; values = [] }) None)) ≡ codes "start ^R ()"
starts_bare = refl

puts : ask_text (asks.Shared (shared_asks.Access (accesses.Put a (([], codes "v") ∷ (codes "1" ∷ [], codes "w") ∷ [])))) ≡ codes "put ^A {()=\"v\",(1)=\"w\"}"
puts = refl
