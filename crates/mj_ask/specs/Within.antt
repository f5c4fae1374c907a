-- Which asks and replies keep to a limit of texts: those that a job of a program with this limit may make, and be told.
use Rattle.std.specs.Prelude.{ℕ, List, Option, Some, None, Bool, true, ◌&&◌}
use Rattle.mj_text.specs.declared.limit.Limit.{Limit}
use Rattle.mj_text.specs.declared.limit.Limit.TheVariants.{V1, V2}
use Rattle.mj_text.specs.Limit.{is_within, are_within}
use Rattle.std.specs.List.{list_all}
use Rattle.mj_subs.specs.Name.{Name}
use Rattle.mj_store.specs.declared.access.Access.{Access}
use Rattle.mj_store.specs.declared.access.Access.TheVariants as accesses
use Rattle.mj_store.specs.Runs.{name_of}
use Rattle.mj_ask.specs.declared.ask.Ask.{Ask}
use Rattle.mj_ask.specs.declared.ask.Ask.TheVariants as asks
use Rattle.mj_ask.specs.declared.ask.SharedAsk.{SharedAsk}
use Rattle.mj_ask.specs.declared.ask.SharedAsk.TheVariants as shared_asks
use Rattle.mj_ask.specs.declared.ask.DeviceAsk.{DeviceAsk}
use Rattle.mj_ask.specs.declared.ask.DeviceAsk.TheVariants as device_asks
use Rattle.mj_store.specs.Within.{are_nodes_within}
use Rattle.mj_store.specs.declared.access.Answer.{Answer}
use Rattle.mj_store.specs.declared.access.Answer.TheVariants as answers_are
use Rattle.mj_ask.specs.declared.clash.Kept.{Kept}
use Rattle.mj_ask.specs.declared.clash.Kept.TheVariants as kepts
use Rattle.mj_ask.specs.declared.ask.Reply.{Reply}
use Rattle.mj_ask.specs.declared.ask.Reply.TheVariants as replies

-- a text or a subscript, where there is one
abbrev pub is_any_within : Limit → Option (List ℕ) → Bool
is_any_within limit None = true
is_any_within limit (Some t) = is_within limit t

-- each text and each subscript of an answer is one of the limit
abbrev pub is_answer_within : Limit → Answer → Bool
is_answer_within limit (answers_are.Value v) = is_any_within limit v
is_answer_within limit (answers_are.Order s) = is_any_within limit s
is_answer_within limit (answers_are.Query m) = elim m [ None ↦ true | Some n ↦ are_within limit n.subscripts ]
is_answer_within limit (answers_are.Subtree nodes) = are_nodes_within limit nodes
is_answer_within limit _ = true

-- each text and each subscript of what a clash keeps is
abbrev pub is_kept_within : Limit → Kept → Bool
is_kept_within limit (kepts.Text t) = is_within limit t
is_kept_within limit (kepts.Name n) = are_within limit n.subscripts
is_kept_within limit (kepts.Subtree nodes) = are_nodes_within limit nodes
is_kept_within limit _ = true

-- each text and each subscript of a reply is
abbrev pub are_texts_within : Limit → Reply → Bool
are_texts_within limit (replies.Answer x) = is_answer_within limit x
are_texts_within limit (replies.Line t) = is_within limit t
are_texts_within limit (replies.Clash clash) = is_kept_within limit clash.then && is_kept_within limit clash.now
are_texts_within limit _ = true

-- A reply is within the limit. None is above the greater one
abbrev pub is_reply_within : Limit → Reply → Bool
is_reply_within V1 r = are_texts_within V1 r
is_reply_within V2 r = true

-- the subscripts of a name
abbrev pub is_name_within : Limit → Name → Bool
is_name_within limit n = are_within limit n.subscripts

-- what an access puts at its name, or below it
abbrev pub is_put_within : Limit → Access → Bool
is_put_within limit (accesses.Set n t) = is_within limit t
is_put_within limit (accesses.Put n nodes) = are_nodes_within limit nodes
is_put_within limit _ = true

-- each text and each subscript of what is asked of all share is one of the limit
abbrev pub is_shared_within : Limit → SharedAsk → Bool
is_shared_within limit (shared_asks.Access a) = is_name_within limit (name_of a) && is_put_within limit a
is_shared_within limit (shared_asks.Try names timeout) = list_all (is_name_within limit) names
is_shared_within limit (shared_asks.Unlock names) = list_all (is_name_within limit) names
is_shared_within limit (shared_asks.Open device timeout) = is_within limit device
is_shared_within limit (shared_asks.Close device) = is_within limit device
is_shared_within limit (shared_asks.Start start timeout) = list_all (is_any_within limit) start.values
is_shared_within limit _ = true

-- and of a device
abbrev pub is_device_within : Limit → DeviceAsk → Bool
is_device_within limit (device_asks.Write bytes) = is_within limit bytes
is_device_within limit _ = true

-- each text and each subscript of an ask is
abbrev pub are_asked_within : Limit → Ask → Bool
are_asked_within limit (asks.Shared a) = is_shared_within limit a
are_asked_within limit (asks.Device device a) = is_within limit device && is_device_within limit a
are_asked_within limit (asks.Rest time) = true

-- An ask is within the limit. None is above the greater one
abbrev pub is_ask_within : Limit → Ask → Bool
is_ask_within V1 a = are_asked_within V1 a
is_ask_within V2 a = true
