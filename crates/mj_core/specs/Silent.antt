-- What no device is asked is in no talk with one.
use Rattle.std.specs.Prelude.{◌≡◌, ℕ, List, [], ◌∷◌, ◌++◌, Option, Some, None}
use Rattle.std.proofs.Common.{refl, sym, ap, ◌∙◌, subst, append-nil}
use Rattle.std.proofs.lemmas.Option.{none-some}
use Rattle.mj_ask.specs.declared.ask.Ask.{Ask}
use Rattle.mj_ask.specs.declared.ask.Ask.TheVariants as asks
use Rattle.mj_ask.specs.declared.ask.Reply.{Reply}
use Rattle.mj_dev.specs.Talk.{Exchange}
use Rattle.mj_sessions.specs.Events.{Log, device_of, exchange_on, talk_on}
use Rattle.mj_sessions.proofs.Telling.{talk_more}

none_on : (name : List ℕ) (a : Ask) (reply : Reply) → device_of a ≡ None → exchange_on name a reply ≡ None
none_on name (asks.Device device ask) reply none = absurd (none-some device (sym none))
none_on name (asks.Rest time) reply none = refl
none_on name (asks.Shared ask) reply none = refl

-- what is so by a talk is so behind it
pub silent_on : (Holds : List Exchange → Type 0) (name : List ℕ) (log : Log) (a : Ask) (reply : Reply) → device_of a ≡ None
    → Holds (talk_on name log) → Holds (talk_on name (log ++ (a, reply) ∷ []))
silent_on Holds name log a reply none so =
    subst Holds
    (sym (talk_more name log ((a, reply) ∷ [])
    ∙ ap (λ (o : Option Exchange). talk_on name log ++ elim o as (λ _. List Exchange) [ None ↦ [] | Some x ↦ x ∷ [] ]) (none_on name a reply none)
    ∙ append-nil (talk_on name log))) so
