-- Histories of all events, and what is left of them.
use Rattle.std.specs.Prelude.{if◌then◌else◌}
use Rattle.std.proofs.Common.{◌≡◌, ℕ, [], ◌∷◌, ◌++◌, Bool, true, false, None, refl, sym, ap, ◌∙◌, subst}
use Rattle.mj_ask.specs.Fits.{is_shared}
use Rattle.mj_ask.specs.declared.ask.Ask.{Ask}
use Rattle.mj_ask.specs.declared.ask.Ask.TheVariants as asks
use Rattle.mj_sys.specs.declared.event.Event.{Event}
use Rattle.mj_sys.specs.Shared.{Shared, served}
use Rattle.mj_sys.specs.History.{History, left_by, after, state_of, AreServed}
use Rattle.mj_core.specs.Happen.{shared_of, Happens, AllHappen}

pub shared_append : (history more : History) → shared_of (history ++ more) ≡ shared_of history ++ shared_of more
shared_append [] more = refl
shared_append (e ∷ history) more = by (is_shared e.ask) (shared_append history more) where
  by : (b : Bool) → shared_of (history ++ more) ≡ shared_of history ++ shared_of more
      → (if b then e ∷ shared_of (history ++ more) else shared_of (history ++ more)) ≡ (if b then e ∷ shared_of history else shared_of history) ++ shared_of more
  by true rest = ap (λ h. e ∷ h) rest
  by false rest = rest

-- what isn't shared is served nowhere, so it leaves all as it was
unserved : (s : Shared) (job : ℕ) (ask : Ask) (late : Bool) → is_shared ask ≡ false → served s job ask late ≡ None
unserved s job (asks.Device d a) late is = refl
unserved s job (asks.Rest t) late is = refl
unserved s job (asks.Shared a) late is = absurd (let no : true ≡ false = is in cc)

pub after_unshared : (s : Shared) (e : Event) → is_shared e.ask ≡ false → after s e ≡ s
after_unshared s e is = ap (left_by s) (unserved s e.job e.ask true is)

-- the shared events leave what all leave
pub shared_leaves : (s : Shared) (history : History) → state_of s (shared_of history) ≡ state_of s history
shared_leaves s [] = refl
shared_leaves s (e ∷ history) = by (is_shared e.ask) refl (λ t. shared_leaves t history) where
  by : (b : Bool) → is_shared e.ask ≡ b → ((t : Shared) → state_of t (shared_of history) ≡ state_of t history)
      → state_of s (if b then e ∷ shared_of history else shared_of history) ≡ state_of (after s e) history
  by true is rest = rest (after s e)
  by false is rest = rest s ∙ ap (λ t. state_of t history) (sym (after_unshared s e is))

-- an event more
pub happen_more : (s : Shared) (history : History) (e : Event) → AllHappen s history → Happens (state_of s history) e → AllHappen s (history ++ e ∷ [])
happen_more s [] e all more = (more, tt)
happen_more s (first ∷ history) e all more = (all.0, happen_more (after s first) history e all.1 more)

-- the shared events are served, in order
pub shared_served : (s : Shared) (history : History) → AllHappen s history → AreServed s (shared_of history)
shared_served s [] all = tt
shared_served s (e ∷ history) all = by (is_shared e.ask) refl (λ t h. shared_served t history h) where
  by : (b : Bool) → is_shared e.ask ≡ b → ((t : Shared) → AllHappen t history → AreServed t (shared_of history))
      → AreServed s (if b then e ∷ shared_of history else shared_of history)
  by true is rest = (all.0.1 is, rest (after s e) all.1)
  by false is rest = rest s (let P : Shared → Type 0 = λ t. AllHappen t history in subst P (after_unshared s e is) all.1)
