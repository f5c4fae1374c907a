-- Which sessions are there behind an ask.
use Rattle.std.specs.Prelude.{ℤ, ◌&&◌, if◌then◌else◌}
use Rattle.std.specs.Str.{bytes_eq}
use Rattle.std.proofs.Common.{◌≡◌, ℕ, List, Bool, true, false, Option, refl, ap, ◌∙◌, subst}
use Rattle.mj_ask.specs.declared.ask.Ask.{Ask}
use Rattle.mj_ask.specs.declared.ask.Ask.TheVariants as asks
use Rattle.mj_ask.specs.declared.ask.SharedAsk.TheVariants as shared_asks
use Rattle.mj_ask.specs.Fits.{is_shared}
use Rattle.mj_sessions.specs.Follow.{ends_on}
use Rattle.mj_sys.specs.Shared.{Shared, takes_session}
use Rattle.mj_core.specs.Having.{opens_on, has_behind}

-- by an ask to a job's own sessions none goes to it
pub unopened : (s : Shared) (name : List ℕ) (a : Ask) (has : Bool) → is_shared a ≡ false → has_behind s name a has ≡ (if ends_on name a then false else has)
unopened s name (asks.Device d a) has is = refl
unopened s name (asks.Rest t) has is = refl
unopened s name (asks.Shared a) has is = absurd (let no : true ≡ false = is in cc)

-- a shared ask by which none goes to the job leaves it those that it has
pub unmoved : (s : Shared) (name : List ℕ) (a : Ask) (has : Bool) → is_shared a ≡ true → takes_session s a ≡ false → has_behind s name a has ≡ has
unmoved s name (asks.Device d a) has is stays = absurd (let not : false ≡ true = is in cc)
unmoved s name (asks.Rest t) has is stays = absurd (let not : false ≡ true = is in cc)
unmoved s name (asks.Shared a) has is stays = ap (λ b. if opens_on name (asks.Shared a) && b then true else has) stays ∙ by (opens_on name (asks.Shared a)) where
  by : (b : Bool) → (if b && false then true else has) ≡ has
  by true = refl
  by false = refl

and_true : (b has : Bool) → (if b && true then true else has) ≡ (if b then true else has)
and_true true has = refl
and_true false has = refl

-- then it is there by its name
pub moved : (s : Shared) (a : Ask) (name : List ℕ) (timeout : Option ℤ) → a ≡ asks.Shared (shared_asks.Open name timeout) → takes_session s a ≡ true
    → (other : List ℕ) (has : Bool) → has_behind s other a has ≡ (if bytes_eq name other then true else has)
moved s a name timeout is takes other has =
    let Q : Ask → Type 0 = λ b. takes_session s b ≡ true in
    ap (λ b. has_behind s other b has) is ∙ ap (λ b. if bytes_eq name other && b then true else has) (subst Q is takes) ∙ and_true (bytes_eq name other) has
