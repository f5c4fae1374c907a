-- What is shown of an event.
use Rattle.std.proofs.Common.{◌≡◌, ◌∙◌, ℕ, ◌-◌, ◌==◌, ◌&&◌, Bool, true, false, List, [], Option, Some, None, Result, Ok, Err, OnOk, IfSome, refl, sym, ap, subst, append-nil, eqb-true, slice_get, if◌then◌else◌}
use Rattle.std.specs.Borrow.{Bor}
use Rattle.std.specs.Io.KnownBytes.{Appends, Keeps}
use Rattle.mj_ask.specs.declared.ask.Ask.{Ask}
use Rattle.mj_ask.specs.declared.ask.Reply.{Reply}
use Rattle.mj_dev.specs.Shelves.{principal}
use Rattle.mj_sessions.specs.Follow.{ends_on, written_on}
use Rattle.mj_sys.specs.declared.event.Event.{Event}
use Rattle.mj_sys.specs.History.{History}
use Rattle.mj_core.specs.Kept.{shown_event}
use Rattle.mj_live.specs.Events.{session_at, session_behind, bytes_of, bytes_at, IsShown, IsShownAt}

nothing_more : (known : Option (List ℕ)) → Appends known known []
nothing_more None = tt
nothing_more (Some bytes) = sym (append-nil bytes)

-- by what stands there
module _ (history : History) (place session behind : ℕ) (old new : Option (List ℕ)) where
  by_event : (found : Option Event) → found ≡ slice_get history place → behind ≡ session_at session found → Appends old new (bytes_at session found)
      → IsShownAt history place session old behind new
  by_event found there is wrote =
      (is ∙ ap (session_at session) there, subst (λ o. Appends old new (bytes_at session o)) there wrote)

-- nothing stands there
pub at_none : (history : History) (place session : ℕ) (known : Option (List ℕ)) → None ≡ slice_get history place → IsShownAt history place session known session known
at_none history place session known there = by_event history place session session known known None there refl (nothing_more known)

other : (job : ℕ) → (job ≡ 1 → ⊥) → (job == 1) ≡ false
other job is = by (job == 1) refl
  where
    by : (b : Bool) → (job == 1) ≡ b → (job == 1) ≡ false
    by true e = absurd (is (eqb-true job 1 e))
    by false e = e

abbrev nothing : List ℕ
nothing = []

neither : (b : Bool) → (if b then nothing else nothing) ≡ nothing
neither true = refl
neither false = refl

-- an event of another job
pub at_other : (history : History) (place session : ℕ) (known : Option (List ℕ)) (e : Event) → Some e ≡ slice_get history place → (e.job ≡ 1 → ⊥)
    → IsShownAt history place session known session known
at_other history place session known e there is = by_event history place session session known known (Some e) there same bytes
  where
    not_first : (e.job == 1) ≡ false
    not_first = other e.job is

    same : session ≡ session_behind session e
    same = sym (ap (λ (b : Bool). if b && ends_on principal e.ask then session - 1 else session) not_first)

    none : bytes_of session e ≡ nothing
    none = ap (λ (b : Bool). if session == 1 then (if b then written_on principal e.ask e.reply else []) else []) not_first ∙ neither (session == 1)

    bytes : Appends known known (bytes_of session e)
    bytes = subst (λ (l : List ℕ). Appends known known l) (sym none) (nothing_more known)

-- one of the first
pub at_first : (history : History) (place session behind : ℕ) (old new : Option (List ℕ)) (e : Event) → Some e ≡ slice_get history place → e.job ≡ 1
    → IsShown e.ask e.reply session old behind new → IsShownAt history place session old behind new
at_first history place session behind old new e there is (said, wrote) = by_event history place session behind old new (Some e) there so bytes
  where
    first : (e.job == 1) ≡ true
    first = ap (λ (n : ℕ). n == 1) is

    so : behind ≡ session_behind session e
    so = said ∙ sym (ap (λ (b : Bool). if b && ends_on principal e.ask then session - 1 else session) first)

    these : bytes_of session e ≡ (if session == 1 then written_on principal e.ask e.reply else [])
    these = ap (λ (b : Bool). if session == 1 then (if b then written_on principal e.ask e.reply else []) else []) first

    bytes : Appends old new (bytes_of session e)
    bytes = subst (λ (l : List ℕ). Appends old new l) (sym these) wrote

-- ---- what is written

-- the session isn't looked at
pub none_taken : (session : ℕ) (known : Option (List ℕ)) (bytes : List ℕ) → (session ≡ 1 → ⊥) → Appends known known (if session == 1 then bytes else [])
none_taken session known bytes is =
    subst (λ (b : Bool). Appends known known (if b then bytes else [])) (sym (other session is)) (nothing_more known)

-- it is
pub all_taken : (session : ℕ) (old new : Option (List ℕ)) (bytes : List ℕ) → session ≡ 1 → Appends old new bytes
    → Appends old new (if session == 1 then bytes else [])
all_taken session old new bytes is wrote =
    subst (λ (b : Bool). Appends old new (if b then bytes else [])) (ap (λ (n : ℕ). n == 1) (sym is)) wrote

-- flushed behind that
pub flushed : (old mid new : Option (List ℕ)) (bytes : List ℕ) → Appends old mid bytes → Keeps mid new → Appends old new bytes
flushed None mid new bytes wrote kept = tt
flushed (Some x) None new bytes wrote kept = absurd wrote
flushed (Some x) (Some y) None bytes wrote kept = absurd kept
flushed (Some x) (Some y) (Some z) bytes wrote kept = kept ∙ wrote

pub on_ok : {A E P : Type 0} (r : Result A E) → P → OnOk r P
on_ok (Ok a) p = p
on_ok (Err e) p = tt

pub if_some : {A : Type 0} (r : Option A) (P Q : A → Type 0) → ((a : A) → P a → Q a) → IfSome r P → IfSome r Q
if_some None P Q on h = tt
if_some (Some a) P Q on h = on a h
