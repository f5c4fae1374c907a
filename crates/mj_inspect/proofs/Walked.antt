-- What a job sees of its open transaction, as its events are gone through: from one on by which it closed a transaction, it is what it sees of all.
use Rattle.std.proofs.Common.{◌≡◌, ℕ, zero, suc, ◌<◌, ◌≤◌, ◌+◌, ◌⊎◌, inl, inr, Bool, true, false, cond, ◌&&◌, [], ◌∷◌, ◌++◌, take, drop, Option, Some, None, refl, sym, ap, subst, ◌∙◌, arith}
use Rattle.std.proofs.lemmas.List.{take-append-drop}
use Rattle.std.specs.Prelude.{◌==◌, slice_get}
use Rattle.mj_ask.specs.declared.ask.Ask.{Ask}
use Rattle.mj_ask.specs.declared.ask.Ask.TheVariants as asks
use Rattle.mj_ask.specs.declared.ask.SharedAsk.TheVariants as shared
use Rattle.mj_ask.specs.declared.ask.Reply.{Reply}
use Rattle.mj_store.specs.Questions.{Content}
use Rattle.mj_sys.specs.declared.event.Event.{Event}
use Rattle.mj_sys.specs.History.{History}
use Rattle.mj_inspect.specs.Own.{IsFrom, seen_after, seen_at, seen_behind, seen_on, closes, closes_at}

-- ---- behind an event that closes

-- whatever was seen before, nothing is open behind an ask that closes
none_behind : (committed : Content) (own : Option Content) (a : Ask) (reply : Reply) → closes a ≡ true → seen_after committed own a reply ≡ None
none_behind committed own (asks.Shared shared.Commit) reply e = refl
none_behind committed own (asks.Shared shared.Rollback) reply e = refl
none_behind committed own (asks.Shared (shared.Halt fault)) reply e = refl
none_behind committed own _ reply e = absurd (let no : false ≡ true = e in cc)

both_true : (a b : Bool) → (a && b) ≡ true → (a ≡ true) × (b ≡ true)
both_true true b e = (refl, e)
both_true false b e = absurd cc

closed_there : (committed : Content) (job : ℕ) (own : Option Content) (e : Event) → closes_at job (Some e) ≡ true → seen_at committed job own (Some e) ≡ None
closed_there committed job own e is =
    let two = both_true (e.job == job) (closes e.ask) is in
    ap (λ (b : Bool). seen_on committed own (cond b (Some (e.ask, e.reply)) None)) two.0 ∙ none_behind committed own e.ask e.reply two.1

-- ---- behind several

seen-append : (committed : Content) (job : ℕ) (own : Option Content) (xs ys : History)
    → seen_behind committed job own (xs ++ ys) ≡ seen_behind committed job (seen_behind committed job own xs) ys
seen-append committed job own [] ys = refl
seen-append committed job own (e ∷ xs) ys = seen-append committed job (seen_at committed job own (Some e)) xs ys

-- from an event on by which the job closes one, what was seen before makes no difference
from_end : (committed : Content) (job : ℕ) (own other : Option Content) (h : History) → closes_at job (slice_get h 0) ≡ true
    → seen_behind committed job own h ≡ seen_behind committed job other h
from_end committed job own other [] is = absurd cc
from_end committed job own other (e ∷ h) is =
    ap (λ o. seen_behind committed job o h) (closed_there committed job own e is ∙ sym (closed_there committed job other e is))

get_drop : (h : History) (k : ℕ) → slice_get (drop k h) 0 ≡ slice_get h k
get_drop h zero = refl
get_drop [] (suc k) = refl
get_drop (e ∷ h) (suc k) = get_drop h k

-- so what is seen behind a history is what is seen behind its part from such an event on
from_last : (committed : Content) (job first : ℕ) (h : History) → closes_at job (slice_get h first) ≡ true
    → seen_behind committed job None (drop first h) ≡ seen_behind committed job None h
from_last committed job first h is =
    sym (
    ap (seen_behind committed job None) (sym (take-append-drop first h))
    ∙ seen-append committed job None (take first h) (drop first h)
    ∙ from_end committed job (seen_behind committed job None (take first h)) None (drop first h) (ap (closes_at job) (get_drop h first) ∙ is)
    )

get_front : (h : History) (place at : ℕ) → at < place → slice_get (take place h) at ≡ slice_get h at
get_front h zero at less = absurd (omega (arith, less))
get_front [] (suc place) zero less = refl
get_front [] (suc place) (suc at) less = refl
get_front (e ∷ h) (suc place) zero less = refl
get_front (e ∷ h) (suc place) (suc at) less = get_front h place at (omega (arith, less))

all_from : (h : History) (first : ℕ) → first ≡ 0 → drop first h ≡ h
all_from h first is = subst (λ n. drop n h ≡ h) (sym is) refl

-- and at a place what is seen from such an event before it on
pub seen_there : (committed : Content) (job : ℕ) (h : History) (place first : ℕ) → IsFrom job h place first
    → seen_behind committed job None (drop first (take place h)) ≡ seen_behind committed job None (take place h)
seen_there committed job h place first (inl is) = ap (seen_behind committed job None) (all_from (take place h) first is)
seen_there committed job h place first (inr is) =
    from_last committed job first (take place h) (ap (closes_at job) (get_front h place first is.0) ∙ is.1)

-- ---- the last event by which one is closed

-- an event by which none is closed is passed
pub from_before : (job : ℕ) (h : History) (n last : ℕ) → IsFrom job h n last → IsFrom job h (n + 1) last
from_before job h n last (inl is) = inl is
from_before job h n last (inr is) = inr (omega (arith, is.0), is.1)

-- one by which one is closed is the last
pub from_here : (job : ℕ) (h : History) (n : ℕ) → closes_at job (slice_get h n) ≡ true → IsFrom job h (n + 1) n
from_here job h n on = inr (omega arith, on)

-- before all there is none
pub from_first : (job : ℕ) (h : History) (n : ℕ) → IsFrom job h n 0
from_first job h n = inl refl

-- ---- behind the events from a place on

-- behind the next of them
own_after : (committed : Content) (job : ℕ) (own : Option Content) (h : History) (place at : ℕ) → at < place
    → seen_behind committed job own (drop at (take place h)) ≡ seen_behind committed job (seen_at committed job own (slice_get h at)) (drop (suc at) (take place h))
own_after committed job own [] zero at less = absurd (omega (arith, less))
own_after committed job own [] (suc place) zero less = refl
own_after committed job own [] (suc place) (suc at) less = refl
own_after committed job own (e ∷ h) zero at less = absurd (omega (arith, less))
own_after committed job own (e ∷ h) (suc place) zero less = refl
own_after committed job own (e ∷ h) (suc place) (suc at) less = own_after committed job own h place at (omega (arith, less))

own_next : (committed : Content) (job : ℕ) (own : Option Content) (h : History) (place at : ℕ) → at < place
    → seen_behind committed job own (drop at (take place h)) ≡ seen_behind committed job (seen_at committed job own (slice_get h at)) (drop (at + 1) (take place h))
own_next committed job own h place at less =
    let next : suc at ≡ at + 1 = omega arith in
    subst (λ n. seen_behind committed job own (drop at (take place h)) ≡ seen_behind committed job (seen_at committed job own (slice_get h at)) (drop n (take place h)))
    next (own_after committed job own h place at less)

none_dropped : (at : ℕ) → drop {A = Event} at [] ≡ []
none_dropped zero = refl
none_dropped (suc at) = refl

-- none is left at the end
dropped : (h : History) (place at : ℕ) → place ≤ at → drop at (take place h) ≡ []
dropped [] zero at more = none_dropped at
dropped [] (suc place) at more = none_dropped at
dropped (e ∷ h) zero at more = none_dropped at
dropped (e ∷ h) (suc place) zero more = absurd (omega (arith, more))
dropped (e ∷ h) (suc place) (suc at) more = dropped h place at (omega (arith, more))

-- one event more
pub own_goes : (committed : Content) (job : ℕ) (own next whole : Option Content) (h : History) (place at : ℕ) → at < place
    → seen_behind committed job own (drop at (take place h)) ≡ whole → next ≡ seen_at committed job own (slice_get h at)
    → seen_behind committed job next (drop (at + 1) (take place h)) ≡ whole
own_goes committed job own next whole h place at less so is =
    ap (λ o. seen_behind committed job o (drop (at + 1) (take place h))) is ∙ sym (own_next committed job own h place at less) ∙ so

-- all were
pub own_ends : (committed : Content) (job : ℕ) (own whole : Option Content) (h : History) (place at : ℕ) → place ≤ at
    → seen_behind committed job own (drop at (take place h)) ≡ whole → own ≡ whole
own_ends committed job own whole h place at more so = sym (ap (seen_behind committed job own) (dropped h place at more)) ∙ so
