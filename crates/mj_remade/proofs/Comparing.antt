-- Records that are compared with what was noted.
use Rattle.std.proofs.Common.{◌≡◌, ℕ, zero, suc, ◌+◌, ◌<◌, ◌≤◌, ◌⊎◌, inl, inr, List, [], ◌∷◌, ◌++◌, length, take, Option, Some, None}
use Rattle.std.proofs.Common.{refl, ap, sym, ◌∙◌, subst, arith, option_map}
use Rattle.std.proofs.lemmas.Option.{same_Some}
use Rattle.std.specs.Prelude.{slice_get}
use Rattle.mj_ask.specs.declared.noted.Noted.{Noted}
use Rattle.mj_text.specs.declared.limit.Limit.{Limit}
use Rattle.mj_semantics.specs.Program.{Program}
use Rattle.mj_semantics.specs.State.{Place}
use Rattle.mj_sys.specs.declared.event.Event.{Event}
use Rattle.mj_sys.specs.Shared.{Shared}
use Rattle.mj_sys.specs.History.{History}
use Rattle.mj_replica.specs.Replays.{event_of, history_of}
use Rattle.mj_replica.specs.Placed.{spot_place}
use Rattle.mj_trace.specs.declared.form.Form.{Form}
use Rattle.mj_trace.specs.declared.form.Form.TheVariants.{First, Second}
use Rattle.mj_remade.specs.Records.{IsAskedAt, IsFrom, IsElsewhere, IsRecord, IsApart, Compares}

-- ---- lists

-- one item more of a list
take_more : {A : Type 0} (xs : List A) (k : ℕ) (x : A) → slice_get xs k ≡ Some x → take (suc k) xs ≡ take k xs ++ x ∷ []
take_more [] k x is = cc
take_more (y ∷ xs) zero x is = ap (λ z. z ∷ []) (same_Some y x is)
take_more (y ∷ xs) (suc k) x is = ap (λ l. y ∷ l) (take_more xs k x is)

-- behind the last item there is none more
take_same : {A : Type 0} (xs : List A) (k : ℕ) → slice_get xs k ≡ None → take k xs ≡ take (suc k) xs
take_same [] zero is = refl
take_same [] (suc k) is = refl
take_same (y ∷ xs) zero is = cc
take_same (y ∷ xs) (suc k) is = ap (λ l. y ∷ l) (take_same xs k is)

-- all items of a list
take_all : {A : Type 0} (xs : List A) (n : ℕ) → length xs ≤ n → take n xs ≡ xs
take_all [] zero le = refl
take_all [] (suc n) le = refl
take_all (x ∷ xs) zero le = absurd (omega (arith, le))
take_all (x ∷ xs) (suc n) le = ap (λ l. x ∷ l) (take_all xs n (omega (arith, le)))

-- so many items of a longer list
take_some : {A : Type 0} (xs : List A) (n : ℕ) → n < length xs → length (take n xs) ≡ n
take_some [] n lt = absurd (omega (arith, lt))
take_some (x ∷ xs) zero lt = refl
take_some (x ∷ xs) (suc n) lt = ap suc (take_some xs n (omega (arith, lt)))

-- an item stands within its list
get_within : {A : Type 0} (xs : List A) (k : ℕ) (x : A) → slice_get xs k ≡ Some x → k < length xs
get_within [] k x is = cc
get_within (y ∷ xs) zero x is = omega arith
get_within (y ∷ xs) (suc k) x is = let lt = get_within xs k x is in omega (arith, lt)

-- behind its end a list has none
get_behind : {A : Type 0} (xs : List A) → slice_get xs (length xs) ≡ None
get_behind [] = refl
get_behind (x ∷ xs) = get_behind xs

-- before its end it has one
get_before : {A : Type 0} (xs : List A) (k : ℕ) → k < length xs → slice_get xs k ≡ None → ⊥
get_before [] k lt none = omega (arith, lt)
get_before (x ∷ xs) zero lt none = cc
get_before (x ∷ xs) (suc k) lt none = get_before xs k (omega (arith, lt)) none

-- a number is at most another, or greater
at_most : (a b : ℕ) → (a ≤ b) ⊎ (b < a)
at_most zero b = inl (omega arith)
at_most (suc a) zero = inr (omega arith)
at_most (suc a) (suc b) = by (at_most a b)
  where
    by : (a ≤ b) ⊎ (b < a) → (suc a ≤ suc b) ⊎ (suc b < suc a)
    by (inl le) = inl (omega (arith, le))
    by (inr lt) = inr (omega (arith, lt))

-- ---- what was noted

history_more : (es : List Noted) (x : Noted) → history_of (es ++ x ∷ []) ≡ history_of es ++ event_of x ∷ []
history_more [] x = refl
history_more (e ∷ es) x = ap (λ l. event_of e ∷ l) (history_more es x)

history_length : (es : List Noted) → length (history_of es) ≡ length es
history_length [] = refl
history_length (e ∷ es) = ap suc (history_length es)

history_at : (es : List Noted) (k : ℕ) → slice_get (history_of es) k ≡ option_map event_of (slice_get es k)
history_at [] k = refl
history_at (e ∷ es) zero = refl
history_at (e ∷ es) (suc k) = history_at es k

next : (n : ℕ) → suc n ≡ n + 1
next n = omega arith

-- one event more was noted
pub one_noted : (h : History) (at : ℕ) (es : List Noted) (x : Noted) (e : Event)
    → slice_get h at ≡ Some e → event_of x ≡ e → history_of es ≡ take at h → history_of (es ++ x ∷ []) ≡ take (at + 1) h
one_noted h at es x e is same was =
    history_more es x ∙ ap (λ l. l ++ event_of x ∷ []) was ∙ ap (λ y. take at h ++ y ∷ []) same ∙ sym (take_more h at e is) ∙ ap (λ n. take n h) (next at)

-- there is none more
pub none_noted : (h : History) (at : ℕ) (es : List Noted) → slice_get h at ≡ None → history_of es ≡ take at h → history_of es ≡ take (at + 1) h
none_noted h at es none was = was ∙ take_same h at none ∙ ap (λ n. take n h) (next at)

-- ---- the comparison

-- so many events are what was noted
abbrev pub AreAsNoted : Form → Program → Shared → List Noted → History → ℕ → Type 0
AreAsNoted form program opening es h at =
    (take at h ≡ history_of (take at es))
    × ((k : ℕ) (e : Noted) → k < at → slice_get es k ≡ Some e → IsFrom form program opening h k e)

-- one more is
pub one_more : (form : Form) (program : Program) (opening : Shared) (es : List Noted) (h : History) (at : ℕ) (e : Noted)
    → slice_get es at ≡ Some e → slice_get h at ≡ Some (event_of e) → IsFrom form program opening h at e
    → AreAsNoted form program opening es h at → AreAsNoted form program opening es h (at + 1)
one_more form program opening es h at e there is from before = (same, all)
  where
    same : take (at + 1) h ≡ history_of (take (at + 1) es)
    same =
        ap (λ n. take n h) (sym (next at)) ∙ take_more h at (event_of e) is ∙ ap (λ l. l ++ event_of e ∷ []) before.0 ∙ sym (history_more (take at es) e)
        ∙ ap history_of (sym (take_more es at e there)) ∙ ap (λ n. history_of (take n es)) (next at)

    this : (k : ℕ) (f : Noted) → k ≡ at → slice_get es k ≡ Some f → IsFrom form program opening h k f
    this k f here is =
        subst (λ n. IsFrom form program opening h n f) (sym here)
        (subst (λ g. IsFrom form program opening h at g) (same_Some e f (sym there ∙ ap (λ n. slice_get es n) (sym here) ∙ is)) from)

    one : (k : ℕ) (f : Noted) → k < at + 1 → (at ≤ k) ⊎ (k < at) → slice_get es k ≡ Some f → IsFrom form program opening h k f
    one k f lt (inl le) is = this k f (omega (arith, le, lt)) is
    one k f lt (inr less) is = before.1 k f less is

    all : (k : ℕ) (f : Noted) → k < at + 1 → slice_get es k ≡ Some f → IsFrom form program opening h k f
    all k f lt is = one k f lt (at_most at k) is

-- this one isn't
pub one_apart : (form : Form) (program : Program) (opening : Shared) (es : List Noted) (h : History) (at : ℕ) (e : Noted)
    → slice_get es at ≡ Some e → (slice_get h at ≡ Some (event_of e) → ⊥) ⊎ IsElsewhere form program opening h at e
    → AreAsNoted form program opening es h at → IsApart form program opening es h at
one_apart form program opening es h at e there unlike so = record { before = so.0; from = so.1; apart = by unlike }
  where
    by : (slice_get h at ≡ Some (event_of e) → ⊥) ⊎ IsElsewhere form program opening h at e
        → (slice_get h at ≡ option_map event_of (slice_get es at) → ⊥) ⊎ ((f : Noted) × (slice_get es at ≡ Some f) × IsElsewhere form program opening h at f)
    by (inl other) = inl (λ is. other (is ∙ ap (option_map event_of) there))
    by (inr elsewhere) = inr (e, there, elsewhere)

-- all are, and there are no more
pub all_noted : (form : Form) (program : Program) (opening : Shared) (es : List Noted) (h : History) (at : ℕ)
    → length es ≤ at → length h ≡ length es → AreAsNoted form program opening es h at → IsRecord form program opening es h
all_noted form program opening es h at past long so = record {
  same = sym (take_all h at (omega (arith, past, long))) ∙ so.0 ∙ ap history_of (take_all es at past);
  from = λ k e is. so.1 k e (let lt = get_within es k e is in omega (arith, lt, past)) is;
}

-- all are, and there are others
pub more_noted : (form : Form) (program : Program) (opening : Shared) (es : List Noted) (h : History) (at : ℕ)
    → length es ≤ at → (length h ≡ length es → ⊥) → AreAsNoted form program opening es h at → IsApart form program opening es h (length es)
more_noted form program opening es h at past other so = by (at_most (length h) at)
  where
    whole : take at h ≡ history_of es
    whole = so.0 ∙ ap history_of (take_all es at past)

    many : length (take at h) ≡ length es
    many = ap length whole ∙ history_length es

    longer : at < length h → IsApart form program opening es h (length es)
    longer lt =
        let here : at ≡ length es = sym (take_some h at lt) ∙ many in
        record {
          before = subst (λ n. take n h ≡ history_of (take n es)) here so.0;
          from = λ k e lt is. so.1 k e (omega (arith, lt, here)) is;
          apart = inl (λ is. get_before h (length es) (omega (arith, lt, here)) (is ∙ ap (option_map event_of) (get_behind es)));
        }

    by : (length h ≤ at) ⊎ (at < length h) → IsApart form program opening es h (length es)
    by (inl le) = absurd (other (ap length (sym (take_all h at le)) ∙ many))
    by (inr lt) = longer lt

-- where no places are noted, a record is compared by its events alone
pub by_events : (program : Program) (opening : Shared) (es : List Noted) (h : History) → Compares First program opening es h None → h ≡ history_of es
by_events program opening es h is = is.same

pub not_by_events : (program : Program) (opening : Shared) (es : List Noted) (h : History) (at : ℕ)
    → Compares First program opening es h (Some at) → h ≡ history_of es → ⊥
not_by_events program opening es h at is same = by is.apart
  where
    by : (slice_get h at ≡ option_map event_of (slice_get es at) → ⊥) ⊎ ((e : Noted) × (slice_get es at ≡ Some e) × IsElsewhere First program opening h at e) → ⊥
    by (inl other) = other (ap (λ l. slice_get l at) same ∙ history_at es at)
    by (inr (e, there, bad)) = bad

-- ---- where asks came from

-- it came from where it was noted to
pub from_spot : (limit : Limit) (program : Program) (opening : Shared) (h : History) (at : ℕ) (e : Noted) (place : Option Place)
    → IsAskedAt program opening h at place → place ≡ spot_place e.spot → IsFrom (Second limit) program opening h at e
from_spot limit program opening h at e place asked is = subst (IsAskedAt program opening h at) is asked

-- it came from elsewhere
pub from_other : (limit : Limit) (program : Program) (opening : Shared) (h : History) (at : ℕ) (e : Noted) (place : Option Place)
    → IsAskedAt program opening h at place → (place ≡ spot_place e.spot → ⊥) → IsElsewhere (Second limit) program opening h at e
from_other limit program opening h at e place asked isnt = (place, asked, isnt)
