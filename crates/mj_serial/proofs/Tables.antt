-- What each job has open, by its number, in a list.
use Rattle.std.proofs.Common.{◌≡◌, ℕ, zero, suc, ◌+◌, ◌<◌, Bool, true, false, List, [], ◌∷◌, ◌++◌, length, set, get_or, drop, set-set, Option, Some, None, refl, ap, sym, ◌∙◌, append_assoc, eqb-true, eq-eqb, arith}
use Rattle.std.proofs.Math.Path.{fun_ext}
use Rattle.std.proofs.lemmas.List.{get_or-set_same, get_or-set_other}
use Rattle.std.specs.Prelude.{◌==◌, if◌then◌else◌, slice_get}
use Rattle.std.proofs.lemmas.Option.{same_Some}
use Rattle.std.specs.List.{cons_option}
use Rattle.mj_sys.specs.declared.event.Event.{Event}
use Rattle.mj_sys.specs.History.{History}
use Rattle.mj_serial.specs.Shown.{Shown, shown_after, shown_done, shown_from}

abbrev Table : Type 0
Table = List (Option Shown)

-- what a table has at a place
abbrev pub at : Table → ℕ → Option Shown
at table j = get_or table j None

pub at_nothing : (j : ℕ) → at [] j ≡ None
at_nothing j = get_none j
  where
    get_none : (j : ℕ) → get_or {A = Option Shown} [] j None ≡ None
    get_none zero = refl
    get_none (suc j) = refl

at_set : (wide : Table) (job : ℕ) (o : Option Shown) (j : ℕ) (b : Bool) → (job == j) ≡ b → job < length wide → at (set wide job o) j ≡ (if b then o else at wide j)
at_set wide job o j true q lt =
    let is : job ≡ j = eqb-true job j q in
    ap (λ i. at (set wide job o) i) (sym is) ∙ get_or-set_same wide job o None lt
at_set wide job o j false q lt =
    get_or-set_other wide job j o None (λ e. let yes : (job == j) ≡ true = eq-eqb job j (sym e) in absurd cc)

-- the table after one event
table_after : (wide old new : Table) (job : ℕ) (after : Option Shown) → ((j : ℕ) → at wide j ≡ at old j) → job < length wide
    → new ≡ set (set wide job None) job after → at new ≡ (λ j. if job == j then after else at old j)
table_after wide old new job after same lt is =
    ap at (is ∙ set-set wide job None after)
    ∙ fun_ext (λ j. at_set wide job after j (job == j) refl lt ∙ ap (λ o. if job == j then after else o) (same j))

ended_first : (done : List Shown) (o : Option Shown) (rest : List Shown) → (done ++ cons_option o []) ++ rest ≡ done ++ cons_option o rest
ended_first done None rest = append_assoc done [] rest
ended_first done (Some b) rest = append_assoc done (b ∷ []) rest

pub one_event : (place : ℕ) (h : History) (e : Event) (wide old new : Table) (job : ℕ) (stood after block : Option Shown) (done last : List Shown)
    → ((j : ℕ) → at wide j ≡ at old j) → job ≡ e.job → job < length wide → stood ≡ at wide job
    → after ≡ shown_after e.job place stood e.ask e.reply → block ≡ shown_done e.job place stood e.ask e.reply
    → new ≡ set (set wide job None) job after → last ≡ done ++ cons_option block []
    → last ++ shown_from (suc place) (at new) h ≡ done ++ shown_from place (at old) (e ∷ h)
one_event place h e wide old new job stood after block done last same j lt s a b n l =
    let there : stood ≡ at old e.job = s ∙ same job ∙ ap (at old) j in
    let now : at new ≡ (λ x. if e.job == x then shown_after e.job place (at old e.job) e.ask e.reply else at old x)
    = table_after wide old new job after same lt n
    ∙ ap (λ n x. if n == x then after else at old x) j
    ∙ ap (λ o x. if e.job == x then o else at old x) (a ∙ ap (λ o. shown_after e.job place o e.ask e.reply) there) in
    ap (λ x. x ++ shown_from (suc place) (at new) h) l
    ∙ ended_first done block (shown_from (suc place) (at new) h)
    ∙ ap (λ o. done ++ cons_option o (shown_from (suc place) (at new) h)) (b ∙ ap (λ o. shown_done e.job place o e.ask e.reply) there)
    ∙ ap (λ w. done ++ cons_option (shown_done e.job place (at old e.job) e.ask e.reply) (shown_from (suc place) w h)) now

drop_at : (h : History) (place : ℕ) (e : Event) → slice_get h place ≡ Some e → drop place h ≡ e ∷ drop (suc place) h
drop_at [] place e is = cc
drop_at (x ∷ h) zero e is = ap (λ y. y ∷ h) (same_Some x e is)
drop_at (x ∷ h) (suc place) e is = drop_at h place e is

-- an event of a history is scanned, of which the rest is left then
pub scanned_on : (h : History) (place : ℕ) (e : Event) (table new : Table) (done last all : List Shown) → slice_get h place ≡ Some e
    → done ++ shown_from (place + 1) (at table) (drop place h) ≡ all
    → ((k : History) → last ++ shown_from (suc (place + 1)) (at new) k ≡ done ++ shown_from (place + 1) (at table) (e ∷ k))
    → last ++ shown_from (place + 1 + 1) (at new) (drop (place + 1) h) ≡ all
scanned_on h place e table new done last all there before look =
    let more : suc place ≡ place + 1 = omega arith in
    let further : place + 1 + 1 ≡ suc (place + 1) = omega arith in
    let here : drop place h ≡ e ∷ drop (place + 1) h = drop_at h place e there ∙ ap (λ k. e ∷ drop k h) more in
    ap (λ k. last ++ shown_from k (at new) (drop (place + 1) h)) further
    ∙ look (drop (place + 1) h)
    ∙ ap (λ l. done ++ shown_from (place + 1) (at table) l) (sym here)
    ∙ before
