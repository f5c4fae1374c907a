-- Which entry of its job's log an event is.
use Rattle.std.specs.Prelude.{slice_get}
use Rattle.std.specs.List.{slice_index_or}
use Rattle.std.proofs.Common.{◌≡◌, ℕ, zero, suc, List, [], ◌∷◌, ◌++◌, length, map, take, drop, Option, Some, None, refl, sym, ap, ◌∙◌, subst, append_assoc, append-nil}
use Rattle.std.proofs.lemmas.List.{map-append, length-map}
use Rattle.mj_ask.specs.declared.ask.Ask.{Ask}
use Rattle.mj_ask.specs.declared.ask.Reply.{Reply}
use Rattle.mj_semantics.specs.Program.{Program}
use Rattle.mj_semantics.specs.State.{Place}
use Rattle.mj_semantics.specs.Job.{Start}
use Rattle.mj_jobvm.specs.Run.{Log, replies_of}
use Rattle.mj_jobvm.specs.Places.{IsPlaceOf, ArePlaces}
use Rattle.mj_jobvm.proofs.Placed.{place_there}
use Rattle.mj_sys.specs.declared.event.Event.{Event}
use Rattle.mj_sys.specs.History.{History, log_of}
use Rattle.mj_sys.proofs.Rows.{log_of_append}
use Rattle.mj_core.specs.declared.happened.Happened.{Happened}
use Rattle.mj_core.specs.Woven.{AreInOrder}
use Rattle.mj_core.proofs.Logs.{log_own}

-- one more
order_more : (front : History) (order : List Happened) (history : History) (h : Happened) (e : Event) → length order ≡ length history → AreInOrder front order history
    → h.at ≡ length (log_of h.job (front ++ history)) → AreInOrder front (order ++ h ∷ []) (history ++ e ∷ [])
order_more front [] [] h e many are is = (is ∙ ap (λ (f : History). length (log_of h.job f)) (append-nil front), tt)
order_more front [] (x ∷ history) h e many are is = absurd (let no : zero ≡ suc (length history) = many in cc)
order_more front (g ∷ order) [] h e many are is = absurd (let no : suc (length order) ≡ zero = many in cc)
order_more front (g ∷ order) (x ∷ history) h e many are is = (
  are.0,
  order_more (front ++ x ∷ []) order history h e (let m : suc (length order) ≡ suc (length history) = many in cc) are.1
      (is ∙ ap (λ (f : History). length (log_of h.job f)) (sym (append_assoc front (x ∷ []) history))),
)

pub one_in_order : (order : List Happened) (history : History) (h : Happened) (e : Event) → length order ≡ length history → AreInOrder [] order history
    → h.at ≡ length (log_of h.job history) → AreInOrder [] (order ++ h ∷ []) (history ++ e ∷ [])
one_in_order order history h e many are is = order_more [] order history h e many are is

-- that at a place
order_at : (front : History) (order : List Happened) (history : History) → AreInOrder front order history → (i : ℕ) (h : Happened) (e : Event) → slice_get order i ≡ Some h
    → slice_get history i ≡ Some e → h.at ≡ length (log_of h.job (front ++ take i history))
order_at front [] history are i h e there is = absurd (let no : None ≡ Some h = there in cc)
order_at front (g ∷ order) [] are i h e there is = absurd (let no : None ≡ Some e = is in cc)
order_at front (g ∷ order) (x ∷ history) are zero h e there is =
    let same : g ≡ h = (let s : Some g ≡ Some h = there in cc) in
    let P : Happened → Type 0 = λ k. k.at ≡ length (log_of k.job (front ++ [])) in
    subst P same (are.0 ∙ ap (λ (f : History). length (log_of g.job f)) (sym (append-nil front)))
order_at front (g ∷ order) (x ∷ history) are (suc i) h e there is =
    order_at (front ++ x ∷ []) order history are.1 i h e there is ∙ ap (λ (f : History). length (log_of h.job f)) (append_assoc front (x ∷ []) (take i history))

pub in_order_at : (order : List Happened) (history : History) → AreInOrder [] order history → (i : ℕ) (h : Happened) (e : Event) → slice_get order i ≡ Some h
    → slice_get history i ≡ Some e → h.at ≡ length (log_of h.job (take i history))
in_order_at order history are i h e there is = order_at [] order history are i h e there is

cut_at : (history : History) (i : ℕ) (e : Event) → slice_get history i ≡ Some e → history ≡ take i history ++ e ∷ drop (suc i) history
cut_at [] i e is = absurd (let no : None ≡ Some e = is in cc)
cut_at (x ∷ history) zero e is = let same : x ≡ e = (let s : Some x ≡ Some e = is in cc) in ap (λ y. y ∷ history) same
cut_at (x ∷ history) (suc i) e is = ap (λ l. x ∷ l) (cut_at history i e is)

-- so the place that is kept for it is that of its ask
pub asked_from : (program : Program) (start : Start) (history : History) (i : ℕ) (e : Event) (log : Log) (places : List (Option Place)) → slice_get history i ≡ Some e
    → log_of e.job history ≡ log → ArePlaces program start (replies_of log) places
    → IsPlaceOf program start (replies_of (log_of e.job (take i history))) (slice_index_or places (length (log_of e.job (take i history))) None)
asked_from program start history i e log places is logged placed =
    let front : Log = log_of e.job (take i history) in
    let rest : Log = log_of e.job (drop (suc i) history) in
    let whole : log ≡ front ++ (e.ask, e.reply) ∷ rest =
    sym logged ∙ ap (log_of e.job) (cut_at history i e is) ∙ log_of_append e.job (take i history) (e ∷ drop (suc i) history)
    ∙ ap (λ l. front ++ l) (log_of_append e.job (e ∷ []) (drop (suc i) history) ∙ ap (λ (l : Log). l ++ rest) (log_own e.job e refl)) in
    let replies : replies_of log ≡ replies_of front ++ e.reply ∷ replies_of rest = ap replies_of whole ∙ map-append (λ x. x.1) front ((e.ask, e.reply) ∷ rest) in
    subst (λ n. IsPlaceOf program start (replies_of front) (slice_index_or places n None)) (length-map front (λ x. x.1))
    (place_there program start (replies_of front) e.reply (replies_of rest) places (subst (λ l. ArePlaces program start l places) replies placed))
