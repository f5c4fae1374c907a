-- Where the asks of a run came from.
use Rattle.std.specs.Prelude.{◌⊎◌}
use Rattle.std.specs.List.{list_all, slice_index_or}
use Rattle.std.proofs.Common.{◌≡◌, ℕ, zero, suc, Bool, true, false, List, [], ◌∷◌, ◌++◌, length, map, Option, Some, None, inl, inr, refl, sym, ap, ◌∙◌, subst}
use Rattle.std.proofs.lemmas.List.{append_assoc, map-append, length-map}
use Rattle.std.proofs.lemmas.Option.{same_Some, none-some}
use Rattle.mj_subs.specs.Name.{is_word}
use Rattle.mj_ask.specs.declared.ask.Ask.{Ask}
use Rattle.mj_ask.specs.declared.ask.Reply.{Reply}
use Rattle.mj_ask.specs.declared.noted.Noted.{Noted}
use Rattle.mj_ask.specs.declared.noted.Spot.{Spot}
use Rattle.mj_ask.specs.Started.{Started}
use Rattle.mj_ask.specs.Written.{is_entry}
use Rattle.mj_ask.proofs.Lists.{and_true}
use Rattle.mj_semantics.specs.Program.{Program}
use Rattle.mj_semantics.specs.State.{Locals, Place}
use Rattle.mj_semantics.specs.Outcome.{Outcome, Needs, More}
use Rattle.mj_semantics.specs.Job.{Start, next}
use Rattle.mj_semantics.proofs.Depth.{one_answer}
use Rattle.mj_rou.specs.Words.{Each, IsRoutineWorded}
use Rattle.mj_written.specs.Formed.{IsLine}
use Rattle.mj_written.proofs.Runs.{are_written}
use Rattle.mj_jobs.specs.Rows.{Row, row_at, IsLive}
use Rattle.mj_jobvm.specs.Run.{Log, replies_of}
use Rattle.mj_jobvm.specs.Places.{innermost, ArePlaces}
use Rattle.mj_jobvm.proofs.Placed.{place_there}
use Rattle.mj_sys.specs.declared.event.Event.{Event}
use Rattle.mj_sys.specs.Shared.{Shared}
use Rattle.mj_sys.specs.History.{History, after, state_of, log_of}
use Rattle.mj_sys.proofs.Replays.{state_with}
use Rattle.mj_sys.proofs.Rows.{rows_kept, state_of_append, log_of_append}
use Rattle.mj_core.specs.Happen.{AllHappen}
use Rattle.mj_core.specs.Runs.{IsRun, ArePlacedIn, start_in}
use Rattle.mj_replica.specs.Replays.{event_of}
use Rattle.mj_replica.specs.Shows.{Stood, HasStood}
use Rattle.mj_replica.proofs.Spotting.{same_spot}
use Rattle.mj_replica.specs.Placed.{spot_place, spot_for, CameFrom, AllCameFrom, IsElsewhere}
use Rattle.mj_trace.specs.declared.form.Form.TheVariants.{Second}
use Rattle.mj_trace.specs.Lines.{is_spot}
use Rattle.mj_text.specs.declared.limit.Limit.{Limit}
use Rattle.mj_recorded.specs.Laws.{CanBeWritten, IsFormed}
use Rattle.mj_recorded.specs.Traces.{noted_at, noted_behind}
use Rattle.mj_recorded.proofs.Traces.{Makes, makes}
use Rattle.mj_recorded.proofs.Histories.{replies_written, own, row_started}

-- what stands in front of some others
pub front_each : {X : Type 0} (P : X → Type 0) (front back : List X) → Each P (front ++ back) → Each P front
front_each P [] back all = tt
front_each P (x ∷ front) back all = (all.0, front_each P front back all.1)

-- the innermost of lines is one
innermost_line : (limit : Limit) (place : Option Place) (at : List Place) → place ≡ innermost at → Each IsLine at → is_spot (Second limit) (spot_for place) ≡ true
innermost_line limit place [] is lines = ap (λ p. is_spot (Second limit) (spot_for p)) is
innermost_line limit place (p ∷ at) is lines = ap (λ q. is_spot (Second limit) (spot_for q)) is ∙ lines.0

-- and so is a place that is written
pub spot_of_line : (limit : Limit) (spot : Option Spot) (at : List Place) → spot_place spot ≡ innermost at → Each IsLine at → is_spot (Second limit) spot ≡ true
spot_of_line limit None at is lines = refl
spot_of_line limit (Some s) [] is lines = absurd (none-some (record { routine = s.routine; line = s.line }) (sym is))
spot_of_line limit (Some s) (p ∷ at) is lines =
    let same = same_Some (record { routine = s.routine; line = s.line }) p is in
    ap (λ (q : Place). is_word q.routine) same ∙ lines.0

abbrev place_of_next : (ℕ → List (Option Place)) → History → Event → Option Place
place_of_next places front e = slice_index_or (places e.job) (length (log_of e.job front)) None

-- where a job stood at the ask of an event, and that this is the event's place
record Found (program : Program) (opening : Shared) (history : History) (places : ℕ → List (Option Place)) (front : History) (e : Event) : Type 0 where
  row : Row
  there : row_at (state_of opening history).rows e.job ≡ Some row
  near : Row
  there_near : row_at (state_of opening (front ++ e ∷ [])).rows e.job ≡ Some near
  same : near.start ≡ row.start
  made : Makes program (start_in e.job row.start) (log_of e.job front) e.ask e.reply
  place : place_of_next places front e ≡ innermost made.at

module _ (program : Program) (opening : Shared) (history : History) (places : ℕ → List (Option Place)) (run : IsRun program opening history)
    (placed : ArePlacedIn program opening history places) where
  found : (front rest : History) (e : Event) → history ≡ front ++ e ∷ rest → IsLive (state_of opening front).rows e.job → Found program opening history places front e
  found front rest e whole live = record {
    row = row;
    there = there;
    near = beside.0;
    there_near = ap (λ (t : Shared). row_at t.rows e.job) (state_of_append opening front (e ∷ [])) ∙ beside.1;
    same = beside.2 ∙ sym kept.2;
    made = m;
    place = subst (λ n. slice_index_or (places e.job) n None ≡ innermost m.at) (length-map front_log (λ x. x.1))
        (place_there program start (replies_of front_log) e.reply (replies_of (log_of e.job rest)) (places e.job)
        (subst (λ l. AllPlaces l) replies (placed e.job row there)) m.turns e.ask m.locals m.at m.needs);
  }
    where
      s : Shared
      s = state_of opening front

      kept : (row : Row) × (row_at (state_of s (e ∷ rest)).rows e.job ≡ Some row) × (row.start ≡ live.0.start)
      kept = (rows_kept s (e ∷ rest)).starts e.job live.0 live.1

      beside : (row : Row) × (row_at (state_of s (e ∷ [])).rows e.job ≡ Some row) × (row.start ≡ live.0.start)
      beside = (rows_kept s (e ∷ [])).starts e.job live.0 live.1

      row : Row
      row = kept.0

      start : Start
      start = start_in e.job row.start

      front_log : Log
      front_log = log_of e.job front

      there : row_at (state_of opening history).rows e.job ≡ Some row
      there = ap (λ (t : Shared). row_at t.rows e.job) (ap (state_of opening) whole ∙ state_of_append opening front (e ∷ rest)) ∙ kept.1

      log : log_of e.job history ≡ front_log ++ (e.ask, e.reply) ∷ log_of e.job rest
      log = ap (log_of e.job) whole ∙ log_of_append e.job front (e ∷ rest) ∙ ap (λ l. front_log ++ l) (own e rest)

      m : Makes program start front_log e.ask e.reply
      m = makes program start (log_of e.job history) (run.traces e.job row there) front_log (log_of e.job rest) e.ask e.reply log

      replies : replies_of (log_of e.job history) ≡ replies_of front_log ++ e.reply ∷ replies_of (log_of e.job rest)
      replies = ap replies_of log ∙ map-append (λ x. x.1) front_log ((e.ask, e.reply) ∷ log_of e.job rest)

      AllPlaces : List Reply → Type 0
      AllPlaces l = ArePlaces program start l (places e.job)

  -- it came from there
  came : (front rest : History) (e : Event) → history ≡ front ++ e ∷ rest → IsLive (state_of opening front).rows e.job
      → CameFrom program opening front e (place_of_next places front e)
  came front rest e whole live =
      let f = found front rest e whole live in
      let S : Started → Type 0 = λ x. Stood program (start_in e.job x) (log_of e.job (front ++ e ∷ [])) f.made.locals f.made.at in (
        f.made.locals,
        f.made.at,
        (
          f.near,
          f.there_near,
          subst S (sym f.same) (inr (
            log_of e.job front,
            e.ask,
            e.reply,
            log_of_append e.job front (e ∷ []) ∙ ap (λ l. log_of e.job front ++ l) (own e []),
            (f.made.turns, f.made.needs),
          )),
        ),
        f.place,
      )

  all_came : (front rest : History) → history ≡ front ++ rest → AllHappen (state_of opening front) rest → AllCameFrom program opening front (noted_behind places front rest)
  all_came front [] whole happen = tt
  all_came front (e ∷ rest) whole happen =
      let next : state_of opening (front ++ e ∷ []) ≡ after (state_of opening front) e = state_with opening front e in (
        subst (λ p. CameFrom program opening front e p) (sym (same_spot (place_of_next places front e))) (came front rest e whole happen.0.0),
        all_came (front ++ e ∷ []) rest (whole ∙ sym (append_assoc front (e ∷ []) rest)) (subst (λ (t : Shared). AllHappen t rest) (sym next) happen.1),
      )

  pub whole_came : AllCameFrom program opening [] (noted_behind places [] history)
  whole_came = all_came [] history refl run.happen

  -- and that can be written
  module _ (limit : Limit) (worded : Each IsRoutineWorded program.routines) (written : Each CanBeWritten history) (formed : IsFormed (state_of opening history)) where
    spotted : (front rest : History) (e : Event) → history ≡ front ++ e ∷ rest → IsLive (state_of opening front).rows e.job
        → is_spot (Second limit) (spot_for (place_of_next places front e)) ≡ true
    spotted front rest e whole live =
        let f = found front rest e whole live in
        let entry : is_entry f.row.start.entry ≡ true = row_started (state_of opening history).rows e.job f.row formed.rows f.there in
        let before : Each CanBeWritten front = front_each CanBeWritten front (e ∷ rest) (subst (λ (h : History). Each CanBeWritten h) whole written) in
        innermost_line limit (place_of_next places front e) f.made.at f.place
        (are_written program (start_in e.job f.row.start) f.made.turns (replies_of (log_of e.job front)) e.ask f.made.locals f.made.at worded entry
        (replies_written e.job front before) f.made.needs).2

    all_spotted : (front rest : History) → history ≡ front ++ rest → AllHappen (state_of opening front) rest
        → list_all (λ (n : Noted). is_spot (Second limit) n.spot) (noted_behind places front rest) ≡ true
    all_spotted front [] whole happen = refl
    all_spotted front (e ∷ rest) whole happen =
        let next : state_of opening (front ++ e ∷ []) ≡ after (state_of opening front) e = state_with opening front e in
        and_true (is_spot (Second limit) (spot_for (place_of_next places front e))) (list_all (λ (n : Noted). is_spot (Second limit) n.spot) (noted_behind places (front ++ e ∷ []) rest))
        (spotted front rest e whole happen.0.0)
        (all_spotted (front ++ e ∷ []) rest (whole ∙ sym (append_assoc front (e ∷ []) rest)) (subst (λ (t : Shared). AllHappen t rest) (sym next) happen.1))

    pub whole_spotted : list_all (λ (n : Noted). is_spot (Second limit) n.spot) (noted_behind places [] history) ≡ true
    whole_spotted = all_spotted [] history refl run.happen

-- ---- an event came from one place

needs_at : (a b : Ask) (locals locals' : Locals) (at at' : List Place) → Needs a locals at ≡ Needs b locals' at' → at ≡ at'
needs_at a b locals locals' at at' e = cc

module _ (program : Program) (start : Start) (told : List Reply) where
  one_at : (n m : ℕ) (a b : Ask) (locals locals' : Locals) (at at' : List Place) → next program start n told ≡ Needs a locals at → next program start m told ≡ Needs b locals' at'
      → at ≡ at'
  one_at n m a b locals locals' at at' p q = by (one_answer program start n m told)
    where
      by : (next program start n told ≡ More) ⊎ ((next program start m told ≡ More) ⊎ (next program start n told ≡ next program start m told)) → at ≡ at'
      by (inl e) = absurd (let no : Needs a locals at ≡ More = sym p ∙ e in cc)
      by (inr (inl e)) = absurd (let no : Needs b locals' at' ≡ More = sym q ∙ e in cc)
      by (inr (inr e)) = needs_at a b locals locals' at at' (sym p ∙ e ∙ q)

ends_in : (xs ys : Log) (e f : Ask × Reply) → xs ++ e ∷ [] ≡ ys ++ f ∷ [] → xs ≡ ys
ends_in [] [] e f h = refl
ends_in [] (y ∷ []) e f h = cc
ends_in [] (y ∷ z ∷ ys) e f h = cc
ends_in (x ∷ []) [] e f h = cc
ends_in (x ∷ z ∷ xs) [] e f h = cc
ends_in (x ∷ xs) (y ∷ ys) e f h =
    let head : x ≡ y = cc in
    let tail : xs ++ e ∷ [] ≡ ys ++ f ∷ [] = cc in
    ap (λ l. x ∷ l) (ends_in xs ys e f tail) ∙ ap (λ z. z ∷ ys) head

some_last : (log : Log) (e : Ask × Reply) → log ++ e ∷ [] ≡ [] → ⊥
some_last [] e is = let no : e ∷ [] ≡ [] = is in cc
some_last (x ∷ log) e is = let no : x ∷ (log ++ e ∷ []) ≡ [] = is in cc

module _ (program : Program) (opening : Shared) (front : History) (e : Event) where
  its_log : log_of e.job (front ++ e ∷ []) ≡ log_of e.job front ++ (e.ask, e.reply) ∷ []
  its_log = log_of_append e.job front (e ∷ []) ∙ ap (λ l. log_of e.job front ++ l) (own e [])

  -- what a job stood at is the ask of its last entry
  pub stood_at : (start : Start) (locals : Locals) (at : List Place) → Stood program start (log_of e.job (front ++ e ∷ [])) locals at
      → (a : Ask) × (n : ℕ) × (next program start n (replies_of (log_of e.job front)) ≡ Needs a locals at)
  stood_at start locals at (inl none) = absurd (some_last (log_of e.job front) (e.ask, e.reply) (sym its_log ∙ none.0))
  stood_at start locals at (inr (earlier, a, reply, is, (n, needs))) =
      let same : earlier ≡ log_of e.job front = ends_in earlier (log_of e.job front) (a, reply) (e.ask, e.reply) (sym is ∙ its_log) in
      (a, n, subst (λ l. next program start n (replies_of l) ≡ Needs a locals at) same needs)

  pub one_place : (p q : Option Place) → CameFrom program opening front e p → CameFrom program opening front e q → p ≡ q
  one_place p q (locals, at, (row, there, stood), is) (locals', at', (row', there', stood'), is') =
      let same : row ≡ row' = same_Some row row' (sym there ∙ there') in
      let x = stood_at (start_in e.job row.start) locals at stood in
      let y = stood_at (start_in e.job row.start) locals' at'
      (subst (λ (r : Row). Stood program (start_in e.job r.start) (log_of e.job (front ++ e ∷ [])) locals' at') (sym same) stood') in
      is ∙ ap innermost (one_at program (start_in e.job row.start) (replies_of (log_of e.job front)) x.1 y.1 x.0 y.0 locals locals' at at' x.2 y.2) ∙ sym is'
