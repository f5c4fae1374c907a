-- Who holds what, one event after the other.
use Rattle.std.specs.Prelude.{◌⊎◌, take, if◌then◌else◌}
use Rattle.std.specs.List.{All, Contains, filter}
use Rattle.std.proofs.Common.{◌≡◌, ℕ, zero, suc, ◌<◌, ◌≤◌, Bool, true, false, List, [], ◌∷◌, ◌++◌, length, refl, sym, ap, ◌∙◌, subst, inl, inr, arith}
use Rattle.std.proofs.lemmas.List.{take-append-le, length-append}
use Rattle.std.proofs.lemmas.List.Elements.{All-nil, All-weaker, All-append}
use Rattle.std.proofs.lemmas.Option.{slice_get_within}
use Rattle.mj_subs.specs.Name.{Name}
use Rattle.mj_locktab.specs.Locks.{Locks, count_of}
use Rattle.mj_sys.specs.declared.event.Event.{Event}
use Rattle.mj_sys.specs.Shared.{Shared}
use Rattle.mj_sys.specs.History.{History, state_of}
use Rattle.mj_sys.proofs.Replays.{state_with}
use Rattle.mj_retrace.specs.Retraced.{locked_by, IsTaken, IsHeldFrom, IsHeldSince, WasHeld, AreAllHeld}
use Rattle.mj_retrace.specs.Noted.{Note, Gone, changes_locks, is_held, is_noted, with_names, noted, gone}
use Rattle.mj_retrace.proofs.Listed.{get_last, get_front, less_or_next, take_whole, take_front, take_next}
use Rattle.mj_retrace.proofs.Locking.{IsToldSo, unchanged, takes}
use Rattle.mj_retrace.proofs.Noting.{true_not, held_some, held_none, place_noted, noted_held, IsNew, with_names_on, with_names_noted, with_names_all, gone_all, held_all}

-- a job and a name that are held are noted
abbrev AreNoted : Locks → List Note → Type 0
AreNoted locks holds = (job : ℕ) (name : Name) → 0 < count_of locks job name → is_noted holds job name ≡ true

-- what is noted behind a history is so, and it is all that is held
pub record AreHeld (opening : Shared) (history : History) (holds : List Note) (past : List Gone) : Type 0 where
  pub since : All (IsHeldSince opening history) holds
  pub all : AreNoted (state_of opening history).locks holds
  pub held : All (WasHeld opening history) past

pub all_held : (opening : Shared) (history : History) (holds : List Note) (past : List Gone) → AreHeld opening history holds past → AreAllHeld opening history holds
all_held opening history holds past are job name some = place_noted holds job name (are.all job name some)

-- where nobody holds anything
pub none_held : (opening : Shared) → ((job : ℕ) (name : Name) → count_of opening.locks job name ≡ 0) → AreHeld opening [] [] []
none_held opening none = record {
  since = All-nil (IsHeldSince opening []);
  all = λ job name some. absurd (let isnt = none job name in omega (arith, isnt, some));
  held = All-nil (WasHeld opening []);
}

-- ---- one event more

module _ (opening : Shared) (history : History) (e : Event) where
  abbrev longer : History
  longer = history ++ e ∷ []

  abbrev before : Locks
  before = (state_of opening history).locks

  abbrev behind : Locks
  behind = (state_of opening longer).locks

  more_long : length longer ≡ suc (length history)
  more_long = omega (arith, length-append history (e ∷ []))

  -- the locks behind the first events
  abbrev at : History → ℕ → Locks
  at h m = (state_of opening (take m h)).locks

  at_front : (m : ℕ) → m ≤ length history → at longer m ≡ at history m
  at_front m le = ap (λ (h : History). (state_of opening h).locks) (take-append-le m history (e ∷ []) le)

  at_end : at longer (suc (length history)) ≡ behind
  at_end = ap (λ (h : History). (state_of opening h).locks) (take_next history e)

  at_last : at longer (length history) ≡ before
  at_last = ap (λ (h : History). (state_of opening h).locks) (take_front history e)

  taken_on : (job : ℕ) (name : Name) (place : ℕ) → IsTaken opening history job name place → IsTaken opening longer job name place
  taken_on job name place is =
      let less = slice_get_within history place is.event is.there in
      record {
        event = is.event;
        there = get_front history e place is.event is.there;
        of = is.of;
        takes = is.takes;
        free = ap (λ (l : Locks). count_of l job name) (at_front place (omega (arith, less))) ∙ is.free;
      }

  held_front : (job : ℕ) (name : Name) (from end : ℕ) → end ≤ length history → IsHeldFrom opening history job name from end → IsHeldFrom opening longer job name from end
  held_front job name from end le held m more less =
      subst (λ (l : Locks). 0 < count_of l job name) (sym (at_front m (omega (arith, le, less)))) (held m more less)

  -- what is held still is held since the same event
  since_on : (h : Note) → IsHeldSince opening history h → 0 < count_of behind h.0 h.1 → IsHeldSince opening longer h
  since_on h is some = record {
    taken = taken_on h.0 h.1 h.2 is.taken;
    held = λ m more less. by m more (less_or_next m (length history) (let long = more_long in omega (arith, long, less)));
  } where
    by : (m : ℕ) → h.2 < m → (m ≤ length history) ⊎ (m ≡ suc (length history)) → 0 < count_of (at longer m) h.0 h.1
    by m more (inl le) = held_front h.0 h.1 h.2 (length history) (omega arith) is.held m more le
    by m more (inr last) = subst (λ (l : Locks). 0 < count_of l h.0 h.1) (sym (ap (at longer) last ∙ at_end)) some

  -- what isn't held any more was held up to this event
  gone_now : (h : Note) → IsHeldSince opening history h → count_of behind h.0 h.1 ≡ 0 → WasHeld opening longer (h.0, h.1, h.2, length history)
  gone_now h is none = record {
    taken = taken_on h.0 h.1 h.2 is.taken;
    held = held_front h.0 h.1 h.2 (length history) (omega arith) is.held;
    within = (let long = more_long in omega (arith, long));
    ends = ap (λ (l : Locks). count_of l h.0 h.1) at_end ∙ none;
  }

  was_on : (g : Gone) → WasHeld opening history g → WasHeld opening longer g
  was_on g was = record {
    taken = taken_on g.0 g.1 g.2 was.taken;
    held = held_front g.0 g.1 g.2 g.3 (let less = was.within in omega (arith, less)) was.held;
    within = (let long = more_long in let less = was.within in omega (arith, long, less));
    ends = ap (λ (l : Locks). count_of l g.0 g.1) (at_front (suc g.3) (let less = was.within in omega (arith, less))) ∙ was.ends;
  }

  -- what the event locks, and its job didn't hold before
  taken_now : (name : Name) → Contains (locked_by e.ask e.reply) name → 0 < count_of behind e.job name → count_of before e.job name ≡ 0
      → IsHeldSince opening longer (e.job, name, length history)
  taken_now name locks some none = record {
    taken = record {
      event = e;
      there = get_last history e;
      of = refl;
      takes = locks;
      free = ap (λ (l : Locks). count_of l e.job name) at_last ∙ none;
    };
    held = λ m more less.
        (let last : m ≡ suc (length history) = (let long = more_long in omega (arith, more, less, long)) in
        subst (λ (l : Locks). 0 < count_of l e.job name) (sym (ap (at longer) last ∙ at_end)) some);
  }

  module _ (holds : List Note) (past : List Gone) (are : AreHeld opening history holds past) (told : IsToldSo (state_of opening history) e) where
    -- an event that may not change who holds what
    module _ (isnt : changes_locks e.ask ≡ false) where
      same : behind ≡ before
      same = ap (λ (s : Shared). s.locks) (state_with opening history e) ∙ unchanged (state_of opening history) e isnt

      still : (h : Note) → IsHeldSince opening history h → IsHeldSince opening longer h
      still h is =
          let less = slice_get_within history h.2 is.taken.event is.taken.there in
          let whole : at history (length history) ≡ before = ap (λ (x : History). (state_of opening x).locks) (take_whole history) in
          since_on h is (subst (λ (l : Locks). 0 < count_of l h.0 h.1) (whole ∙ sym same) (is.held (length history) less (omega arith)))

      held_still : AreHeld opening longer holds (past ++ [])
      held_still = record {
        since = All-weaker (IsHeldSince opening history) (IsHeldSince opening longer) still holds are.since;
        all = λ job name some. are.all job name (subst (λ (l : Locks). 0 < count_of l job name) same some);
        held = All-append (WasHeld opening longer) past [] (All-weaker (WasHeld opening history) (WasHeld opening longer) was_on past are.held) (All-nil (WasHeld opening longer));
      }

    -- one that may
    abbrev left : List Note
    left = filter (is_held behind) holds

    goes_on : (job : ℕ) (name : Name) → 0 < count_of behind job name → (0 < count_of before job name) ⊎ ((job ≡ e.job) × Contains (locked_by e.ask e.reply) name)
    goes_on job name some =
        takes (state_of opening history) e told job name
        (subst (λ (s : Shared). 0 < count_of s.locks job name) (state_with opening history e) some)

    -- what wasn't noted of what is held wasn't held before
    was_free : (name : Name) → IsNew behind e.job (length history) left name → count_of before e.job name ≡ 0
    was_free name new = by (count_of before e.job name) refl
      where
        by : (n : ℕ) → count_of before e.job name ≡ n → count_of before e.job name ≡ 0
        by zero is = is
        by (suc n) is = absurd (true_not (sym (noted_held behind holds e.job name (are.all e.job name (omega (arith, is))) new.0) ∙ new.1))

    held_on : AreHeld opening longer (with_names behind e.job (length history) (locked_by e.ask e.reply) left) (past ++ gone behind (length history) holds)
    held_on = record {
      since = with_names_all behind e.job (length history) (IsHeldSince opening longer) (locked_by e.ask e.reply) left left
          (held_all behind (IsHeldSince opening history) (IsHeldSince opening longer) (λ h is held. since_on h is (held_some (count_of behind h.0 h.1) held)) holds are.since)
          (λ other m is. is) (λ name locks new. taken_now name locks new.0 (was_free name new));
      all = λ job name some. by job name some (goes_on job name some);
      held = All-append (WasHeld opening longer) past (gone behind (length history) holds)
          (All-weaker (WasHeld opening history) (WasHeld opening longer) was_on past are.held)
          (gone_all behind (length history) (IsHeldSince opening history) (WasHeld opening longer)
          (λ h is free. gone_now h is (held_none (count_of behind h.0 h.1) free)) holds are.since);
    } where
      by : (job : ℕ) (name : Name) → 0 < count_of behind job name → (0 < count_of before job name) ⊎ ((job ≡ e.job) × Contains (locked_by e.ask e.reply) name)
          → is_noted (with_names behind e.job (length history) (locked_by e.ask e.reply) left) job name ≡ true
      by job name some (inl had) =
          with_names_on behind e.job (length history) (locked_by e.ask e.reply) left job name (noted_held behind holds job name (are.all job name had) some)
      by job name some (inr locks) =
          let own : 0 < count_of behind e.job name = subst (λ (j : ℕ). 0 < count_of behind j name) locks.0 some in
          subst (λ (j : ℕ). is_noted (with_names behind e.job (length history) (locked_by e.ask e.reply) left) j name ≡ true) (sym locks.0)
          (with_names_noted behind e.job (length history) (locked_by e.ask e.reply) left name locks.1 own)

    -- whatever event it is
    pub held_next : AreHeld opening longer (noted behind e.job e.ask e.reply (length history) holds)
        (past ++ (if changes_locks e.ask then gone behind (length history) holds else []))
    held_next = by (changes_locks e.ask) refl
      where
        by : (b : Bool) → changes_locks e.ask ≡ b
            → AreHeld opening longer (if b then with_names behind e.job (length history) (locked_by e.ask e.reply) left else holds)
            (past ++ (if b then gone behind (length history) holds else []))
        by true is = held_on
        by false is = held_still is
