-- What a job holds stays formed.
use Rattle.std.proofs.Common.{◌≡◌, ℕ, zero, suc, ◌-◌, Bool, true, not, List, [], ◌∷◌, length, take, drop, Option, Some, None, refl}
use Rattle.std.specs.Prelude.{ℤ}
use Rattle.std.specs.List.{list_any, filter}
use Rattle.std.specs.Option.{unwrap_or}
use Rattle.std.specs.Str.{bytes_eq}
use Rattle.mj_subs.specs.Name.{is_word}
use Rattle.mj_store.specs.Questions.{Subtree}
use Rattle.mj_store.specs.Changes.{after_set}
use Rattle.mj_ask.specs.Formed.{is_subtree}
use Rattle.mj_ast.specs.Routines.{IsName}
use Rattle.mj_semantics.specs.State.{Locals, Words, Only, Saved, Place, Frame, TransactionMark, State, covers, put_back, undone, newed, plain_name, bound, passed, popped, kill_except, hold, those_of, marked, raised, lowered, settled, restored_at, standing_at, back_at, restarted}
use Rattle.mj_semantics.specs.Sharing.{in_time}
use Rattle.mj_rou.specs.Words.{Each}
use Rattle.mj_written.specs.Formed.{are_locals}
use Rattle.mj_written.proofs.Locals.{set_stays, some_stay, put_in}
use Rattle.mj_written.proofs.Names.{word_is, local_is}

-- what a NEW saved is formed
abbrev pub IsSaved : Saved → Type 0
IsSaved v = are_locals v.locals ≡ true

-- the place of a frame is a line of a routine whose name is a word, and so is that of a mark, if there is one
abbrev pub IsFramed : Frame → Type 0
IsFramed f = is_word f.place.routine ≡ true

abbrev pub IsPlaced : Option Place → Type 0
IsPlaced None = Unit {0}
IsPlaced (Some p) = is_word p.routine ≡ true

-- what a mark keeps for a restart is formed
abbrev pub IsMarked : Option TransactionMark → Type 0
IsMarked None = Unit {0}
IsMarked (Some m) = (are_locals m.locals ≡ true) × IsPlaced m.place

-- the locals are formed, those that were saved, those that a restart restores, and what a MERGE has in hand; and frames stand at lines of such routines
pub record IsFormed (s : State) : Type 0 where
  pub locals : are_locals s.locals ≡ true
  pub saved : Each IsSaved s.saved
  pub mark : IsMarked s.mark
  pub held : is_subtree s.held ≡ true
  pub frames : Each IsFramed s.frames

first_ones : (k : ℕ) (list : List Saved) → Each IsSaved list → Each IsSaved (take k list)
first_ones zero list h = tt
first_ones (suc k) [] h = tt
first_ones (suc k) (v ∷ list) h = (h.0, first_ones k list h.1)

others : (k : ℕ) (list : List Saved) → Each IsSaved list → Each IsSaved (drop k list)
others zero list h = h
others (suc k) [] h = tt
others (suc k) (v ∷ list) h = others k list h.1

back : (v : Saved) (now : Locals) → IsSaved v → are_locals now ≡ true → are_locals (put_back v now) ≡ true
back v now h k =
    put_in (filter (λ e. covers v.words e.0.word) v.locals) (filter (λ e. not (covers v.words e.0.word)) now)
    (some_stay (covers v.words) v.locals h) (some_stay (λ w. not (covers v.words w)) now k)

undoes : (list : List Saved) (now : Locals) → Each IsSaved list → are_locals now ≡ true → are_locals (undone list now) ≡ true
undoes [] now h k = k
undoes (v ∷ list) now h k = undoes list (put_back v now) h.1 (back v now h.0 k)

pub pops : (s : State) → IsFormed s → IsFormed (popped s)
pops s h = by s.frames h.frames
  where
    by : (fs : List Frame) → Each IsFramed fs → IsFormed (elim fs [
      | [] ↦ s
      | f ∷ fs ↦ record s {
        locals = undone (take (length s.saved - f.height) s.saved) s.locals;
        saved = drop (length s.saved - f.height) s.saved;
        test = unwrap_or f.test s.test;
        frames = fs;
      }
    ])
    by [] k = h
    by (f ∷ fs) k = record {
      locals = undoes (take (length s.saved - f.height) s.saved) s.locals (first_ones (length s.saved - f.height) s.saved h.saved) h.locals;
      saved = others (length s.saved - f.height) s.saved h.saved;
      mark = h.mark;
      held = h.held;
      frames = k.1;
    }

pub news : (words : Words) (s : State) → IsFormed s → IsFormed (newed words s)
news words s h = record {
  locals = some_stay (λ w. not (covers words w)) s.locals h.locals;
  saved = (some_stay (covers words) s.locals h.locals, h.saved);
  mark = h.mark;
  held = h.held;
  frames = h.frames;
}

binds : (formals : List (List ℕ)) (vs : List (Option (List ℕ))) (locals : Locals) → Each IsName formals → are_locals locals ≡ true → are_locals (bound formals vs locals) ≡ true
binds [] vs locals n h = h
binds (x ∷ xs) [] locals n h = h
binds (x ∷ xs) (None ∷ vs) locals n h = binds xs vs locals n.1 h
binds (x ∷ xs) (Some v ∷ vs) locals n h =
    binds xs vs (after_set locals (plain_name x) v) n.1
    (set_stays (plain_name x) v locals (local_is (plain_name x) refl (record { word = word_is x n.0; few = refl; filled = refl })) h)

pub passes_on : (formals : List (List ℕ)) (vs : List (Option (List ℕ))) (s : State) → Each IsName formals → IsFormed s → IsFormed (passed formals vs s)
passes_on formals vs s n h =
    let k : IsFormed (newed (Only formals) s) = news (Only formals) s h in
    record { locals = binds formals vs (newed (Only formals) s).locals n k.locals; saved = k.saved; mark = k.mark; held = k.held; frames = k.frames }

pub spares : (words : List (List ℕ)) (s : State) → IsFormed s → IsFormed (kill_except words s)
spares words s h = record { locals = some_stay (λ w. list_any (bytes_eq w) words) s.locals h.locals; saved = h.saved; mark = h.mark; held = h.held; frames = h.frames }

pub holds_on : (nodes : Subtree) (s : State) → is_subtree nodes ≡ true → IsFormed s → IsFormed (hold nodes s)
holds_on nodes s n h = record { locals = h.locals; saved = h.saved; mark = h.mark; held = n; frames = h.frames }

pub times : (timeout : Option ℤ) (b : Bool) (s : State) → IsFormed s → IsFormed (in_time timeout b s)
times None b s h = h
times (Some n) b s h = record { locals = h.locals; saved = h.saved; mark = h.mark; held = h.held; frames = h.frames }

-- Transactions.

keeps_some : (restored : Option Words) (locals : Locals) → are_locals locals ≡ true → are_locals (those_of restored locals) ≡ true
keeps_some None locals h = refl
keeps_some (Some words) locals h = some_stay (covers words) locals h

-- where the innermost frame stands
innermost_placed : (fs : List Frame) → Each IsFramed fs → IsPlaced (elim fs [ [] ↦ None | f ∷ fs ↦ Some f.place ])
innermost_placed [] k = tt
innermost_placed (f ∷ fs) k = k.0

outer_frames : (k : ℕ) (fs : List Frame) → Each IsFramed fs → Each IsFramed (drop k fs)
outer_frames zero fs h = h
outer_frames (suc k) [] h = tt
outer_frames (suc k) (f ∷ fs) h = outer_frames k fs h.1

stood_at : (p : Option Place) (fs : List Frame) → IsPlaced p → Each IsFramed fs → Each IsFramed (standing_at p fs)
stood_at None fs q h = h
stood_at (Some p) [] q h = tt
stood_at (Some p) (f ∷ fs) q h = (q, h.1)

pub marks : (restored : Option Words) (serial : Bool) (s : State) → IsFormed s → IsFormed (marked restored serial s)
marks restored serial s h = record { locals = h.locals; saved = h.saved; mark = (keeps_some restored s.locals h.locals, innermost_placed s.frames h.frames); held = h.held; frames = h.frames }

pub raises : (s : State) → IsFormed s → IsFormed (raised s)
raises s h = record { locals = h.locals; saved = h.saved; mark = h.mark; held = h.held; frames = h.frames }

pub lowers : (s : State) → IsFormed s → IsFormed (lowered s)
lowers s h = record { locals = h.locals; saved = h.saved; mark = h.mark; held = h.held; frames = h.frames }

pub settles : (s : State) → IsFormed s → IsFormed (settled s)
settles s h = record { locals = h.locals; saved = h.saved; mark = tt; held = h.held; frames = h.frames }

restores : (m : TransactionMark) (now : Locals) → are_locals m.locals ≡ true → are_locals now ≡ true → are_locals (restored_at m now) ≡ true
restores m now h k = by m.restored
  where
    by : (o : Option Words) → are_locals (elim o [ None ↦ now | Some words ↦ put_back (record { words = words; locals = m.locals }) now ]) ≡ true
    by None = k
    by (Some words) = back (record { words = words; locals = m.locals }) now h k

pub restarts : (s : State) → IsFormed s → IsFormed (restarted s)
restarts s h = by s.mark h.mark
  where
    by : (o : Option TransactionMark) → IsMarked o → IsFormed (elim o [ None ↦ s | Some m ↦ back_at m s ])
    by None k = h
    by (Some m) k = record {
      locals = restores m (undone (take (length s.saved - m.height) s.saved) s.locals) k.0
          (undoes (take (length s.saved - m.height) s.saved) s.locals (first_ones (length s.saved - m.height) s.saved h.saved) h.locals);
      saved = others (length s.saved - m.height) s.saved h.saved;
      mark = h.mark;
      held = h.held;
      frames = stood_at m.place (drop (length s.frames - m.depth) s.frames) k.1 (outer_frames (length s.frames - m.depth) s.frames h.frames);
    }
