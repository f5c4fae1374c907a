-- What is read of some bytes is a trace, and the bytes are how it is written.
use Rattle.std.proofs.Common.{◌≡◌, ◌∙◌, ◌+◌, ◌-◌, ◌≤◌, suc, ℕ, Bool, true, false, not, cond, ◌&&◌, eqb, eqb-true, List, [], ◌∷◌, ◌++◌, length, length-append, slice_get, Option, Some, None, Result, Ok, Err, refl, sym, ap, subst, append_assoc, append-nil, arith}
use Rattle.std.specs.Prelude.{IfOk, nat_lt}
use Rattle.std.specs.List.{list_all}
use Rattle.std.specs.Str.{bytes_eq}
use Rattle.std.specs.Cmp.Lexicographic.{bytes_decides}
use Rattle.std.proofs.lemmas.List.Folds.{list_all-append}
use Rattle.std.proofs.lemmas.Bool.Decides.{nat_tests}
use Rattle.mj_store.specs.Nodes.{is_empty}
use Rattle.mj_ask.specs.Written.{is_entry}
use Rattle.mj_ask.specs.declared.entry.Entry.{Entry}
use Rattle.mj_text.specs.Limit.{is_within}
use Rattle.mj_text.specs.declared.limit.Limit.TheVariants.{V1, V2}
use Rattle.mj_ask.specs.declared.noted.Noted.{Noted}
use Rattle.mj_gfile.specs.Listing.{begun_by, lines_of}
use Rattle.mj_gfile.specs.Laws.Texts.{both_true}
use Rattle.mj_trace.specs.declared.piece.Piece.{Piece}
use Rattle.mj_trace.specs.declared.piece.Piece.TheVariants as pieces
use Rattle.mj_trace.specs.declared.refusal.TraceError.{TraceError}
use Rattle.mj_trace.specs.declared.refusal.TraceError.TheVariants as errors
use Rattle.mj_trace.specs.declared.form.Form.{Form}
use Rattle.mj_trace.specs.declared.form.Form.TheVariants.{First, Second}
use Rattle.mj_trace.specs.Spelling.{event_text}
use Rattle.mj_trace.specs.Trace.{Traced, header, limit_line, limit_of, head_text, pool_line, pool_lines, start_line, start_lines, event_lines, trace_text}
use Rattle.mj_trace.specs.Lines.{piece_text, is_event, is_piece, piece_in, respelled, piece_of, starts_limit, events_limit, is_full, is_before, stands_behind, last_device, principal, may_start, may_follow, with_piece, followed_by, then_more, lines_from, no_lines, limited, headed, reading_of, rises, IsTrace}

-- ---- one line

some_same : (p q : Piece) → Some p ≡ Some q → p ≡ q
some_same p q e = cc

-- what a line says is spelled so, and can be written
pub piece_said : (form : Form) (line : List ℕ) (p : Piece) → piece_of form line ≡ Some p → (line ≡ piece_text form p) × (is_piece form p ≡ true)
piece_said form line p h = by (piece_in form line) h
  where
    tested : (q : Piece) (a b : Bool) → is_piece form q ≡ a → bytes_eq (piece_text form q) line ≡ b → cond (a && b) (Some q) None ≡ Some p
        → (line ≡ piece_text form p) × (is_piece form p ≡ true)
    tested q true true e f k =
        subst (λ x. (line ≡ piece_text form x) × (is_piece form x ≡ true)) (some_same q p k) (sym ((bytes_decides (piece_text form q) line).0 f), e)
    tested q true false e f k = absurd cc
    tested q false b e f k = absurd cc

    by : (o : Option Piece) → respelled form line o ≡ Some p → (line ≡ piece_text form p) × (is_piece form p ≡ true)
    by None k = absurd cc
    by (Some q) k = tested q (is_piece form q) (bytes_eq (piece_text form q) line) refl refl k

-- ---- a line behind others

pool_added : (ds : List (List ℕ × ℕ)) (d : List ℕ × ℕ) → pool_lines (ds ++ d ∷ []) ≡ pool_lines ds ++ (pool_line d ++ 10 ∷ [])
pool_added [] d = refl
pool_added (e ∷ ds) d = ap (λ l. pool_line e ++ 10 ∷ l) (pool_added ds d) ∙ sym (append_assoc (pool_line e) (10 ∷ pool_lines ds) (pool_line d ++ 10 ∷ []))

starts_added : (es : List Entry) (e : Entry) → start_lines (es ++ e ∷ []) ≡ start_lines es ++ (start_line e ++ 10 ∷ [])
starts_added [] e = refl
starts_added (x ∷ es) e = ap (λ l. start_line x ++ 10 ∷ l) (starts_added es e) ∙ sym (append_assoc (start_line x) (10 ∷ start_lines es) (start_line e ++ 10 ∷ []))

events_added : (form : Form) (vs : List Noted) (v : Noted) → event_lines form (vs ++ v ∷ []) ≡ event_lines form vs ++ (event_text form v ++ 10 ∷ [])
events_added form [] v = refl
events_added form (w ∷ vs) v =
    ap (λ l. event_text form w ++ 10 ∷ l) (events_added form vs v)
    ∙ sym (append_assoc (event_text form w) (10 ∷ event_lines form vs) (event_text form v ++ 10 ∷ []))

-- the bytes of a trace of these
text_of : Form → List (List ℕ × ℕ) → List Entry → List Noted → List ℕ
text_of form pool starts events = trace_text (record { form = form; pool = pool; starts = starts; events = events })

device_text : (form : Form) (pool : List (List ℕ × ℕ)) (starts : List Entry) (events : List Noted) (d : List ℕ × ℕ) → is_empty starts ≡ true → is_empty events ≡ true
    → text_of form (pool ++ d ∷ []) starts events ≡ text_of form pool starts events ++ (pool_line d ++ 10 ∷ [])
unfolding text_of
device_text form pool (s ∷ starts) events d e f = absurd cc
device_text form pool [] (v ∷ events) d e f = absurd cc
device_text form pool [] [] d e f =
    let head = head_text form in
    let more = pool_line d ++ 10 ∷ [] in
    ap (λ l. (head ++ (l ++ [])) ++ []) (pool_added pool d)
    ∙ append-nil (head ++ ((pool_lines pool ++ more) ++ [])) ∙ ap (λ l. head ++ l) (append-nil (pool_lines pool ++ more))
    ∙ sym (append_assoc head (pool_lines pool) more)
    ∙ ap (λ l. (head ++ l) ++ more) (sym (append-nil (pool_lines pool)))
    ∙ ap (λ l. l ++ more) (sym (append-nil (head ++ (pool_lines pool ++ []))))

start_text : (form : Form) (pool : List (List ℕ × ℕ)) (starts : List Entry) (events : List Noted) (s : Entry) → is_empty events ≡ true
    → text_of form pool (starts ++ s ∷ []) events ≡ text_of form pool starts events ++ (start_line s ++ 10 ∷ [])
unfolding text_of
start_text form pool starts (v ∷ events) s f = absurd cc
start_text form pool starts [] s f =
    ap (λ l. (head_text form ++ (pool_lines pool ++ l)) ++ []) (starts_added starts s)
    ∙ simp (append_assoc, append-nil) refl

events_text : (form : Form) (pool : List (List ℕ × ℕ)) (starts : List Entry) (events : List Noted) (v : Noted)
    → text_of form pool starts (events ++ v ∷ []) ≡ text_of form pool starts events ++ (event_text form v ++ 10 ∷ [])
unfolding text_of
events_text form pool starts events v =
    ap (λ l. (head_text form ++ (pool_lines pool ++ start_lines starts)) ++ l) (events_added form events v)
    ∙ sym (append_assoc (head_text form ++ (pool_lines pool ++ start_lines starts)) (event_lines form events) (event_text form v ++ 10 ∷ []))

-- the text of a trace with one line more
pub text_added : (most : ℕ) (t : Traced) (p : Piece) → may_follow most t p ≡ true → trace_text (with_piece t p) ≡ trace_text t ++ (piece_text t.form p ++ 10 ∷ [])
unfolding text_of
text_added most t (pieces.Device name count) h =
    let a = both_true (is_empty t.starts && is_empty t.events) (stands_behind (last_device t.pool) name) h in
    let b = both_true (is_empty t.starts) (is_empty t.events) a.0 in
    device_text t.form t.pool t.starts t.events (name, count) b.0 b.1
text_added most t (pieces.Start entry) h = start_text t.form t.pool t.starts t.events entry (both_true (is_empty t.events) (may_start t.pool (length t.starts)) h).0
text_added most t (pieces.Event e) h = events_text t.form t.pool t.starts t.events e

-- ---- the front of a trace

-- where there may be so many events
pub record IsFront (most : ℕ) (t : Traced) : Type 0 where
  pub devices : rises t.pool ≡ true
  pub starts : list_all is_entry t.starts ≡ true
  pub starts_few : length t.starts ≤ starts_limit
  pub sessions : length t.starts ≤ principal t.pool
  pub named : list_all (λ d. is_within (limit_of t.form) d.0) t.pool ≡ true
  pub events : list_all (is_event t.form) t.events ≡ true
  pub events_few : length t.events ≤ most

pub last_pushed : (d e : List ℕ × ℕ) (ds : List (List ℕ × ℕ)) → last_device (d ∷ e ∷ ds) ≡ last_device (e ∷ ds)
last_pushed d e ds =
    let long : length (d ∷ e ∷ ds) - 1 ≡ suc (length ds) = omega arith in
    let short : length ds ≡ length (e ∷ ds) - 1 = omega arith in
    ap (λ n. slice_get (d ∷ e ∷ ds) n) long ∙ ap (λ n. slice_get (e ∷ ds) n) short

rises_added : (ds : List (List ℕ × ℕ)) (name : List ℕ) (count : ℕ) → rises ds ≡ true → stands_behind (last_device ds) name ≡ true → rises (ds ++ (name, count) ∷ []) ≡ true
rises_added [] name count h k = refl
rises_added (d ∷ []) name count h k = λ i. k i && true
rises_added (d ∷ e ∷ ds) name count h k =
    let p = both_true (is_before d.0 e.0) (rises (e ∷ ds)) h in
    λ i. p.0 i && rises_added (e ∷ ds) name count p.1 (ap (λ l. stands_behind l name) (sym (last_pushed d e ds)) ∙ k) i

all_added : {A : Type 0} (p : A → Bool) (xs : List A) (x : A) → list_all p xs ≡ true → p x ≡ true → list_all p (xs ++ x ∷ []) ≡ true
all_added p xs x h k = list_all-append p xs (x ∷ []) ∙ (λ i. h i && (k i && true))

pub one_longer : {A : Type 0} (xs : List A) (x : A) → length (xs ++ x ∷ []) ≡ length xs + 1
one_longer xs x = length-append xs (x ∷ [])

none_there : {A : Type 0} (xs : List A) → is_empty xs ≡ true → length xs ≡ 0
none_there [] h = refl
none_there (x ∷ xs) h = absurd cc

below_limit : (n m : ℕ) → nat_lt n m ≡ true → n + 1 ≤ m
below_limit n m h = grind (arith, nat_tests)

-- ---- all lines

-- the bytes of lines
bytes_of : List (List ℕ × Bool) → List ℕ
bytes_of [] = []
bytes_of ((l, true) ∷ ls) = l ++ 10 ∷ bytes_of ls
bytes_of ((l, false) ∷ ls) = l ++ bytes_of ls

begun_bytes : (c : ℕ) (ls : List (List ℕ × Bool)) → bytes_of (begun_by c ls) ≡ c ∷ bytes_of ls
unfolding bytes_of
begun_bytes c [] = refl
begun_bytes c ((l, true) ∷ ls) = refl
begun_bytes c ((l, false) ∷ ls) = refl

bytes-lines : (bs : List ℕ) → bytes_of (lines_of bs) ≡ bs
unfolding bytes_of
bytes-lines [] = refl
bytes-lines (c ∷ cs) = by (eqb c 10) refl (bytes-lines cs)
  where
    by : (b : Bool) → eqb c 10 ≡ b → bytes_of (lines_of cs) ≡ cs → bytes_of (cond b (([], true) ∷ lines_of cs) (begun_by c (lines_of cs))) ≡ c ∷ cs
    by true e rec = ap (λ l. 10 ∷ l) rec ∙ ap (λ d. d ∷ cs) (sym (eqb-true c 10 e))
    by false e rec = begun_bytes c (lines_of cs) ∙ ap (λ l. c ∷ l) rec

-- ---- where there may be so many events

module _ (most : ℕ) (bound : most ≤ events_limit) where
  pub front_added : (t : Traced) (p : Piece) → IsFront most t → is_piece t.form p ≡ true → may_follow most t p ≡ true → IsFront most (with_piece t p)
  front_added t (pieces.Device name count) f is h =
      let a = both_true (is_empty t.starts && is_empty t.events) (stands_behind (last_device t.pool) name) h in
      let none = none_there t.starts (both_true (is_empty t.starts) (is_empty t.events) a.0).0 in
      record {
        devices = rises_added t.pool name count f.devices a.1;
        starts = f.starts;
        starts_few = f.starts_few;
        sessions = omega (arith, none);
        named = all_added (λ (d : List ℕ × ℕ). is_within (limit_of t.form) d.0) t.pool (name, count) f.named is;
        events = f.events;
        events_few = f.events_few;
      }
  front_added t (pieces.Start entry) f is h =
      let a = both_true (is_empty t.events) (may_start t.pool (length t.starts)) h in
      let b = both_true (nat_lt (length t.starts) starts_limit) (nat_lt (length t.starts) (principal t.pool)) a.1 in
      record {
        devices = f.devices;
        starts = all_added is_entry t.starts entry f.starts is;
        starts_few = subst (λ n. n ≤ starts_limit) (sym (one_longer t.starts entry)) (below_limit (length t.starts) starts_limit b.0);
        sessions = subst (λ n. n ≤ principal t.pool) (sym (one_longer t.starts entry)) (below_limit (length t.starts) (principal t.pool) b.1);
        named = f.named;
        events = f.events;
        events_few = f.events_few;
      }
  front_added t (pieces.Event e) f is h = record {
    devices = f.devices;
    starts = f.starts;
    starts_few = f.starts_few;
    sessions = f.sessions;
    named = f.named;
    events = all_added (is_event t.form) t.events e f.events is;
    events_few = subst (λ n. n ≤ most) (sym (one_longer t.events e)) (below_limit (length t.events) most (both_true (not (is_empty t.starts)) (nat_lt (length t.events) most) h).1);
  }

  -- what a reading of lines behind a trace says of their bytes
  abbrev AreSaid : Traced → List (List ℕ × Bool) → Result Traced TraceError → Type 0
  AreSaid t ls (Err e) = Unit {0}
  AreSaid t ls (Ok u) = (trace_text u ≡ trace_text t ++ bytes_of ls) × IsFront most u × (is_empty u.starts ≡ false)

  one_more : (t : Traced) (p : Piece) (l : List ℕ) (ls : List (List ℕ × Bool)) (r : Result Traced TraceError) → l ≡ piece_text t.form p → may_follow most t p ≡ true → AreSaid (with_piece t p) ls r
      → AreSaid t ((l, true) ∷ ls) r
  unfolding bytes_of
  one_more t p l ls (Err e) is m h = tt
  one_more t p l ls (Ok u) is m h = (
    h.0 ∙ ap (λ x. x ++ bytes_of ls) (text_added most t p m) ∙ append_assoc (trace_text t) (piece_text t.form p ++ 10 ∷ []) (bytes_of ls)
        ∙ ap (λ x. trace_text t ++ x) (append_assoc (piece_text t.form p) (10 ∷ []) (bytes_of ls)) ∙ ap (λ x. trace_text t ++ (x ++ 10 ∷ bytes_of ls)) (sym is),
    h.1,
    h.2,
  )

  module _ (t : Traced) (k : ℕ) (l : List ℕ) (ls : List (List ℕ × Bool)) (more : Traced → Result Traced TraceError) (f : IsFront most t)
      (rec : (u : Traced) → IsFront most u → AreSaid u ls (more u)) where
    follows : (p : Piece) (b : Bool) → may_follow most t p ≡ b → l ≡ piece_text t.form p → is_piece t.form p ≡ true
        → AreSaid t ((l, true) ∷ ls) (then_more more (cond b (Ok (with_piece t p)) (Err (errors.Line k))))
    follows p false m is can = tt
    follows p true m is can = one_more t p l ls (more (with_piece t p)) is m (rec (with_piece t p) (front_added t p f can m))

    says : (o : Option Piece) → piece_of t.form l ≡ o → AreSaid t ((l, true) ∷ ls) (then_more more (followed_by most t k o))
    says None e = tt
    says (Some p) e = let said = piece_said t.form l p e in follows p (may_follow most t p) refl said.0 said.1

    fills : (b : Bool) → AreSaid t ((l, true) ∷ ls) (then_more more (cond b (Err (errors.Long k)) (followed_by most t k (piece_of t.form l))))
    fills true = tt
    fills false = says (piece_of t.form l) refl

  lines_said : (t : Traced) (k : ℕ) (ls : List (List ℕ × Bool)) → IsFront most t → AreSaid t ls (lines_from most t k ls)
  unfolding bytes_of
  lines_said t k [] f = by (is_empty t.starts) refl
    where
      by : (b : Bool) → is_empty t.starts ≡ b → AreSaid t [] (cond b (Err (errors.Line k)) (Ok t))
      by true e = tt
      by false e = (sym (append-nil (trace_text t)), f, e)
  lines_said t k ((l, false) ∷ ls) f = tt
  lines_said t k ((l, true) ∷ ls) f = fills t k l ls (λ u. lines_from most u (suc k) ls) f (λ u g. lines_said u (suc k) ls g) (is_full most t)

  -- what a reading says of the bytes
  abbrev IsSaid : List ℕ → Result Traced TraceError → Type 0
  IsSaid bs (Err e) = Unit {0}
  IsSaid bs (Ok t) = (bs ≡ trace_text t) × IsTrace t × (length t.events ≤ most)

  pub trace_of_front : (t : Traced) → IsFront most t → is_empty t.starts ≡ false → IsTrace t
  trace_of_front t f e = record {
    devices = f.devices;
    starts = f.starts;
    started = e;
    starts_few = f.starts_few;
    sessions = f.sessions;
    named = f.named;
    events = f.events;
    events_few = (let few = f.events_few in omega (arith, few, bound));
  }

  -- behind the lines that tell a form
  behind_head : (form : Form) (head : List ℕ) (ls : List (List ℕ × Bool)) (r : Result Traced TraceError) → head ≡ head_text form ++ bytes_of ls → AreSaid (no_lines form) ls r
      → IsSaid head r
  behind_head form head ls (Err e) is h = tt
  behind_head form head ls (Ok t) is h = (is ∙ ap (λ x. x ++ bytes_of ls) (empty_text form) ∙ sym h.0, trace_of_front t h.1 h.2, h.1.events_few)
    where
      empty_text : (f : Form) → head_text f ≡ trace_text (no_lines f)
      empty_text f = sym (append-nil (head_text f ++ []) ∙ append-nil (head_text f))

  pub none_yet : (form : Form) → IsFront most (no_lines form)
  none_yet form = record { devices = refl; starts = refl; starts_few = omega arith; sessions = omega arith; named = refl; events = refl; events_few = omega arith }

  -- a line, and what stands behind it
  line_before : (l head : List ℕ) (ls : List (List ℕ × Bool)) → l ≡ head → bytes_of ((l, true) ∷ ls) ≡ (head ++ 10 ∷ []) ++ bytes_of ls
  unfolding bytes_of
  line_before l head ls e = ap (λ x. x ++ 10 ∷ bytes_of ls) e ∙ sym (append_assoc head (10 ∷ []) (bytes_of ls))

  two_before : (l m one two : List ℕ) (ls : List (List ℕ × Bool)) → l ≡ one → m ≡ two
      → bytes_of ((l, true) ∷ (m, true) ∷ ls) ≡ (one ++ 10 ∷ (two ++ 10 ∷ [])) ++ bytes_of ls
  unfolding bytes_of
  two_before l m one two ls e f =
      ap (λ x. x ++ 10 ∷ (m ++ 10 ∷ bytes_of ls)) e ∙ ap (λ x. one ++ 10 ∷ (x ++ 10 ∷ bytes_of ls)) f
      ∙ ap (λ x. one ++ 10 ∷ x) (sym (append_assoc two (10 ∷ []) (bytes_of ls))) ∙ sym (append_assoc one (10 ∷ (two ++ 10 ∷ [])) (bytes_of ls))

  -- what stands behind the header of today's form
  limited_said : (l : List ℕ) (ls : List (List ℕ × Bool)) → l ≡ header (Second V2) → IsSaid (bytes_of ((l, true) ∷ ls)) (limited most ls)
  limited_said l [] e = tt
  limited_said l ((m, false) ∷ ls) e = tt
  limited_said l ((m, true) ∷ ls) e = by (bytes_eq m (limit_line V2)) (bytes_eq m (limit_line V1)) refl refl
    where
      by : (a b : Bool) → bytes_eq m (limit_line V2) ≡ a → bytes_eq m (limit_line V1) ≡ b
          → IsSaid (bytes_of ((l, true) ∷ (m, true) ∷ ls))
          (cond a (lines_from most (no_lines (Second V2)) 3 ls) (cond b (lines_from most (no_lines (Second V1)) 3 ls) (Err (errors.Line 2))))
      by true b f g = behind_head (Second V2) (bytes_of ((l, true) ∷ (m, true) ∷ ls)) ls (lines_from most (no_lines (Second V2)) 3 ls)
          (two_before l m (header (Second V2)) (limit_line V2) ls e ((bytes_decides m (limit_line V2)).0 f)) (lines_said (no_lines (Second V2)) 3 ls (none_yet (Second V2)))
      by false true f g = behind_head (Second V1) (bytes_of ((l, true) ∷ (m, true) ∷ ls)) ls (lines_from most (no_lines (Second V1)) 3 ls)
          (two_before l m (header (Second V1)) (limit_line V1) ls e ((bytes_decides m (limit_line V1)).0 g)) (lines_said (no_lines (Second V1)) 3 ls (none_yet (Second V1)))
      by false false f g = tt

  headed_said : (ls : List (List ℕ × Bool)) → IsSaid (bytes_of ls) (headed most ls)
  headed_said [] = tt
  headed_said ((l, false) ∷ ls) = tt
  headed_said ((l, true) ∷ ls) = by (bytes_eq l (header (Second V2))) (bytes_eq l (header First)) refl refl
    where
      by : (a b : Bool) → bytes_eq l (header (Second V2)) ≡ a → bytes_eq l (header First) ≡ b
          → IsSaid (bytes_of ((l, true) ∷ ls)) (cond a (limited most ls) (cond b (lines_from most (no_lines First) 2 ls) (Err errors.Header)))
      by true b e f = limited_said l ls ((bytes_decides l (header (Second V2))).0 e)
      by false true e f = behind_head First (bytes_of ((l, true) ∷ ls)) ls (lines_from most (no_lines First) 2 ls)
          (line_before l (header First) ls ((bytes_decides l (header First)).0 f)) (lines_said (no_lines First) 2 ls (none_yet First))
      by false false e f = tt

  reading_said : (bs : List ℕ) → IsSaid bs (reading_of most bs)
  reading_said bs = subst (λ x. IsSaid x (reading_of most bs)) (bytes-lines bs) (headed_said (lines_of bs))

  -- what is read is a trace, and the bytes are how it is written
  pub is_said : (bs : List ℕ) (t : Traced) → reading_of most bs ≡ Ok t → (bs ≡ trace_text t) × IsTrace t × (length t.events ≤ most)
  is_said bs t e = subst (IsSaid bs) e (reading_said bs)

  -- what a call gives is a trace, and the bytes are how it is written
  pub says_it : (bs : List ℕ) (r : Result Traced TraceError) → IfOk r (λ t. reading_of most bs ≡ Ok t) → IfOk r (λ t. (bs ≡ trace_text t) × IsTrace t)
  says_it bs (Ok t) h = let said = is_said bs t h in (said.0, said.1)
  says_it bs (Err e) h = tt

  -- and has no more events
  pub says_few : (bs : List ℕ) (r : Result Traced TraceError) → IfOk r (λ t. reading_of most bs ≡ Ok t) → IfOk r (λ t. length t.events ≤ most)
  says_few bs (Ok t) h = (is_said bs t h).2
  says_few bs (Err e) h = tt
