-- A refused trace is refused by its first line that may not stand there, and for one reason.
use Rattle.std.proofs.Common.{◌≡◌, ◌⊎◌, inl, inr, ◌∙◌, ◌+◌, ◌≤◌, suc, ℕ, Bool, true, false, not, cond, ◌&&◌, eqb, List, [], ◌∷◌, ◌++◌, length, length-append, Option, Some, None, Result, Ok, Err, refl, sym, ap, subst, append_assoc, append-nil, arith}
use Rattle.std.specs.Prelude.{IfErr, nat_lt}
use Rattle.std.specs.Str.{bytes_eq}
use Rattle.std.specs.Cmp.Lexicographic.{bytes_decides}
use Rattle.std.proofs.lemmas.List.Folds.{list_all-append}
use Rattle.mj_store.specs.Nodes.{is_empty}
use Rattle.mj_text.specs.declared.limit.Limit.{Limit}
use Rattle.mj_text.specs.declared.limit.Limit.TheVariants.{V1, V2}
use Rattle.mj_gfile.specs.Listing.{is_text, lines_of}
use Rattle.mj_gfile.specs.Refused.{HasLine}
use Rattle.mj_gfile.specs.Laws.Texts.{both_true}
use Rattle.mj_gfile.specs.Laws.Listings.{no_end, AreWithin, line_first}
use Rattle.mj_gfile.specs.Laws.Refused.{cut_line, first_line, has_line, some_lines, no_bytes}
use Rattle.mj_trace.specs.declared.piece.Piece.{Piece}
use Rattle.mj_trace.specs.declared.piece.Piece.TheVariants as pieces
use Rattle.mj_trace.specs.declared.refusal.TraceError.{TraceError}
use Rattle.mj_trace.specs.declared.refusal.TraceError.TheVariants as errors
use Rattle.mj_trace.specs.declared.form.Form.{Form}
use Rattle.mj_trace.specs.declared.form.Form.TheVariants.{First, Second}
use Rattle.mj_trace.specs.Trace.{Traced, header, limit_line, head_text, trace_text}
use Rattle.mj_trace.specs.Lines.{piece_text, is_piece, piece_of, events_limit, is_full, stands_behind, last_device, may_start, may_follow, with_piece, followed_by, then_more, lines_from, no_lines, limited, headed, reading_of}
use Rattle.mj_trace.specs.Sized.{is_count, device_count_fits, event_fits, IsSized}
use Rattle.mj_trace.specs.Refused.{IsBegun, head_count, line_count, is_sized, IsNoLine, IsOneTooMany, IsFirst, HasNoLimit, IsTraceRefused, HasOneReason}
use Rattle.mj_trace.specs.Laws.Spelled.{piece_said, text_added, IsFront, front_added, trace_of_front, none_yet}
use Rattle.mj_trace.specs.Laws.Within.{entry_within, event_within, device_line_within}
use Rattle.mj_trace.specs.Laws.Whole.{written, event_found, start_found, device_found, trace_on}
use Rattle.mj_trace.specs.Laws.Fits.{piece_fits}

-- ---- a line that can be written

-- within the sizes of its values it holds no byte 10, and is read
known : (form : Form) (p : Piece) → is_piece form p ≡ true → is_sized p ≡ true → AreWithin (piece_text form p) × (piece_of form (piece_text form p) ≡ Some p)
unfolding no_end
known form (pieces.Device name count) can fit =
    let q = both_true (is_text V2 name) (is_count count) fit in (device_line_within name count q.1, device_found form name count can q.0 q.1)
known form (pieces.Start entry) can fit = (entry_within entry can, start_found form entry can)
known form (pieces.Event e) can fit =
    let w = written form e can fit in
    (event_within form e w.number w.word w.line w.ask w.ask_sized w.reply w.reply_sized, event_found form e w can)

none_there : {A : Type 0} (xs : List A) → is_empty xs ≡ true → xs ≡ []
none_there [] h = refl
none_there (x ∷ xs) h = absurd cc

some_there : {A : Type 0} (xs : List A) → is_empty xs ≡ false → xs ≡ [] → ⊥
some_there [] h e = absurd cc
some_there (x ∷ xs) h e = absurd cc

begun_more : (most : ℕ) (t : Traced) (p : Piece) → may_follow most t p ≡ true → (is_empty (with_piece t p).events ≡ true) ⊎ (is_empty (with_piece t p).starts ≡ false)
begun_more most t (pieces.Device name count) may =
    let none = both_true (is_empty t.starts && is_empty t.events) (stands_behind (last_device t.pool) name) may in
    inl (both_true (is_empty t.starts) (is_empty t.events) none.0).1
begun_more most t (pieces.Start entry) may = inl (both_true (is_empty t.events) (may_start t.pool (length t.starts)) may).0
begun_more most t (pieces.Event e) may = inr (by (is_empty t.starts) (both_true (not (is_empty t.starts)) (nat_lt (length t.events) most) may).0)
  where
    by : (b : Bool) → not b ≡ true → b ≡ false
    by true h = absurd cc
    by false h = refl

sized_more : (t : Traced) (p : Piece) → IsSized t → is_sized p ≡ true → IsSized (with_piece t p)
sized_more t (pieces.Device name count) s fit = record {
  devices = list_all-append device_count_fits t.pool ((name, count) ∷ []) ∙ (λ i. s.devices i && (fit i && true));
  events = s.events;
}
sized_more t (pieces.Start entry) s fit = record { devices = s.devices; events = s.events }
sized_more t (pieces.Event e) s fit = record {
  devices = s.devices;
  events = list_all-append event_fits t.events (e ∷ []) ∙ (λ i. s.events i && (fit i && true));
}

count_more : (t : Traced) (p : Piece) → line_count (with_piece t p) ≡ line_count t + 1
count_more t (pieces.Device name count) = let one = length-append t.pool ((name, count) ∷ []) in omega (arith, one)
count_more t (pieces.Start entry) = let one = length-append t.starts (entry ∷ []) in omega (arith, one)
count_more t (pieces.Event e) = let one = length-append t.events (e ∷ []) in omega (arith, one)

err_same : (a b : TraceError) → ◌≡◌ {A = Result Traced TraceError} (Err a) (Err b) → a ≡ b
err_same a b h = cc

some_same : (p q : Piece) → Some p ≡ Some q → p ≡ q
some_same p q e = cc

-- ---- first lines

module _ (bytes : List ℕ) where
  -- a line that isn't the first one doesn't begin the bytes
  no_line_of : (head l : List ℕ) (b : Bool) (ls : List (List ℕ × Bool)) → AreWithin head → lines_of bytes ≡ (l, b) ∷ ls → (b && bytes_eq l head) ≡ false → ¬ HasLine head bytes
  unfolding no_end
  no_line_of head l b ls within e not_so has =
      let is = first_line head bytes l b ls within has e in
      let is_so : (b && bytes_eq l head) ≡ true = λ i. is.1 i && (bytes_decides l head).1 is.0 i in
      absurd (let both : true ≡ false = sym is_so ∙ not_so in cc)

  none_of : (head : List ℕ) → AreWithin head → lines_of bytes ≡ [] → ¬ HasLine head bytes
  none_of head within e has =
      absurd (let both : [] ≡ (head, true) ∷ lines_of has.rest = sym e ∙ ap lines_of (has.is ∙ append_assoc head (10 ∷ []) has.rest) ∙ line_first head has.rest within in cc)

  -- a first line that is one, and what follows it
  cut_at : (head l : List ℕ) (b : Bool) (ls : List (List ℕ × Bool)) → lines_of bytes ≡ (l, b) ∷ ls → (b && bytes_eq l head) ≡ true
      → (rest : List ℕ) × (bytes ≡ head ++ 10 ∷ rest) × (lines_of rest ≡ ls)
  cut_at head l b ls e is_so =
      let p = both_true b (bytes_eq l head) is_so in
      let cut = cut_line bytes l ls (e ∙ ap (λ d. (l, d) ∷ ls) p.0) in
      (cut.0, cut.1 ∙ ap (λ y. y ++ 10 ∷ cut.0) ((bytes_decides l head).0 p.1), cut.2)

head_within : (form : Form) → AreWithin (header form)
unfolding no_end
head_within First = refl
head_within (Second limit) = refl

limit_within : (limit : Limit) → AreWithin (limit_line limit)
unfolding no_end
limit_within V1 = refl
limit_within V2 = refl

-- ---- where there may be so many events

-- up to these bytes, which are the lines from k on, the bytes are this trace as far as it goes
record IsUpTo (most : ℕ) (bytes : List ℕ) (t : Traced) (k : ℕ) (rest : List ℕ) : Type 0 where
  cut : bytes ≡ trace_text t ++ rest
  front : IsFront most t
  begun : (is_empty t.events ≡ true) ⊎ (is_empty t.starts ≡ false)
  sized : IsSized t
  place : k ≡ line_count t + 1

module _ (most : ℕ) (bound : most ≤ events_limit) where
  -- ---- up to the line that is refused

  module _ (bytes : List ℕ) (t : Traced) (k : ℕ) (rest : List ℕ) (u : IsUpTo most bytes t k rest) where
    begun_all : IsBegun t
    begun_all = by (is_empty t.starts) refl u.begun
      where
        by : (b : Bool) → is_empty t.starts ≡ b → (is_empty t.events ≡ true) ⊎ (is_empty t.starts ≡ false) → IsBegun t
        by false e h = inr (trace_of_front most bound t u.front e)
        by true e (inl h) = inl (record { rise = u.front.devices; named = u.front.named; no_starts = none_there t.starts e; no_events = none_there t.events h })
        by true e (inr h) = absurd (let both : true ≡ false = sym e ∙ h in cc)

    first : (IsWhy : ℕ → Traced → List ℕ → Type 0) → IsWhy most t rest → IsFirst most bytes k IsWhy
    first IsWhy why = record { before = t; rest = rest; cut = u.cut; begun = begun_all; sized = u.sized; few = u.front.events_few; place = u.place; why = why }

    more : (p : Piece) (r : List ℕ) → rest ≡ piece_text t.form p ++ 10 ∷ r → is_piece t.form p ≡ true → is_sized p ≡ true → may_follow most t p ≡ true → IsUpTo most bytes (with_piece t p) (suc k) r
    more p r at can fit may = record {
      cut = u.cut ∙ ap (λ x. trace_text t ++ x) (at ∙ sym (append_assoc (piece_text t.form p) (10 ∷ []) r)) ∙ sym (append_assoc (trace_text t) (piece_text t.form p ++ 10 ∷ []) r)
          ∙ ap (λ x. x ++ r) (sym (text_added most t p may));
      front = front_added most bound t p u.front can may;
      begun = begun_more most t p may;
      sized = sized_more t p u.sized fit;
      place = let one = count_more t p in omega (arith, u.place, one);
    }

    -- no line is left, and no start is there
    unstarted : lines_of rest ≡ [] → is_empty t.starts ≡ true → IsNoLine most t rest
    unstarted e none = record {
      missing = λ there. none_there t.starts none;
      room = by u.begun;
      none = λ p can fit may has. absurd (
          let both : [] ≡ (piece_text t.form p, true) ∷ lines_of has.rest =
          sym e ∙ ap lines_of (has.is ∙ append_assoc (piece_text t.form p) (10 ∷ []) has.rest) ∙ line_first (piece_text t.form p) has.rest (known t.form p can fit).0 in
          cc
          );
    }
      where
        by : (is_empty t.events ≡ true) ⊎ (is_empty t.starts ≡ false) → is_full most t ≡ false
        by (inl h) = λ i. not (h i) && eqb (length t.events) most
        by (inr h) = absurd (let both : true ≡ false = sym none ∙ h in cc)

    module _ (l : List ℕ) (b : Bool) (ls : List (List ℕ × Bool)) (e : lines_of rest ≡ (l, b) ∷ ls) where
      one_too_many : is_full most t ≡ true → IsOneTooMany most t rest
      one_too_many full = record { some = some_lines rest l b ls e; full = full }

      no_line : is_full most t ≡ false → ((p : Piece) → is_piece t.form p ≡ true → is_sized p ≡ true → may_follow most t p ≡ true → l ≡ piece_text t.form p → b ≡ true → ⊥) → IsNoLine most t rest
      no_line room none = record {
        missing = λ there. absurd (some_lines rest l b ls e there);
        room = room;
        none = λ p can fit may has. let is = first_line (piece_text t.form p) rest l b ls (known t.form p can fit).0 has e in none p can fit may is.0 is.1;
      }

  so : (bytes : List ℕ) (x a : TraceError) → ◌≡◌ {A = Result Traced TraceError} (Err a) (Err x) → IsTraceRefused most bytes a → IsTraceRefused most bytes x
  so bytes x a h is = subst (IsTraceRefused most bytes) (err_same a x h) is

  -- a line that may not stand there
  as_line : (bytes : List ℕ) (x : TraceError) (t : Traced) (k : ℕ) (rest : List ℕ) → IsUpTo most bytes t k rest → ◌≡◌ {A = Result Traced TraceError} (Err (errors.Line k)) (Err x)
      → IsNoLine most t rest
      → IsTraceRefused most bytes x
  as_line bytes x t k rest u f why = so bytes x (errors.Line k) f (inr (first bytes t k rest u IsNoLine why))

  -- a line that is ended, behind which the lines ls stand
  module _ (bytes : List ℕ) (x : TraceError) (t : Traced) (k : ℕ) (rest : List ℕ) (u : IsUpTo most bytes t k rest) (l : List ℕ) (ls : List (List ℕ × Bool)) (e : lines_of rest ≡ (l, true) ∷ ls)
      (rec : (p : Piece) (r : List ℕ) → IsUpTo most bytes (with_piece t p) (suc k) r → lines_of r ≡ ls → lines_from most (with_piece t p) (suc k) ls ≡ Err x → IsTraceRefused most bytes x) where
    follows : (p : Piece) (b : Bool) → may_follow most t p ≡ b → piece_of t.form l ≡ Some p → is_full most t ≡ false
        → then_more (λ v. lines_from most v (suc k) ls) (cond b (Ok (with_piece t p)) (Err (errors.Line k))) ≡ Err x → IsTraceRefused most bytes x
    follows p true may is room f =
        let cut = cut_line rest l ls e in
        let said = piece_said t.form l p is in
        rec p cut.0 (more bytes t k rest u p cut.0 (cut.1 ∙ ap (λ y. y ++ 10 ∷ cut.0) said.0) said.1 (piece_fits t.form l p is) may) cut.2 f
    follows p false may is room f = as_line bytes x t k rest u f (no_line bytes t k rest u l true ls e room (λ q can fit can_follow spells ended. absurd (
        let same = some_same p q (sym is ∙ ap (piece_of t.form) spells ∙ (known t.form q can fit).1) in
        let both : false ≡ true = sym may ∙ ap (may_follow most t) same ∙ can_follow in
        cc
        )))

    says : (o : Option Piece) → piece_of t.form l ≡ o → is_full most t ≡ false → then_more (λ v. lines_from most v (suc k) ls) (followed_by most t k o) ≡ Err x → IsTraceRefused most bytes x
    says None is room f = as_line bytes x t k rest u f (no_line bytes t k rest u l true ls e room (λ q can fit can_follow spells ended. absurd (
        let both : None ≡ Some q = sym is ∙ ap (piece_of t.form) spells ∙ (known t.form q can fit).1 in
        cc
        )))
    says (Some p) is room f = follows p (may_follow most t p) refl is room f

    fills : (b : Bool) → is_full most t ≡ b → then_more (λ v. lines_from most v (suc k) ls) (cond b (Err (errors.Long k)) (followed_by most t k (piece_of t.form l))) ≡ Err x
        → IsTraceRefused most bytes x
    fills true full f = so bytes x (errors.Long k) f (first bytes t k rest u IsOneTooMany (one_too_many bytes t k rest u l true ls e full))
    fills false room f = says (piece_of t.form l) refl room f

  -- where no byte 10 ends the line
  module _ (bytes : List ℕ) (x : TraceError) (t : Traced) (k : ℕ) (rest : List ℕ) (u : IsUpTo most bytes t k rest) (l : List ℕ) (ls : List (List ℕ × Bool)) (e : lines_of rest ≡ (l, false) ∷ ls) where
    unended : (b : Bool) → is_full most t ≡ b → ◌≡◌ {A = Result Traced TraceError} (Err (cond b (errors.Long k) (errors.Line k))) (Err x) → IsTraceRefused most bytes x
    unended true full f = so bytes x (errors.Long k) f (first bytes t k rest u IsOneTooMany (one_too_many bytes t k rest u l false ls e full))
    unended false room f =
        as_line bytes x t k rest u f (no_line bytes t k rest u l false ls e room (λ q can fit can_follow spells ended. absurd (let both : false ≡ true = ended in cc)))

  -- where no line is left
  at_end : (bytes : List ℕ) (x : TraceError) (t : Traced) (k : ℕ) (rest : List ℕ) → IsUpTo most bytes t k rest → lines_of rest ≡ [] → (b : Bool) → is_empty t.starts ≡ b
      → cond b (Err (errors.Line k)) (Ok t) ≡ Err x → IsTraceRefused most bytes x
  at_end bytes x t k rest u e true none f = as_line bytes x t k rest u f (unstarted bytes t k rest u e none)
  at_end bytes x t k rest u e false some f = absurd cc

  lines_refused : (bytes : List ℕ) (x : TraceError) (t : Traced) (k : ℕ) (rest : List ℕ) (ls : List (List ℕ × Bool)) → IsUpTo most bytes t k rest → lines_of rest ≡ ls
      → lines_from most t k ls ≡ Err x → IsTraceRefused most bytes x
  lines_refused bytes x t k rest [] u e h = at_end bytes x t k rest u e (is_empty t.starts) refl h
  lines_refused bytes x t k rest ((l, false) ∷ ls) u e h = unended bytes x t k rest u l ls e (is_full most t) refl h
  lines_refused bytes x t k rest ((l, true) ∷ ls) u e h =
      fills bytes x t k rest u l ls e (λ p r v f g. lines_refused bytes x (with_piece t p) (suc k) r ls v f g) (is_full most t) refl h

  module _ (bytes : List ℕ) where
    -- behind the lines that tell a form nothing was refused yet
    behind_head : (form : Form) (rest : List ℕ) → bytes ≡ head_text form ++ rest → IsUpTo most bytes (no_lines form) (head_count form + 1) rest
    behind_head form rest e = record {
      cut = e ∙ ap (λ x. x ++ rest) (empty_text form);
      front = none_yet most bound form;
      begun = inl refl;
      sized = record { devices = refl; events = refl };
      place = omega arith;
    }
      where
        empty_text : (f : Form) → head_text f ≡ trace_text (no_lines f)
        empty_text f = sym (append-nil (head_text f ++ []) ∙ append-nil (head_text f))

    limited_refused : (x : TraceError) (rest : List ℕ) (ls : List (List ℕ × Bool)) → bytes ≡ header (Second V2) ++ 10 ∷ rest → lines_of rest ≡ ls → limited most ls ≡ Err x
        → IsTraceRefused most bytes x
    limited_refused x rest [] e f h =
        so bytes x (errors.Line 2) h (inl (record { rest = rest; headed = e; none = λ limit. none_of rest (limit_line limit) (limit_within limit) f; second = refl }))
    limited_refused x rest ((l, b) ∷ ls) e f h = by (b && bytes_eq l (limit_line V2)) (b && bytes_eq l (limit_line V1)) refl refl h
      where
        at_limit : (limit : Limit) → (b && bytes_eq l (limit_line limit)) ≡ true → lines_from most (no_lines (Second limit)) 3 ls ≡ Err x → IsTraceRefused most bytes x
        at_limit limit is g =
            let cut = cut_at rest (limit_line limit) l b ls f is in
            lines_refused bytes x (no_lines (Second limit)) 3 cut.0 ls
            (behind_head (Second limit) cut.0
            (e ∙ ap (λ r. header (Second V2) ++ 10 ∷ r) (cut.1 ∙ sym (append_assoc (limit_line limit) (10 ∷ []) cut.0))
            ∙ sym (append_assoc (header (Second V2)) (10 ∷ (limit_line limit ++ 10 ∷ [])) cut.0)))
            cut.2 g

        none_at : (b && bytes_eq l (limit_line V2)) ≡ false → (b && bytes_eq l (limit_line V1)) ≡ false → (limit : Limit) → ¬ HasLine (limit_line limit) rest
        none_at p q V1 = no_line_of rest (limit_line V1) l b ls (limit_within V1) f q
        none_at p q V2 = no_line_of rest (limit_line V2) l b ls (limit_within V2) f p

        by : (c d : Bool) → (b && bytes_eq l (limit_line V2)) ≡ c → (b && bytes_eq l (limit_line V1)) ≡ d
            → cond c (lines_from most (no_lines (Second V2)) 3 ls) (cond d (lines_from most (no_lines (Second V1)) 3 ls) (Err (errors.Line 2))) ≡ Err x → IsTraceRefused most bytes x
        by true d p q g = at_limit V2 p g
        by false true p q g = at_limit V1 q g
        by false false p q g = so bytes x (errors.Line 2) g (inl (record { rest = rest; headed = e; none = none_at p q; second = refl }))

    headed_refused : (x : TraceError) (ls : List (List ℕ × Bool)) → lines_of bytes ≡ ls → headed most ls ≡ Err x → IsTraceRefused most bytes x
    headed_refused x [] e h =
        so bytes x errors.Header h (none_of bytes (header First) (head_within First) e, none_of bytes (header (Second V2)) (head_within (Second V2)) e)
    headed_refused x ((l, b) ∷ ls) e h = by (b && bytes_eq l (header (Second V2))) (b && bytes_eq l (header First)) refl refl h
      where
        by : (c d : Bool) → (b && bytes_eq l (header (Second V2))) ≡ c → (b && bytes_eq l (header First)) ≡ d
            → cond c (limited most ls) (cond d (lines_from most (no_lines First) 2 ls) (Err errors.Header)) ≡ Err x → IsTraceRefused most bytes x
        by true d p q g = let cut = cut_at bytes (header (Second V2)) l b ls e p in limited_refused x cut.0 ls cut.1 cut.2 g
        by false true p q g =
            let cut = cut_at bytes (header First) l b ls e q in
            lines_refused bytes x (no_lines First) 2 cut.0 ls (behind_head First cut.0 (cut.1 ∙ sym (append_assoc (header First) (10 ∷ []) cut.0))) cut.2 g
        by false false p q g = so bytes x errors.Header g
            (no_line_of bytes (header First) l b ls (head_within First) e q, no_line_of bytes (header (Second V2)) l b ls (head_within (Second V2)) e p)

  -- what isn't read is refused for this reason
  pub refusal : (bytes : List ℕ) (x : TraceError) → reading_of most bytes ≡ Err x → IsTraceRefused most bytes x
  refusal bytes x h = headed_refused bytes x (lines_of bytes) refl h

  -- what a call gives that reads so
  pub refuses_it : (bytes : List ℕ) (r : Result Traced TraceError) → IfErr r (λ e. (e ≡ errors.Memory) ⊎ (reading_of most bytes ≡ Err e)) → IfErr r (IsTraceRefused most bytes)
  refuses_it bytes (Ok t) h = tt
  refuses_it bytes (Err e) h = by h
    where
      by : (e ≡ errors.Memory) ⊎ (reading_of most bytes ≡ Err e) → IsTraceRefused most bytes e
      by (inl m) = subst (IsTraceRefused most bytes) (sym m) tt
      by (inr f) = refusal bytes e f

-- ---- one reason

none_is : {A : Type 0} (xs : List A) → xs ≡ [] → is_empty xs ≡ true
none_is xs e = ap is_empty e

module _ (most : ℕ) where
  module _ (t : Traced) (k : ℕ) (rest : List ℕ) where
    -- one line too many is refused so
    many_read : IsOneTooMany most t rest → (ls : List (List ℕ × Bool)) → lines_of rest ≡ ls → lines_from most t k ls ≡ Err (errors.Long k)
    many_read w [] e = absurd (w.some (no_bytes rest e))
    many_read w ((l, false) ∷ ls) e = ap (λ b. Err (cond b (errors.Long k) (errors.Line k))) w.full
    many_read w ((l, true) ∷ ls) e = ap (λ b. then_more (λ v. lines_from most v (suc k) ls) (cond b (Err (errors.Long k)) (followed_by most t k (piece_of t.form l)))) w.full

    module _ (w : IsNoLine most t rest) (l : List ℕ) (ls : List (List ℕ × Bool)) (e : lines_of rest ≡ (l, true) ∷ ls) where
      may_not : (p : Piece) (b : Bool) → may_follow most t p ≡ b → piece_of t.form l ≡ Some p
          → then_more (λ v. lines_from most v (suc k) ls) (cond b (Ok (with_piece t p)) (Err (errors.Line k))) ≡ Err (errors.Line k)
      may_not p false may is = refl
      may_not p true may is =
          let cut = cut_line rest l ls e in
          let said = piece_said t.form l p is in
          absurd (w.none p said.1 (piece_fits t.form l p is) may (has_line (piece_text t.form p) rest cut.0 (cut.1 ∙ ap (λ y. y ++ 10 ∷ cut.0) said.0)))

      says_none : (o : Option Piece) → piece_of t.form l ≡ o → then_more (λ v. lines_from most v (suc k) ls) (followed_by most t k o) ≡ Err (errors.Line k)
      says_none None is = refl
      says_none (Some p) is = may_not p (may_follow most t p) refl is

    -- a line that may not stand there is refused so
    none_read : IsNoLine most t rest → (ls : List (List ℕ × Bool)) → lines_of rest ≡ ls → lines_from most t k ls ≡ Err (errors.Line k)
    none_read w [] e = ap (λ b. cond b (Err (errors.Line k)) (Ok t)) (none_is t.starts (w.missing (no_bytes rest e)))
    none_read w ((l, false) ∷ ls) e = ap (λ b. Err (cond b (errors.Long k) (errors.Line k))) w.room
    none_read w ((l, true) ∷ ls) e =
        ap (λ b. then_more (λ v. lines_from most v (suc k) ls) (cond b (Err (errors.Long k)) (followed_by most t k (piece_of t.form l)))) w.room ∙ says_none w l ls e (piece_of t.form l) refl

  module _ (bytes : List ℕ) where
    from_first : (number : ℕ) (IsWhy : ℕ → Traced → List ℕ → Type 0) (f : IsFirst most bytes number IsWhy) (x : TraceError) → lines_from most f.before number (lines_of f.rest) ≡ Err x
        → reading_of most bytes ≡ Err x
    from_first number IsWhy f x h =
        ap (reading_of most) f.cut ∙ trace_on most f.before f.begun f.sized f.few f.rest ∙ ap (λ n. lines_from most f.before n (lines_of f.rest)) (sym f.place) ∙ h

    -- no line is that of this one
    headless : (head : List ℕ) → ¬ HasLine head bytes → (l : List ℕ) (b : Bool) (ls : List (List ℕ × Bool)) → lines_of bytes ≡ (l, b) ∷ ls → (b && bytes_eq l head) ≡ false
    headless head w l b ls e = by (b && bytes_eq l head) refl
      where
        by : (c : Bool) → (b && bytes_eq l head) ≡ c → (b && bytes_eq l head) ≡ false
        by false is = is
        by true is = let cut = cut_at bytes head l b ls e is in absurd (w (has_line head bytes cut.0 cut.1))

    headerless : ¬ HasLine (header First) bytes → ¬ HasLine (header (Second V2)) bytes → (ls : List (List ℕ × Bool)) → lines_of bytes ≡ ls → headed most ls ≡ Err errors.Header
    headerless v w [] e = refl
    headerless v w ((l, b) ∷ ls) e = λ i.
        cond (headless (header (Second V2)) w l b ls e i) (limited most ls) (cond (headless (header First) v l b ls e i) (lines_from most (no_lines First) 2 ls) (Err errors.Header))

    -- no line of a limit stands behind the header
    limitless : (number : ℕ) → HasNoLimit bytes number → reading_of most bytes ≡ Err (errors.Line number)
    limitless number f =
        ap (reading_of most) f.headed ∙ ap (headed most) (line_first (header (Second V2)) f.rest (head_within (Second V2))) ∙ by (lines_of f.rest) refl
        ∙ ap (λ n. Err (errors.Line n)) (sym f.second)
      where
        by : (ls : List (List ℕ × Bool)) → lines_of f.rest ≡ ls → limited most (lines_of f.rest) ≡ Err (errors.Line 2)
        by [] e = ap (limited most) e
        by ((l, b) ∷ ls) e = ap (limited most) e ∙ (λ i.
            cond (limit_less V2 i) (lines_from most (no_lines (Second V2)) 3 ls) (cond (limit_less V1 i) (lines_from most (no_lines (Second V1)) 3 ls) (Err (errors.Line 2))))
          where
            limit_less : (limit : Limit) → (b && bytes_eq l (limit_line limit)) ≡ false
            limit_less limit = at (b && bytes_eq l (limit_line limit)) refl
              where
                at : (c : Bool) → (b && bytes_eq l (limit_line limit)) ≡ c → (b && bytes_eq l (limit_line limit)) ≡ false
                at false is = is
                at true is = let cut = cut_at f.rest (limit_line limit) l b ls e is in absurd (f.none limit (has_line (limit_line limit) f.rest cut.0 cut.1))

    -- what is refused isn't read, for the same reason
    refused_unread : (x : TraceError) → ¬ (x ≡ errors.Memory) → IsTraceRefused most bytes x → reading_of most bytes ≡ Err x
    refused_unread errors.Header not_so w = headerless w.0 w.1 (lines_of bytes) refl
    refused_unread (errors.Line number) not_so (inl f) = limitless number f
    refused_unread (errors.Line number) not_so (inr f) = from_first number IsNoLine f (errors.Line number) (none_read f.before number f.rest f.why (lines_of f.rest) refl)
    refused_unread (errors.Long number) not_so f = from_first number IsOneTooMany f (errors.Long number) (many_read f.before number f.rest f.why (lines_of f.rest) refl)
    refused_unread errors.Memory not_so w = absurd (not_so refl)

-- two refusals of some bytes are the same, unless memory was wanting
pub one_reason : HasOneReason
one_reason most bytes e f p q h i = err_same e f (sym (refused_unread most bytes e p h) ∙ refused_unread most bytes f q i)
