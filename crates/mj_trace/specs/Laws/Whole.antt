-- The bytes of a trace are read as this trace.
use Rattle.std.proofs.Common.{◌≡◌, ◌⊎◌, inl, inr, ◌∙◌, ◌+◌, ◌<◌, ◌≤◌, suc, ℕ, pos, Bool, true, false, not, cond, ◌&&◌, eqb, List, [], ◌∷◌, ◌++◌, length, Option, Some, None, Result, Ok, Err, refl, sym, ap, append_assoc, append-nil, arith}
use Rattle.std.specs.Prelude.{IfOk, IfErr, nat_lt, decimal}
use Rattle.std.specs.Option.{option_map}
use Rattle.std.specs.List.{list_all}
use Rattle.std.specs.Char.{is_ascii_lowercase}
use Rattle.std.specs.Cmp.Lexicographic.{bytes_decides}
use Rattle.std.proofs.lemmas.Bool.Decides.{nat_tests}
use Rattle.mj_store.specs.Nodes.{is_empty}
use Rattle.mj_ask.specs.Written.{is_entry}
use Rattle.mj_ask.specs.declared.entry.Entry.{Entry}
use Rattle.mj_text.specs.Limit.{is_within}
use Rattle.mj_text.specs.declared.limit.Limit.TheVariants.{V1, V2}
use Rattle.mj_ask.specs.declared.noted.Noted.{Noted}
use Rattle.mj_ask.specs.declared.noted.Spot.{Spot}
use Rattle.mj_ask.specs.Within.{is_ask_within, is_reply_within}
use Rattle.mj_ask.specs.declared.ask.Ask.{Ask}
use Rattle.mj_ask.specs.declared.ask.Reply.{Reply}
use Rattle.mj_ask.specs.Formed.{is_ask, is_reply}
use Rattle.mj_ask.specs.Fits.{is_reply_to}
use Rattle.mj_gfile.specs.Reading.{is_number_byte}
use Rattle.mj_gfile.specs.Listing.{is_text, lines_of}
use Rattle.mj_gfile.specs.Laws.Texts.{both_true}
use Rattle.mj_gfile.specs.Laws.Listings.{no_end, AreWithin, line_first}
use Rattle.mj_trace.specs.declared.run.Run.TheVariants as runs
use Rattle.mj_trace.specs.declared.piece.Piece.{Piece}
use Rattle.mj_trace.specs.declared.piece.Piece.TheVariants as pieces
use Rattle.mj_trace.specs.declared.refusal.TraceError.{TraceError}
use Rattle.mj_trace.specs.declared.refusal.TraceError.TheVariants as errors
use Rattle.mj_trace.specs.declared.form.Form.{Form}
use Rattle.mj_trace.specs.declared.form.Form.TheVariants.{First, Second}
use Rattle.mj_trace.specs.Spelling.{reply_text, told_text, spot_text, spot_part, event_text}
use Rattle.mj_trace.specs.Trace.{Traced, header, limit_line, limit_of, head_text, pool_line, pool_lines, start_line, start_lines, event_lines, trace_text}
use Rattle.mj_trace.specs.Reading.{onward, front, behind_bytes, spot_in}
use Rattle.mj_trace.specs.Lines.{piece_text, are_told, is_spot, is_event, is_piece, replied, told_in, asked, placed, event_in, counted, piece_with, piece_in, respelled, piece_of, starts_limit, is_full, is_before, stands_behind, last_device, principal, may_start, may_follow, with_piece, followed_by, then_more, lines_from, no_lines, limited, headed, reading_of, rises, IsTrace}
use Rattle.mj_trace.specs.Sized.{is_count, ask_fits, reply_fits, spot_fits, device_count_fits, event_fits, IsSized}
use Rattle.mj_trace.specs.Refused.{IsBegun, line_count}
use Rattle.mj_trace.specs.Laws.Spelled.{last_pushed, one_longer}
use Rattle.mj_trace.specs.Refused.{head_count}
use Rattle.mj_trace.specs.Laws.Found.{number_bytes, count_found, text_found, IsWordSpot, spot_found}
use Rattle.mj_trace.specs.Laws.Asked.{ask_found, entry_read}
use Rattle.mj_trace.specs.Laws.Told.{IsGiven, number_mark, count_ranged, count_all, reply_found, reply_told}
use Rattle.mj_trace.specs.Laws.Within.{entry_within, event_within, device_line_within}

-- ---- one line

respelled_found : (form : Form) (p : Piece) (line : List ℕ) → piece_in form line ≡ Some p → is_piece form p ≡ true → piece_text form p ≡ line → piece_of form line ≡ Some p
respelled_found form p line found can is =
    ap (respelled form line) found ∙ (λ i. cond (can i && (bytes_decides (piece_text form p) line).1 is i) (Some p) None)

digit_no_letter : (c : ℕ) → is_number_byte c ≡ true → is_ascii_lowercase c ≡ false
digit_no_letter c h = grind (arith, nat_tests)

-- a line that begins with a number is that of an event
numbered : (form : Form) (s r : List ℕ) → IsGiven s → list_all is_number_byte s ≡ true → piece_in form (s ++ r) ≡ event_in form (s ++ r)
numbered form [] r g h = absurd g
numbered form (c ∷ cs) r g h =
    ap (λ b. piece_with form (c ∷ (cs ++ r)) (cond b (c ∷ front runs.Letters (cs ++ r)) []) (cond b (behind_bytes runs.Letters (cs ++ r)) (c ∷ (cs ++ r))))
    (digit_no_letter c (both_true (is_number_byte c) (list_all is_number_byte cs) h).0)

-- an event that can be written, within the limits
pub record IsEventWritten (form : Form) (e : Noted) : Type 0 where
  pub number : is_count e.job ≡ true
  pub word : IsWordSpot e.spot
  pub none : (form ≡ First) → e.spot ≡ None
  pub line : spot_fits e.spot ≡ true
  pub ask : is_ask e.ask ≡ true
  pub ask_sized : ask_fits e.ask ≡ true
  pub reply : is_reply e.reply ≡ true
  pub reply_sized : reply_fits e.reply ≡ true
  pub told : is_reply_to e.ask e.reply ≡ true

word_spot : (form : Form) (spot : Option Spot) → is_spot form spot ≡ true → IsWordSpot spot
word_spot form None h = tt
word_spot First (Some s) h = absurd cc
word_spot (Second limit) (Some s) h = h

no_spot : (form : Form) (spot : Option Spot) → is_spot form spot ≡ true → form ≡ First → spot ≡ None
no_spot form None h e = refl
no_spot First (Some s) h e = absurd cc
no_spot (Second limit) (Some s) h e = absurd cc

pub written : (form : Form) (e : Noted) → is_event form e ≡ true → event_fits e ≡ true → IsEventWritten form e
written form e h k =
    let c = both_true (is_spot form e.spot && are_told e.ask e.reply && is_ask_within (limit_of form) e.ask) (is_reply_within (limit_of form) e.reply) h in
    let d = both_true (is_spot form e.spot && are_told e.ask e.reply) (is_ask_within (limit_of form) e.ask) c.0 in
    let g = both_true (is_spot form e.spot) (are_told e.ask e.reply) d.0 in
    let p = both_true (is_ask e.ask && is_reply e.reply) (is_reply_to e.ask e.reply) g.1 in
    let q = both_true (is_ask e.ask) (is_reply e.reply) p.0 in
    let x = both_true (is_count e.job && spot_fits e.spot && ask_fits e.ask) (reply_fits e.reply) k in
    let y = both_true (is_count e.job && spot_fits e.spot) (ask_fits e.ask) x.0 in
    let z = both_true (is_count e.job) (spot_fits e.spot) y.0 in
    record {
      number = z.0;
      word = word_spot form e.spot g.0;
      none = no_spot form e.spot g.0;
      line = z.1;
      ask = q.0;
      ask_sized = y.1;
      reply = q.1;
      reply_sized = x.1;
      told = p.1;
    }

-- what was asked and told is found
told_found : (a : Ask) (r : Reply) → is_ask a ≡ true → ask_fits a ≡ true → is_reply r ≡ true → reply_fits r ≡ true → is_reply_to a r ≡ true
    → told_in (told_text a r) ≡ Some (a, r)
told_found a r h k m f told =
    ap (onward replied) (ask_found a (reply_text r) h k (reply_told r m f)) ∙ ap (option_map (λ reply. (a, reply))) (reply_found a r told m f)

asked_found : (job : ℕ) (spot : Option Spot) (a : Ask) (r : Reply) → told_in (told_text a r) ≡ Some (a, r)
    → asked job spot (32 ∷ told_text a r) ≡ Some (pieces.Event (record { job = job; spot = spot; ask = a; reply = r }))
asked_found job spot a r found = ap (option_map (λ told. pieces.Event (record { job = job; spot = spot; ask = told.0; reply = told.1 }))) found

placed_found : (form : Form) (e : Noted) → IsEventWritten form e → placed form e.job (32 ∷ (spot_part form e.spot ++ told_text e.ask e.reply)) ≡ Some (pieces.Event e)
placed_found First e w =
    let found = told_found e.ask e.reply w.ask w.ask_sized w.reply w.reply_sized w.told in
    asked_found e.job None e.ask e.reply found
    ∙ ap (λ s. Some (pieces.Event (record { job = e.job; spot = s; ask = e.ask; reply = e.reply }))) (sym (w.none refl))
placed_found (Second limit) e w =
    let found = told_found e.ask e.reply w.ask w.ask_sized w.reply w.reply_sized w.told in
    ap (λ l. onward (asked e.job) (spot_in l)) (append_assoc (spot_text e.spot) (32 ∷ []) (told_text e.ask e.reply))
    ∙ ap (onward (asked e.job)) (spot_found e.spot (32 ∷ told_text e.ask e.reply) w.word w.line (refl, refl, refl, refl))
    ∙ asked_found e.job e.spot e.ask e.reply found

pub event_found : (form : Form) (e : Noted) → IsEventWritten form e → is_event form e ≡ true → piece_of form (event_text form e) ≡ Some (pieces.Event e)
event_found form e w h =
    let range = count_ranged e.job w.number in
    let rest = 32 ∷ (spot_part form e.spot ++ told_text e.ask e.reply) in
    respelled_found form (pieces.Event e) (event_text form e)
    (numbered form (decimal e.job) rest (number_mark (pos e.job) range) (number_bytes (pos e.job) range)
    ∙ ap (onward (placed form)) (count_found e.job rest w.number (refl, refl, refl, refl))
    ∙ placed_found form e w)
    h refl

pub start_found : (form : Form) (e : Entry) → is_entry e ≡ true → piece_of form (start_line e) ≡ Some (pieces.Start e)
start_found form e h = respelled_found form (pieces.Start e) (start_line e) (ap (option_map pieces.Start) (entry_read e h)) h refl

pub device_found : (form : Form) (name : List ℕ) (count : ℕ) → is_within (limit_of form) name ≡ true → is_text V2 name ≡ true → is_count count ≡ true
    → piece_of form (pool_line (name, count)) ≡ Some (pieces.Device name count)
device_found form name count w h k =
    respelled_found form (pieces.Device name count) (pool_line (name, count))
    (ap (onward counted) (text_found name (32 ∷ decimal count) h (refl, refl, refl, refl)) ∙ ap (option_map (λ p. pieces.Device name p.0)) (count_all count k))
    w refl

-- ---- one line behind others

not_yet_full : (n m : ℕ) → n < m → eqb n m ≡ false
not_yet_full n m h = grind (arith, nat_tests)

not_full : (events : List Noted) (n m : ℕ) → n < m → (not (is_empty events) && eqb n m) ≡ false
not_full [] n m h = refl
not_full (v ∷ events) n m h = not_yet_full n m h

below : (n m : ℕ) → n < m → nat_lt n m ≡ true
below n m h = grind (arith, nat_tests)

abbrev at : Form → List (List ℕ × ℕ) → List Entry → List Noted → Traced
at form pool starts events = record { form = form; pool = pool; starts = starts; events = events }

module _ (most : ℕ) where
  -- a line that may follow is read
  follows : (t : Traced) (k : ℕ) (p : Piece) (rest : List ℕ) → AreWithin (piece_text t.form p) → is_full most t ≡ false
      → piece_of t.form (piece_text t.form p) ≡ Some p → may_follow most t p ≡ true
      → lines_from most t k (lines_of (piece_text t.form p ++ 10 ∷ rest)) ≡ lines_from most (with_piece t p) (suc k) (lines_of rest)
  follows t k p rest within room found may =
      let more : Traced → Result Traced TraceError = λ u. lines_from most u (suc k) (lines_of rest) in
      ap (lines_from most t k) (line_first (piece_text t.form p) rest within)
      ∙ ap (λ b. then_more more (cond b (Err (errors.Long k)) (followed_by most t k (piece_of t.form (piece_text t.form p))))) room
      ∙ ap (λ o. then_more more (followed_by most t k o)) found
      ∙ ap (λ b. then_more more (cond b (Ok (with_piece t p)) (Err (errors.Line k)))) may

  module _ (form : Form) where
    -- behind the lines of events it goes on with what follows
    events_on : (pool : List (List ℕ × ℕ)) (starts : List Entry) (acc : List Noted) (k : ℕ) (es : List Noted) (rest : List ℕ) → is_empty starts ≡ false
        → list_all (is_event form) es ≡ true → list_all event_fits es ≡ true → length acc + length es ≤ most
        → lines_from most (at form pool starts acc) k (lines_of (event_lines form es ++ rest)) ≡ lines_from most (at form pool starts (acc ++ es)) (k + length es) (lines_of rest)
    events_on pool starts acc k [] rest some can fit few =
        let same : k ≡ k + length {A = Noted} [] = omega arith in λ i. lines_from most (at form pool starts (sym (append-nil acc) i)) (same i) (lines_of rest)
    events_on pool starts acc k (e ∷ es) rest some can fit few =
        let p = both_true (is_event form e) (list_all (is_event form) es) can in
        let q = both_true (event_fits e) (list_all event_fits es) fit in
        let w = written form e p.0 q.0 in
        let same : suc k + length es ≡ k + length {A = Noted} (e ∷ es) = omega arith in
        ap (λ l. lines_from most (at form pool starts acc) k (lines_of l)) (append_assoc (event_text form e) (10 ∷ event_lines form es) rest)
        ∙ follows (at form pool starts acc) k (pieces.Event e) (event_lines form es ++ rest)
        (event_within form e w.number w.word w.line w.ask w.ask_sized w.reply w.reply_sized) (not_full acc (length acc) most (omega (arith, few)))
        (event_found form e w p.0) (λ i. not (some i) && below (length acc) most (omega (arith, few)) i)
        ∙ events_on pool starts (acc ++ e ∷ []) (suc k) es rest some p.1 q.1 (omega (arith, few, one_longer acc e))
        ∙ (λ i. lines_from most (at form pool starts (append_assoc acc (e ∷ []) es i)) (same i) (lines_of rest))

    start_on : (pool : List (List ℕ × ℕ)) (acc : List Entry) (k : ℕ) (s : Entry) (rest : List ℕ) → is_entry s ≡ true → may_start pool (length acc) ≡ true
        → lines_from most (at form pool acc []) k (lines_of (start_line s ++ 10 ∷ rest)) ≡ lines_from most (at form pool (acc ++ s ∷ []) []) (suc k) (lines_of rest)
    unfolding no_end
    start_on pool acc k s rest can may =
        follows (at form pool acc []) k (pieces.Start s) rest (entry_within s can) refl (start_found form s can) may

    -- behind those of starts
    starts_on : (pool : List (List ℕ × ℕ)) (acc : List Entry) (k : ℕ) (ss : List Entry) (rest : List ℕ) → list_all is_entry ss ≡ true
        → length acc + length ss ≤ starts_limit → length acc + length ss ≤ principal pool
        → lines_from most (at form pool acc []) k (lines_of (start_lines ss ++ rest)) ≡ lines_from most (at form pool (acc ++ ss) []) (k + length ss) (lines_of rest)
    starts_on pool acc k [] rest can few sessions =
        let same : k ≡ k + length {A = Entry} [] = omega arith in λ i. lines_from most (at form pool (sym (append-nil acc) i) []) (same i) (lines_of rest)
    starts_on pool acc k (s ∷ ss) rest can few sessions =
        let p = both_true (is_entry s) (list_all is_entry ss) can in
        let may : may_start pool (length acc) ≡ true = λ i. below (length acc) starts_limit (omega (arith, few)) i && below (length acc) (principal pool) (omega (arith, sessions)) i in
        let same : suc k + length ss ≡ k + length (s ∷ ss) = omega arith in
        ap (λ l. lines_from most (at form pool acc []) k (lines_of l)) (append_assoc (start_line s) (10 ∷ start_lines ss) rest)
        ∙ start_on pool acc k s (start_lines ss ++ rest) p.0 may
        ∙ starts_on pool (acc ++ s ∷ []) (suc k) ss rest p.1 (omega (arith, few, one_longer acc s)) (omega (arith, sessions, one_longer acc s))
        ∙ (λ i. lines_from most (at form pool (append_assoc acc (s ∷ []) ss i) []) (same i) (lines_of rest))

    rises_behind : (acc : List (List ℕ × ℕ)) (name : List ℕ) (count : ℕ) (ds : List (List ℕ × ℕ)) → rises (acc ++ (name, count) ∷ ds) ≡ true
        → stands_behind (last_device acc) name ≡ true
    rises_behind [] name count ds h = refl
    rises_behind (c ∷ []) name count ds h = (both_true (is_before c.0 name) (rises ((name, count) ∷ ds)) h).0
    rises_behind (c ∷ e ∷ acc) name count ds h =
        ap (λ l. stands_behind l name) (last_pushed c e acc) ∙ rises_behind (e ∷ acc) name count ds (both_true (is_before c.0 e.0) (rises ((e ∷ acc) ++ (name, count) ∷ ds)) h).1

    -- a device's name is within the limit
    is_named : List ℕ × ℕ → Bool
    is_named d = is_within (limit_of form) d.0

    -- behind those of devices
    pool_on : (acc : List (List ℕ × ℕ)) (k : ℕ) (ds : List (List ℕ × ℕ)) (rest : List ℕ) → rises (acc ++ ds) ≡ true → list_all is_named ds ≡ true
        → list_all device_count_fits ds ≡ true
        → lines_from most (at form acc [] []) k (lines_of (pool_lines ds ++ rest)) ≡ lines_from most (at form (acc ++ ds) [] []) (k + length ds) (lines_of rest)
    unfolding no_end is_named
    pool_on acc k [] rest up named sized =
        let same : k ≡ k + length {A = List ℕ × ℕ} [] = omega arith in λ i. lines_from most (at form (sym (append-nil acc) i) [] []) (same i) (lines_of rest)
    pool_on acc k ((name, count) ∷ ds) rest up named sized =
        let p = both_true (is_text V2 name && is_count count) (list_all device_count_fits ds) sized in
        let q = both_true (is_text V2 name) (is_count count) p.0 in
        let n = both_true (is_within (limit_of form) name) (list_all is_named ds) named in
        let more = append_assoc acc ((name, count) ∷ []) ds in
        let same : suc k + length ds ≡ k + length {A = List ℕ × ℕ} ((name, count) ∷ ds) = omega arith in
        ap (λ l. lines_from most (at form acc [] []) k (lines_of l)) (append_assoc (pool_line (name, count)) (10 ∷ pool_lines ds) rest)
        ∙ follows (at form acc [] []) k (pieces.Device name count) (pool_lines ds ++ rest) (device_line_within name count q.1) refl
        (device_found form name count n.0 q.0 q.1) (rises_behind acc name count ds up)
        ∙ pool_on (acc ++ (name, count) ∷ []) (suc k) ds rest (ap rises more ∙ up) n.1 p.1
        ∙ (λ i. lines_from most (at form (more i) [] []) (same i) (lines_of rest))

  -- ---- the whole

  -- behind the lines that tell a form
  head_on : (form : Form) (rest : List ℕ) → reading_of most (head_text form ++ rest) ≡ lines_from most (no_lines form) (head_count form + 1) (lines_of rest)
  unfolding no_end
  head_on First rest = ap (headed most) (line_first (header First) rest refl)
  head_on (Second V1) rest =
      ap (headed most) (line_first (header (Second V1)) (limit_line V1 ++ 10 ∷ rest) refl) ∙ ap (limited most) (line_first (limit_line V1) rest refl)
  head_on (Second V2) rest =
      ap (headed most) (line_first (header (Second V2)) (limit_line V2 ++ 10 ∷ rest) refl) ∙ ap (limited most) (line_first (limit_line V2) rest refl)

  text_behind : (t : Traced) (rest : List ℕ) → trace_text t ++ rest ≡ head_text t.form ++ (pool_lines t.pool ++ (start_lines t.starts ++ (event_lines t.form t.events ++ rest)))
  text_behind t rest =
      append_assoc (head_text t.form ++ (pool_lines t.pool ++ start_lines t.starts)) (event_lines t.form t.events) rest
      ∙ append_assoc (head_text t.form) (pool_lines t.pool ++ start_lines t.starts) (event_lines t.form t.events ++ rest)
      ∙ ap (λ l. head_text t.form ++ l) (append_assoc (pool_lines t.pool) (start_lines t.starts) (event_lines t.form t.events ++ rest))

  -- behind a trace as far as it goes, within the limits, it goes on with what follows
  pub trace_on : (t : Traced) → IsBegun t → IsSized t → length t.events ≤ most → (rest : List ℕ) → reading_of most (trace_text t ++ rest) ≡ lines_from most t (line_count t + 1) (lines_of rest)
  unfolding is_named
  trace_on t h k few_events rest =
      ap (reading_of most) (text_behind t rest)
      ∙ head_on t.form (pool_lines t.pool ++ (start_lines t.starts ++ (event_lines t.form t.events ++ rest)))
      ∙ by h
    where
      by : IsBegun t
          → lines_from most (no_lines t.form) (head_count t.form + 1) (lines_of (pool_lines t.pool ++ (start_lines t.starts ++ (event_lines t.form t.events ++ rest))))
          ≡ lines_from most t (line_count t + 1) (lines_of rest)
      by (inl d) =
          let count : head_count t.form + 1 + length t.pool ≡ line_count t + 1 = let starts = ap length d.no_starts in let events = ap length d.no_events in omega (arith, starts, events) in
          ap (λ l. lines_from most (no_lines t.form) (head_count t.form + 1) (lines_of (pool_lines t.pool ++ l))) (λ i. start_lines (d.no_starts i) ++ (event_lines t.form (d.no_events i) ++ rest))
          ∙ pool_on t.form [] (head_count t.form + 1) t.pool rest d.rise d.named k.devices
          ∙ (λ i. lines_from most (at t.form t.pool (sym d.no_starts i) (sym d.no_events i)) (count i) (lines_of rest))
      by (inr is) =
          let count : head_count t.form + 1 + length t.pool + length t.starts + length t.events ≡ line_count t + 1 = omega arith in
          let few = is.starts_few in
          let sessions = is.sessions in
          pool_on t.form [] (head_count t.form + 1) t.pool (start_lines t.starts ++ (event_lines t.form t.events ++ rest)) is.devices is.named k.devices
          ∙ starts_on t.form t.pool [] (head_count t.form + 1 + length t.pool) t.starts (event_lines t.form t.events ++ rest) is.starts (omega (arith, few)) (omega (arith, sessions))
          ∙ events_on t.form t.pool t.starts [] (head_count t.form + 1 + length t.pool + length t.starts) t.events rest is.started is.events k.events (omega (arith, few_events))
          ∙ ap (λ n. lines_from most t n (lines_of rest)) count

  -- the bytes of a trace that can be written, within the limits, are read as this trace
  pub is_read : (t : Traced) → IsTrace t → IsSized t → length t.events ≤ most → reading_of most (trace_text t) ≡ Ok t
  is_read t h k few =
      ap (reading_of most) (sym (append-nil (trace_text t))) ∙ trace_on t (inr h) k few [] ∙ ap (λ b. cond b (Err (errors.Line (line_count t + 1))) (Ok t)) h.started

  ok_same : (r : Result Traced TraceError) (u t : Traced) → r ≡ Ok u → r ≡ Ok t → u ≡ t
  ok_same r u t e f = cc

  -- what a call gives of a trace that can be written is this trace
  pub reads_it : (bs : List ℕ) (r : Result Traced TraceError) → IfOk r (λ t. reading_of most bs ≡ Ok t) → (t : Traced) → bs ≡ trace_text t → IsTrace t → IsSized t
      → length t.events ≤ most → IfOk r (λ u. u ≡ t)
  reads_it bs (Ok u) h t is a b few = ok_same (reading_of most bs) u t h (ap (reading_of most) is ∙ is_read t a b few)
  reads_it bs (Err e) h t is a b few = tt

  pub reads_all : (bs : List ℕ) (r : Result Traced TraceError) → IfErr r (λ e. (e ≡ errors.Memory) ⊎ (reading_of most bs ≡ Err e)) → (t : Traced) → bs ≡ trace_text t → IsTrace t → IsSized t
      → length t.events ≤ most → IfErr r (λ e. e ≡ errors.Memory)
  reads_all bs (Ok u) h t is a b few = tt
  reads_all bs (Err e) h t is a b few = by h (ap (reading_of most) is ∙ is_read t a b few)
    where
      by : (e ≡ errors.Memory) ⊎ (reading_of most bs ≡ Err e) → reading_of most bs ≡ Ok t → e ≡ errors.Memory
      by (inl m) ok = m
      by (inr x) ok = absurd cc
