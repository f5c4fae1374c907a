-- What the outcome of a run says of the line: read, stuck, too deep or too long.
use Rattle.std.proofs.Common.{◌≡◌, ℕ, ◌+◌, ◌≤◌, ◌<◌, nat_le, max, List, [], ◌∷◌, ◌++◌, length, take, refl, ap, sym, ◌∙◌, subst, Bool, true, false, append_assoc, append-nil, length-append, arith, ◌⊎◌, inl, inr, Option, Some, None}
use Rattle.std.specs.Prelude.{cond}
use Rattle.std.proofs.lemmas.Bool.Decides.{nat_tests}
use Rattle.mj_ast.specs.declared.sign.Sign.TheVariants.{Comma}
use Rattle.mj_ast.specs.Syntax.{Line}
use Rattle.mj_ast.specs.Tokens.{Token, Word, Called, Special, Invoked, Numbered, Dollars, Digits, Quoted, Signed, Blank, Comment, Unclosed, Stray}
use Rattle.mj_ast.specs.Expressions.{symbol}
use Rattle.mj_ast.specs.Commands.{greatest, step_nesting, step_width}
use Rattle.mj_ast.specs.Lines.{SpellsLine, IsLineWithin, plain_line, BeginsLine, BeginsLineWithin, IsOverlong, HasOverlong}
use Rattle.mj_expr.specs.Machine.{Limits}
use Rattle.mj_expr.specs.Machine as phrase
use Rattle.mj_expr.specs.Reads.{limits}
use Rattle.mj_expr.proofs.Facts.{deeper, wider}
use Rattle.mj_line.specs.Sentences.{Sentence, SpellsSentence, sentence_of, IsSentenceWithin}
use Rattle.mj_line.specs.Said.{IsRead, IsStuckWith, IsTooDeepWith}
use Rattle.mj_line.specs.Machine.{Rest, Spot, Begin, Labelled, FormalsOpened, FormalWanted, FormalBehind, FormalsEnd, Indented, Behind, Over, Worded, Asked, Bare, Args, Goal, State, At, In, behind_phrase, rested, Accept, StuckAt, DeepAt, TooLong, refused, ended, ended_at, ended_spot, ended_behind, run, turn}
use Rattle.mj_line.proofs.Facts.{HasRoom}
use Rattle.mj_line.proofs.Ends.{along_runs, Whole, Halts, Deepens, Lengthens, EndsAs}
use Rattle.mj_line.proofs.Spelled.{sentence_back, line_within, line_once, plain_within}
use Rattle.mj_line.proofs.Commas.{deep_stays}
use Rattle.mj_line.proofs.Said.{take_front, take_at, same_line, stuck_accept, long_accept, deep_accept, state_accepts, bigger, more_bigger, read_line, accepted, began, came, front_at, none_begins, begins_front, stuck_toolong, ends_as, roomy, short_accept, short_stuck}

-- ---- READ

same_lines : (m : Limits) (ks : List Token) (l o : Line) → SpellsLine ks l → SpellsLine ks o → o ≡ l
same_lines m ks l o s t =
    let n : Limits = record { depth = max (greatest step_nesting l.steps) (greatest step_nesting o.steps); width = max (greatest step_width l.steps) (greatest step_width o.steps) } in
    sym t.2
    ∙ ap (λ (x : Line). plain_line x) (line_once ks t.0 s.0 t.1 (same_line (sentence_of t.0) (sentence_of s.0)
    (sym (read_line n ks o t (record { nests = omega arith; lists = omega arith }))
    ∙ read_line n ks l s (record { nests = omega arith; lists = omega arith }))))
    ∙ s.2

limits_room : HasRoom (limits 64)
limits_room = record { depth = omega arith; width = omega arith }

-- the line of these commands
pub said_read : (ks : List Token) (x : Sentence) (w l : Line) → sentence_of w ≡ x → plain_line w ≡ l → run (limits 64) ks (At Begin) ≡ Accept x → IsRead ks l
said_read ks x v l i z e =
    let m = limits 64 in
    let h = ends_as m ks (Accept x) limits_room e in
    let r = came m ks h.end h.along in
    let a = state_accepts m h.end x limits_room.depth r.1 h.gives in
    let P : List Token → Type 0 = λ zs. SpellsSentence zs x in
    let b = sentence_back ks x (subst P (append-nil ks) (r.0 [] x a.0)) in
    let Q : Line → Type 0 = λ o. IsLineWithin 64 31 o in
    let W : Sentence → Type 0 = λ o. IsSentenceWithin 64 31 o in
    let s : SpellsLine ks l = (b.line, b.spells, ap (λ (y : Line). plain_line y) (line_once ks b.line v b.spells (b.made ∙ sym i)) ∙ z) in
    record {
      spells = s;
      within = subst Q z (plain_within 64 31 v (line_within 64 31 v (subst W (sym i) a.1)));
      only = λ o t. same_lines m ks l o s t;
      short =
          short_accept m ks x limits_room.depth refl e;
    }

-- ---- STUCK

word_stuck_at : (i n : ℕ) (b : Bool) → cond b (StuckAt i) TooLong ≡ StuckAt n → i ≡ n
word_stuck_at i n true e = cc
word_stuck_at i n false e = absurd (stuck_toolong n (sym e))

stuck_left : (ks : List Token) (n : ℕ) → refused ks ≡ StuckAt n → length ks ≡ n
stuck_left [] n e = cc
stuck_left (Word w ∷ ks) n e = word_stuck_at (length (Word w ∷ ks)) n (nat_le (length w) 31) e
stuck_left (Digits d ∷ ks) n e = cc
stuck_left (Quoted q ∷ ks) n e = cc
stuck_left (Signed s ∷ ks) n e = cc
stuck_left (Blank ∷ ks) n e = cc
stuck_left (Comment t ∷ ks) n e = cc
stuck_left (Unclosed t ∷ ks) n e = cc
stuck_left (Called w ∷ ks) n e = word_stuck_at (length (Called w ∷ ks)) n (nat_le (length w) 31) e
stuck_left (Special w ∷ ks) n e = word_stuck_at (length (Special w ∷ ks)) n (nat_le (length w) 31) e
stuck_left (Invoked w ∷ ks) n e = word_stuck_at (length (Invoked w ∷ ks)) n (nat_le (length w) 31) e
stuck_left (Numbered d ∷ ks) n e = cc
stuck_left (Dollars ∷ ks) n e = cc
stuck_left (Stray b ∷ ks) n e = cc

halts_stuck : (ks : List Token) (n : ℕ) → Halts (limits 64) (At Begin) ks (StuckAt n) → (HasOverlong ks → ⊥) → IsStuckWith ks n
halts_stuck ks n h short =
    let m = limits 64 in
    let r = came m h.front h.end h.along in
    let k = length h.front in
    let all = ap (length {A = Token}) h.cut in
    let parts = length-append h.front (h.token ∷ h.back) in
    let first : take k ks ≡ h.front = ap (take k) h.cut ∙ take_front h.front (h.token ∷ h.back) in
    let more : take (k + 1) ks ≡ h.front ++ h.token ∷ [] = ap (take (k + 1)) h.cut ∙ take_at (k + 1) h.front h.token h.back refl in
    let W : List Token → Type 0 = λ zs. BeginsLineWithin 64 31 zs in
    let B : List Token → Type 0 = λ zs. BeginsLine zs in
    let S : List Token → Type 0 = λ zs. BeginsLine zs → ⊥ in
    let none : BeginsLine (h.front ++ h.token ∷ []) → ⊥ = none_begins m h.front h.token h.end h.along h.stuck in
    record {
      place = k;
      left_is = let z = stuck_left (h.token ∷ h.back) n h.gives in omega arith;
      stuck = record {
        inside = omega arith;
        before = subst W (sym first) (began m h.front h.end limits_room r.0 r.1);
        at = λ i. subst S (sym more) none;
        whole = λ l s. none (begins_front (h.front ++ h.token ∷ []) h.back l (let P : List Token → Type 0 = λ zs. SpellsLine zs l in subst P (h.cut ∙ sym (front_at h.front h.token h.back)) s));
      };
      short = short;
    }

rest_stuck : (q : Option Rest) (n : ℕ) → ended_at q ≡ StuckAt n → n ≡ 0
rest_stuck (Some r) n e = absurd (stuck_accept n r.line (sym e))
rest_stuck None n e = cc

spot_stuck : (p : Spot) (n : ℕ) → ended_spot p ≡ StuckAt n → n ≡ 0
spot_stuck (Over l) n e = absurd (stuck_accept n l (sym e))
spot_stuck Begin n e = rest_stuck (rested Begin) n e
spot_stuck (Labelled label) n e = rest_stuck (rested (Labelled label)) n e
spot_stuck (FormalsOpened label) n e = rest_stuck None n e
spot_stuck (FormalWanted label names) n e = rest_stuck None n e
spot_stuck (FormalBehind label names) n e = rest_stuck None n e
spot_stuck (FormalsEnd label names) n e = rest_stuck (rested (FormalsEnd label names)) n e
spot_stuck (Indented l) n e = rest_stuck (rested (Indented l)) n e
spot_stuck (Behind r) n e = rest_stuck (Some r) n e
spot_stuck (Worded o k) n e = rest_stuck (rested (Worded o k)) n e
spot_stuck (Asked o k) n e = rest_stuck None n e
spot_stuck (Bare o condition k) n e = rest_stuck (rested (Bare o condition k)) n e
spot_stuck (Args o condition k done x) n e = rest_stuck (rested (Args o condition k done x)) n e

behind_stuck : (g : Goal) (o : phrase.Outcome) (n : ℕ) → ended_behind g o ≡ StuckAt n → n ≡ 0
behind_stuck g (phrase.Accept p r) n e = spot_stuck (behind_phrase g p) n e
behind_stuck g (phrase.StuckAt i) n e = cc
behind_stuck g (phrase.DeepAt i) n e = cc
behind_stuck g phrase.TooLong n e = cc

ended_stuck : (s : State) (n : ℕ) → ended s ≡ StuckAt n → n ≡ 0
ended_stuck (At p) n e = spot_stuck p n e
ended_stuck (In g s) n e = behind_stuck g (phrase.finish s []) n e

-- all tokens were read, and are no line
whole_none : (m : Limits) (ks : List Token) (n : ℕ) → Whole m (At Begin) ks (StuckAt n) → (l : Line) → SpellsLine ks l → ⊥
whole_none m ks n h l s =
    let z = bigger m l in
    stuck_accept n (sentence_of s.0) (sym (ap (λ (zs : List Token). run z zs (At Begin)) (sym (append-nil ks)) ∙
    along_runs m z ks [] (At Begin) h.end h.along (more_bigger m l) ∙ h.gives) ∙ accepted m ks l s)

whole_stuck : (ks : List Token) (n : ℕ) → Whole (limits 64) (At Begin) ks (StuckAt n) → (HasOverlong ks → ⊥) → IsStuckWith ks n
whole_stuck ks n h short =
    let m = limits 64 in
    let r = came m ks h.end h.along in
    let first : take (length ks) ks ≡ ks = ap (take (length ks)) (sym (append-nil ks)) ∙ take_front ks [] in
    let W : List Token → Type 0 = λ zs. BeginsLineWithin 64 31 zs in
    record {
      place = length ks;
      left_is = let z = ended_stuck h.end n h.gives in omega arith;
      stuck = record {
        inside = omega arith;
        before = subst W (sym first) (began m ks h.end limits_room r.0 r.1);
        at = λ i. absurd (omega arith);
        whole = whole_none m ks n h;
      };
      short = short;
    }

stuck_as : (ks : List Token) (n : ℕ) → EndsAs (limits 64) (At Begin) ks (StuckAt n) → (HasOverlong ks → ⊥) → IsStuckWith ks n
stuck_as ks n (inl h) short = whole_stuck ks n h short
stuck_as ks n (inr h) short = halts_stuck ks n h short

pub said_stuck : (ks : List Token) (n : ℕ) → run (limits 64) ks (At Begin) ≡ StuckAt n → IsStuckWith ks n
said_stuck ks n e = stuck_as ks n (ends_as (limits 64) ks (StuckAt n) limits_room e) (short_stuck (limits 64) ks n limits_room.depth refl e)

-- ---- DEEP

pub said_deep : (ks : List Token) (n : ℕ) → run (limits 64) ks (At Begin) ≡ DeepAt n → IsTooDeepWith ks n
said_deep ks n e =
    let m = limits 64 in
    let h : Deepens m (At Begin) ks n = ends_as m ks (DeepAt n) limits_room e in
    let r = came m h.front h.end h.along in
    let k = length h.front in
    let all = ap (length {A = Token}) h.cut in
    let parts = length-append h.front (h.token ∷ h.back) in
    let first : take k ks ≡ h.front = ap (take k) h.cut ∙ take_front h.front (h.token ∷ h.back) in
    let more : take (k + 1) ks ≡ h.front ++ h.token ∷ [] = ap (take (k + 1)) h.cut ∙ take_at (k + 1) h.front h.token h.back refl in
    let W : List Token → Type 0 = λ zs. BeginsLineWithin 64 31 zs in
    let B : List Token → Type 0 = λ zs. BeginsLine zs in
    let S : List Token → Type 0 = λ zs. (width : ℕ) → BeginsLineWithin 64 width zs → ⊥ in
    let o = h.opened r.1 in
    let d = began (deeper (symbol h.token) m) (h.front ++ h.token ∷
    []) o.0 (record { depth = omega arith; width = omega arith }) (λ rest l z. let Q : List Token → Type 0 = λ zs. SpellsSentence zs l in
    subst Q (sym (front_at h.front h.token rest)) (r.0 (h.token ∷ rest) l (o.1 rest l z))) o.2 in
    let beyond : (width : ℕ) → BeginsLineWithin 64 width (h.front ++ h.token ∷ []) → ⊥ = λ width b.
    let l : Limits = record { depth = 64; width = max 31 width } in
    deep_accept (length (h.token ∷ b.rest)) (sentence_of b.spells.0)
    (sym (ap (λ (zs : List Token). run l zs (At Begin)) (front_at h.front h.token b.rest)
    ∙ along_runs m l h.front (h.token ∷ b.rest) (At Begin) h.end h.along (record { depth = omega arith; width = omega arith })
    ∙ ap (turn l b.rest h.token) (deep_stays m l h.end h.token refl h.steps))
    ∙ read_line l ((h.front ++ h.token ∷ []) ++ b.rest) b.line b.spells (record { nests = b.within.nests; lists = let z = b.within.lists in omega arith })) in
    record {
      place = k;
      left_is = let z = h.left in omega arith;
      deep = record {
        inside = omega arith;
        before = subst W (sym first) (began m h.front h.end limits_room r.0 r.1);
        at = subst B (sym more) (record { rest = d.rest; line = d.line; spells = d.spells });
        beyond = subst S (sym more) beyond;
      };
    }

-- ---- LONG

word_long : (i : ℕ) (w : List ℕ) (b : Bool) → nat_le (length w) 31 ≡ b → cond b (StuckAt i) TooLong ≡ TooLong → 31 < length w
word_long i w true f e = absurd (stuck_toolong i e)
word_long i w false f e = grind (arith, nat_tests)

long_token : (k : Token) (ks front : List Token) → refused (k ∷ ks) ≡ TooLong → IsOverlong front k
long_token (Word w) ks front e = word_long (length (Word w ∷ ks)) w (nat_le (length w) 31) refl e
long_token (Digits d) ks front e = absurd (stuck_toolong _ e)
long_token (Quoted q) ks front e = absurd (stuck_toolong _ e)
long_token (Signed s) ks front e = absurd (stuck_toolong _ e)
long_token Blank ks front e = absurd (stuck_toolong _ e)
long_token (Comment t) ks front e = absurd (stuck_toolong _ e)
long_token (Unclosed t) ks front e = absurd (stuck_toolong _ e)
long_token (Called w) ks front e = word_long (length (Called w ∷ ks)) w (nat_le (length w) 31) refl e
long_token (Special w) ks front e = word_long (length (Special w ∷ ks)) w (nat_le (length w) 31) refl e
long_token (Invoked w) ks front e = word_long (length (Invoked w ∷ ks)) w (nat_le (length w) 31) refl e
long_token (Numbered d) ks front e = absurd (stuck_toolong _ e)
long_token Dollars ks front e = absurd (stuck_toolong _ e)
long_token (Stray b) ks front e = absurd (stuck_toolong _ e)

as_begins : (depth width : ℕ) (ks : List Token) → BeginsLineWithin depth width ks → BeginsLine ks
as_begins depth width ks b = record { rest = b.rest; line = b.line; spells = b.spells }

long_as : (m : Limits) (ks : List Token) → HasRoom m → m.width ≡ 31 → Halts m (At Begin) ks TooLong ⊎ Lengthens m (At Begin) ks → HasOverlong ks
long_as m ks d w (inl h) =
    let r = came m h.front h.end h.along in
    record {
      front = h.front;
      token = h.token;
      rest = h.back;
      cut = h.cut;
      begins = as_begins m.depth m.width h.front (began m h.front h.end d r.0 r.1);
      overlong = long_token h.token h.back h.front h.gives;
    }
long_as m ks i w (inr h) =
    let r = came m h.front h.end h.along in
    let f = h.long.filler in
    let o = h.long.opened r.1 in
    let d = began (wider m) (h.front ++ (f ++ h.token ∷ [])) o.0 (record { depth = i.depth; width = omega arith }) (λ rest l z. let Q : List Token → Type 0 =
    λ zs. SpellsSentence zs l in subst Q (sym (append_assoc h.front (f ++ h.token ∷ []) rest)) (r.0 ((f ++ h.token ∷ []) ++ rest) l (o.1 rest l z))) o.2 in
    let B : Token → Type 0 = λ k. BeginsLine (h.front ++ (f ++ k ∷ [])) in
    let O : Token → Type 0 = λ k. IsOverlong h.front k in
    record {
      front = h.front;
      token = h.token;
      rest = h.back;
      cut = h.cut;
      begins = as_begins m.depth m.width h.front (began m h.front h.end i r.0 r.1);
      overlong = subst O (sym h.long.comma) (record {
        filler = f;
        fills = h.long.fills;
        begins = subst B h.long.comma (as_begins (m.depth) (m.width + 1) _ d);
        too_long = λ depth b.
            let l : Limits = record { depth = max m.depth depth; width = m.width } in
            long_accept (sentence_of b.spells.0)
            (sym (ap (λ (zs : List Token). run l zs (At Begin)) (append_assoc h.front (f ++ Signed Comma ∷ []) b.rest ∙
            ap (λ (zs : List Token). h.front ++ zs) (append_assoc f (Signed Comma ∷ []) b.rest))
            ∙ along_runs m l h.front (f ++ Signed Comma ∷ b.rest) (At Begin) h.end h.along (record { depth = omega arith; width = omega arith })
            ∙ ap (λ (k : Token). run l (f ++ k ∷ b.rest) h.end) (sym h.long.comma)
            ∙ h.long.local l b.rest (omega arith) refl)
            ∙ read_line l ((h.front ++ (f ++ Signed Comma ∷ [])) ++ b.rest) b.line b.spells (record { nests = let z = b.within.nests in omega arith; lists = let z = b.within.lists in omega arith }));
      });
    }

pub said_long : (m : Limits) (ks : List Token) → 1 ≤ m.depth → m.width ≡ 31 → run m ks (At Begin) ≡ TooLong → HasOverlong ks
said_long m ks d w e = long_as m ks (roomy m d w) w (ends_as m ks TooLong (roomy m d w) e)
