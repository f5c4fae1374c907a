-- What is known of a step.
use Rattle.std.proofs.Common.{◌≡◌, ℕ, ◌≤◌, ◌<◌, ◌==◌, ◌+◌, ◌-◌, nat_le, List, [], ◌∷◌, ◌++◌, length, refl, ap, sym, ◌∙◌, subst, Bool, true, false, arith, Option, Some, None, map, append_assoc, append-nil, length-append}
use Rattle.std.specs.Prelude.{cond, bytes_eq, codes, ◌&&◌, ◌||◌}
use Rattle.std.proofs.lemmas.Slice.Eq.{bytes_eq-Decides}
use Rattle.std.proofs.lemmas.List.{map-append, length-map}
use Rattle.std.proofs.lemmas.Bool.Decides.{nat_tests}
use Rattle.mj_ast.specs.declared.sign.Sign.TheVariants.{Comma}
use Rattle.mj_ast.specs.declared.keyword.Verb.{Verb}
use Rattle.mj_ast.specs.Syntax.{Expr}
use Rattle.mj_ast.specs.Tokens.{Token, Word, Digits, Quoted, Signed, Blank, Comment, Unclosed, Stray, Called, Special, Invoked, Numbered, Dollars}
use Rattle.mj_ast.specs.Expressions.{levels_of, Symbol, Name, Entry, Overlong, symbol, function_symbol, callee_of, special_symbol, special_of}
use Rattle.mj_ast.specs.Commands.{Part, Named, Label, SerialWord, is_serial_word, verb_of, looked_up, command_words, capital}
use Rattle.mj_ast.specs.Lines.{Filler}
use Rattle.mj_expr.specs.Machine.{Limits}
use Rattle.mj_expr.specs.Machine as phrase
use Rattle.mj_expr.proofs.Room.{HasRead, sofar, IsGood}
use Rattle.mj_expr.proofs.Facts.{IsMore, deeper, wider, more_deeper, more_wider}
use Rattle.mj_expr.proofs.Facts as known
use Rattle.mj_expr.proofs.States.{step_facts}
use Rattle.mj_expr.proofs.Told.{accepts}
use Rattle.mj_expr.proofs.Ends.{finish_deep}
use Rattle.mj_expr.proofs.Said.{finish_stuck, finish_long, overlong_finish, overlong_word, comma_token, Over as OverLimit}
use Rattle.mj_expr.proofs.Turns.{finish_again, accept_length}
use Rattle.mj_line.specs.Forms.{next_of, Want, AnExpr, AVar, ALocal, piece_part, Sort, Names, Labels, Serials, part_at, sort_of, wants}
use Rattle.mj_line.specs.Sentences.{Sentence}
use Rattle.mj_line.specs.Machine.{IsClosed, Rest, Spot, Begin, Args, Goal, Condition, Argument, State, At, In, level, inside, behind_phrase, behind_want, argument, entry, rested, Next, Go, Stuck, Deep, Long, taken, own, begins, on_rested, first, spot_step, behind_step, phrase_step, in_step, entering, step, StuckAt, DeepAt, TooLong, refused, ended_behind, run, turn, Labelled, FormalsOpened, FormalWanted, FormalBehind}
use Rattle.mj_line.proofs.Tables.{none_some}
use Rattle.mj_line.proofs.Leaves.{Leads, Begun, begun_more, begun_suits, kind}
use Rattle.mj_line.proofs.SpotLeaves.{NextLeads, spot_leads}
use Rattle.mj_line.proofs.Formals.{long_new}
use Rattle.mj_line.proofs.Good.{StateGood, SpotGood, NextGood, spot_good, behind_good, goal_more, inside_more, level_small}

-- there is room for a level and for a subscript
pub record HasRoom (m : Limits) : Type 0 where
  pub depth : 1 ≤ m.depth
  pub width : 1 ≤ m.width

-- where a list is too long: with a comma, and perhaps one token before it, it would have one subscript more
pub record LongFacts (m : Limits) (s : State) (k : Token) : Type 0 where
  pub comma : k ≡ Signed Comma
  pub filler : List Token
  pub fills : Filler filler
  pub opened : StateGood m s → (t : State) × Leads s (filler ++ k ∷ []) t × StateGood (wider m) t
  pub local : (l : Limits) (ks : List Token) → m.depth ≤ l.depth → l.width ≡ m.width → run l (filler ++ k ∷ ks) s ≡ TooLong

-- what is known of a step, by where it goes; `at` is the step within other limits
abbrev pub Facts : Limits → State → Token → (Limits → Next) → Next → Type 0
Facts m s k at (Go t) = (StateGood m s → Leads s (k ∷ []) t × StateGood m t) × ((l : Limits) → IsMore m l → at l ≡ Go t)
Facts m s k at Stuck = (l : Limits) → IsMore m l → at l ≡ Stuck
Facts m s k at Deep = StateGood m s → (t : State) × Leads s (k ∷ []) t × StateGood (deeper (symbol k) m) t
Facts m s k at Long = LongFacts m s k

abbrev pub FactsAt : Limits → State → Token → Type 0
FactsAt m s k = Facts m s k (λ l. step l s k) (step m s k)

-- ---- words that are too long

-- no row has a longer word than a name
abbrev rows_short : List (List ℕ × Verb) → Bool
rows_short [] = true
rows_short (row ∷ rows) = nat_le (length row.0) 31 && rows_short rows

and_first : (a b : Bool) → a && b ≡ true → a ≡ true
and_first true b e = refl
and_first false b e = e

and_second : (a b : Bool) → a && b ≡ true → b ≡ true
and_second true b e = e
and_second false b e = absurd (let f : false ≡ true = e in cc)

found_short : (w : List ℕ) (row : List ℕ × Verb) (o : Option Verb) (k : Verb) (b : Bool) → bytes_eq w row.0 ≡ b → nat_le (length row.0) 31 ≡ true →
    (o ≡ Some k → length w ≤ 31) → cond b (Some row.1) o ≡ Some k → length w ≤ 31
found_short w row o k true e h f g = let same = (bytes_eq-Decides w row.0).0 e in let n = ap (length {A = ℕ}) same in let z : length row.0 ≤ 31 = grind (arith, nat_tests) in omega arith
found_short w row o k false e h f g = f g

looked_short : (w : List ℕ) (rows : List (List ℕ × Verb)) (k : Verb) → rows_short rows ≡ true → looked_up w rows ≡ Some k → length w ≤ 31
looked_short w [] k h e = absurd (none_some k e)
looked_short w (row ∷ rows) k h e =
    found_short w row (looked_up w rows) k (bytes_eq w row.0) refl (and_first (nat_le (length row.0) 31) (rows_short rows) h)
    (λ f. looked_short w rows k (and_second (nat_le (length row.0) 31) (rows_short rows) h) f) e

long_as : (w : List ℕ) (o : Option Verb) → verb_of w ≡ o → 31 < length w → o ≡ None
long_as w None e h = refl
long_as w (Some k) e h = absurd (let n = looked_short (map capital w) command_words k refl e in let z = length-map w capital in omega arith)

-- no command has such a word
pub long_keyword : (w : List ℕ) → 31 < length w → verb_of w ≡ None
long_keyword w h = long_as w (verb_of w) refl h

le_false : (n : ℕ) → 31 < n → nat_le n 31 ≡ false
le_false n h = grind (arith, nat_tests)

same_length : (w v : List ℕ) → bytes_eq (map capital w) v ≡ true → length w ≡ length v
same_length w v h = sym (length-map w capital) ∙ ap (length {A = ℕ}) ((bytes_eq-Decides (map capital w) v).0 h)

-- the word of SERIAL has six bytes, or one
long_serial : (w : List ℕ) → 31 < length w → is_serial_word w ≡ false
long_serial w h = by (bytes_eq (map capital w) (codes "SERIAL")) (bytes_eq (map capital w) (codes "S")) refl refl
  where
    by : (a b : Bool) → bytes_eq (map capital w) (codes "SERIAL") ≡ a → bytes_eq (map capital w) (codes "S") ≡ b → a || b ≡ false
    by true b e f = absurd (let z : length w ≡ 6 = same_length w (codes "SERIAL") e in omega arith)
    by false true e f = absurd (let z : length w ≡ 1 = same_length w (codes "S") f in omega arith)
    by false false e f = refl

long_part : (b : Sort) (w : List ℕ) → 31 < length w → part_at b (Word w) ≡ None
long_part Labels w h = ap (λ (b : Bool). cond b (Some (Label w)) None) (le_false (length w) h)
long_part Names w h = ap (λ (b : Bool). cond b (Some (Named w)) None) (le_false (length w) h)
long_part Serials w h = ap (λ (b : Bool). cond b (Some SerialWord) None) (long_serial w h)

long_called : (b : Sort) (w : List ℕ) → 31 < length w → part_at b (Called w) ≡ None
long_called Names w h = ap (λ (b : Bool). cond b (piece_part (callee_of w)) None) (le_false (length w) h)
long_called Labels w h = ap (λ (b : Bool). cond b (piece_part (callee_of w)) None) (le_false (length w) h)
long_called Serials w h = ap (λ (b : Bool). cond b (piece_part (callee_of w)) None) (le_false (length w) h)

special_part : (b : Sort) (w : List ℕ) → part_at b (Special w) ≡ None
special_part Names w = refl
special_part Labels w = refl
special_part Serials w = refl

invoked_part : (b : Sort) (w : List ℕ) → part_at b (Invoked w) ≡ None
invoked_part Names w = refl
invoked_part Labels w = refl
invoked_part Serials w = refl

own_long : (p : Spot) (w : List ℕ) → 31 < length w → own p (Word w) ≡ Stuck
own_long Begin w h = ap (λ (b : Bool). cond b (Go (At (Labelled w))) Stuck) (le_false (length w) h)
own_long (FormalsOpened label) w h = ap (λ (b : Bool). cond b (Go (At (FormalBehind label (w ∷ [])))) Stuck) (long_new [] w (le_false (length w) h))
own_long (FormalWanted label names) w h = ap (λ (b : Bool). cond b (Go (At (FormalBehind label (names ++ w ∷ [])))) Stuck) (long_new names w (le_false (length w) h))
own_long (Args l condition k done n) w h = ap (taken l condition k done n) (long_part (sort_of n) w h)
own_long p w h = refl

word_long : (l : Sentence) (w : List ℕ) (b : Bool) → 31 < length w → cond b (begins l (verb_of w)) Stuck ≡ Stuck
word_long l w true h = ap (begins l) (long_keyword w h)
word_long l w false h = refl

rested_long : (q : Option Rest) (w : List ℕ) → 31 < length w → on_rested q (Word w) ≡ Stuck
rested_long (Some r) w h = word_long r.line w (r.gap == 0) h
rested_long None w h = refl

pub spot_long : (p : Spot) (w : List ℕ) → 31 < length w → spot_step p (Word w) ≡ Stuck
spot_long p w h = ap (λ (n : Next). first n (on_rested (rested p) (Word w))) (own_long p w h) ∙ rested_long (rested p) w h

own_called : (p : Spot) (w : List ℕ) → 31 < length w → own p (Called w) ≡ Stuck
own_called Begin w h = refl
own_called (Args l condition k done n) w h = ap (taken l condition k done n) (long_called (sort_of n) w h)
own_called p w h = refl

own_special : (p : Spot) (w : List ℕ) → own p (Special w) ≡ Stuck
own_special Begin w = refl
own_special (Args l condition k done n) w = ap (taken l condition k done n) (special_part (sort_of n) w)
own_special p w = refl

own_invoked : (p : Spot) (w : List ℕ) → own p (Invoked w) ≡ Stuck
own_invoked Begin w = refl
own_invoked (Args l condition k done n) w = ap (taken l condition k done n) (invoked_part (sort_of n) w)
own_invoked p w = refl

rested_called : (q : Option Rest) (w : List ℕ) → on_rested q (Called w) ≡ Stuck
rested_called (Some r) w = refl
rested_called None w = refl

rested_special : (q : Option Rest) (w : List ℕ) → on_rested q (Special w) ≡ Stuck
rested_special (Some r) w = refl
rested_special None w = refl

rested_invoked : (q : Option Rest) (w : List ℕ) → on_rested q (Invoked w) ≡ Stuck
rested_invoked (Some r) w = refl
rested_invoked None w = refl

pub spot_called : (p : Spot) (w : List ℕ) → 31 < length w → spot_step p (Called w) ≡ Stuck
spot_called p w h = ap (λ (n : Next). first n (on_rested (rested p) (Called w))) (own_called p w h) ∙ rested_called (rested p) w

pub spot_special : (p : Spot) (w : List ℕ) → spot_step p (Special w) ≡ Stuck
spot_special p w = ap (λ (n : Next). first n (on_rested (rested p) (Special w))) (own_special p w) ∙ rested_special (rested p) w

pub spot_invoked : (p : Spot) (w : List ℕ) → spot_step p (Invoked w) ≡ Stuck
spot_invoked p w = ap (λ (n : Next). first n (on_rested (rested p) (Invoked w))) (own_invoked p w) ∙ rested_invoked (rested p) w

behind_as_stuck : (g : Goal) (o : phrase.Outcome) (k : Token) → ((p : Spot) → spot_step p k ≡ Stuck) → behind_step g o k ≡ Stuck
behind_as_stuck g (phrase.Accept p r) k h = h (behind_phrase g p)
behind_as_stuck g (phrase.StuckAt n) k h = refl
behind_as_stuck g (phrase.DeepAt n) k h = refl
behind_as_stuck g phrase.TooLong k h = refl

pub refused_long : (w : List ℕ) (ks : List Token) → 31 < length w → refused (Word w ∷ ks) ≡ TooLong
refused_long w ks h = ap (λ (b : Bool). cond b (StuckAt (length (Word w ∷ ks))) TooLong) (le_false (length w) h)

pub refused_called : (w : List ℕ) (ks : List Token) → 31 < length w → refused (Called w ∷ ks) ≡ TooLong
refused_called w ks h = ap (λ (b : Bool). cond b (StuckAt (length (Called w ∷ ks))) TooLong) (le_false (length w) h)

pub refused_special : (w : List ℕ) (ks : List Token) → 31 < length w → refused (Special w ∷ ks) ≡ TooLong
refused_special w ks h = ap (λ (b : Bool). cond b (StuckAt (length (Special w ∷ ks))) TooLong) (le_false (length w) h)

pub refused_invoked : (w : List ℕ) (ks : List Token) → 31 < length w → refused (Invoked w ∷ ks) ≡ TooLong
refused_invoked w ks h = ap (λ (b : Bool). cond b (StuckAt (length (Invoked w ∷ ks))) TooLong) (le_false (length w) h)

-- a `$` word or a word over its limit leads nowhere
pub behind_long : (g : Goal) (o : phrase.Outcome) (k : Token) → OverLimit k → behind_step g o k ≡ Stuck
behind_long g o (Word w) h = behind_as_stuck g o (Word w) (λ p. spot_long p w h)
behind_long g o (Called w) h = behind_as_stuck g o (Called w) (λ p. spot_called p w h)
behind_long g o (Special w) h = behind_as_stuck g o (Special w) (λ p. spot_special p w)
behind_long g o (Invoked w) h = behind_as_stuck g o (Invoked w) (λ p. spot_invoked p w)
behind_long g o k h = absurd h

-- ---- phrases

-- the rest of a phrase, from these tokens on
pub phrase_leads : (g : Goal) (s t : phrase.State) (xs : List Token) → sofar t ≡ sofar s ++ map symbol xs → Leads (In g s) xs (In g t)
phrase_leads g s t xs e = λ rest l h. record {
  phrase = h.phrase;
  front = xs ++ h.front;
  rest = h.rest;
  kind_is = h.kind_is;
  suits = h.suits;
  cut = ap (λ (zs : List Token). xs ++ zs) h.cut ∙ sym (append_assoc xs h.front h.rest);
  spells = ap (λ (zs : List Symbol). sofar s ++ zs) (map-append symbol xs h.front) ∙ sym (append_assoc (sofar s) (map symbol xs) (map symbol h.front)) ∙
      ap (λ (zs : List Symbol). zs ++ map symbol h.front) (sym e) ∙ h.spells;
  formed = h.formed;
  follows = h.follows;
}

-- what was read of a good state
has_read : (m : Limits) (g : Goal) (s : phrase.State) → StateGood m (In g s) → HasRead (kind g) (inside m (level g)) s (sofar s)
has_read m g s h = record { good = h.1; read = refl }

-- what follows a phrase may follow its last state
pub whole_leads : (m : Limits) (g : Goal) (s : phrase.State) (p : phrase.Phrase) → 1 ≤ m.depth → StateGood m (In g s) →
    phrase.finish s [] ≡ phrase.Accept p [] → Leads (In g s) [] (At (behind_phrase g p)) × SpotGood m (behind_phrase g p)
whole_leads m g s p d h e =
    let a = accepts (kind g) (inside m (level g)) s [] p [] (sofar s) (has_read m g s h) e in (
      λ rest l f. record {
        phrase = p;
        front = [];
        rest = rest;
        kind_is = a.fits.kind;
        suits =
            begun_suits g p (sofar s) [] h.2 (append-nil (sofar s) ∙ sym a.spelled);
        cut = refl;
        spells = append-nil (sofar s) ∙ sym a.spelled;
        formed =
            a.fits.formed;
        follows = f;
      },
      behind_good m g p d h.0 a.fits,
    )

behind_as : (m : Limits) (g : Goal) (s : phrase.State) (k : Token) (p : phrase.Phrase) (n : Next) → 1 ≤ m.depth → phrase.finish s [] ≡ phrase.Accept p [] →
    (at : Limits → Next) → ((l : Limits) → IsMore m l → at l ≡ n) → NextLeads (behind_phrase g p) k n → (SpotGood m (behind_phrase g p) → NextGood m n) →
    Facts m (In g s) k at n
behind_as m g s k p (Go t) d e at f h i = (λ j. let w = whole_leads m g s p d j e in (λ rest l x. w.0 (k ∷ rest) l (h rest l x), i w.1), f)
behind_as m g s k p Stuck d e at f h i = f
behind_as m g s k p Deep d e at f h i = absurd h
behind_as m g s k p Long d e at f h i = absurd h

pub accept_nil : (s : phrase.State) (p : phrase.Phrase) (r : List Symbol) → phrase.finish s [] ≡ phrase.Accept p r → phrase.finish s [] ≡ phrase.Accept p []
accept_nil s p r e = (finish_again s [] p r e).again []

finished_as : (m : Limits) (g : Goal) (s : phrase.State) (k : Token) (o : phrase.Outcome) → 1 ≤ m.depth → phrase.finish s [] ≡ o → (at : Limits → Next) →
    ((l : Limits) → IsMore m l → at l ≡ behind_step g (phrase.finish s []) k) → Facts m (In g s) k at (behind_step g o k)
finished_as m g s k (phrase.Accept p r) d e at f =
    behind_as m g s k p (spot_step (behind_phrase g p) k) d (accept_nil s p r e) at (λ l i. f l i ∙
    ap (λ (x : phrase.Outcome). behind_step g x k) e) (spot_leads (behind_phrase g p) k) (λ h. spot_good m (behind_phrase g p) k h)
finished_as m g s k (phrase.StuckAt n) d e at f = λ l i. f l i ∙ ap (λ (x : phrase.Outcome). behind_step g x k) e
finished_as m g s k (phrase.DeepAt n) d e at f = λ l i. f l i ∙ ap (λ (x : phrase.Outcome). behind_step g x k) e
finished_as m g s k phrase.TooLong d e at f = λ l i. f l i ∙ ap (λ (x : phrase.Outcome). behind_step g x k) e

-- ---- a run inside a phrase is the phrase's run

want_closed : (l : Sentence) (condition : Option Expr) (k : Verb) (done : List Part) (w : Want) (p : phrase.Phrase) → wants (next_of w) ≡ None → entry (behind_want l condition k done w p) ≡ None
want_closed l condition k done (AnExpr lv next) (phrase.Whole e) h = ap (argument l condition k (done ++ _ ∷ [])) h
want_closed l condition k done (AVar lv next) (phrase.Target v) h = ap (argument l condition k (done ++ _ ∷ [])) h
want_closed l condition k done (ALocal next) (phrase.Target v) h = ap (argument l condition k (done ++ _ ∷ [])) h
want_closed l condition k done (AnExpr lv next) (phrase.Target v) h = refl
want_closed l condition k done (AVar lv next) (phrase.Whole e) h = refl
want_closed l condition k done (ALocal next) (phrase.Whole e) h = refl

closed_entry : (g : Goal) (p : phrase.Phrase) → IsClosed g → entry (behind_phrase g p) ≡ None
closed_entry (Condition l k) (phrase.Whole e) h = refl
closed_entry (Condition l k) (phrase.Target v) h = refl
closed_entry (Argument l condition k done w) p h = want_closed l condition k done w p h

first_stuck : (n : Next) → first n Stuck ≡ n
first_stuck (Go s) = refl
first_stuck Stuck = refl
first_stuck Deep = refl
first_stuck Long = refl

-- a step from a spot where no phrase begins
pub plain_step : (m : Limits) (p : Spot) (k : Token) → entry p ≡ None → step m (At p) k ≡ spot_step p k
plain_step m p k e = ap (λ (q : Option Goal). first (spot_step p k) (entering m q k)) e ∙ first_stuck (spot_step p k)

accept_stuck : (p : phrase.Phrase) (r : List Symbol) (n : ℕ) → phrase.Accept p r ≡ phrase.StuckAt n → ⊥
accept_stuck p r n e = cc

accept_here : (l : Limits) (i : Limits) (g : Goal) (s : phrase.State) (p : phrase.Phrase) (k : Token) (ks : List Token) (n : phrase.Next) →
    phrase.turn i (map symbol ks) s (symbol k) n ≡ phrase.Accept p (symbol k ∷ map symbol ks) →
    turn l ks k (phrase_step g s k n) ≡ turn l ks k (spot_step (behind_phrase g p) k)
accept_here l i g s p k ks (phrase.Go t) e = absurd (let h = accept_length i (map symbol ks) t p (symbol k ∷ map symbol ks) e in omega arith)
accept_here l i g s p k ks phrase.Stuck e = ap (λ (o : phrase.Outcome). turn l ks k (behind_step g o k)) ((finish_again s (symbol k ∷ map symbol ks) p (symbol k ∷ map symbol ks) e).again [])
accept_here l i g s p k ks phrase.Deep e = absurd (let f : phrase.DeepAt (length (symbol k ∷ map symbol ks)) ≡ phrase.Accept p (symbol k ∷ map symbol ks) = e in cc)
accept_here l i g s p k ks phrase.Long e = absurd (let f : phrase.TooLong ≡ phrase.Accept p (symbol k ∷ map symbol ks) = e in cc)

accept_on : (l : Limits) (i : Limits) (g : Goal) (s : phrase.State) (p : phrase.Phrase) (k : Token) (front rest : List Token) (n : phrase.Next) →
    ((t : phrase.State) → phrase.run i (map symbol (front ++ rest)) t ≡ phrase.Accept p (map symbol rest) →
    run l (front ++ rest) (In g t) ≡ run l rest (At (behind_phrase g p))) →
    phrase.turn i (map symbol (front ++ rest)) s (symbol k) n ≡ phrase.Accept p (map symbol rest) → turn l (front ++ rest) k (phrase_step g s k n) ≡ run l rest (At (behind_phrase g p))
accept_on l i g s p k front rest (phrase.Go t) h e = h t e
accept_on l i g s p k front rest phrase.Stuck h e =
    absurd (let f = ap (length {A = Symbol}) (finish_again s (symbol k ∷ map symbol (front ++ rest)) p (map symbol rest) e).rest in let a =
    length-map (front ++ rest) symbol in let b = length-map rest symbol in let c = length-append front rest in omega arith)
accept_on l i g s p k front rest phrase.Deep h e = absurd (let f : phrase.DeepAt (length (symbol k ∷ map symbol (front ++ rest))) ≡ phrase.Accept p (map symbol rest) = e in cc)
accept_on l i g s p k front rest phrase.Long h e = absurd (let f : phrase.TooLong ≡ phrase.Accept p (map symbol rest) = e in cc)

pub lift_accept : (l : Limits) (front rest : List Token) (g : Goal) (s : phrase.State) (p : phrase.Phrase) → IsClosed g →
    phrase.run (inside l (level g)) (map symbol (front ++ rest)) s ≡ phrase.Accept p (map symbol rest) →
    run l (front ++ rest) (In g s) ≡ run l rest (At (behind_phrase g p))
lift_accept l [] [] g s p c e = ap (ended_behind g) e
lift_accept l [] (k ∷ ks) g s p c e = accept_here l (inside l (level g)) g s p k ks (phrase.step (inside l (level g)) s (symbol k)) e ∙
    sym (ap (turn l ks k) (plain_step l (behind_phrase g p) k (closed_entry g p c)))
lift_accept l (k ∷ front) rest g s p c e = accept_on l (inside l (level g)) g s p k front rest (phrase.step (inside l (level g)) s (symbol k)) (λ t f. lift_accept l front rest g t p c f) e

-- where the phrase accepts nothing, nothing is behind it
behind_none : (g : Goal) (s : phrase.State) (k : Token) (ks : List Symbol) (n : ℕ) (o : phrase.Outcome) → phrase.finish s [] ≡ o → phrase.finish s ks ≡ phrase.StuckAt n → behind_step g o k ≡ Stuck
behind_none g s k ks n (phrase.Accept p r) e f = absurd (accept_stuck p ks n (sym ((finish_again s [] p r e).again ks) ∙ f))
behind_none g s k ks n (phrase.StuckAt i) e f = refl
behind_none g s k ks n (phrase.DeepAt i) e f = refl
behind_none g s k ks n phrase.TooLong e f = refl

refused_word : (s : phrase.State) (k : Symbol) (ks : List Token) (i n : ℕ) (b : Bool) → phrase.finish s (cond b k Overlong ∷ map symbol ks) ≡ phrase.StuckAt n →
    i ≡ n → cond b (StuckAt i) TooLong ≡ StuckAt n
refused_word s k ks i n true e h = ap StuckAt h
refused_word s k ks i n false e h = absurd (overlong_finish s (map symbol ks) n e)

refused_at : (s : phrase.State) (k : Token) (ks : List Token) (n : ℕ) → phrase.finish s (symbol k ∷ map symbol ks) ≡ phrase.StuckAt n → length (k ∷ ks) ≡ n → refused (k ∷ ks) ≡ StuckAt n
refused_at s (Word w) ks n e h = refused_word s (Name w) ks (length (Word w ∷ ks)) n (nat_le (length w) 31) e h
refused_at s (Called w) ks n e h = refused_word s (function_symbol (callee_of w)) ks (length (Called w ∷ ks)) n (nat_le (length w) 31) e h
refused_at s (Special w) ks n e h = refused_word s (special_symbol (special_of w)) ks (length (Special w ∷ ks)) n (nat_le (length w) 31) e h
refused_at s (Invoked w) ks n e h = refused_word s (Entry (Some w)) ks (length (Invoked w ∷ ks)) n (nat_le (length w) 31) e h
refused_at s (Numbered d) ks n e h = ap StuckAt h
refused_at s Dollars ks n e h = ap StuckAt h
refused_at s (Digits d) ks n e h = ap StuckAt h
refused_at s (Quoted q) ks n e h = ap StuckAt h
refused_at s (Signed z) ks n e h = ap StuckAt h
refused_at s Blank ks n e h = ap StuckAt h
refused_at s (Comment t) ks n e h = ap StuckAt h
refused_at s (Unclosed t) ks n e h = ap StuckAt h
refused_at s (Stray b) ks n e h = ap StuckAt h

stuck_on : (l : Limits) (i : Limits) (g : Goal) (s : phrase.State) (k : Token) (ks : List Token) (j : ℕ) (n : phrase.Next) →
    ((t : phrase.State) → phrase.run i (map symbol ks) t ≡ phrase.StuckAt j → run l ks (In g t) ≡ StuckAt j) →
    phrase.turn i (map symbol ks) s (symbol k) n ≡ phrase.StuckAt j → turn l ks k (phrase_step g s k n) ≡ StuckAt j
stuck_on l i g s k ks j (phrase.Go t) h e = h t e
stuck_on l i g s k ks j phrase.Stuck h e =
    ap (turn l ks k) (behind_none g s k (symbol k ∷ map symbol ks) j (phrase.finish s []) refl e)
    ∙ refused_at s k ks j e (let a = finish_stuck s (symbol k ∷ map symbol ks) j e in let b = length-map ks symbol in omega arith)
stuck_on l i g s k ks j phrase.Deep h e = absurd (let f : phrase.DeepAt (length (symbol k ∷ map symbol ks)) ≡ phrase.StuckAt j = e in cc)
stuck_on l i g s k ks j phrase.Long h e = absurd (let f : phrase.TooLong ≡ phrase.StuckAt j = e in cc)

pub lift_stuck : (l : Limits) (ks : List Token) (g : Goal) (s : phrase.State) (n : ℕ) → phrase.run (inside l (level g)) (map symbol ks) s ≡ phrase.StuckAt n → run l ks (In g s) ≡ StuckAt n
lift_stuck l [] g s n e = ap (ended_behind g) e ∙ ap StuckAt (finish_stuck s [] n e)
lift_stuck l (k ∷ ks) g s n e = stuck_on l (inside l (level g)) g s k ks n (phrase.step (inside l (level g)) s (symbol k)) (λ t f. lift_stuck l ks g t n f) e

deep_on : (l : Limits) (i : Limits) (g : Goal) (s : phrase.State) (k : Token) (ks : List Token) (j : ℕ) (n : phrase.Next) →
    ((t : phrase.State) → phrase.run i (map symbol ks) t ≡ phrase.DeepAt j → run l ks (In g t) ≡ DeepAt j) →
    phrase.turn i (map symbol ks) s (symbol k) n ≡ phrase.DeepAt j → turn l ks k (phrase_step g s k n) ≡ DeepAt j
deep_on l i g s k ks j (phrase.Go t) h e = h t e
deep_on l i g s k ks j phrase.Stuck h e = absurd (finish_deep s (symbol k ∷ map symbol ks) j e)
deep_on l i g s k ks j phrase.Deep h e = ap DeepAt (let f : phrase.DeepAt (length (symbol k ∷ map symbol ks)) ≡ phrase.DeepAt j = e in
    let n : length (symbol k ∷ map symbol ks) ≡ j = cc in let b = length-map ks symbol in omega arith)
deep_on l i g s k ks j phrase.Long h e = absurd (let f : phrase.TooLong ≡ phrase.DeepAt j = e in cc)

pub lift_deep : (l : Limits) (ks : List Token) (g : Goal) (s : phrase.State) (n : ℕ) → phrase.run (inside l (level g)) (map symbol ks) s ≡ phrase.DeepAt n → run l ks (In g s) ≡ DeepAt n
lift_deep l [] g s n e = absurd (finish_deep s [] n e)
lift_deep l (k ∷ ks) g s n e = deep_on l (inside l (level g)) g s k ks n (phrase.step (inside l (level g)) s (symbol k)) (λ t f. lift_deep l ks g t n f) e

cons_same : (x y : Symbol) (xs ys : List Symbol) → x ∷ xs ≡ y ∷ ys → x ≡ y
cons_same x y xs ys e = cc

long_stuck : (l : Limits) (g : Goal) (o : phrase.Outcome) (k : Token) (ks : List Token) → OverLimit k → turn l ks k (behind_step g o k) ≡ TooLong
long_stuck l g o (Word w) ks h = ap (turn l ks (Word w)) (behind_long g o (Word w) h) ∙ refused_long w ks h
long_stuck l g o (Called w) ks h = ap (turn l ks (Called w)) (behind_long g o (Called w) h) ∙ refused_called w ks h
long_stuck l g o (Special w) ks h = ap (turn l ks (Special w)) (behind_long g o (Special w) h) ∙ refused_special w ks h
long_stuck l g o (Invoked w) ks h = ap (turn l ks (Invoked w)) (behind_long g o (Invoked w) h) ∙ refused_invoked w ks h
long_stuck l g o k ks h = absurd h

long_on : (l : Limits) (i : Limits) (g : Goal) (s : phrase.State) (k : Token) (ks : List Token) (n : phrase.Next) →
    ((t : phrase.State) → phrase.run i (map symbol ks) t ≡ phrase.TooLong → run l ks (In g t) ≡ TooLong) →
    phrase.turn i (map symbol ks) s (symbol k) n ≡ phrase.TooLong → turn l ks k (phrase_step g s k n) ≡ TooLong
long_on l i g s k ks (phrase.Go t) h e = h t e
long_on l i g s k ks phrase.Stuck h e =
    let f = finish_long s (symbol k ∷ map symbol ks) e in
    long_stuck l g (phrase.finish s []) k ks (overlong_word k (cons_same (symbol k) Overlong (map symbol ks) f.0 f.1))
long_on l i g s k ks phrase.Deep h e = absurd (let f : phrase.DeepAt (length (symbol k ∷ map symbol ks)) ≡ phrase.TooLong = e in cc)
long_on l i g s k ks phrase.Long h e = refl

nil_cons : (x : Symbol) (xs : List Symbol) → [] ≡ x ∷ xs → ⊥
nil_cons x xs e = cc

pub lift_long : (l : Limits) (ks : List Token) (g : Goal) (s : phrase.State) → phrase.run (inside l (level g)) (map symbol ks) s ≡ phrase.TooLong → run l ks (In g s) ≡ TooLong
lift_long l [] g s e = absurd (let f = finish_long s [] e in nil_cons Overlong f.0 f.1)
lift_long l (k ∷ ks) g s e = long_on l (inside l (level g)) g s k ks (phrase.step (inside l (level g)) s (symbol k)) (λ t f. lift_long l ks g t f) e

-- ---- steps inside phrases

-- a level more outside is one more inside
pub inside_deeper : (m : Limits) (k : Symbol) (lv : ℕ) → lv ≤ 1 → 1 ≤ m.depth → deeper k (inside m lv) ≡ inside (deeper k m) lv
inside_deeper m k lv i d = ap (λ (n : ℕ). let l : Limits = record { depth = n; width = m.width } in l) (let e : (m.depth - lv) + levels_of k ≡ (m.depth + levels_of k) - lv = omega arith in e)

-- what was read on begins as what was read
begun_on : (g : Goal) (s t : phrase.State) (xs : List Symbol) → sofar t ≡ sofar s ++ xs → Begun g (sofar s) → Begun g (sofar t)
begun_on g s t xs e h = let P : List Symbol → Type 0 = λ ks. Begun g ks in subst P (sym e) (begun_more g (sofar s) xs h)

in_as : (m : Limits) (g : Goal) (s : phrase.State) (k : Token) (n : phrase.Next) → 1 ≤ m.depth →
    known.Facts (kind g) (inside m (level g)) (HasRead (kind g) (inside m (level g)) s)
    (known.LongFacts (kind g) (inside m (level g)) (HasRead (kind g) (inside m (level g)) s) s (symbol k)) (λ l. phrase.step l s (symbol k)) (symbol k) n →
    Facts m (In g s) k (λ l. in_step l g s k) (phrase_step g s k n)
in_as m g s k (phrase.Go t) d f = (
  λ i. let r = f.0 (sofar s) (has_read m g s i) in (phrase_leads g s t (k ∷ []) r.read, (i.0, r.good, begun_on g s t (symbol k ∷ []) r.read i.2)),
  λ l i. ap (phrase_step g s k) (f.1 (inside l (level g)) (inside_more m l (level g) i)),
)
in_as m g s k phrase.Stuck d f = finished_as m g s k (phrase.finish s []) d refl (λ l. in_step l g s k) (λ l i. ap (phrase_step g s k) (f (inside l (level g)) (inside_more m l (level g) i)))
in_as m g s k phrase.Deep d f = λ i.
    let r = f.1 (sofar s) (has_read m g s i) in
    let P : Limits → Type 0 = λ l. IsGood (kind g) l f.0 in (
      In g f.0,
      phrase_leads g s f.0 (k ∷ []) r.read,
      (
        goal_more m (deeper (symbol k) m) g (more_deeper (symbol k) m) i.0,
        subst P (inside_deeper m (symbol k) (level g) (level_small m g i.0) d) r.good,
        begun_on g s f.0 (symbol k ∷ []) r.read i.2,
      ),
    )
in_as m g s k phrase.Long d f = record {
  comma = comma_token k f.comma;
  filler = f.filler;
  fills = f.fills;
  opened = λ i. let r = f.opened (sofar s) (has_read m g s i) in (
    In g f.over,
    phrase_leads g s f.over (f.filler ++ k ∷ []) (r.read ∙
        ap (λ (zs : List Symbol). sofar s ++ zs) (sym (map-append symbol f.filler (k ∷ [])))),
    (goal_more m (wider m) g (more_wider m) i.0, r.good, begun_on g s f.over (map symbol f.filler ++ symbol k ∷ []) r.read i.2),
  );
  local = λ l ks e w. lift_long l (f.filler ++ k ∷ ks) g s (ap (λ (zs : List Symbol). phrase.run (inside l (level g)) zs s)
      (map-append symbol f.filler (k ∷ ks)) ∙ f.local (inside l (level g)) (map symbol ks) (omega arith) w);
}

pub in_facts : (m : Limits) (g : Goal) (s : phrase.State) (k : Token) → HasRoom m → Facts m (In g s) k (λ l. in_step l g s k) (in_step m g s k)
in_facts m g s k w = in_as m g s k (phrase.step (inside m (level g)) s (symbol k)) w.depth (step_facts (kind g) (inside m (level g)) s (symbol k) w.width)
