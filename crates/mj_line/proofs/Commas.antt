-- What is known at any state of commas, constants, names and levels.
use Rattle.std.proofs.Common.{◌≡◌, ℕ, ◌-◌, ◌<◌, ◌==◌, nat_le, List, [], ◌∷◌, ◌++◌, length, refl, ap, ◌∙◌, subst, Bool, true, false, arith, Option, Some, None}
use Rattle.std.specs.Prelude.{cond}
use Rattle.std.proofs.lemmas.Bool.Decides.{nat_tests}
use Rattle.mj_ast.specs.declared.sign.Sign.TheVariants.{Caret, Colon, Comma, Open, Close, Dot}
use Rattle.mj_ast.specs.declared.keyword.Verb.{Verb}
use Rattle.mj_ast.specs.Syntax.{Expr}
use Rattle.mj_ast.specs.Tokens.{Token, Word, Called, Special, Invoked, Numbered, Dollars, Digits, Quoted, Signed, Blank, Comment, Unclosed, Stray}
use Rattle.mj_ast.specs.Expressions.{Symbol, Overlong, symbol, name_limit}
use Rattle.mj_ast.specs.Expressions as grammar
use Rattle.mj_ast.specs.Commands.{Part, verb_of, bare_of, is_conditional}
use Rattle.mj_expr.specs.Machine.{Limits}
use Rattle.mj_expr.specs.Machine as phrase
use Rattle.mj_expr.proofs.Turns.{IsReached, step_reached, NextReached, IsPlain, plain_easy, IsEasy, overlong_stuck}
use Rattle.mj_expr.proofs.Commas.{CommaAfter, comma_after, CommaBehind, comma_behind, caret_easy, comma_level, IsNoLevel, step_deep, DeepBy}
use Rattle.mj_expr.proofs.Said.{Over as OverLimit}
use Rattle.mj_line.specs.Forms.{Node, Want, AnExpr, AVar, ALocal, part_at, sort_of, takes, first_node}
use Rattle.mj_line.specs.Sentences.{Sentence}
use Rattle.mj_line.specs.Machine.{Rest, Spot, Begin, Over, Worded, Asked, Bare, Args, Goal, Condition, Argument, State, At, In, start, wanted, may_begin, level, inside, behind_phrase, entry, rested, Next, Go, Stuck, Deep, Long, opened, moved, taken, own, begins, on_rested, first, spot_step, behind_step, phrase_step, in_step, entering, step, Labelled, FormalsOpened, FormalWanted, FormalBehind, FormalsEnd, Indented, is_new}
use Rattle.mj_line.proofs.SpotLeaves.{NextLeads, spot_leads}
use Rattle.mj_line.proofs.Facts.{spot_long, spot_called, spot_special, spot_invoked, behind_long}
use Rattle.mj_line.proofs.SpotFacts.{start_long}

-- ---- a spot neither opens a level nor has too long a list

abbrev pub IsSimple : Next → Type 0
IsSimple (Go s) = Unit {0}
IsSimple Stuck = Unit {0}
IsSimple Deep = ⊥
IsSimple Long = ⊥

leads_simple : (p : Spot) (k : Token) (n : Next) → NextLeads p k n → IsSimple n
leads_simple p k (Go s) h = tt
leads_simple p k Stuck h = tt
leads_simple p k Deep h = h
leads_simple p k Long h = h

spot_simple : (p : Spot) (k : Token) → IsSimple (spot_step p k)
spot_simple p k = leads_simple p k (spot_step p k) (spot_leads p k)

behind_simple : (g : Goal) (o : phrase.Outcome) (k : Token) → IsSimple (behind_step g o k)
behind_simple g (phrase.Accept p r) k = spot_simple (behind_phrase g p) k
behind_simple g (phrase.StuckAt n) k = tt
behind_simple g (phrase.DeepAt n) k = tt
behind_simple g phrase.TooLong k = tt

simple_deep : (n : Next) → IsSimple n → n ≡ Deep → ⊥
simple_deep n h e = subst IsSimple e h

simple_long : (n : Next) → IsSimple n → n ≡ Long → ⊥
simple_long n h e = subst IsSimple e h

-- ---- a level too many

deep_as : (m l : Limits) (g : Goal) (s : phrase.State) (k : Token) (n : phrase.Next) → l.depth ≡ m.depth →
    DeepBy (λ i. phrase.step i s (symbol k)) (inside m (level g)) n → phrase_step g s k n ≡ Deep → in_step l g s k ≡ Deep
deep_as m l g s k (phrase.Go t) i h e = absurd (let f : Go (In g t) ≡ Deep = e in cc)
deep_as m l g s k phrase.Stuck i h e = absurd (simple_deep (behind_step g (phrase.finish s []) k) (behind_simple g (phrase.finish s []) k) e)
deep_as m l g s k phrase.Deep i h e = ap (phrase_step g s k) (h (inside l (level g)) (ap (λ (d : ℕ). d - level g) i))
deep_as m l g s k phrase.Long i h e = absurd (let f : Long ≡ Deep = e in cc)

in_deep : (m l : Limits) (g : Goal) (s : phrase.State) (k : Token) → l.depth ≡ m.depth → in_step m g s k ≡ Deep → in_step l g s k ≡ Deep
in_deep m l g s k i e = deep_as m l g s k (phrase.step (inside m (level g)) s (symbol k)) i (step_deep (inside m (level g)) s (symbol k)) e

begin_deep : (m l : Limits) (g : Goal) (k : Token) (b : Bool) → l.depth ≡ m.depth → cond b (in_step m g (start g) k) Stuck ≡ Deep → cond b (in_step l g (start g) k) Stuck ≡ Deep
begin_deep m l g k true i e = in_deep m l g (start g) k i e
begin_deep m l g k false i e = absurd (let f : Stuck ≡ Deep = e in cc)

entering_deep : (m l : Limits) (q : Option Goal) (k : Token) → l.depth ≡ m.depth → entering m q k ≡ Deep → entering l q k ≡ Deep
entering_deep m l (Some g) k i e = begin_deep m l g k (may_begin g (symbol k)) i e
entering_deep m l None k i e = absurd (let f : Stuck ≡ Deep = e in cc)

spot_deep : (m l : Limits) (q : Option Goal) (k : Token) (n : Next) → IsSimple n → l.depth ≡ m.depth → first n (entering m q k) ≡ Deep → first n (entering l q k) ≡ Deep
spot_deep m l q k (Go t) h i e = absurd (let f : Go t ≡ Deep = e in cc)
spot_deep m l q k Stuck h i e = entering_deep m l q k i e
spot_deep m l q k Deep h i e = absurd h
spot_deep m l q k Long h i e = absurd h

-- it is one however long the lists may be
pub deep_stays : (m l : Limits) (s : State) (k : Token) → l.depth ≡ m.depth → step m s k ≡ Deep → step l s k ≡ Deep
deep_stays m l (At p) k i e = spot_deep m l (entry p) k (spot_step p k) (spot_simple p k) i e
deep_stays m l (In g s) k i e = in_deep m l g s k i e

-- ---- words that are too long

long_symbol : (w : List ℕ) (k : Symbol) → 31 < length w → cond (nat_le (length w) 31) k Overlong ≡ Overlong
long_symbol w k h = ap (λ (b : Bool). cond b k Overlong) (let e : nat_le (length w) 31 ≡ false = grind (arith, nat_tests) in e)

over_symbol : (k : Token) → OverLimit k → symbol k ≡ Overlong
over_symbol (Word w) h = long_symbol w (grammar.Name w) h
over_symbol (Called w) h = long_symbol w (grammar.function_symbol (grammar.callee_of w)) h
over_symbol (Special w) h = long_symbol w (grammar.special_symbol (grammar.special_of w)) h
over_symbol (Invoked w) h = long_symbol w (grammar.Entry (Some w)) h
over_symbol k h = absurd h

over_spot : (p : Spot) (k : Token) → OverLimit k → spot_step p k ≡ Stuck
over_spot p (Word w) h = spot_long p w h
over_spot p (Called w) h = spot_called p w h
over_spot p (Special w) h = spot_special p w
over_spot p (Invoked w) h = spot_invoked p w
over_spot p k h = absurd h

in_over : (m : Limits) (g : Goal) (s : phrase.State) (k : Token) → OverLimit k → in_step m g s k ≡ Stuck
in_over m g s k h =
    ap (λ (x : Symbol). phrase_step g s k (phrase.step (inside m (level g)) s x)) (over_symbol k h)
    ∙ ap (phrase_step g s k) (overlong_stuck (inside m (level g)) s)
    ∙ behind_long g (phrase.finish s []) k h

begin_over : (n : Next) (b : Bool) → n ≡ Stuck → cond b n Stuck ≡ Stuck
begin_over n true e = e
begin_over n false e = refl

entering_over : (m : Limits) (q : Option Goal) (k : Token) → OverLimit k → entering m q k ≡ Stuck
entering_over m (Some g) k h = begin_over (in_step m g (start g) k) (may_begin g (symbol k)) (in_over m g (start g) k h)
entering_over m None k h = refl

-- no line goes on with one
pub over_stuck : (m : Limits) (s : State) (k : Token) → OverLimit k → step m s k ≡ Stuck
over_stuck m (At p) k h = ap (λ (n : Next). first n (entering m (entry p) k)) (over_spot p k h) ∙ entering_over m (entry p) k h
over_stuck m (In g s) k h = in_over m g s k h

-- ---- spots lead to spots

abbrev ToSpot : Next → Type 0
ToSpot (Go (At p)) = Unit {0}
ToSpot (Go (In g s)) = ⊥
ToSpot n = Unit {0}

choice_spot : (p : Spot) (b : Bool) → ToSpot (cond b (Go (At p)) Stuck)
choice_spot p true = tt
choice_spot p false = tt

opened_spot : (l : Sentence) (condition : Option Expr) (k : Verb) (q : Option Node) → ToSpot (opened l condition k q)
opened_spot l condition k (Some n) = tt
opened_spot l condition k None = tt

moved_spot : (l : Sentence) (condition : Option Expr) (k : Verb) (done : List Part) (q : Option Node) → ToSpot (moved l condition k done q)
moved_spot l condition k done (Some n) = tt
moved_spot l condition k done None = tt

taken_spot : (l : Sentence) (condition : Option Expr) (k : Verb) (done : List Part) (n : Node) (q : Option Part) → ToSpot (taken l condition k done n q)
taken_spot l condition k done n (Some p) = moved_spot l condition k (done ++ p ∷ []) (takes n p)
taken_spot l condition k done n None = tt

own_spot : (p : Spot) (k : Token) → ToSpot (own p k)
own_spot Begin (Word w) = choice_spot (Labelled w) (nat_le (length w) name_limit)
own_spot Begin (Digits d) = tt
own_spot Begin Blank = tt
own_spot (Labelled label) (Signed Open) = tt
own_spot (Labelled label) Blank = tt
own_spot (FormalsOpened label) (Word w) = choice_spot (FormalBehind label (w ∷ [])) (is_new [] w)
own_spot (FormalsOpened label) (Signed Close) = tt
own_spot (FormalWanted label names) (Word w) = choice_spot (FormalBehind label (names ++ w ∷ [])) (is_new names w)
own_spot (FormalBehind label names) (Signed Comma) = tt
own_spot (FormalBehind label names) (Signed Close) = tt
own_spot (FormalsEnd label names) Blank = tt
own_spot (Indented l) Blank = tt
own_spot (Indented l) (Signed Dot) = tt
own_spot (Worded l k) (Signed Colon) = choice_spot (Asked l k) (is_conditional (bare_of k))
own_spot (Worded l k) Blank = opened_spot l None k (first_node k)
own_spot (Bare l condition k) Blank = opened_spot l condition k (first_node k)
own_spot (Args l condition k done n) t = taken_spot l condition k done n (part_at (sort_of n) t)
own_spot p k = tt

begins_spot : (o : Sentence) (q : Option Verb) → ToSpot (begins o q)
begins_spot o (Some k) = tt
begins_spot o None = tt

word_spot : (o : Sentence) (q : Option Verb) (b : Bool) → ToSpot (cond b (begins o q) Stuck)
word_spot o q true = begins_spot o q
word_spot o q false = tt

on_spot : (q : Option Rest) (k : Token) → ToSpot (on_rested q k)
on_spot (Some r) Blank = tt
on_spot (Some r) (Comment text) = choice_spot (Over r.line) (r.comment == 0)
on_spot (Some r) (Word w) = word_spot r.line (verb_of w) (r.gap == 0)
on_spot (Some r) k = tt
on_spot None k = tt

first_spot : (n o : Next) → ToSpot n → ToSpot o → ToSpot (first n o)
first_spot (Go (At p)) o h i = tt
first_spot (Go (In g s)) o h i = h
first_spot Stuck o h i = i
first_spot Deep o h i = tt
first_spot Long o h i = tt

spot_spot : (p : Spot) (k : Token) → ToSpot (spot_step p k)
spot_spot p k = first_spot (own p k) (on_rested (rested p) k) (own_spot p k) (on_spot (rested p) k)

behind_spot : (g : Goal) (o : phrase.Outcome) (k : Token) → ToSpot (behind_step g o k)
behind_spot g (phrase.Accept p r) k = spot_spot (behind_phrase g p) k
behind_spot g (phrase.StuckAt n) k = tt
behind_spot g (phrase.DeepAt n) k = tt
behind_spot g phrase.TooLong k = tt

-- ---- states that are reached

abbrev pub StateReached : State → Type 0
StateReached (At p) = Unit {0}
StateReached (In g s) = IsReached s

abbrev pub GoReached : Next → Type 0
GoReached (Go s) = StateReached s
GoReached n = Unit {0}

spot_reached : (n : Next) → ToSpot n → GoReached n
spot_reached (Go (At p)) h = tt
spot_reached (Go (In g s)) h = absurd h
spot_reached Stuck h = tt
spot_reached Deep h = tt
spot_reached Long h = tt

phrase_reached : (g : Goal) (s : phrase.State) (k : Token) (n : phrase.Next) → NextReached n → GoReached (phrase_step g s k n)
phrase_reached g s k (phrase.Go t) h = h
phrase_reached g s k phrase.Stuck h = spot_reached (behind_step g (phrase.finish s []) k) (behind_spot g (phrase.finish s []) k)
phrase_reached g s k phrase.Deep h = tt
phrase_reached g s k phrase.Long h = tt

in_reached : (m : Limits) (g : Goal) (s : phrase.State) (k : Token) → GoReached (in_step m g s k)
in_reached m g s k = phrase_reached g s k (phrase.step (inside m (level g)) s (symbol k)) (step_reached (inside m (level g)) s (symbol k))

begin_reached : (n : Next) (b : Bool) → GoReached n → GoReached (cond b n Stuck)
begin_reached n true h = h
begin_reached n false h = tt

entering_reached : (m : Limits) (q : Option Goal) (k : Token) → GoReached (entering m q k)
entering_reached m (Some g) k = begin_reached (in_step m g (start g) k) (may_begin g (symbol k)) (in_reached m g (start g) k)
entering_reached m None k = tt

first_reached : (n o : Next) → GoReached n → GoReached o → GoReached (first n o)
first_reached (Go s) o h i = h
first_reached Stuck o h i = i
first_reached Deep o h i = tt
first_reached Long o h i = tt

pub state_reached : (m : Limits) (s : State) (k : Token) → GoReached (step m s k)
state_reached m (At p) k = first_reached (spot_step p k) (entering m (entry p) k) (spot_reached (spot_step p k) (spot_spot p k)) (entering_reached m (entry p) k)
state_reached m (In g s) k = in_reached m g s k

-- ---- commas

-- a word or digits
abbrev pub IsToken : Token → Type 0
IsToken (Word w) = IsPlain (symbol (Word w))
IsToken (Digits d) = IsPlain (symbol (Digits d))
IsToken k = ⊥

plain_token : (k : Token) → IsToken k → IsPlain (symbol k)
plain_token (Word w) h = h
plain_token (Digits d) h = h
plain_token (Quoted q) h = absurd h
plain_token (Signed s) h = absurd h
plain_token Blank h = absurd h
plain_token (Comment t) h = absurd h
plain_token (Unclosed t) h = absurd h
plain_token (Called w) h = absurd h
plain_token (Special w) h = absurd h
plain_token (Invoked w) h = absurd h
plain_token (Numbered d) h = absurd h
plain_token Dollars h = absurd h
plain_token (Stray b) h = absurd h

-- only the phrase has too long a list
long_phrase : (g : Goal) (s : phrase.State) (k : Token) (n : phrase.Next) → phrase_step g s k n ≡ Long → n ≡ phrase.Long
long_phrase g s k (phrase.Go t) e = absurd (let f : Go (In g t) ≡ Long = e in cc)
long_phrase g s k phrase.Stuck e = absurd (simple_long (behind_step g (phrase.finish s []) k) (behind_simple g (phrase.finish s []) k) e)
long_phrase g s k phrase.Deep e = absurd (let f : Deep ≡ Long = e in cc)
long_phrase g s k phrase.Long e = refl

begin_long : (m : Limits) (g : Goal) (k : Token) (b : Bool) → cond b (in_step m g (start g) k) Stuck ≡ Long → ⊥
begin_long m g k true e = start_long (inside m (level g)) g (symbol k) (long_phrase g (start g) k (phrase.step (inside m (level g)) (start g) (symbol k)) e)
begin_long m g k false e = let f : Stuck ≡ Long = e in cc

entering_long : (m : Limits) (q : Option Goal) (k : Token) → entering m q k ≡ Long → ⊥
entering_long m (Some g) k e = begin_long m g k (may_begin g (symbol k)) e
entering_long m None k e = let f : Stuck ≡ Long = e in cc

first_long : (n o : Next) → IsSimple n → (o ≡ Long → ⊥) → first n o ≡ Long → ⊥
first_long (Go s) o h i e = absurd (let f : Go s ≡ Long = e in cc)
first_long Stuck o h i e = i e
first_long Deep o h i e = h
first_long Long o h i e = h

-- no spot has too long a list
pub spot_never : (m : Limits) (p : Spot) (k : Token) → step m (At p) k ≡ Long → ⊥
spot_never m p k e = first_long (spot_step p k) (entering m (entry p) k) (spot_simple p k) (entering_long m (entry p) k) e

-- Where a comma behind one word or number is one too many, a comma here is too.
abbrev pub LineComma : Limits → State → Next → Type 0
LineComma m s (Go t) = step m t (Signed Comma) ≡ Long → step m s (Signed Comma) ≡ Long
LineComma m s n = Unit {0}

to_spot : (m : Limits) (s : State) (n : Next) → ToSpot n → LineComma m s n
to_spot m s (Go (At p)) h = λ e. absurd (spot_never m p (Signed Comma) e)
to_spot m s (Go (In g t)) h = absurd h
to_spot m s Stuck h = tt
to_spot m s Deep h = tt
to_spot m s Long h = tt

-- the comma at s, the step at o, which is s or comes behind it
phrase_comma : (m : Limits) (t : State) (g : Goal) (s o : phrase.State) (k : Token) (n : phrase.Next) →
    (in_step m g s (Signed Comma) ≡ Long → step m t (Signed Comma) ≡ Long) → CommaAfter (inside m (level g)) s n → LineComma m t (phrase_step g o k n)
phrase_comma m t g s o k (phrase.Go u) h c = λ e. h (ap (phrase_step g s (Signed Comma)) (c (long_phrase g u (Signed Comma) (phrase.step (inside m (level g)) u (grammar.Mark Comma)) e)))
phrase_comma m t g s o k phrase.Stuck h c = to_spot m t (behind_step g (phrase.finish o []) k) (behind_spot g (phrase.finish o []) k)
phrase_comma m t g s o k phrase.Deep h c = tt
phrase_comma m t g s o k phrase.Long h c = tt

in_comma : (m : Limits) (t : State) (g : Goal) (s : phrase.State) (k : Token) → IsReached s → IsToken k →
    (in_step m g s (Signed Comma) ≡ Long → step m t (Signed Comma) ≡ Long) → LineComma m t (in_step m g s k)
in_comma m t g s k r i h = phrase_comma m t g s s k (phrase.step (inside m (level g)) s (symbol k)) h (comma_after (inside m (level g)) s (symbol k) r (plain_token k i))

want_reached : (w : Want) → IsReached (wanted w)
want_reached (AnExpr lv next) = tt
want_reached (AVar lv next) = tt
want_reached (ALocal next) = tt

start_reached : (g : Goal) → IsReached (start g)
start_reached (Condition l k) = tt
start_reached (Argument l condition k done w) = want_reached w

begin_comma : (m : Limits) (t : State) (n : Next) (b : Bool) → LineComma m t n → LineComma m t (cond b n Stuck)
begin_comma m t n true h = h
begin_comma m t n false h = tt

entering_comma : (m : Limits) (t : State) (q : Option Goal) (k : Token) → IsToken k → LineComma m t (entering m q k)
entering_comma m t (Some g) k i =
    begin_comma m t (in_step m g (start g) k) (may_begin g (symbol k))
    (in_comma m t g (start g) k (start_reached g) i (λ e. absurd (start_long (inside m (level g)) g (symbol (Signed Comma))
    (long_phrase g (start g) (Signed Comma) (phrase.step (inside m (level g)) (start g) (symbol (Signed Comma))) e))))
entering_comma m t None k i = tt

first_comma : (m : Limits) (t : State) (n o : Next) → LineComma m t n → LineComma m t o → LineComma m t (first n o)
first_comma m t (Go s) o h i = h
first_comma m t Stuck o h i = i
first_comma m t Deep o h i = tt
first_comma m t Long o h i = tt

-- at a spot, none is one too many
at_comma : (m : Limits) (t : State) (p : Spot) (k : Token) → IsToken k → LineComma m t (step m (At p) k)
at_comma m t p k h = first_comma m t (spot_step p k) (entering m (entry p) k) (to_spot m t (spot_step p k) (spot_spot p k)) (entering_comma m t (entry p) k h)

pub line_comma : (m : Limits) (s : State) (k : Token) → StateReached s → IsToken k → LineComma m s (step m s k)
line_comma m (At p) k r h = at_comma m (At p) p k h
line_comma m (In g s) k r h = in_comma m (In g s) g s k r h (λ e. e)

-- a word or digits go on, or nothing does
phrase_easy : (g : Goal) (s : phrase.State) (k : Token) (n : phrase.Next) → IsEasy n → IsSimple (phrase_step g s k n)
phrase_easy g s k (phrase.Go t) h = tt
phrase_easy g s k phrase.Stuck h = behind_simple g (phrase.finish s []) k
phrase_easy g s k phrase.Deep h = h
phrase_easy g s k phrase.Long h = h

in_easy : (m : Limits) (g : Goal) (s : phrase.State) (k : Token) → IsToken k → IsSimple (in_step m g s k)
in_easy m g s k h = phrase_easy g s k (phrase.step (inside m (level g)) s (symbol k)) (plain_easy (inside m (level g)) s (symbol k) (plain_token k h))

begin_easy : (n : Next) (b : Bool) → IsSimple n → IsSimple (cond b n Stuck)
begin_easy n true h = h
begin_easy n false h = tt

entering_easy : (m : Limits) (q : Option Goal) (k : Token) → IsToken k → IsSimple (entering m q k)
entering_easy m (Some g) k h = begin_easy (in_step m g (start g) k) (may_begin g (symbol k)) (in_easy m g (start g) k h)
entering_easy m None k h = tt

first_simple : (n o : Next) → IsSimple n → IsSimple o → IsSimple (first n o)
first_simple (Go s) o h i = tt
first_simple Stuck o h i = i
first_simple Deep o h i = h
first_simple Long o h i = h

pub line_easy : (m : Limits) (s : State) (k : Token) → IsToken k → IsSimple (step m s k)
line_easy m (At p) k h = first_simple (spot_step p k) (entering m (entry p) k) (spot_simple p k) (entering_easy m (entry p) k h)
line_easy m (In g s) k h = in_easy m g s k h

-- Where a comma behind a `^` and a name is one too many, a comma here is too.
abbrev pub LineBehind : Limits → State → Next → Type 0
LineBehind m s (Go t) = LineComma m s (step m t (Word (65 ∷ [])))
LineBehind m s n = Unit {0}

spot_behind : (m : Limits) (t : State) (n : Next) → ToSpot n → LineBehind m t n
spot_behind m t (Go (At p)) h = at_comma m t p (Word (65 ∷ [])) tt
spot_behind m t (Go (In g s)) h = absurd h
spot_behind m t Stuck h = tt
spot_behind m t Deep h = tt
spot_behind m t Long h = tt

phrase_behind : (m : Limits) (t : State) (g : Goal) (s : phrase.State) (n : phrase.Next) →
    (in_step m g s (Signed Comma) ≡ Long → step m t (Signed Comma) ≡ Long) → CommaBehind (inside m (level g)) s (65 ∷ []) n → LineBehind m t (phrase_step g s (Signed Caret) n)
phrase_behind m t g s (phrase.Go u) h c = phrase_comma m t g s u (Word (65 ∷ [])) (phrase.step (inside m (level g)) u (grammar.Name (65 ∷ []))) h c
phrase_behind m t g s phrase.Stuck h c = spot_behind m t (behind_step g (phrase.finish s []) (Signed Caret)) (behind_spot g (phrase.finish s []) (Signed Caret))
phrase_behind m t g s phrase.Deep h c = tt
phrase_behind m t g s phrase.Long h c = tt

in_behind : (m : Limits) (t : State) (g : Goal) (s : phrase.State) → IsReached s → (in_step m g s (Signed Comma) ≡ Long → step m t (Signed Comma) ≡ Long) →
    LineBehind m t (in_step m g s (Signed Caret))
in_behind m t g s r h = phrase_behind m t g s (phrase.step (inside m (level g)) s (grammar.Mark Caret)) h (comma_behind (inside m (level g)) s (65 ∷ []) r)

begin_behind : (m : Limits) (t : State) (n : Next) (b : Bool) → LineBehind m t n → LineBehind m t (cond b n Stuck)
begin_behind m t n true h = h
begin_behind m t n false h = tt

entering_behind : (m : Limits) (t : State) (q : Option Goal) → LineBehind m t (entering m q (Signed Caret))
entering_behind m t (Some g) =
    begin_behind m t (in_step m g (start g) (Signed Caret)) (may_begin g (symbol (Signed Caret)))
    (in_behind m t g (start g) (start_reached g) (λ e. absurd (start_long (inside m (level g)) g (symbol (Signed Comma))
    (long_phrase g (start g) (Signed Comma) (phrase.step (inside m (level g)) (start g) (symbol (Signed Comma))) e))))
entering_behind m t None = tt

first_behind : (m : Limits) (t : State) (n o : Next) → LineBehind m t n → LineBehind m t o → LineBehind m t (first n o)
first_behind m t (Go s) o h i = h
first_behind m t Stuck o h i = i
first_behind m t Deep o h i = tt
first_behind m t Long o h i = tt

pub line_behind : (m : Limits) (s : State) → StateReached s → LineBehind m s (step m s (Signed Caret))
line_behind m (At p) r =
    first_behind m (At p) (spot_step p (Signed Caret)) (entering m (entry p) (Signed Caret))
    (spot_behind m (At p) (spot_step p (Signed Caret)) (spot_spot p (Signed Caret))) (entering_behind m (At p) (entry p))
line_behind m (In g s) r = in_behind m (In g s) g s r (λ e. e)

-- a `^` goes on, or nothing does
in_caret : (m : Limits) (g : Goal) (s : phrase.State) → IsSimple (in_step m g s (Signed Caret))
in_caret m g s = phrase_easy g s (Signed Caret) (phrase.step (inside m (level g)) s (grammar.Mark Caret)) (caret_easy (inside m (level g)) s)

entering_caret : (m : Limits) (q : Option Goal) → IsSimple (entering m q (Signed Caret))
entering_caret m (Some g) = begin_easy (in_step m g (start g) (Signed Caret)) (may_begin g (symbol (Signed Caret))) (in_caret m g (start g))
entering_caret m None = tt

pub line_caret : (m : Limits) (s : State) → IsSimple (step m s (Signed Caret))
line_caret m (At p) = first_simple (spot_step p (Signed Caret)) (entering m (entry p) (Signed Caret)) (spot_simple p (Signed Caret)) (entering_caret m (entry p))
line_caret m (In g s) = in_caret m g s

-- a comma opens no level
level_as : (g : Goal) (s : phrase.State) (k : Token) (n : phrase.Next) → IsNoLevel n → phrase_step g s k n ≡ Deep → ⊥
level_as g s k (phrase.Go t) h e = let f : Go (In g t) ≡ Deep = e in cc
level_as g s k phrase.Stuck h e = simple_deep (behind_step g (phrase.finish s []) k) (behind_simple g (phrase.finish s []) k) e
level_as g s k phrase.Deep h e = h
level_as g s k phrase.Long h e = let f : Long ≡ Deep = e in cc

in_level : (m : Limits) (g : Goal) (s : phrase.State) → in_step m g s (Signed Comma) ≡ Deep → ⊥
in_level m g s e = level_as g s (Signed Comma) (phrase.step (inside m (level g)) s (grammar.Mark Comma)) (comma_level (inside m (level g)) s) e

begin_level : (m : Limits) (g : Goal) (b : Bool) → cond b (in_step m g (start g) (Signed Comma)) Stuck ≡ Deep → ⊥
begin_level m g true e = in_level m g (start g) e
begin_level m g false e = let f : Stuck ≡ Deep = e in cc

entering_level : (m : Limits) (q : Option Goal) → entering m q (Signed Comma) ≡ Deep → ⊥
entering_level m (Some g) e = begin_level m g (may_begin g (symbol (Signed Comma))) e
entering_level m None e = let f : Stuck ≡ Deep = e in cc

first_deep : (n o : Next) → IsSimple n → (o ≡ Deep → ⊥) → first n o ≡ Deep → ⊥
first_deep (Go s) o h i e = absurd (let f : Go s ≡ Deep = e in cc)
first_deep Stuck o h i e = i e
first_deep Deep o h i e = h
first_deep Long o h i e = h

pub line_level : (m : Limits) (s : State) → step m s (Signed Comma) ≡ Deep → ⊥
line_level m (At p) e = first_deep (spot_step p (Signed Comma)) (entering m (entry p) (Signed Comma)) (spot_simple p (Signed Comma)) (entering_level m (entry p)) e
line_level m (In g s) e = in_level m g s e
