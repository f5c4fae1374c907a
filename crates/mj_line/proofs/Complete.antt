-- What the grammar has, the machine reads.
use Rattle.std.proofs.Common.{◌≡◌, ℕ, ◌≤◌, ◌==◌, nat_le, List, [], ◌∷◌, ◌++◌, length, refl, ap, sym, ◌∙◌, subst, Bool, true, false, append_assoc, append-nil, arith, Option, Some, None, map, ◌⊎◌, inl, inr}
use Rattle.std.specs.Prelude.{cond}
use Rattle.std.proofs.lemmas.List.{map-append}
use Rattle.std.proofs.lemmas.Bool.Decides.{nat_tests}
use Rattle.mj_ast.specs.declared.sign.Sign.{Sign}
use Rattle.mj_ast.specs.declared.sign.Sign.TheVariants.{Equals, Comma, Colon, Close}
use Rattle.mj_ast.specs.declared.function.Function.TheVariants.{Piece}
use Rattle.mj_ast.specs.declared.function.Callee.TheVariants.{Texts}
use Rattle.mj_ast.specs.declared.keyword.Verb.{Verb}
use Rattle.mj_ast.specs.declared.expr.Scope.TheVariants.{Local, Global}
use Rattle.mj_ast.specs.Syntax.{Expr, Variable, Var}
use Rattle.mj_ast.specs.Tokens.{Token, Word, Digits, Signed, Blank, Comment, Called, Special, Invoked, Numbered, Dollars, Quoted, Unclosed, Stray}
use Rattle.mj_ast.specs.Expressions.{Symbol, Constant, Inherent, Name, Applied, Entry, Overlong, Mark, Other, symbol, expr_symbols, variable_symbols, callee_of}
use Rattle.mj_ast.specs.Commands.{Part, Put, Named, Label, SerialWord, PieceCall, Prompt, Text, Place, Control, is_serial_word, is_local, SpellsPart, SpellsParts, greatest, part_nesting, part_width, verb_of}
use Rattle.mj_expr.specs.Machine.{Limits}
use Rattle.mj_expr.specs.Machine as phrase
use Rattle.mj_expr.proofs.Zipper.{Kind, AnExpression, AVariable}
use Rattle.mj_expr.proofs.Complete.{Ceases, complete_phrase}
use Rattle.mj_line.specs.Forms.{next_of, Node, Want, AnExpr, AVar, ALocal, piece_part, Sort, Names, Labels, Serials, part_of, part_at, sort_of, takes, wants, ends, PartsFit}
use Rattle.mj_line.specs.Sentences.{Sentence}
use Rattle.mj_line.specs.Machine.{Rest, Spot, Behind, Args, Goal, Condition, Argument, At, In, args_rest, start, wanted, may_want, may_begin, level, level_of, inside, behind_phrase, bare_rested, rested, argument, entry, Next, Go, Stuck, Deep, Long, moved, taken, begins, on, on_rested, first, spot_step, phrase_step, in_step, entering, step, ended_at, ended_spot, Accept, run, turn}
use Rattle.mj_line.proofs.Tables.{label_wanted, name_wanted, serial_wanted, prompt_wanted, shut, followed, FollowsWant}
use Rattle.mj_line.proofs.Entries.{apart_at, part_taken}
use Rattle.mj_line.proofs.Leaves.{want_kind}
use Rattle.mj_line.proofs.Facts.{lift_accept, plain_step}
use Rattle.mj_line.proofs.SpotFacts.{start_stuck}

-- ---- where a command may end

-- a blank, a comment or the line's end
abbrev pub Parted : List Token → Type 0
Parted [] = Unit {0}
Parted (Blank ∷ ks) = Unit {0}
Parted (Comment text ∷ ks) = Unit {0}
Parted ks = ⊥

pub parted_ceases : (K : Kind) (ks : List Token) → Parted ks → Ceases K (map symbol ks)
parted_ceases AnExpression [] h = ((tt, tt), tt)
parted_ceases AnExpression (Blank ∷ ks) h = ((tt, tt), tt)
parted_ceases AnExpression (Comment text ∷ ks) h = ((tt, tt), tt)
parted_ceases AVariable [] h = tt
parted_ceases AVariable (Blank ∷ ks) h = tt
parted_ceases AVariable (Comment text ∷ ks) h = tt
parted_ceases K (Word w ∷ ks) h = absurd h
parted_ceases K (Digits d ∷ ks) h = absurd h
parted_ceases K (Signed s ∷ ks) h = absurd h
parted_ceases K (Quoted q ∷ ks) h = absurd h
parted_ceases K (Called w ∷ ks) h = absurd h
parted_ceases K (Special w ∷ ks) h = absurd h
parted_ceases K (Invoked w ∷ ks) h = absurd h
parted_ceases K (Numbered d ∷ ks) h = absurd h
parted_ceases K (Dollars ∷ ks) h = absurd h
parted_ceases K (Unclosed t ∷ ks) h = absurd h
parted_ceases K (Stray b ∷ ks) h = absurd h

-- and behind one blank too
abbrev pub Parted2 : List Token → Type 0
Parted2 [] = Unit {0}
Parted2 (Blank ∷ ks) = Parted ks
Parted2 (Comment text ∷ ks) = Unit {0}
Parted2 ks = ⊥

pub parted_two : (ks : List Token) → Parted2 ks → Parted ks
parted_two [] h = tt
parted_two (Blank ∷ ks) h = tt
parted_two (Comment text ∷ ks) h = tt
parted_two (Word w ∷ ks) h = absurd h
parted_two (Digits d ∷ ks) h = absurd h
parted_two (Signed s ∷ ks) h = absurd h
parted_two (Quoted q ∷ ks) h = absurd h
parted_two (Called w ∷ ks) h = absurd h
parted_two (Special w ∷ ks) h = absurd h
parted_two (Invoked w ∷ ks) h = absurd h
parted_two (Numbered d ∷ ks) h = absurd h
parted_two (Dollars ∷ ks) h = absurd h
parted_two (Unclosed t ∷ ks) h = absurd h
parted_two (Stray b ∷ ks) h = absurd h

-- as much as arguments, or none, want behind them
abbrev pub Gapped : List Part → List Token → Type 0
Gapped [] ks = Parted2 ks
Gapped (p ∷ ps) ks = Parted ks

gapped_parted : (ps : List Part) (ks : List Token) → Gapped ps ks → Parted ks
gapped_parted [] ks h = parted_two ks h
gapped_parted (p ∷ ps) ks h = h

want_other : (m : Limits) (w : Want) → phrase.step m (wanted w) Other ≡ phrase.Stuck
want_other m (AnExpr lv next) = refl
want_other m (AVar lv next) = refl
want_other m (ALocal next) = refl

start_other : (m : Limits) (g : Goal) → phrase.step m (start g) Other ≡ phrase.Stuck
start_other m (Condition l k) = refl
start_other m (Argument l condition k done w) = want_other m w

cond_stuck : (b : Bool) (n : Next) → n ≡ Stuck → cond b n Stuck ≡ Stuck
cond_stuck true n e = e
cond_stuck false n e = refl

-- no phrase begins with a blank or a comment
enter_other : (m : Limits) (q : Option Goal) (k : Token) → symbol k ≡ Other → entering m q k ≡ Stuck
enter_other m (Some g) k e = cond_stuck (may_begin g (symbol k)) (in_step m g (start g) k) (
    ap (λ (x : Symbol). phrase_step g (start g) k (phrase.step (inside m (level g)) (start g) x)) e
    ∙ ap (phrase_step g (start g) k) (start_other (inside m (level g)) g)
    ∙ start_stuck g k)
enter_other m None k e = refl

-- the spot is behind a command, where a blank, a comment or the end stands
pub record Rests (p : Spot) (r : Rest) : Type 0 where
  pub blank : spot_step p Blank ≡ on r Blank
  pub comment : (text : List ℕ) → spot_step p (Comment text) ≡ on r (Comment text)
  pub ends : ended_spot p ≡ Accept r.line

behind_step_is : (m : Limits) (r : Rest) (k : Token) → step m (At (Behind r)) k ≡ on r k
behind_step_is m r k = plain_step m (Behind r) k refl ∙ first_own r k
  where
    first_own : (r : Rest) (k : Token) → spot_step (Behind r) k ≡ on r k
    first_own r k = refl

pub first_stuck : (n : Next) → first n Stuck ≡ n
first_stuck (Go s) = refl
first_stuck Stuck = refl
first_stuck Deep = refl
first_stuck Long = refl

rests_step : (m : Limits) (p : Spot) (r : Rest) (k : Token) → symbol k ≡ Other → spot_step p k ≡ on r k → step m (At p) k ≡ step m (At (Behind r)) k
rests_step m p r k e h =
    ap (λ (n : Next). first (spot_step p k) n) (enter_other m (entry p) k e)
    ∙ first_stuck (spot_step p k)
    ∙ h
    ∙ sym (behind_step_is m r k)

pub run_rests : (m : Limits) (p : Spot) (r : Rest) (ks : List Token) → Rests p r → Parted ks → run m ks (At p) ≡ run m ks (At (Behind r))
run_rests m p r [] h i = h.ends
run_rests m p r (Blank ∷ ks) h i = ap (turn m ks Blank) (rests_step m p r Blank refl h.blank)
run_rests m p r (Comment text ∷ ks) h i = ap (turn m ks (Comment text)) (rests_step m p r (Comment text) refl (h.comment text))
run_rests m p r (Word w ∷ ks) h i = absurd i
run_rests m p r (Digits d ∷ ks) h i = absurd i
run_rests m p r (Signed s ∷ ks) h i = absurd i
run_rests m p r (Quoted q ∷ ks) h i = absurd i
run_rests m p r (Called w ∷ ks) h i = absurd i
run_rests m p r (Special w ∷ ks) h i = absurd i
run_rests m p r (Invoked w ∷ ks) h i = absurd i
run_rests m p r (Numbered d ∷ ks) h i = absurd i
run_rests m p r (Dollars ∷ ks) h i = absurd i
run_rests m p r (Unclosed t ∷ ks) h i = absurd i
run_rests m p r (Stray b ∷ ks) h i = absurd i

blank_at : (b : Sort) → part_at b Blank ≡ None
blank_at Names = refl
blank_at Labels = refl
blank_at Serials = refl

comment_at : (b : Sort) (text : List ℕ) → part_at b (Comment text) ≡ None
comment_at Names text = refl
comment_at Labels text = refl
comment_at Serials text = refl

pub args_rests : (o : Sentence) (condition : Option Expr) (k : Verb) (done : List Part) (n : Node) → ends n ≡ true → Rests (Args o condition k done n) (args_rest o condition k done)
args_rests o condition k done n e =
    let r = args_rest o condition k done in
    record {
      blank = ap (λ (q : Option Part). first (taken o condition k done n q) (on_rested (bare_rested (ends n) r) Blank)) (blank_at (sort_of n)) ∙ ap (λ (b : Bool). on_rested (bare_rested b r) Blank) e;
      comment = λ text. ap (λ (q : Option Part). first (taken o condition k done n q) (on_rested (bare_rested (ends n) r) (Comment text)))
          (comment_at (sort_of n) text) ∙ ap (λ (b : Bool). on_rested (bare_rested b r) (Comment text)) e;
      ends = ap (λ (b : Bool). ended_at (bare_rested b r)) e;
    }

-- ---- phrases

pub refused_accept : (ks : List Symbol) (p : phrase.Phrase) (r : List Symbol) → phrase.refused ks ≡ phrase.Accept p r → ⊥
refused_accept [] p r e = cc
refused_accept (Overlong ∷ ks) p r e = cc
refused_accept (Constant v ∷ ks) p r e = cc
refused_accept (Inherent v ∷ ks) p r e = cc
refused_accept (Name w ∷ ks) p r e = cc
refused_accept (Applied f ∷ ks) p r e = cc
refused_accept (Entry label ∷ ks) p r e = cc
refused_accept (Mark s ∷ ks) p r e = cc
refused_accept (Other ∷ ks) p r e = cc

want_refuses : (w : Want) (ks : List Symbol) → phrase.finish (wanted w) ks ≡ phrase.refused ks
want_refuses (AnExpr lv next) ks = refl
want_refuses (AVar lv next) ks = refl
want_refuses (ALocal next) ks = refl

-- where a phrase is read, it begins with its first token
want_begins : (m : Limits) (w : Want) (x : Symbol) (xs : List Symbol) (p : phrase.Phrase) (r : List Symbol) →
    phrase.run m (x ∷ xs) (wanted w) ≡ phrase.Accept p r → phrase.step m (wanted w) x ≡ phrase.Stuck → ⊥
want_begins m w x xs p r e h =
    refused_accept (x ∷ xs) p r (sym (want_refuses w (x ∷ xs)) ∙ sym (ap (phrase.turn m xs (wanted w) x) h) ∙ e)

-- a spot where no such token is taken doesn't go on with it
untaken : (o : Sentence) (condition : Option Expr) (k : Verb) (done : List Part) (n : Node) (q : Option Part) → part_taken n q ≡ None → taken o condition k done n q ≡ Stuck
untaken o condition k done n (Some p) e = ap (moved o condition k (done ++ p ∷ [])) e
untaken o condition k done n None e = refl

unrested : (r : Rest) (b : Bool) (t : Token) → r.gap ≡ 1 → (symbol t ≡ Other → ⊥) ⊎ (on_rested (bare_rested b r) t ≡ Stuck) → on_rested (bare_rested b r) t ≡ Stuck
unrested r b t g (inr e) = e
unrested r false t g (inl h) = refl
unrested r true Blank g (inl h) = absurd (h refl)
unrested r true (Comment text) g (inl h) = absurd (h refl)
unrested r true (Word w) g (inl h) = ap (λ (n : ℕ). cond (n == 0) (begins r.line (verb_of w)) Stuck) g
unrested r true (Digits d) g (inl h) = refl
unrested r true (Signed s) g (inl h) = refl
unrested r true (Quoted q) g (inl h) = refl
unrested r true (Called w) g (inl h) = refl
unrested r true (Special w) g (inl h) = refl
unrested r true (Invoked w) g (inl h) = refl
unrested r true (Numbered d) g (inl h) = refl
unrested r true Dollars g (inl h) = refl
unrested r true (Unclosed x) g (inl h) = refl
unrested r true (Stray x) g (inl h) = refl

enter_step : (m : Limits) (o : Sentence) (condition : Option Expr) (k : Verb) (done : List Part) (n : Node) (w : Want) (t : Token) → wants n ≡ Some w →
    may_want w (symbol t) ≡ true → (phrase.step (inside m (level_of w)) (wanted w) (symbol t) ≡ phrase.Stuck → ⊥) →
    (phrase.step (inside m (level_of w)) (wanted w) (symbol t) ≡ phrase.Stuck) ⊎ (part_taken n (part_at (sort_of n) t) ≡ None) →
    step m (At (Args o condition k done n)) t ≡ in_step m (Argument o condition k done w) (wanted w) t
enter_step m o condition k done n w t e y h (inl i) = absurd (h i)
enter_step m o condition k done n w t e y h (inr i) =
    let r = args_rest o condition k done in
    let q = argument o condition k done (wants n) in
    ap (λ (x : Next). first (first x (on_rested (bare_rested (ends n) r) t)) (entering m q t)) (untaken o condition k done n (part_at (sort_of n) t) i)
    ∙ ap (λ (x : Next). first x (entering m q t)) (unrested r (ends n) t refl (inl (λ z. h (ap (phrase.step (inside m (level_of w)) (wanted w)) z ∙ want_other (inside m (level_of w)) w))))
    ∙ ap (λ (x : Option Want). entering m (argument o condition k done x) t) e
    ∙ ap (λ (b : Bool). cond b (in_step m (Argument o condition k done w) (wanted w) t) Stuck) y

-- the tokens begin with what may begin the phrase
abbrev MayStart : Want → List Symbol → Type 0
MayStart w [] = Unit {0}
MayStart w (x ∷ xs) = may_want w x ≡ true

-- a phrase that is read where it begins
pub enter_run : (m : Limits) (o : Sentence) (condition : Option Expr) (k : Verb) (done : List Part) (n : Node) (w : Want) (ks : List Token) (p : phrase.Phrase)
    (r : List Symbol) → wants n ≡ Some w → MayStart w (map symbol ks) → phrase.run (inside m (level_of w)) (map symbol ks) (wanted w) ≡ phrase.Accept p r →
    run m ks (At (Args o condition k done n)) ≡ run m ks (In (Argument o condition k done w) (wanted w))
enter_run m o condition k done n w [] p r e y h = absurd (refused_accept [] p r (sym (want_refuses w []) ∙ h))
enter_run m o condition k done n w (t ∷ ks) p r e y h =
    ap (turn m ks t) (enter_step m o condition k done n w t e y (want_begins (inside m (level_of w)) w (symbol t) (map symbol ks) p r h) (apart_at (inside m (level_of w)) n t w e))

-- what follows doesn't go on with the phrase
follows_ceases : (w : Want) (p : Part) (front rest : List Token) → FollowsWant w p → SpellsPart front p → Ceases (want_kind w) (map symbol (front ++ rest))
follows_ceases (AnExpr lv next) (Put Comma) front rest h s = let P : List Token → Type 0 = λ ks. Ceases AnExpression (map symbol (ks ++ rest)) in subst P (sym s) ((tt, tt), refl)
follows_ceases (AnExpr lv next) (Put Close) front rest h s = let P : List Token → Type 0 = λ ks. Ceases AnExpression (map symbol (ks ++ rest)) in subst P (sym s) ((tt, tt), refl)
follows_ceases (AnExpr lv next) (Put Colon) front rest h s = let P : List Token → Type 0 = λ ks. Ceases AnExpression (map symbol (ks ++ rest)) in subst P (sym s) ((tt, tt), refl)
follows_ceases (AVar lv next) (Put Equals) front rest h s = let P : List Token → Type 0 = λ ks. Ceases AVariable (map symbol (ks ++ rest)) in subst P (sym s) tt
follows_ceases (AVar lv next) (Put Comma) front rest h s = let P : List Token → Type 0 = λ ks. Ceases AVariable (map symbol (ks ++ rest)) in subst P (sym s) tt
follows_ceases (AVar lv next) (Put Close) front rest h s = let P : List Token → Type 0 = λ ks. Ceases AVariable (map symbol (ks ++ rest)) in subst P (sym s) tt
follows_ceases (AVar lv next) (Put Colon) front rest h s = let P : List Token → Type 0 = λ ks. Ceases AVariable (map symbol (ks ++ rest)) in subst P (sym s) tt
follows_ceases (ALocal next) (Put Equals) front rest h s = let P : List Token → Type 0 = λ ks. Ceases AVariable (map symbol (ks ++ rest)) in subst P (sym s) tt
follows_ceases (ALocal next) (Put Comma) front rest h s = let P : List Token → Type 0 = λ ks. Ceases AVariable (map symbol (ks ++ rest)) in subst P (sym s) tt
follows_ceases (ALocal next) (Put Close) front rest h s = let P : List Token → Type 0 = λ ks. Ceases AVariable (map symbol (ks ++ rest)) in subst P (sym s) tt
follows_ceases (ALocal next) (Put Colon) front rest h s = let P : List Token → Type 0 = λ ks. Ceases AVariable (map symbol (ks ++ rest)) in subst P (sym s) tt
follows_ceases (AnExpr lv next) p front rest h s = absurd h
follows_ceases (ALocal next) p front rest h s = absurd h
follows_ceases (AVar lv next) p front rest h s = absurd h

parts_cease : (n : Node) (w : Want) (ps : List Part) (front rest : List Token) → wants n ≡ Some w → PartsFit (next_of w) ps → SpellsParts front ps → Parted rest →
    Ceases (want_kind w) (map symbol (front ++ rest))
parts_cease n w [] front rest e f s h = let P : List Token → Type 0 = λ ks. Ceases (want_kind w) (map symbol (ks ++ rest)) in subst P (sym s) (parted_ceases (want_kind w) rest h)
parts_cease n w (p ∷ ps) front rest e f s h =
    let P : List Token → Type 0 = λ ks. Ceases (want_kind w) (map symbol ks) in
    subst P (sym (ap (λ (ks : List Token). ks ++ rest) s.2 ∙ append_assoc s.0 s.1 rest)) (follows_ceases w p s.0 (s.1 ++ rest) (followed n w e p f.0 f.1) s.3)

-- an expression and any variable may begin with each symbol, a local with its name
text_starts : (lv : ℕ) (next : Node) (xs : List Symbol) → MayStart (AnExpr lv next) xs
text_starts lv next [] = tt
text_starts lv next (x ∷ xs) = refl

place_starts : (lv : ℕ) (next : Node) (xs : List Symbol) → MayStart (AVar lv next) xs
place_starts lv next [] = tt
place_starts lv next (x ∷ xs) = refl

local_starts : (next : Node) (v : Variable) (ys : List Symbol) → is_local v ≡ true → MayStart (ALocal next) (variable_symbols v ++ ys)
local_starts next (Var Local word es) ys h = refl
local_starts next (Var Global word es) ys h = absurd (let f : false ≡ true = h in cc)

read_phrase : (m : Limits) (o : Sentence) (condition : Option Expr) (k : Verb) (done : List Part) (n : Node) (w : Want) (x : phrase.Phrase)
    (front rest : List Token) (xs : List Symbol) → wants n ≡ Some w → map symbol front ≡ xs → MayStart w (xs ++ map symbol rest) →
    phrase.run (inside m (level_of w)) (xs ++ map symbol rest) (wanted w) ≡ phrase.Accept x (map symbol rest) →
    run m (front ++ rest) (At (Args o condition k done n)) ≡ run m rest (At (behind_phrase (Argument o condition k done w) x))
read_phrase m o condition k done n w x front rest xs e s y h =
    let g = Argument o condition k done w in
    let P : List Symbol → Type 0 = λ ys. MayStart w ys in
    let c = map-append symbol front rest ∙ ap (λ (ys : List Symbol). ys ++ map symbol rest) s in
    let z = ap (λ (ys : List Symbol). phrase.run (inside m (level_of w)) ys (wanted w)) c ∙ h in
    enter_run m o condition k done n w (front ++ rest) x (map symbol rest) e (subst P (sym c) y) z
    ∙ lift_accept m front rest g (wanted w) x (shut n w e) z

-- ---- arguments

token_run : (m : Limits) (o : Sentence) (condition : Option Expr) (k : Verb) (done : List Part) (n next : Node) (t : Token) (p : Part) (ks : List Token) →
    part_at (sort_of n) t ≡ Some p → takes n p ≡ Some next →
    run m (t ∷ ks) (At (Args o condition k done n)) ≡ run m ks (At (Args o condition k (done ++ p ∷ []) next))
token_run m o condition k done n next t p ks e h =
    let s = Args o condition k done n in
    ap (λ (q : Option Part). turn m ks t (first (first (taken o condition k done n q) (on_rested (rested s) t)) (entering m (entry s) t))) e
    ∙ ap (λ (q : Option Node). turn m ks t (first (first (moved o condition k (done ++ p ∷ []) q) (on_rested (rested s) t)) (entering m (entry s) t))) h

word_part : (w : List ℕ) → length w ≤ 31 → part_of (Word w) ≡ Some (Named w)
word_part w h = ap (λ (b : Bool). cond b (Some (Named w)) None) (let e : nat_le (length w) 31 ≡ true = grind (arith, nat_tests) in e)

sign_at : (b : Sort) (z : Sign) → part_at b (Signed z) ≡ Some (Put z)
sign_at Names z = refl
sign_at Labels z = refl
sign_at Serials z = refl

name_at : (b : Sort) (w : List ℕ) → b ≡ Names → length w ≤ 31 → part_at b (Word w) ≡ Some (Named w)
name_at Names w e h = word_part w h
name_at Labels w e h = absurd (let f : Labels ≡ Names = e in cc)
name_at Serials w e h = absurd (let f : Serials ≡ Names = e in cc)

label_word : (w : List ℕ) → length w ≤ 31 → part_at Labels (Word w) ≡ Some (Label w)
label_word w h = ap (λ (b : Bool). cond b (Some (Label w)) None) (let e : nat_le (length w) 31 ≡ true = grind (arith, nat_tests) in e)

word_at : (b : Sort) (w : List ℕ) → b ≡ Labels → length w ≤ 31 → part_at b (Word w) ≡ Some (Label w)
word_at Names w e h = absurd (let f : Names ≡ Labels = e in cc)
word_at Labels w e h = label_word w h
word_at Serials w e h = absurd (let f : Serials ≡ Labels = e in cc)

serial_at : (b : Sort) (w : List ℕ) → b ≡ Serials → is_serial_word w ≡ true → part_at b (Word w) ≡ Some SerialWord
serial_at Names w e h = absurd (let f : Names ≡ Serials = e in cc)
serial_at Labels w e h = absurd (let f : Labels ≡ Serials = e in cc)
serial_at Serials w e h = ap (λ (b : Bool). cond b (Some SerialWord) None) h

digits_at : (b : Sort) (d : List ℕ) → b ≡ Labels → length d ≤ 1048576 → part_at b (Digits d) ≡ Some (Label d)
digits_at Labels d e h = ap (λ (b : Bool). cond b (Some (Label d)) None) (let e : nat_le (length d) 1048576 ≡ true = grind (arith, nat_tests) in e)
digits_at Names d e h = absurd (let f : Names ≡ Labels = e in cc)
digits_at Serials d e h = absurd (let f : Serials ≡ Labels = e in cc)

called_part : (w : List ℕ) → length w ≤ 31 → callee_of w ≡ Some (Texts Piece) → part_of (Called w) ≡ Some PieceCall
called_part w h e =
    ap (λ (b : Bool). cond b (piece_part (callee_of w)) None) (let e : nat_le (length w) 31 ≡ true = grind (arith, nat_tests) in e)
    ∙ ap piece_part e

called_at : (b : Sort) (w : List ℕ) → length w ≤ 31 → callee_of w ≡ Some (Texts Piece) → part_at b (Called w) ≡ Some PieceCall
called_at Names w h e = called_part w h e
called_at Labels w h e = called_part w h e
called_at Serials w h e = called_part w h e

quoted_at : (b : Sort) (v : List ℕ) → b ≡ Labels → length v ≤ 1048576 → part_at b (Quoted v) ≡ Some (Prompt v)
quoted_at Labels v e h = ap (λ (b : Bool). cond b (Some (Prompt v)) None) (let e : nat_le (length v) 1048576 ≡ true = grind (arith, nat_tests) in e)
quoted_at Names v e h = absurd (let f : Names ≡ Labels = e in cc)
quoted_at Serials v e h = absurd (let f : Serials ≡ Labels = e in cc)

label_run : (m : Limits) (o : Sentence) (condition : Option Expr) (k : Verb) (done : List Part) (n next : Node) (z : List ℕ) (front rest : List Token)
    {whole : List Token} → takes n (Label z) ≡ Some next → SpellsPart front (Label z) → whole ≡ front ++ rest →
    run m whole (At (Args o condition k done n)) ≡ run m rest (At (Args o condition k (done ++ Label z ∷ []) next))
label_run m o condition k done n next z front rest f (inl s) w =
    ap (λ (ks : List Token). run m ks (At (Args o condition k done n))) (w ∙ ap (λ (ks : List Token). ks ++ rest) s.0)
    ∙ token_run m o condition k done n next (Word z) (Label z) rest (word_at (sort_of n) z (label_wanted n next z f) s.1) f
label_run m o condition k done n next z front rest f (inr s) w =
    ap (λ (ks : List Token). run m ks (At (Args o condition k done n))) (w ∙ ap (λ (ks : List Token). ks ++ rest) s.0)
    ∙ token_run m o condition k done n next (Digits z) (Label z) rest (digits_at (sort_of n) z (label_wanted n next z f) s.1) f

pub complete_args : (ps : List Part) (m : Limits) (o : Sentence) (condition : Option Expr) (k : Verb) (done : List Part) (n : Node) (front rest : List Token) →
    PartsFit n ps → SpellsParts front ps → greatest part_nesting ps ≤ m.depth → greatest part_width ps ≤ m.width → Parted rest →
    run m (front ++ rest) (At (Args o condition k done n)) ≡ run m rest (At (Behind (args_rest o condition k (done ++ ps))))
complete_args [] m o condition k done n front rest f s d w h =
    ap (λ (ks : List Token). run m (ks ++ rest) (At (Args o condition k done n))) s
    ∙ run_rests m (Args o condition k done n) (args_rest o condition k done) rest (args_rests o condition k done n f) h
    ∙ ap (λ (ps : List Part). run m rest (At (Behind (args_rest o condition k ps)))) (sym (append-nil done))
complete_args (Put z ∷ ps) m o condition k done n front rest f s d w h =
    ap (λ (ks : List Token). run m (ks ++ rest) (At (Args o condition k done n))) (s.2 ∙ ap (λ (ks : List Token). ks ++ s.1) s.3)
    ∙ token_run m o condition k done n f.0 (Signed z) (Put z) (s.1 ++ rest) (sign_at (sort_of n) z) f.1
    ∙ complete_args ps m o condition k (done ++ Put z ∷ []) f.0 s.1 rest f.2 s.4 (omega arith) (omega arith) h
    ∙ ap (λ (qs : List Part). run m rest (At (Behind (args_rest o condition k qs)))) (append_assoc done (Put z ∷ []) ps)
complete_args (Named z ∷ ps) m o condition k done n front rest f s d w h =
    ap (λ (ks : List Token). run m (ks ++ rest) (At (Args o condition k done n))) (s.2 ∙ ap (λ (ks : List Token). ks ++ s.1) s.3.0)
    ∙ token_run m o condition k done n f.0 (Word z) (Named z) (s.1 ++ rest) (name_at (sort_of n) z (name_wanted n f.0 z f.1) s.3.1) f.1
    ∙ complete_args ps m o condition k (done ++ Named z ∷ []) f.0 s.1 rest f.2 s.4 (omega arith) (omega arith) h
    ∙ ap (λ (qs : List Part). run m rest (At (Behind (args_rest o condition k qs)))) (append_assoc done (Named z ∷ []) ps)
complete_args (Label z ∷ ps) m o condition k done n front rest f s d w h =
    ap (λ (ks : List Token). run m (ks ++ rest) (At (Args o condition k done n))) s.2
    ∙ label_run m o condition k done n f.0 z s.0 (s.1 ++ rest) f.1 s.3 (append_assoc s.0 s.1 rest)
    ∙ complete_args ps m o condition k (done ++ Label z ∷ []) f.0 s.1 rest f.2 s.4 (omega arith) (omega arith) h
    ∙ ap (λ (qs : List Part). run m rest (At (Behind (args_rest o condition k qs)))) (append_assoc done (Label z ∷ []) ps)
complete_args (SerialWord ∷ ps) m o condition k done n front rest f s d w h =
    ap (λ (ks : List Token). run m (ks ++ rest) (At (Args o condition k done n))) (s.2 ∙ ap (λ (ks : List Token). ks ++ s.1) s.3.1)
    ∙ token_run m o condition k done n f.0 (Word s.3.0) SerialWord (s.1 ++ rest) (serial_at (sort_of n) s.3.0 (serial_wanted n f.0 f.1) s.3.2) f.1
    ∙ complete_args ps m o condition k (done ++ SerialWord ∷ []) f.0 s.1 rest f.2 s.4 (omega arith) (omega arith) h
    ∙ ap (λ (qs : List Part). run m rest (At (Behind (args_rest o condition k qs)))) (append_assoc done (SerialWord ∷ []) ps)
complete_args (PieceCall ∷ ps) m o condition k done n front rest f s d w h =
    ap (λ (ks : List Token). run m (ks ++ rest) (At (Args o condition k done n))) (s.2 ∙ ap (λ (ks : List Token). ks ++ s.1) s.3.1)
    ∙ token_run m o condition k done n f.0 (Called s.3.0) PieceCall (s.1 ++ rest) (called_at (sort_of n) s.3.0 s.3.2 s.3.3) f.1
    ∙ complete_args ps m o condition k (done ++ PieceCall ∷ []) f.0 s.1 rest f.2 s.4 (omega arith) (omega arith) h
    ∙ ap (λ (qs : List Part). run m rest (At (Behind (args_rest o condition k qs)))) (append_assoc done (PieceCall ∷ []) ps)
complete_args (Prompt z ∷ ps) m o condition k done n front rest f s d w h =
    ap (λ (ks : List Token). run m (ks ++ rest) (At (Args o condition k done n))) (s.2 ∙ ap (λ (ks : List Token). ks ++ s.1) s.3.0)
    ∙ token_run m o condition k done n f.0 (Quoted z) (Prompt z) (s.1 ++ rest) (quoted_at (sort_of n) z (prompt_wanted n f.0 z f.1) s.3.1) f.1
    ∙ complete_args ps m o condition k (done ++ Prompt z ∷ []) f.0 s.1 rest f.2 s.4 (omega arith) (omega arith) h
    ∙ ap (λ (qs : List Part). run m rest (At (Behind (args_rest o condition k qs)))) (append_assoc done (Prompt z ∷ []) ps)
complete_args (Text lv e ∷ ps) m o condition k done n front rest f s d w h =
    let a = AnExpr lv f.0 in
    ap (λ (ks : List Token). run m (ks ++ rest) (At (Args o condition k done n))) s.2
    ∙ ap (λ (ks : List Token). run m ks (At (Args o condition k done n))) (append_assoc s.0 s.1 rest)
    ∙ read_phrase m o condition k done n a (phrase.Whole e) s.0 (s.1 ++ rest) (expr_symbols e) f.1 s.3.0 (text_starts lv f.0 (expr_symbols e ++ map symbol (s.1 ++ rest)))
    (complete_phrase AnExpression (phrase.Whole e) (inside m lv) (map symbol (s.1 ++ rest))
    (record { kind = tt; nests = omega arith; lists = omega arith; formed = s.3.1 }) (parts_cease n a ps s.1 rest f.1 f.2 s.4 h))
    ∙ complete_args ps m o condition k (done ++ Text lv e ∷ []) f.0 s.1 rest f.2 s.4 (omega arith) (omega arith) h
    ∙ ap (λ (qs : List Part). run m rest (At (Behind (args_rest o condition k qs)))) (append_assoc done (Text lv e ∷ []) ps)
complete_args (Place lv v ∷ ps) m o condition k done n front rest f s d w h =
    let a = AVar lv f.0 in
    ap (λ (ks : List Token). run m (ks ++ rest) (At (Args o condition k done n))) s.2
    ∙ ap (λ (ks : List Token). run m ks (At (Args o condition k done n))) (append_assoc s.0 s.1 rest)
    ∙ read_phrase m o condition k done n a (phrase.Target v) s.0 (s.1 ++ rest) (variable_symbols v) f.1 s.3.0 (place_starts lv f.0 (variable_symbols v ++ map symbol (s.1 ++ rest)))
    (complete_phrase AVariable (phrase.Target v) (inside m lv) (map symbol (s.1 ++ rest))
    (record { kind = tt; nests = omega arith; lists = omega arith; formed = s.3.1 }) (parts_cease n a ps s.1 rest f.1 f.2 s.4 h))
    ∙ complete_args ps m o condition k (done ++ Place lv v ∷ []) f.0 s.1 rest f.2 s.4 (omega arith) (omega arith) h
    ∙ ap (λ (qs : List Part). run m rest (At (Behind (args_rest o condition k qs)))) (append_assoc done (Place lv v ∷ []) ps)
complete_args (Control v ∷ ps) m o condition k done n front rest f s d w h =
    let a = ALocal f.0 in
    ap (λ (ks : List Token). run m (ks ++ rest) (At (Args o condition k done n))) s.2
    ∙ ap (λ (ks : List Token). run m ks (At (Args o condition k done n))) (append_assoc s.0 s.1 rest)
    ∙ read_phrase m o condition k done n a (phrase.Target v) s.0 (s.1 ++ rest) (variable_symbols v) f.1.0 s.3.0 (local_starts f.0 v (map symbol (s.1 ++ rest)) f.1.1)
    (complete_phrase AVariable (phrase.Target v) (inside m 0) (map symbol (s.1 ++ rest))
    (record { kind = tt; nests = omega arith; lists = omega arith; formed = s.3.1 }) (parts_cease n a ps s.1 rest f.1.0 f.2 s.4 h))
    ∙ complete_args ps m o condition k (done ++ Control v ∷ []) f.0 s.1 rest f.2 s.4 (omega arith) (omega arith) h
    ∙ ap (λ (qs : List Part). run m rest (At (Behind (args_rest o condition k qs)))) (append_assoc done (Control v ∷ []) ps)
