-- What the functions that read a line follow.
use Rattle.std.proofs.Common.{◌≡◌, ◌==◌, ℕ, ◌+◌, ◌-◌, ◌≤◌, ◌<◌, List, [], ◌∷◌, ◌++◌, length, refl, ap, sym, ◌∙◌, subst, Bool, true, false, append_assoc, append-nil, arith, Option, Some, None, map, Result, Ok, Err, nat_le, ◌⊎◌, inl, inr, length-append}
use Rattle.std.specs.Prelude.{cond}
use Rattle.std.specs.Result.{IfOk, IsErrAnd}
use Rattle.std.proofs.lemmas.Bool.Decides.{nat_tests}
use Rattle.mj_ast.specs.declared.sign.Sign.{Sign}
use Rattle.mj_ast.specs.declared.sign.Sign.TheVariants.{Comma}
use Rattle.mj_ast.specs.declared.keyword.Verb.{Verb}
use Rattle.mj_ast.specs.Syntax.{Expr, Variable}
use Rattle.mj_ast.specs.Tokens.{Token, Word, Called, Special, Invoked, Numbered, Dollars, Digits, Quoted, Signed, Blank, Comment, Unclosed, Stray}
use Rattle.mj_ast.specs.Expressions.{symbol, Phrases, callee_of}
use Rattle.mj_ast.specs.Commands.{Part, Put, Named, PieceCall, Text, Place, verb_of, with_commas, behind_commas}
use Rattle.mj_expr.specs.Machine.{Limits}
use Rattle.mj_expr.specs.Machine as phrase
use Rattle.mj_expr.specs.Reads.{limits, symbols_seen}
use Rattle.mj_expr.specs.Reads as phrases
use Rattle.mj_expr.specs.Phrases as grammar
use Rattle.mj_expr.specs.declared.stop.ParseError.{ParseError}
use Rattle.mj_expr.specs.declared.stop.ParseError.TheVariants as stop
use Rattle.mj_expr.specs.Shapes.{IsEndOf}
use Rattle.mj_expr.specs.Shapes as shapes
use Rattle.mj_lex.specs.declared.token.Lexeme.{Lexeme}
use Rattle.mj_lex.specs.Seen.{tokens_seen}
use Rattle.mj_line.specs.Forms.{Node, Want, AnExpr, AVar, ALocal, Sort, Names, Labels, Serials, part_of, part_at, sort_of, takes, wants, ends}
use Rattle.mj_line.specs.Sentences.{Sentence}
use Rattle.mj_line.specs.Machine.{Rest, Behind, Args, Goal, Argument, State, At, In, IsClosed, args_rest, bare_rested, expression_wanted, variable_wanted, wanted, level, inside, behind_phrase, argument, entry, rested, Outcome, Accept, StuckAt, refused, run, turn, begins, first, Next, Stuck, taken, moved, on_rested, entering, in_step}
use Rattle.mj_line.proofs.Entries.{part_taken, word_apart, called_apart}
use Rattle.mj_line.proofs.Facts.{lift_accept, lift_stuck, lift_deep, lift_long}
use Rattle.mj_line.proofs.Complete.{Parted, run_rests, args_rests}
use Rattle.mj_cmd.proofs.Locals.{MayEnter, may_enter}
use Rattle.mj_cmd.specs.Heads.{HasNoComma, HasParted, HasOther}
use Rattle.mj_cmd.specs.Reads.{HasRoom, Refuses, ReadsAs, EndsAs, ReadsTokens, ReadsToEnd}

-- another token
abbrev pub IsNoComment : Token → Type 0
IsNoComment (Comment text) = ⊥
IsNoComment k = Unit {0}

-- ---- passing on

pub refuses_from : (limited : Bool) (e : ParseError) (o q : Outcome) → o ≡ q → Refuses limited e q → Refuses limited e o
refuses_from limited e o q h r = let P : Outcome → Type 0 = λ x. Refuses limited e x in subst P (sym h) r

-- a refusal that is passed on
pub reads_err : {X T : Type 0} (limited : Bool) (tree : X → T) (rest : X → List Lexeme) (r : Result X ParseError) (e : ParseError) (m : Limits) (ls : List Lexeme) (s : State) (holding : T → State) →
    IsErrAnd r (λ x. x ≡ e) → Refuses limited e (run m (tokens_seen ls) s) → ReadsTokens limited tree rest r m ls s holding
reads_err limited tree rest (Ok y) e m ls s holding h r = absurd h
reads_err limited tree rest (Err y) e m ls s holding h r = let P : ParseError → Type 0 = λ x. Refuses limited x (run m (tokens_seen ls) s) in subst P (sym h) r

pub reads_as_err : {X T : Type 0} (limited : Bool) (is : T
    → X → Type 0) (rest : X → List Lexeme) (r : Result X ParseError) (e : ParseError) (m : Limits) (ls : List Lexeme) (s : State) (holding : T → State) →
    IsErrAnd r (λ y. y ≡ e) → Refuses limited e (run m (tokens_seen ls) s) → ReadsAs limited is rest r m ls s holding
reads_as_err limited is rest (Ok x) e m ls s holding h f = absurd h
reads_as_err limited is rest (Err y) e m ls s holding h f = let P : ParseError → Type 0 = λ v. Refuses limited v (run m (tokens_seen ls) s) in subst P (sym h) f

pub ends_as_err : {X T : Type 0} (limited : Bool) (is : T → X → Type 0) (r : Result X ParseError) (e : ParseError) (m : Limits) (ls : List Lexeme) (s : State) (made : T → Sentence) →
    IsErrAnd r (λ y. y ≡ e) → Refuses limited e (run m (tokens_seen ls) s) → EndsAs limited is r m ls s made
ends_as_err limited is (Ok x) e m ls s made h f = absurd h
ends_as_err limited is (Err y) e m ls s made h f = let P : ParseError → Type 0 = λ v. Refuses limited v (run m (tokens_seen ls) s) in subst P (sym h) f

pub ends_err : {X T : Type 0} (limited : Bool) (tree : X → T) (r : Result X ParseError) (e : ParseError) (m : Limits) (ls : List Lexeme) (s : State) (made : T → Sentence) →
    IsErrAnd r (λ x. x ≡ e) → Refuses limited e (run m (tokens_seen ls) s) → ReadsToEnd limited tree r m ls s made
ends_err limited tree (Ok y) e m ls s made h r = absurd h
ends_err limited tree (Err y) e m ls s made h r = let P : ParseError → Type 0 = λ x. Refuses limited x (run m (tokens_seen ls) s) in subst P (sym h) r

-- want of memory
pub memory_refuses : (limited : Bool) (e : ParseError) (o : Outcome) → e ≡ stop.Memory → Refuses limited e o
memory_refuses limited e o h = let P : ParseError → Type 0 = λ x. Refuses limited x o in subst P (sym h) tt

pub memory_err : {X T : Type 0} (limited : Bool) (tree : X → T) (rest : X → List Lexeme) (r : Result X ParseError) (m : Limits) (ls : List Lexeme) (s : State) (holding : T → State) →
    IsErrAnd r (λ x. x ≡ stop.Memory) → ReadsTokens limited tree rest r m ls s holding
memory_err limited tree rest r m ls s holding h = reads_err limited tree rest r stop.Memory m ls s holding h tt

pub memory_ends : {X T : Type 0} (limited : Bool) (tree : X → T) (r : Result X ParseError) (m : Limits) (ls : List Lexeme) (s : State) (made : T → Sentence) →
    IsErrAnd r (λ x. x ≡ stop.Memory) → ReadsToEnd limited tree r m ls s made
memory_ends limited tree r m ls s made h = ends_err limited tree r stop.Memory m ls s made h tt

-- room for a part is there where it is for the whole
pub room_for : (limited : Bool) (m : Limits) (ls ms : List Lexeme) → length ms ≤ length ls → HasRoom limited m ls → HasRoom limited m ms
room_for true m ls ms h r = r
room_for false m ls ms h r = (r.0, let n = r.1 in omega arith)

-- without the limit on levels
pub room_free : (limited : Bool) (m : Limits) (ls : List Lexeme) → limited ≡ false → HasRoom limited m ls → (m.width ≡ 31) × (length ls + 2 ≤ m.depth)
room_free true m ls e h = absurd (let f : true ≡ false = e in cc)
room_free false m ls e h = h

pub level_one : (lv n : ℕ) → n ≡ lv → lv ≤ 1 → n ≤ 1
level_one lv n e h = omega arith

-- inside a level there is more room than there are tokens
pub inside_room : (m : Limits) (g : Goal) (ls : List Lexeme) → level g ≤ 1 → length ls + 2 ≤ m.depth → length ls < m.depth - level g
inside_room m g ls l h = omega arith

-- ---- phrases

refused_phrase : (limited : Bool) (e : ParseError) (m : Limits) (ls : List Lexeme) (g : Goal) (s : phrase.State) → limited ≡ true →
    phrases.Refuses e (phrase.run (inside m (level g)) (symbols_seen ls) s) → Refuses limited e (run m (tokens_seen ls) (In g s))
refused_phrase limited stop.Memory m ls g s l h = tt
refused_phrase limited (stop.Stuck n) m ls g s l h = lift_stuck m (tokens_seen ls) g s n h
refused_phrase limited (stop.Deep n) m ls g s l h = (l, lift_deep m (tokens_seen ls) g s n h)
refused_phrase limited stop.Long m ls g s l h = lift_long m (tokens_seen ls) g s h

-- a phrase that was read is read inside a line
pub phrase_reads : {X T : Type 0} (limited : Bool) (tree : X → T) (wrap : T → phrase.Phrase) (rest : X →
    List Lexeme) (r : Result X ParseError) (m : Limits) (ls : List Lexeme) (g : Goal) (s : phrase.State) → IsClosed g → limited ≡ true →
    IfOk r (λ x. (front : List Token) × (tokens_seen ls ≡ front ++ tokens_seen (rest x))) → phrases.MachineGives (λ x. wrap (tree x)) rest r (phrase.run (inside m (level g)) (symbols_seen ls) s) →
    ReadsTokens limited tree rest r m ls (In g s) (λ t. At (behind_phrase g (wrap t)))
phrase_reads limited tree wrap rest (Ok x) m ls g s z l c h = (
  tree x,
  λ e. refl,
  ap (λ (ks : List Token). run m ks (In g s)) c.1
      ∙ lift_accept m c.0 (tokens_seen (rest x)) g s (wrap (tree x)) z (ap (λ (ks : List Token). phrase.run (inside m (level g)) (map symbol ks) s) (sym c.1) ∙ h),
)
phrase_reads limited tree wrap rest (Err e) m ls g s z l c h = refused_phrase limited e m ls g s l h

-- what was read has a front
cut_of : {X T : Type 0} (P : Phrases T) (d : ℕ) (ks : List Token) (tree : X → T) (rest : X → List Lexeme) (r : Result X ParseError) →
    IfOk r (λ x. grammar.IsRead P d ks (tree x) (tokens_seen (rest x))) → IfOk r (λ x. (front : List Token) × (ks ≡ front ++ tokens_seen (rest x)))
cut_of P d ks tree rest (Ok x) h = (h.front, h.cut)
cut_of P d ks tree rest (Err e) h = tt

room_limits : (limited : Bool) (m : Limits) (ls : List Lexeme) → limited ≡ true → HasRoom limited m ls → m ≡ limits 64
room_limits true m ls e h = h
room_limits false m ls e h = absurd (let f : false ≡ true = e in cc)

-- an expression or a variable within the limits of the language
pub limited_reads : {X T : Type 0} (P : Phrases T) (limited : Bool) (tree : X → T) (wrap : T → phrase.Phrase) (rest : X →
    List Lexeme) (r : Result X ParseError) (m : Limits) (ls : List Lexeme) (g : Goal) (s : phrase.State) (lv : ℕ) → level g ≡ lv → IsClosed g → limited ≡ true →
    HasRoom limited m ls →
    IfOk r (λ x. grammar.IsRead P (64 - lv) (tokens_seen ls) (tree x) (tokens_seen (rest x))) → phrases.MachineGives (λ x. wrap (tree x)) rest r (phrase.run (limits (64 - lv)) (symbols_seen ls) s) →
    ReadsTokens limited tree rest r m ls (In g s) (λ t. At (behind_phrase g (wrap t)))
limited_reads P limited tree wrap rest r m ls g s lv v z l h c e =
    let Q : Limits → Type 0 = λ n. phrases.MachineGives (λ x. wrap (tree x)) rest r (phrase.run n (symbols_seen ls) s) in
    phrase_reads limited tree wrap rest r m ls g s z l (cut_of P (64 - lv) (tokens_seen ls) tree rest r c)
    (subst Q (sym (ap (λ (n : Limits). inside n (level g)) (room_limits limited m ls l h) ∙ ap (inside (limits 64)) v)) e)

-- an expression or a variable, however deep it nests
no_limit : (limited : Bool) → limited ≡ false → limited ≡ true → ⊥
no_limit limited e f = let h : false ≡ true = sym e ∙ f in cc

pub free_reads : {T : Type 0} (limited : Bool) (wrap : T → phrase.Phrase) (m : Limits) (ls rest : List Lexeme) (g : Goal) (s : phrase.State) (u : T) →
    IsClosed g → limited ≡ false → IsEndOf (tokens_seen ls) (tokens_seen rest) →
    (t : T) × (phrase.run (inside m (level g)) (symbols_seen ls) s ≡ phrase.Accept (wrap t) (symbols_seen rest)) →
    (t : T) × (limited ≡ true → t ≡ u) × (run m (tokens_seen ls) (In g s) ≡ run m (tokens_seen rest) (At (behind_phrase g (wrap t))))
free_reads limited wrap m ls rest g s u z l c h = (
  h.0,
  λ e. absurd (no_limit limited l e),
  ap (λ (ks : List Token). run m ks (In g s)) c.1
      ∙ lift_accept m c.0 (tokens_seen rest) g s (wrap h.0) z (ap (λ (ks : List Token). phrase.run (inside m (level g)) (map symbol ks) s) (sym c.1) ∙ h.1),
)

pub free_refuses : {X T : Type 0} (limited : Bool) (wrap : T → phrase.Phrase) (rest : X →
    List Lexeme) (e : ParseError) (m : Limits) (ls : List Lexeme) (g : Goal) (s : phrase.State) →
    shapes.MachineEnds wrap rest (Err e) (phrase.run (inside m (level g)) (symbols_seen ls) s) → Refuses limited e (run m (tokens_seen ls) (In g s))
free_refuses limited wrap rest stop.Memory m ls g s h = tt
free_refuses limited wrap rest (stop.Stuck n) m ls g s h = lift_stuck m (tokens_seen ls) g s n h
free_refuses limited wrap rest (stop.Deep n) m ls g s h = absurd h
free_refuses limited wrap rest stop.Long m ls g s h = lift_long m (tokens_seen ls) g s h

-- a refusal of an argument of WRITE that is passed on
-- ---- parts of arguments

-- no part of one token is taken there
abbrev pub Untaken : Node → List Token → Type 0
Untaken n [] = Unit {0}
Untaken n (t ∷ ks) = part_taken n (part_at (sort_of n) t) ≡ None

-- the arguments don't end there
abbrev pub Unended : Node → List Token → Type 0
Unended n ks = (ends n ≡ false) ⊎ HasOther ks

unmoved : (o : Sentence) (condition : Option Expr) (k : Verb) (done : List Part) (n : Node) (q : Option Part) → part_taken n q ≡ None → taken o condition k done n q ≡ Stuck
unmoved o condition k done n (Some p) e = ap (moved o condition k (done ++ p ∷ [])) e
unmoved o condition k done n None e = refl

unrested : (r : Rest) (b : Bool) (t : Token) (ks : List Token) → r.gap ≡ 1 → (b ≡ false) ⊎ HasOther (t ∷ ks) → on_rested (bare_rested b r) t ≡ Stuck
unrested r false t ks g h = refl
unrested r true t ks g (inl h) = absurd (let f : true ≡ false = h in cc)
unrested r true Blank ks g (inr h) = absurd h
unrested r true (Comment text) ks g (inr h) = absurd h
unrested r true (Word w) ks g (inr h) = ap (λ (n : ℕ). cond (n == 0) (begins r.line (verb_of w)) Stuck) g
unrested r true (Digits d) ks g (inr h) = refl
unrested r true (Signed s) ks g (inr h) = refl
unrested r true (Quoted q) ks g (inr h) = refl
unrested r true (Called w) ks g (inr h) = refl
unrested r true (Special w) ks g (inr h) = refl
unrested r true (Invoked w) ks g (inr h) = refl
unrested r true (Numbered d) ks g (inr h) = refl
unrested r true Dollars ks g (inr h) = refl
unrested r true (Unclosed x) ks g (inr h) = refl
unrested r true (Stray x) ks g (inr h) = refl

ended_none : (r : Rest) (b : Bool) → (b ≡ false) ⊎ HasOther [] → bare_rested b r ≡ None
ended_none r b (inl h) = ap (λ (x : Bool). bare_rested x r) h
ended_none r b (inr h) = absurd h

-- where nothing goes on
pub here_stuck : (m : Limits) (o : Sentence) (condition : Option Expr) (k : Verb) (done : List Part) (n : Node) (ks : List Token) → wants n ≡ None →
    Untaken n ks → Unended n ks → run m ks (At (Args o condition k done n)) ≡ refused ks
here_stuck m o condition k done n [] w u e = ap (λ (q : Option Rest). ended_of q) (ended_none (args_rest o condition k done) (ends n) e)
  where
    ended_of : Option Rest → Outcome
    ended_of (Some r) = Accept r.line
    ended_of None = StuckAt 0
here_stuck m o condition k done n (t ∷ ks) w u e =
    let r = args_rest o condition k done in
    ap (λ (x : _). turn m ks t (first (first x (on_rested (bare_rested (ends n) r) t)) (entering m (argument o condition k done (wants n)) t))) (unmoved o condition k done n (part_at (sort_of n) t) u)
    ∙ ap (λ (x : _). turn m ks t (first x (entering m (argument o condition k done (wants n)) t))) (unrested r (ends n) t ks refl e)
    ∙ ap (λ (q : Option Want). turn m ks t (entering m (argument o condition k done q) t)) w

-- where a phrase begins
pub enter_here : (m : Limits) (o : Sentence) (condition : Option Expr) (k : Verb) (done : List Part) (n : Node) (x : Want) (ks : List Token) → MayEnter x ks →
    wants n ≡ Some x → Untaken n ks → Unended n ks → run m ks (At (Args o condition k done n)) ≡ run m ks (In (Argument o condition k done x) (wanted x))
enter_here m o condition k done n x [] y w u e = ap (λ (q : Option Rest). ended_of q) (ended_none (args_rest o condition k done) (ends n) e) ∙ sym (none_read x)
  where
    ended_of : Option Rest → Outcome
    ended_of (Some r) = Accept r.line
    ended_of None = StuckAt 0

    none_read : (x : Want) → run m [] (In (Argument o condition k done x) (wanted x)) ≡ StuckAt 0
    none_read (AnExpr lv next) = refl
    none_read (AVar lv next) = refl
    none_read (ALocal next) = refl
enter_here m o condition k done n x (t ∷ ks) i w u e =
    let r = args_rest o condition k done in
    ap (λ (y : _). turn m ks t (first (first y (on_rested (bare_rested (ends n) r) t)) (entering m (argument o condition k done (wants n)) t))) (unmoved o condition k done n (part_at (sort_of n) t) u)
    ∙ ap (λ (y : _). turn m ks t (first y (entering m (argument o condition k done (wants n)) t))) (unrested r (ends n) t ks refl e)
    ∙ ap (λ (q : Option Want). turn m ks t (entering m (argument o condition k done q) t)) w
    ∙ ap (λ (b : Bool). turn m ks t (cond b (in_step m (Argument o condition k done x) (wanted x) t) Stuck)) (may_enter x t ks i)

-- a part of one token
pub token_run : (m : Limits) (o : Sentence) (condition : Option Expr) (k : Verb) (done : List Part) (n next : Node) (t : Token) (p : Part)
    (ls ks : List Token) → ls ≡ t ∷ ks → part_at (sort_of n) t ≡ Some p → takes n p ≡ Some next →
    run m ls (At (Args o condition k done n)) ≡ run m ks (At (Args o condition k (done ++ p ∷ []) next))
token_run m o condition k done n next t p ls ks l e h =
    let s = Args o condition k done n in
    ap (λ (zs : List Token). run m zs (At s)) l
    ∙ ap (λ (q : Option Part). turn m ks t (first (first (taken o condition k done n q) (on_rested (rested s) t)) (entering m (entry s) t))) e
    ∙ ap (λ (q : Option Node). turn m ks t (first (first (moved o condition k (done ++ p ∷ []) q) (on_rested (rested s) t)) (entering m (entry s) t))) h

-- a sign is a part wherever it stands
pub sign_at : (b : Sort) (z : Sign) → part_at b (Signed z) ≡ Some (Put z)
sign_at Names z = refl
sign_at Labels z = refl
sign_at Serials z = refl

-- what was read of arguments, from a place to another
abbrev pub Went : Bool → List Part → Limits → List Lexeme → Node → List Lexeme → Node → Sentence → Option Expr → Verb → List Part → Type 0
Went limited ps m ls n rest next o condition k done =
    (t : List Part) × (limited ≡ true → t ≡ ps) × (run m (tokens_seen ls) (At (Args o condition k done n)) ≡ run m (tokens_seen rest) (At (Args o condition k (done ++ t) next)))

-- and more behind it
pub went_then : (limited : Bool) (ps qs : List Part) (m : Limits) (ls : List Lexeme) (n : Node) (ms : List Lexeme) (mid : Node) (rest : List Lexeme)
    (next : Node) (o : Sentence) (condition : Option Expr) (k : Verb) (done : List Part) →
    Went limited ps m ls n ms mid o condition k done → ((d : List Part) → Went limited qs m ms mid rest next o condition k d) → Went limited (ps ++ qs) m ls n rest next o condition k done
went_then limited ps qs m ls n ms mid rest next o condition k done a f =
    let b = f (done ++ a.0) in (
      a.0 ++ b.0,
      λ l. ap (λ (zs : List Part). zs ++ b.0) (a.1 l) ∙ ap (λ (zs : List Part). ps ++ zs) (b.1 l),
      a.2 ∙ b.2 ∙ ap (λ (zs : List Part). run m (tokens_seen rest) (At (Args o condition k zs next))) (append_assoc done a.0 b.0),
    )

pub went_as : (limited : Bool) (ps qs : List Part) (m : Limits) (ls : List Lexeme) (n : Node) (rest : List Lexeme) (next : Node) (o : Sentence)
    (condition : Option Expr) (k : Verb) (done : List Part) → ps ≡ qs → Went limited ps m ls n rest next o condition k done →
    Went limited qs m ls n rest next o condition k done
went_as limited ps qs m ls n rest next o condition k done e a = (a.0, λ l. a.1 l ∙ e, a.2)

pub went_token : (limited : Bool) (t : Token) (p : Part) (m : Limits) (ls : List Lexeme) (n : Node) (rest : List Lexeme) (next : Node) (o : Sentence)
    (condition : Option Expr) (k : Verb) (done : List Part) → tokens_seen ls ≡ t ∷ tokens_seen rest → part_at (sort_of n) t ≡ Some p → takes n p ≡ Some next →
    Went limited (p ∷ []) m ls n rest next o condition k done
went_token limited t p m ls n rest next o condition k done l e h = (p ∷ [], λ x. refl, token_run m o condition k done n next t p (tokens_seen ls) (tokens_seen rest) l e h)

-- a phrase that was read
pub went_text : (limited : Bool) (lv : ℕ) (e : Expr) (m : Limits) (ls : List Lexeme) (n : Node) (rest : List Lexeme) (next : Node) (o : Sentence)
    (condition : Option Expr) (k : Verb) (done : List Part) → wants n ≡ Some (AnExpr lv next) → Untaken n (tokens_seen ls) → Unended n (tokens_seen ls) →
    (t : Expr) × (limited ≡ true → t ≡ e) × (run m (tokens_seen ls) (In (Argument o condition k done (AnExpr lv next)) expression_wanted) ≡
    run m (tokens_seen rest) (At (behind_phrase (Argument o condition k done (AnExpr lv next)) (phrase.Whole t)))) →
    Went limited (Text lv e ∷ []) m ls n rest next o condition k done
went_text limited lv e m ls n rest next o condition k done w u z h =
    (Text lv h.0 ∷ [], λ l. ap (λ (x : Expr). Text lv x ∷ []) (h.1 l), enter_here m o condition k done n (AnExpr lv next) (tokens_seen ls) tt w u z ∙ h.2)

pub went_place : (limited : Bool) (lv : ℕ) (v : Variable) (m : Limits) (ls : List Lexeme) (n : Node) (rest : List Lexeme) (next : Node) (o : Sentence)
    (condition : Option Expr) (k : Verb) (done : List Part) → wants n ≡ Some (AVar lv next) → Untaken n (tokens_seen ls) → Unended n (tokens_seen ls) →
    (t : Variable) × (limited ≡ true → t ≡ v) × (run m (tokens_seen ls) (In (Argument o condition k done (AVar lv next)) variable_wanted) ≡
    run m (tokens_seen rest) (At (behind_phrase (Argument o condition k done (AVar lv next)) (phrase.Target t)))) →
    Went limited (Place lv v ∷ []) m ls n rest next o condition k done
went_place limited lv v m ls n rest next o condition k done w u z h =
    (Place lv h.0 ∷ [], λ l. ap (λ (x : Variable). Place lv x ∷ []) (h.1 l), enter_here m o condition k done n (AVar lv next) (tokens_seen ls) tt w u z ∙ h.2)

-- a refusal behind what was read
pub fails_then : (limited : Bool) (ps : List Part) (e : ParseError) (m : Limits) (ls : List Lexeme) (n : Node) (ms : List Lexeme) (mid : Node) (o : Sentence)
    (condition : Option Expr) (k : Verb) (done : List Part) →
    Went limited ps m ls n ms mid o condition k done → ((d : List Part) → Refuses limited e (run m (tokens_seen ms) (At (Args o condition k d mid)))) →
    Refuses limited e (run m (tokens_seen ls) (At (Args o condition k done n)))
fails_then limited ps e m ls n ms mid o condition k done a f = refuses_from limited e _ _ a.2 (f (done ++ a.0))

-- a refusal of a phrase
pub fails_enter : (limited : Bool) (e : ParseError) (m : Limits) (ls : List Lexeme) (n : Node) (x : Want) (o : Sentence) (condition : Option Expr) (k : Verb)
    (done : List Part) → MayEnter x (tokens_seen ls) → wants n ≡ Some x → Untaken n (tokens_seen ls) → Unended n (tokens_seen ls) →
    Refuses limited e (run m (tokens_seen ls) (In (Argument o condition k done x) (wanted x))) → Refuses limited e (run m (tokens_seen ls) (At (Args o condition k done n)))
fails_enter limited e m ls n x o condition k done y w u z h = refuses_from limited e _ _ (enter_here m o condition k done n x (tokens_seen ls) y w u z) h

-- a refusal where nothing goes on
pub fails_here : (limited : Bool) (e : ParseError) (m : Limits) (ls : List Lexeme) (n : Node) (o : Sentence) (condition : Option Expr) (k : Verb) (done : List Part) →
    wants n ≡ None → Untaken n (tokens_seen ls) → Unended n (tokens_seen ls) → Refuses limited e (refused (tokens_seen ls)) →
    Refuses limited e (run m (tokens_seen ls) (At (Args o condition k done n)))
fails_here limited e m ls n o condition k done w u z h = refuses_from limited e _ _ (here_stuck m o condition k done n (tokens_seen ls) w u z) h

-- ---- what is not taken

-- the sign in front isn't
abbrev pub SignUntaken : Node → List Token → Type 0
SignUntaken n (Signed s ∷ ks) = takes n (Put s) ≡ None
SignUntaken n ks = Unit {0}

pub untaken_by : (n : Node) (ks : List Token) → sort_of n ≡ Names → ((w : List ℕ) → takes n (Named w) ≡ None) → takes n PieceCall ≡ None → SignUntaken n ks → Untaken n ks
untaken_by n [] z h i j = tt
untaken_by n (t ∷ ks) z h i j = let P : Sort → Type 0 = λ b. part_taken n (part_at b t) ≡ None in subst P (sym z) (untaken_part n t ks h i j)
  where
    untaken_part : (n : Node) (t : Token) (ks : List Token) → ((w : List ℕ) → takes n (Named w) ≡ None) → takes n PieceCall ≡ None → SignUntaken n (t ∷ ks) → part_taken n (part_of t) ≡ None
    untaken_part n (Signed s) ks h i j = j
    untaken_part n (Word w) ks h i j = word_apart n w (nat_le (length w) 31) (h w)
    untaken_part n (Called w) ks h i j = called_apart n (callee_of w) (nat_le (length w) 31) i
    untaken_part n t ks h i j = refl

pub no_sign : (n : Node) (ks : List Token) → ((s : Sign) → takes n (Put s) ≡ None) → SignUntaken n ks
no_sign n [] h = tt
no_sign n (Signed s ∷ ks) h = h s
no_sign n (t ∷ ks) h = tt

-- the sign is another one
only_comma : (n : Node) (ks : List Token) → ((s : Sign) → (takes n (Put s) ≡ None) ⊎ (s ≡ Comma)) → HasNoComma ks → SignUntaken n ks
only_comma n [] h i = tt
only_comma n (Signed s ∷ ks) h i = by s (h s) i
  where
    by : (s : Sign) → (takes n (Put s) ≡ None) ⊎ (s ≡ Comma) → HasNoComma (Signed s ∷ ks) → takes n (Put s) ≡ None
    by s (inl e) z = e
    by s (inr e) z = absurd (let P : Sign → Type 0 = λ x. HasNoComma (Signed x ∷ ks) in subst P e z)
only_comma n (t ∷ ks) h i = tt

pub comma_untaken : (n : Node) (ks : List Token) → sort_of n ≡ Names → ((w : List ℕ) → takes n (Named w) ≡ None) → takes n PieceCall ≡ None →
    ((s : Sign) → (takes n (Put s) ≡ None) ⊎ (s ≡ Comma)) → HasNoComma ks → Untaken n ks
comma_untaken n ks l h i j z = untaken_by n ks l h i (only_comma n ks j z)

-- one item more, behind a comma
pub commas_more : {A : Type 0} (parts : A → List Part) (xs : List A) (y : A) → 1 ≤ length xs → with_commas parts (xs ++ y ∷ []) ≡ with_commas parts xs ++ (Put Comma ∷ parts y)
commas_more parts [] y h = absurd (omega arith)
commas_more parts (x ∷ xs) y h = ap (λ (zs : List Part). parts x ++ zs) (behind_more parts xs y) ∙ sym (append_assoc (parts x) (behind_commas parts xs) (Put Comma ∷ parts y))
  where
    behind_more : {A : Type 0} (parts : A → List Part) (xs : List A) (y : A) → behind_commas parts (xs ++ y ∷ []) ≡ behind_commas parts xs ++ (Put Comma ∷ parts y)
    behind_more parts [] y = ap (λ (zs : List Part). Put Comma ∷ zs) (append-nil (parts y))
    behind_more parts (x ∷ xs) y = ap (λ (zs : List Part). Put Comma ∷ (parts x ++ zs)) (behind_more parts xs y) ∙
        ap (λ (zs : List Part). Put Comma ∷ zs) (sym (append_assoc (parts x) (behind_commas parts xs) (Put Comma ∷ parts y)))

-- the parts of items that are kept, with one more
-- the parts of the first
pub kept_length : {X : Type 0} (old new : List X) (x : X) → new ≡ old ++ x ∷ [] → 1 ≤ length new
kept_length {X = X} old new x e = let n = ap (length {A = X}) e in let k = length-append old (x ∷ []) in omega arith

-- a name that is none
pub kept_untaken_word : (n : Node) (w : List ℕ) (b : Bool) → nat_le (length w) 31 ≡ b → (length w ≤ 31 → ⊥) → part_taken n (cond b (Some (Named w)) None) ≡ None
kept_untaken_word n w true e h = absurd (h (grind (arith, nat_tests)))
kept_untaken_word n w false e h = refl

-- a name where one is taken
pub went_word : (limited : Bool) (m : Limits) (n next : Node) (ls rest : List Lexeme) (w t : List ℕ) (o : Sentence) (condition : Option Expr) (k : Verb)
    (done : List Part) → sort_of n ≡ Names → takes n (Named w) ≡ Some next → tokens_seen ls ≡ Word w ∷ tokens_seen rest → length w ≤ 31 → t ≡ w →
    Went limited (Named t ∷ []) m ls n rest next o condition k done
went_word limited m n next ls rest w t o condition k done z f l h e =
    let P : Sort → Type 0 = λ b. part_at b (Word w) ≡ Some (Named w) in
    went_as limited (Named w ∷ []) (Named t ∷ []) m ls n rest next o condition k done (ap (λ (z : List ℕ). Named z ∷ []) (sym e))
    (went_token limited (Word w) (Named w) m ls n rest next o condition k done l
    (subst P (sym z) (ap (λ (b : Bool). cond b (Some (Named w)) None) (let z : nat_le (length w) 31 ≡ true = grind (arith, nat_tests) in z))) f)

-- two places that the same tokens lead on from alike
abbrev pub SameAt : Limits → Node → Node → List Token → Type 0
SameAt m n q ks = (o : Sentence) (condition : Option Expr) (k : Verb) (done : List Part) → run m ks (At (Args o condition k done n)) ≡ run m ks (At (Args o condition k done q))

pub went_same : (limited : Bool) (m : Limits) (n q : Node) (ls : List Lexeme) (o : Sentence) (condition : Option Expr) (k : Verb) (done : List Part) →
    SameAt m n q (tokens_seen ls) → Went limited [] m ls n ls q o condition k done
went_same limited m n q ls o condition k done h = ([], λ l. refl, h o condition k done ∙ ap (λ (ps : List Part). run m (tokens_seen ls) (At (Args o condition k ps q))) (sym (append-nil done)))

pub name_neither : (m : Limits) (n q : Node) (w : List ℕ) (ks : List Token) (o : Sentence) (condition : Option Expr) (k : Verb) (done : List Part) (b : Bool)
    (r : Next) → takes n (Named w) ≡ None → takes q (Named w) ≡ None →
    turn m ks (Word w) (first (first (taken o condition k done n (cond b (Some (Named w)) None)) r) Stuck) ≡
    turn m ks (Word w) (first (first (taken o condition k done q (cond b (Some (Named w)) None)) r) Stuck)
name_neither m n q w ks o condition k done true r e f =
    ap (λ (x : Option Node). turn m ks (Word w) (first (first (moved o condition k (done ++ Named w ∷ []) x) r) Stuck)) e
    ∙ sym (ap (λ (x : Option Node). turn m ks (Word w) (first (first (moved o condition k (done ++ Named w ∷ []) x) r) Stuck)) f)
name_neither m n q w ks o condition k done false r e f = refl

pub piece_neither : (m : Limits) (n q : Node) (w : List ℕ) (ks : List Token) (o : Sentence) (condition : Option Expr) (k : Verb) (done : List Part)
    (x : Option Part) (r : Next) → part_taken n x ≡ None → part_taken q x ≡ None →
    turn m ks (Called w) (first (first (taken o condition k done n x) r) Stuck) ≡ turn m ks (Called w) (first (first (taken o condition k done q x) r) Stuck)
piece_neither m n q w ks o condition k done x r e f =
    ap (λ (y : Next). turn m ks (Called w) (first (first y r) Stuck)) (unmoved o condition k done n x e ∙ sym (unmoved o condition k done q x f))

-- what was read stands so to what is given
abbrev pub WentAs : Bool → (List Part → Type 0) → Limits → List Lexeme → Node → List Lexeme → Node → Sentence → Option Expr → Verb → List Part → Type 0
WentAs limited is m ls n rest next o condition k done =
    (t : List Part) × (limited ≡ true → is t) × (run m (tokens_seen ls) (At (Args o condition k done n)) ≡ run m (tokens_seen rest) (At (Args o condition k (done ++ t) next)))

pub joined : (limited : Bool) (P Q R : List Part → Type 0) (m : Limits) (ls : List Lexeme) (n : Node) (ms : List Lexeme) (mid : Node) (rest : List Lexeme)
    (next : Node) (o : Sentence) (condition : Option Expr) (k : Verb) (done : List Part) →
    ((ps qs : List Part) → P ps → Q qs → R (ps ++ qs)) → WentAs limited P m ls n ms mid o condition k done →
    ((d : List Part) → WentAs limited Q m ms mid rest next o condition k d) → WentAs limited R m ls n rest next o condition k done
joined limited P Q R m ls n ms mid rest next o condition k done j a f =
    let b = f (done ++ a.0) in (
      a.0 ++ b.0,
      λ l. j a.0 b.0 (a.1 l) (b.1 l),
      a.2 ∙ b.2 ∙ ap (λ (zs : List Part). run m (tokens_seen rest) (At (Args o condition k zs next))) (append_assoc done a.0 b.0),
    )

pub went_by : (limited : Bool) (P Q : List Part → Type 0) (m : Limits) (ls : List Lexeme) (n : Node) (rest : List Lexeme) (next : Node) (o : Sentence)
    (condition : Option Expr) (k : Verb) (done : List Part) → ((ps : List Part) → P ps → Q ps) → WentAs limited P m ls n rest next o condition k done →
    WentAs limited Q m ls n rest next o condition k done
went_by limited P Q m ls n rest next o condition k done f a = (a.0, λ l. f a.0 (a.1 l), a.2)

pub fails_behind : (limited : Bool) (P : List Part → Type 0) (e : ParseError) (m : Limits) (ls : List Lexeme) (n : Node) (ms : List Lexeme) (mid : Node)
    (o : Sentence) (condition : Option Expr) (k : Verb) (done : List Part) →
    WentAs limited P m ls n ms mid o condition k done → ((d : List Part) → Refuses limited e (run m (tokens_seen ms) (At (Args o condition k d mid)))) →
    Refuses limited e (run m (tokens_seen ls) (At (Args o condition k done n)))
fails_behind limited P e m ls n ms mid o condition k done a f = refuses_from limited e _ _ a.2 (f (done ++ a.0))

-- where a command may end
pub parted_same : (ks : List Token) → HasParted ks → Parted ks
parted_same [] h = tt
parted_same (Blank ∷ ks) h = tt
parted_same (Comment text ∷ ks) h = tt
parted_same (Word w ∷ ks) h = absurd h
parted_same (Digits d ∷ ks) h = absurd h
parted_same (Signed s ∷ ks) h = absurd h
parted_same (Quoted q ∷ ks) h = absurd h
parted_same (Called w ∷ ks) h = absurd h
parted_same (Special w ∷ ks) h = absurd h
parted_same (Invoked w ∷ ks) h = absurd h
parted_same (Numbered d ∷ ks) h = absurd h
parted_same (Dollars ∷ ks) h = absurd h
parted_same (Unclosed t ∷ ks) h = absurd h
parted_same (Stray b ∷ ks) h = absurd h

pub args_end : (m : Limits) (o : Sentence) (condition : Option Expr) (k : Verb) (done : List Part) (n : Node) (ks : List Token) → ends n ≡ true → HasParted ks →
    run m ks (At (Args o condition k done n)) ≡ run m ks (At (Behind (args_rest o condition k done)))
args_end m o condition k done n ks e h = run_rests m (Args o condition k done n) (args_rest o condition k done) ks (args_rests o condition k done n e) (parted_same ks h)
