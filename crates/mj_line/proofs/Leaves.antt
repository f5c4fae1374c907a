-- What may still follow at a state, in the words of the grammar.
use Rattle.std.proofs.Common.{◌≡◌, ℕ, zero, suc, ◌-◌, List, [], ◌∷◌, ◌++◌, refl, ap, sym, ◌∙◌, subst, true, append_assoc, append-nil, arith, Option, Some, None, map, ◌⊎◌, inl, inr}
use Rattle.mj_ast.specs.declared.sign.Sign.TheVariants.{Comma, Open, Close, Dot}
use Rattle.mj_ast.specs.declared.keyword.Verb.{Verb}
use Rattle.mj_ast.specs.declared.expr.Scope.TheVariants.{Local, Global}
use Rattle.mj_ast.specs.Syntax.{Expr, Variable, Var}
use Rattle.mj_ast.specs.Tokens.{Token, Word, Signed, Blank}
use Rattle.mj_ast.specs.Expressions.{Symbol, Name, symbol, Spells, expressions, variable_symbols}
use Rattle.mj_ast.specs.Commands.{Part, Text, Place, Control, is_local, bare_of, SpellsParts, SpellsCondition, IsConditional}
use Rattle.mj_ast.specs.Lines.{SpellsEnd, SpellsLabel, SpellsFormals, SpellsDots, comma_names, name_tokens, comment_gap, gap_behind}
use Rattle.mj_expr.specs.Machine as phrase
use Rattle.mj_expr.proofs.Zipper.{Kind, AnExpression, AVariable, IsKind, phrase_symbols, phrase_misfits}
use Rattle.mj_expr.proofs.Room.{sofar}
use Rattle.mj_line.specs.Forms.{Node, Want, AnExpr, AVar, ALocal, wants, first_node, may_be_bare, PartsFit}
use Rattle.mj_line.specs.Sentences.{Clause, Sentence, SpellsClauses, SpellsSentence}
use Rattle.mj_line.specs.Machine.{Rest, Spot, Begin, Labelled, FormalsOpened, FormalWanted, FormalBehind, FormalsEnd, Indented, Behind, Over, Worded, Asked, Bare, Args, Goal, Condition, Argument, State, At, In, headed, dotted, is_new, bare_rest, args_rest, start, wanted, behind_phrase, behind_want, argument, entry}
use Rattle.mj_line.proofs.Formals.{AreNew, new_formals, dotted_by, dotted_is}

-- the rest of the commands
pub record Follows (r : Rest) (ks : List Token) (l : Sentence) : Type 0 where
  pub clauses : List Clause
  pub whole : l ≡ record { label = r.line.label; formals = r.line.formals; level = r.line.level; clauses = r.line.clauses ++ clauses }
  pub spells : SpellsClauses r.gap r.comment ks clauses

-- dots, and the commands behind them
pub record DotsLeaves (g c : ℕ) (o : Sentence) (ks : List Token) (l : Sentence) : Type 0 where
  pub dots : ℕ
  pub front : List Token
  pub rest : List Token
  pub cut : ks ≡ front ++ rest
  pub spells : SpellsDots g front dots
  pub follows : Follows (record { line = dotted_by dots o; gap = gap_behind dots g; comment = gap_behind dots c }) rest l

-- formals, or none, and what follows them
pub record FormalsLeaves (label : List ℕ) (ks : List Token) (l : Sentence) : Type 0 where
  pub formals : List (List ℕ)
  pub front : List Token
  pub rest : List Token
  pub cut : ks ≡ front ++ rest
  pub spells : SpellsFormals (Some label) front formals
  pub follows : DotsLeaves 1 1 (headed label formals) rest l

-- further names, each behind a comma, and a `)`
pub record NamesLeaves (label : List ℕ) (names : List (List ℕ)) (ks : List Token) (l : Sentence) : Type 0 where
  pub more : List (List ℕ)
  pub rest : List Token
  pub cut : ks ≡ comma_names more ++ Signed Close ∷ rest
  pub new : AreNew names more
  pub follows : DotsLeaves 1 1 (headed label (names ++ more)) rest l

-- a name, and further ones
pub record NameLeaves (label : List ℕ) (names : List (List ℕ)) (ks : List Token) (l : Sentence) : Type 0 where
  pub word : List ℕ
  pub rest : List Token
  pub cut : ks ≡ Word word ∷ rest
  pub new : is_new names word ≡ true
  pub follows : NamesLeaves label (names ++ word ∷ []) rest l

-- names, or a `)` at once
abbrev pub OpenedLeaves : List ℕ → List Token → Sentence → Type 0
OpenedLeaves label ks l = NameLeaves label [] ks l ⊎ ((rest : List Token) × (ks ≡ Signed Close ∷ rest) × DotsLeaves 1 1 (headed label []) rest l)

-- further parts of arguments, and what follows them
pub record ArgsLeaves (o : Sentence) (condition : Option Expr) (k : Verb) (done : List Part) (n : Node) (ks : List Token) (l : Sentence) : Type 0 where
  pub more : List Part
  pub front : List Token
  pub rest : List Token
  pub cut : ks ≡ front ++ rest
  pub fits : PartsFit n more
  pub spells : SpellsParts front more
  pub follows : Follows (args_rest o condition k (done ++ more)) rest l

-- a blank and arguments
pub record BlankLeaves (o : Sentence) (condition : Option Expr) (k : Verb) (ks : List Token) (l : Sentence) : Type 0 where
  pub node : Node
  pub rest : List Token
  pub node_is : first_node k ≡ Some node
  pub cut : ks ≡ Blank ∷ rest
  pub follows : ArgsLeaves o condition k [] node rest l

-- no arguments, or some
abbrev pub BareLeaves : Sentence → Option Expr → Verb → List Token → Sentence → Type 0
BareLeaves o condition k ks l = ((may_be_bare k ≡ true) × Follows (bare_rest o condition k) ks l) ⊎ BlankLeaves o condition k ks l

-- a condition, and what follows it
pub record WordLeaves (o : Sentence) (k : Verb) (ks : List Token) (l : Sentence) : Type 0 where
  pub condition : Option Expr
  pub front : List Token
  pub rest : List Token
  pub cut : ks ≡ front ++ rest
  pub spells : SpellsCondition front condition
  pub conditional : IsConditional (bare_of k) condition
  pub follows : BareLeaves o condition k rest l

-- the expression of a condition
pub record AskedLeaves (o : Sentence) (k : Verb) (ks : List Token) (l : Sentence) : Type 0 where
  pub value : Expr
  pub front : List Token
  pub rest : List Token
  pub cut : ks ≡ front ++ rest
  pub spells : Spells expressions front value
  pub follows : BareLeaves o (Some value) k rest l

abbrev pub Leaves : Spot → List Token → Sentence → Type 0
Leaves Begin ks l = SpellsSentence ks l
Leaves (Labelled label) ks l = FormalsLeaves label ks l
Leaves (FormalsOpened label) ks l = OpenedLeaves label ks l
Leaves (FormalWanted label names) ks l = NameLeaves label names ks l
Leaves (FormalBehind label names) ks l = NamesLeaves label names ks l
Leaves (FormalsEnd label names) ks l = DotsLeaves 1 1 (headed label names) ks l
Leaves (Indented o) ks l = DotsLeaves 0 0 o ks l
Leaves (Behind r) ks l = Follows r ks l
Leaves (Over o) ks l = (ks ≡ []) × (l ≡ o)
Leaves (Worded o k) ks l = WordLeaves o k ks l
Leaves (Asked o k) ks l = AskedLeaves o k ks l
Leaves (Bare o condition k) ks l = BareLeaves o condition k ks l
Leaves (Args o condition k done n) ks l = ArgsLeaves o condition k done n ks l

abbrev pub want_kind : Want → Kind
want_kind (AnExpr level next) = AnExpression
want_kind (AVar level next) = AVariable
want_kind (ALocal next) = AVariable

abbrev pub kind : Goal → Kind
kind (Condition l k) = AnExpression
kind (Argument l condition k done w) = want_kind w

-- where a local is wanted, the variable is one
abbrev pub SuitsWant : Want → phrase.Phrase → Type 0
SuitsWant (ALocal next) (phrase.Target v) = is_local v ≡ true
SuitsWant w p = Unit {0}

abbrev pub Suits : Goal → phrase.Phrase → Type 0
Suits (Condition l k) p = Unit {0}
Suits (Argument l condition k done w) p = SuitsWant w p

-- the rest of a phrase, and what follows it
pub record PhraseLeaves (g : Goal) (s : phrase.State) (ks : List Token) (l : Sentence) : Type 0 where
  pub phrase : phrase.Phrase
  pub front : List Token
  pub rest : List Token
  pub kind_is : IsKind (kind g) phrase
  pub suits : Suits g phrase
  pub cut : ks ≡ front ++ rest
  pub spells : sofar s ++ map symbol front ≡ phrase_symbols phrase
  pub formed : phrase_misfits phrase ≡ 0
  pub follows : Leaves (behind_phrase g phrase) rest l

abbrev pub StateLeaves : State → List Token → Sentence → Type 0
StateLeaves (At p) ks l = Leaves p ks l
StateLeaves (In g s) ks l = PhraseLeaves g s ks l

-- what may follow there may follow here, behind these tokens
abbrev pub Leads : State → List Token → State → Type 0
Leads s front t = (rest : List Token) (l : Sentence) → StateLeaves t rest l → StateLeaves s (front ++ rest) l

-- ---- what begins without a `^` is a local

-- what was read of a phrase for a local begins with a name
abbrev BegunWant : Want → List Symbol → Type 0
BegunWant (ALocal next) (Name word ∷ ks) = Unit {0}
BegunWant (ALocal next) ks = ⊥
BegunWant w ks = Unit {0}

abbrev pub Begun : Goal → List Symbol → Type 0
Begun (Condition l k) ks = Unit {0}
Begun (Argument l condition k done w) ks = BegunWant w ks

begun_want : (w : Want) (ks more : List Symbol) → BegunWant w ks → BegunWant w (ks ++ more)
begun_want (ALocal next) (Name word ∷ ks) more h = tt
begun_want (ALocal next) ks more h = absurd h
begun_want (AnExpr level next) ks more h = tt
begun_want (AVar level next) ks more h = tt

-- and so does what is read on
pub begun_more : (g : Goal) (ks more : List Symbol) → Begun g ks → Begun g (ks ++ more)
begun_more (Condition l k) ks more h = tt
begun_more (Argument l condition k done w) ks more h = begun_want w ks more h

local_suits : (next : Node) (v : Variable) (ks more : List Symbol) → BegunWant (ALocal next) ks → ks ++ more ≡ variable_symbols v → is_local v ≡ true
local_suits next (Var Local word es) ks more h e = refl
local_suits next (Var Global word es) (Name x ∷ ks) more h e = absurd (let f : Name x ∷ (ks ++ more) ≡ variable_symbols (Var Global word es) = e in cc)
local_suits next (Var Global word es) ks more h e = absurd h

want_suits : (w : Want) (p : phrase.Phrase) (ks more : List Symbol) → BegunWant w ks → ks ++ more ≡ phrase_symbols p → SuitsWant w p
want_suits (ALocal next) (phrase.Target v) ks more h e = local_suits next v ks more h e
want_suits (ALocal next) (phrase.Whole x) ks more h e = tt
want_suits (AnExpr level next) p ks more h e = tt
want_suits (AVar level next) p ks more h e = tt

-- a phrase that begins so
pub begun_suits : (g : Goal) (p : phrase.Phrase) (ks more : List Symbol) → Begun g ks → ks ++ more ≡ phrase_symbols p → Suits g p
begun_suits (Condition l k) p ks more h e = tt
begun_suits (Argument l condition k done w) p ks more h e = want_suits w p ks more h e

-- ---- a phrase begins

condition_as : (o : Sentence) (k : Verb) (ks : List Token) (l : Sentence) (p : phrase.Phrase) (front rest : List Token) → IsKind AnExpression p →
    ks ≡ front ++ rest → (map symbol front ≡ phrase_symbols p) × (phrase_misfits p ≡ 0) →
    Leaves (behind_phrase (Condition o k) p) rest l → AskedLeaves o k ks l
condition_as o k ks l (phrase.Target v) front rest i c s f = absurd i
condition_as o k ks l (phrase.Whole e) front rest i c s f = record { value = e; front = front; rest = rest; cut = c; spells = s; follows = f }

argument_as : (o : Sentence) (condition : Option Expr) (k : Verb) (done : List Part) (n : Node) (w : Want) → wants n ≡ Some w →
    (ks : List Token) (l : Sentence) (p : phrase.Phrase) (front rest : List Token) → IsKind (want_kind w) p → SuitsWant w p → ks ≡ front ++ rest →
    (map symbol front ≡ phrase_symbols p) × (phrase_misfits p ≡ 0) →
    Leaves (behind_want o condition k done w p) rest l → ArgsLeaves o condition k done n ks l
argument_as o condition k done n (AnExpr level next) e ks l (phrase.Whole x) front rest i z c s f =
    let F : List Part → Type 0 = λ ps. Follows (args_rest o condition k ps) f.rest l in
    record {
      more = Text level x ∷ f.more;
      front = front ++ f.front;
      rest = f.rest;
      cut = c ∙ ap (λ (zs : List Token). front ++ zs) f.cut ∙ sym (append_assoc front f.front f.rest);
      fits = (next, e, f.fits);
      spells = (front, f.front, refl, s, f.spells);
      follows = subst F (append_assoc done (Text level x ∷ []) f.more) f.follows;
    }
argument_as o condition k done n (AVar level next) e ks l (phrase.Target v) front rest i z c s f =
    let F : List Part → Type 0 = λ ps. Follows (args_rest o condition k ps) f.rest l in
    record {
      more = Place level v ∷ f.more;
      front = front ++ f.front;
      rest = f.rest;
      cut = c ∙ ap (λ (zs : List Token). front ++ zs) f.cut ∙ sym (append_assoc front f.front f.rest);
      fits = (next, e, f.fits);
      spells = (front, f.front, refl, s, f.spells);
      follows = subst F (append_assoc done (Place level v ∷ []) f.more) f.follows;
    }
argument_as o condition k done n (ALocal next) e ks l (phrase.Target v) front rest i z c s f =
    let F : List Part → Type 0 = λ ps. Follows (args_rest o condition k ps) f.rest l in
    record {
      more = Control v ∷ f.more;
      front = front ++ f.front;
      rest = f.rest;
      cut = c ∙ ap (λ (zs : List Token). front ++ zs) f.cut ∙ sym (append_assoc front f.front f.rest);
      fits = (next, (e, z), f.fits);
      spells = (front, f.front, refl, s, f.spells);
      follows = subst F (append_assoc done (Control v ∷ []) f.more) f.follows;
    }
argument_as o condition k done n (AnExpr level next) e ks l (phrase.Target v) front rest i z c s f = absurd i
argument_as o condition k done n (AVar level next) e ks l (phrase.Whole x) front rest i z c s f = absurd i
argument_as o condition k done n (ALocal next) e ks l (phrase.Whole x) front rest i z c s f = absurd i

-- what may follow the beginning of a phrase may follow where it begins
abbrev pub EntryLeads : Spot → Option Goal → Type 0
EntryLeads p (Some g) = Leads (At p) [] (In g (start g))
EntryLeads p None = Unit {0}

want_sofar : (w : Want) → sofar (wanted w) ≡ []
want_sofar (AnExpr level next) = refl
want_sofar (AVar level next) = refl
want_sofar (ALocal next) = refl

want_leads : (o : Sentence) (condition : Option Expr) (k : Verb) (done : List Part) (n : Node) (q : Option Want) → wants n ≡ q → EntryLeads (Args o condition k done n) (argument o condition k done q)
want_leads o condition k done n (Some w) e = λ rest l f. argument_as o condition k done n w e rest l f.phrase f.front f.rest f.kind_is f.suits f.cut
    (ap (λ (zs : List _). zs ++ map symbol f.front) (sym (want_sofar w)) ∙ f.spells, f.formed) f.follows
want_leads o condition k done n None e = tt

pub entry_leads : (p : Spot) → EntryLeads p (entry p)
entry_leads Begin = tt
entry_leads (Labelled label) = tt
entry_leads (FormalsOpened label) = tt
entry_leads (FormalWanted label names) = tt
entry_leads (FormalBehind label names) = tt
entry_leads (FormalsEnd label names) = tt
entry_leads (Indented l) = tt
entry_leads (Behind r) = tt
entry_leads (Over l) = tt
entry_leads (Worded l k) = tt
entry_leads (Asked l k) = λ rest o f. condition_as l k rest o f.phrase f.front f.rest f.kind_is f.cut (f.spells, f.formed) f.follows
entry_leads (Bare l condition k) = tt
entry_leads (Args l condition k done n) = want_leads l condition k done n (wants n) refl

-- ---- in front of commands

blank_end : (g c : ℕ) (ks : List Token) → SpellsEnd (c - 1) ks → SpellsEnd c (Blank ∷ ks)
blank_end g c ks (inl h) = inl (suc h.0, ap (λ (zs : List Token). Blank ∷ zs) h.1)
blank_end g c ks (inr h) = inr (suc h.0, h.1, (let n = h.2 in omega arith), ap (λ (zs : List Token). Blank ∷ zs) h.3)

pub blank_clauses : (g c : ℕ) (ks : List Token) (ss : List Clause) → SpellsClauses (g - 1) (c - 1) ks ss → SpellsClauses g c (Blank ∷ ks) ss
blank_clauses g c ks [] h = blank_end g c ks h
blank_clauses g c ks (s ∷ ss) h = (suc h.0, h.1, h.2, (let n = h.3 in omega arith), ap (λ (zs : List Token). Blank ∷ zs) h.4, h.5, h.6)

-- no dots
pub dots_none : (g c : ℕ) (o : Sentence) (ks : List Token) (l : Sentence) → Follows (record { line = o; gap = g; comment = c }) ks l → DotsLeaves g c o ks l
dots_none g c o ks l f = record { dots = 0; front = []; rest = ks; cut = refl; spells = refl; follows = f }

-- behind a blank
blank_as : (g c : ℕ) (o : Sentence) (ks : List Token) (l : Sentence) (dots : ℕ) (front rest : List Token) → ks ≡ front ++ rest → SpellsDots (g - 1) front dots →
    Follows (record { line = dotted_by dots o; gap = gap_behind dots (g - 1); comment = gap_behind dots (c - 1) }) rest l → DotsLeaves g c o (Blank ∷ ks) l
blank_as g c o ks l zero front rest e s f = record {
  dots = 0;
  front = [];
  rest = Blank ∷ rest;
  cut = ap (λ (zs : List Token). Blank ∷ zs) (e ∙ ap (λ (zs : List Token). zs ++ rest) s);
  spells = refl;
  follows = record { clauses = f.clauses; whole = f.whole; spells = blank_clauses g c rest f.clauses f.spells };
}
blank_as g c o ks l (suc dots) front rest e s f = record {
  dots = suc dots;
  front = Blank ∷ front;
  rest = rest;
  cut = ap (λ (zs : List Token). Blank ∷ zs) e;
  spells = (suc s.0, s.1, (let n = s.2 in omega arith), ap (λ (zs : List Token). Blank ∷ zs) s.3, s.4);
  follows = f;
}

pub blank_dots : (g c : ℕ) (o : Sentence) (ks : List Token) (l : Sentence) → DotsLeaves (g - 1) (c - 1) o ks l → DotsLeaves g c o (Blank ∷ ks) l
blank_dots g c o ks l f = blank_as g c o ks l f.dots f.front f.rest f.cut f.spells f.follows

-- behind a dot
dot_follows : (dots : ℕ) (o : Sentence) (ks : List Token) (l : Sentence) →
    Follows (record { line = o; gap = gap_behind dots 0; comment = gap_behind dots 0 }) ks l → Follows (record { line = o; gap = 0; comment = 0 }) ks l
dot_follows zero o ks l f = f
dot_follows (suc dots) o ks l f = f

pub dot_dots : (o : Sentence) (ks : List Token) (l : Sentence) → DotsLeaves 0 0 (dotted o) ks l → DotsLeaves 0 0 o (Signed Dot ∷ ks) l
dot_dots o ks l f = record {
  dots = suc f.dots;
  front = Signed Dot ∷ f.front;
  rest = f.rest;
  cut = ap (λ (zs : List Token). Signed Dot ∷ zs) f.cut;
  spells = (0, f.front, omega arith, refl, f.spells);
  follows = dot_follows f.dots (dotted_by f.dots (dotted o)) f.rest l f.follows;
}

-- a label with its formals, or nothing, and dots
pub head_leaves : (label : Option (List ℕ)) (formals : List (List ℕ)) (front names ks : List Token) (l : Sentence) → SpellsLabel front label → SpellsFormals label names formals →
    DotsLeaves 1 (comment_gap label) (record { label = label; formals = formals; level = 1; clauses = [] }) ks l → SpellsSentence (front ++ (names ++ ks)) l
head_leaves label formals front names ks l s f d =
    let o : Sentence = record { label = label; formals = formals; level = 1; clauses = [] } in
    let P : Sentence → Type 0 = λ x. SpellsSentence (front ++ (names ++ ks)) x in
    let whole = d.follows.whole ∙ ap (λ (x : Sentence). let y : Sentence =
    record { label = x.label; formals = x.formals; level = x.level; clauses = x.clauses ++ d.follows.clauses } in y) (dotted_is d.dots o) in
    subst P (sym whole) (
      front ++ (names ++ d.front),
      d.rest,
      d.dots,
      ap (λ (zs : List Token). front ++ zs) (ap (λ (zs : List Token). names ++ zs) d.cut ∙ sym (append_assoc names d.front d.rest)) ∙ sym (append_assoc front (names ++ d.front) d.rest),
      record { front = front; names = names; indent = d.front; cut = refl; label_is = s; formals_are = f; dots_are = d.spells },
      omega arith,
      d.follows.spells,
    )

-- formals behind their `(`
pub opened_formals : (label : List ℕ) (ks : List Token) (l : Sentence) → OpenedLeaves label ks l → FormalsLeaves label (Signed Open ∷ ks) l
opened_formals label ks l (inl f) =
    let more = f.follows.more in
    let rest = f.follows.rest in
    record {
      formals = f.word ∷ more;
      front = Signed Open ∷ (name_tokens (f.word ∷ more) ++ Signed Close ∷ []);
      rest = rest;
      cut = ap (λ (zs : List Token). Signed Open ∷ zs) (f.cut ∙ ap (λ (zs : List Token). Word f.word ∷ zs) (f.follows.cut ∙ sym (append_assoc (comma_names more) (Signed Close ∷ []) rest)));
      spells = inr (refl, new_formals (f.word ∷ more) (f.new, f.follows.new));
      follows = f.follows.follows;
    }
opened_formals label ks l (inr f) = record {
  formals = [];
  front = Signed Open ∷ Signed Close ∷ [];
  rest = f.0;
  cut = ap (λ (zs : List Token). Signed Open ∷ zs) f.1;
  spells = inr (refl, new_formals [] tt);
  follows = f.2;
}

-- another name behind a comma
pub comma_leaves : (label : List ℕ) (names : List (List ℕ)) (ks : List Token) (l : Sentence) → NameLeaves label names ks l → NamesLeaves label names (Signed Comma ∷ ks) l
comma_leaves label names ks l f =
    let D : List (List ℕ) → Type 0 = λ xs. DotsLeaves 1 1 (headed label xs) f.follows.rest l in
    record {
      more = f.word ∷ f.follows.more;
      rest = f.follows.rest;
      cut = ap (λ (zs : List Token). Signed Comma ∷ zs) (f.cut ∙ ap (λ (zs : List Token). Word f.word ∷ zs) f.follows.cut);
      new = (f.new, f.follows.new);
      follows = subst D (append_assoc names (f.word ∷ []) f.follows.more) f.follows.follows;
    }

pub close_leaves : (label : List ℕ) (names : List (List ℕ)) (ks : List Token) (l : Sentence) → DotsLeaves 1 1 (headed label names) ks l → NamesLeaves label names (Signed Close ∷ ks) l
close_leaves label names ks l f =
    let D : List (List ℕ) → Type 0 = λ xs. DotsLeaves 1 1 (headed label xs) ks l in
    record { more = []; rest = ks; cut = refl; new = tt; follows = subst D (sym (append-nil names)) f }
