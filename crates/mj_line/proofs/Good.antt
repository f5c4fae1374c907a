-- What was read is within the limits, and a shortest way to the line's end.
use Rattle.std.proofs.Common.{◌≡◌, ℕ, ◌≤◌, ◌==◌, nat_le, max, List, [], ◌∷◌, ◌++◌, length, map, refl, ap, sym, Bool, true, false, arith, Option, Some, None, append-nil, inl, inr}
use Rattle.std.specs.Prelude.{cond}
use Rattle.mj_ast.specs.declared.sign.Sign.TheVariants.{Comma, Colon, Open, Close, Dot}
use Rattle.mj_ast.specs.declared.keyword.Keyword.{Keyword}
use Rattle.mj_ast.specs.declared.keyword.Verb.{Verb}
use Rattle.mj_ast.specs.Syntax.{Expr}
use Rattle.mj_ast.specs.Tokens.{Token, Word, Digits, Quoted, Signed, Blank, Comment, Unclosed, Stray, Called, Special, Invoked, Numbered, Dollars}
use Rattle.mj_ast.specs.Expressions.{symbol, name_limit, expr_nesting, expr_width}
use Rattle.mj_ast.specs.Commands.{Part, Text, Place, Control, verb_of, bare_of, meant, is_conditional, greatest, part_nesting, part_width, condition_measure}
use Rattle.mj_expr.specs.Machine.{Limits}
use Rattle.mj_expr.specs.Machine as phrase
use Rattle.mj_expr.proofs.Room.{Fits, IsGood, sofar}
use Rattle.mj_expr.proofs.Told.{read_goes}
use Rattle.mj_expr.proofs.Facts.{IsMore}
use Rattle.mj_line.specs.Forms.{Node, Want, AnExpr, AVar, ALocal, part_at, sort_of, takes, wants, ends, first_node, may_be_bare}
use Rattle.mj_line.specs.Sentences.{Clause, Sentence, clause_nesting, clause_width, IsSentenceWithin}
use Rattle.mj_line.specs.Machine.{Rest, Spot, Begin, Labelled, FormalsOpened, FormalWanted, FormalBehind, FormalsEnd, Indented, Behind, Over, Worded, Asked, Bare, Args, Goal, Condition, Argument, State, At, In, empty_line, labelled, headed, is_new, clause, with_clause, bare_rest, args_rest, start, wanted, level, level_of, inside, behind_phrase, behind_want, bare_rested, rested, argument, entry, Next, Go, Stuck, Deep, Long, opened, moved, taken, own, begins, on, on_rested, first, spot_step}
use Rattle.mj_line.proofs.Tables.{alone_at, small, token_nesting, token_width, bare_none, none_some}
use Rattle.mj_line.proofs.Entries.{finish, a_zero, zero_spelled}
use Rattle.mj_line.proofs.Leaves.{Leaves, StateLeaves, Begun, begun_suits, kind, want_kind}
use Rattle.mj_line.proofs.SpotLeaves.{rested_leads, RestedLeads, spot_leads}
use Rattle.mj_line.proofs.Formals.{fresh, fresh_new}

-- ---- limits

pub record IsGoodClause (m : Limits) (l : Sentence) (condition : Option Expr) (done : List Part) : Type 0 where
  pub line : IsSentenceWithin m.depth m.width l
  pub nests : max (condition_measure expr_nesting condition) (greatest part_nesting done) ≤ m.depth
  pub lists : max (condition_measure expr_width condition) (greatest part_width done) ≤ m.width

abbrev pub SpotGood : Limits → Spot → Type 0
SpotGood m Begin = Unit {0}
SpotGood m (Labelled label) = Unit {0}
SpotGood m (FormalsOpened label) = Unit {0}
SpotGood m (FormalWanted label names) = Unit {0}
SpotGood m (FormalBehind label names) = Unit {0}
SpotGood m (FormalsEnd label names) = Unit {0}
SpotGood m (Indented l) = IsSentenceWithin m.depth m.width l
SpotGood m (Behind r) = IsSentenceWithin m.depth m.width r.line
SpotGood m (Over l) = IsSentenceWithin m.depth m.width l
SpotGood m (Worded l k) = IsSentenceWithin m.depth m.width l
SpotGood m (Asked l k) = IsSentenceWithin m.depth m.width l
SpotGood m (Bare l condition k) = IsGoodClause m l condition []
SpotGood m (Args l condition k done n) = IsGoodClause m l condition done

abbrev pub GoalGood : Limits → Goal → Type 0
GoalGood m (Condition l k) = IsSentenceWithin m.depth m.width l
GoalGood m (Argument l condition k done w) = IsGoodClause m l condition done × (level_of w ≤ 1)

abbrev pub StateGood : Limits → State → Type 0
StateGood m (At p) = SpotGood m p
StateGood m (In g s) = GoalGood m g × IsGood (kind g) (inside m (level g)) s × Begun g (sofar s)

pub greatest_more : {A : Type 0} (f : A → ℕ) (xs : List A) (x : A) → greatest f (xs ++ x ∷ []) ≡ max (greatest f xs) (f x)
greatest_more f [] x = omega arith
greatest_more f (y ∷ ys) x = let h = greatest_more f ys x in omega arith

pub greatest_append : {A : Type 0} (f : A → ℕ) (xs ys : List A) → greatest f (xs ++ ys) ≡ max (greatest f xs) (greatest f ys)
greatest_append f [] ys = omega arith
greatest_append f (x ∷ xs) ys = let h = greatest_append f xs ys in omega arith

pub level_small : (m : Limits) (g : Goal) → GoalGood m g → level g ≤ 1
level_small m (Condition l k) h = omega arith
level_small m (Argument l condition k done w) h = h.1

-- ---- steps keep the limits

clause_good : (m : Limits) (l : Sentence) (condition : Option Expr) (k : Keyword) (done : List Part) → IsGoodClause m l condition done →
    IsSentenceWithin m.depth m.width (with_clause l (clause condition k done))
clause_good m l condition k done g = record {
  nests = let h = greatest_more clause_nesting l.clauses (clause condition k done) in let a = g.line.nests in let b = g.nests in omega arith;
  lists = let h = greatest_more clause_width l.clauses (clause condition k done) in let a = g.line.lists in let b = g.lists in omega arith;
}

part_good : (m : Limits) (l : Sentence) (condition : Option Expr) (done : List Part) (p : Part) → part_nesting p ≤ m.depth → part_width p ≤ m.width →
    IsGoodClause m l condition done → IsGoodClause m l condition (done ++ p ∷ [])
part_good m l condition done p n w g = record {
  line = g.line;
  nests = let h = greatest_more part_nesting done p in let b = g.nests in omega arith;
  lists = let h = greatest_more part_width done p in let b = g.lists in omega arith;
}

plain_good : (m : Limits) (l : Sentence) → IsSentenceWithin m.depth m.width l → IsGoodClause m l None []
plain_good m l g = record { line = g; nests = omega arith; lists = omega arith }

want_good : (m : Limits) (l : Sentence) (condition : Option Expr) (k : Verb) (done : List Part) (w : Want) (p : phrase.Phrase) → 1 ≤ m.depth → level_of w ≤ 1 →
    IsGoodClause m l condition done → Fits (want_kind w) (inside m (level_of w)) p → SpotGood m (behind_want l condition k done w p)
want_good m l condition k done (AnExpr lv next) (phrase.Whole e) d i g f = part_good m l condition done (Text lv e) (let n = f.nests in omega arith) (let n = f.lists in omega arith) g
want_good m l condition k done (AVar lv next) (phrase.Target v) d i g f = part_good m l condition done (Place lv v) (let n = f.nests in omega arith) (let n = f.lists in omega arith) g
want_good m l condition k done (ALocal next) (phrase.Target v) d i g f = part_good m l condition done (Control v) (let n = f.nests in omega arith) (let n = f.lists in omega arith) g
want_good m l condition k done (AnExpr lv next) (phrase.Target v) d i g f = tt
want_good m l condition k done (AVar lv next) (phrase.Whole e) d i g f = tt
want_good m l condition k done (ALocal next) (phrase.Whole e) d i g f = tt

pub behind_good : (m : Limits) (g : Goal) (p : phrase.Phrase) → 1 ≤ m.depth → GoalGood m g → Fits (kind g) (inside m (level g)) p → SpotGood m (behind_phrase g p)
behind_good m (Condition l k) (phrase.Whole e) d h f = record { line = h; nests = let j = f.nests in omega arith; lists = let j = f.lists in omega arith }
behind_good m (Condition l k) (phrase.Target v) d h f = tt
behind_good m (Argument l condition k done w) p d h f = want_good m l condition k done w p d h.1 h.0 f

abbrev pub RestGood : Limits → Option Rest → Type 0
RestGood m (Some r) = IsSentenceWithin m.depth m.width r.line
RestGood m None = Unit {0}

bare_good : (m : Limits) (r : Rest) (b : Bool) → IsSentenceWithin m.depth m.width r.line → RestGood m (bare_rested b r)
bare_good m r true g = g
bare_good m r false g = tt

pub rested_good : (m : Limits) (p : Spot) → SpotGood m p → RestGood m (rested p)
rested_good m Begin g = record { nests = omega arith; lists = omega arith }
rested_good m (Labelled label) g = record { nests = omega arith; lists = omega arith }
rested_good m (FormalsOpened label) g = tt
rested_good m (FormalWanted label names) g = tt
rested_good m (FormalBehind label names) g = tt
rested_good m (FormalsEnd label names) g = record { nests = omega arith; lists = omega arith }
rested_good m (Indented l) g = g
rested_good m (Behind r) g = g
rested_good m (Over l) g = tt
rested_good m (Worded l k) g = bare_good m (bare_rest l None k) (may_be_bare k) (clause_good m l None (bare_of k) [] (plain_good m l g))
rested_good m (Asked l k) g = tt
rested_good m (Bare l condition k) g = bare_good m (bare_rest l condition k) (may_be_bare k) (clause_good m l condition (bare_of k) [] g)
rested_good m (Args l condition k done n) g = bare_good m (args_rest l condition k done) (ends n) (clause_good m l condition (meant k done) done g)

-- a step keeps them
abbrev pub NextGood : Limits → Next → Type 0
NextGood m (Go s) = StateGood m s
NextGood m n = Unit {0}

opened_good : (m : Limits) (l : Sentence) (condition : Option Expr) (k : Verb) (q : Option Node) → IsGoodClause m l condition [] → NextGood m (opened l condition k q)
opened_good m l condition k (Some n) g = g
opened_good m l condition k None g = tt

moved_good : (m : Limits) (l : Sentence) (condition : Option Expr) (k : Verb) (done : List Part) (q : Option Node) → IsGoodClause m l condition done → NextGood m (moved l condition k done q)
moved_good m l condition k done (Some n) g = g
moved_good m l condition k done None g = tt

taken_good : (m : Limits) (l : Sentence) (condition : Option Expr) (k : Verb) (done : List Part) (n : Node) (t : Token) (q : Option Part) →
    part_at (sort_of n) t ≡ q → IsGoodClause m l condition done → NextGood m (taken l condition k done n q)
taken_good m l condition k done n t (Some p) e g =
    let a = alone_at (sort_of n) t p e in
    moved_good m l condition k (done ++ p ∷ []) (takes n p) (part_good m l condition done p (let i = token_nesting p a.token in omega arith) (let i = token_width p a.token in omega arith) g)
taken_good m l condition k done n t None e g = tt

label_good : (m : Limits) (w : List ℕ) (b : Bool) → NextGood m (cond b (Go (At (Labelled w))) Stuck)
label_good m w true = tt
label_good m w false = tt

formal_good : (m : Limits) (label : List ℕ) (names : List (List ℕ)) (b : Bool) → NextGood m (cond b (Go (At (FormalBehind label names))) Stuck)
formal_good m label names true = tt
formal_good m label names false = tt

asked_good : (m : Limits) (l : Sentence) (k : Verb) (b : Bool) → IsSentenceWithin m.depth m.width l → NextGood m (cond b (Go (At (Asked l k))) Stuck)
asked_good m l k true g = g
asked_good m l k false g = tt

own_good : (m : Limits) (p : Spot) (k : Token) → SpotGood m p → NextGood m (own p k)
own_good m Begin (Word w) g = label_good m w (nat_le (length w) name_limit)
own_good m Begin (Digits d) g = tt
own_good m Begin Blank g = record { nests = omega arith; lists = omega arith }
own_good m (Labelled label) (Signed Open) g = tt
own_good m (Labelled label) Blank g = record { nests = omega arith; lists = omega arith }
own_good m (FormalsOpened label) (Word w) g = formal_good m label (w ∷ []) (is_new [] w)
own_good m (FormalsOpened label) (Signed Close) g = tt
own_good m (FormalWanted label names) (Word w) g = formal_good m label (names ++ w ∷ []) (is_new names w)
own_good m (FormalBehind label names) (Signed Comma) g = tt
own_good m (FormalBehind label names) (Signed Close) g = tt
own_good m (FormalsEnd label names) Blank g = record { nests = omega arith; lists = omega arith }
own_good m (Indented l) Blank g = g
own_good m (Indented l) (Signed Dot) g = record { nests = g.nests; lists = g.lists }
own_good m (Worded l k) (Signed Colon) g = asked_good m l k (is_conditional (bare_of k)) g
own_good m (Worded l k) Blank g = opened_good m l None k (first_node k) (plain_good m l g)
own_good m (Bare l condition k) Blank g = opened_good m l condition k (first_node k) g
own_good m (Args l condition k done n) t g = taken_good m l condition k done n t (part_at (sort_of n) t) refl g
own_good m p k g = tt

comment_good : (m : Limits) (l : Sentence) (b : Bool) → IsSentenceWithin m.depth m.width l → NextGood m (cond b (Go (At (Over l))) Stuck)
comment_good m l true g = g
comment_good m l false g = tt

begins_good : (m : Limits) (l : Sentence) (o : Option Verb) → IsSentenceWithin m.depth m.width l → NextGood m (begins l o)
begins_good m l (Some k) g = g
begins_good m l None g = tt

word_good : (m : Limits) (l : Sentence) (o : Option Verb) (b : Bool) → IsSentenceWithin m.depth m.width l → NextGood m (cond b (begins l o) Stuck)
word_good m l o true g = begins_good m l o g
word_good m l o false g = tt

on_good : (m : Limits) (r : Rest) (k : Token) → IsSentenceWithin m.depth m.width r.line → NextGood m (on r k)
on_good m r Blank g = g
on_good m r (Comment text) g = comment_good m r.line (r.comment == 0) g
on_good m r (Word w) g = word_good m r.line (verb_of w) (r.gap == 0) g
on_good m r (Digits d) g = tt
on_good m r (Quoted q) g = tt
on_good m r (Signed s) g = tt
on_good m r (Unclosed u) g = tt
on_good m r (Called w) g = tt
on_good m r (Special w) g = tt
on_good m r (Invoked w) g = tt
on_good m r (Numbered d) g = tt
on_good m r Dollars g = tt
on_good m r (Stray b) g = tt

on_rested_good : (m : Limits) (q : Option Rest) (k : Token) → RestGood m q → NextGood m (on_rested q k)
on_rested_good m (Some r) k g = on_good m r k g
on_rested_good m None k g = tt

first_good : (m : Limits) (n o : Next) → NextGood m n → NextGood m o → NextGood m (first n o)
first_good m (Go s) o g h = g
first_good m Stuck o g h = h
first_good m Deep o g h = tt
first_good m Long o g h = tt

pub spot_good : (m : Limits) (p : Spot) (k : Token) → SpotGood m p → NextGood m (spot_step p k)
spot_good m p k g = first_good m (own p k) (on_rested (rested p) k) (own_good m p k g) (on_rested_good m (rested p) k (rested_good m p g))

-- where a phrase begins
abbrev pub EntryGood : Limits → Option Goal → Type 0
EntryGood m (Some g) = GoalGood m g × IsGood (kind g) (inside m (level g)) (start g)
EntryGood m None = Unit {0}

wanted_good : (m : Limits) (w : Want) → IsGood (want_kind w) m (wanted w)
wanted_good m (AnExpr lv next) = tt
wanted_good m (AVar lv next) = tt
wanted_good m (ALocal next) = tt

argument_good : (m : Limits) (l : Sentence) (condition : Option Expr) (k : Verb) (done : List Part) (n : Node) (q : Option Want) → wants n ≡ q →
    IsGoodClause m l condition done → EntryGood m (argument l condition k done q)
argument_good m l condition k done n (Some w) e g = ((g, small n w e), wanted_good (inside m (level_of w)) w)
argument_good m l condition k done n None e g = tt

pub entry_good : (m : Limits) (p : Spot) → SpotGood m p → EntryGood m (entry p)
entry_good m Begin g = tt
entry_good m (Labelled label) g = tt
entry_good m (FormalsOpened label) g = tt
entry_good m (FormalWanted label names) g = tt
entry_good m (FormalBehind label names) g = tt
entry_good m (FormalsEnd label names) g = tt
entry_good m (Indented l) g = tt
entry_good m (Behind r) g = tt
entry_good m (Over l) g = tt
entry_good m (Worded l k) g = tt
entry_good m (Asked l k) g = (g, tt)
entry_good m (Bare l condition k) g = tt
entry_good m (Args l condition k done n) g = argument_good m l condition k done n (wants n) refl g

-- ---- larger limits

pub line_more : (m n : Limits) (l : Sentence) → IsMore m n → IsSentenceWithin m.depth m.width l → IsSentenceWithin n.depth n.width l
line_more m n l i g = record { nests = let a = g.nests in let b = i.depth in omega arith; lists = let a = g.lists in let b = i.width in omega arith }

clause_more : (m n : Limits) (l : Sentence) (condition : Option Expr) (done : List Part) → IsMore m n → IsGoodClause m l condition done → IsGoodClause n l condition done
clause_more m n l condition done i g = record { line = line_more m n l i g.line; nests = let a = g.nests in let b = i.depth in omega arith; lists = let a = g.lists in let b = i.width in omega arith }

pub goal_more : (m n : Limits) (g : Goal) → IsMore m n → GoalGood m g → GoalGood n g
goal_more m n (Condition l k) i h = line_more m n l i h
goal_more m n (Argument l condition k done w) i h = (clause_more m n l condition done i h.0, h.1)

pub inside_more : (m n : Limits) (lv : ℕ) → IsMore m n → IsMore (inside m lv) (inside n lv)
inside_more m n lv i = record { depth = let a = i.depth in omega arith; width = let a = i.width in omega arith }

-- ---- ways to the end

-- what may follow there ends a line within the limits
pub record GoesOn (m : Limits) (s : State) : Type 0 where
  pub rest : List Token
  pub line : Sentence
  pub leaves : StateLeaves s rest line
  pub within : IsSentenceWithin m.depth m.width line

-- behind a token that leads on
behind_token : (m : Limits) (p : Spot) (k : Token) (s : State) → ((rest : List Token) (l : Sentence) → StateLeaves s rest l → Leaves p (k ∷ rest) l) → GoesOn m s → GoesOn m (At p)
behind_token m p k s h g = record { rest = k ∷ g.rest; line = g.line; leaves = h g.rest g.line g.leaves; within = g.within }

-- where a command may end
rest_goes : (m : Limits) (p : Spot) (q : Option Rest) (r : Rest) → q ≡ Some r → RestedLeads p q → RestGood m q → GoesOn m (At p)
rest_goes m p (Some r) x e h w = record {
  rest = [];
  line = r.line;
  leaves = h [] r.line (record {
    clauses = [];
    whole = ap (λ (ss : List Clause). record {
      label = r.line.label;
      formals = r.line.formals;
      level = r.line.level;
      clauses = ss;
    }) (sym (append-nil r.line.clauses));
    spells = inl (0, refl);
  });
  within = w;
}
rest_goes m p None x e h w = absurd (none_some x e)

args_goes : (m : Limits) (l : Sentence) (condition : Option Expr) (k : Verb) (done : List Part) (n : Node) → 1 ≤ m.depth → IsGoodClause m l condition done → GoesOn m (At (Args l condition k done n))
args_goes m l condition k done n d g =
    let f = finish n in
    let r = args_rest l condition k (done ++ f.parts) in
    record {
      rest = f.tokens;
      line = r.line;
      leaves = record {
        more = f.parts;
        front = f.tokens;
        rest = [];
        cut = sym (append-nil f.tokens);
        fits = f.fits;
        spells = f.spells;
        follows = record {
          clauses = [];
          whole = ap (λ (ss : List Clause). record {
            label = r.line.label;
            formals = r.line.formals;
            level = r.line.level;
            clauses = ss;
          }) (sym (append-nil r.line.clauses));
          spells = inl (0, refl);
        };
      };
      within = clause_good m l condition (meant k (done ++ f.parts)) (done ++ f.parts) (record {
        line = g.line;
        nests = let h = greatest_append part_nesting done f.parts in let b = g.nests in let c = f.nests in omega arith;
        lists = let h = greatest_append part_width done f.parts in let b = g.lists in let c = f.lists in omega arith;
      });
    }

-- a blank, and arguments
first_goes : (m : Limits) (l : Sentence) (condition : Option Expr) (k : Verb) (q : Option Node) → 1 ≤ m.depth → first_node k ≡ q → IsGoodClause m l condition [] → GoesOn m (At (Bare l condition k))
first_goes m l condition k (Some n) d e g =
    let a = args_goes m l condition k [] n d g in
    record { rest = Blank ∷ a.rest; line = a.line; leaves = inr (record { node = n; rest = a.rest; node_is = e; cut = refl; follows = a.leaves }); within = a.within }
first_goes m l condition k None d e g =
    rest_goes m (Bare l condition k) (rested (Bare l condition k)) (bare_rest l condition k)
    (ap (λ (b : Bool). bare_rested b (bare_rest l condition k)) (bare_none k e)) (rested_leads (Bare l condition k)) (rested_good m (Bare l condition k) g)

-- behind a label with formals
end_goes : (m : Limits) (label : List ℕ) (names : List (List ℕ)) → GoesOn m (At (FormalsEnd label names))
end_goes m label names = rest_goes m (FormalsEnd label names) (rested (FormalsEnd label names)) (record { line = headed label names; gap = 1; comment = 1 })
    refl (rested_leads (FormalsEnd label names)) (rested_good m (FormalsEnd label names) tt)

close_goes : (m : Limits) (label : List ℕ) (names : List (List ℕ)) → GoesOn m (At (FormalBehind label names))
close_goes m label names = behind_token m (FormalBehind label names) (Signed Close) (At (FormalsEnd label names)) (spot_leads (FormalBehind label names) (Signed Close)) (end_goes m label names)

-- another name, and a `)`
name_goes : (m : Limits) (label : List ℕ) (names : List (List ℕ)) → GoesOn m (At (FormalWanted label names))
name_goes m label names =
    let w = fresh names in
    let b = close_goes m label (names ++ w ∷ []) in
    record { rest = Word w ∷ b.rest; line = b.line; leaves = record { word = w; rest = b.rest; cut = refl; new = fresh_new names; follows = b.leaves }; within = b.within }

pub spot_goes : (m : Limits) (p : Spot) → 1 ≤ m.depth → SpotGood m p → GoesOn m (At p)
spot_goes m Begin d g = rest_goes m Begin (rested Begin) (record { line = empty_line; gap = 1; comment = 0 }) refl (rested_leads Begin) (rested_good m Begin g)
spot_goes m (Labelled label) d g = rest_goes m (Labelled label) (rested (Labelled label)) (record { line = labelled label; gap = 1; comment = 1 }) refl
    (rested_leads (Labelled label)) (rested_good m (Labelled label) g)
spot_goes m (FormalsOpened label) d g = behind_token m (FormalsOpened label) (Signed Close) (At (FormalsEnd label [])) (spot_leads (FormalsOpened label) (Signed Close)) (end_goes m label [])
spot_goes m (FormalWanted label names) d g = name_goes m label names
spot_goes m (FormalBehind label names) d g = close_goes m label names
spot_goes m (FormalsEnd label names) d g = end_goes m label names
spot_goes m (Indented l) d g = rest_goes m (Indented l) (rested (Indented l)) (record { line = l; gap = 0; comment = 0 }) refl (rested_leads (Indented l)) (rested_good m (Indented l) g)
spot_goes m (Behind r) d g = rest_goes m (Behind r) (rested (Behind r)) r refl (rested_leads (Behind r)) (rested_good m (Behind r) g)
spot_goes m (Over l) d g = record { rest = []; line = l; leaves = (refl, refl); within = g }
spot_goes m (Worded l k) d g =
    let b = first_goes m l None k (first_node k) d refl (plain_good m l g) in
    record { rest = b.rest; line = b.line; leaves = record { condition = None; front = []; rest = b.rest; cut = refl; spells = refl; conditional = tt; follows = b.leaves }; within = b.within }
spot_goes m (Asked l k) d g =
    let z = a_zero in
    let b = first_goes m l (Some z) k (first_node k) d refl (record { line = g; nests = omega arith; lists = omega arith }) in
    record {
      rest = Digits (48 ∷ []) ∷ b.rest;
      line = b.line;
      leaves =
          record { value = z; front = Digits (48 ∷ []) ∷ []; rest = b.rest; cut = refl; spells = zero_spelled; follows = b.leaves };
      within = b.within;
    }
spot_goes m (Bare l condition k) d g = first_goes m l condition k (first_node k) d refl g
spot_goes m (Args l condition k done n) d g = args_goes m l condition k done n d g

-- behind a phrase
phrase_goes : (m : Limits) (g : Goal) (s : phrase.State) → 1 ≤ m.depth → GoalGood m g → IsGood (kind g) (inside m (level g)) s → Begun g (sofar s) → GoesOn m (In g s)
phrase_goes m g s d h i b =
    let r = read_goes (kind g) (inside m (level g)) s (sofar s) (record { good = i; read = refl }) in
    let f = spot_goes m (behind_phrase g r.phrase) d (behind_good m g r.phrase d h r.fits) in
    record {
      rest = r.more ++ f.rest;
      line = f.line;
      leaves = record {
        phrase = r.phrase;
        front = r.more;
        rest = f.rest;
        kind_is = r.fits.kind;
        suits =
            begun_suits g r.phrase (sofar s) (map symbol r.more) b r.spelled;
        cut = refl;
        spells = r.spelled;
        formed = r.fits.formed;
        follows = f.leaves;
      };
      within = f.within;
    }

pub state_goes : (m : Limits) (s : State) → 1 ≤ m.depth → StateGood m s → GoesOn m s
state_goes m (At p) d g = spot_goes m p d g
state_goes m (In g s) d h = phrase_goes m g s d h.0 h.1 h.2
