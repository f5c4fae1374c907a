-- A step of a spot leads on to what is spelled behind it.
use Rattle.std.proofs.Common.{◌≡◌, ℕ, ◌≤◌, ◌==◌, nat_le, List, [], ◌∷◌, ◌++◌, length, refl, ap, sym, ◌∙◌, subst, Bool, true, false, append_assoc, append-nil, arith, Option, Some, None, inl, inr}
use Rattle.std.specs.Prelude.{cond}
use Rattle.std.proofs.lemmas.Bool.Decides.{nat_tests}
use Rattle.mj_ast.specs.declared.sign.Sign.TheVariants.{Comma, Colon, Open, Close, Dot}
use Rattle.mj_ast.specs.declared.keyword.Verb.{Verb}
use Rattle.mj_ast.specs.Syntax.{Expr}
use Rattle.mj_ast.specs.Tokens.{Token, Word, Digits, Quoted, Signed, Blank, Comment, Unclosed, Stray, Called, Special, Invoked, Numbered, Dollars}
use Rattle.mj_ast.specs.Expressions.{name_limit}
use Rattle.mj_ast.specs.Commands.{Part, verb_of, bare_of, meant, SpellsParts, SpellsArguments, is_conditional, gap_of, comment_gap_of}
use Rattle.mj_ast.specs.Lines.{SpellsLabel}
use Rattle.mj_line.specs.Forms.{Node, part_at, sort_of, takes, ends, first_node, may_be_bare, PartsFit, IsForm}
use Rattle.mj_line.specs.Sentences.{Clause, Sentence, SpellsSentence}
use Rattle.mj_line.specs.Machine.{Rest, Spot, Begin, Labelled, FormalsOpened, FormalWanted, FormalBehind, FormalsEnd, Indented, Behind, Over, Worded, Asked, Bare, Args, At, empty_line, labelled, headed, is_new, clause, with_clause, bare_rest, args_rest, bare_rested, rested, Next, Go, Stuck, Deep, Long, opened, arguments, moved, taken, own, begins, on, on_rested, first, spot_step}
use Rattle.mj_line.proofs.Tables.{conditional_meant, alone_at, token_goes, bare_first}
use Rattle.mj_line.proofs.Leaves.{Follows, FormalsLeaves, BareLeaves, WordLeaves, Leaves, StateLeaves, Leads, blank_clauses, dots_none, blank_dots, dot_dots, head_leaves, opened_formals, comma_leaves, close_leaves}

-- ---- steps of spots

-- a step of a spot leads on
abbrev pub NextLeads : Spot → Token → Next → Type 0
NextLeads p k (Go s) = Leads (At p) (k ∷ []) s
NextLeads p k Stuck = Unit {0}
NextLeads p k Deep = ⊥
NextLeads p k Long = ⊥

label_leaves : (label : List ℕ) (front ks : List Token) (l : Sentence) → SpellsLabel front (Some label) → FormalsLeaves label ks l → SpellsSentence (front ++ ks) l
label_leaves label front ks l s f =
    let P : List Token → Type 0 = λ zs. SpellsSentence (front ++ zs) l in
    subst P (sym f.cut) (head_leaves (Some label) f.formals front f.front f.rest l s f.spells f.follows)

label_leads : (w : List ℕ) (b : Bool) → nat_le (length w) name_limit ≡ b → NextLeads Begin (Word w) (cond b (Go (At (Labelled w))) Stuck)
label_leads w true e = λ rest l f. label_leaves w (Word w ∷ []) rest l (inl (refl, (let short : length w ≤ 31 = grind (arith, nat_tests) in short))) f
label_leads w false e = tt

first_formal : (label w : List ℕ) (b : Bool) → is_new [] w ≡ b → NextLeads (FormalsOpened label) (Word w) (cond b (Go (At (FormalBehind label (w ∷ [])))) Stuck)
first_formal label w true e = λ rest l f. inl (record { word = w; rest = rest; cut = refl; new = e; follows = f })
first_formal label w false e = tt

formal_leads : (label : List ℕ) (names : List (List ℕ)) (w : List ℕ) (b : Bool) → is_new names w ≡ b →
    NextLeads (FormalWanted label names) (Word w) (cond b (Go (At (FormalBehind label (names ++ w ∷ [])))) Stuck)
formal_leads label names w true e = λ rest l f. record { word = w; rest = rest; cut = refl; new = e; follows = f }
formal_leads label names w false e = tt

opened_leads : (o : Sentence) (condition : Option Expr) (k : Verb) (q : Option Node) → first_node k ≡ q → NextLeads (Bare o condition k) Blank (opened o condition k q)
opened_leads o condition k (Some n) e = λ rest l f. inr (record { node = n; rest = rest; node_is = e; cut = refl; follows = f })
opened_leads o condition k None e = tt

-- a word without a condition
bare_word : (o : Sentence) (k : Verb) (ks : List Token) (l : Sentence) → BareLeaves o None k ks l → WordLeaves o k ks l
bare_word o k ks l f = record { condition = None; front = []; rest = ks; cut = refl; spells = refl; conditional = tt; follows = f }

worded_leads : (o : Sentence) (k : Verb) (n : Next) → NextLeads (Bare o None k) Blank n → NextLeads (Worded o k) Blank n
worded_leads o k (Go s) h = λ rest l f. bare_word o k (Blank ∷ rest) l (h rest l f)
worded_leads o k Stuck h = tt
worded_leads o k Deep h = h
worded_leads o k Long h = h

asked_leads : (o : Sentence) (k : Verb) (b : Bool) → is_conditional (bare_of k) ≡ b → NextLeads (Worded o k) (Signed Colon) (cond b (Go (At (Asked o k))) Stuck)
asked_leads o k true e = λ rest l f. record {
  condition = Some f.value;
  front = Signed Colon ∷ f.front;
  rest = f.rest;
  cut =
      ap (λ (zs : List Token). Signed Colon ∷ zs) f.cut;
  spells = (f.front, refl, f.spells);
  conditional = e;
  follows = f.follows;
}
asked_leads o k false e = tt

moved_leads : (o : Sentence) (condition : Option Expr) (k : Verb) (done : List Part) (n : Node) (t : Token) (p : Part) (q : Option Node) →
    part_at (sort_of n) t ≡ Some p → takes n p ≡ q → NextLeads (Args o condition k done n) t (moved o condition k (done ++ p ∷ []) q)
moved_leads o condition k done n t p (Some next) e h = λ rest l f.
    let a = alone_at (sort_of n) t p e in
    let F : List Part → Type 0 = λ ps. Follows (args_rest o condition k ps) f.rest l in
    record {
      more = p ∷ f.more;
      front = t ∷ f.front;
      rest = f.rest;
      cut = ap (λ (zs : List Token). t ∷ zs) f.cut;
      fits = (next, token_goes n next p a.token h, f.fits);
      spells = (t ∷ [], f.front, refl, a.spells, f.spells);
      follows = subst F (append_assoc done (p ∷ []) f.more) f.follows;
    }
moved_leads o condition k done n t p None e h = tt

taken_leads : (o : Sentence) (condition : Option Expr) (k : Verb) (done : List Part) (n : Node) (t : Token) (q : Option Part) → part_at (sort_of n) t ≡ q →
    NextLeads (Args o condition k done n) t (taken o condition k done n q)
taken_leads o condition k done n t (Some p) e = moved_leads o condition k done n t p (takes n p) e refl
taken_leads o condition k done n t None e = tt

own_leads : (p : Spot) (k : Token) → NextLeads p k (own p k)
own_leads Begin (Word w) = label_leads w (nat_le (length w) name_limit) refl
own_leads Begin (Digits d) = λ rest l f. label_leaves d (Digits d ∷ []) rest l (inr refl) f
own_leads Begin Blank = λ rest l f. head_leaves None [] [] [] (Blank ∷ rest) l refl (refl, refl) (blank_dots 1 0 empty_line rest l f)
own_leads (Labelled label) (Signed Open) = λ rest l f. opened_formals label rest l f
own_leads (Labelled label) Blank = λ rest l f. record { formals = []; front = []; rest = Blank ∷ rest; cut = refl; spells = inl (refl, refl); follows = blank_dots 1 1 (labelled label) rest l f }
own_leads (FormalsOpened label) (Word w) = first_formal label w (is_new [] w) refl
own_leads (FormalsOpened label) (Signed Close) = λ rest l f. inr (rest, refl, f)
own_leads (FormalWanted label names) (Word w) = formal_leads label names w (is_new names w) refl
own_leads (FormalBehind label names) (Signed Comma) = λ rest l f. comma_leaves label names rest l f
own_leads (FormalBehind label names) (Signed Close) = λ rest l f. close_leaves label names rest l f
own_leads (FormalsEnd label names) Blank = λ rest l f. blank_dots 1 1 (headed label names) rest l f
own_leads (Indented o) Blank = λ rest l f. blank_dots 0 0 o rest l f
own_leads (Indented o) (Signed Dot) = λ rest l f. dot_dots o rest l f
own_leads (Worded o k) (Signed Colon) = asked_leads o k (is_conditional (bare_of k)) refl
own_leads (Worded o k) Blank = worded_leads o k (arguments o None k) (opened_leads o None k (first_node k) refl)
own_leads (Bare o condition k) Blank = opened_leads o condition k (first_node k) refl
own_leads (Args o condition k done n) t = taken_leads o condition k done n t (part_at (sort_of n) t) refl
own_leads p k = tt

-- ---- behind a command

-- a step behind a command leads on
abbrev RestLeads : Rest → Token → Next → Type 0
RestLeads r k (Go s) = (rest : List Token) (l : Sentence) → StateLeaves s rest l → Follows r (k ∷ rest) l
RestLeads r k Stuck = Unit {0}
RestLeads r k Deep = ⊥
RestLeads r k Long = ⊥

comment_leads : (r : Rest) (text : List ℕ) (b : Bool) → (r.comment == 0) ≡ b → RestLeads r (Comment text) (cond b (Go (At (Over r.line))) Stuck)
comment_leads r text true e = λ rest l f. record {
  clauses = [];
  whole = f.1 ∙ ap (λ (ss : List Clause). record { label = r.line.label; formals = r.line.formals; level = r.line.level; clauses = ss }) (sym (append-nil r.line.clauses));
  spells = inr (0, text, (let z : r.comment ≡ 0 = grind (arith, nat_tests) in omega arith), ap (λ (zs : List Token). Comment text ∷ zs) f.0);
}
comment_leads r text false e = tt

-- the parts of a command, and what follows it
pub record Taken (o : Sentence) (condition : Option Expr) (k : Verb) (ks : List Token) (l : Sentence) : Type 0 where
  pub parts : List Part
  pub front : List Token
  pub rest : List Token
  pub cut : ks ≡ front ++ rest
  pub spells : SpellsArguments front parts
  pub form : IsForm k parts
  pub follows : Follows (record { line = with_clause o (clause condition (meant k parts) parts); gap = gap_of parts; comment = comment_gap_of parts }) rest l

args_taken : (o : Sentence) (condition : Option Expr) (k : Verb) (n : Node) (ks front rest : List Token) (l : Sentence) (parts : List Part) →
    first_node k ≡ Some n → ks ≡ Blank ∷ (front ++ rest) → PartsFit n parts → SpellsParts front parts → Follows (args_rest o condition k parts) rest l →
    Taken o condition k ks l
args_taken o condition k n ks front rest l [] e c f s h =
    record {
      parts = [];
      front = [];
      rest = Blank ∷ rest;
      cut = c ∙ ap (λ (zs : List Token). Blank ∷ (zs ++ rest)) s;
      spells = refl;
      form = bare_first k n e f;
      follows = record { clauses = h.clauses; whole = h.whole; spells = blank_clauses 2 1 rest h.clauses h.spells };
    }
args_taken o condition k n ks front rest l (p ∷ ps) e c f s h =
    record { parts = p ∷ ps; front = Blank ∷ front; rest = rest; cut = c; spells = (front, refl, s); form = (n, e, f); follows = h }

pub bare_taken : (o : Sentence) (condition : Option Expr) (k : Verb) (ks : List Token) (l : Sentence) → BareLeaves o condition k ks l → Taken o condition k ks l
bare_taken o condition k ks l (inl h) = record { parts = []; front = []; rest = ks; cut = refl; spells = refl; form = h.0; follows = h.1 }
bare_taken o condition k ks l (inr h) = let f = h.follows in args_taken o condition k h.node ks f.front f.rest l f.more h.node_is (h.cut ∙
    ap (λ (zs : List Token). Blank ∷ zs) f.cut) f.fits f.spells f.follows

begins_leads : (r : Rest) (w : List ℕ) (o : Option Verb) → r.gap ≡ 0 → verb_of w ≡ o → RestLeads r (Word w) (begins r.line o)
begins_leads r w None z e = tt
begins_leads r w (Some k) z e = λ rest l f.
    let b = bare_taken r.line f.condition k f.rest l f.follows in
    let s = clause f.condition (meant k b.parts) b.parts in
    record {
      clauses = s ∷ b.follows.clauses;
      whole = b.follows.whole ∙ ap (λ (ss : List Clause). record { label = r.line.label; formals = r.line.formals; level = r.line.level; clauses = ss })
          (append_assoc r.line.clauses (s ∷ []) b.follows.clauses);
      spells = (
        0,
        Word w ∷ (f.front ++ b.front),
        b.rest,
        omega arith,
        ap (λ (zs : List Token). Word w ∷ zs) (f.cut ∙ ap (λ (zs : List Token). f.front ++ zs) b.cut ∙ sym (append_assoc f.front b.front b.rest)),
        (w, f.front, b.front, refl, (k, e, refl), f.spells, b.spells, b.form, conditional_meant k b.parts f.condition f.conditional),
        b.follows.spells,
      );
    }

word_leads : (r : Rest) (w : List ℕ) (b : Bool) → (r.gap == 0) ≡ b → RestLeads r (Word w) (cond b (begins r.line (verb_of w)) Stuck)
word_leads r w true e = begins_leads r w (verb_of w) (grind (arith, nat_tests)) refl
word_leads r w false e = tt

on_leads : (r : Rest) (k : Token) → RestLeads r k (on r k)
on_leads r Blank = λ rest l f. record { clauses = f.clauses; whole = f.whole; spells = blank_clauses r.gap r.comment rest f.clauses f.spells }
on_leads r (Comment text) = comment_leads r text (r.comment == 0) refl
on_leads r (Word w) = word_leads r w (r.gap == 0) refl
on_leads r (Digits d) = tt
on_leads r (Quoted q) = tt
on_leads r (Signed s) = tt
on_leads r (Unclosed u) = tt
on_leads r (Called w) = tt
on_leads r (Special w) = tt
on_leads r (Invoked w) = tt
on_leads r (Numbered d) = tt
on_leads r Dollars = tt
on_leads r (Stray b) = tt

-- where a command may end, what follows it may follow
abbrev pub RestedLeads : Spot → Option Rest → Type 0
RestedLeads p (Some r) = (ks : List Token) (l : Sentence) → Follows r ks l → Leaves p ks l
RestedLeads p None = Unit {0}

bare_leads : (o : Sentence) (condition : Option Expr) (k : Verb) (b : Bool) → may_be_bare k ≡ b → RestedLeads (Bare o condition k) (bare_rested b (bare_rest o condition k))
bare_leads o condition k true e = λ ks l f. inl (e, f)
bare_leads o condition k false e = tt

word_rested : (o : Sentence) (k : Verb) (b : Bool) → may_be_bare k ≡ b → RestedLeads (Worded o k) (bare_rested b (bare_rest o None k))
word_rested o k true e = λ ks l f. bare_word o k ks l (inl (e, f))
word_rested o k false e = tt

args_leads : (o : Sentence) (condition : Option Expr) (k : Verb) (done : List Part) (n : Node) (b : Bool) → ends n ≡ b →
    RestedLeads (Args o condition k done n) (bare_rested b (args_rest o condition k done))
args_leads o condition k done n true e = λ ks l f.
    let F : List Part → Type 0 = λ ps. Follows (args_rest o condition k ps) ks l in
    record { more = []; front = []; rest = ks; cut = refl; fits = e; spells = refl; follows = subst F (sym (append-nil done)) f }
args_leads o condition k done n false e = tt

pub rested_leads : (p : Spot) → RestedLeads p (rested p)
rested_leads Begin = λ ks l f. head_leaves None [] [] [] ks l refl (refl, refl) (dots_none 1 0 empty_line ks l f)
rested_leads (Labelled label) = λ ks l f. record { formals = []; front = []; rest = ks; cut = refl; spells = inl (refl, refl); follows = dots_none 1 1 (labelled label) ks l f }
rested_leads (FormalsOpened label) = tt
rested_leads (FormalWanted label names) = tt
rested_leads (FormalBehind label names) = tt
rested_leads (FormalsEnd label names) = λ ks l f. dots_none 1 1 (headed label names) ks l f
rested_leads (Indented o) = λ ks l f. dots_none 0 0 o ks l f
rested_leads (Behind r) = λ ks l f. f
rested_leads (Over o) = tt
rested_leads (Worded o k) = word_rested o k (may_be_bare k) refl
rested_leads (Asked o k) = tt
rested_leads (Bare o condition k) = bare_leads o condition k (may_be_bare k) refl
rested_leads (Args o condition k done n) = args_leads o condition k done n (ends n) refl

rest_as : (p : Spot) (r : Rest) (k : Token) (n : Next) → RestedLeads p (Some r) → RestLeads r k n → NextLeads p k n
rest_as p r k (Go s) h f = λ rest l x. h (k ∷ rest) l (f rest l x)
rest_as p r k Stuck h f = tt
rest_as p r k Deep h f = f
rest_as p r k Long h f = f

on_rested_leads : (p : Spot) (k : Token) (q : Option Rest) → RestedLeads p q → NextLeads p k (on_rested q k)
on_rested_leads p k (Some r) h = rest_as p r k (on r k) h (on_leads r k)
on_rested_leads p k None h = tt

first_leads : (p : Spot) (k : Token) (n o : Next) → NextLeads p k n → NextLeads p k o → NextLeads p k (first n o)
first_leads p k (Go s) o h f = h
first_leads p k Stuck o h f = f
first_leads p k Deep o h f = h
first_leads p k Long o h f = h

pub spot_leads : (p : Spot) (k : Token) → NextLeads p k (spot_step p k)
spot_leads p k = first_leads p k (own p k) (on_rested (rested p) k) (own_leads p k) (on_rested_leads p k (rested p) (rested_leads p))
