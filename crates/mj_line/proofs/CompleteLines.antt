-- The machine reads every command and every line that is spelled so.
use Rattle.std.proofs.Common.{◌≡◌, ℕ, zero, suc, ◌+◌, ◌-◌, ◌≤◌, nat_le, List, [], ◌∷◌, ◌++◌, length, refl, ap, sym, ◌∙◌, subst, Bool, true, append_assoc, append-nil, arith, Option, Some, None, map, inl, inr}
use Rattle.std.specs.Prelude.{cond, replicate}
use Rattle.std.proofs.lemmas.List.{map-append}
use Rattle.std.proofs.lemmas.Bool.Decides.{nat_tests}
use Rattle.mj_ast.specs.declared.sign.Sign.TheVariants.{Colon, Close, Dot}
use Rattle.mj_ast.specs.declared.keyword.Keyword.{Keyword}
use Rattle.mj_ast.specs.declared.keyword.Verb.{Verb}
use Rattle.mj_ast.specs.Syntax.{Expr}
use Rattle.mj_ast.specs.Tokens.{Token, Word, Digits, Signed, Blank, Comment, Called, Special, Invoked, Numbered, Dollars, Quoted, Unclosed, Stray}
use Rattle.mj_ast.specs.Expressions.{Symbol, symbol, expr_nesting, expr_width}
use Rattle.mj_ast.specs.Commands.{Part, SpellsCondition, SpellsArguments, IsConditional, greatest, part_nesting, part_width, condition_measure, gap_of, comment_gap_of, bare_of, meant}
use Rattle.mj_ast.specs.Lines.{SpellsEnd, SpellsLabel, comment_gap, SpellsFormals, SpellsDots, comma_names, name_tokens, gap_behind}
use Rattle.mj_expr.specs.Machine.{Limits}
use Rattle.mj_expr.specs.Machine as phrase
use Rattle.mj_expr.proofs.Zipper.{AnExpression}
use Rattle.mj_expr.proofs.Complete.{complete_phrase}
use Rattle.mj_line.specs.Forms.{Node, first_node, may_be_bare, IsForm}
use Rattle.mj_line.specs.Sentences.{Clause, Sentence, SpellsClause, SpellsClauses, SpellsSentence, clause_nesting, clause_width, IsSentenceWithin}
use Rattle.mj_line.specs.Machine.{Rest, Spot, Begin, Behind, Worded, Asked, Bare, Args, Condition, At, In, empty_line, labelled, clause, with_clause, bare_rest, args_rest, expression_wanted, inside, bare_rested, rested, Next, Go, Stuck, opened, begins, on_rested, first, spot_step, in_step, step, ended_at, ended_spot, Accept, run, turn, Labelled, FormalsOpened, FormalWanted, FormalBehind, FormalsEnd, Indented, headed, dotted, is_new}
use Rattle.mj_line.proofs.Tables.{conditional_bare, first_ends}
use Rattle.mj_line.proofs.Formals.{AreNew, formals_new, dotted_by, dotted_is}
use Rattle.mj_line.proofs.Facts.{lift_accept}
use Rattle.mj_line.proofs.Complete.{Parted, parted_ceases, Parted2, parted_two, Gapped, first_stuck, run_rests, args_rests, refused_accept, complete_args}

-- ---- commands

-- no arguments
bare_blank : (m : Limits) (o : Sentence) (condition : Option Expr) (k : Verb) (ks : List Token) (q : Option Node) → first_node k ≡ q → may_be_bare k ≡ true →
    Parted ks → run m (Blank ∷ ks) (At (Bare o condition k)) ≡ run m ks (At (Behind (args_rest o condition k [])))
bare_blank m o condition k ks (Some n) e b h =
    ap (λ (q : Option Node). turn m ks Blank (first (first (opened o condition k q) (on_rested (rested (Bare o condition k)) Blank)) Stuck)) e
    ∙ run_rests m (Args o condition k [] n) (args_rest o condition k []) ks (args_rests o condition k [] n (first_ends k n e b)) h
bare_blank m o condition k ks None e b h =
    ap (λ (q : Option Node). turn m ks Blank (first (first (opened o condition k q) (on_rested (rested (Bare o condition k)) Blank)) Stuck)) e
    ∙ ap (λ (x : Bool). turn m ks Blank (first (on_rested (bare_rested x (bare_rest o condition k)) Blank) Stuck)) b

comment_stuck : (n : Next) → first n Stuck ≡ n
comment_stuck n = first_stuck n

pub complete_bare : (m : Limits) (o : Sentence) (condition : Option Expr) (k : Verb) (ks : List Token) → may_be_bare k ≡ true → Parted2 ks →
    run m ks (At (Bare o condition k)) ≡ run m ks (At (Behind (bare_rest o condition k)))
complete_bare m o condition k [] b h = ap (λ (x : Bool). ended_at (bare_rested x (bare_rest o condition k))) b
complete_bare m o condition k (Blank ∷ ks) b h = bare_blank m o condition k ks (first_node k) refl b h
complete_bare m o condition k (Comment text ∷ ks) b h = ap (λ (x : Bool). turn m ks (Comment text) (first (on_rested (bare_rested x (bare_rest o condition k)) (Comment text)) Stuck)) b
complete_bare m o condition k (Word w ∷ ks) b h = absurd h
complete_bare m o condition k (Digits d ∷ ks) b h = absurd h
complete_bare m o condition k (Signed s ∷ ks) b h = absurd h
complete_bare m o condition k (Quoted q ∷ ks) b h = absurd h
complete_bare m o condition k (Called w ∷ ks) b h = absurd h
complete_bare m o condition k (Special w ∷ ks) b h = absurd h
complete_bare m o condition k (Invoked w ∷ ks) b h = absurd h
complete_bare m o condition k (Numbered d ∷ ks) b h = absurd h
complete_bare m o condition k (Dollars ∷ ks) b h = absurd h
complete_bare m o condition k (Unclosed t ∷ ks) b h = absurd h
complete_bare m o condition k (Stray x ∷ ks) b h = absurd h

-- behind a command
abbrev pub clause_rest : Sentence → Option Expr → Keyword → List Part → Rest
clause_rest o condition k ps = record { line = with_clause o (clause condition k ps); gap = gap_of ps; comment = comment_gap_of ps }

pub blank_opens : (m : Limits) (o : Sentence) (condition : Option Expr) (k : Verb) (n : Node) (ks : List Token) → first_node k ≡ Some n →
    run m (Blank ∷ ks) (At (Bare o condition k)) ≡ run m ks (At (Args o condition k [] n))
blank_opens m o condition k n ks e = ap (λ (q : Option Node). turn m ks Blank (first (first (opened o condition k q) (on_rested (rested (Bare o condition k)) Blank)) Stuck)) e

complete_arguments : (m : Limits) (o : Sentence) (condition : Option Expr) (k : Verb) (ps : List Part) (front rest : List Token) → SpellsArguments front ps →
    IsForm k ps → greatest part_nesting ps ≤ m.depth → greatest part_width ps ≤ m.width → Gapped ps rest →
    run m (front ++ rest) (At (Bare o condition k)) ≡ run m rest (At (Behind (clause_rest o condition (meant k ps) ps)))
complete_arguments m o condition k [] front rest s f d w h =
    ap (λ (ks : List Token). run m (ks ++ rest) (At (Bare o condition k))) s
    ∙ complete_bare m o condition k rest f h
complete_arguments m o condition k (p ∷ ps) front rest s f d w h =
    ap (λ (ks : List Token). run m (ks ++ rest) (At (Bare o condition k))) s.1
    ∙ blank_opens m o condition k f.0 (s.0 ++ rest) f.1
    ∙ complete_args (p ∷ ps) m o condition k [] f.0 s.0 rest f.2 s.2 d w h

-- no colon stands in front
abbrev pub NoColon : List Token → Type 0
NoColon (Signed Colon ∷ ks) = ⊥
NoColon ks = Unit {0}

parted_colon : (ks : List Token) → Parted ks → NoColon ks
parted_colon [] h = tt
parted_colon (Blank ∷ ks) h = tt
parted_colon (Comment text ∷ ks) h = tt
parted_colon (Word w ∷ ks) h = absurd h
parted_colon (Digits d ∷ ks) h = absurd h
parted_colon (Signed s ∷ ks) h = absurd h
parted_colon (k ∷ ks) h = absurd h

pub worded_bare : (m : Limits) (o : Sentence) (k : Verb) (ks : List Token) → NoColon ks → run m ks (At (Worded o k)) ≡ run m ks (At (Bare o None k))
worded_bare m o k [] h = refl
worded_bare m o k (Signed Colon ∷ ks) h = absurd h
worded_bare m o k (Blank ∷ ks) h = refl
worded_bare m o k (z ∷ ks) h = refl

asked_stuck : (o : Sentence) (k : Verb) (t : Token) → spot_step (Asked o k) t ≡ Stuck
asked_stuck o k t = refl

asked_run : (m : Limits) (o : Sentence) (k : Verb) (ks : List Token) (p : phrase.Phrase) (r : List Symbol) →
    phrase.run (inside m 0) (map symbol ks) expression_wanted ≡ phrase.Accept p r → run m ks (At (Asked o k)) ≡ run m ks (In (Condition o k) expression_wanted)
asked_run m o k [] p r h = absurd (refused_accept [] p r h)
asked_run m o k (t ∷ ks) p r h = ap (λ (n : Next). turn m ks t (first n (in_step m (Condition o k) expression_wanted t))) (asked_stuck o k t)

complete_condition : (m : Limits) (o : Sentence) (k : Verb) (condition : Option Expr) (front rest : List Token) → SpellsCondition front condition →
    IsConditional (bare_of k) condition → condition_measure expr_nesting condition ≤ m.depth → condition_measure expr_width condition ≤ m.width → Parted rest →
    run m (front ++ rest) (At (Worded o k)) ≡ run m rest (At (Bare o condition k))
complete_condition m o k None front rest s c n w h =
    ap (λ (zs : List Token). run m (zs ++ rest) (At (Worded o k))) s
    ∙ worded_bare m o k rest (parted_colon rest h)
complete_condition m o k (Some e) front rest s c n w h =
    let z = ap (λ (ys : List Symbol). phrase.run (inside m 0) ys expression_wanted) (map-append symbol s.0 rest ∙
    ap (λ (ys : List Symbol). ys ++ map symbol rest) s.2.0) ∙ complete_phrase AnExpression (phrase.Whole e) (inside m 0) (map symbol rest)
    (record { kind = tt; nests = omega arith; lists = omega arith; formed = s.2.1 }) (parted_ceases AnExpression rest h) in
    ap (λ (zs : List Token). run m (zs ++ rest) (At (Worded o k))) s.1
    ∙ ap (λ (b : Bool). turn m (s.0 ++ rest) (Signed Colon) (first (first (cond b (Go (At (Asked o k))) Stuck) (on_rested (bare_rested (may_be_bare k) (bare_rest o None k)) (Signed Colon))) Stuck)) c
    ∙ asked_run m o k (s.0 ++ rest) (phrase.Whole e) (map symbol rest) z
    ∙ lift_accept m s.0 rest (Condition o k) expression_wanted (phrase.Whole e) tt z

arguments_parted : (ps : List Part) (front rest : List Token) → SpellsArguments front ps → Gapped ps rest → Parted (front ++ rest)
arguments_parted [] front rest s h = let P : List Token → Type 0 = λ zs. Parted (zs ++ rest) in subst P (sym s) (parted_two rest h)
arguments_parted (p ∷ ps) front rest s h = let P : List Token → Type 0 = λ zs. Parted (zs ++ rest) in subst P (sym s.1) tt

complete_clause : (m : Limits) (o : Sentence) (c : ℕ) (x : Clause) (front rest : List Token) → SpellsClause front x → clause_nesting x ≤ m.depth → clause_width x ≤ m.width → Gapped x.parts rest →
    run m (front ++ rest) (At (Behind (record { line = o; gap = 0; comment = c }))) ≡ run m rest (At (Behind (clause_rest o x.condition x.keyword x.parts)))
complete_clause m o c x front rest h n w i =
    let C : Keyword → Type 0 = λ k. IsConditional k x.condition in
    ap (λ (zs : List Token). run m (zs ++ rest) (At (Behind (record { line = o; gap = 0; comment = c })))) h.3
    ∙ ap (λ (q : Option Verb). turn m ((h.1 ++ h.2) ++ rest) (Word h.0) (first (begins o q) Stuck)) h.4.1
    ∙ ap (λ (zs : List Token). run m zs (At (Worded o h.4.0))) (append_assoc h.1 h.2 rest)
    ∙ complete_condition m o h.4.0 x.condition h.1 (h.2 ++ rest) h.5 (conditional_bare h.4.0 x.parts x.condition (subst C h.4.2 h.8)) (omega arith)
    (omega arith) (arguments_parted x.parts h.2 rest h.6 i)
    ∙ complete_arguments m o x.condition h.4.0 x.parts h.2 rest h.6 h.7 (omega arith) (omega arith) i
    ∙ ap (λ (k : Keyword). run m rest (At (Behind (clause_rest o x.condition k x.parts)))) (sym h.4.2)

-- ---- lines

pub blanks_go : (m : Limits) (n : ℕ) (r : Rest) (ks : List Token) →
    run m (replicate n Blank ++ ks) (At (Behind r)) ≡ run m ks (At (Behind (record { line = r.line; gap = r.gap - n; comment = r.comment - n })))
blanks_go m zero r ks =
    ap (λ (g : ℕ). run m ks (At (Behind (record { line = r.line; gap = g; comment = r.comment })))) (let e : r.gap ≡ r.gap - 0 = omega arith in e)
    ∙ ap (λ (c : ℕ). run m ks (At (Behind (record { line = r.line; gap = r.gap - 0; comment = c })))) (let e : r.comment ≡ r.comment - 0 = omega arith in e)
blanks_go m (suc n) r ks =
    blanks_go m n (record { line = r.line; gap = r.gap - 1; comment = r.comment - 1 }) ks
    ∙ ap (λ (g : ℕ). run m ks (At (Behind (record { line = r.line; gap = g; comment = (r.comment - 1) - n })))) (let e : (r.gap - 1) - n ≡ r.gap - suc n = omega arith in e)
    ∙ ap (λ (c : ℕ). run m ks (At (Behind (record { line = r.line; gap = r.gap - suc n; comment = c })))) (let e : (r.comment - 1) - n ≡ r.comment - suc n = omega arith in e)

replicate_parted : (n : ℕ) (ks : List Token) → Parted ks → Parted (replicate n Blank ++ ks)
replicate_parted zero ks h = h
replicate_parted (suc n) ks h = tt

replicate_two : (n : ℕ) (ks : List Token) → Parted2 ks → Parted2 (replicate n Blank ++ ks)
replicate_two zero ks h = h
replicate_two (suc n) ks h = replicate_parted n ks (parted_two ks h)

end_two : (c : ℕ) (ks : List Token) → SpellsEnd c ks → Parted2 ks
end_two c ks (inl h) = let P : List Token → Type 0 = λ zs. Parted2 zs in subst P (append-nil (replicate h.0 Blank) ∙ sym h.1) (replicate_two h.0 [] tt)
end_two c ks (inr h) = let P : List Token → Type 0 = λ zs. Parted2 zs in subst P (sym h.3) (replicate_two h.0 (Comment h.1 ∷ []) tt)

gap_parted : (n g : ℕ) (ks zs : List Token) → ks ≡ replicate n Blank ++ zs → g ≤ n → 1 ≤ g → Parted ks
gap_parted zero g ks zs e l i = absurd (omega arith)
gap_parted (suc n) g ks zs e l i = let P : List Token → Type 0 = λ xs. Parted xs in subst P (sym e) tt

gap_two : (n g : ℕ) (ks zs : List Token) → ks ≡ replicate n Blank ++ zs → g ≤ n → 2 ≤ g → Parted2 ks
gap_two zero g ks zs e l i = absurd (omega arith)
gap_two (suc zero) g ks zs e l i = absurd (omega arith)
gap_two (suc (suc n)) g ks zs e l i = let P : List Token → Type 0 = λ xs. Parted2 xs in subst P (sym e) tt

clauses_parted : (g c : ℕ) (ks : List Token) (ss : List Clause) → 1 ≤ g → SpellsClauses g c ks ss → Parted ks
clauses_parted g c ks [] i h = parted_two ks (end_two c ks h)
clauses_parted g c ks (s ∷ ss) i h = gap_parted h.0 g ks (h.1 ++ h.2) h.4 h.3 i

clauses_two : (g c : ℕ) (ks : List Token) (ss : List Clause) → 2 ≤ g → SpellsClauses g c ks ss → Parted2 ks
clauses_two g c ks [] i h = end_two c ks h
clauses_two g c ks (s ∷ ss) i h = gap_two h.0 g ks (h.1 ++ h.2) h.4 h.3 i

clauses_gapped : (ps : List Part) (ks : List Token) (ss : List Clause) → SpellsClauses (gap_of ps) (comment_gap_of ps) ks ss → Gapped ps ks
clauses_gapped [] ks ss h = clauses_two 2 1 ks ss (omega arith) h
clauses_gapped (p ∷ ps) ks ss h = clauses_parted 1 0 ks ss (omega arith) h

complete_end : (m : Limits) (r : Rest) (ks : List Token) → SpellsEnd r.comment ks → run m ks (At (Behind r)) ≡ Accept r.line
complete_end m r ks (inl h) =
    ap (λ (zs : List Token). run m zs (At (Behind r))) (h.1 ∙ sym (append-nil (replicate h.0 Blank)))
    ∙ blanks_go m h.0 r []
complete_end m r ks (inr h) =
    ap (λ (zs : List Token). run m zs (At (Behind r))) h.3
    ∙ blanks_go m h.0 r (Comment h.1 ∷ [])
    ∙ ap (λ (c : ℕ). run m (Comment h.1 ∷ []) (At (Behind (record { line = r.line; gap = r.gap - h.0; comment = c })))) (let n = h.2 in let e : r.comment - h.0 ≡ 0 = omega arith in e)

pub complete_clauses : (ss : List Clause) (m : Limits) (r : Rest) (ks : List Token) → SpellsClauses r.gap r.comment ks ss → greatest clause_nesting ss ≤ m.depth → greatest clause_width ss ≤ m.width →
    run m ks (At (Behind r)) ≡ Accept (record { label = r.line.label; formals = r.line.formals; level = r.line.level; clauses = r.line.clauses ++ ss })
complete_clauses [] m r ks h n w = complete_end m r ks h ∙ ap (λ (xs : List Clause). Accept
    (record { label = r.line.label; formals = r.line.formals; level = r.line.level; clauses = xs })) (sym (append-nil r.line.clauses))
complete_clauses (s ∷ ss) m r ks h n w =
    ap (λ (zs : List Token). run m zs (At (Behind r))) h.4
    ∙ blanks_go m h.0 r (h.1 ++ h.2)
    ∙ ap (λ (g : ℕ). run m (h.1 ++ h.2) (At (Behind (record { line = r.line; gap = g; comment = r.comment - h.0 })))) (let l = h.3 in let e : r.gap - h.0 ≡ 0 = omega arith in e)
    ∙ complete_clause m r.line (r.comment - h.0) s h.1 h.2 h.5 (omega arith) (omega arith) (clauses_gapped s.parts h.2 ss h.6)
    ∙ complete_clauses ss m (clause_rest r.line s.condition s.keyword s.parts) h.2 h.6 (omega arith) (omega arith)
    ∙ ap (λ (xs : List Clause). Accept (record { label = r.line.label; formals = r.line.formals; level = r.line.level; clauses = xs })) (append_assoc r.line.clauses (s ∷ []) ss)

-- ---- in front of commands

-- no dot stands behind the blanks in front
abbrev pub NoDot : List Token → Type 0
NoDot (Blank ∷ ks) = NoDot ks
NoDot (Signed Dot ∷ ks) = ⊥
NoDot ks = Unit {0}

replicate_undotted : (n : ℕ) (ks : List Token) → NoDot ks → NoDot (replicate n Blank ++ ks)
replicate_undotted zero ks h = h
replicate_undotted (suc n) ks h = replicate_undotted n ks h

end_undotted : (c : ℕ) (ks : List Token) → SpellsEnd c ks → NoDot ks
end_undotted c ks (inl h) = let P : List Token → Type 0 = λ zs. NoDot zs in subst P (append-nil (replicate h.0 Blank) ∙ sym h.1) (replicate_undotted h.0 [] tt)
end_undotted c ks (inr h) = let P : List Token → Type 0 = λ zs. NoDot zs in subst P (sym h.3) (replicate_undotted h.0 (Comment h.1 ∷ []) tt)

clause_undotted : (front rest : List Token) (x : Clause) → SpellsClause front x → NoDot (front ++ rest)
clause_undotted front rest x h = let P : List Token → Type 0 = λ zs. NoDot (zs ++ rest) in subst P (sym h.3) tt

clauses_undotted : (g c : ℕ) (ks : List Token) (ss : List Clause) → SpellsClauses g c ks ss → NoDot ks
clauses_undotted g c ks [] h = end_undotted c ks h
clauses_undotted g c ks (s ∷ ss) h = let P : List Token → Type 0 = λ zs. NoDot zs in subst P (sym h.4) (replicate_undotted h.0 (h.1 ++ h.2) (clause_undotted h.1 h.2 s h.5))

-- where no dot follows, a command may, or a comment, or the end
pub indented_same : (m : Limits) (o : Sentence) (ks : List Token) → NoDot ks → run m ks (At (Indented o)) ≡ run m ks (At (Behind (record { line = o; gap = 0; comment = 0 })))
indented_same m o [] h = refl
indented_same m o (Blank ∷ ks) h = indented_same m o ks h
indented_same m o (Signed Dot ∷ ks) h = absurd h
indented_same m o (k ∷ ks) h = refl

pub blanks_indent : (m : Limits) (n : ℕ) (o : Sentence) (ks : List Token) → run m (replicate n Blank ++ ks) (At (Indented o)) ≡ run m ks (At (Indented o))
blanks_indent m zero o ks = refl
blanks_indent m (suc n) o ks = blanks_indent m n o ks

-- the line with these commands too
abbrev with_clauses : Sentence → List Clause → Sentence
with_clauses o ss = record { label = o.label; formals = o.formals; level = o.level; clauses = o.clauses ++ ss }

complete_indented : (dots : ℕ) (m : Limits) (o : Sentence) (ss : List Clause) (front rest : List Token) → SpellsDots 0 front dots → SpellsClauses 0 0 rest ss →
    greatest clause_nesting ss ≤ m.depth → greatest clause_width ss ≤ m.width →
    run m (front ++ rest) (At (Indented o)) ≡ Accept (with_clauses (dotted_by dots o) ss)
complete_indented zero m o ss front rest s h n w =
    ap (λ (zs : List Token). run m (zs ++ rest) (At (Indented o))) s
    ∙ indented_same m o rest (clauses_undotted 0 0 rest ss h)
    ∙ complete_clauses ss m (record { line = o; gap = 0; comment = 0 }) rest h n w
complete_indented (suc dots) m o ss front rest s h n w =
    ap (λ (zs : List Token). run m (zs ++ rest) (At (Indented o))) s.3
    ∙ ap (λ (zs : List Token). run m zs (At (Indented o))) (append_assoc (replicate s.0 Blank) (Signed Dot ∷ s.1) rest)
    ∙ blanks_indent m s.0 o (Signed Dot ∷ (s.1 ++ rest))
    ∙ complete_indented dots m (dotted o) ss s.1 rest s.4 h n w

-- behind a label with its formals, or where nothing was read
record IsHead (p : Spot) (o : Sentence) (c : ℕ) : Type 0 where
  blank : (m : Limits) → step m (At p) Blank ≡ Go (At (Indented o))
  comment : (m : Limits) (text : List ℕ) → step m (At p) (Comment text) ≡ step m (At (Behind (record { line = o; gap = 1; comment = c }))) (Comment text)
  ends : ended_spot p ≡ Accept o
  few : c ≤ 1

begin_head : IsHead Begin empty_line 0
begin_head = record { blank = λ m. refl; comment = λ m text. refl; ends = refl; few = omega arith }

labelled_head : (label : List ℕ) → IsHead (Labelled label) (labelled label) 1
labelled_head label = record { blank = λ m. refl; comment = λ m text. refl; ends = refl; few = omega arith }

formals_head : (label : List ℕ) (names : List (List ℕ)) → IsHead (FormalsEnd label names) (headed label names) 1
formals_head label names = record { blank = λ m. refl; comment = λ m text. refl; ends = refl; few = omega arith }

head_same : (m : Limits) (p : Spot) (o : Sentence) (c : ℕ) (ks : List Token) → IsHead p o c → Parted ks → NoDot ks →
    run m ks (At p) ≡ run m ks (At (Behind (record { line = o; gap = 1; comment = c })))
head_same m p o c [] h i j = h.ends
head_same m p o c (Blank ∷ ks) h i j =
    ap (turn m ks Blank) (h.blank m)
    ∙ indented_same m o ks j
    ∙ ap (λ (n : ℕ). run m ks (At (Behind (record { line = o; gap = 0; comment = n })))) (let f = h.few in let e : 0 ≡ c - 1 = omega arith in e)
head_same m p o c (Comment text ∷ ks) h i j = ap (turn m ks (Comment text)) (h.comment m text)
head_same m p o c (Word w ∷ ks) h i j = absurd i
head_same m p o c (Digits d ∷ ks) h i j = absurd i
head_same m p o c (Signed s ∷ ks) h i j = absurd i
head_same m p o c (Quoted q ∷ ks) h i j = absurd i
head_same m p o c (Called w ∷ ks) h i j = absurd i
head_same m p o c (Special w ∷ ks) h i j = absurd i
head_same m p o c (Invoked w ∷ ks) h i j = absurd i
head_same m p o c (Numbered d ∷ ks) h i j = absurd i
head_same m p o c (Dollars ∷ ks) h i j = absurd i
head_same m p o c (Unclosed t ∷ ks) h i j = absurd i
head_same m p o c (Stray b ∷ ks) h i j = absurd i

-- blanks and a dot
head_dot : (m : Limits) (p : Spot) (o : Sentence) (c n : ℕ) (ks : List Token) → IsHead p o c → 1 ≤ n → run m (replicate n Blank ++ Signed Dot ∷ ks) (At p) ≡ run m ks (At (Indented (dotted o)))
head_dot m p o c zero ks h i = absurd (omega arith)
head_dot m p o c (suc n) ks h i = ap (turn m (replicate n Blank ++ Signed Dot ∷ ks) Blank) (h.blank m) ∙ blanks_indent m n o (Signed Dot ∷ ks)

complete_head : (dots : ℕ) (m : Limits) (p : Spot) (o : Sentence) (c : ℕ) (ss : List Clause) (front rest : List Token) → IsHead p o c →
    SpellsDots 1 front dots → SpellsClauses (gap_behind dots 1) (gap_behind dots c) rest ss → greatest clause_nesting ss ≤ m.depth →
    greatest clause_width ss ≤ m.width →
    run m (front ++ rest) (At p) ≡ Accept (with_clauses (dotted_by dots o) ss)
complete_head zero m p o c ss front rest i s h n w =
    ap (λ (zs : List Token). run m (zs ++ rest) (At p)) s
    ∙ head_same m p o c rest i (clauses_parted 1 c rest ss (omega arith) h) (clauses_undotted 1 c rest ss h)
    ∙ complete_clauses ss m (record { line = o; gap = 1; comment = c }) rest h n w
complete_head (suc dots) m p o c ss front rest i s h n w =
    ap (λ (zs : List Token). run m (zs ++ rest) (At p)) s.3
    ∙ ap (λ (zs : List Token). run m zs (At p)) (append_assoc (replicate s.0 Blank) (Signed Dot ∷ s.1) rest)
    ∙ head_dot m p o c s.0 (s.1 ++ rest) i s.2
    ∙ complete_indented dots m (dotted o) ss s.1 rest s.4 h n w

-- ---- formals

first_run : (m : Limits) (label w : List ℕ) (ks : List Token) → is_new [] w ≡ true → run m (Word w ∷ ks) (At (FormalsOpened label)) ≡ run m ks (At (FormalBehind label (w ∷ [])))
first_run m label w ks e = ap (λ (b : Bool). turn m ks (Word w) (first (first (cond b (Go (At (FormalBehind label (w ∷ [])))) Stuck) Stuck) Stuck)) e

pub name_run : (m : Limits) (label : List ℕ) (names : List (List ℕ)) (w : List ℕ) (ks : List Token) → is_new names w ≡ true →
    run m (Word w ∷ ks) (At (FormalWanted label names)) ≡ run m ks (At (FormalBehind label (names ++ w ∷ [])))
name_run m label names w ks e = ap (λ (b : Bool). turn m ks (Word w) (first (first (cond b (Go (At (FormalBehind label (names ++ w ∷ [])))) Stuck) Stuck) Stuck)) e

complete_names : (more : List (List ℕ)) (m : Limits) (label : List ℕ) (names : List (List ℕ)) (rest : List Token) → AreNew names more →
    run m (comma_names more ++ Signed Close ∷ rest) (At (FormalBehind label names)) ≡ run m rest (At (FormalsEnd label (names ++ more)))
complete_names [] m label names rest n = ap (λ (xs : List (List ℕ)). run m rest (At (FormalsEnd label xs))) (sym (append-nil names))
complete_names (w ∷ ws) m label names rest n =
    name_run m label names w (comma_names ws ++ Signed Close ∷ rest) n.0
    ∙ complete_names ws m label (names ++ w ∷ []) rest n.1
    ∙ ap (λ (xs : List (List ℕ)). run m rest (At (FormalsEnd label xs))) (append_assoc names (w ∷ []) ws)

complete_opened : (m : Limits) (label : List ℕ) (names : List (List ℕ)) (rest : List Token) → AreNew [] names →
    run m ((name_tokens names ++ Signed Close ∷ []) ++ rest) (At (FormalsOpened label)) ≡ run m rest (At (FormalsEnd label names))
complete_opened m label [] rest n = refl
complete_opened m label (w ∷ ws) rest n =
    ap (λ (zs : List Token). run m (Word w ∷ zs) (At (FormalsOpened label))) (append_assoc (comma_names ws) (Signed Close ∷ []) rest)
    ∙ first_run m label w (comma_names ws ++ Signed Close ∷ rest) n.0
    ∙ complete_names ws m label (w ∷ []) rest n.1

-- ---- a line

complete_labelled : (dots : ℕ) (m : Limits) (label : List ℕ) (formals : List (List ℕ)) (ss : List Clause) (names indent rest : List Token) →
    SpellsFormals (Some label) names formals → SpellsDots 1 indent dots → SpellsClauses (gap_behind dots 1) (gap_behind dots 1) rest ss →
    greatest clause_nesting ss ≤ m.depth → greatest clause_width ss ≤ m.width →
    run m ((names ++ indent) ++ rest) (At (Labelled label)) ≡ Accept (with_clauses (dotted_by dots (headed label formals)) ss)
complete_labelled dots m label formals ss names indent rest (inl f) d h n w =
    ap (λ (zs : List Token). run m ((zs ++ indent) ++ rest) (At (Labelled label))) f.0
    ∙ complete_head dots m (Labelled label) (labelled label) 1 ss indent rest (labelled_head label) d h n w
    ∙ ap (λ (xs : List (List ℕ)). Accept (with_clauses (dotted_by dots (headed label xs)) ss)) (sym f.1)
complete_labelled dots m label formals ss names indent rest (inr f) d h n w =
    ap (λ (zs : List Token). run m zs (At (Labelled label))) (append_assoc names indent rest)
    ∙ ap (λ (zs : List Token). run m (zs ++ (indent ++ rest)) (At (Labelled label))) f.0
    ∙ complete_opened m label formals (indent ++ rest) (formals_new formals f.1)
    ∙ complete_head dots m (FormalsEnd label formals) (headed label formals) 1 ss indent rest (formals_head label formals) d h n w

complete_label : (dots : ℕ) (m : Limits) (label : Option (List ℕ)) (formals : List (List ℕ)) (ss : List Clause) (front names indent rest : List Token) →
    SpellsLabel front label → SpellsFormals label names formals → SpellsDots 1 indent dots →
    SpellsClauses (gap_behind dots 1) (gap_behind dots (comment_gap label)) rest ss → greatest clause_nesting ss ≤ m.depth →
    greatest clause_width ss ≤ m.width →
    run m ((front ++ (names ++ indent)) ++ rest) (At Begin) ≡ Accept (with_clauses (dotted_by dots (record { label = label; formals = formals; level = 1; clauses = [] })) ss)
complete_label dots m None formals ss front names indent rest s f d h n w =
    ap (λ (zs : List Token). run m ((zs ++ (names ++ indent)) ++ rest) (At Begin)) s
    ∙ ap (λ (zs : List Token). run m ((zs ++ indent) ++ rest) (At Begin)) f.0
    ∙ complete_head dots m Begin empty_line 0 ss indent rest begin_head d h n w
    ∙ ap (λ (xs : List (List ℕ)). Accept (with_clauses (dotted_by dots (record { label = None; formals = xs; level = 1; clauses = [] })) ss)) (sym f.1)
complete_label dots m (Some l) formals ss front names indent rest (inl s) f d h n w =
    ap (λ (zs : List Token). run m ((zs ++ (names ++ indent)) ++ rest) (At Begin)) s.0
    ∙ ap (λ (b : Bool). turn m ((names ++ indent) ++ rest) (Word l) (first (first (cond b (Go (At (Labelled l))) Stuck) Stuck) Stuck)) (let i = s.1 in
    let e : nat_le (length l) 31 ≡ true = grind (arith, nat_tests) in e)
    ∙ complete_labelled dots m l formals ss names indent rest f d h n w
complete_label dots m (Some l) formals ss front names indent rest (inr s) f d h n w =
    ap (λ (zs : List Token). run m ((zs ++ (names ++ indent)) ++ rest) (At Begin)) s
    ∙ complete_labelled dots m l formals ss names indent rest f d h n w

line_of_level : (l : Sentence) (dots : ℕ) → l.level ≡ suc dots → with_clauses (dotted_by dots (record { label = l.label; formals = l.formals; level = 1; clauses = [] })) l.clauses ≡ l
line_of_level l dots e =
    ap (λ (x : Sentence). with_clauses x l.clauses) (dotted_is dots (record { label = l.label; formals = l.formals; level = 1; clauses = [] }))
    ∙ ap (λ (n : ℕ). let x : Sentence = record { label = l.label; formals = l.formals; level = n; clauses = l.clauses } in x) (let f : dots + 1 ≡ l.level = omega arith in f)

-- COMPLETE
pub complete_line : (m : Limits) (ks : List Token) (l : Sentence) → SpellsSentence ks l → IsSentenceWithin m.depth m.width l → run m ks (At Begin) ≡ Accept l
complete_line m ks l s w =
    let h = s.4 in
    ap (λ (zs : List Token). run m zs (At Begin)) s.3
    ∙ ap (λ (zs : List Token). run m (zs ++ s.1) (At Begin)) h.cut
    ∙ complete_label s.2 m l.label l.formals l.clauses h.front h.names h.indent s.1 h.label_is h.formals_are h.dots_are s.6 w.nests w.lists
    ∙ ap (λ (x : Sentence). Accept x) (line_of_level l s.2 s.5)
