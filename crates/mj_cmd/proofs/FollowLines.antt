-- What the functions that read a command or a line follow, from the word of a command on.
use Rattle.std.proofs.Common.{◌≡◌, ℕ, zero, suc, ◌-◌, List, [], ◌∷◌, ◌++◌, refl, ap, sym, ◌∙◌, subst, Bool, true, false, append_assoc, append-nil, arith, Option, Some, None, map, Result, Ok, Err}
use Rattle.std.specs.Prelude.{cond, replicate}
use Rattle.std.proofs.lemmas.List.{map-append}
use Rattle.mj_ast.specs.declared.sign.Sign.TheVariants.{Colon}
use Rattle.mj_ast.specs.declared.keyword.Keyword.{Keyword}
use Rattle.mj_ast.specs.declared.keyword.Verb.{Verb}
use Rattle.mj_ast.specs.declared.keyword.Verb.TheVariants.{Of}
use Rattle.mj_ast.specs.Syntax.{Expr, LineCommand, Command, Do, Job}
use Rattle.mj_ast.specs.Trees.{step_of}
use Rattle.mj_ast.specs.declared.routine.LineCommand as kept_step
use Rattle.mj_ast.specs.Tokens.{Token, Word, Digits, Signed, Blank, Comment}
use Rattle.mj_ast.specs.Commands.{Part, verb_of, bare_of, meant, is_conditional, command_parts, keyword_for, plain, plain_step}
use Rattle.mj_expr.specs.Machine.{Limits}
use Rattle.mj_expr.specs.declared.stop.ParseError.{ParseError}
use Rattle.mj_lex.specs.declared.token.Lexeme.{Lexeme}
use Rattle.mj_line.specs.Forms.{Node, first_node, may_be_bare}
use Rattle.mj_line.specs.Sentences.{Clause, Sentence, clause_of}
use Rattle.mj_line.specs.Machine.{bare_rest, ended_at, opened, Condition, Behind, Over, Worded, Asked, Bare, Args, At, In, with_clause, clause, args_rest, bare_rested, expression_wanted, rested, Accept, refused, run, turn, begins, first, Go, Stuck, on_rested}
use Rattle.mj_line.proofs.CompleteLines.{blanks_go, complete_bare, NoColon, worded_bare}
use Rattle.mj_cmd.specs.Heads.{HasNoBlank, HasNoColon, HasNoWord, HasParted, HasOther}
use Rattle.mj_cmd.specs.Reads.{IsMeant, IsPlainCommand, IsWrittenStep, AreWritten, ReadsAs}
use Rattle.mj_cmd.proofs.Follow.{IsNoComment, parted_same}

-- ---- from the word to the arguments

-- a blank before arguments
pub blank_opens : (m : Limits) (o : Sentence) (condition : Option Expr) (k : Verb) (n : Node) (ls ks : List Token) → ls ≡ Blank ∷ ks → first_node k ≡ Some n →
    run m ls (At (Bare o condition k)) ≡ run m ks (At (Args o condition k [] n))
blank_opens m o condition k n ls ks l e =
    ap (λ (zs : List Token). run m zs (At (Bare o condition k))) l
    ∙ ap (λ (q : Option Node). turn m ks Blank (first (first (opened o condition k q) (on_rested (rested (Bare o condition k)) Blank)) Stuck)) e

-- a command that has arguments goes on with a blank
pub bare_stuck : (m : Limits) (o : Sentence) (condition : Option Expr) (k : Verb) (ks : List Token) → may_be_bare k ≡ false → HasNoBlank ks → run m ks (At (Bare o condition k)) ≡ refused ks
bare_stuck m o condition k [] n h = ap (λ (b : Bool). ended_at (bare_rested b (bare_rest o condition k))) n
bare_stuck m o condition k (Blank ∷ ks) n h = absurd h
bare_stuck m o condition k (t ∷ ks) n h = ap (λ (b : Bool). turn m ks t (first (first Stuck (on_rested (bare_rested b (bare_rest o condition k)) t)) Stuck)) n

-- one that may have none goes on with a blank, or ends
pub optional_stuck : (m : Limits) (o : Sentence) (condition : Option Expr) (k : Verb) (t : Token) (ks : List Token) → may_be_bare k ≡ true →
    HasNoBlank (t ∷ ks) → run m (t ∷ ks) (At (Bare o condition k)) ≡ refused (t ∷ ks)
optional_stuck m o condition k Blank ks n h = absurd h
optional_stuck m o condition k t ks n h = ap (λ (b : Bool). turn m ks t (first (first Stuck (on_rested (bare_rested b (bare_rest o condition k)) t)) Stuck)) n

-- without arguments
pub bare_end : (m : Limits) (o : Sentence) (condition : Option Expr) (k : Verb) → may_be_bare k ≡ true → run m [] (At (Bare o condition k)) ≡ run m [] (At (Behind (args_rest o condition k [])))
bare_end m o condition k n = ap (λ (b : Bool). ended_at (bare_rested b (bare_rest o condition k))) n

pub bare_blank : (m : Limits) (o : Sentence) (condition : Option Expr) (k : Verb) (ls ks : List Token) → ls ≡ Blank ∷ ks → may_be_bare k ≡ true → HasParted ks →
    run m ls (At (Bare o condition k)) ≡ run m ks (At (Behind (args_rest o condition k [])))
bare_blank m o condition k ls ks l b h =
    ap (λ (zs : List Token). run m zs (At (Bare o condition k))) l
    ∙ complete_bare m o condition k (Blank ∷ ks) b (parted_same ks h)

-- a command that never has some
pub lone_other : (m : Limits) (o : Sentence) (condition : Option Expr) (k : Verb) (ls ks : List Token) → ls ≡ Blank ∷ ks → first_node k ≡ None →
    may_be_bare k ≡ true → HasOther ks → run m ls (At (Bare o condition k)) ≡ refused ks
lone_other m o condition k ls ks l e b h =
    ap (λ (zs : List Token). run m zs (At (Bare o condition k))) l
    ∙ ap (λ (q : Option Node). turn m ks Blank (first (first (opened o condition k q) (on_rested (rested (Bare o condition k)) Blank)) Stuck)) e
    ∙ ap (λ (x : Bool). turn m ks Blank (first (on_rested (bare_rested x (bare_rest o condition k)) Blank) Stuck)) b
    ∙ behind_other m (with_clause o (clause condition (bare_of k) [])) ks h
  where
    behind_other : (m : Limits) (o : Sentence) (ks : List Token) → HasOther ks → run m ks (At (Behind (record { line = o; gap = 1; comment = 0 }))) ≡ refused ks
    behind_other m o [] h = absurd h
    behind_other m o (Blank ∷ ks) h = absurd h
    behind_other m o (Comment text ∷ ks) h = absurd h
    behind_other m o (t ∷ ks) h = refl

-- a postcondition begins
pub colon_opens : (m : Limits) (o : Sentence) (k : Verb) (ls ks : List Token) → ls ≡ Signed Colon ∷ ks → is_conditional (bare_of k) ≡ true →
    run m ls (At (Worded o k)) ≡ run m ks (In (Condition o k) expression_wanted)
colon_opens m o k ls ks l c =
    ap (λ (zs : List Token). run m zs (At (Worded o k))) l
    ∙ ap (λ (b : Bool). turn m ks (Signed Colon) (first (first (cond b (Go (At (Asked o k))) Stuck) (on_rested (bare_rested (may_be_bare k) (bare_rest o None k)) (Signed Colon))) Stuck)) c
    ∙ asked o k ks
  where
    asked : (o : Sentence) (k : Verb) (ks : List Token) → run m ks (At (Asked o k)) ≡ run m ks (In (Condition o k) expression_wanted)
    asked o k [] = refl
    asked o k (t ∷ ks) = refl

-- where none may stand
pub unconditional : (m : Limits) (o : Sentence) (k : Verb) (ks : List Token) → is_conditional (bare_of k) ≡ false → run m ks (At (Worded o k)) ≡ run m ks (At (Bare o None k))
unconditional m o k [] h = refl
unconditional m o k (Signed Colon ∷ ks) h = ap (λ (b : Bool). turn m ks (Signed Colon)
    (first (first (cond b (Go (At (Asked o k))) Stuck) (on_rested (bare_rested (may_be_bare k) (bare_rest o None k)) (Signed Colon))) Stuck)) h
unconditional m o k (Signed s ∷ ks) h = worded_bare m o k (Signed s ∷ ks) tt
unconditional m o k (Blank ∷ ks) h = refl
unconditional m o k (t ∷ ks) h = worded_bare m o k (t ∷ ks) tt

colon_same : (ks : List Token) → HasNoColon ks → NoColon ks
colon_same [] h = tt
colon_same (Signed Colon ∷ ks) h = absurd h
colon_same (Signed s ∷ ks) h = tt
colon_same (t ∷ ks) h = tt

pub no_condition : (m : Limits) (o : Sentence) (k : Verb) (ks : List Token) → HasNoColon ks → run m ks (At (Worded o k)) ≡ run m ks (At (Bare o None k))
no_condition m o k ks h = worded_bare m o k ks (colon_same ks h)

-- by the keyword that it is
pub at_keyword : (m : Limits) (o : Sentence) (condition : Option Expr) (k w : Keyword) (ks : List Token) → k ≡ w → run m ks (At (Bare o condition (Of k))) ≡ run m ks (At (Bare o condition (Of w)))
at_keyword m o condition k w ks e = ap (λ (x : Keyword). run m ks (At (Bare o condition (Of x)))) e

-- the word of one command is that command
pub own_meant : (k : Keyword) (ps : List Part) → meant (Of k) ps ≡ k
own_meant k [] = refl
own_meant k (p ∷ ps) = refl

-- behind the word of one command
pub own_reads : {X : Type 0} (limited : Bool) (command : X → Command) (rest : X →
    List Lexeme) (r : Result X ParseError) (m : Limits) (ls : List Lexeme) (o : Sentence) (condition : Option Expr) (v : Verb) (k : Keyword) → v ≡ Of k →
    ReadsAs limited (λ ps x. IsPlainCommand ps (command x) × (keyword_for (command x) ≡ k)) rest r m ls (At (Bare o condition (Of k))) (λ ps. At (Behind (args_rest o condition (Of k) ps))) →
    ReadsAs limited (λ ps x. IsMeant v ps (command x)) rest r m ls (At (Bare o condition v)) (λ ps. At (Behind (args_rest o condition v ps)))
own_reads {X = X} limited command rest r m ls o condition v k e h = subst P (sym e) (by r h)
  where
    P : Verb → Type 0
    P w = ReadsAs limited (λ ps x. IsMeant w ps (command x)) rest r m ls (At (Bare o condition w)) (λ ps. At (Behind (args_rest o condition w ps)))

    by : (r : Result X ParseError) → ReadsAs limited (λ ps x. IsPlainCommand ps (command x) ×
        (keyword_for (command x) ≡ k)) rest r m ls (At (Bare o condition (Of k))) (λ ps. At (Behind (args_rest o condition (Of k) ps))) →
        ReadsAs limited (λ ps x. IsMeant (Of k) ps (command x)) rest r m ls (At (Bare o condition (Of k))) (λ ps. At (Behind (args_rest o condition (Of k) ps)))
    by (Ok x) h = (h.0, λ l. let i = h.1 l in (i.0, i.1 ∙ sym (own_meant k h.0)), h.2)
    by (Err x) h = h

-- a command of these parts
abbrev pub clause_is : Option Expr → Keyword → List Part → Clause
clause_is condition k ps = clause condition k ps

pub clause_same : (c d : Option Expr) (k w : Keyword) (ps qs : List Part) → c ≡ d → k ≡ w → ps ≡ qs → clause_is c k ps ≡ clause_is d w qs
clause_same c d k w ps qs e f g = ap (λ (x : Option Expr). clause_is x k ps) e ∙ ap (λ (x : Keyword). clause_is d x ps) f ∙ ap (λ (x : List Part). clause_is d w x) g

-- ---- lines

-- behind a command stands a blank, a comment or nothing
pub behind_stuck : (m : Limits) (o : Sentence) (ks : List Token) → HasOther ks → run m ks (At (Behind (record { line = o; gap = 1; comment = 0 }))) ≡ refused ks
behind_stuck m o [] h = absurd h
behind_stuck m o (Blank ∷ ks) h = absurd h
behind_stuck m o (Comment text ∷ ks) h = absurd h
behind_stuck m o (k ∷ ks) h = refl

none_skip : (m : Limits) (o : Sentence) (ks : List Token) → HasParted ks → HasNoBlank ks →
    run m ks (At (Behind (record { line = o; gap = 1; comment = 0 }))) ≡ run m ks (At (Behind (record { line = o; gap = 0; comment = 0 })))
none_skip m o [] h i = refl
none_skip m o (Blank ∷ ks) h i = absurd i
none_skip m o (Comment text ∷ ks) h i = refl
none_skip m o (Word w ∷ ks) h i = absurd h
none_skip m o (Digits d ∷ ks) h i = absurd h
none_skip m o (Signed s ∷ ks) h i = absurd h
none_skip m o (k ∷ ks) h i = absurd h

-- blanks where none is wanted
pub blanks_stay : (m : Limits) (o : Sentence) (n : ℕ) (ks rest : List Token) → ks ≡ replicate n Blank ++ rest →
    run m ks (At (Behind (record { line = o; gap = 0; comment = 0 }))) ≡ run m rest (At (Behind (record { line = o; gap = 0; comment = 0 })))
blanks_stay m o n ks rest e =
    ap (λ (zs : List Token). run m zs (At (Behind (record { line = o; gap = 0; comment = 0 })))) e
    ∙ blanks_go m n (record { line = o; gap = 0; comment = 0 }) rest
    ∙ ap (λ (g : ℕ). run m rest (At (Behind (record { line = o; gap = g; comment = 0 - n })))) (let z : 0 - n ≡ 0 = omega arith in z)
    ∙ ap (λ (g : ℕ). run m rest (At (Behind (record { line = o; gap = 0; comment = g })))) (let z : 0 - n ≡ 0 = omega arith in z)

-- blanks before a command, a comment or nothing
pub blanks_skip : (m : Limits) (o : Sentence) (n : ℕ) (ks rest : List Token) → HasParted ks → HasNoBlank rest → ks ≡ replicate n Blank ++ rest →
    run m ks (At (Behind (record { line = o; gap = 1; comment = 0 }))) ≡ run m rest (At (Behind (record { line = o; gap = 0; comment = 0 })))
blanks_skip m o (suc n) ks rest h i e =
    ap (λ (zs : List Token). run m zs (At (Behind (record { line = o; gap = 1; comment = 0 })))) e
    ∙ blanks_stay m o n (replicate n Blank ++ rest) rest refl
blanks_skip m o zero ks rest h i e =
    let P : List Token → Type 0 = λ zs. HasParted zs in
    ap (λ (zs : List Token). run m zs (At (Behind (record { line = o; gap = 1; comment = 0 })))) e ∙ none_skip m o rest (subst P e h) i

-- ---- lists

-- one command more
pub step_pushed : (old new : List kept_step.LineCommand) (x : kept_step.LineCommand) (ts : List Clause) (t : Clause) → new ≡ old ++ x ∷ [] →
    ts ≡ map clause_of (map step_of old) → t ≡ clause_of (step_of x) → ts ++ t ∷ [] ≡ map clause_of (map step_of new)
step_pushed old new x ts t h i j =
    ap (λ (ys : List Clause). ys ++ t ∷ []) i ∙ ap (λ (y : Clause). map clause_of (map step_of old) ++ y ∷ []) j
    ∙ sym (ap (λ (xs : List kept_step.LineCommand). map clause_of (map step_of xs)) h ∙ ap (map clause_of) (map-append step_of old (x ∷ [])) ∙ map-append clause_of (map step_of old) (step_of x ∷ []))

-- ---- commands of a line

pub unknown_stuck : (m : Limits) (o : Sentence) (ks rest : List Token) (w : List ℕ) → ks ≡ Word w ∷ rest → verb_of w ≡ None →
    run m ks (At (Behind (record { line = o; gap = 0; comment = 0 }))) ≡ refused ks
unknown_stuck m o ks rest w e h =
    ap (λ (zs : List Token). run m zs (At (Behind (record { line = o; gap = 0; comment = 0 })))) e
    ∙ ap (λ (q : Option Verb). turn m rest (Word w) (first (begins o q) Stuck)) h
    ∙ sym (ap refused e)

pub known_goes : (m : Limits) (o : Sentence) (ks rest : List Token) (w : List ℕ) (k : Verb) → ks ≡ Word w ∷ rest → verb_of w ≡ Some k →
    run m ks (At (Behind (record { line = o; gap = 0; comment = 0 }))) ≡ run m rest (At (Worded o k))
known_goes m o ks rest w k e h =
    ap (λ (zs : List Token). run m zs (At (Behind (record { line = o; gap = 0; comment = 0 })))) e
    ∙ ap (λ (q : Option Verb). turn m rest (Word w) (first (begins o q) Stuck)) h

-- the line with these commands
abbrev pub with_steps : Sentence → List Clause → Sentence
with_steps o ss = record { label = o.label; formals = o.formals; level = o.level; clauses = o.clauses ++ ss }

pub no_steps : (m : Limits) (o : Sentence) (ks : List Token) → run m ks (At (Behind (record { line = o; gap = 0; comment = 0 }))) ≡
    run m ks (At (Behind (record { line = with_steps o []; gap = 0; comment = 0 })))
no_steps m o ks = ap (λ (ss : List Clause). run m ks (At (Behind
    (record { line = record { label = o.label; formals = o.formals; level = o.level; clauses = ss }; gap = 0; comment = 0 })))) (sym (append-nil o.clauses))

pub more_steps : (m : Limits) (o : Sentence) (ss : List Clause) (s : Clause) (ks : List Token) →
    run m ks (At (Behind (record { line = with_clause (with_steps o ss) s; gap = 0; comment = 0 }))) ≡
    run m ks (At (Behind (record { line = with_steps o (ss ++ s ∷ []); gap = 0; comment = 0 })))
more_steps m o ss s ks = ap (λ (xs : List Clause). run m ks (At (Behind
    (record { line = record { label = o.label; formals = o.formals; level = o.level; clauses = xs }; gap = 0; comment = 0 }))))
    (append_assoc o.clauses ss (s ∷ []))

-- behind commands
pub end_none : (m : Limits) (o : Sentence) (ks : List Token) → ks ≡ [] → run m ks (At (Behind (record { line = o; gap = 0; comment = 0 }))) ≡ Accept o
end_none m o ks e = ap (λ (zs : List Token). run m zs (At (Behind (record { line = o; gap = 0; comment = 0 })))) e

pub end_comment : (m : Limits) (o : Sentence) (ks rest : List Token) (text : List ℕ) → ks ≡ Comment text ∷ rest →
    run m ks (At (Behind (record { line = o; gap = 0; comment = 0 }))) ≡ run m rest (At (Over o))
end_comment m o ks rest text e = ap (λ (zs : List Token). run m zs (At (Behind (record { line = o; gap = 0; comment = 0 })))) e

pub over_stuck : (m : Limits) (o : Sentence) (k : Token) (ks : List Token) → run m (k ∷ ks) (At (Over o)) ≡ refused (k ∷ ks)
over_stuck m o k ks = refl

pub end_stuck : (m : Limits) (o : Sentence) (k : Token) (ks : List Token) → HasNoWord (k ∷ ks) → HasNoBlank (k ∷ ks) → IsNoComment k →
    run m (k ∷ ks) (At (Behind (record { line = o; gap = 0; comment = 0 }))) ≡ refused (k ∷ ks)
end_stuck m o (Word w) ks h i j = absurd h
end_stuck m o Blank ks h i j = absurd i
end_stuck m o (Comment text) ks h i j = absurd j
end_stuck m o k ks h i j = refl

-- ---- what was read, as it may be written

plain_keyword : (w : Command) → keyword_for (plain w) ≡ keyword_for w
plain_keyword (Do list) = refl
plain_keyword (Job list) = refl
plain_keyword w = refl

pub bare_written : (x : Command) → command_parts x ≡ [] → plain x ≡ x → IsPlainCommand [] x
bare_written x e f = (x, sym e, f)

pub step_written : (c d : Option Expr) (k : Keyword) (ps : List Part) (x : Command) → c ≡ d → keyword_for x ≡ k → IsPlainCommand ps x →
    IsWrittenStep (clause_is c k ps) (record { condition = d; command = x })
step_written c d k ps x e f h = (
  record { condition = d; command = h.0 },
  clause_same c d k (keyword_for h.0) ps (command_parts h.0) e (sym f ∙ sym (ap keyword_for h.2) ∙ plain_keyword h.0) h.1,
  ap (λ (y : Command). let s : LineCommand = record { condition = d; command = y } in s) h.2,
)

pub written_pushed : (old new : List kept_step.LineCommand) (x : kept_step.LineCommand) (ts : List Clause) (t : Clause) → new ≡ old ++ x ∷ [] →
    AreWritten ts (map step_of old) → IsWrittenStep t (step_of x) → AreWritten (ts ++ t ∷ []) (map step_of new)
written_pushed old new x ts t h i j = (
  i.0 ++ j.0 ∷ [],
  ap (λ (ys : List Clause). ys ++ t ∷ []) i.1 ∙ ap (λ (y : Clause). map clause_of i.0 ++ y ∷ []) j.1 ∙ sym (map-append clause_of i.0 (j.0 ∷ [])),
  map-append plain_step i.0 (j.0 ∷ []) ∙ ap (λ (ys : List LineCommand). ys ++ plain_step j.0 ∷ []) i.2 ∙ ap (λ (y : LineCommand). map step_of old ++ y ∷ []) j.2
      ∙ sym (ap (λ (xs : List kept_step.LineCommand). map step_of xs) h ∙ map-append step_of old (x ∷ [])),
)
