-- What stands in front of commands: a label, formals and dots.
use Rattle.std.proofs.Common.{◌≡◌, ℕ, suc, ◌+◌, ◌≤◌, nat_le, List, [], ◌∷◌, ◌++◌, length, refl, ap, sym, ◌∙◌, Bool, true, false, arith, Option, inl, inr, Result, Ok, Err}
use Rattle.std.specs.Prelude.{cond, bytes_eq, replicate, is_some}
use Rattle.std.specs.List.{list_any}
use Rattle.std.proofs.lemmas.Bool.Decides.{nat_tests}
use Rattle.mj_ast.specs.declared.sign.Sign.TheVariants.{Comma, Open, Close, Dot}
use Rattle.mj_ast.specs.Syntax.{LineCommand, Line}
use Rattle.mj_ast.specs.Tokens.{Token, Word, Digits, Signed, Blank, Comment}
use Rattle.mj_expr.specs.Machine.{Limits}
use Rattle.mj_expr.specs.declared.stop.ParseError.{ParseError}
use Rattle.mj_lex.specs.declared.token.Lexeme.{Lexeme}
use Rattle.mj_lex.specs.Seen.{tokens_seen}
use Rattle.mj_line.specs.Sentences.{Clause, Sentence}
use Rattle.mj_line.specs.Machine.{Spot, Begin, Labelled, FormalsOpened, FormalWanted, FormalBehind, FormalsEnd, Indented, Behind, State, At, is_new, Go, Stuck, first, refused, run, turn}
use Rattle.mj_line.proofs.Formals.{long_new}
use Rattle.mj_line.proofs.CompleteLines.{blanks_indent, NoDot, indented_same, name_run}
use Rattle.mj_cmd.specs.Heads.{HasNoComma, HasNoOpen, HasNoClose, HasNoName, HasNoBlank, HasNoDot, HasOther, IsUnlabelled, IsHead}
use Rattle.mj_cmd.specs.Reads.{ReadsTokens, AreWritten, IsWrittenLine}
use Rattle.mj_cmd.proofs.Follow.{refuses_from}

-- a reading from further on, where that is the same
pub reads_behind : {X T : Type 0} (limited : Bool) (tree : X → T) (rest : X → List Lexeme) (r : Result X ParseError) (m : Limits) (ls ms : List Lexeme) (s t : State) (holding : T → State) →
    run m (tokens_seen ls) s ≡ run m (tokens_seen ms) t → ReadsTokens limited tree rest r m ms t holding → ReadsTokens limited tree rest r m ls s holding
reads_behind limited tree rest (Ok x) m ls ms s t holding e h = (h.0, h.1, e ∙ h.2)
reads_behind limited tree rest (Err x) m ls ms s t holding e h = refuses_from limited x _ _ e h

-- ---- a label

label_at : (m : Limits) (w : List ℕ) (rest : List Token) (b : Bool) → b ≡ true → turn m rest (Word w) (first (first (cond b (Go (At (Labelled w))) Stuck) Stuck) Stuck) ≡ run m rest (At (Labelled w))
label_at m w rest b e = ap (λ (x : Bool). turn m rest (Word w) (first (first (cond x (Go (At (Labelled w))) Stuck) Stuck) Stuck)) e

pub label_word : (m : Limits) (ks rest : List Token) (w t : List ℕ) → ks ≡ Word w ∷ rest → length w ≤ 31 → t ≡ w → run m ks (At Begin) ≡ run m rest (At (Labelled t))
label_word m ks rest w t e l f =
    ap (λ (zs : List Token). run m zs (At Begin)) e
    ∙ label_at m w rest (nat_le (length w) 31) (grind (arith, nat_tests))
    ∙ ap (λ (x : List ℕ). run m rest (At (Labelled x))) (sym f)

pub label_digits : (m : Limits) (ks rest : List Token) (d t : List ℕ) → ks ≡ Digits d ∷ rest → t ≡ d → run m ks (At Begin) ≡ run m rest (At (Labelled t))
label_digits m ks rest d t e f =
    ap (λ (zs : List Token). run m zs (At Begin)) e
    ∙ ap (λ (x : List ℕ). run m rest (At (Labelled x))) (sym f)

-- ---- formals

pub open_goes : (m : Limits) (label : List ℕ) (ks rest : List Token) → ks ≡ Signed Open ∷ rest → run m ks (At (Labelled label)) ≡ run m rest (At (FormalsOpened label))
open_goes m label ks rest e = ap (λ (zs : List Token). run m zs (At (Labelled label))) e

-- where no parenthesis opens, a label is as one with none
pub unopened : (m : Limits) (label : List ℕ) (ks : List Token) → HasNoOpen ks → run m ks (At (Labelled label)) ≡ run m ks (At (FormalsEnd label []))
unopened m label [] h = refl
unopened m label (Signed Open ∷ ks) h = absurd h
unopened m label (k ∷ ks) h = refl

pub closed_goes : (m : Limits) (label : List ℕ) (ks rest : List Token) → ks ≡ Signed Close ∷ rest → run m ks (At (FormalsOpened label)) ≡ run m rest (At (FormalsEnd label []))
closed_goes m label ks rest e = ap (λ (zs : List Token). run m zs (At (FormalsOpened label))) e

-- the first name is wanted as the others are
pub unclosed : (m : Limits) (label : List ℕ) (ks : List Token) → HasNoClose ks → run m ks (At (FormalsOpened label)) ≡ run m ks (At (FormalWanted label []))
unclosed m label [] h = refl
unclosed m label (Signed Close ∷ ks) h = absurd h
unclosed m label (k ∷ ks) h = refl

long_stuck : (m : Limits) (label : List ℕ) (names : List (List ℕ)) (w : List ℕ) (ks : List Token) (b : Bool) → nat_le (length w) 31 ≡ b → (length w ≤ 31 → ⊥) →
    run m (Word w ∷ ks) (At (FormalWanted label names)) ≡ refused (Word w ∷ ks)
long_stuck m label names w ks true e h = absurd (h (grind (arith, nat_tests)))
long_stuck m label names w ks false e h = ap (λ (b : Bool). turn m ks (Word w) (first (first (cond b (Go (At (FormalBehind label (names ++ w ∷ [])))) Stuck) Stuck) Stuck)) (long_new names w e)

pub unnamed : (m : Limits) (label : List ℕ) (names : List (List ℕ)) (ks : List Token) → HasNoName ks → run m ks (At (FormalWanted label names)) ≡ refused ks
unnamed m label names [] h = refl
unnamed m label names (Word w ∷ ks) h = long_stuck m label names w ks (nat_le (length w) 31) refl h
unnamed m label names (k ∷ ks) h = refl

-- a name that stands there already
pub named_stuck : (m : Limits) (label : List ℕ) (names : List (List ℕ)) (ks rest : List Token) (w : List ℕ) → ks ≡ Word w ∷ rest →
    list_any (bytes_eq w) names ≡ true → run m ks (At (FormalWanted label names)) ≡ refused ks
named_stuck m label names ks rest w e h =
    ap (λ (zs : List Token). run m zs (At (FormalWanted label names))) e
    ∙ ap (λ (b : Bool). turn m rest (Word w) (first (first (cond (cond b false (nat_le (length w) 31)) (Go (At (FormalBehind label (names ++ w ∷ [])))) Stuck) Stuck) Stuck)) h
    ∙ sym (ap refused e)

new_is : (names : List (List ℕ)) (w : List ℕ) → list_any (bytes_eq w) names ≡ false → length w ≤ 31 → is_new names w ≡ true
new_is names w e h = ap (λ (b : Bool). cond b false (nat_le (length w) 31)) e ∙ (let f : nat_le (length w) 31 ≡ true = grind (arith, nat_tests) in f)

pub name_goes : (m : Limits) (label : List ℕ) (names : List (List ℕ)) (ks rest : List Token) (w t : List ℕ) → ks ≡ Word w ∷ rest →
    list_any (bytes_eq w) names ≡ false → length w ≤ 31 → t ≡ w → run m ks (At (FormalWanted label names)) ≡
    run m rest (At (FormalBehind label (names ++ t ∷ [])))
name_goes m label names ks rest w t e f h i =
    ap (λ (zs : List Token). run m zs (At (FormalWanted label names))) e
    ∙ name_run m label names w rest (new_is names w f h)
    ∙ ap (λ (x : List ℕ). run m rest (At (FormalBehind label (names ++ x ∷ [])))) (sym i)

pub comma_goes : (m : Limits) (label : List ℕ) (names : List (List ℕ)) (ks rest : List Token) → ks ≡ Signed Comma ∷ rest →
    run m ks (At (FormalBehind label names)) ≡ run m rest (At (FormalWanted label names))
comma_goes m label names ks rest e = ap (λ (zs : List Token). run m zs (At (FormalBehind label names))) e

pub close_goes : (m : Limits) (label : List ℕ) (names : List (List ℕ)) (ks rest : List Token) → ks ≡ Signed Close ∷ rest →
    run m ks (At (FormalBehind label names)) ≡ run m rest (At (FormalsEnd label names))
close_goes m label names ks rest e = ap (λ (zs : List Token). run m zs (At (FormalBehind label names))) e

pub names_stuck : (m : Limits) (label : List ℕ) (names : List (List ℕ)) (ks : List Token) → HasNoComma ks → HasNoClose ks → run m ks (At (FormalBehind label names)) ≡ refused ks
names_stuck m label names [] h i = refl
names_stuck m label names (Signed Comma ∷ ks) h i = absurd h
names_stuck m label names (Signed Close ∷ ks) h i = absurd i
names_stuck m label names (k ∷ ks) h i = refl

-- ---- dots

-- the line with so many dots more
abbrev pub with_dots : ℕ → Sentence → Sentence
with_dots n o = record { label = o.label; formals = o.formals; level = n + o.level; clauses = o.clauses }

pub no_dots : (m : Limits) (o : Sentence) (ks : List Token) → run m ks (At (Indented o)) ≡ run m ks (At (Indented (with_dots 0 o)))
no_dots m o ks = ap (λ (n : ℕ). run m ks (At (Indented (record { label = o.label; formals = o.formals; level = n; clauses = o.clauses })))) (let e : o.level ≡ 0 + o.level = omega arith in e)

pub blanks_pass : (m : Limits) (o : Sentence) (n : ℕ) (ks rest : List Token) → ks ≡ replicate n Blank ++ rest → run m ks (At (Indented o)) ≡ run m rest (At (Indented o))
blanks_pass m o n ks rest e = ap (λ (zs : List Token). run m zs (At (Indented o))) e ∙ blanks_indent m n o rest

pub dot_passes : (m : Limits) (o : Sentence) (n : ℕ) (ks rest : List Token) → ks ≡ Signed Dot ∷ rest → run m ks (At (Indented (with_dots n o))) ≡ run m rest (At (Indented (with_dots (n + 1) o)))
dot_passes m o n ks rest e =
    ap (λ (zs : List Token). run m zs (At (Indented (with_dots n o)))) e
    ∙ ap (λ (l : ℕ). run m rest (At (Indented (record { label = o.label; formals = o.formals; level = l; clauses = o.clauses })))) (let f : suc (n + o.level) ≡ (n + 1) + o.level = omega arith in f)

undotted : (ks : List Token) → HasNoBlank ks → HasNoDot ks → NoDot ks
undotted [] h i = tt
undotted (Blank ∷ ks) h i = absurd h
undotted (Signed Dot ∷ ks) h i = absurd i
undotted (k ∷ ks) h i = tt

pub dots_end : (m : Limits) (o : Sentence) (ks : List Token) → HasNoBlank ks → HasNoDot ks → run m ks (At (Indented o)) ≡ run m ks (At (Behind (record { line = o; gap = 0; comment = 0 })))
dots_end m o ks h i = indented_same m o ks (undotted ks h i)

-- a blank behind a label and its formals, or where there is no label
pub head_blank : (m : Limits) (p : Spot) (o : Sentence) (ks rest : List Token) → IsHead ks p o → ks ≡ Blank ∷ rest → run m ks (At p) ≡ run m rest (At (Indented o))
head_blank m p o ks rest (inl h) e =
    ap (λ (zs : List Token). run m zs (At p)) e
    ∙ ap (λ (x : Spot). run m (Blank ∷ rest) (At x)) h.0
    ∙ ap (λ (x : Sentence). run m rest (At (Indented x))) (sym h.1)
head_blank m p o ks rest (inr h) e =
    ap (λ (zs : List Token). run m zs (At p)) e
    ∙ ap (λ (x : Spot). run m (Blank ∷ rest) (At x)) h.2
    ∙ ap (λ (x : Sentence). run m rest (At (Indented x))) (sym h.3)

unlabelled_stuck : (m : Limits) (ks : List Token) → IsUnlabelled ks → HasOther ks → run m ks (At Begin) ≡ refused ks
unlabelled_stuck m [] h i = absurd i
unlabelled_stuck m (Word w ∷ ks) h i = absurd h
unlabelled_stuck m (Digits d ∷ ks) h i = absurd h
unlabelled_stuck m (Blank ∷ ks) h i = absurd i
unlabelled_stuck m (Comment text ∷ ks) h i = absurd i
unlabelled_stuck m (k ∷ ks) h i = refl

-- some tokens stand there
abbrev pub AreSome : List Token → Type 0
AreSome [] = ⊥
AreSome (k ∷ ks) = Unit {0}

formals_stuck : (m : Limits) (label : List ℕ) (names : List (List ℕ)) (ks : List Token) → HasNoBlank ks → AreSome ks → run m ks (At (FormalsEnd label names)) ≡ refused ks
formals_stuck m label names [] h i = absurd i
formals_stuck m label names (Blank ∷ ks) h i = absurd h
formals_stuck m label names (k ∷ ks) h i = refl

other_some : (ks : List Token) → HasOther ks → AreSome ks
other_some [] h = absurd h
other_some (k ∷ ks) h = tt

false_true : false ≡ true → ⊥
false_true e = cc

-- behind a label only a blank or the end stands
pub labelled_stuck : (m : Limits) (p : Spot) (o : Sentence) (ks : List Token) → IsHead ks p o → true ≡ is_some o.label → HasNoBlank ks → AreSome ks → run m ks (At p) ≡ refused ks
labelled_stuck m p o ks (inl h) e i j = absurd (false_true (sym (ap (λ (x : Sentence). is_some x.label) h.1) ∙ sym e))
labelled_stuck m p o ks (inr h) e i j = ap (λ (x : Spot). run m ks (At x)) h.2 ∙ formals_stuck m h.0 h.1 ks i j

pub head_stuck : (m : Limits) (p : Spot) (o : Sentence) (ks : List Token) → IsHead ks p o → HasNoBlank ks → HasOther ks → run m ks (At p) ≡ refused ks
head_stuck m p o ks (inl h) i j = ap (λ (x : Spot). run m ks (At x)) h.0 ∙ unlabelled_stuck m ks h.2 j
head_stuck m p o ks (inr h) i j = ap (λ (x : Spot). run m ks (At x)) h.2 ∙ formals_stuck m h.0 h.1 ks i (other_some ks j)

-- ---- a line

-- what stands in front of the commands
abbrev pub head_of : Option (List ℕ) → List (List ℕ) → ℕ → Sentence
head_of label formals level = record { label = label; formals = formals; level = level; clauses = [] }

pub line_written : (label : Option (List ℕ)) (formals : List (List ℕ)) (n d : ℕ) (cs : List Clause) (ss : List LineCommand) → n ≡ d → AreWritten cs ss →
    IsWrittenLine (record { label = label; formals = formals; level = n + 1; clauses = cs }) (record { label = label; formals = formals; level = d + 1; steps = ss })
line_written label formals n d cs ss e h = (
  record { label = label; formals = formals; level = d + 1; steps = h.0 },
  ap (λ (x : ℕ). let y : Sentence = record { label = label; formals = formals; level = x + 1; clauses = cs } in y) e
      ∙ ap (λ (xs : List Clause). let y : Sentence = record { label = label; formals = formals; level = d + 1; clauses = xs } in y) h.1,
  ap (λ (xs : List LineCommand). let y : Line = record { label = label; formals = formals; level = d + 1; steps = xs } in y) h.2,
)
