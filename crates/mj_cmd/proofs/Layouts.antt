-- What the functions that read formats and the arguments of WRITE, READ and OPEN follow.
use Rattle.std.proofs.Common.{◌≡◌, ℕ, ◌≤◌, arith, List, [], ◌∷◌, ◌++◌, length, refl, ap, sym, ◌∙◌, subst, Bool, true, false, append_assoc, append-nil, Option, Some, None, map, nat_le, inl, inr}
use Rattle.std.specs.Prelude.{cond}
use Rattle.std.proofs.lemmas.Bool.Decides.{nat_tests}
use Rattle.mj_ast.specs.declared.sign.Sign.TheVariants.{Star, Hash, Colon, Exclamation, Question}
use Rattle.mj_ast.specs.declared.routine.FormatMark.{FormatMark}
use Rattle.mj_ast.specs.declared.routine.FormatMark.TheVariants.{NewLine, NewPage}
use Rattle.mj_ast.specs.declared.routine.ReadMode.{ReadMode}
use Rattle.mj_ast.specs.declared.routine.ReadMode.TheVariants.{Line, Byte}
use Rattle.mj_ast.specs.declared.keyword.Verb.{Verb}
use Rattle.mj_ast.specs.Syntax.{Expr}
use Rattle.mj_ast.specs.Tokens.{Token, Word, Digits, Quoted, Called, Signed}
use Rattle.mj_ast.specs.Expressions.{callee_of}
use Rattle.mj_ast.specs.Commands.{Part, Put, Label, Prompt, mark_part, read_mode_parts}
use Rattle.mj_expr.specs.Machine.{Limits}
use Rattle.mj_lex.specs.declared.token.Lexeme.{Lexeme}
use Rattle.mj_lex.specs.Seen.{tokens_seen}
use Rattle.mj_line.specs.Forms.{Sort, Names, Labels, Serials, Node, AVar, takes, wants, part_at, Talk, Writes, Reads, OutputWanted, OutputEnd, MarksEnd, ColumnWanted, CodeWanted, IntoWanted, IntoEnd, IntoTimed, DeviceWanted, DeviceEnd, DeviceColon, DeviceTimed, DeviceWaited, part_of}
use Rattle.mj_line.specs.Sentences.{Sentence}
use Rattle.mj_line.specs.Machine.{Args, At, args_rest, on_rested, run}
use Rattle.mj_line.proofs.Entries.{part_taken, called_apart}
use Rattle.mj_cmd.specs.Heads.{HasNoColon, HasNoMark, HasNoQuestion, HasNoQuoted, HasNoStar, StartsLayout, StartsQuestion}
use Rattle.mj_cmd.specs.Parts.{MayBeColumn, MayBeInto, mark_sign, read_node, read_tokens}
use Rattle.mj_cmd.proofs.Follow.{Untaken, Unended, Went, SignUntaken, went_token, untaken_by, no_sign, SameAt, went_same, name_neither, piece_neither}

-- ---- marks

marks_go : (talk : Talk) (m : Limits) (o : Sentence) (condition : Option Expr) (k : Verb) (done : List Part) (xs : List FormatMark) (ks : List Token) →
    run m (map (λ x. Signed (mark_sign x)) xs ++ ks) (At (Args o condition k done (MarksEnd talk))) ≡
    run m ks (At (Args o condition k (done ++ map mark_part xs) (MarksEnd talk)))
marks_go talk m o condition k done [] ks = ap (λ (ps : List Part). run m ks (At (Args o condition k ps (MarksEnd talk)))) (sym (append-nil done))
marks_go talk m o condition k done (NewLine ∷ xs) ks =
    marks_go talk m o condition k (done ++ Put Exclamation ∷ []) xs ks
    ∙ ap (λ (ps : List Part). run m ks (At (Args o condition k ps (MarksEnd talk)))) (append_assoc done (Put Exclamation ∷ []) (map mark_part xs))
marks_go talk m o condition k done (NewPage ∷ xs) ks =
    marks_go talk m o condition k (done ++ Put Hash ∷ []) xs ks
    ∙ ap (λ (ps : List Part). run m ks (At (Args o condition k ps (MarksEnd talk)))) (append_assoc done (Put Hash ∷ []) (map mark_part xs))

first_mark : (talk : Talk) (m : Limits) (o : Sentence) (condition : Option Expr) (k : Verb) (done : List Part) (x : FormatMark) (ks : List Token) →
    run m (Signed (mark_sign x) ∷ ks) (At (Args o condition k done (OutputWanted talk))) ≡
    run m ks (At (Args o condition k (done ++ mark_part x ∷ []) (MarksEnd talk)))
first_mark Writes m o condition k done NewLine ks = refl
first_mark Writes m o condition k done NewPage ks = refl
first_mark Reads m o condition k done NewLine ks = refl
first_mark Reads m o condition k done NewPage ks = refl

-- a run of them
pub went_marks : (limited : Bool) (talk : Talk) (m : Limits) (ls rest : List Lexeme) (x : FormatMark) (xs : List FormatMark) (o : Sentence) (condition : Option Expr) (k : Verb) (done : List Part) →
    tokens_seen ls ≡ map (λ y. Signed (mark_sign y)) (x ∷ xs) ++ tokens_seen rest → Went limited (map mark_part (x ∷ xs)) m ls (OutputWanted talk) rest (MarksEnd talk) o condition k done
went_marks limited talk m ls rest x xs o condition k done e = (
  map mark_part (x ∷ xs),
  λ l. refl,
  ap (λ (ks : List Token). run m ks (At (Args o condition k done (OutputWanted talk)))) e
      ∙ first_mark talk m o condition k done x (map (λ y. Signed (mark_sign y)) xs ++ tokens_seen rest)
      ∙ marks_go talk m o condition k (done ++ mark_part x ∷ []) xs (tokens_seen rest)
      ∙ ap (λ (ps : List Part). run m (tokens_seen rest) (At (Args o condition k ps (MarksEnd talk)))) (append_assoc done (mark_part x ∷ []) (map mark_part xs)),
)

-- behind marks and no column it is as behind an argument
marks_same : (talk : Talk) (m : Limits) (ks : List Token) → HasNoMark ks → HasNoQuestion ks → SameAt m (MarksEnd talk) (OutputEnd talk) ks
marks_same talk m [] h i o condition k done = refl
marks_same talk m (Word w ∷ ks) h i o condition k done = name_neither m (MarksEnd talk) (OutputEnd talk) w ks o condition k done (nat_le (length w) 31)
    (on_rested (Some (args_rest o condition k done)) (Word w)) refl refl
marks_same talk m (Called w ∷ ks) h i o condition k done = piece_neither m (MarksEnd talk) (OutputEnd talk) w ks o condition k done (part_of (Called w))
    (on_rested (Some (args_rest o condition k done)) (Called w)) (called_apart (MarksEnd talk) (callee_of w) (nat_le (length w) 31) refl)
    (called_apart (OutputEnd talk) (callee_of w) (nat_le (length w) 31) refl)
marks_same talk m (Signed Exclamation ∷ ks) h i o condition k done = absurd h
marks_same talk m (Signed Hash ∷ ks) h i o condition k done = absurd h
marks_same talk m (Signed Question ∷ ks) h i o condition k done = absurd i
marks_same talk m (Signed s ∷ ks) h i o condition k done = refl
marks_same talk m (t ∷ ks) h i o condition k done = refl

pub went_uncolumned : (limited : Bool) (talk : Talk) (m : Limits) (ls : List Lexeme) (o : Sentence) (condition : Option Expr) (k : Verb) (done : List Part) →
    HasNoMark (tokens_seen ls) → HasNoQuestion (tokens_seen ls) → Went limited [] m ls (MarksEnd talk) ls (OutputEnd talk) o condition k done
went_uncolumned limited talk m ls o condition k done h i = went_same limited m (MarksEnd talk) (OutputEnd talk) ls o condition k done (marks_same talk m (tokens_seen ls) h i)

no_question : (ks : List Token) → StartsQuestion ks → HasNoQuestion ks → ⊥
no_question [] h i = h
no_question (Signed Question ∷ ks) h i = i
no_question (t ∷ ks) h i = h

-- where a column may stand and none does
pub went_no_column : (limited : Bool) (talk : Talk) (n : Node) (m : Limits) (ls : List Lexeme) (o : Sentence) (condition : Option Expr) (k : Verb)
    (done : List Part) → MayBeColumn talk n (tokens_seen ls) → HasNoQuestion (tokens_seen ls) → Went limited [] m ls n ls (OutputEnd talk) o condition k done
went_no_column limited talk n m ls o condition k done (inl g) h = let P : Node → Type 0 = λ x. Went limited [] m ls x ls (OutputEnd talk) o condition k done in
    subst P (sym g.0) (went_uncolumned limited talk m ls o condition k done g.1 h)
went_no_column limited talk n m ls o condition k done (inr g) h = absurd (no_question (tokens_seen ls) g.1 h)

-- a format begins with its marks, or with its column
column_alone : (ks : List Token) → StartsLayout ks → HasNoMark ks → StartsQuestion ks
column_alone [] h i = h
column_alone (Signed Exclamation ∷ ks) h i = absurd i
column_alone (Signed Hash ∷ ks) h i = absurd i
column_alone (Signed Question ∷ ks) h i = tt
column_alone (Signed s ∷ ks) h i = h
column_alone (t ∷ ks) h i = h

-- behind the marks of a format its column may stand
abbrev pub WentMarks : Bool → Talk → Limits → List Lexeme → List Lexeme → List FormatMark → Type 0
WentMarks limited talk m ls rest xs =
    (n : Node) × MayBeColumn talk n (tokens_seen rest)
    × ((o : Sentence) → (condition : Option Expr) → (k : Verb) → (done : List Part) → Went limited (map mark_part xs) m ls (OutputWanted talk) rest n o condition k done)

pub went_front : (limited : Bool) (talk : Talk) (m : Limits) (ls rest : List Lexeme) (xs : List FormatMark) → StartsLayout (tokens_seen ls) →
    tokens_seen ls ≡ map (λ y. Signed (mark_sign y)) xs ++ tokens_seen rest → HasNoMark (tokens_seen rest) → WentMarks limited talk m ls rest xs
went_front limited talk m ls rest [] h e i =
    let P : List Token → Type 0 = λ ks. StartsLayout ks in (
      OutputWanted talk,
      inr (refl, column_alone (tokens_seen rest) (subst P e h) i),
      λ o condition k done. (
        [],
        λ l. refl,
        ap (λ (ks : List Token). run m ks (At (Args o condition k done (OutputWanted talk)))) e
            ∙ ap (λ (ps : List Part). run m (tokens_seen rest) (At (Args o condition k ps (OutputWanted talk)))) (sym (append-nil done)),
      ),
    )
went_front limited talk m ls rest (x ∷ xs) h e i = (MarksEnd talk, inl (refl, i), λ o condition k done. went_marks limited talk m ls rest x xs o condition k done e)

-- a `?` leads to one
pub question_takes : (talk : Talk) (n : Node) (ks : List Token) → MayBeColumn talk n ks → takes n (Put Question) ≡ Some (ColumnWanted talk)
question_takes talk n ks (inl g) = ap (λ (x : Node). takes x (Put Question)) g.0
question_takes talk n ks (inr g) = ap (λ (x : Node). takes x (Put Question)) g.0

pub question_at : (b : Sort) → part_at b (Signed Question) ≡ Some (Put Question)
question_at Names = refl
question_at Labels = refl
question_at Serials = refl

pub column_untaken : (talk : Talk) (ks : List Token) → Untaken (ColumnWanted talk) ks
column_untaken talk ks = untaken_by (ColumnWanted talk) ks refl (λ w. refl) refl (no_sign (ColumnWanted talk) ks (λ s. refl))

-- ---- WRITE

write_sign : (ks : List Token) → HasNoMark ks → HasNoQuestion ks → HasNoStar ks → SignUntaken (OutputWanted Writes) ks
write_sign [] h i j = tt
write_sign (Signed Exclamation ∷ ks) h i j = absurd h
write_sign (Signed Hash ∷ ks) h i j = absurd h
write_sign (Signed Question ∷ ks) h i j = absurd i
write_sign (Signed Star ∷ ks) h i j = absurd j
write_sign (Signed s ∷ ks) h i j = refl
write_sign (t ∷ ks) h i j = tt

pub write_untaken : (ks : List Token) → HasNoMark ks → HasNoQuestion ks → HasNoStar ks → Untaken (OutputWanted Writes) ks
write_untaken ks h i j = untaken_by (OutputWanted Writes) ks refl (λ w. refl) refl (write_sign ks h i j)

pub code_untaken : (ks : List Token) → Untaken CodeWanted ks
code_untaken ks = untaken_by CodeWanted ks refl (λ w. refl) refl (no_sign CodeWanted ks (λ s. refl))

-- ---- READ

-- neither a label nor a text in quotes is an argument there
label_apart : (w : List ℕ) (b : Bool) → part_taken (OutputWanted Reads) (cond b (Some (Label w)) None) ≡ None
label_apart w true = refl
label_apart w false = refl

prompt_long : (v : List ℕ) (b : Bool) → nat_le (length v) 1048576 ≡ b → (length v ≤ 1048576 → ⊥) → part_taken (OutputWanted Reads) (cond b (Some (Prompt v)) None) ≡ None
prompt_long v true e h = absurd (h (grind (arith, nat_tests)))
prompt_long v false e h = refl

read_untaken : (ks : List Token) → HasNoMark ks → HasNoQuestion ks → HasNoStar ks → HasNoQuoted ks → Untaken (OutputWanted Reads) ks
read_untaken [] h i j l = tt
read_untaken (Word w ∷ ks) h i j l = label_apart w (nat_le (length w) 31)
read_untaken (Digits d ∷ ks) h i j l = label_apart d (nat_le (length d) 1048576)
read_untaken (Quoted v ∷ ks) h i j l = prompt_long v (nat_le (length v) 1048576) refl l
read_untaken (Called w ∷ ks) h i j l = called_apart (OutputWanted Reads) (callee_of w) (nat_le (length w) 31) refl
read_untaken (Signed Exclamation ∷ ks) h i j l = absurd h
read_untaken (Signed Hash ∷ ks) h i j l = absurd h
read_untaken (Signed Question ∷ ks) h i j l = absurd i
read_untaken (Signed Star ∷ ks) h i j l = absurd j
read_untaken (Signed s ∷ ks) h i j l = refl
read_untaken (t ∷ ks) h i j l = refl

-- the variable, behind a `*` or at once
pub into_untaken : (mode : ReadMode) (front ks : List Token) → front ≡ read_tokens mode ++ ks → MayBeInto mode ks → HasNoMark front → HasNoQuestion front →
    HasNoQuoted front → Untaken (read_node mode) ks
into_untaken Line front ks e h i j l =
    let P : List Token → Type 0 = λ zs. HasNoMark zs in
    let Q : List Token → Type 0 = λ zs. HasNoQuestion zs in
    let R : List Token → Type 0 = λ zs. HasNoQuoted zs in read_untaken ks (subst P e i) (subst Q e j) h (subst R e l)
into_untaken Byte front ks e h i j l = untaken_by IntoWanted ks refl (λ w. refl) refl (no_sign IntoWanted ks (λ s. refl))

pub into_wanted : (mode : ReadMode) → wants (read_node mode) ≡ Some (AVar 0 IntoEnd)
into_wanted Line = refl
into_wanted Byte = refl

pub into_unended : (mode : ReadMode) (ks : List Token) → Unended (read_node mode) ks
into_unended Line ks = inl refl
into_unended Byte ks = inl refl

pub went_into : (limited : Bool) (m : Limits) (ls rest : List Lexeme) (mode : ReadMode) (o : Sentence) (condition : Option Expr) (k : Verb) (done : List Part) →
    tokens_seen ls ≡ read_tokens mode ++ tokens_seen rest → Went limited (read_mode_parts mode) m ls (OutputWanted Reads) rest (read_node mode) o condition k done
went_into limited m ls rest Line o condition k done e = (
  [],
  λ l. refl,
  ap (λ (ks : List Token). run m ks (At (Args o condition k done (OutputWanted Reads)))) e
      ∙ ap (λ (ps : List Part). run m (tokens_seen rest) (At (Args o condition k ps (OutputWanted Reads)))) (sym (append-nil done)),
)
went_into limited m ls rest Byte o condition k done e = went_token limited (Signed Star) (Put Star) m ls (OutputWanted Reads) rest IntoWanted o condition k done e refl refl

-- a text in quotes
pub went_prompt : (limited : Bool) (m : Limits) (ls rest : List Lexeme) (v : List ℕ) (o : Sentence) (condition : Option Expr) (k : Verb) (done : List Part) →
    tokens_seen ls ≡ Quoted v ∷ tokens_seen rest → length v ≤ 1048576 →
    Went limited (Prompt v ∷ []) m ls (OutputWanted Reads) rest (OutputEnd Reads) o condition k done
went_prompt limited m ls rest v o condition k done e h =
    went_token limited (Quoted v) (Prompt v) m ls (OutputWanted Reads) rest (OutputEnd Reads) o condition k done e
    (ap (λ (b : Bool). cond b (Some (Prompt v)) None) (let z : nat_le (length v) 1048576 ≡ true = grind (arith, nat_tests) in z)) refl

pub into_timed_untaken : (ks : List Token) → Untaken IntoTimed ks
into_timed_untaken ks = untaken_by IntoTimed ks refl (λ w. refl) refl (no_sign IntoTimed ks (λ s. refl))

untimed_same : (m : Limits) (ks : List Token) → HasNoColon ks → SameAt m IntoEnd (OutputEnd Reads) ks
untimed_same m [] i o condition k done = refl
untimed_same m (Word w ∷ ks) i o condition k done = name_neither m IntoEnd (OutputEnd Reads) w ks o condition k done (nat_le (length w) 31)
    (on_rested (Some (args_rest o condition k done)) (Word w)) refl refl
untimed_same m (Called w ∷ ks) i o condition k done = piece_neither m IntoEnd (OutputEnd Reads) w ks o condition k done (part_of (Called w))
    (on_rested (Some (args_rest o condition k done)) (Called w)) (called_apart IntoEnd (callee_of w) (nat_le (length w) 31) refl)
    (called_apart (OutputEnd Reads) (callee_of w) (nat_le (length w) 31) refl)
untimed_same m (Signed Colon ∷ ks) i o condition k done = absurd i
untimed_same m (Signed s ∷ ks) i o condition k done = refl
untimed_same m (t ∷ ks) i o condition k done = refl

pub went_untimed : (limited : Bool) (m : Limits) (ls : List Lexeme) (o : Sentence) (condition : Option Expr) (k : Verb) (done : List Part) →
    HasNoColon (tokens_seen ls) → Went limited [] m ls IntoEnd ls (OutputEnd Reads) o condition k done
went_untimed limited m ls o condition k done h = went_same limited m IntoEnd (OutputEnd Reads) ls o condition k done (untimed_same m (tokens_seen ls) h)

-- ---- OPEN

pub device_untaken : (ks : List Token) → Untaken DeviceWanted ks
device_untaken ks = untaken_by DeviceWanted ks refl (λ w. refl) refl (no_sign DeviceWanted ks (λ s. refl))

pub device_timed_untaken : (ks : List Token) → Untaken DeviceTimed ks
device_timed_untaken ks = untaken_by DeviceTimed ks refl (λ w. refl) refl (no_sign DeviceTimed ks (λ s. refl))

colon_sign : (ks : List Token) → HasNoColon ks → SignUntaken DeviceColon ks
colon_sign [] h = tt
colon_sign (Signed Colon ∷ ks) h = absurd h
colon_sign (Signed s ∷ ks) h = refl
colon_sign (t ∷ ks) h = tt

pub device_colon_untaken : (ks : List Token) → HasNoColon ks → Untaken DeviceColon ks
device_colon_untaken ks h = untaken_by DeviceColon ks refl (λ w. refl) refl (colon_sign ks h)

unwaited_same : (m : Limits) (ks : List Token) → HasNoColon ks → SameAt m DeviceEnd DeviceWaited ks
unwaited_same m [] i o condition k done = refl
unwaited_same m (Word w ∷ ks) i o condition k done = name_neither m DeviceEnd DeviceWaited w ks o condition k done (nat_le (length w) 31)
    (on_rested (Some (args_rest o condition k done)) (Word w)) refl refl
unwaited_same m (Called w ∷ ks) i o condition k done = piece_neither m DeviceEnd DeviceWaited w ks o condition k done (part_of (Called w))
    (on_rested (Some (args_rest o condition k done)) (Called w)) (called_apart DeviceEnd (callee_of w) (nat_le (length w) 31) refl)
    (called_apart DeviceWaited (callee_of w) (nat_le (length w) 31) refl)
unwaited_same m (Signed Colon ∷ ks) i o condition k done = absurd i
unwaited_same m (Signed s ∷ ks) i o condition k done = refl
unwaited_same m (t ∷ ks) i o condition k done = refl

pub went_unwaited : (limited : Bool) (m : Limits) (ls : List Lexeme) (o : Sentence) (condition : Option Expr) (k : Verb) (done : List Part) →
    HasNoColon (tokens_seen ls) → Went limited [] m ls DeviceEnd ls DeviceWaited o condition k done
went_unwaited limited m ls o condition k done h = went_same limited m DeviceEnd DeviceWaited ls o condition k done (unwaited_same m (tokens_seen ls) h)
