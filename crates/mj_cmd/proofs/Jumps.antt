-- What the functions that read the arguments of IF, HANG, NEW, GOTO, DO and JOB follow.
use Rattle.std.proofs.Common.{◌≡◌, ℕ, ◌≤◌, List, [], ◌∷◌, ◌++◌, length, refl, ap, sym, ◌∙◌, subst, Bool, true, false, arith, Option, Some, None, nat_le, ◌⊎◌, inl, inr}
use Rattle.std.specs.Prelude.{cond}
use Rattle.std.proofs.lemmas.Bool.Decides.{nat_tests}
use Rattle.mj_ast.specs.declared.sign.Sign.TheVariants.{Comma, Colon, Caret, Open, Close}
use Rattle.mj_ast.specs.declared.keyword.Verb.{Verb}
use Rattle.mj_ast.specs.Syntax.{Expr, Called as Call, Started, Target}
use Rattle.mj_ast.specs.Tokens.{Token, Word, Called, Digits, Quoted, Signed}
use Rattle.mj_ast.specs.Expressions.{callee_of}
use Rattle.mj_ast.specs.Commands.{Part, Put, Label, Prompt, with_commas, target_parts, actual_parts, actuals_parts, guard_parts, wait_parts, plain_actuals, plain}
use Rattle.mj_expr.specs.Machine.{Limits}
use Rattle.mj_lex.specs.declared.token.Lexeme.{Lexeme}
use Rattle.mj_lex.specs.Seen.{tokens_seen}
use Rattle.mj_line.specs.Forms.{Mode, Calls, Jumps, Starts, Node, ValueWanted, NewWanted, EntryWanted, LabelEnd, RoutineWanted, RoutineEnd, ActualWanted, ActualEnd, ActualsEnd, WaitColon, GuardWanted, GuardEnd, colon_at, part_of, part_at, sort_of, takes, ResultWanted, ResultEnd}
use Rattle.mj_line.specs.Sentences.{Sentence}
use Rattle.mj_line.specs.Machine.{args_rest, first, on_rested}
use Rattle.mj_line.proofs.Entries.{part_taken, called_apart}
use Rattle.mj_cmd.specs.Heads.{HasNoComma, HasNoOpen, HasNoCaret, HasNoLabel, StartsLabel, HasNoClose, HasNoName, HasNoColon}
use Rattle.mj_cmd.specs.Parts.{MayBeGuarded}
use Rattle.mj_cmd.specs.Reads.{AreWrittenActuals, IsWrittenCall, IsWrittenStart}
use Rattle.mj_cmd.proofs.Follow.{Untaken, Went, went_as, went_token, SignUntaken, untaken_by, no_sign, kept_untaken_word, SameAt, went_same, name_neither, piece_neither, WentAs}

-- IF, HANG, NEW and GOTO
pub value_untaken : (first : Bool) (ks : List Token) → Untaken (ValueWanted first) ks
value_untaken first ks = untaken_by (ValueWanted first) ks refl (λ w. refl) refl (no_sign (ValueWanted first) ks (λ s. refl))

-- QUIT
pub result_untaken : (ks : List Token) → Untaken ResultWanted ks
result_untaken ks = untaken_by ResultWanted ks refl (λ w. refl) refl (no_sign ResultWanted ks (λ s. refl))

pub result_end_untaken : (ks : List Token) → Untaken ResultEnd ks
result_end_untaken ks = untaken_by ResultEnd ks refl (λ w. refl) refl (no_sign ResultEnd ks (λ s. refl))

pub renewed_untaken : (first : Bool) (ks : List Token) → HasNoOpen ks → HasNoName ks → Untaken (NewWanted first) ks
renewed_untaken first [] h i = tt
renewed_untaken first (Word w ∷ ks) h i = kept_untaken_word (NewWanted first) w (nat_le (length w) 31) refl i
renewed_untaken first (Called w ∷ ks) h i = called_apart (NewWanted first) (callee_of w) (nat_le (length w) 31) refl
renewed_untaken first (Signed Open ∷ ks) h i = absurd h
renewed_untaken first (Signed s ∷ ks) h i = refl
renewed_untaken first (t ∷ ks) h i = refl

pub guard_text_untaken : (mode : Mode) (ks : List Token) → Untaken (GuardWanted mode) ks
guard_text_untaken mode ks = untaken_by (GuardWanted mode) ks refl (λ w. refl) refl (no_sign (GuardWanted mode) ks (λ s. refl))

pub routine_untaken : (mode : Mode) (ks : List Token) → HasNoName ks → Untaken (RoutineWanted mode) ks
routine_untaken mode [] h = tt
routine_untaken mode (Word w ∷ ks) h = kept_untaken_word (RoutineWanted mode) w (nat_le (length w) 31) refl h
routine_untaken mode (Called w ∷ ks) h = called_apart (RoutineWanted mode) (callee_of w) (nat_le (length w) 31) refl
routine_untaken mode (Signed s ∷ ks) h = refl
routine_untaken mode (t ∷ ks) h = refl

label_long : (w : List ℕ) (n : ℕ) (q : Node) (b : Bool) → nat_le (length w) n ≡ b → (length w ≤ n → ⊥) → part_taken q (cond b (Some (Label w)) None) ≡ None
label_long w n q true e h = absurd (h (grind (arith, nat_tests)))
label_long w n q false e h = refl

-- a text in quotes is no entry
prompt_apart : (v : List ℕ) (mode : Mode) (first : Bool) (b : Bool) → part_taken (EntryWanted mode first) (cond b (Some (Prompt v)) None) ≡ None
prompt_apart v mode first true = refl
prompt_apart v mode first false = refl

pub entry_untaken : (mode : Mode) (first : Bool) (ks : List Token) → HasNoLabel ks → HasNoCaret ks → Untaken (EntryWanted mode first) ks
entry_untaken mode first [] h i = tt
entry_untaken mode first (Word w ∷ ks) h i = label_long w 31 (EntryWanted mode first) (nat_le (length w) 31) refl h
entry_untaken mode first (Digits d ∷ ks) h i = label_long d 1048576 (EntryWanted mode first) (nat_le (length d) 1048576) refl h
entry_untaken mode first (Quoted v ∷ ks) h i = prompt_apart v mode first (nat_le (length v) 1048576)
entry_untaken mode first (Called w ∷ ks) h i = called_apart (EntryWanted mode first) (callee_of w) (nat_le (length w) 31) refl
entry_untaken mode first (Signed Caret ∷ ks) h i = absurd i
entry_untaken mode first (Signed s ∷ ks) h i = refl
entry_untaken mode first (t ∷ ks) h i = refl

-- a label
went_label_at : (limited : Bool) (m : Limits) (mode : Mode) (first : Bool) (ls rest : List Lexeme) (ks : List Token) (w t : List ℕ) (o : Sentence)
    (condition : Option Expr) (k : Verb) (done : List Part) → tokens_seen ls ≡ ks → StartsLabel ks w (tokens_seen rest) → t ≡ w →
    Went limited (Label t ∷ []) m ls (EntryWanted mode first) rest (LabelEnd mode) o condition k done
went_label_at limited m mode first ls rest (Word x ∷ ks) w t o condition k done l h e =
    went_as limited (Label x ∷ []) (Label t ∷ []) m ls (EntryWanted mode first) rest (LabelEnd mode) o condition k done (ap (λ (z : List ℕ). Label z ∷ []) (sym (e ∙ h.0)))
    (went_token limited (Word x) (Label x) m ls (EntryWanted mode first) rest (LabelEnd mode) o condition k done (l ∙
    ap (λ (zs : List Token). Word x ∷ zs) h.1) (ap (λ (b : Bool). cond b (Some (Label x)) None) (let i = h.2 in let z : nat_le (length x) 31 ≡ true =
    grind (arith, nat_tests) in z)) refl)
went_label_at limited m mode first ls rest (Digits x ∷ ks) w t o condition k done l h e =
    went_as limited (Label x ∷ []) (Label t ∷ []) m ls (EntryWanted mode first) rest (LabelEnd mode) o condition k done (ap (λ (z : List ℕ). Label z ∷ []) (sym (e ∙ h.0)))
    (went_token limited (Digits x) (Label x) m ls (EntryWanted mode first) rest (LabelEnd mode) o condition k done (l ∙
    ap (λ (zs : List Token). Digits x ∷ zs) h.1) (ap (λ (b : Bool). cond b (Some (Label x)) None) (let i = h.2 in let z : nat_le (length x) 1048576 ≡ true =
    grind (arith, nat_tests) in z)) refl)
went_label_at limited m mode first ls rest ks w t o condition k done l h e = absurd h

pub went_label : (limited : Bool) (m : Limits) (mode : Mode) (first : Bool) (ls rest : List Lexeme) (w t : List ℕ) (o : Sentence) (condition : Option Expr)
    (k : Verb) (done : List Part) → StartsLabel (tokens_seen ls) w (tokens_seen rest) → t ≡ w →
    Went limited (Label t ∷ []) m ls (EntryWanted mode first) rest (LabelEnd mode) o condition k done
went_label limited m mode first ls rest w t o condition k done h e = went_label_at limited m mode first ls rest (tokens_seen ls) w t o condition k done refl h e

-- behind a label where no routine follows
label_same : (m : Limits) (mode : Mode) (ks : List Token) → HasNoCaret ks → SameAt m (LabelEnd mode) (RoutineEnd mode) ks
label_same m mode [] h o condition k done = refl
label_same m mode (Word w ∷ ks) h o condition k done = name_neither m (LabelEnd mode) (RoutineEnd mode) w ks o condition k done (nat_le (length w) 31)
    (on_rested (Some (args_rest o condition k done)) (Word w)) refl refl
label_same m mode (Called w ∷ ks) h o condition k done = piece_neither m (LabelEnd mode) (RoutineEnd mode) w ks o condition k done (part_of (Called w))
    (on_rested (Some (args_rest o condition k done)) (Called w)) (called_apart (LabelEnd mode) (callee_of w) (nat_le (length w) 31) refl)
    (called_apart (RoutineEnd mode) (callee_of w) (nat_le (length w) 31) refl)
label_same m mode (Signed Caret ∷ ks) h o condition k done = absurd h
label_same m mode (Signed s ∷ ks) h o condition k done = refl
label_same m mode (t ∷ ks) h o condition k done = refl

pub went_unnamed : (limited : Bool) (m : Limits) (mode : Mode) (ls : List Lexeme) (o : Sentence) (condition : Option Expr) (k : Verb) (done : List Part) →
    HasNoCaret (tokens_seen ls) → Went limited [] m ls (LabelEnd mode) ls (RoutineEnd mode) o condition k done
went_unnamed limited m mode ls o condition k done h = went_same limited m (LabelEnd mode) (RoutineEnd mode) ls o condition k done (label_same m mode (tokens_seen ls) h)

-- where no condition follows
routine_same : (m : Limits) (mode : Mode) (ks : List Token) → (mode ≡ Jumps) ⊎ HasNoOpen ks → HasNoColon ks → SameAt m (RoutineEnd mode) (GuardEnd mode) ks
routine_same m mode [] h i o condition k done = refl
routine_same m mode (Word w ∷ ks) h i o condition k done = name_neither m (RoutineEnd mode) (GuardEnd mode) w ks o condition k done (nat_le (length w) 31)
    (on_rested (Some (args_rest o condition k done)) (Word w)) refl refl
routine_same m mode (Called w ∷ ks) h i o condition k done = piece_neither m (RoutineEnd mode) (GuardEnd mode) w ks o condition k done (part_of (Called w))
    (on_rested (Some (args_rest o condition k done)) (Called w)) (called_apart (RoutineEnd mode) (callee_of w) (nat_le (length w) 31) refl)
    (called_apart (GuardEnd mode) (callee_of w) (nat_le (length w) 31) refl)
routine_same m mode (Signed Colon ∷ ks) h i o condition k done = absurd i
routine_same m mode (Signed Open ∷ ks) (inr h) i o condition k done = absurd h
routine_same m Jumps (Signed Open ∷ ks) (inl h) i o condition k done = refl
routine_same m Calls (Signed Open ∷ ks) (inl h) i o condition k done = absurd (let f : Calls ≡ Jumps = h in cc)
routine_same m Starts (Signed Open ∷ ks) (inl h) i o condition k done = absurd (let f : Starts ≡ Jumps = h in cc)
routine_same m mode (Signed s ∷ ks) h i o condition k done = refl
routine_same m mode (t ∷ ks) h i o condition k done = refl

actuals_same : (m : Limits) (mode : Mode) (ks : List Token) → HasNoColon ks → SameAt m (ActualsEnd mode) (GuardEnd mode) ks
actuals_same m mode [] i o condition k done = refl
actuals_same m mode (Word w ∷ ks) i o condition k done = name_neither m (ActualsEnd mode) (GuardEnd mode) w ks o condition k done (nat_le (length w) 31)
    (on_rested (Some (args_rest o condition k done)) (Word w)) refl refl
actuals_same m mode (Called w ∷ ks) i o condition k done = piece_neither m (ActualsEnd mode) (GuardEnd mode) w ks o condition k done (part_of (Called w))
    (on_rested (Some (args_rest o condition k done)) (Called w)) (called_apart (ActualsEnd mode) (callee_of w) (nat_le (length w) 31) refl)
    (called_apart (GuardEnd mode) (callee_of w) (nat_le (length w) 31) refl)
actuals_same m mode (Signed Colon ∷ ks) i o condition k done = absurd i
actuals_same m mode (Signed s ∷ ks) i o condition k done = refl
actuals_same m mode (t ∷ ks) i o condition k done = refl

guarded_same : (m : Limits) (mode : Mode) (n : Node) (ks : List Token) → MayBeGuarded mode n ks → HasNoColon ks → SameAt m n (GuardEnd mode) ks
guarded_same m mode n ks (inl h) i = let P : Node → Type 0 = λ x. SameAt m x (GuardEnd mode) ks in subst P (sym h.0) (routine_same m mode ks h.1 i)
guarded_same m mode n ks (inr h) i = let P : Node → Type 0 = λ x. SameAt m x (GuardEnd mode) ks in subst P (sym h) (actuals_same m mode ks i)

pub went_unguarded : (limited : Bool) (m : Limits) (mode : Mode) (n : Node) (ls : List Lexeme) (o : Sentence) (condition : Option Expr) (k : Verb)
    (done : List Part) → MayBeGuarded mode n (tokens_seen ls) → HasNoColon (tokens_seen ls) → Went limited [] m ls n ls (GuardEnd mode) o condition k done
went_unguarded limited m mode n ls o condition k done h i = went_same limited m n (GuardEnd mode) ls o condition k done (guarded_same m mode n (tokens_seen ls) h i)

colon_taken : (mode : Mode) (n : Node) (ks : List Token) → MayBeGuarded mode n ks → (part_at (sort_of n) (Signed Colon) ≡ Some (Put Colon)) × (takes n (Put Colon) ≡ Some (colon_at mode))
colon_taken mode n ks (inl h) = let P : Node → Type 0 = λ x. (part_at (sort_of x) (Signed Colon) ≡ Some (Put Colon)) × (takes x (Put Colon) ≡ Some (colon_at mode)) in subst P (sym h.0) (refl, refl)
colon_taken mode n ks (inr h) = let P : Node → Type 0 = λ x. (part_at (sort_of x) (Signed Colon) ≡ Some (Put Colon)) × (takes x (Put Colon) ≡ Some (colon_at mode)) in subst P (sym h) (refl, refl)

pub went_colon : (limited : Bool) (m : Limits) (mode : Mode) (n : Node) (ls rest : List Lexeme) (o : Sentence) (condition : Option Expr) (k : Verb)
    (done : List Part) → MayBeGuarded mode n (tokens_seen ls) → tokens_seen ls ≡ Signed Colon ∷ tokens_seen rest →
    Went limited (Put Colon ∷ []) m ls n rest (colon_at mode) o condition k done
went_colon limited m mode n ls rest o condition k done h l = let c = colon_taken mode n (tokens_seen ls) h in
    went_token limited (Signed Colon) (Put Colon) m ls n rest (colon_at mode) o condition k done l c.0 c.1

-- where it is the condition that is wanted there
pub went_guard : (limited : Bool) (m : Limits) (mode : Mode) (n : Node) (ls rest : List Lexeme) (o : Sentence) (condition : Option Expr) (k : Verb)
    (done : List Part) → colon_at mode ≡ GuardWanted mode → MayBeGuarded mode n (tokens_seen ls) → tokens_seen ls ≡ Signed Colon ∷ tokens_seen rest →
    Went limited (Put Colon ∷ []) m ls n rest (GuardWanted mode) o condition k done
went_guard limited m mode n ls rest o condition k done e h l = let P : Node → Type 0 = λ x. Went limited (Put Colon ∷ []) m ls n rest x o condition k done in
    subst P e (went_colon limited m mode n ls rest o condition k done h l)

-- the first colon of a timeout
pub wait_untaken : (ks : List Token) → HasNoColon ks → Untaken WaitColon ks
wait_untaken ks h = untaken_by WaitColon ks refl (λ w. refl) refl (by ks h)
  where
    by : (ks : List Token) → HasNoColon ks → SignUntaken WaitColon ks
    by [] h = tt
    by (Signed Colon ∷ ks) h = absurd h
    by (Signed s ∷ ks) h = refl
    by (t ∷ ks) h = tt

-- DO: an actual that is left out
comma_same : (m : Limits) (mode : Mode) (ks : List Token) → SameAt m (ActualWanted mode) (ActualEnd mode) (Signed Comma ∷ ks)
comma_same m mode ks o condition k done = refl

close_same : (m : Limits) (mode : Mode) (ks : List Token) → SameAt m (ActualWanted mode) (ActualEnd mode) (Signed Close ∷ ks)
close_same m mode ks o condition k done = refl

pub went_left_comma : (limited : Bool) (m : Limits) (mode : Mode) (ls : List Lexeme) (ks : List Token) (o : Sentence) (condition : Option Expr) (k : Verb)
    (done : List Part) → tokens_seen ls ≡ Signed Comma ∷ ks → Went limited [] m ls (ActualWanted mode) ls (ActualEnd mode) o condition k done
went_left_comma limited m mode ls ks o condition k done l = let P : List Token → Type 0 = λ zs. SameAt m (ActualWanted mode) (ActualEnd mode) zs in
    went_same limited m (ActualWanted mode) (ActualEnd mode) ls o condition k done (subst P (sym l) (comma_same m mode ks))

pub went_left_close : (limited : Bool) (m : Limits) (mode : Mode) (ls : List Lexeme) (ks : List Token) (o : Sentence) (condition : Option Expr) (k : Verb)
    (done : List Part) → tokens_seen ls ≡ Signed Close ∷ ks → Went limited [] m ls (ActualWanted mode) ls (ActualEnd mode) o condition k done
went_left_close limited m mode ls ks o condition k done l = let P : List Token → Type 0 = λ zs. SameAt m (ActualWanted mode) (ActualEnd mode) zs in
    went_same limited m (ActualWanted mode) (ActualEnd mode) ls o condition k done (subst P (sym l) (close_same m mode ks))

actual_sign : (mode : Mode) (ks : List Token) → HasNoComma ks → HasNoClose ks → SignUntaken (ActualWanted mode) ks
actual_sign mode [] h i = tt
actual_sign mode (Signed Comma ∷ ks) h i = absurd h
actual_sign mode (Signed Close ∷ ks) h i = absurd i
actual_sign mode (Signed s ∷ ks) h i = refl
actual_sign mode (t ∷ ks) h i = tt

pub actual_untaken : (mode : Mode) (ks : List Token) → HasNoComma ks → HasNoClose ks → Untaken (ActualWanted mode) ks
actual_untaken mode ks h i = untaken_by (ActualWanted mode) ks refl (λ w. refl) refl (actual_sign mode ks h i)

passed_sign : (mode : Mode) (ks : List Token) → HasNoComma ks → HasNoClose ks → SignUntaken (ActualEnd mode) ks
passed_sign mode [] h i = tt
passed_sign mode (Signed Comma ∷ ks) h i = absurd h
passed_sign mode (Signed Close ∷ ks) h i = absurd i
passed_sign mode (Signed s ∷ ks) h i = refl
passed_sign mode (t ∷ ks) h i = tt

pub passed_untaken : (mode : Mode) (ks : List Token) → HasNoComma ks → HasNoClose ks → Untaken (ActualEnd mode) ks
passed_untaken mode ks h i = untaken_by (ActualEnd mode) ks refl (λ w. refl) refl (passed_sign mode ks h i)

-- where no actuals follow
pub unpassed_same : (m : Limits) (mode : Mode) (ks : List Token) → HasNoOpen ks → SameAt m (RoutineEnd mode) (ActualsEnd mode) ks
unpassed_same m mode [] i o condition k done = refl
unpassed_same m mode (Word w ∷ ks) i o condition k done = name_neither m (RoutineEnd mode) (ActualsEnd mode) w ks o condition k done (nat_le (length w) 31)
    (on_rested (Some (args_rest o condition k done)) (Word w)) refl refl
unpassed_same m mode (Called w ∷ ks) i o condition k done = piece_neither m (RoutineEnd mode) (ActualsEnd mode) w ks o condition k done (part_of (Called w))
    (on_rested (Some (args_rest o condition k done)) (Called w)) (called_apart (RoutineEnd mode) (callee_of w) (nat_le (length w) 31) refl)
    (called_apart (ActualsEnd mode) (callee_of w) (nat_le (length w) 31) refl)
unpassed_same m mode (Signed Open ∷ ks) i o condition k done = absurd i
unpassed_same m mode (Signed s ∷ ks) i o condition k done = refl
unpassed_same m mode (t ∷ ks) i o condition k done = refl

-- no actuals
pub unpassed : (limited : Bool) (m : Limits) (mode : Mode) (ls : List Lexeme) (list : List (Option Expr)) (o : Sentence) (condition : Option Expr) (k : Verb)
    (done : List Part) → HasNoOpen (tokens_seen ls) → list ≡ [] →
    WentAs limited (λ ps. AreWrittenActuals ps list) m ls (RoutineEnd mode) ls (ActualsEnd mode) o condition k done
unpassed limited m mode ls list o condition k done h e =
    let a = went_same limited m (RoutineEnd mode) (ActualsEnd mode) ls o condition k done (unpassed_same m mode (tokens_seen ls) h) in
    (a.0, λ l. ([], a.1 l, sym e), a.2)

-- actuals in their parentheses
pub actuals_written : (ps : List Part) (list plain : List (Option Expr)) → 1 ≤ length list → plain ≡ plain_actuals list →
    ps ≡ Put Open ∷ (with_commas actual_parts list ++ Put Close ∷ []) → AreWrittenActuals ps plain
actuals_written ps [] plain h e f = absurd (omega arith)
actuals_written ps (a ∷ list) plain h e f = (a ∷ list, f, sym e)

-- a call, from its entry, its actuals and its condition
abbrev pub call_of : Target → List (Option Expr) → Option Expr → Call
call_of target list condition = record { target = target; actuals = list; condition = condition }

pub call_written : (target : Target) (list : List (Option Expr)) (condition : Option Expr) (ps qs rs : List Part) → ps ≡ target_parts target →
    AreWrittenActuals qs list → rs ≡ guard_parts condition → IsWrittenCall (ps ++ (qs ++ rs)) (call_of target list condition)
call_written target list condition ps qs rs e h f = (
  call_of target h.0 condition,
  ap (λ (zs : List Part). zs ++ (qs ++ rs)) e ∙ ap (λ (zs : List Part). target_parts target ++ (zs ++ rs)) h.1 ∙ ap (λ (zs : List Part). target_parts target ++ (actuals_parts h.0 ++ zs)) f,
  ap (λ (xs : List (Option Expr)). call_of target xs condition) h.2,
)

-- a start, from its entry, its actuals and its timeout
abbrev pub start_of : Target → List (Option Expr) → Option Expr → Started
start_of target list timeout = record { target = target; actuals = list; timeout = timeout }

pub start_written : (target : Target) (list : List (Option Expr)) (timeout : Option Expr) (ps qs rs : List Part) → ps ≡ target_parts target →
    AreWrittenActuals qs list → rs ≡ wait_parts timeout → IsWrittenStart (ps ++ (qs ++ rs)) (start_of target list timeout)
start_written target list timeout ps qs rs e h f = (
  start_of target h.0 timeout,
  ap (λ (zs : List Part). zs ++ (qs ++ rs)) e ∙ ap (λ (zs : List Part). target_parts target ++ (zs ++ rs)) h.1 ∙ ap (λ (zs : List Part). target_parts target ++ (actuals_parts h.0 ++ zs)) f,
  ap (λ (xs : List (Option Expr)). start_of target xs timeout) h.2,
)
