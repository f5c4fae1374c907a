-- What the functions that read the argument of FOR follow.
use Rattle.std.proofs.Common.{◌≡◌, ◌∙◌, List, [], ◌∷◌, length, refl, ap, Bool, true, false, Option, Some, nat_le, inl, inr}
use Rattle.mj_ast.specs.declared.sign.Sign.TheVariants.{Equals, Colon}
use Rattle.mj_ast.specs.declared.keyword.Verb.{Verb}
use Rattle.mj_ast.specs.Syntax.{Expr, Variable}
use Rattle.mj_ast.specs.Tokens.{Token, Word, Called, Signed}
use Rattle.mj_ast.specs.Expressions.{callee_of}
use Rattle.mj_ast.specs.Commands.{Part, Put, Text, Control}
use Rattle.mj_expr.specs.Machine.{Limits}
use Rattle.mj_expr.specs.Machine as phrase
use Rattle.mj_expr.specs.declared.stop.ParseError.{ParseError}
use Rattle.mj_lex.specs.declared.token.Lexeme.{Lexeme}
use Rattle.mj_lex.specs.Seen.{tokens_seen}
use Rattle.mj_line.specs.Forms.{Node, ForWanted, ForBehind, RangeWanted, RangeEnd, StepWanted, StepEnd, LimitWanted, LimitEnd, AnExpr, ALocal, part_of, sort_of, takes, wants, ends}
use Rattle.mj_line.specs.Sentences.{Sentence}
use Rattle.mj_line.specs.Machine.{Args, Argument, At, In, args_rest, expression_wanted, variable_wanted, behind_phrase, on_rested, run}
use Rattle.mj_line.proofs.Entries.{called_apart}
use Rattle.mj_cmd.specs.Heads.{HasNoEquals, HasNoColon, HasNoCaret, HasOther}
use Rattle.mj_cmd.specs.Reads.{Refuses}
use Rattle.mj_cmd.proofs.Follow.{Untaken, SignUntaken, Went, SameAt, sign_at, enter_here, went_then, went_token, went_text, went_same, fails_then, fails_enter, untaken_by, no_sign, name_neither, piece_neither}

-- ---- what is not taken

pub for_untaken : (ks : List Token) → Untaken ForWanted ks
for_untaken ks = untaken_by ForWanted ks refl (λ w. refl) refl (no_sign ForWanted ks (λ s. refl))

equals_sign : (ks : List Token) → HasNoEquals ks → SignUntaken ForBehind ks
equals_sign [] h = tt
equals_sign (Signed Equals ∷ ks) h = absurd h
equals_sign (Signed s ∷ ks) h = refl
equals_sign (t ∷ ks) h = tt

pub equals_untaken : (ks : List Token) → HasNoEquals ks → Untaken ForBehind ks
equals_untaken ks h = untaken_by ForBehind ks refl (λ w. refl) refl (equals_sign ks h)

pub range_untaken : (ks : List Token) → Untaken RangeWanted ks
range_untaken ks = untaken_by RangeWanted ks refl (λ w. refl) refl (no_sign RangeWanted ks (λ s. refl))

pub step_untaken : (ks : List Token) → Untaken StepWanted ks
step_untaken ks = untaken_by StepWanted ks refl (λ w. refl) refl (no_sign StepWanted ks (λ s. refl))

pub limit_untaken : (ks : List Token) → Untaken LimitWanted ks
limit_untaken ks = untaken_by LimitWanted ks refl (λ w. refl) refl (no_sign LimitWanted ks (λ s. refl))

-- ---- the local

pub went_local : (limited : Bool) (v : Variable) (m : Limits) (ls rest : List Lexeme) (o : Sentence) (condition : Option Expr) (k : Verb) (done : List Part) →
    HasNoCaret (tokens_seen ls) → HasOther (tokens_seen ls) →
    (t : Variable) × (limited ≡ true → t ≡ v) × (run m (tokens_seen ls) (In (Argument o condition k done (ALocal ForBehind)) variable_wanted) ≡
    run m (tokens_seen rest) (At (behind_phrase (Argument o condition k done (ALocal ForBehind)) (phrase.Target t)))) →
    Went limited (Control v ∷ []) m ls ForWanted rest ForBehind o condition k done
went_local limited v m ls rest o condition k done c u h = (
  Control h.0 ∷ [],
  λ l. ap (λ (x : Variable). Control x ∷ []) (h.1 l),
  enter_here m o condition k done ForWanted (ALocal ForBehind) (tokens_seen ls) c refl (for_untaken (tokens_seen ls)) (inr u) ∙ h.2,
)

-- ---- ranges

-- an expression behind a colon
pub went_colon_text : (limited : Bool) (e : Expr) (m : Limits) (ls : List Lexeme) (n : Node) (ms : List Lexeme) (w : Node) (rest : List Lexeme) (next : Node)
    (o : Sentence) (condition : Option Expr) (k : Verb) (done : List Part) →
    tokens_seen ls ≡ Signed Colon ∷ tokens_seen ms → takes n (Put Colon) ≡ Some w → wants w ≡ Some (AnExpr 0 next) → Untaken w (tokens_seen ms) → ends w ≡ false →
    ((d : List Part) → (t : Expr) × (limited ≡ true → t ≡ e) × (run m (tokens_seen ms) (In (Argument o condition k d (AnExpr 0 next)) expression_wanted) ≡
    run m (tokens_seen rest) (At (behind_phrase (Argument o condition k d (AnExpr 0 next)) (phrase.Whole t))))) →
    Went limited (Put Colon ∷ Text 0 e ∷ []) m ls n rest next o condition k done
went_colon_text limited e m ls n ms w rest next o condition k done l h i u z f =
    went_then limited (Put Colon ∷ []) (Text 0 e ∷ []) m ls n ms w rest next o condition k done
    (went_token limited (Signed Colon) (Put Colon) m ls n ms w o condition k done l (sign_at (sort_of n) Colon) h)
    (λ d. went_text limited 0 e m ms w rest next o condition k d i u (inl z) (f d))

pub fails_colon_text : (limited : Bool) (e : ParseError) (m : Limits) (ls : List Lexeme) (n : Node) (ms : List Lexeme) (w next : Node) (o : Sentence)
    (condition : Option Expr) (k : Verb) (done : List Part) →
    tokens_seen ls ≡ Signed Colon ∷ tokens_seen ms → takes n (Put Colon) ≡ Some w → wants w ≡ Some (AnExpr 0 next) → Untaken w (tokens_seen ms) → ends w ≡ false →
    ((d : List Part) → Refuses limited e (run m (tokens_seen ms) (In (Argument o condition k d (AnExpr 0 next)) expression_wanted))) →
    Refuses limited e (run m (tokens_seen ls) (At (Args o condition k done n)))
fails_colon_text limited e m ls n ms w next o condition k done l h i u z f =
    fails_then limited (Put Colon ∷ []) e m ls n ms w o condition k done (went_token limited (Signed Colon) (Put Colon) m ls n ms w o condition k done l (sign_at (sort_of n) Colon) h)
    (λ d. fails_enter limited e m ms w (AnExpr 0 next) o condition k d tt i u (inl z) (f d))

-- where no step follows, and where no end follows
range_same : (m : Limits) (ks : List Token) → HasNoColon ks → SameAt m RangeEnd LimitEnd ks
range_same m [] h o condition k done = refl
range_same m (Word w ∷ ks) h o condition k done = name_neither m RangeEnd LimitEnd w ks o condition k done (nat_le (length w) 31) (on_rested (Some (args_rest o condition k done)) (Word w)) refl refl
range_same m (Called w ∷ ks) h o condition k done = piece_neither m RangeEnd LimitEnd w ks o condition k done (part_of (Called w))
    (on_rested (Some (args_rest o condition k done)) (Called w)) (called_apart RangeEnd (callee_of w) (nat_le (length w) 31) refl)
    (called_apart LimitEnd (callee_of w) (nat_le (length w) 31) refl)
range_same m (Signed Colon ∷ ks) h o condition k done = absurd h
range_same m (Signed s ∷ ks) h o condition k done = refl
range_same m (t ∷ ks) h o condition k done = refl

step_same : (m : Limits) (ks : List Token) → HasNoColon ks → SameAt m StepEnd LimitEnd ks
step_same m [] h o condition k done = refl
step_same m (Word w ∷ ks) h o condition k done = name_neither m StepEnd LimitEnd w ks o condition k done (nat_le (length w) 31) (on_rested (Some (args_rest o condition k done)) (Word w)) refl refl
step_same m (Called w ∷ ks) h o condition k done = piece_neither m StepEnd LimitEnd w ks o condition k done (part_of (Called w))
    (on_rested (Some (args_rest o condition k done)) (Called w)) (called_apart StepEnd (callee_of w) (nat_le (length w) 31) refl)
    (called_apart LimitEnd (callee_of w) (nat_le (length w) 31) refl)
step_same m (Signed Colon ∷ ks) h o condition k done = absurd h
step_same m (Signed s ∷ ks) h o condition k done = refl
step_same m (t ∷ ks) h o condition k done = refl

pub went_unstepped : (limited : Bool) (m : Limits) (ls : List Lexeme) (o : Sentence) (condition : Option Expr) (k : Verb) (done : List Part) →
    HasNoColon (tokens_seen ls) → Went limited [] m ls RangeEnd ls LimitEnd o condition k done
went_unstepped limited m ls o condition k done h = went_same limited m RangeEnd LimitEnd ls o condition k done (range_same m (tokens_seen ls) h)

pub went_unlimited : (limited : Bool) (m : Limits) (ls : List Lexeme) (o : Sentence) (condition : Option Expr) (k : Verb) (done : List Part) →
    HasNoColon (tokens_seen ls) → Went limited [] m ls StepEnd ls LimitEnd o condition k done
went_unlimited limited m ls o condition k done h = went_same limited m StepEnd LimitEnd ls o condition k done (step_same m (tokens_seen ls) h)
