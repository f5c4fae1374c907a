-- What the functions that read the argument of TSTART follow.
use Rattle.std.proofs.Common.{◌≡◌, ◌∙◌, ℕ, List, [], ◌∷◌, ◌++◌, refl, ap, sym, subst, length, Bool, true, false, Option, Some, None, Result, Ok, Err, nat_le}
use Rattle.std.specs.Prelude.{cond}
use Rattle.mj_ast.specs.declared.sign.Sign.TheVariants.{Star, Colon, Open, Close}
use Rattle.mj_ast.specs.declared.keyword.Verb.{Verb}
use Rattle.mj_ast.specs.Syntax.{Expr}
use Rattle.mj_ast.specs.Tokens.{Token, Word, Called, Signed}
use Rattle.mj_ast.specs.Expressions.{callee_of}
use Rattle.mj_ast.specs.Commands.{Part, Named, SerialWord, is_serial_word}
use Rattle.mj_expr.specs.Machine.{Limits}
use Rattle.mj_expr.specs.declared.stop.ParseError.{ParseError}
use Rattle.mj_lex.specs.declared.token.Lexeme.{Lexeme}
use Rattle.mj_lex.specs.Seen.{tokens_seen}
use Rattle.mj_line.specs.Forms.{Node, RestartWanted, RestoredOpens, RestoredWanted, RestoredEnd, SerialWanted, SerialInside, SerialBehind, SerialEnd, part_of, part_at, Sort, Serials, sort_of, takes}
use Rattle.mj_line.specs.Sentences.{Sentence}
use Rattle.mj_line.specs.Machine.{At, Args, Stuck, args_rest, first, on_rested, taken, turn}
use Rattle.mj_line.proofs.Entries.{part_taken, called_apart}
use Rattle.mj_cmd.specs.Heads.{HasNoStar, HasNoOpen, HasNoClose, HasNoColon, HasNoName, HasNoSerial}
use Rattle.mj_cmd.specs.Reads.{ReadsTokens}
use Rattle.mj_cmd.proofs.Follow.{refuses_from, Untaken, SignUntaken, SameAt, Went, went_same, went_token, untaken_by, no_sign, name_neither, piece_neither, kept_untaken_word}

-- ---- which locals

pub restart_untaken : (ks : List Token) → HasNoStar ks → HasNoOpen ks → HasNoName ks → Untaken RestartWanted ks
restart_untaken [] h i j = tt
restart_untaken (Word w ∷ ks) h i j = kept_untaken_word RestartWanted w (nat_le (length w) 31) refl j
restart_untaken (Called w ∷ ks) h i j = called_apart RestartWanted (callee_of w) (nat_le (length w) 31) refl
restart_untaken (Signed Star ∷ ks) h i j = absurd h
restart_untaken (Signed Open ∷ ks) h i j = absurd i
restart_untaken (Signed s ∷ ks) h i j = refl
restart_untaken (t ∷ ks) h i j = refl

-- the first name of a list, or another
word_same : (m : Limits) (w : List ℕ) (ks : List Token) (o : Sentence) (condition : Option Expr) (k : Verb) (done : List Part) (b : Bool) →
    turn m ks (Word w) (first (first (taken o condition k done RestoredOpens (cond b (Some (Named w)) None)) Stuck) Stuck) ≡
    turn m ks (Word w) (first (first (taken o condition k done RestoredWanted (cond b (Some (Named w)) None)) Stuck) Stuck)
word_same m w ks o condition k done true = refl
word_same m w ks o condition k done false = refl

pub first_same : (m : Limits) (ks : List Token) → HasNoClose ks → SameAt m RestoredOpens RestoredWanted ks
first_same m [] i o condition k done = refl
first_same m (Word w ∷ ks) i o condition k done = word_same m w ks o condition k done (nat_le (length w) 31)
first_same m (Called w ∷ ks) i o condition k done = piece_neither m RestoredOpens RestoredWanted w ks o condition k done (part_of (Called w)) Stuck
    (called_apart RestoredOpens (callee_of w) (nat_le (length w) 31) refl) (called_apart RestoredWanted (callee_of w) (nat_le (length w) 31) refl)
first_same m (Signed Close ∷ ks) i o condition k done = absurd i
first_same m (Signed s ∷ ks) i o condition k done = refl
first_same m (t ∷ ks) i o condition k done = refl

-- what is read from the one place on is read from the other
pub reads_same : {X : Type 0} (limited : Bool) (tree : X → List Part) (rest : X →
    List Lexeme) (r : Result X ParseError) (m : Limits) (n q next : Node) (ls : List Lexeme) (o : Sentence) (condition : Option Expr) (k : Verb) (done : List Part) →
    SameAt m n q (tokens_seen ls) → ReadsTokens limited tree rest r m ls (At (Args o condition k done q)) (λ ps. At (Args o condition k (done ++ ps) next)) →
    ReadsTokens limited tree rest r m ls (At (Args o condition k done n)) (λ ps. At (Args o condition k (done ++ ps) next))
reads_same limited tree rest (Ok x) m n q next ls o condition k done s h = (h.0, h.1, s o condition k done ∙ h.2)
reads_same limited tree rest (Err e) m n q next ls o condition k done s h = refuses_from limited e _ _ (s o condition k done) h

-- ---- the word of SERIAL

serial_untaken : (n : Node) (w : List ℕ) (b : Bool) → is_serial_word w ≡ b → b ≡ false → part_taken n (cond b (Some SerialWord) None) ≡ None
serial_untaken n w true e h = absurd (let f : true ≡ false = h in cc)
serial_untaken n w false e h = refl

pub wanted_untaken : (ks : List Token) → HasNoSerial ks → HasNoOpen ks → Untaken SerialWanted ks
wanted_untaken [] h i = tt
wanted_untaken (Word w ∷ ks) h i = serial_untaken SerialWanted w (is_serial_word w) refl h
wanted_untaken (Called w ∷ ks) h i = called_apart SerialWanted (callee_of w) (nat_le (length w) 31) refl
wanted_untaken (Signed Open ∷ ks) h i = absurd i
wanted_untaken (Signed s ∷ ks) h i = refl
wanted_untaken (t ∷ ks) h i = refl

pub inside_untaken : (ks : List Token) → HasNoSerial ks → Untaken SerialInside ks
inside_untaken [] h = tt
inside_untaken (Word w ∷ ks) h = serial_untaken SerialInside w (is_serial_word w) refl h
inside_untaken (Called w ∷ ks) h = called_apart SerialInside (callee_of w) (nat_le (length w) 31) refl
inside_untaken (Signed s ∷ ks) h = refl
inside_untaken (t ∷ ks) h = refl

close_sign : (ks : List Token) → HasNoClose ks → SignUntaken SerialBehind ks
close_sign [] h = tt
close_sign (Signed Close ∷ ks) h = absurd h
close_sign (Signed s ∷ ks) h = refl
close_sign (t ∷ ks) h = tt

pub behind_untaken : (ks : List Token) → HasNoClose ks → Untaken SerialBehind ks
behind_untaken ks h = untaken_by SerialBehind ks refl (λ w. refl) refl (close_sign ks h)

pub end_untaken : (ks : List Token) → Untaken SerialEnd ks
end_untaken ks = untaken_by SerialEnd ks refl (λ w. refl) refl (no_sign SerialEnd ks (λ s. refl))

-- it is read where it is wanted
pub went_serial : (limited : Bool) (m : Limits) (n next : Node) (ls rest : List Lexeme) (w : List ℕ) (o : Sentence) (condition : Option Expr) (k : Verb)
    (done : List Part) → sort_of n ≡ Serials → takes n SerialWord ≡ Some next → tokens_seen ls ≡ Word w ∷ tokens_seen rest → is_serial_word w ≡ true →
    Went limited (SerialWord ∷ []) m ls n rest next o condition k done
went_serial limited m n next ls rest w o condition k done z f l h =
    let P : Sort → Type 0 = λ b. part_at b (Word w) ≡ Some SerialWord in
    went_token limited (Word w) SerialWord m ls n rest next o condition k done l (subst P (sym z) (ap (λ (b : Bool). cond b (Some SerialWord) None) h)) f

-- where none follows
unserial_same : (m : Limits) (ks : List Token) → HasNoColon ks → SameAt m RestoredEnd SerialEnd ks
unserial_same m [] i o condition k done = refl
unserial_same m (Word w ∷ ks) i o condition k done = name_neither m RestoredEnd SerialEnd w ks o condition k done (nat_le (length w) 31)
    (on_rested (Some (args_rest o condition k done)) (Word w)) refl refl
unserial_same m (Called w ∷ ks) i o condition k done = piece_neither m RestoredEnd SerialEnd w ks o condition k done (part_of (Called w))
    (on_rested (Some (args_rest o condition k done)) (Called w)) (called_apart RestoredEnd (callee_of w) (nat_le (length w) 31) refl)
    (called_apart SerialEnd (callee_of w) (nat_le (length w) 31) refl)
unserial_same m (Signed Colon ∷ ks) i o condition k done = absurd i
unserial_same m (Signed s ∷ ks) i o condition k done = refl
unserial_same m (t ∷ ks) i o condition k done = refl

pub went_unserial : (limited : Bool) (m : Limits) (ls : List Lexeme) (o : Sentence) (condition : Option Expr) (k : Verb) (done : List Part) →
    HasNoColon (tokens_seen ls) → Went limited [] m ls RestoredEnd ls SerialEnd o condition k done
went_unserial limited m ls o condition k done h = went_same limited m RestoredEnd SerialEnd ls o condition k done (unserial_same m (tokens_seen ls) h)
