-- What the functions that read the arguments of SET, WRITE, KILL and MERGE follow.
use Rattle.std.proofs.Common.{◌≡◌, ℕ, zero, suc, ◌+◌, ◌-◌, ◌≤◌, ◌<◌, List, [], ◌∷◌, ◌++◌, length, refl, ap, sym, ◌∙◌, subst, Bool, true, false, append_assoc, arith, Option, Some, None, Result, Ok, Err, nat_le, ◌⊎◌, inl, inr, length-append}
use Rattle.std.specs.Prelude.{cond}
use Rattle.std.specs.Result.{IfOk}
use Rattle.std.proofs.lemmas.Bool.Decides.{nat_tests}
use Rattle.mj_ast.specs.declared.sign.Sign.{Sign}
use Rattle.mj_ast.specs.declared.sign.Sign.TheVariants.{Equals, Comma, Open, Close}
use Rattle.mj_ast.specs.declared.function.Function.TheVariants.{Piece}
use Rattle.mj_ast.specs.declared.function.Callee.{Callee}
use Rattle.mj_ast.specs.declared.function.Callee.TheVariants as callee
use Rattle.mj_ast.specs.declared.keyword.Verb.{Verb}
use Rattle.mj_ast.specs.Syntax.{Expr, Destination}
use Rattle.mj_ast.specs.Trees.{expr_of, exprs_of}
use Rattle.mj_ast.specs.declared.expr.Expr as kept
use Rattle.mj_ast.specs.Tokens.{Token, Word, Called, Signed}
use Rattle.mj_ast.specs.Expressions.{callee_of}
use Rattle.mj_ast.specs.Commands.{Part, Put, Named, PieceCall, Text, with_commas, more_parts, destination_parts, name_parts}
use Rattle.mj_expr.specs.Machine.{Limits}
use Rattle.mj_expr.specs.declared.stop.ParseError.{ParseError}
use Rattle.mj_lex.specs.declared.token.Lexeme.{Lexeme}
use Rattle.mj_lex.specs.Seen.{tokens_seen}
use Rattle.mj_line.specs.Forms.{Node, SetTarget, PieceOpens, PieceVariable, PieceComma, PieceText, PieceBehind, SetBehind, SetValue, KillWanted, NameWanted, NameBehind, MergeInto, MergeBehind, MergeFrom, KeptWanted, KeptBehind, RestoredWanted, RestoredBehind, part_of, part_at, sort_of, piece_part, takes, wants, ends}
use Rattle.mj_line.specs.Sentences.{Sentence}
use Rattle.mj_line.specs.Machine.{Args, At, run, first}
use Rattle.mj_line.proofs.Entries.{part_taken, word_apart, called_apart}
use Rattle.mj_cmd.specs.Heads.{HasNoComma, HasNoEquals, HasNoOpen, HasNoClose, HasNoPiece, HasNoName}
use Rattle.mj_cmd.specs.Parts.{piece_node, opened_parts, NameList, Sparing, Keeping, Restoring, name_wanted, name_behind, name_end, NotListed}
use Rattle.mj_cmd.specs.Lists.{comma_or}
use Rattle.mj_cmd.specs.Reads.{ReadsTokens}
use Rattle.mj_cmd.proofs.Follow.{refuses_from, Untaken, token_run, Went, went_then, went_as, went_token, SignUntaken, untaken_by, no_sign, comma_untaken, commas_more, kept_untaken_word, went_word}

piece_comma : (listed : Bool) → comma_or (PieceComma listed)
piece_comma listed Comma = inr refl
piece_comma listed s = inl refl

pub first_untaken : (listed : Bool) (ks : List Token) → HasNoComma ks → Untaken (PieceComma listed) ks
first_untaken listed ks h = comma_untaken (PieceComma listed) ks refl (λ w. refl) refl (piece_comma listed) h

-- nothing is taken where a phrase alone is wanted
pub variable_untaken : (listed : Bool) (ks : List Token) → Untaken (PieceVariable listed) ks
variable_untaken listed ks = untaken_by (PieceVariable listed) ks refl (λ w. refl) refl (no_sign (PieceVariable listed) ks (λ s. refl))

pub text_untaken : (listed : Bool) (more : ℕ) (ks : List Token) → Untaken (PieceText listed more) ks
text_untaken listed more ks = untaken_by (PieceText listed more) ks refl (λ w. refl) refl (no_sign (PieceText listed more) ks (λ s. refl))

pub value_untaken : (ks : List Token) → Untaken SetValue ks
value_untaken ks = untaken_by SetValue ks refl (λ w. refl) refl (no_sign SetValue ks (λ s. refl))

pub into_untaken : (ks : List Token) → Untaken MergeInto ks
into_untaken ks = untaken_by MergeInto ks refl (λ w. refl) refl (no_sign MergeInto ks (λ s. refl))

pub from_untaken : (ks : List Token) → Untaken MergeFrom ks
from_untaken ks = untaken_by MergeFrom ks refl (λ w. refl) refl (no_sign MergeFrom ks (λ s. refl))

-- the other places, by what doesn't stand in front
opens_sign : (listed : Bool) (ks : List Token) → HasNoOpen ks → SignUntaken (PieceOpens listed) ks
opens_sign listed [] i = tt
opens_sign listed (Signed Open ∷ ks) i = absurd i
opens_sign listed (Signed s ∷ ks) i = refl
opens_sign listed (t ∷ ks) i = tt

pub opens_untaken : (listed : Bool) (ks : List Token) → HasNoOpen ks → Untaken (PieceOpens listed) ks
opens_untaken listed ks i = untaken_by (PieceOpens listed) ks refl (λ w. refl) refl (opens_sign listed ks i)

behind_sign : (ks : List Token) → HasNoEquals ks → SignUntaken (SetBehind false) ks
behind_sign [] i = tt
behind_sign (Signed Equals ∷ ks) i = absurd i
behind_sign (Signed s ∷ ks) i = refl
behind_sign (t ∷ ks) i = tt

pub behind_untaken : (ks : List Token) → HasNoEquals ks → Untaken (SetBehind false) ks
behind_untaken ks i = untaken_by (SetBehind false) ks refl (λ w. refl) refl (behind_sign ks i)

listed_sign : (ks : List Token) → HasNoComma ks → HasNoClose ks → SignUntaken (SetBehind true) ks
listed_sign [] h i = tt
listed_sign (Signed Comma ∷ ks) h i = absurd h
listed_sign (Signed Close ∷ ks) h i = absurd i
listed_sign (Signed s ∷ ks) h i = refl
listed_sign (t ∷ ks) h i = tt

pub listed_untaken : (ks : List Token) → HasNoComma ks → HasNoClose ks → Untaken (SetBehind true) ks
listed_untaken ks h i = untaken_by (SetBehind true) ks refl (λ w. refl) refl (listed_sign ks h i)

into_sign : (ks : List Token) → HasNoEquals ks → SignUntaken MergeBehind ks
into_sign [] i = tt
into_sign (Signed Equals ∷ ks) i = absurd i
into_sign (Signed s ∷ ks) i = refl
into_sign (t ∷ ks) i = tt

pub merged_untaken : (ks : List Token) → HasNoEquals ks → Untaken MergeBehind ks
merged_untaken ks i = untaken_by MergeBehind ks refl (λ w. refl) refl (into_sign ks i)

names_sign : (ks : List Token) → HasNoComma ks → HasNoClose ks → SignUntaken NameBehind ks
names_sign [] h i = tt
names_sign (Signed Comma ∷ ks) h i = absurd h
names_sign (Signed Close ∷ ks) h i = absurd i
names_sign (Signed s ∷ ks) h i = refl
names_sign (t ∷ ks) h i = tt

pub names_untaken : (ks : List Token) → HasNoComma ks → HasNoClose ks → Untaken NameBehind ks
names_untaken ks h i = untaken_by NameBehind ks refl (λ w. refl) refl (names_sign ks h i)

-- at the last place of `$PIECE` a comma isn't taken
last_sign : (listed : Bool) (ks : List Token) → HasNoClose ks → SignUntaken (PieceBehind listed zero) ks
last_sign listed [] i = tt
last_sign listed (Signed Close ∷ ks) i = absurd i
last_sign listed (Signed s ∷ ks) i = refl
last_sign listed (t ∷ ks) i = tt

more_sign : (listed : Bool) (more : ℕ) (ks : List Token) → HasNoComma ks → HasNoClose ks → SignUntaken (PieceBehind listed (suc more)) ks
more_sign listed more [] h i = tt
more_sign listed more (Signed Comma ∷ ks) h i = absurd h
more_sign listed more (Signed Close ∷ ks) h i = absurd i
more_sign listed more (Signed s ∷ ks) h i = refl
more_sign listed more (t ∷ ks) h i = tt

pub piece_untaken : (listed : Bool) (more : ℕ) (ks : List Token) → HasNoComma ks ⊎ (more ≡ 0) → HasNoClose ks → Untaken (PieceBehind listed more) ks
piece_untaken listed zero ks h i = untaken_by (PieceBehind listed zero) ks refl (λ w. refl) refl (last_sign listed ks i)
piece_untaken listed (suc more) ks (inl h) i = untaken_by (PieceBehind listed (suc more)) ks refl (λ w. refl) refl (more_sign listed more ks h i)
piece_untaken listed (suc more) ks (inr h) i = absurd (omega arith)

name_untaken_word : (w : List ℕ) (b : Bool) → nat_le (length w) 31 ≡ b → (length w ≤ 31 → ⊥) → part_taken NameWanted (cond b (Some (Named w)) None) ≡ None
name_untaken_word w true e h = absurd (h (grind (arith, nat_tests)))
name_untaken_word w false e h = refl

pub name_untaken : (ks : List Token) → HasNoName ks → Untaken NameWanted ks
name_untaken [] h = tt
name_untaken (Word w ∷ ks) h = name_untaken_word w (nat_le (length w) 31) refl h
name_untaken (Called w ∷ ks) h = called_apart NameWanted (callee_of w) (nat_le (length w) 31) refl
name_untaken (Signed s ∷ ks) h = refl
name_untaken (t ∷ ks) h = refl

kill_sign : (first : Bool) (ks : List Token) → HasNoOpen ks → SignUntaken (KillWanted first) ks
kill_sign first [] i = tt
kill_sign first (Signed Open ∷ ks) i = absurd i
kill_sign first (Signed s ∷ ks) i = refl
kill_sign first (t ∷ ks) i = tt

pub killed_untaken : (first : Bool) (ks : List Token) → HasNoOpen ks → Untaken (KillWanted first) ks
killed_untaken first ks i = untaken_by (KillWanted first) ks refl (λ w. refl) refl (kill_sign first ks i)

-- a destination that isn't `$PIECE`
target_called : (listed : Bool) (q : Option Callee) (b : Bool) → (cond b (piece_part q) None ≡ Some PieceCall → ⊥) → part_taken (SetTarget listed) (cond b (piece_part q) None) ≡ None
target_called listed (Some (callee.Texts Piece)) true h = absurd (h refl)
target_called listed q false h = refl
target_called listed q true h = refl

target_rest : (listed : Bool) (ks : List Token) → HasNoPiece ks → SignUntaken (SetTarget listed) ks → Untaken (SetTarget listed) ks
target_rest listed [] h j = tt
target_rest listed (Signed s ∷ ks) h j = j
target_rest false (Word w ∷ ks) h j = word_apart (SetTarget false) w (nat_le (length w) 31) refl
target_rest true (Word w ∷ ks) h j = word_apart (SetTarget true) w (nat_le (length w) 31) refl
target_rest listed (Called w ∷ ks) h j = target_called listed (callee_of w) (nat_le (length w) 31) h
target_rest listed (t ∷ ks) h j = refl

target_sign : (ks : List Token) → HasNoOpen ks → SignUntaken (SetTarget false) ks
target_sign [] i = tt
target_sign (Signed Open ∷ ks) i = absurd i
target_sign (Signed s ∷ ks) i = refl
target_sign (t ∷ ks) i = tt

pub target_untaken : (listed : Bool) (ks : List Token) → NotListed listed ks → HasNoPiece ks → Untaken (SetTarget listed) ks
target_untaken true ks o h = target_rest true ks h (no_sign (SetTarget true) ks (λ s. refl))
target_untaken false ks o h = target_rest false ks h (target_sign ks o)

pub piece_takes : (listed : Bool) → takes (SetTarget listed) PieceCall ≡ Some (PieceOpens listed)
piece_takes false = refl
piece_takes true = refl

pub close_takes : (listed : Bool) (more : ℕ) → takes (PieceBehind listed more) (Put Close) ≡ Some (SetBehind listed)
close_takes listed zero = refl
close_takes listed (suc more) = refl

-- expressions inside `$PIECE`
pub more_more : (es : List kept.Expr) (e : kept.Expr) → more_parts (exprs_of (es ++ e ∷ [])) ≡ more_parts (exprs_of es) ++ (Put Comma ∷ Text 1 (expr_of e) ∷ [])
more_more [] e = refl
more_more (x ∷ es) e = ap (λ (zs : List Part). Put Comma ∷ Text 1 (expr_of x) ∷ zs) (more_more es e)

pub more_pushed : (old new : List kept.Expr) (e : kept.Expr) → new ≡ old ++ e ∷ [] → more_parts (exprs_of old) ++ (Put Comma ∷ Text 1 (expr_of e) ∷ []) ≡ more_parts (exprs_of new)
more_pushed old new e h = sym (more_more old e) ∙ ap (λ (es : List kept.Expr). more_parts (exprs_of es)) (sym h)

-- a comma behind so many expressions of `$PIECE`
pub piece_comma_takes : (listed : Bool) (n : ℕ) → n < 3 → takes (piece_node listed n) (Put Comma) ≡ Some (PieceText listed (2 - n))
piece_comma_takes listed zero h = refl
piece_comma_takes listed (suc zero) h = refl
piece_comma_takes listed (suc (suc zero)) h = refl
piece_comma_takes listed (suc (suc (suc n))) h = absurd (omega arith)

pub piece_wants : (listed : Bool) (n : ℕ) → wants (piece_node listed n) ≡ None
piece_wants listed zero = refl
piece_wants listed (suc n) = refl

pub piece_ends : (listed : Bool) (n : ℕ) → ends (piece_node listed n) ≡ false
piece_ends listed zero = refl
piece_ends listed (suc n) = refl

-- where no comma stands, and no `)` that might
pub pieces_untaken : (listed : Bool) (n : ℕ) (ks : List Token) → HasNoComma ks → (n ≡ 0) ⊎ HasNoClose ks → Untaken (piece_node listed n) ks
pieces_untaken listed zero ks h i = first_untaken listed ks h
pieces_untaken listed (suc n) ks h (inl i) = absurd (omega arith)
pieces_untaken listed (suc n) ks h (inr i) = piece_untaken listed (2 - n) ks (inl h) i

-- a comma behind the last
pub full_untaken : (listed : Bool) (n : ℕ) (ks rest : List Token) → n ≡ 3 → ks ≡ Signed Comma ∷ rest → Untaken (piece_node listed n) ks
full_untaken listed n ks rest e h =
    let P : List Token → Type 0 = λ zs. Untaken (piece_node listed n) zs in
    let Q : ℕ → Type 0 = λ i. Untaken (piece_node listed i) (Signed Comma ∷ rest) in
    subst P (sym h) (subst Q (sym e) refl)

pub piece_closes : (listed : Bool) (n : ℕ) → 1 ≤ n → takes (piece_node listed n) (Put Close) ≡ Some (SetBehind listed)
piece_closes listed zero h = absurd (omega arith)
piece_closes listed (suc n) h = close_takes listed (2 - n)

-- the expressions of `$PIECE` so far
pub went_from : (limited : Bool) (old new : List kept.Expr) (x : kept.Expr) (m : Limits) (ls rest : List Lexeme) (listed : Bool) (o : Sentence)
    (condition : Option Expr) (k : Verb) (done : List Part) → old ≡ [] → new ≡ old ++ x ∷ [] →
    Went limited (Put Comma ∷ Text 1 (expr_of x) ∷ []) m ls (PieceComma listed) rest (PieceBehind listed 2) o condition k done →
    Went limited (more_parts (exprs_of new)) m ls (PieceComma listed) rest (piece_node listed (length new)) o condition k done
went_from limited old new x m ls rest listed o condition k done e h w =
    let P : List kept.Expr → Type 0 = λ es. Went limited (more_parts (exprs_of es)) m ls (PieceComma listed) rest (piece_node listed (length es)) o condition k done in
    subst P (sym (h ∙ ap (λ (zs : List kept.Expr). zs ++ x ∷ []) e)) w

node_more : (listed : Bool) (n : ℕ) → 1 ≤ n → piece_node listed (n + 1) ≡ PieceBehind listed (2 - n)
node_more listed n h = ap (piece_node listed) (let e : n + 1 ≡ suc n = omega arith in e)

-- the place behind as many as were counted
pub went_count : (limited : Bool) (ps : List Part) (m : Limits) (ls rest : List Lexeme) (listed : Bool) (n i : ℕ) (o : Sentence) (condition : Option Expr)
    (k : Verb) (done : List Part) → n ≡ i → Went limited ps m ls (PieceComma listed) rest (piece_node listed i) o condition k done →
    Went limited ps m ls (PieceComma listed) rest (piece_node listed n) o condition k done
went_count limited ps m ls rest listed n i o condition k done e w = let P : ℕ → Type 0 =
    λ x. Went limited ps m ls (PieceComma listed) rest (piece_node listed x) o condition k done in subst P (sym e) w

pub went_more : (limited : Bool) (old new : List kept.Expr) (x : kept.Expr) (n : ℕ) (m : Limits) (ls mid rest : List Lexeme) (listed : Bool) (o : Sentence)
    (condition : Option Expr) (k : Verb) (done : List Part) → n ≡ length old → new ≡ old ++ x ∷ [] → 1 ≤ length old →
    Went limited (more_parts (exprs_of old)) m ls (PieceComma listed) mid (piece_node listed (length old)) o condition k done →
    ((d : List Part) → Went limited (Put Comma ∷ Text 1 (expr_of x) ∷ []) m mid (piece_node listed n) rest (PieceBehind listed (2 - n)) o condition k d) →
    Went limited (more_parts (exprs_of new)) m ls (PieceComma listed) rest (piece_node listed (length new)) o condition k done
went_more limited old new x n m ls mid rest listed o condition k done c h i w f =
    let y = went_then limited (more_parts (exprs_of old)) (Put Comma ∷ Text 1 (expr_of x) ∷
    []) m ls (PieceComma listed) mid (piece_node listed n) rest (PieceBehind listed (2 - n)) o condition k done
    (went_count limited (more_parts (exprs_of old)) m ls mid listed n (length old) o condition k done c w) f in
    let N : Node → Type 0 = λ z. Went limited (more_parts (exprs_of new)) m ls (PieceComma listed) rest z o condition k done in
    let z = went_as limited (more_parts (exprs_of old) ++ (Put Comma ∷ Text 1 (expr_of x) ∷ [])) (more_parts (exprs_of new)) m ls (PieceComma listed) rest
    (PieceBehind listed (2 - n)) o condition k done (more_pushed old new x h) y in
    subst N (sym (ap (piece_node listed) (ap (length {A = kept.Expr}) h ∙ length-append old (x ∷ []) ∙ ap (λ (j : ℕ). j + 1) (sym c)) ∙ node_more listed n (omega arith))) z

pub first_length : (old new : List kept.Expr) (x : kept.Expr) → old ≡ [] → new ≡ old ++ x ∷ [] → (1 ≤ length new) × (length new ≤ 3)
first_length old new x e h = let n = ap (length {A = kept.Expr}) h in let k = length-append old (x ∷ []) in let z = ap (length {A = kept.Expr}) e in (omega arith, omega arith)

pub more_length : (old new : List kept.Expr) (x : kept.Expr) (i : ℕ) → i ≡ length old → new ≡ old ++ x ∷ [] → i < 3 → (1 ≤ length new) × (length new ≤ 3)
more_length old new x i c h l = let n = ap (length {A = kept.Expr}) h in let k = length-append old (x ∷ []) in (omega arith, omega arith)

-- what stands behind the word of `$PIECE` is read with it
pub piece_reads : {X : Type 0} (limited : Bool) (tree : X → Destination) (rest : X →
    List Lexeme) (r : Result X ParseError) (m : Limits) (ls behind : List Lexeme) (word : List ℕ) (listed : Bool) (o : Sentence) (condition : Option Expr) (k : Verb)
    (done : List Part) → tokens_seen ls ≡ Called word ∷ tokens_seen behind → part_of (Called word) ≡ Some PieceCall →
    IfOk r (λ x. destination_parts (tree x) ≡ PieceCall ∷ opened_parts (tree x)) →
    ReadsTokens limited (λ x. opened_parts (tree x)) rest r m behind (At (Args o condition k (done ++ PieceCall ∷ []) (PieceOpens listed)))
    (λ ps. At (Args o condition k ((done ++ PieceCall ∷ []) ++ ps) (SetBehind listed))) →
    ReadsTokens limited (λ x. destination_parts (tree x)) rest r m ls (At (Args o condition k done (SetTarget listed))) (λ ps. At (Args o condition k (done ++ ps) (SetBehind listed)))
piece_reads limited tree rest (Ok x) m ls behind word listed o condition k done l p d h = (
  PieceCall ∷ h.0,
  λ e. ap (λ (zs : List Part). PieceCall ∷ zs) (h.1 e) ∙ sym d,
  token_run m o condition k done (SetTarget listed) (PieceOpens listed) (Called word) PieceCall (tokens_seen ls) (tokens_seen behind) l p (piece_takes listed)
      ∙ h.2
      ∙ ap (λ (zs : List Part). run m (tokens_seen (rest x)) (At (Args o condition k zs (SetBehind listed)))) (append_assoc done (PieceCall ∷ []) h.0),
)
piece_reads limited tree rest (Err e) m ls behind word listed o condition k done l p d h =
    refuses_from limited e _ _ (token_run m o condition k done (SetTarget listed) (PieceOpens listed) (Called word) PieceCall (tokens_seen ls) (tokens_seen behind) l p (piece_takes listed)) h

-- a name
pub went_name : (limited : Bool) (m : Limits) (ls rest : List Lexeme) (w t : List ℕ) (o : Sentence) (condition : Option Expr) (k : Verb) (done : List Part) →
    tokens_seen ls ≡ Word w ∷ tokens_seen rest → length w ≤ 31 → t ≡ w → Went limited (Named t ∷ []) m ls NameWanted rest NameBehind o condition k done
went_name limited m ls rest w t o condition k done l h e =
    went_as limited (Named w ∷ []) (Named t ∷ []) m ls NameWanted rest NameBehind o condition k done (ap (λ (z : List ℕ). Named z ∷ []) (sym e))
    (went_token limited (Word w) (Named w) m ls NameWanted rest NameBehind o condition k done l
    (ap (λ (b : Bool). cond b (Some (Named w)) None) (let z : nat_le (length w) 31 ≡ true = grind (arith, nat_tests) in z)) refl)

pub kept_word : (old new : List (List ℕ)) (x : List ℕ) → old ≡ [] → new ≡ old ++ x ∷ [] → name_parts x ≡ with_commas name_parts new
kept_word old new x e h = ap (with_commas name_parts) (sym (h ∙ ap (λ (xs : List (List ℕ)). xs ++ x ∷ []) e))

pub kept_words : (old new : List (List ℕ)) (x : List ℕ) → new ≡ old ++ x ∷ [] → 1 ≤ length old → with_commas name_parts old ++ (Put Comma ∷ Named x ∷ []) ≡ with_commas name_parts new
kept_words old new x e h = sym (commas_more name_parts old x h) ∙ ap (with_commas name_parts) (sym e)

-- a name in each list of names
pub name_sign : (new : NameList) (z : Sign) → part_at (sort_of (name_behind new)) (Signed z) ≡ Some (Put z)
name_sign Sparing z = refl
name_sign Keeping z = refl
name_sign Restoring z = refl

pub listed_comma : (new : NameList) → takes (name_behind new) (Put Comma) ≡ Some (name_wanted new)
listed_comma Sparing = refl
listed_comma Keeping = refl
listed_comma Restoring = refl

pub listed_close : (new : NameList) → takes (name_behind new) (Put Close) ≡ Some (name_end new)
listed_close Sparing = refl
listed_close Keeping = refl
listed_close Restoring = refl

pub listed_wants : (new : NameList) → wants (name_wanted new) ≡ None
listed_wants Sparing = refl
listed_wants Keeping = refl
listed_wants Restoring = refl

pub listed_wanted : (new : NameList) → wants (name_behind new) ≡ None
listed_wanted Sparing = refl
listed_wanted Keeping = refl
listed_wanted Restoring = refl

pub listed_ends : (new : NameList) → ends (name_wanted new) ≡ false
listed_ends Sparing = refl
listed_ends Keeping = refl
listed_ends Restoring = refl

pub listed_over : (new : NameList) → ends (name_behind new) ≡ false
listed_over Sparing = refl
listed_over Keeping = refl
listed_over Restoring = refl

kept_untaken : (ks : List Token) → HasNoName ks → Untaken KeptWanted ks
kept_untaken [] h = tt
kept_untaken (Word w ∷ ks) h = kept_untaken_word KeptWanted w (nat_le (length w) 31) refl h
kept_untaken (Called w ∷ ks) h = called_apart KeptWanted (callee_of w) (nat_le (length w) 31) refl
kept_untaken (Signed s ∷ ks) h = refl
kept_untaken (t ∷ ks) h = refl

restored_untaken : (ks : List Token) → HasNoName ks → Untaken RestoredWanted ks
restored_untaken [] h = tt
restored_untaken (Word w ∷ ks) h = kept_untaken_word RestoredWanted w (nat_le (length w) 31) refl h
restored_untaken (Called w ∷ ks) h = called_apart RestoredWanted (callee_of w) (nat_le (length w) 31) refl
restored_untaken (Signed s ∷ ks) h = refl
restored_untaken (t ∷ ks) h = refl

pub listed_untaken_name : (new : NameList) (ks : List Token) → HasNoName ks → Untaken (name_wanted new) ks
listed_untaken_name Sparing ks h = name_untaken ks h
listed_untaken_name Keeping ks h = kept_untaken ks h
listed_untaken_name Restoring ks h = restored_untaken ks h

kept_sign : (ks : List Token) → HasNoComma ks → HasNoClose ks → SignUntaken KeptBehind ks
kept_sign [] h i = tt
kept_sign (Signed Comma ∷ ks) h i = absurd h
kept_sign (Signed Close ∷ ks) h i = absurd i
kept_sign (Signed s ∷ ks) h i = refl
kept_sign (t ∷ ks) h i = tt

restored_sign : (ks : List Token) → HasNoComma ks → HasNoClose ks → SignUntaken RestoredBehind ks
restored_sign [] h i = tt
restored_sign (Signed Comma ∷ ks) h i = absurd h
restored_sign (Signed Close ∷ ks) h i = absurd i
restored_sign (Signed s ∷ ks) h i = refl
restored_sign (t ∷ ks) h i = tt

pub listed_names : (new : NameList) (ks : List Token) → HasNoComma ks → HasNoClose ks → Untaken (name_behind new) ks
listed_names Sparing ks h i = names_untaken ks h i
listed_names Keeping ks h i = untaken_by KeptBehind ks refl (λ w. refl) refl (kept_sign ks h i)
listed_names Restoring ks h i = untaken_by RestoredBehind ks refl (λ w. refl) refl (restored_sign ks h i)

pub went_listed : (new : NameList) (limited : Bool) (m : Limits) (ls rest : List Lexeme) (w t : List ℕ) (o : Sentence) (condition : Option Expr) (k : Verb)
    (done : List Part) → tokens_seen ls ≡ Word w ∷ tokens_seen rest → length w ≤ 31 → t ≡ w →
    Went limited (Named t ∷ []) m ls (name_wanted new) rest (name_behind new) o condition k done
went_listed Sparing limited m ls rest w t o condition k done l h e = went_name limited m ls rest w t o condition k done l h e
went_listed Keeping limited m ls rest w t o condition k done l h e = went_word limited m KeptWanted KeptBehind ls rest w t o condition k done refl refl l h e
went_listed Restoring limited m ls rest w t o condition k done l h e = went_word limited m RestoredWanted RestoredBehind ls rest w t o condition k done refl refl l h e
