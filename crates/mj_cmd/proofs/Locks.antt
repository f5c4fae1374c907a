-- What the functions that read the arguments of LOCK follow.
use Rattle.std.proofs.Common.{◌≡◌, ◌∙◌, inl, List, [], ◌∷◌, ◌++◌, length, refl, ap, sym, append-nil, Bool, Option, Some, nat_le}
use Rattle.mj_ast.specs.declared.routine.LockMode.{LockMode}
use Rattle.mj_ast.specs.declared.routine.LockMode.TheVariants.{Whole, Plus as Added, Minus as Taken}
use Rattle.mj_ast.specs.declared.sign.Sign.TheVariants.{Plus, Minus, Colon, Open}
use Rattle.mj_ast.specs.declared.keyword.Verb.{Verb}
use Rattle.mj_ast.specs.Syntax.{Expr}
use Rattle.mj_ast.specs.Tokens.{Token, Word, Called, Signed}
use Rattle.mj_ast.specs.Expressions.{callee_of}
use Rattle.mj_ast.specs.Commands.{Part, Put, mode_parts}
use Rattle.mj_expr.specs.Machine.{Limits}
use Rattle.mj_lex.specs.declared.token.Lexeme.{Lexeme}
use Rattle.mj_lex.specs.Seen.{tokens_seen}
use Rattle.mj_line.specs.Forms.{LockWanted, LockSigned, LockListed, LockNamed, LockTimed, LockEnd, AVar, part_of, takes, wants}
use Rattle.mj_line.specs.Sentences.{Sentence}
use Rattle.mj_line.specs.Machine.{At, Args, args_rest, on_rested, run}
use Rattle.mj_line.proofs.Entries.{called_apart}
use Rattle.mj_cmd.specs.Heads.{HasNoOpen, HasNoPlus, HasNoMinus, HasNoColon}
use Rattle.mj_cmd.specs.Parts.{MayBeNamed, lock_node, mode_tokens}
use Rattle.mj_cmd.proofs.Follow.{Untaken, Unended, SignUntaken, SameAt, Went, went_same, went_token, untaken_by, no_sign, name_neither, piece_neither}

-- the sign in front, if there is one
pub went_mode : (limited : Bool) (m : Limits) (ls rest : List Lexeme) (mode : LockMode) (first : Bool) (o : Sentence) (condition : Option Expr) (k : Verb)
    (done : List Part) → tokens_seen ls ≡ mode_tokens mode ++ tokens_seen rest →
    Went limited (mode_parts mode) m ls (LockWanted first) rest (lock_node mode first) o condition k done
went_mode limited m ls rest Whole first o condition k done e = (
  [],
  λ l. refl,
  ap (λ (ks : List Token). run m ks (At (Args o condition k done (LockWanted first)))) e
      ∙ ap (λ (ps : List Part). run m (tokens_seen rest) (At (Args o condition k ps (LockWanted first)))) (sym (append-nil done)),
)
went_mode limited m ls rest Added first o condition k done e = went_token limited (Signed Plus) (Put Plus) m ls (LockWanted first) rest LockSigned o condition k done e refl refl
went_mode limited m ls rest Taken first o condition k done e = went_token limited (Signed Minus) (Put Minus) m ls (LockWanted first) rest LockSigned o condition k done e refl refl

wanted_sign : (first : Bool) (ks : List Token) → HasNoPlus ks → HasNoMinus ks → HasNoOpen ks → SignUntaken (LockWanted first) ks
wanted_sign first [] h i j = tt
wanted_sign first (Signed Plus ∷ ks) h i j = absurd h
wanted_sign first (Signed Minus ∷ ks) h i j = absurd i
wanted_sign first (Signed Open ∷ ks) h i j = absurd j
wanted_sign first (Signed s ∷ ks) h i j = refl
wanted_sign first (t ∷ ks) h i j = tt

signed_sign : (ks : List Token) → HasNoOpen ks → SignUntaken LockSigned ks
signed_sign [] j = tt
signed_sign (Signed Open ∷ ks) j = absurd j
signed_sign (Signed s ∷ ks) j = refl
signed_sign (t ∷ ks) j = tt

-- a variable where names are wanted
pub names_untaken : (mode : LockMode) (first : Bool) (ks : List Token) → MayBeNamed mode first ks → HasNoOpen ks → Untaken (lock_node mode first) ks
names_untaken Whole first ks h j = untaken_by (LockWanted first) ks refl (λ w. refl) refl (wanted_sign first ks h.0 h.1 j)
names_untaken Added first ks h j = untaken_by LockSigned ks refl (λ w. refl) refl (signed_sign ks j)
names_untaken Taken first ks h j = untaken_by LockSigned ks refl (λ w. refl) refl (signed_sign ks j)

pub names_unended : (mode : LockMode) (first : Bool) (ks : List Token) → MayBeNamed mode first ks → Unended (lock_node mode first) ks
names_unended Whole first ks h = h.2
names_unended Added first ks h = inl refl
names_unended Taken first ks h = inl refl

pub names_wanted : (mode : LockMode) (first : Bool) → wants (lock_node mode first) ≡ Some (AVar 0 LockNamed)
names_wanted Whole first = refl
names_wanted Added first = refl
names_wanted Taken first = refl

-- or a list
pub list_opens : (mode : LockMode) (first : Bool) → takes (lock_node mode first) (Put Open) ≡ Some LockListed
list_opens Whole first = refl
list_opens Added first = refl
list_opens Taken first = refl

pub listed_untaken : (ks : List Token) → Untaken LockListed ks
listed_untaken ks = untaken_by LockListed ks refl (λ w. refl) refl (no_sign LockListed ks (λ s. refl))

pub timed_untaken : (ks : List Token) → Untaken LockTimed ks
timed_untaken ks = untaken_by LockTimed ks refl (λ w. refl) refl (no_sign LockTimed ks (λ s. refl))

-- where no timeout follows
untimed_same : (m : Limits) (ks : List Token) → HasNoColon ks → SameAt m LockNamed LockEnd ks
untimed_same m [] i o condition k done = refl
untimed_same m (Word w ∷ ks) i o condition k done = name_neither m LockNamed LockEnd w ks o condition k done (nat_le (length w) 31) (on_rested (Some (args_rest o condition k done)) (Word w)) refl refl
untimed_same m (Called w ∷ ks) i o condition k done = piece_neither m LockNamed LockEnd w ks o condition k done (part_of (Called w))
    (on_rested (Some (args_rest o condition k done)) (Called w)) (called_apart LockNamed (callee_of w) (nat_le (length w) 31) refl)
    (called_apart LockEnd (callee_of w) (nat_le (length w) 31) refl)
untimed_same m (Signed Colon ∷ ks) i o condition k done = absurd i
untimed_same m (Signed s ∷ ks) i o condition k done = refl
untimed_same m (t ∷ ks) i o condition k done = refl

pub went_untimed : (limited : Bool) (m : Limits) (ls : List Lexeme) (o : Sentence) (condition : Option Expr) (k : Verb) (done : List Part) →
    HasNoColon (tokens_seen ls) → Went limited [] m ls LockNamed ls LockEnd o condition k done
went_untimed limited m ls o condition k done h = went_same limited m LockNamed LockEnd ls o condition k done (untimed_same m (tokens_seen ls) h)
