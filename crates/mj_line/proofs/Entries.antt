-- Where a phrase may begin no other token is taken that begins one, and each place has a way to the end of the arguments.
use Rattle.std.proofs.Common.{◌≡◌, ℕ, zero, suc, ◌≤◌, nat_le, List, [], ◌∷◌, length, refl, ap, sym, ◌∙◌, subst, Bool, true, false, arith, Option, Some, None, ◌⊎◌, inl, inr, lit≤}
use Rattle.std.specs.Prelude.{cond}
use Rattle.std.specs.Fmt.{digits}
use Rattle.mj_ast.specs.declared.sign.Sign.{Sign}
use Rattle.mj_ast.specs.declared.sign.Sign.TheVariants.{Plus, Minus, Star, Hash, Equals, Comma, Colon, Exclamation, Question, Open, Close}
use Rattle.mj_ast.specs.declared.expr.Scope.TheVariants.{Local}
use Rattle.mj_ast.specs.declared.function.Function.TheVariants.{Piece}
use Rattle.mj_ast.specs.declared.function.Callee.{Callee}
use Rattle.mj_ast.specs.declared.function.Callee.TheVariants as callee
use Rattle.mj_ast.specs.Syntax.{Expr, Chain, Done, Literal, Variable, Var, No}
use Rattle.mj_ast.specs.Tokens.{Token, Word, Called, Digits, Quoted, Signed}
use Rattle.mj_ast.specs.Expressions.{Constant, Other, symbol, function_symbol, callee_of, Overlong, Mark, Spells, expressions}
use Rattle.mj_ast.specs.Commands.{Part, Put, Named, Label, SerialWord, PieceCall, Text, Place, Control, SpellsParts, greatest, part_nesting, part_width}
use Rattle.mj_expr.specs.Machine as phrase
use Rattle.mj_line.specs.Forms.{Mode, Starts, Node, SetTarget, PieceOpens, PieceVariable, PieceComma, PieceText, PieceBehind, SetBehind, SetValue, SetEnd, Writes, Reads, OutputWanted, OutputEnd, MarksEnd, ColumnWanted, CodeWanted, IntoWanted, IntoEnd, IntoTimed, DeviceWanted, DeviceEnd, DeviceColon, DeviceTimed, DeviceWaited, KillWanted, NameWanted, NameBehind, KillEnd, MergeInto, MergeBehind, MergeFrom, MergeEnd, ValueWanted, ValueEnd, ForWanted, ForBehind, RangeWanted, RangeEnd, StepWanted, StepEnd, LimitWanted, LimitEnd, NewWanted, KeptWanted, KeptBehind, NewEnd, EntryWanted, LabelEnd, RoutineWanted, RoutineEnd, ActualWanted, ActualEnd, ActualsEnd, WaitColon, GuardWanted, GuardEnd, LockWanted, LockSigned, LockListed, LockBehind, LockNamed, LockTimed, LockEnd, RestartWanted, RestoredOpens, RestoredWanted, RestoredBehind, RestoredEnd, SerialWanted, SerialInside, SerialBehind, SerialEnd, Sort, Names, Labels, Want, AnExpr, AVar, ALocal, piece_part, part_of, part_at, sort_of, takes, wants, ends, PartsFit, ResultWanted, ResultEnd}
use Rattle.mj_line.specs.Machine.{wanted}
use Rattle.mj_line.proofs.Tables.{some_same, Alone, token_goes, token_nesting, token_width, unlabelled}

-- ---- where a phrase may begin, no other token is taken that begins one

abbrev pub part_taken : Node → Option Part → Option Node
part_taken n (Some p) = takes n p
part_taken n None = None

abbrev IsApart : phrase.Limits → Node → Token → Option Want → Type 0
IsApart m n t None = Unit {0}
IsApart m n t (Some w) = (phrase.step m (wanted w) (symbol t) ≡ phrase.Stuck) ⊎ (part_taken n (part_of t) ≡ None)

pub word_apart : (n : Node) (w : List ℕ) (b : Bool) → takes n (Named w) ≡ None → part_taken n (cond b (Some (Named w)) None) ≡ None
word_apart n w true h = h
word_apart n w false h = refl

piece_apart : (n : Node) (q : Option Callee) → takes n PieceCall ≡ None → part_taken n (piece_part q) ≡ None
piece_apart n (Some (callee.Texts Piece)) h = h
piece_apart n q h = refl

pub called_apart : (n : Node) (q : Option Callee) (b : Bool) → takes n PieceCall ≡ None → part_taken n (cond b (piece_part q) None) ≡ None
called_apart n q true h = piece_apart n q h
called_apart n q false h = refl

callee_sought : (q : Option Callee) → phrase.seek phrase.AsTarget (function_symbol q) ≡ phrase.Stuck
callee_sought None = refl
callee_sought (Some c) = refl

called_sought : (q : Option Callee) (b : Bool) → phrase.seek phrase.AsTarget (cond b (function_symbol q) Overlong) ≡ phrase.Stuck
called_sought q true = callee_sought q
called_sought q false = refl

quoted_sought : (v : List ℕ) (b : Bool) → phrase.seek phrase.AsTarget (cond b (Constant v) Other) ≡ phrase.Stuck
quoted_sought v true = refl
quoted_sought v false = refl

-- a variable is wanted
abbrev SignApart : phrase.Limits → Node → Sign → Type 0
SignApart m n s = (phrase.seek phrase.AsTarget (Mark s) ≡ phrase.Stuck) ⊎ (takes n (Put s) ≡ None)

place_apart : (m : phrase.Limits) (n : Node) (l : ℕ) (next : Node) (t : Token) → ((w : List ℕ) → takes n (Named w) ≡ None) → ((s : Sign) → SignApart m n s) → IsApart m n t (Some (AVar l next))
place_apart m n l next (Word w) h i = inr (word_apart n w (nat_le (length w) 31) (h w))
place_apart m n l next (Called w) h i = inl (called_sought (callee_of w) (nat_le (length w) 31))
place_apart m n l next (Signed s) h i = i s
place_apart m n l next t h i = inr refl

local_apart : (m : phrase.Limits) (n next : Node) (t : Token) → ((w : List ℕ) → takes n (Named w) ≡ None) → ((s : Sign) → SignApart m n s) → IsApart m n t (Some (ALocal next))
local_apart m n next (Word w) h i = inr (word_apart n w (nat_le (length w) 31) (h w))
local_apart m n next (Called w) h i = inl (called_sought (callee_of w) (nat_le (length w) 31))
local_apart m n next (Signed s) h i = i s
local_apart m n next t h i = inr refl

-- an expression is wanted
abbrev WantApart : phrase.Limits → Node → Sign → Type 0
WantApart m n s = (phrase.want m (phrase.Front phrase.Alone) (Mark s) ≡ phrase.Stuck) ⊎ (takes n (Put s) ≡ None)

text_apart : (m : phrase.Limits) (n : Node) (l : ℕ) (next : Node) (t : Token) → ((w : List ℕ) → takes n (Named w) ≡ None) → takes n PieceCall ≡ None →
    ((s : Sign) → WantApart m n s) → IsApart m n t (Some (AnExpr l next))
text_apart m n l next (Word w) h j i = inr (word_apart n w (nat_le (length w) 31) (h w))
text_apart m n l next (Called w) h j i = inr (called_apart n (callee_of w) (nat_le (length w) 31) j)
text_apart m n l next (Signed s) h j i = i s
text_apart m n l next t h j i = inr refl

target_sign : (m : phrase.Limits) (listed : Bool) (s : Sign) → SignApart m (SetTarget listed) s
target_sign m listed Open = inl refl
target_sign m false s = inr refl
target_sign m true s = inr refl

kill_sign : (m : phrase.Limits) (first : Bool) (s : Sign) → SignApart m (KillWanted first) s
kill_sign m first Open = inl refl
kill_sign m first s = inr refl

output_sign : (m : phrase.Limits) (s : Sign) → WantApart m (OutputWanted Writes) s
output_sign m Exclamation = inl refl
output_sign m Hash = inl refl
output_sign m Question = inl refl
output_sign m Star = inl refl
output_sign m s = inr refl

input_sign : (m : phrase.Limits) (s : Sign) → SignApart m (OutputWanted Reads) s
input_sign m Exclamation = inl refl
input_sign m Hash = inl refl
input_sign m Question = inl refl
input_sign m Star = inl refl
input_sign m s = inr refl

actual_sign : (m : phrase.Limits) (mode : Mode) (s : Sign) → WantApart m (ActualWanted mode) s
actual_sign m mode Comma = inl refl
actual_sign m mode Close = inl refl
actual_sign m mode s = inr refl

lock_sign : (m : phrase.Limits) (first : Bool) (s : Sign) → SignApart m (LockWanted first) s
lock_sign m first Plus = inl refl
lock_sign m first Minus = inl refl
lock_sign m first Open = inl refl
lock_sign m first s = inr refl

signed_sign : (m : phrase.Limits) (s : Sign) → SignApart m LockSigned s
signed_sign m Open = inl refl
signed_sign m s = inr refl

all_apart : (m : phrase.Limits) (n : Node) (t : Token) → IsApart m n t (wants n)
all_apart m (SetTarget listed) t = place_apart m (SetTarget listed) 0 (SetBehind listed) t (λ w. refl) (target_sign m listed)
all_apart m (PieceVariable listed) t = place_apart m (PieceVariable listed) 1 (PieceComma listed) t (λ w. refl) (λ s. inr refl)
all_apart m (PieceText listed more) t = text_apart m (PieceText listed more) 1 (PieceBehind listed more) t (λ w. refl) refl (λ s. inr refl)
all_apart m SetValue t = text_apart m SetValue 0 SetEnd t (λ w. refl) refl (λ s. inr refl)
all_apart m (OutputWanted Writes) t = text_apart m (OutputWanted Writes) 0 (OutputEnd Writes) t (λ w. refl) refl (output_sign m)
all_apart m (OutputWanted Reads) t = place_apart m (OutputWanted Reads) 0 IntoEnd t (λ w. refl) (input_sign m)
all_apart m (ColumnWanted talk) t = text_apart m (ColumnWanted talk) 0 (OutputEnd talk) t (λ w. refl) refl (λ s. inr refl)
all_apart m CodeWanted t = text_apart m CodeWanted 0 (OutputEnd Writes) t (λ w. refl) refl (λ s. inr refl)
all_apart m IntoWanted t = place_apart m IntoWanted 0 IntoEnd t (λ w. refl) (λ s. inr refl)
all_apart m IntoTimed t = text_apart m IntoTimed 0 (OutputEnd Reads) t (λ w. refl) refl (λ s. inr refl)
all_apart m DeviceWanted t = text_apart m DeviceWanted 0 DeviceEnd t (λ w. refl) refl (λ s. inr refl)
all_apart m DeviceTimed t = text_apart m DeviceTimed 0 DeviceWaited t (λ w. refl) refl (λ s. inr refl)
all_apart m (KillWanted first) t = place_apart m (KillWanted first) 0 KillEnd t (λ w. refl) (kill_sign m first)
all_apart m MergeInto t = place_apart m MergeInto 0 MergeBehind t (λ w. refl) (λ s. inr refl)
all_apart m MergeFrom t = place_apart m MergeFrom 0 MergeEnd t (λ w. refl) (λ s. inr refl)
all_apart m (ValueWanted first) t = text_apart m (ValueWanted first) 0 ValueEnd t (λ w. refl) refl (λ s. inr refl)
all_apart m ResultWanted t = text_apart m ResultWanted 0 ResultEnd t (λ w. refl) refl (λ s. inr refl)
all_apart m ForWanted t = local_apart m ForWanted ForBehind t (λ w. refl) (λ s. inr refl)
all_apart m RangeWanted t = text_apart m RangeWanted 0 RangeEnd t (λ w. refl) refl (λ s. inr refl)
all_apart m StepWanted t = text_apart m StepWanted 0 StepEnd t (λ w. refl) refl (λ s. inr refl)
all_apart m LimitWanted t = text_apart m LimitWanted 0 LimitEnd t (λ w. refl) refl (λ s. inr refl)
all_apart m (ActualWanted mode) t = text_apart m (ActualWanted mode) 1 (ActualEnd mode) t (λ w. refl) refl (actual_sign m mode)
all_apart m (GuardWanted mode) t = text_apart m (GuardWanted mode) 0 (GuardEnd mode) t (λ w. refl) refl (λ s. inr refl)
all_apart m (LockWanted first) t = place_apart m (LockWanted first) 0 LockNamed t (λ w. refl) (lock_sign m first)
all_apart m LockSigned t = place_apart m LockSigned 0 LockNamed t (λ w. refl) (signed_sign m)
all_apart m LockListed t = place_apart m LockListed 0 LockBehind t (λ w. refl) (λ s. inr refl)
all_apart m LockTimed t = text_apart m LockTimed 0 LockEnd t (λ w. refl) refl (λ s. inr refl)
all_apart m n t = tt

pub apart : (m : phrase.Limits) (n : Node) (t : Token) (w : Want) → wants n ≡ Some w → (phrase.step m (wanted w) (symbol t) ≡ phrase.Stuck) ⊎ (part_taken n (part_of t) ≡ None)
apart m n t w e = let P : Option Want → Type 0 = λ q. IsApart m n t q in subst P e (all_apart m n t)

-- where a text in quotes may stand alone, and a variable may begin
label_apart : (w : List ℕ) (b : Bool) → part_taken (OutputWanted Reads) (cond b (Some (Label w)) None) ≡ None
label_apart w true = refl
label_apart w false = refl

read_apart : (m : phrase.Limits) (t : Token) → (phrase.seek phrase.AsTarget (symbol t) ≡ phrase.Stuck) ⊎ (part_taken (OutputWanted Reads) (part_at Labels t) ≡ None)
read_apart m (Word w) = inr (label_apart w (nat_le (length w) 31))
read_apart m (Digits d) = inr (label_apart d (nat_le (length d) 1048576))
read_apart m (Called w) = inl (called_sought (callee_of w) (nat_le (length w) 31))
read_apart m (Quoted v) = inl (quoted_sought v (nat_le (length v) 1048576))
read_apart m (Signed s) = input_sign m s
read_apart m t = inr refl

pub apart_at : (m : phrase.Limits) (n : Node) (t : Token) (w : Want) → wants n ≡ Some w → (phrase.step m (wanted w) (symbol t) ≡ phrase.Stuck) ⊎ (part_taken n (part_at (sort_of n) t) ≡ None)
apart_at m n t w e = by (unlabelled n w e)
  where
    by : (sort_of n ≡ Names) ⊎ (n ≡ OutputWanted Reads) → (phrase.step m (wanted w) (symbol t) ≡ phrase.Stuck) ⊎ (part_taken n (part_at (sort_of n) t) ≡ None)
    by (inl h) =
        let P : Sort → Type 0 = λ b. (phrase.step m (wanted w) (symbol t) ≡ phrase.Stuck) ⊎ (part_taken n (part_at b t) ≡ None) in
        subst P (sym h) (apart m n t w e)
    by (inr h) =
        let Q : Want → Type 0 = λ x. (phrase.step m (wanted x) (symbol t) ≡ phrase.Stuck) ⊎ (part_taken (OutputWanted Reads) (part_at Labels t) ≡ None) in
        let P : Node → Type 0 = λ x. (phrase.step m (wanted w) (symbol t) ≡ phrase.Stuck) ⊎ (part_taken x (part_at (sort_of x) t) ≡ None) in
        subst P (sym h) (subst Q (some_same (AVar 0 IntoEnd) w (ap wants (sym h) ∙ e)) (read_apart m t))

-- ---- a way to the end of the arguments

-- parts that may follow, and how they are spelled
pub record Finish (n : Node) : Type 0 where
  pub parts : List Part
  pub tokens : List Token
  pub fits : PartsFit n parts
  pub spells : SpellsParts tokens parts
  pub nests : greatest part_nesting parts ≤ 1
  pub lists : greatest part_width parts ≤ 0

-- with a part before it
token_before : (n next : Node) (t : Token) (p : Part) → takes n p ≡ Some next → Alone t p → Finish next → Finish n
token_before n next t p e a f = record {
  parts = p ∷ f.parts;
  tokens = t ∷ f.tokens;
  fits = (next, token_goes n next p a.token e, f.fits);
  spells = (t ∷ [], f.tokens, refl, a.spells, f.spells);
  nests = let i = token_nesting p a.token in let j = f.nests in omega arith;
  lists = let i = token_width p a.token in let j = f.lists in omega arith;
}

sign_before : (n next : Node) (s : Sign) → takes n (Put s) ≡ Some next → Finish next → Finish n
sign_before n next s e f = token_before n next (Signed s) (Put s) e (record { spells = refl; token = tt }) f

-- `A` and `0`
abbrev pub an_a : Variable
an_a = Var Local (65 ∷ []) No

abbrev pub a_zero : Expr
a_zero = Chain (Literal (48 ∷ [])) Done

place_before : (n next : Node) (l : ℕ) → l ≤ 1 → wants n ≡ Some (AVar l next) → Finish next → Finish n
place_before n next l i e f = record {
  parts = Place l an_a ∷ f.parts;
  tokens = Word (65 ∷ []) ∷ f.tokens;
  fits = (next, e, f.fits);
  spells = (Word (65 ∷ []) ∷ [], f.tokens, refl, (refl, refl), f.spells);
  nests = let j = f.nests in omega arith;
  lists = let j = f.lists in omega arith;
}

local_before : (n next : Node) → wants n ≡ Some (ALocal next) → Finish next → Finish n
local_before n next e f = record {
  parts = Control an_a ∷ f.parts;
  tokens = Word (65 ∷ []) ∷ f.tokens;
  fits = (next, (e, refl), f.fits);
  spells = (Word (65 ∷ []) ∷ [], f.tokens, refl, (refl, refl), f.spells);
  nests = let j = f.nests in omega arith;
  lists = let j = f.lists in omega arith;
}

pub zero_spelled : Spells expressions (Digits (48 ∷ []) ∷ []) a_zero
unfolding digits
zero_spelled = (refl, refl)

text_before : (n next : Node) (l : ℕ) → l ≤ 1 → wants n ≡ Some (AnExpr l next) → Finish next → Finish n
text_before n next l i e f = record {
  parts = Text l a_zero ∷ f.parts;
  tokens = Digits (48 ∷ []) ∷ f.tokens;
  fits = (next, e, f.fits);
  spells = (Digits (48 ∷ []) ∷ [], f.tokens, refl, zero_spelled, f.spells);
  nests = let j = f.nests in omega arith;
  lists = let j = f.lists in omega arith;
}

at_end : (n : Node) → ends n ≡ true → Finish n
at_end n e = record { parts = []; tokens = []; fits = e; spells = refl; nests = omega arith; lists = omega arith }

value_finish : Finish SetValue
value_finish = text_before SetValue SetEnd 0 (omega arith) refl (at_end SetEnd refl)

behind_finish : (listed : Bool) → Finish (SetBehind listed)
behind_finish false = sign_before (SetBehind false) SetValue Equals refl value_finish
behind_finish true = sign_before (SetBehind true) (SetBehind false) Close refl (sign_before (SetBehind false) SetValue Equals refl value_finish)

closes : (listed : Bool) (more : ℕ) → takes (PieceBehind listed more) (Put Close) ≡ Some (SetBehind listed)
closes listed zero = refl
closes listed (suc more) = refl

piece_finish : (listed : Bool) (more : ℕ) → Finish (PieceBehind listed more)
piece_finish listed more = sign_before (PieceBehind listed more) (SetBehind listed) Close (closes listed more) (behind_finish listed)

text_finish : (listed : Bool) (more : ℕ) → Finish (PieceText listed more)
text_finish listed more = text_before (PieceText listed more) (PieceBehind listed more) 1 (omega arith) refl (piece_finish listed more)

comma_finish : (listed : Bool) → Finish (PieceComma listed)
comma_finish listed = sign_before (PieceComma listed) (PieceText listed 2) Comma refl (text_finish listed 2)

variable_finish : (listed : Bool) → Finish (PieceVariable listed)
variable_finish listed = place_before (PieceVariable listed) (PieceComma listed) 1 (omega arith) refl (comma_finish listed)

kill_closes : Finish NameBehind
kill_closes = sign_before NameBehind KillEnd Close refl (at_end KillEnd refl)

from_finish : Finish MergeFrom
from_finish = place_before MergeFrom MergeEnd 0 (omega arith) refl (at_end MergeEnd refl)

into_finish : Finish MergeBehind
into_finish = sign_before MergeBehind MergeFrom Equals refl from_finish

range_finish : Finish RangeWanted
range_finish = text_before RangeWanted RangeEnd 0 (omega arith) refl (at_end RangeEnd refl)

-- `S` and `)`, and what they stand in
serial_inside : Finish SerialInside
serial_inside =
    token_before SerialInside SerialBehind (Word (83 ∷ [])) SerialWord refl (record { spells = (83 ∷ [], refl, refl); token = tt })
    (sign_before SerialBehind SerialEnd Close refl (at_end SerialEnd refl))

a_name : {n next : Node} → takes n (Named (65 ∷ [])) ≡ Some next → Finish next → Finish n
a_name {n} {next} e f = token_before n next (Word (65 ∷ [])) (Named (65 ∷ [])) e (record { spells = (refl, lit≤ tt); token = tt }) f

restored_closes : Finish RestoredBehind
restored_closes = sign_before RestoredBehind RestoredEnd Close refl (at_end RestoredEnd refl)

pub finish : (n : Node) → Finish n
finish (SetTarget listed) = place_before (SetTarget listed) (SetBehind listed) 0 (omega arith) refl (behind_finish listed)
finish (PieceOpens listed) = sign_before (PieceOpens listed) (PieceVariable listed) Open refl (variable_finish listed)
finish (PieceVariable listed) = variable_finish listed
finish (PieceComma listed) = comma_finish listed
finish (PieceText listed more) = text_finish listed more
finish (PieceBehind listed more) = piece_finish listed more
finish (SetBehind listed) = behind_finish listed
finish SetValue = value_finish
finish SetEnd = at_end SetEnd refl
finish (OutputWanted talk) = sign_before (OutputWanted talk) (MarksEnd talk) Exclamation refl (at_end (MarksEnd talk) refl)
finish (OutputEnd talk) = at_end (OutputEnd talk) refl
finish (MarksEnd talk) = at_end (MarksEnd talk) refl
finish (ColumnWanted talk) = text_before (ColumnWanted talk) (OutputEnd talk) 0 (omega arith) refl (at_end (OutputEnd talk) refl)
finish CodeWanted = text_before CodeWanted (OutputEnd Writes) 0 (omega arith) refl (at_end (OutputEnd Writes) refl)
finish IntoWanted = place_before IntoWanted IntoEnd 0 (omega arith) refl (at_end IntoEnd refl)
finish IntoEnd = at_end IntoEnd refl
finish IntoTimed = text_before IntoTimed (OutputEnd Reads) 0 (omega arith) refl (at_end (OutputEnd Reads) refl)
finish DeviceWanted = text_before DeviceWanted DeviceEnd 0 (omega arith) refl (at_end DeviceEnd refl)
finish DeviceEnd = at_end DeviceEnd refl
finish DeviceColon = sign_before DeviceColon DeviceTimed Colon refl (text_before DeviceTimed DeviceWaited 0 (omega arith) refl (at_end DeviceWaited refl))
finish DeviceTimed = text_before DeviceTimed DeviceWaited 0 (omega arith) refl (at_end DeviceWaited refl)
finish DeviceWaited = at_end DeviceWaited refl
finish (KillWanted first) = place_before (KillWanted first) KillEnd 0 (omega arith) refl (at_end KillEnd refl)
finish NameWanted = token_before NameWanted NameBehind (Word (65 ∷ [])) (Named (65 ∷ [])) refl (record { spells = (refl, lit≤ tt); token = tt }) kill_closes
finish NameBehind = kill_closes
finish KillEnd = at_end KillEnd refl
finish MergeInto = place_before MergeInto MergeBehind 0 (omega arith) refl into_finish
finish MergeBehind = into_finish
finish MergeFrom = from_finish
finish MergeEnd = at_end MergeEnd refl
finish (ValueWanted first) = text_before (ValueWanted first) ValueEnd 0 (omega arith) refl (at_end ValueEnd refl)
finish ValueEnd = at_end ValueEnd refl
finish ResultWanted = at_end ResultWanted refl
finish ResultEnd = at_end ResultEnd refl
finish ForWanted = local_before ForWanted ForBehind refl (sign_before ForBehind RangeWanted Equals refl range_finish)
finish ForBehind = sign_before ForBehind RangeWanted Equals refl range_finish
finish RangeWanted = range_finish
finish RangeEnd = at_end RangeEnd refl
finish StepWanted = text_before StepWanted StepEnd 0 (omega arith) refl (at_end StepEnd refl)
finish StepEnd = at_end StepEnd refl
finish LimitWanted = text_before LimitWanted LimitEnd 0 (omega arith) refl (at_end LimitEnd refl)
finish LimitEnd = at_end LimitEnd refl
finish (NewWanted first) = token_before (NewWanted first) NewEnd (Word (65 ∷ [])) (Named (65 ∷ [])) refl (record { spells = (refl, lit≤ tt); token = tt }) (at_end NewEnd refl)
finish KeptWanted = token_before KeptWanted KeptBehind (Word (65 ∷ [])) (Named (65 ∷ [])) refl (record { spells = (refl, lit≤ tt); token = tt })
    (sign_before KeptBehind NewEnd Close refl (at_end NewEnd refl))
finish KeptBehind = sign_before KeptBehind NewEnd Close refl (at_end NewEnd refl)
finish NewEnd = at_end NewEnd refl
finish (EntryWanted mode first) = token_before (EntryWanted mode first) (LabelEnd mode) (Word (65 ∷ [])) (Label (65 ∷ [])) refl
    (record { spells = inl (refl, lit≤ tt); token = tt }) (at_end (LabelEnd mode) refl)
finish (LabelEnd mode) = at_end (LabelEnd mode) refl
finish (RoutineWanted mode) = token_before (RoutineWanted mode) (RoutineEnd mode) (Word (65 ∷ [])) (Named (65 ∷ [])) refl
    (record { spells = (refl, lit≤ tt); token = tt }) (at_end (RoutineEnd mode) refl)
finish (RoutineEnd mode) = at_end (RoutineEnd mode) refl
finish (ActualWanted mode) = sign_before (ActualWanted mode) (ActualsEnd mode) Close refl (at_end (ActualsEnd mode) refl)
finish (ActualEnd mode) = sign_before (ActualEnd mode) (ActualsEnd mode) Close refl (at_end (ActualsEnd mode) refl)
finish (ActualsEnd mode) = at_end (ActualsEnd mode) refl
finish WaitColon = sign_before WaitColon (GuardWanted Starts) Colon refl (text_before (GuardWanted Starts) (GuardEnd Starts) 0 (omega arith) refl (at_end (GuardEnd Starts) refl))
finish (GuardWanted mode) = text_before (GuardWanted mode) (GuardEnd mode) 0 (omega arith) refl (at_end (GuardEnd mode) refl)
finish (GuardEnd mode) = at_end (GuardEnd mode) refl
finish (LockWanted first) = place_before (LockWanted first) LockNamed 0 (omega arith) refl (at_end LockNamed refl)
finish LockSigned = place_before LockSigned LockNamed 0 (omega arith) refl (at_end LockNamed refl)
finish LockListed = place_before LockListed LockBehind 0 (omega arith) refl (sign_before LockBehind LockNamed Close refl (at_end LockNamed refl))
finish LockBehind = sign_before LockBehind LockNamed Close refl (at_end LockNamed refl)
finish LockNamed = at_end LockNamed refl
finish LockTimed = text_before LockTimed LockEnd 0 (omega arith) refl (at_end LockEnd refl)
finish LockEnd = at_end LockEnd refl
finish RestartWanted = at_end RestartWanted refl
finish RestoredOpens = sign_before RestoredOpens RestoredEnd Close refl (at_end RestoredEnd refl)
finish RestoredWanted = a_name refl restored_closes
finish RestoredBehind = restored_closes
finish RestoredEnd = at_end RestoredEnd refl
finish SerialWanted = sign_before SerialWanted SerialInside Open refl serial_inside
finish SerialInside = serial_inside
finish SerialBehind = sign_before SerialBehind SerialEnd Close refl (at_end SerialEnd refl)
finish SerialEnd = at_end SerialEnd refl
