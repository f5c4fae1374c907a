-- What a phrase may begin with: a local has no `^` in front.
use Rattle.std.proofs.Common.{◌≡◌, ℕ, List, ◌∷◌, length, refl, Bool, true, false, Option, Some, None, Result, Ok, Err, nat_le, ℤ}
use Rattle.std.specs.Prelude.{cond}
use Rattle.mj_text.specs.declared.fault.Fault.{Fault}
use Rattle.mj_num.specs.Number.{reading}
use Rattle.mj_ast.specs.declared.sign.Sign.TheVariants.{Caret}
use Rattle.mj_ast.specs.declared.function.Callee.{Callee}
use Rattle.mj_ast.specs.declared.function.Special as special
use Rattle.mj_ast.specs.Tokens.{Token, Word, Called, Special, Invoked, Numbered, Digits, Quoted, Signed}
use Rattle.mj_ast.specs.Expressions.{symbol, Symbol, Constant, Name, Entry, Overlong, Other, constant_of, function_symbol, special_symbol, special_of, callee_of}
use Rattle.mj_line.specs.Forms.{Node, Want, AnExpr, AVar, ALocal}
use Rattle.mj_line.specs.Machine.{may_want}
use Rattle.mj_cmd.specs.Heads.{HasNoCaret}

-- a local begins without a `^`
abbrev pub MayEnter : Want → List Token → Type 0
MayEnter (ALocal next) ks = HasNoCaret ks
MayEnter x ks = Unit {0}

short_may : (next : Node) (b : Bool) (s : Symbol) → may_want (ALocal next) s ≡ true → may_want (ALocal next) (cond b s Overlong) ≡ true
short_may next true s h = h
short_may next false s h = refl

function_may : (next : Node) (q : Option Callee) → may_want (ALocal next) (function_symbol q) ≡ true
function_may next (Some f) = refl
function_may next None = refl

special_may : (next : Node) (q : Option special.Special) → may_want (ALocal next) (special_symbol q) ≡ true
special_may next (Some v) = refl
special_may next None = refl

number_may : (next : Node) (r : Result ℤ Fault) → may_want (ALocal next) (constant_of r) ≡ true
number_may next (Ok z) = refl
number_may next (Err e) = refl

quoted_may : (next : Node) (b : Bool) (q : List ℕ) → may_want (ALocal next) (cond b (Constant q) Other) ≡ true
quoted_may next true q = refl
quoted_may next false q = refl

entry_may : (next : Node) (b : Bool) (d : List ℕ) → may_want (ALocal next) (cond b (Entry (Some d)) Other) ≡ true
entry_may next true d = refl
entry_may next false d = refl

local_may : (next : Node) (t : Token) (ks : List Token) → HasNoCaret (t ∷ ks) → may_want (ALocal next) (symbol t) ≡ true
local_may next (Signed Caret) ks h = absurd h
local_may next (Signed s) ks h = refl
local_may next (Word w) ks h = short_may next (nat_le (length w) 31) (Name w) refl
local_may next (Called w) ks h = short_may next (nat_le (length w) 31) (function_symbol (callee_of w)) (function_may next (callee_of w))
local_may next (Special w) ks h = short_may next (nat_le (length w) 31) (special_symbol (special_of w)) (special_may next (special_of w))
local_may next (Invoked w) ks h = short_may next (nat_le (length w) 31) (Entry (Some w)) refl
local_may next (Numbered d) ks h = entry_may next (nat_le (length d) 1048576) d
local_may next (Digits d) ks h = number_may next (reading d)
local_may next (Quoted q) ks h = quoted_may next (nat_le (length q) 1048576) q
local_may next t ks h = refl

pub may_enter : (x : Want) (t : Token) (ks : List Token) → MayEnter x (t ∷ ks) → may_want x (symbol t) ≡ true
may_enter (AnExpr lv next) t ks h = refl
may_enter (AVar lv next) t ks h = refl
may_enter (ALocal next) t ks h = local_may next t ks h
