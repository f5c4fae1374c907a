-- Runs of the machine, and those of its shapes.
use Rattle.std.proofs.Common.{◌≡◌, ℕ, ◌+◌, ◌<◌, ◌≤◌, List, [], ◌∷◌, ◌++◌, append_assoc, length, refl, ap, sym, ◌∙◌, subst, Bool, true, false, Some, None, Result, Ok, Err, arith}
use Rattle.std.specs.Prelude.{cond, ◌&&◌}
use Rattle.mj_ast.specs.Syntax.{Expr, Chain, Operand, Value, Tails, Variable, Var, No, Extrinsic, NoActual}
use Rattle.mj_ast.specs.Tokens.{Token}
use Rattle.mj_ast.specs.Expressions.{Symbol}
use Rattle.mj_lex.specs.declared.token.Lexeme.{Lexeme}
use Rattle.mj_expr.specs.Machine.{Outer, Alone, InGroup, InList, InOther, InCondition, InChoice, InActuals, Subscripts, Within, Front, Right, Under, Place, AsOperand, AsNamed, AsTarget, State, Wanted, Sought, Marked, Named, Entering, Routed, Calling, Behind, Held, Got, entry_at, filled, placed, outer_of, Limits, Next, Go, Stuck, Deep, Long, on, step, Phrase, Whole, Target, Outcome, Accept, TooLong, refused, ends, finish, run, goes}
use Rattle.mj_expr.specs.Reads.{symbols_seen}
use Rattle.mj_expr.specs.declared.stop.ParseError.{ParseError}
use Rattle.mj_expr.specs.declared.stop.ParseError.TheVariants as stop
use Rattle.mj_expr.specs.declared.beyond.Around.{Around}
use Rattle.mj_expr.specs.declared.beyond.Around.TheVariants as around
use Rattle.mj_expr.specs.declared.beyond.Stage.{Stage}
use Rattle.mj_expr.specs.declared.beyond.Stage.TheVariants as stage
use Rattle.mj_expr.specs.Shapes.{Shape, outer_shape, shape_of, place_shape, state_shape, stage_of, wanted_stage, may_end, is_last, Passed, Passes, Halts, ended, Led, on_from, pass, PassesAs, IsEndOf, MachineEnds}
use Rattle.mj_expr.proofs.Facts.{filled_outer}
use Rattle.mj_expr.proofs.Shapes.{state_depth, outer_whole, whole_of, place_whole, state_whole, IsSound, outer_same, outer_kept, Follows, led_from, follows}

-- ---- runs

-- a phrase of this kind
abbrev pub IsOf : Bool → Phrase → Type 0
IsOf true (Whole e) = Unit {0}
IsOf true (Target v) = ⊥
IsOf false (Whole e) = ⊥
IsOf false (Target v) = Unit {0}

-- what was passed is what was read, without its tree
abbrev pub Agrees : Bool → Passed → Outcome → Type 0
Agrees whole (Passes rest) o = (p : Phrase) × IsOf whole p × (o ≡ Accept p rest)
Agrees whole (Halts x) o = o ≡ x

held_ends : (x : Operand) (r : Tails) (o : Outer) (ks : List Symbol) → Agrees (outer_whole o) (ended stage.Behind (outer_shape o).around ks) (ends (Held x r o) ks)
held_ends x r Alone ks = (Whole (Chain x r), tt, refl)
held_ends x r (InGroup c) ks = refl
held_ends x r (InList w before) ks = refl
held_ends x r (InOther f v c) ks = refl
held_ends x r (InCondition before c) ks = refl
held_ends x r (InChoice before a c) ks = refl
held_ends x r (InActuals t before c) ks = refl

-- behind an operand, where a phrase may end
filled_ends : (g : Stage) (x : Operand) (c : Within) (ks : List Symbol) → may_end g ≡ true → Agrees (whole_of c) (ended g (shape_of c).around ks) (ends (filled x c) ks)
filled_ends g x c ks may =
    let f = filled_outer x c in
    let end : Bool → Around → Passed = λ b a. cond (b && is_last a) (Passes ks) (Halts (refused ks)) in
    let P : State → Type 0 = λ s. Agrees (whole_of c) (ended g (shape_of c).around ks) (ends s ks) in
    let Q : Shape → Type 0 = λ a. Agrees (whole_of c) (ended g a.around ks) (ends (Held f.0 f.1 (outer_of c)) ks) in
    let R : Bool → Type 0 = λ b. Agrees b (ended g (outer_shape (outer_of c)).around ks) (ends (Held f.0 f.1 (outer_of c)) ks) in
    let S : Bool → Type 0 = λ b. Agrees (outer_whole (outer_of c)) (end b (outer_shape (outer_of c)).around) (ends (Held f.0 f.1 (outer_of c)) ks) in
    subst P (sym f.2) (subst Q (sym (outer_same c)) (subst R (outer_kept c) (subst S (sym may) (held_ends f.0 f.1 (outer_of c) ks))))

named_ends : (v : Variable) (p : Place) (ks : List Symbol) → Agrees (place_whole p) (ended stage.Subscripts (place_shape p).around ks) (ends (placed v p) ks)
named_ends v (AsOperand c) ks = filled_ends stage.Subscripts (Value v) c ks refl
named_ends v (AsNamed f c) ks = refl
named_ends v AsTarget ks = (Target v, tt, refl)

wanted_ends : (c : Within) (ks : List Symbol) → Agrees (whole_of c) (ended (wanted_stage c) (shape_of c).around ks) (refused ks)
wanted_ends (Front (InActuals t es c)) ks = refl
wanted_ends (Front Alone) ks = refl
wanted_ends (Front (InGroup c)) ks = refl
wanted_ends (Front (InList u es)) ks = refl
wanted_ends (Front (InOther f v c)) ks = refl
wanted_ends (Front (InCondition ps c)) ks = refl
wanted_ends (Front (InChoice ps a c)) ks = refl
wanted_ends (Right x r op o) ks = refl
wanted_ends (Under op c) ks = refl

state_ends : (s : State) (ks : List Symbol) → Agrees (state_whole s) (ended (stage_of s) (state_shape s).around ks) (finish s ks)
state_ends (Wanted c) ks = wanted_ends c ks
state_ends (Sought p) ks = refl
state_ends (Marked p) ks = refl
state_ends (Named scope word p) ks = named_ends (Var scope word No) p ks
state_ends (Entering None None c) ks = refl
state_ends (Entering (Some l) None c) ks = filled_ends stage.Label (Extrinsic (entry_at (Some l) None) NoActual) c ks refl
state_ends (Entering None (Some n) c) ks = filled_ends stage.Actuals (Extrinsic (entry_at None (Some n)) NoActual) c ks refl
state_ends (Entering (Some l) (Some n) c) ks = filled_ends stage.Actuals (Extrinsic (entry_at (Some l) (Some n)) NoActual) c ks refl
state_ends (Routed label c) ks = refl
state_ends (Calling f c) ks = refl
state_ends (Behind f v c) ks = refl
state_ends (Held x r o) ks = held_ends x r o ks
state_ends (Got v) ks = (Target v, tt, refl)

-- what is passed from a state on
abbrev pub passed_from : State → List Symbol → Passed
passed_from s ks = pass ks (stage_of s) (state_shape s).around (state_shape s).others

goes_as : (m : Limits) (ks : List Symbol) (d left : ℕ) (whole : Bool) (out : Outcome) (end : Passed) (n : Next) (l : Led) → Agrees whole end out →
    ((t : State) → state_depth t ≤ d + 1 → IsSound t → Agrees (state_whole t) (passed_from t ks) (run m ks t)) → Follows d whole n l →
    Agrees whole (on_from (pass ks) end l) (goes (run m ks) out left n)
goes_as m ks d left whole out end (Go t) l a h f =
    let P : Led → Type 0 = λ x. Agrees whole (on_from (pass ks) end x) (run m ks t) in
    let Q : Bool → Type 0 = λ b. Agrees b (passed_from t ks) (run m ks t) in
    subst P (sym f.0) (subst Q f.2 (h t f.1 f.3))
goes_as m ks d left whole out end Stuck l a h f = let P : Led → Type 0 = λ x. Agrees whole (on_from (pass ks) end x) out in subst P (sym f) a
goes_as m ks d left whole out end Deep l a h f = absurd f
goes_as m ks d left whole out end Long l a h f = let P : Led → Type 0 = λ x. Agrees whole (on_from (pass ks) end x) TooLong in subst P (sym f) refl

pub passed : (ks : List Symbol) (m : Limits) (s : State) → m.width ≡ 31 → state_depth s + length ks + 1 ≤ m.depth → IsSound s → Agrees (state_whole s) (passed_from s ks) (run m ks s)
passed [] m s e i g = state_ends s []
passed (k ∷ ks) m s e i g =
    goes_as m ks (state_depth s) (length (k ∷ ks)) (state_whole s) (finish s (k ∷ ks)) (ended (stage_of s) (state_shape s).around (k ∷ ks)) (step m s k) (led_from s k)
    (state_ends s (k ∷ ks)) (λ t h z. passed ks m t e (omega arith) z) (follows m s k e (omega arith) g)

-- ---- what a call returns

whole_ends : {X : Type 0} (rest : X → List Lexeme) (r : Result X ParseError) (p : Passed) (o : Outcome) → PassesAs rest r p → Agrees true p o → MachineEnds Whole rest r o
whole_ends rest (Ok x) p o h a = let P : Passed → Type 0 = λ q. Agrees true q o in of_whole (subst P h a)
  where
    of_whole : {ks : List Symbol} → Agrees true (Passes ks) o → (e : Expr) × (o ≡ Accept (Whole e) ks)
    of_whole (Whole e, i, f) = (e, f)
    of_whole (Target v, i, f) = absurd i
whole_ends rest (Err stop.Memory) p o h a = tt
whole_ends rest (Err (stop.Stuck n)) p o h a = let P : Passed → Type 0 = λ q. Agrees true q o in subst P h a
whole_ends rest (Err (stop.Deep n)) p o h a = absurd h
whole_ends rest (Err stop.Long) p o h a = let P : Passed → Type 0 = λ q. Agrees true q o in subst P h a

target_ends : {X : Type 0} (rest : X → List Lexeme) (r : Result X ParseError) (p : Passed) (o : Outcome) → PassesAs rest r p → Agrees false p o → MachineEnds Target rest r o
target_ends rest (Ok x) p o h a = let P : Passed → Type 0 = λ q. Agrees false q o in of_target (subst P h a)
  where
    of_target : {ks : List Symbol} → Agrees false (Passes ks) o → (v : Variable) × (o ≡ Accept (Target v) ks)
    of_target (Whole e, i, f) = absurd i
    of_target (Target v, i, f) = (v, f)
target_ends rest (Err stop.Memory) p o h a = tt
target_ends rest (Err (stop.Stuck n)) p o h a = let P : Passed → Type 0 = λ q. Agrees false q o in subst P h a
target_ends rest (Err (stop.Deep n)) p o h a = absurd h
target_ends rest (Err stop.Long) p o h a = let P : Passed → Type 0 = λ q. Agrees false q o in subst P h a

-- one token less, and again
pub end_next : (ks ms : List Token) → (k : Token) × (ks ≡ k ∷ ms) → IsEndOf ks ms
end_next ks ms h = (h.0 ∷ [], h.1)

pub end_more : (ks ms ns : List Token) → IsEndOf ks ms → (k : Token) × (ms ≡ k ∷ ns) → IsEndOf ks ns
end_more ks ms ns e h = (e.0 ++ h.0 ∷ [], e.1 ∙ ap (λ (zs : List Token). e.0 ++ zs) h.1 ∙ sym (append_assoc e.0 (h.0 ∷ []) ns))

pub seen_length : (ls : List Lexeme) → length (symbols_seen ls) ≡ length ls
seen_length [] = refl
seen_length (l ∷ ls) = let h = seen_length ls in omega arith

pub ends_whole : {X : Type 0} (rest : X → List Lexeme) (r : Result X ParseError) (ls : List Lexeme) (m : Limits) → m.width ≡ 31 → length ls < m.depth →
    PassesAs rest r (pass (symbols_seen ls) stage.Operand around.Alone []) → MachineEnds Whole rest r (run m (symbols_seen ls) (Wanted (Front Alone)))
ends_whole rest r ls m e i h =
    let ks = symbols_seen ls in
    let n = seen_length ls in
    whole_ends rest r (pass ks stage.Operand around.Alone []) (run m ks (Wanted (Front Alone))) h (passed ks m (Wanted (Front Alone)) e (omega arith) tt)

pub ends_target : {X : Type 0} (rest : X → List Lexeme) (r : Result X ParseError) (ls : List Lexeme) (m : Limits) → m.width ≡ 31 → length ls < m.depth →
    PassesAs rest r (pass (symbols_seen ls) stage.Variable around.Target []) → MachineEnds Target rest r (run m (symbols_seen ls) (Sought AsTarget))
ends_target rest r ls m e i h =
    let ks = symbols_seen ls in
    let n = seen_length ls in
    target_ends rest r (pass ks stage.Variable around.Target []) (run m ks (Sought AsTarget)) h (passed ks m (Sought AsTarget) e (omega arith) tt)
