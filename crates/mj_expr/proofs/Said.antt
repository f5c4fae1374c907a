-- What a run says of the tokens, in the grammar's words.
use Rattle.std.proofs.Common.{◌≡◌, ℕ, ◌+◌, ◌-◌, ◌≤◌, ◌<◌, max, List, [], ◌∷◌, ◌++◌, length, take, drop, refl, ap, sym, ◌∙◌, subst, append_assoc, append-nil, arith, map, ◌⊎◌, inl, inr, nat_le, Option, Some, None, Bool, true, false, length-append}
use Rattle.std.specs.Prelude.{cond, Result, Ok, Err, ℤ}
use Rattle.std.proofs.Math.Seq.{drop-append_seam, take-length}
use Rattle.std.specs.Result.{IfErr, IsErrAnd}
use Rattle.std.proofs.lemmas.List.{map-append, length-map, length-drop, drop-map}
use Rattle.std.proofs.lemmas.Bool.Decides.{nat_tests}
use Rattle.mj_num.specs.Number.{reading}
use Rattle.mj_text.specs.declared.fault.Fault.{Fault}
use Rattle.mj_text.specs.declared.text.TheConstants.{TEXT_LIMIT}
use Rattle.mj_ast.specs.declared.sign.Sign.{Sign}
use Rattle.mj_ast.specs.declared.sign.Sign.TheVariants.{Comma}
use Rattle.mj_ast.specs.Syntax.{Chain, Extrinsic, Var, No, NoActual}
use Rattle.mj_ast.specs.Tokens.{Token, Word, Called, Special, Invoked, Numbered, Dollars, Digits, Quoted, Signed, Blank, Comment, Unclosed, Stray}
use Rattle.mj_ast.specs.declared.function.Callee.{Callee}
use Rattle.mj_ast.specs.declared.function.Special as special
use Rattle.mj_ast.specs.Expressions.{Symbol, Constant, Inherent, Name, Applied, Entry, Overlong, Mark, Other, symbol, constant_of, function_symbol, callee_of, special_symbol, special_of, levels_of, width_limit, Phrases, Spells, BeginsPhrase, BeginsWithin}
use Rattle.mj_expr.specs.Machine.{Alone, InGroup, InList, InOther, InCondition, InChoice, InActuals, State, Wanted, Sought, Marked, Named, Entering, Routed, Calling, Behind, Held, Got, filled, placed, entry_at, Limits, Stuck, Phrase, Whole, Target, Outcome, Accept, StuckAt, DeepAt, TooLong, refused, ends, finish, step, run, turn}
use Rattle.mj_expr.specs.Phrases.{IsRead, IsShort, IsStuck, IsDeep, IsOverlong, IsLong, IsPhraseRefused}
use Rattle.mj_expr.specs.Reads.{limits, symbols_seen, Refuses}
use Rattle.mj_expr.specs.declared.stop.ParseError.{ParseError}
use Rattle.mj_expr.specs.declared.stop.ParseError.TheVariants as stop
use Rattle.mj_lex.specs.Seen.{token_seen, tokens_seen}
use Rattle.mj_lex.specs.declared.token.Lexeme.{Lexeme}
use Rattle.mj_expr.proofs.Zipper.{Kind, AnExpression, AVariable, phrase_symbols, phrase_nesting, phrase_width, phrase_misfits, start}
use Rattle.mj_expr.proofs.Room.{HasRead}
use Rattle.mj_expr.proofs.Complete.{Ceases, complete_phrase}
use Rattle.mj_expr.proofs.Facts.{IsMore, deeper, wider}
use Rattle.mj_expr.proofs.Ends.{Stops, Halts, EndsDeep, EndsLong, EndsAs, run_ends}
use Rattle.mj_expr.proofs.Told.{split, read_goes, start_read, accepts, accept_phrase, cons_nil, head_same, tail_same, Wraps}

ceases_none : (K : Kind) → Ceases K []
ceases_none AnExpression = ((tt, tt), tt)
ceases_none AVariable = tt

-- ---- how a state refuses

refused_stuck : (ks : List Symbol) (n : ℕ) → refused ks ≡ StuckAt n → length ks ≡ n
refused_stuck [] n e = cc
refused_stuck (Overlong ∷ ks) n e = absurd (let f : TooLong ≡ StuckAt n = e in cc)
refused_stuck (Constant v ∷ ks) n e = cc
refused_stuck (Inherent v ∷ ks) n e = cc
refused_stuck (Name w ∷ ks) n e = cc
refused_stuck (Applied f ∷ ks) n e = cc
refused_stuck (Entry l ∷ ks) n e = cc
refused_stuck (Mark s ∷ ks) n e = cc
refused_stuck (Other ∷ ks) n e = cc

ends_stuck : (s : State) (ks : List Symbol) (n : ℕ) → ends s ks ≡ StuckAt n → length ks ≡ n
ends_stuck (Wanted c) ks n e = refused_stuck ks n e
ends_stuck (Sought p) ks n e = refused_stuck ks n e
ends_stuck (Marked p) ks n e = refused_stuck ks n e
ends_stuck (Named scope word p) ks n e = refused_stuck ks n e
ends_stuck (Held x r Alone) ks n e = absurd (let f : Accept (Whole (Chain x r)) ks ≡ StuckAt n = e in cc)
ends_stuck (Held x r (InGroup c)) ks n e = refused_stuck ks n e
ends_stuck (Held x r (InList u es)) ks n e = refused_stuck ks n e
ends_stuck (Held x r (InOther f v c)) ks n e = refused_stuck ks n e
ends_stuck (Held x r (InCondition ps c)) ks n e = refused_stuck ks n e
ends_stuck (Held x r (InChoice ps a c)) ks n e = refused_stuck ks n e
ends_stuck (Held x r (InActuals t es c)) ks n e = refused_stuck ks n e
ends_stuck (Entering label routine c) ks n e = refused_stuck ks n e
ends_stuck (Routed label c) ks n e = refused_stuck ks n e
ends_stuck (Calling f c) ks n e = refused_stuck ks n e
ends_stuck (Behind f v c) ks n e = refused_stuck ks n e
ends_stuck (Got v) ks n e = absurd (let f : Accept (Target v) ks ≡ StuckAt n = e in cc)

pub finish_stuck : (s : State) (ks : List Symbol) (n : ℕ) → finish s ks ≡ StuckAt n → length ks ≡ n
finish_stuck (Wanted c) ks n e = refused_stuck ks n e
finish_stuck (Sought p) ks n e = refused_stuck ks n e
finish_stuck (Marked p) ks n e = refused_stuck ks n e
finish_stuck (Named scope word p) ks n e = ends_stuck (placed (Var scope word No) p) ks n e
finish_stuck (Entering None None c) ks n e = refused_stuck ks n e
finish_stuck (Entering (Some l) routine c) ks n e = ends_stuck (filled (Extrinsic (entry_at (Some l) routine) NoActual) c) ks n e
finish_stuck (Entering None (Some r) c) ks n e = ends_stuck (filled (Extrinsic (entry_at None (Some r)) NoActual) c) ks n e
finish_stuck (Routed label c) ks n e = refused_stuck ks n e
finish_stuck (Calling f c) ks n e = refused_stuck ks n e
finish_stuck (Behind f v c) ks n e = refused_stuck ks n e
finish_stuck (Held x r o) ks n e = ends_stuck (Held x r o) ks n e
finish_stuck (Got v) ks n e = ends_stuck (Got v) ks n e

refused_long : (ks : List Symbol) → refused ks ≡ TooLong → (y : List Symbol) × (ks ≡ Overlong ∷ y)
refused_long [] e = absurd (let f : StuckAt 0 ≡ TooLong = e in cc)
refused_long (Overlong ∷ ks) e = (ks, refl)
refused_long (Constant v ∷ ks) e = absurd (let f : StuckAt (length (Constant v ∷ ks)) ≡ TooLong = e in cc)
refused_long (Inherent v ∷ ks) e = absurd (let f : StuckAt (length (Inherent v ∷ ks)) ≡ TooLong = e in cc)
refused_long (Name w ∷ ks) e = absurd (let f : StuckAt (length (Name w ∷ ks)) ≡ TooLong = e in cc)
refused_long (Applied g ∷ ks) e = absurd (let f : StuckAt (length (Applied g ∷ ks)) ≡ TooLong = e in cc)
refused_long (Entry l ∷ ks) e = absurd (let f : StuckAt (length (Entry l ∷ ks)) ≡ TooLong = e in cc)
refused_long (Mark s ∷ ks) e = absurd (let f : StuckAt (length (Mark s ∷ ks)) ≡ TooLong = e in cc)
refused_long (Other ∷ ks) e = absurd (let f : StuckAt (length (Other ∷ ks)) ≡ TooLong = e in cc)

ends_long : (s : State) (ks : List Symbol) → ends s ks ≡ TooLong → (y : List Symbol) × (ks ≡ Overlong ∷ y)
ends_long (Wanted c) ks e = refused_long ks e
ends_long (Sought p) ks e = refused_long ks e
ends_long (Marked p) ks e = refused_long ks e
ends_long (Named scope word p) ks e = refused_long ks e
ends_long (Held x r Alone) ks e = absurd (let f : Accept (Whole (Chain x r)) ks ≡ TooLong = e in cc)
ends_long (Held x r (InGroup c)) ks e = refused_long ks e
ends_long (Held x r (InList u es)) ks e = refused_long ks e
ends_long (Held x r (InOther f v c)) ks e = refused_long ks e
ends_long (Held x r (InCondition ps c)) ks e = refused_long ks e
ends_long (Held x r (InChoice ps a c)) ks e = refused_long ks e
ends_long (Held x r (InActuals t es c)) ks e = refused_long ks e
ends_long (Entering label routine c) ks e = refused_long ks e
ends_long (Routed label c) ks e = refused_long ks e
ends_long (Calling f c) ks e = refused_long ks e
ends_long (Behind f v c) ks e = refused_long ks e
ends_long (Got v) ks e = absurd (let f : Accept (Target v) ks ≡ TooLong = e in cc)

pub finish_long : (s : State) (ks : List Symbol) → finish s ks ≡ TooLong → (y : List Symbol) × (ks ≡ Overlong ∷ y)
finish_long (Wanted c) ks e = refused_long ks e
finish_long (Sought p) ks e = refused_long ks e
finish_long (Marked p) ks e = refused_long ks e
finish_long (Named scope word p) ks e = ends_long (placed (Var scope word No) p) ks e
finish_long (Entering None None c) ks e = refused_long ks e
finish_long (Entering (Some l) routine c) ks e = ends_long (filled (Extrinsic (entry_at (Some l) routine) NoActual) c) ks e
finish_long (Entering None (Some r) c) ks e = ends_long (filled (Extrinsic (entry_at None (Some r)) NoActual) c) ks e
finish_long (Routed label c) ks e = refused_long ks e
finish_long (Calling f c) ks e = refused_long ks e
finish_long (Behind f v c) ks e = refused_long ks e
finish_long (Held x r o) ks e = ends_long (Held x r o) ks e
finish_long (Got v) ks e = ends_long (Got v) ks e

overlong_refused : (ks : List Symbol) (n : ℕ) → refused (Overlong ∷ ks) ≡ StuckAt n → ⊥
overlong_refused ks n e = let f : TooLong ≡ StuckAt n = e in cc

overlong_ends : (s : State) (ks : List Symbol) (n : ℕ) → ends s (Overlong ∷ ks) ≡ StuckAt n → ⊥
overlong_ends (Wanted c) ks n e = overlong_refused ks n e
overlong_ends (Sought p) ks n e = overlong_refused ks n e
overlong_ends (Marked p) ks n e = overlong_refused ks n e
overlong_ends (Named scope word p) ks n e = overlong_refused ks n e
overlong_ends (Held x r Alone) ks n e = let f : Accept (Whole (Chain x r)) (Overlong ∷ ks) ≡ StuckAt n = e in cc
overlong_ends (Held x r (InGroup c)) ks n e = overlong_refused ks n e
overlong_ends (Held x r (InList u es)) ks n e = overlong_refused ks n e
overlong_ends (Held x r (InOther f v c)) ks n e = overlong_refused ks n e
overlong_ends (Held x r (InCondition ps c)) ks n e = overlong_refused ks n e
overlong_ends (Held x r (InChoice ps a c)) ks n e = overlong_refused ks n e
overlong_ends (Held x r (InActuals t es c)) ks n e = overlong_refused ks n e
overlong_ends (Entering label routine c) ks n e = overlong_refused ks n e
overlong_ends (Routed label c) ks n e = overlong_refused ks n e
overlong_ends (Calling f c) ks n e = overlong_refused ks n e
overlong_ends (Behind f v c) ks n e = overlong_refused ks n e
overlong_ends (Got v) ks n e = let f : Accept (Target v) (Overlong ∷ ks) ≡ StuckAt n = e in cc

pub overlong_finish : (s : State) (ks : List Symbol) (n : ℕ) → finish s (Overlong ∷ ks) ≡ StuckAt n → ⊥
overlong_finish (Wanted c) ks n e = overlong_refused ks n e
overlong_finish (Sought p) ks n e = overlong_refused ks n e
overlong_finish (Marked p) ks n e = overlong_refused ks n e
overlong_finish (Named scope word p) ks n e = overlong_ends (placed (Var scope word No) p) ks n e
overlong_finish (Entering None None c) ks n e = overlong_refused ks n e
overlong_finish (Entering (Some l) routine c) ks n e = overlong_ends (filled (Extrinsic (entry_at (Some l) routine) NoActual) c) ks n e
overlong_finish (Entering None (Some r) c) ks n e = overlong_ends (filled (Extrinsic (entry_at None (Some r)) NoActual) c) ks n e
overlong_finish (Routed label c) ks n e = overlong_refused ks n e
overlong_finish (Calling f c) ks n e = overlong_refused ks n e
overlong_finish (Behind f v c) ks n e = overlong_refused ks n e
overlong_finish (Held x r o) ks n e = overlong_ends (Held x r o) ks n e
overlong_finish (Got v) ks n e = overlong_ends (Got v) ks n e

-- a state that is stuck at a word is stuck at one within its limit
short_as : (s : State) (word : List ℕ) (k : Symbol) (ks : List Symbol) (n : ℕ) (b : Bool) → nat_le (length word) 31 ≡ b → finish s (cond b k Overlong ∷ ks) ≡ StuckAt n → length word ≤ 31
short_as s word k ks n true e f = grind (arith, nat_tests)
short_as s word k ks n false e f = absurd (overlong_finish s ks n f)

stuck_short : (s : State) (k : Token) (ks : List Symbol) (n : ℕ) → finish s (symbol k ∷ ks) ≡ StuckAt n → IsShort k
stuck_short s (Word w) ks n e = short_as s w (Name w) ks n (nat_le (length w) 31) refl e
stuck_short s (Called w) ks n e = short_as s w (function_symbol (callee_of w)) ks n (nat_le (length w) 31) refl e
stuck_short s (Special w) ks n e = short_as s w (special_symbol (special_of w)) ks n (nat_le (length w) 31) refl e
stuck_short s (Invoked w) ks n e = short_as s w (Entry (Some w)) ks n (nat_le (length w) 31) refl e
stuck_short s (Numbered ds) ks n e = tt
stuck_short s Dollars ks n e = tt
stuck_short s (Digits ds) ks n e = tt
stuck_short s (Quoted v) ks n e = tt
stuck_short s (Signed t) ks n e = tt
stuck_short s Blank ks n e = tt
stuck_short s (Comment t) ks n e = tt
stuck_short s (Unclosed t) ks n e = tt
stuck_short s (Stray b) ks n e = tt

-- ---- tokens by their symbols

pub record Uncons (b : List Token) (x : Symbol) (xs : List Symbol) : Type 0 where
  pub token : Token
  pub more : List Token
  pub is : b ≡ token ∷ more
  pub head : symbol token ≡ x
  pub tail : map symbol more ≡ xs

uncons : (b : List Token) (x : Symbol) (xs : List Symbol) → map symbol b ≡ x ∷ xs → Uncons b x xs
uncons [] x xs e = absurd (cons_nil x xs (sym e))
uncons (k ∷ ks) x xs e = record { token = k; more = ks; is = refl; head = head_same (symbol k) x (map symbol ks) xs e; tail = tail_same (symbol k) x (map symbol ks) xs e }

constant_overlong : (r : Result ℤ Fault) → constant_of r ≡ Overlong → ⊥
constant_overlong (Ok z) e = cc
constant_overlong (Err f) e = cc

constant_mark : (r : Result ℤ Fault) (s : Sign) → constant_of r ≡ Mark s → ⊥
constant_mark (Ok z) s e = cc
constant_mark (Err f) s e = cc

choice_overlong : (b : Bool) (v : List ℕ) → cond b (Constant v) Other ≡ Overlong → ⊥
choice_overlong true v e = cc
choice_overlong false v e = cc

choice_mark : (b : Bool) (v : List ℕ) (s : Sign) → cond b (Constant v) Other ≡ Mark s → ⊥
choice_mark true v s e = cc
choice_mark false v s e = cc

-- a word within its limit is no sign, and one past it is too long
word_mark : (b : Bool) (k : Symbol) (s : Sign) → (k ≡ Mark s → ⊥) → cond b k Overlong ≡ Mark s → ⊥
word_mark true k s f e = f e
word_mark false k s f e = let g : Overlong ≡ Mark s = e in cc

function_mark : (f : Option Callee) (s : Sign) → function_symbol f ≡ Mark s → ⊥
function_mark None s e = cc
function_mark (Some f) s e = cc

special_mark : (v : Option special.Special) (s : Sign) → special_symbol v ≡ Mark s → ⊥
special_mark None s e = cc
special_mark (Some v) s e = cc

special_overlong : (v : Option special.Special) → special_symbol v ≡ Overlong → ⊥
special_overlong None e = cc
special_overlong (Some v) e = cc

function_overlong : (f : Option Callee) → function_symbol f ≡ Overlong → ⊥
function_overlong None e = cc
function_overlong (Some f) e = cc

name_mark : (w : List ℕ) (s : Sign) → Name w ≡ Mark s → ⊥
name_mark w s e = cc

name_overlong : (w : List ℕ) → Name w ≡ Overlong → ⊥
name_overlong w e = cc

other_mark : (s : Sign) → Other ≡ Mark s → ⊥
other_mark s e = cc

other_overlong : Other ≡ Overlong → ⊥
other_overlong e = cc

-- a label is neither
label_mark : (l : Option (List ℕ)) (s : Sign) → Entry l ≡ Mark s → ⊥
label_mark l s e = cc

label_overlong : (l : Option (List ℕ)) → Entry l ≡ Overlong → ⊥
label_overlong l e = cc

digits_mark : (b : Bool) (l : Option (List ℕ)) (s : Sign) → cond b (Entry l) Other ≡ Mark s → ⊥
digits_mark true l s e = cc
digits_mark false l s e = cc

digits_overlong : (b : Bool) (l : Option (List ℕ)) → cond b (Entry l) Other ≡ Overlong → ⊥
digits_overlong true l e = cc
digits_overlong false l e = cc

word_long : (w : List ℕ) (k : Symbol) (b : Bool) → nat_le (length w) 31 ≡ b → (k ≡ Overlong → ⊥) → cond b k Overlong ≡ Overlong → 31 < length w
word_long w k true f g e = absurd (g e)
word_long w k false f g e = grind (arith, nat_tests)

pub comma_token : (k : Token) → symbol k ≡ Mark Comma → k ≡ Signed Comma
comma_token (Word w) e = absurd (word_mark (nat_le (length w) 31) (Name w) Comma (name_mark w Comma) e)
comma_token (Called w) e = absurd (word_mark (nat_le (length w) 31) (function_symbol (callee_of w)) Comma (function_mark (callee_of w) Comma) e)
comma_token (Special w) e = absurd (word_mark (nat_le (length w) 31) (special_symbol (special_of w)) Comma (special_mark (special_of w) Comma) e)
comma_token (Invoked w) e = absurd (word_mark (nat_le (length w) 31) (Entry (Some w)) Comma (label_mark (Some w) Comma) e)
comma_token (Numbered ds) e = absurd (digits_mark (nat_le (length ds) TEXT_LIMIT) (Some ds) Comma e)
comma_token Dollars e = absurd (label_mark None Comma e)
comma_token (Digits ds) e = absurd (constant_mark (reading ds) Comma e)
comma_token (Quoted v) e = absurd (choice_mark (nat_le (length v) TEXT_LIMIT) v Comma e)
comma_token (Signed s) e = let f : Mark s ≡ Mark Comma = e in let g : s ≡ Comma = cc in ap Signed g
comma_token Blank e = absurd (let f : Other ≡ Mark Comma = e in cc)
comma_token (Comment t) e = absurd (let f : Other ≡ Mark Comma = e in cc)
comma_token (Unclosed t) e = absurd (let f : Other ≡ Mark Comma = e in cc)
comma_token (Stray b) e = absurd (let f : Other ≡ Mark Comma = e in cc)

pub drop_back : (front back ks : List Token) (n : ℕ) → ks ≡ front ++ back → length back ≡ n → drop (length ks - n) ks ≡ back
drop_back front back ks n e f =
    let P : List Token → Type 0 = λ zs. drop (length zs - n) zs ≡ back in
    let at : length (front ++ back) - n ≡ length front = omega (arith, length-append front back, f) in
    subst P (sym e) (ap (λ (i : ℕ). drop i (front ++ back)) at ∙ drop-append_seam front back)

-- the word of a token is over its limit
abbrev pub Over : Token → Type 0
Over (Word w) = 31 < length w
Over (Called w) = 31 < length w
Over (Special w) = 31 < length w
Over (Invoked w) = 31 < length w
Over _ = ⊥

pub overlong_word : (k : Token) → symbol k ≡ Overlong → Over k
overlong_word (Word w) e = word_long w (Name w) (nat_le (length w) 31) refl (name_overlong w) e
overlong_word (Called w) e = word_long w (function_symbol (callee_of w)) (nat_le (length w) 31) refl (function_overlong (callee_of w)) e
overlong_word (Special w) e = word_long w (special_symbol (special_of w)) (nat_le (length w) 31) refl (special_overlong (special_of w)) e
overlong_word (Invoked w) e = word_long w (Entry (Some w)) (nat_le (length w) 31) refl (label_overlong (Some w)) e
overlong_word (Numbered ds) e = absurd (digits_overlong (nat_le (length ds) TEXT_LIMIT) (Some ds) e)
overlong_word Dollars e = absurd (label_overlong None e)
overlong_word (Digits ds) e = absurd (constant_overlong (reading ds) e)
overlong_word (Quoted v) e = absurd (choice_overlong (nat_le (length v) TEXT_LIMIT) v e)
overlong_word (Signed s) e = absurd (let f : Mark s ≡ Overlong = e in cc)
overlong_word Blank e = absurd (other_overlong e)
overlong_word (Comment t) e = absurd (other_overlong e)
overlong_word (Unclosed t) e = absurd (other_overlong e)
overlong_word (Stray b) e = absurd (other_overlong e)

-- ---- phrases of one kind

module _ {T : Type 0} (K : Kind) (P : Phrases T) (W : Wraps K P) where
  accepted : (l : Limits) (zs : List Symbol) (t : T) → zs ≡ P.symbols t → P.nesting t ≤ l.depth → P.width t ≤ l.width → P.misfits t ≡ 0 → run l zs (start K) ≡ Accept (W.wrap t) []
  accepted l zs t e n w f =
      ap (λ (v : List Symbol). run l v (start K)) (e ∙ sym (W.symbols t) ∙ sym (append-nil (phrase_symbols (W.wrap t))))
      ∙ complete_phrase K (W.wrap t) l [] (record { kind = W.kind t; nests = omega (arith, W.nesting t, n); lists = omega (arith, W.width t, w); formed = W.misfits t ∙ f }) (ceases_none K)

  begun : (m : Limits) (front : List Token) (s : State) (xs : List Symbol) → map symbol front ≡ xs → HasRead K m s xs → BeginsWithin P m.depth m.width front
  begun m front s xs e h =
      let g = read_goes K m s xs h in
      let u = W.unwrap g.phrase g.fits.kind in
      record {
        rest = g.more;
        tree = u.0;
        spells = (
          map-append symbol front g.more ∙ ap (λ (v : List Symbol). v ++ map symbol g.more) e ∙ g.spelled ∙ ap phrase_symbols (sym u.1) ∙ W.symbols u.0,
          sym (W.misfits u.0) ∙ ap phrase_misfits u.1 ∙ g.fits.formed,
        );
        within = record { nests = omega (arith, g.fits.nests, ap phrase_nesting u.1, W.nesting u.0); lists = omega (arith, g.fits.lists, ap phrase_width u.1, W.width u.0) };
      }

  -- the symbols of a front, a token and what follows
  spelled_at : (front : List Token) (k : Token) (rest : List Token) (xs : List Symbol) → map symbol front ≡ xs → map symbol ((front ++ k ∷ []) ++ rest) ≡ xs ++ symbol k ∷ map symbol rest
  spelled_at front k rest xs e =
      ap (λ (v : List Token). map symbol v) (append_assoc front (k ∷ []) rest) ∙ map-append symbol front (k ∷ rest) ∙ ap (λ (v : List Symbol). v ++ symbol k ∷ map symbol rest) e

  abbrev bigger : Limits → T → Limits
  bigger m t = record { depth = max m.depth (P.nesting t); width = max m.width (P.width t) }

  more_bigger : (m : Limits) (t : T) → IsMore m (bigger m t)
  more_bigger m t = record { depth = omega arith; width = omega arith }

  stops_at : (m : Limits) (back : List Symbol) (s : State) (k : Symbol) (y : List Symbol) → back ≡ k ∷ y → Stops m back s → (l : Limits) → IsMore m l → step l s k ≡ Stuck
  stops_at m back s k y e h = let Q : List Symbol → Type 0 = λ z. Stops m z s in subst Q e h

  -- with the token at which it halts, nothing begins a phrase
  halts_none : (m : Limits) (ks : List Symbol) (o : Outcome) (h : Halts K m (start K) ks o) (front : List Token) (k : Token) (y : List Symbol) →
      map symbol front ≡ h.front → h.back ≡ symbol k ∷ y → BeginsPhrase P (front ++ k ∷ []) → ⊥
  halts_none m ks o h front k y e f b =
      let l = bigger m b.tree in
      let rest = map symbol b.rest in
      let whole : run l (h.front ++ symbol k ∷ rest) (start K) ≡ Accept (W.wrap b.tree) [] =
      accepted l (h.front ++ symbol k ∷ rest) b.tree (sym (spelled_at front k b.rest h.front e) ∙ b.spells.0) (omega arith) (omega arith) b.spells.1 in
      let there : run l (h.front ++ symbol k ∷ rest) (start K) ≡ finish h.end (symbol k ∷ rest) =
      h.along.runs l (symbol k ∷ rest) (more_bigger m b.tree) ∙ ap (turn l rest h.end (symbol k)) (stops_at m h.back h.end (symbol k) y f h.stops l (more_bigger m b.tree)) in
      let a = accepts K m h.end (symbol k ∷ rest) (W.wrap b.tree) [] h.front (h.along.reads [] (start_read K m)) (sym there ∙ whole) in
      cons_nil (symbol k) rest a.rest

  -- where it halts and accepts nothing, the front is no phrase
  halts_whole : (m : Limits) (ks : List Symbol) (o : Outcome) (h : Halts K m (start K) ks o) (front : List Token) → map symbol front ≡ h.front →
      ((p : Phrase) (r : List Symbol) → Accept p r ≡ o → ⊥) → (t : T) → Spells P front t → ⊥
  halts_whole m ks o h front e never t s =
      let l = bigger m t in
      let whole : run l (h.front ++ []) (start K) ≡ Accept (W.wrap t) [] = accepted l (h.front ++ []) t (append-nil h.front ∙ sym e ∙ s.0) (omega arith) (omega arith) s.1 in
      let there : run l (h.front ++ []) (start K) ≡ finish h.end [] = h.along.runs l [] (more_bigger m t) in
      let a = accepts K m h.end [] (W.wrap t) [] h.front (h.along.reads [] (start_read K m)) (sym there ∙ whole) in
      never (W.wrap t) h.back (sym (a.again h.back) ∙ h.gives)

  same_tree : (ks : List Token) (t u : T) → Spells P ks t → Spells P ks u → u ≡ t
  same_tree ks t u e f =
      let l : Limits = record { depth = max (P.nesting t) (P.nesting u); width = max (P.width t) (P.width u) } in
      W.once u t (accept_phrase (W.wrap u) (W.wrap t) [] [] (sym (accepted l (map symbol ks) u f.0 (omega arith) (omega arith) f.1) ∙ accepted l (map symbol ks) t e.0 (omega arith) (omega arith) e.1))

  -- READ
  pub said_read : (d : ℕ) (ks : List Token) (t : T) (r : List Symbol) → run (limits d) (map symbol ks) (start K) ≡ Accept (W.wrap t) r → IsRead P d ks t (drop (length ks - length r) ks)
  said_read d ks t r e =
      let Q : Outcome → Type 0 = λ o. EndsAs K (limits d) (start K) (map symbol ks) o in
      let h : Halts K (limits d) (start K) (map symbol ks) (Accept (W.wrap t) r) = subst Q e (run_ends (map symbol ks) K (limits d) (start K) (omega arith)) in
      let s = split h.front ks h.back h.cut in
      let a = accepts K (limits d) h.end h.back (W.wrap t) r h.front (h.along.reads [] (start_read K (limits d))) h.gives in
      let spells : Spells P s.front t = (s.first ∙ sym a.spelled ∙ W.symbols t, sym (W.misfits t) ∙ a.fits.formed) in
      let R : List Token → Type 0 = λ rest. IsRead P d ks t rest in
      subst R (sym (drop_back s.front s.back ks (length r) s.cut (sym (length-map s.back symbol) ∙ ap length (s.last ∙ a.rest))))
      (record {
        front = s.front;
        cut = s.cut;
        spells = spells;
        within = record { nests = omega (arith, a.fits.nests, W.nesting t); lists = omega (arith, a.fits.lists, W.width t) };
        only = λ u f. same_tree s.front t u spells f;
        ends = λ k more f b. halts_none (limits d) (map symbol ks) (Accept (W.wrap t) r) h s.front k (map symbol more) s.first (sym s.last ∙ ap (λ (v : List Token). map symbol v) f) b;
      })

  -- STUCK
  pub said_stuck : (d : ℕ) (ks : List Token) (n : ℕ) → run (limits d) (map symbol ks) (start K) ≡ StuckAt n → IsStuck P d ks n
  said_stuck d ks n e =
      let Q : Outcome → Type 0 = λ o. EndsAs K (limits d) (start K) (map symbol ks) o in
      let h : Halts K (limits d) (start K) (map symbol ks) (StuckAt n) = subst Q e (run_ends (map symbol ks) K (limits d) (start K) (omega arith)) in
      let s = split h.front ks h.back h.cut in
      record {
        front = s.front;
        rest = s.back;
        cut = s.cut;
        place = sym (length-map s.back symbol) ∙ ap length s.last ∙ finish_stuck h.end h.back n h.gives;
        before = begun (limits d) s.front h.end h.front s.first (h.along.reads [] (start_read K (limits d)));
        whole = halts_whole (limits d) (map symbol ks) (StuckAt n) h s.front s.first (λ p r f. cc);
        at = λ k more f b. halts_none (limits d) (map symbol ks) (StuckAt n) h s.front k (map symbol more) s.first (sym s.last ∙ ap (λ (v : List Token). map symbol v) f) b;
        short = λ k more f. stuck_short h.end k (map symbol more) n (ap (λ (v : List Symbol). finish h.end v) (ap (λ (v : List Token). map symbol v) (sym f) ∙ s.last) ∙ h.gives);
      }

  -- DEEP
  pub said_deep : (d : ℕ) (ks : List Token) (n : ℕ) → run (limits d) (map symbol ks) (start K) ≡ DeepAt n → IsDeep P d ks n
  said_deep d ks n e =
      let Q : Outcome → Type 0 = λ o. EndsAs K (limits d) (start K) (map symbol ks) o in
      let h : EndsDeep K (limits d) (start K) (map symbol ks) n = subst Q e (run_ends (map symbol ks) K (limits d) (start K) (omega arith)) in
      let s = split h.front ks (h.token ∷ h.back) h.cut in
      let c = uncons s.back h.token h.back s.last in
      let read = h.along.reads [] (start_read K (limits d)) in
      let A : Symbol → Type 0 = λ k. BeginsWithin P (d + levels_of k) width_limit (s.front ++ c.token ∷ []) in
      record {
        front = s.front;
        token = c.token;
        more = c.more;
        cut = s.cut ∙ ap (λ (v : List Token). s.front ++ v) c.is;
        place = sym (length-map (c.token ∷ c.more) symbol) ∙ ap (λ (v : List Symbol). length (symbol c.token ∷ v)) c.tail ∙ ap (λ (v : Symbol). length (v ∷ h.back)) c.head ∙ h.left;
        before = begun (limits d) s.front h.end h.front s.first read;
        at = subst A (sym c.head) (begun (deeper h.token (limits d)) (s.front ++ c.token ∷ []) h.over (h.front ++ h.token ∷ [])
            (map-append symbol s.front (c.token ∷ []) ∙ ap (λ (v : List Symbol). v ++ symbol c.token ∷ []) s.first ∙ ap (λ (v : Symbol). h.front ++ v ∷ []) c.head) (h.opened h.front read));
        beyond = λ b.
            let rest = map symbol b.rest in
            let whole : run (limits d) (h.front ++ symbol c.token ∷ rest) (start K) ≡ Accept (W.wrap b.tree) [] =
            accepted (limits d) (h.front ++ symbol c.token ∷ rest) b.tree (sym (spelled_at s.front c.token b.rest h.front s.first) ∙
            b.spells.0) b.within.nests b.within.lists b.spells.1 in
            let there : run (limits d) (h.front ++ symbol c.token ∷ rest) (start K) ≡ DeepAt (length (symbol c.token ∷ rest)) =
            h.along.runs (limits d) (symbol c.token ∷ rest) (record { depth = omega arith; width = omega arith })
            ∙ ap (λ (v : Symbol). run (limits d) (v ∷ rest) h.end) c.head
            ∙ ap (turn (limits d) rest h.end h.token) h.steps in
            let clash : Accept (W.wrap b.tree) [] ≡ DeepAt (length (symbol c.token ∷ rest)) = sym whole ∙ there in
            cc;
      }

  -- LONG
  overlong_at : (front : List Token) (k : Token) → symbol k ≡ Overlong → ((t : T) → Spells P front t → ⊥) → (BeginsPhrase P (front ++ k ∷ []) → ⊥) → IsOverlong P front k
  overlong_at front (Word w) e g h = record { long = word_long w (Name w) (nat_le (length w) 31) refl (name_overlong w) e; whole = g; at = h }
  overlong_at front (Called w) e g h = record { long = word_long w (function_symbol (callee_of w)) (nat_le (length w) 31) refl (function_overlong (callee_of w)) e; whole = g; at = h }
  overlong_at front (Special w) e g h = record { long = word_long w (special_symbol (special_of w)) (nat_le (length w) 31) refl (special_overlong (special_of w)) e; whole = g; at = h }
  overlong_at front (Invoked w) e g h = record { long = word_long w (Entry (Some w)) (nat_le (length w) 31) refl (label_overlong (Some w)) e; whole = g; at = h }
  overlong_at front (Numbered ds) e g h = absurd (digits_overlong (nat_le (length ds) TEXT_LIMIT) (Some ds) e)
  overlong_at front Dollars e g h = absurd (label_overlong None e)
  overlong_at front (Digits ds) e g h = absurd (constant_overlong (reading ds) e)
  overlong_at front (Quoted v) e g h = absurd (choice_overlong (nat_le (length v) TEXT_LIMIT) v e)
  overlong_at front (Signed s) e g h = absurd (let f : Mark s ≡ Overlong = e in cc)
  overlong_at front Blank e g h = absurd (other_overlong e)
  overlong_at front (Comment t) e g h = absurd (other_overlong e)
  overlong_at front (Unclosed t) e g h = absurd (other_overlong e)
  overlong_at front (Stray b) e g h = absurd (other_overlong e)

  long_word : (d : ℕ) (ks : List Token) → Halts K (limits d) (start K) (map symbol ks) TooLong → IsLong P d ks
  long_word d ks h =
      let s = split h.front ks h.back h.cut in
      let f = finish_long h.end h.back h.gives in
      let c = uncons s.back Overlong f.0 (s.last ∙ f.1) in
      record {
        front = s.front;
        token = c.token;
        more = c.more;
        cut = s.cut ∙ ap (λ (v : List Token). s.front ++ v) c.is;
        before = begun (limits d) s.front h.end h.front s.first (h.along.reads [] (start_read K (limits d)));
        overlong = overlong_at s.front c.token c.head
            (halts_whole (limits d) (map symbol ks) TooLong h s.front s.first (λ p r g. cc))
            (λ b. halts_none (limits d) (map symbol ks) TooLong h s.front c.token f.0 s.first (f.1 ∙ ap (λ (v : Symbol). v ∷ f.0) (sym c.head)) b);
      }

  long_comma : (d : ℕ) (ks : List Token) → EndsLong K (limits d) (start K) (map symbol ks) → IsLong P d ks
  long_comma d ks h =
      let s = split h.front ks (h.token ∷ h.back) h.cut in
      let c = uncons s.back h.token h.back s.last in
      let read = h.along.reads [] (start_read K (limits d)) in
      let comma : c.token ≡ Signed Comma = comma_token c.token (c.head ∙ h.long.comma) in
      let O : Token → Type 0 = λ k. IsOverlong P s.front k in
      let fill = h.long.filler in
      let opened = begun (wider (limits d)) (s.front ++ (fill ++ Signed Comma ∷ [])) h.long.over (h.front ++ (map symbol fill ++ h.token ∷ []))
      (map-append symbol s.front (fill ++ Signed Comma ∷ [])
      ∙ ap (λ (v : List Symbol). v ++ map symbol (fill ++ Signed Comma ∷ [])) s.first
      ∙ ap (λ (v : List Symbol). h.front ++ v) (map-append symbol fill (Signed Comma ∷ []) ∙ ap (λ (v : Symbol). map symbol fill ++ v ∷ []) (sym h.long.comma)))
      (h.long.opened h.front read) in
      record {
        front = s.front;
        token = c.token;
        more = c.more;
        cut = s.cut ∙ ap (λ (v : List Token). s.front ++ v) c.is;
        before = begun (limits d) s.front h.end h.front s.first read;
        overlong = subst O (sym comma) (record {
          filler = fill;
          fills = h.long.fills;
          begins = record { rest = opened.rest; tree = opened.tree; spells = opened.spells };
          too_long = λ depth b.
              let l : Limits = record { depth = max d depth; width = width_limit } in
              let rest = map symbol b.rest in
              let zs = h.front ++ (map symbol fill ++ Mark Comma ∷ rest) in
              let same : map symbol ((s.front ++ (fill ++ Signed Comma ∷ [])) ++ b.rest) ≡ zs =
              ap (λ (v : List Token). map symbol v) (append_assoc s.front (fill ++ Signed Comma ∷ []) b.rest ∙ ap (λ (v : List Token). s.front ++ v) (append_assoc fill (Signed Comma ∷ []) b.rest))
              ∙ map-append symbol s.front (fill ++ Signed Comma ∷ b.rest)
              ∙ ap (λ (v : List Symbol). v ++ map symbol (fill ++ Signed Comma ∷ b.rest)) s.first
              ∙ ap (λ (v : List Symbol). h.front ++ v) (map-append symbol fill (Signed Comma ∷ b.rest)) in
              let whole : run l zs (start K) ≡ Accept (W.wrap b.tree) [] = accepted l zs b.tree (sym same ∙ b.spells.0) (omega (arith, b.within.nests)) b.within.lists b.spells.1 in
              let there : run l zs (start K) ≡ TooLong =
              h.along.runs l (map symbol fill ++ Mark Comma ∷ rest) (record { depth = omega arith; width = omega arith })
              ∙ ap (λ (v : Symbol). run l (map symbol fill ++ v ∷ rest) h.end) (sym h.long.comma)
              ∙ h.long.local l rest (omega arith) refl in
              let clash : Accept (W.wrap b.tree) [] ≡ TooLong = sym whole ∙ there in
              cc;
        });
      }

  long_as : (d : ℕ) (ks : List Token) → Halts K (limits d) (start K) (map symbol ks) TooLong ⊎ EndsLong K (limits d) (start K) (map symbol ks) → IsLong P d ks
  long_as d ks (inl h) = long_word d ks h
  long_as d ks (inr h) = long_comma d ks h

  pub said_long : (d : ℕ) (ks : List Token) → run (limits d) (map symbol ks) (start K) ≡ TooLong → IsLong P d ks
  said_long d ks e =
      let Q : Outcome → Type 0 = λ o. EndsAs K (limits d) (start K) (map symbol ks) o in
      long_as d ks (subst Q e (run_ends (map symbol ks) K (limits d) (start K) (omega arith)))

  -- what is left
  pub said_rest : (d : ℕ) (ks : List Token) (p : Phrase) (r : List Symbol) → run (limits d) (map symbol ks) (start K) ≡ Accept p r → map symbol (drop (length ks - length r) ks) ≡ r
  said_rest d ks p r e =
      let Q : Outcome → Type 0 = λ o. EndsAs K (limits d) (start K) (map symbol ks) o in
      let h : Halts K (limits d) (start K) (map symbol ks) (Accept p r) = subst Q e (run_ends (map symbol ks) K (limits d) (start K) (omega arith)) in
      let s = split h.front ks h.back h.cut in
      let a = accepts K (limits d) h.end h.back p r h.front (h.along.reads [] (start_read K (limits d))) h.gives in
      ap (λ (v : List Token). map symbol v) (drop_back s.front s.back ks (length r) s.cut (sym (length-map s.back symbol) ∙ ap length (s.last ∙ a.rest))) ∙ s.last ∙ a.rest

  -- what a refusal says
  pub said_refused : (d : ℕ) (ks : List Token) (x : ParseError) → Refuses x (run (limits d) (map symbol ks) (start K)) → IsPhraseRefused P d ks x
  said_refused d ks stop.Memory e = tt
  said_refused d ks (stop.Stuck n) e = said_stuck d ks n e
  said_refused d ks (stop.Deep n) e = said_deep d ks n e
  said_refused d ks stop.Long e = said_long d ks e

  pub refused_as : {X : Type 0} (d : ℕ) (ks : List Token) (r : Result X ParseError) (x : ParseError) → IsErrAnd r (λ e. e ≡ x) →
      Refuses x (run (limits d) (map symbol ks) (start K)) → IfErr r (λ e. IsPhraseRefused P d ks e)
  refused_as d ks (Ok y) x e h = tt
  refused_as d ks (Err y) x e h = let Q : ParseError → Type 0 = λ v. IsPhraseRefused P d ks v in subst Q (sym e) (said_refused d ks x h)

-- ---- the tokens that the program keeps

-- the end of the tokens, as long as the rest
abbrev pub end_of : List Lexeme → List Lexeme → List Lexeme
end_of ls rest = let n = length ls - length rest in take (length ls - n) (drop n ls)

pub tokens_end : (ls rest : List Lexeme) → tokens_seen (end_of ls rest) ≡ drop (length (tokens_seen ls) - length (symbols_seen rest)) (tokens_seen ls)
tokens_end ls rest =
    let n = length ls - length rest in
    let all : take (length ls - n) (drop n ls) ≡ drop n ls = ap (λ (i : ℕ). take i (drop n ls)) (sym (length-drop n ls)) ∙ take-length (drop n ls) in
    let same : length (tokens_seen ls) - length (symbols_seen rest) ≡ n =
    omega (arith, length-map ls (λ l. token_seen l.token), length-map rest (λ l. token_seen l.token), length-map (tokens_seen rest) symbol) in
    ap tokens_seen all ∙ sym (drop-map (λ l. token_seen l.token) n ls) ∙ ap (λ (i : ℕ). drop i (tokens_seen ls)) (sym same)

pub read_end : {T : Type 0} (K : Kind) (P : Phrases T) (W : Wraps K P) (d : ℕ) (ls rest : List Lexeme) (t : T) →
    run (limits d) (symbols_seen ls) (start K) ≡ Accept (W.wrap t) (symbols_seen rest) → IsRead P d (tokens_seen ls) t (tokens_seen (end_of ls rest))
read_end K P W d ls rest t e = let Q : List Token → Type 0 = λ v. IsRead P d (tokens_seen ls) t v in subst Q (sym (tokens_end ls rest)) (said_read K P W d (tokens_seen ls) t (symbols_seen rest) e)

pub runs_end : {T : Type 0} (K : Kind) (P : Phrases T) (W : Wraps K P) (d : ℕ) (ls rest : List Lexeme) (p : Phrase) →
    run (limits d) (symbols_seen ls) (start K) ≡ Accept p (symbols_seen rest) →
    run (limits d) (symbols_seen ls) (start K) ≡ Accept p (symbols_seen (end_of ls rest))
runs_end K P W d ls rest p e =
    e ∙ ap (λ (v : List Symbol). Accept p v) (sym (said_rest K P W d (tokens_seen ls) p (symbols_seen rest) e) ∙ ap (λ (v : List Token). map symbol v) (sym (tokens_end ls rest)))
