-- Lists of items with commas between them.
use Rattle.std.proofs.Common.{◌≡◌, ◌∙◌, ◌⊎◌, inl, inr, None, List, [], ◌∷◌, ◌++◌, refl, ap, sym, subst, map, append_assoc, append-nil, Bool, Option, Some}
use Rattle.mj_ast.specs.declared.sign.Sign.{Sign}
use Rattle.mj_ast.specs.declared.sign.Sign.TheVariants.{Close, Comma}
use Rattle.mj_ast.specs.declared.keyword.Keyword.TheVariants as keyword
use Rattle.mj_ast.specs.declared.keyword.Verb.{Verb}
use Rattle.mj_ast.specs.declared.keyword.Verb.TheVariants.{HaltOrHang}
use Rattle.mj_ast.specs.declared.expr.Expr as kept
use Rattle.mj_ast.specs.Trees.{expr_of}
use Rattle.mj_ast.specs.Syntax.{Expr}
use Rattle.mj_ast.specs.Commands.{Part, Put, with_commas, value_parts, meant}
use Rattle.mj_expr.specs.Machine.{Limits}
use Rattle.mj_lex.specs.declared.token.Lexeme.{Lexeme}
use Rattle.mj_lex.specs.Seen.{tokens_seen}
use Rattle.mj_ast.specs.Tokens.{Token, Signed}
use Rattle.mj_line.specs.Forms.{Node, sort_of, takes}
use Rattle.mj_line.specs.Sentences.{Sentence}
use Rattle.mj_cmd.specs.Reads.{AreWrittenAs, IsWrittenAs}
use Rattle.mj_cmd.specs.Heads.{HasNoClose, HasNoComma, HasOther}
use Rattle.mj_cmd.specs.Lists.{AreItems, IsOver, IsUnclosed, comma_or_close}
use Rattle.mj_line.specs.Machine.{Args, At, refused, run}
use Rattle.mj_cmd.proofs.Follow.{SignUntaken, WentAs, comma_untaken, here_stuck, joined, sign_at, untaken_by, went_token}

-- ---- one after the other

pub items_first : {X : Type 0} (is : List Part → X → Type 0) (old new : List X) (x : X) (ps : List Part) → old ≡ [] → new ≡ old ++ x ∷ [] → is ps x → AreItems is ps new
items_first {X = X} is old new x ps e h i = let P : List X → Type 0 = λ xs. AreItems is ps xs in subst P (sym (h ∙ ap (λ (xs : List X). xs ++ x ∷ []) e)) i

items_snoc : {X : Type 0} (is : List Part → X → Type 0) (xs : List X) (y : X) (ps qs : List Part) → AreItems is ps xs → is qs y → AreItems is (ps ++ (Put Comma ∷ qs)) (xs ++ y ∷ [])
items_snoc is [] y ps qs h i = absurd h
items_snoc is (x ∷ []) y ps qs h i = (ps, qs, refl, h, i)
items_snoc is (x ∷ z ∷ xs) y ps qs h i = (
  h.0,
  h.1 ++ (Put Comma ∷ qs),
  ap (λ (zs : List Part). zs ++ (Put Comma ∷ qs)) h.2 ∙ append_assoc h.0 (Put Comma ∷ h.1) (Put Comma ∷ qs),
  h.3,
  items_snoc is (z ∷ xs) y h.1 qs h.4 i,
)

pub items_more : {X : Type 0} (is : List Part → X → Type 0) (old new : List X) (y : X) (ps qs : List Part) → new ≡ old ++ y ∷ [] → AreItems is ps old →
    is qs y → AreItems is (ps ++ (Put Comma ∷ qs)) new
items_more {X = X} is old new y ps qs e h i = let P : List X → Type 0 = λ xs. AreItems is (ps ++ (Put Comma ∷ qs)) xs in subst P (sym e) (items_snoc is old y ps qs h i)

-- one more behind a comma
pub more_items : {X : Type 0} (is : List Part → X → Type 0) (limited : Bool) (old new : List X) (y : X) (m : Limits) (ls : List Lexeme) (n : Node)
    (ms : List Lexeme) (behind : Node) (ns : List Lexeme) (more : Node) (rest : List Lexeme) (o : Sentence) (condition : Option Expr) (k : Verb)
    (done : List Part) →
    new ≡ old ++ y ∷ [] → tokens_seen ms ≡ Signed Comma ∷ tokens_seen ns → takes behind (Put Comma) ≡ Some more →
    WentAs limited (λ ps. AreItems is ps old) m ls n ms behind o condition k done → ((d : List Part) → WentAs limited (λ ps. is ps y) m ns more rest behind o condition k d) →
    WentAs limited (λ ps. AreItems is ps new) m ls n rest behind o condition k done
more_items is limited old new y m ls n ms behind ns more rest o condition k done e l t h f =
    joined limited (λ ps. AreItems is ps old) (λ ps. (qs : List Part) × (ps ≡ Put Comma ∷ qs) × is qs y) (λ ps. AreItems is ps new) m ls n ms behind rest behind o condition k done
    (λ ps qs i j. let P : List Part → Type 0 = λ zs. AreItems is (ps ++ zs) new in subst P (sym j.1) (items_more is old new y ps j.0 e i j.2))
    h
    (λ d. joined limited (λ ps. ps ≡ Put Comma ∷ []) (λ ps. is ps y) (λ ps. (qs : List Part) × (ps ≡ Put Comma ∷ qs) × is qs y) m ms behind ns more rest behind o condition k d
    (λ ps qs i j. (qs, ap (λ (zs : List Part). zs ++ qs) i, j))
    (went_token limited (Signed Comma) (Put Comma) m ms behind ns more o condition k d l (sign_at (sort_of behind) Comma) t)
    f)

-- ---- as they are written

-- the parts of items, each of which has its own
pub items_parts : {X T : Type 0} (f : X → T) (parts : T → List Part) (xs : List X) (ps : List Part) → AreItems (λ qs x. qs ≡ parts (f x)) ps xs → ps ≡ with_commas parts (map f xs)
items_parts f parts [] ps h = absurd h
items_parts f parts (x ∷ []) ps h = h ∙ sym (append-nil (parts (f x)))
items_parts f parts (x ∷ y ∷ xs) ps h =
    h.2
    ∙ ap (λ (zs : List Part). zs ++ Put Comma ∷ h.1) h.3
    ∙ ap (λ (zs : List Part). parts (f x) ++ Put Comma ∷ zs) (items_parts f parts (y ∷ xs) h.1 h.4)

-- `H` with arguments is HANG
pub hang_meant : (v : Verb) (xs : List kept.Expr) (ps : List Part) → v ≡ HaltOrHang → AreItems (λ qs x. qs ≡ value_parts (expr_of x)) ps xs → keyword.Hang ≡ meant v ps
hang_meant v [] ps e h = absurd h
hang_meant v (x ∷ xs) ps e h = ap (meant HaltOrHang) (sym (items_parts expr_of value_parts (x ∷ xs) ps h)) ∙ ap (λ (w : Verb). meant w ps) (sym e)

-- items as they may be written
pub items_written : {X T : Type 0} (f : X → T) (parts : T → List Part) (plain : T → T) (xs : List X) (ps : List Part) →
    AreItems (λ qs x. IsWrittenAs parts plain qs (f x)) ps xs → AreWrittenAs parts plain ps (map f xs)
items_written f parts plain [] ps h = absurd h
items_written {T = T} f parts plain (x ∷ []) ps h = (h.0 ∷ [], h.1 ∙ sym (append-nil (parts h.0)), ap (λ (c : T). c ∷ []) h.2)
items_written {T = T} f parts plain (x ∷ y ∷ xs) ps h = by (items_written f parts plain (y ∷ xs) h.1 h.4)
  where
    some : (w : T) (ws : List T) (qs : List Part) → qs ≡ with_commas parts ws → (ws ≡ [] → ⊥) → parts w ++ Put Comma ∷ qs ≡ with_commas parts (w ∷ ws)
    some w [] qs e n = absurd (n refl)
    some w (v ∷ ws) qs e n = ap (λ (zs : List Part). parts w ++ Put Comma ∷ zs) e

    full : (ws : List T) → map plain ws ≡ map f (y ∷ xs) → ws ≡ [] → ⊥
    full ws e n = let g : [] ≡ f y ∷ map f xs = ap (map plain) (sym n) ∙ e in let z : ⊥ = cc in z

    by : AreWrittenAs parts plain h.1 (map f (y ∷ xs)) → AreWrittenAs parts plain ps (map f (x ∷ y ∷ xs))
    by w = (
      h.3.0 ∷ w.0,
      h.2 ∙ ap (λ (zs : List Part). zs ++ Put Comma ∷ h.1) h.3.1 ∙ some h.3.0 w.0 h.1 w.1 (full w.0 w.2),
      ap (λ (c : T). c ∷ map plain w.0) h.3.2 ∙ ap (λ (cs : List T). f x ∷ cs) w.2,
    )

-- ---- where nothing goes on

pub over_stuck : (m : Limits) (o : Sentence) (condition : Option Expr) (k : Verb) (done : List Part) (n : Node) (ks : List Token) → IsOver n → HasNoComma ks →
    HasOther ks → run m ks (At (Args o condition k done n)) ≡ refused ks
over_stuck m o condition k done n ks v h u = here_stuck m o condition k done n ks v.shut.alone (comma_untaken n ks v.shut.unlabelled v.shut.unnamed v.shut.pieceless v.comma h) (inr u)

neither_sign : (n : Node) (ks : List Token) → comma_or_close n → HasNoComma ks → HasNoClose ks → SignUntaken n ks
neither_sign n [] v h i = tt
neither_sign n (Signed s ∷ ks) v h i = by s (v s) h i
  where
    by : (s : Sign) → (takes n (Put s) ≡ None) ⊎ ((s ≡ Comma) ⊎ (s ≡ Close)) → HasNoComma (Signed s ∷ ks) → HasNoClose (Signed s ∷ ks) → takes n (Put s) ≡ None
    by s (inl e) y z = e
    by s (inr (inl e)) y z = absurd (let P : Sign → Type 0 = λ x. HasNoComma (Signed x ∷ ks) in subst P e y)
    by s (inr (inr e)) y z = absurd (let P : Sign → Type 0 = λ x. HasNoClose (Signed x ∷ ks) in subst P e z)
neither_sign n (t ∷ ks) v h i = tt

pub unclosed_stuck : (m : Limits) (o : Sentence) (condition : Option Expr) (k : Verb) (done : List Part) (n : Node) (ks : List Token) → IsUnclosed n →
    HasNoComma ks → HasNoClose ks → run m ks (At (Args o condition k done n)) ≡ refused ks
unclosed_stuck m o condition k done n ks v h i = here_stuck m o condition k done n ks v.shut.alone
    (untaken_by n ks v.shut.unlabelled v.shut.unnamed v.shut.pieceless (neither_sign n ks v.comma h i)) (inl v.open_yet)
