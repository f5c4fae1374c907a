-- One access more, and the changes that accesses make.
use Rattle.std.proofs.Common.{◌≡◌, ◌↔◌, ℕ, zero, suc, ◌+◌, ◌<◌, Bool, true, false, cond, ◌||◌, List, [], ◌∷◌, ◌++◌, length, get_or, take, drop, Option, Some, None, refl, sym, ap, ◌∙◌, subst, append_assoc, arith}
use Rattle.std.proofs.lemmas.List.{take_more, take-append-drop, drop_more}
use Rattle.std.proofs.lemmas.Option.{slice_get-get_or, slice_get_within}
use Rattle.std.specs.Prelude.{slice_get}
use Rattle.std.specs.Option.{MatchOption}
use Rattle.std.specs.List.{list_any, cons_option}
use Rattle.mj_subs.specs.Name.{Name}
use Rattle.mj_store.specs.Questions.{Content, same_word}
use Rattle.mj_store.specs.Changes.{is_too_deep, after_set, after_put}
use Rattle.mj_store.specs.Runs.{after_access}
use Rattle.mj_store.specs.declared.access.Access.{Access}
use Rattle.mj_store.specs.declared.access.Access.TheVariants as access
use Rattle.mj_store.specs.declared.access.Answer.{Answer}
use Rattle.mj_globs.specs.declared.change.Change.{Change}
use Rattle.mj_globs.specs.declared.change.Change.TheVariants as change
use Rattle.mj_globs.specs.Changes.{after_changes, goes_too_deep, are_to}
use Rattle.mj_txlog.specs.declared.entry.Entry.{Entry}
use Rattle.mj_txlog.specs.declared.entry.Entry.TheVariants as entry
use Rattle.mj_globs.specs.Stamps.{Stamps, Stamped, KeepsStamps}
use Rattle.mj_txlog.specs.Accesses.{Accesses, is_write, Transaction, seen}
use Rattle.mj_txlog.specs.Follows.{FollowsAt, AreFollowing, is_stale, stale_among}
use Rattle.mj_txlog.proofs.Following.{fresh_answer, none_stale}
use Rattle.mj_txn.specs.Commits.{HasAnswer, HoldsNow, Hold, IsOther, DiffersNow, Differs, CommitsAs, change_of, changes_of}
use Rattle.mj_txn.specs.declared.changed.Changed.{Changed}
use Rattle.mj_txn.specs.declared.committing.Outcome.{Outcome}
use Rattle.mj_txn.specs.declared.committing.Outcome.TheVariants as outcome

-- what is told of an option that is there, or isn't
pub told_some : {A : Type 0} (P : Type 0) (Q : A → Type 0) (r : Option A) (x : A) → MatchOption r P Q → r ≡ Some x → Q x
told_some P Q None x h e = absurd cc
told_some P Q (Some y) x h e = let same : y ≡ x = cc in subst Q same h

pub told_none : {A : Type 0} (P : Type 0) (Q : A → Type 0) (r : Option A) → MatchOption r P Q → r ≡ None → P
told_none P Q None h e = h
told_none P Q (Some y) h e = absurd cc

-- what is told of a read, told of the access that it is
pub told_read : (g texts : Content) (earlier : Accesses) (e : Entry) (a : Access) (r : Answer) (o : Option Changed) → texts ≡ g → e ≡ entry.Access a r → is_write a ≡ false
    → MatchOption o (HasAnswer texts earlier a r) (λ (c : Changed). IsOther texts earlier a r c.place c.then c.now)
    → MatchOption o (HoldsNow g earlier e) (λ (c : Changed). DiffersNow g earlier e c.place c.then c.now)
told_read g texts earlier e a r o same is read told =
    subst (λ (x : Entry). MatchOption o (HoldsNow g earlier x) (λ (c : Changed). DiffersNow g earlier x c.place c.then c.now)) (sym is)
    (subst (λ (t : Content). MatchOption o (HoldsNow t earlier (entry.Access a r)) (λ (c : Changed). DiffersNow t earlier (entry.Access a r) c.place c.then c.now)) same (by o told))
  where
    by : (o : Option Changed) → MatchOption o (HasAnswer texts earlier a r) (λ (c : Changed). IsOther texts earlier a r c.place c.then c.now)
        → MatchOption o (HoldsNow texts earlier (entry.Access a r)) (λ (c : Changed). DiffersNow texts earlier (entry.Access a r) c.place c.then c.now)
    by None h = λ _. h
    by (Some c) h = (read, h)

pub append_nil : {A : Type 0} (xs : List A) → xs ++ [] ≡ xs
append_nil [] = refl
append_nil (x ∷ xs) = ap (λ ys. x ∷ ys) (append_nil xs)

hold_more : (g : Content) (front xs : Accesses) (e : Entry) → Hold g front xs → HoldsNow g (front ++ xs) e → Hold g front (xs ++ e ∷ [])
hold_more g front [] e h n = (subst (λ (f : Accesses). HoldsNow g f e) (append_nil front) n, tt)
hold_more g front (x ∷ xs) e h n =
    (h.0, hold_more g (front ++ x ∷ []) xs e h.1 (subst (λ (f : Accesses). HoldsNow g f e) (sym (append_assoc front (x ∷ []) xs)) n))

-- the reads so far hold, and so does the next
pub hold_next : (g : Content) (es : Accesses) (i : ℕ) (e : Entry) → i < length es → e ≡ get_or es i e → Hold g [] (take i es) → HoldsNow g (take i es) e → Hold g [] (take (i + 1) es)
hold_next g es i e lt here h n =
    subst (λ (xs : Accesses). Hold g [] xs) (ap (λ (y : Entry). take i es ++ y ∷ []) here ∙ sym (take_more es i e lt)) (hold_more g [] (take i es) e h n)

-- what the list is at a place
split_at : (es : Accesses) (i : ℕ) (e : Entry) → i < length es → e ≡ get_or es i e → es ≡ take i es ++ e ∷ drop (i + 1) es
split_at es i e lt here = sym (take-append-drop i es) ∙ ap (λ (r : Accesses). take i es ++ r) (drop_more es i e lt ∙ ap (λ (y : Entry). y ∷ drop (i + 1) es) (sym here))

pub differs_at : (g : Content) (es : Accesses) (i : ℕ) (e : Entry) (k : ℕ) (old new : Answer) → i < length es → e ≡ get_or es i e → Hold g [] (take i es)
    → DiffersNow g (take i es) e k old new → Differs g es k old new
differs_at g es i e k old new lt here h d = record { earlier = take i es; e = e; later = drop (i + 1) es; is = split_at es i e lt here; hold = h; differs = d }

hold_at : (g : Content) (front xs : Accesses) (e : Entry) (later : Accesses) → Hold g front (xs ++ e ∷ later) → HoldsNow g (front ++ xs) e
hold_at g front [] e later h = subst (λ (f : Accesses). HoldsNow g f e) (sym (append_nil front)) h.0
hold_at g front (x ∷ xs) e later h = subst (λ (f : Accesses). HoldsNow g f e) (append_assoc front (x ∷ []) xs) (hold_at g (front ++ x ∷ []) xs e later h.1)

unheld : (g : Content) (earlier : Accesses) (e : Entry) (k : ℕ) (old new : Answer) → DiffersNow g earlier e k old new → HoldsNow g earlier e → ⊥
unheld g earlier (entry.Access a r) k old new d h = d.1.differ (d.1.now ∙ h d.0 ∙ sym d.1.then)
unheld g earlier (entry.Unlock u) k old new d h = d

-- a clash comes only where a read doesn't hold
pub exact : (t : Transaction) (g : Content) (r : Outcome) → CommitsAs t g r → (r ≡ outcome.Done) ↔ (t.serial ≡ true → Hold g [] t.accesses)
exact t g outcome.Done h = (λ e. h, λ f. refl)
exact t g (outcome.Clash c) h =
    let d : Differs g t.accesses c.place c.then c.now = h.1 in
    (λ e. absurd cc, λ f. absurd (unheld g d.earlier d.e c.place c.then c.now d.differs (hold_at g [] d.earlier d.e d.later (subst (λ (xs : Accesses). Hold g [] xs) d.is (f h.0)))))

-- ---- reads whose stamps stand still

hold_by : (g : Content) (front xs : Accesses) → ((i : ℕ) (e : Entry) → slice_get xs i ≡ Some e → HoldsNow g (front ++ take i xs) e) → Hold g front xs
hold_by g front [] each = tt
hold_by g front (x ∷ xs) each = (
  subst (λ (f : Accesses). HoldsNow g f x) (append_nil front) (each zero x refl),
  hold_by g (front ++ x ∷ []) xs (λ i e at. subst (λ (f : Accesses). HoldsNow g f e) (sym (append_assoc front (x ∷ []) (take i xs))) (each (suc i) e at)),
)

-- an access holds that isn't stale
pub fresh_holds : (g : Stamped) (earlier : Accesses) (e : Entry) (s : ℕ) → FollowsAt g earlier e s → is_stale g.stamps e s ≡ false → HoldsNow g.content earlier e
fresh_holds g earlier (entry.Access a r) s follows fresh = λ read. fresh_answer g earlier a r s (follows read) fresh read
fresh_holds g earlier (entry.Unlock u) s follows fresh = tt

-- and all do where none is
pub all_hold : (g : Stamped) (es : Accesses) (ss : List ℕ) → length ss ≡ length es → AreFollowing g es ss → stale_among g.stamps es ss ≡ 0 → Hold g.content [] es
all_hold g es ss len follows none = hold_by g.content [] es (λ i e at.
    let lt : i < length es = slice_get_within es i e at in
    let kept : slice_get ss i ≡ Some (get_or ss i 0) = slice_get-get_or ss i 0 (omega (arith, len, lt)) in
    fresh_holds g (take i es) e (get_or ss i 0) (follows i e (get_or ss i 0) at kept) (none_stale g.stamps es ss none i e (get_or ss i 0) at kept))

-- ---- changes

changes_more : (xs : Accesses) (e : Entry) → changes_of (xs ++ e ∷ []) ≡ changes_of xs ++ changes_of (e ∷ [])
changes_more [] e = refl
changes_more (entry.Unlock u ∷ xs) e = changes_more xs e
changes_more (entry.Access a r ∷ xs) e =
    elim (change_of a) as (λ c. cons_option c (changes_of (xs ++ e ∷ [])) ≡ cons_option c (changes_of xs) ++ changes_of (e ∷ [])) [
      | None ↦ changes_more xs e
      | Some c ↦ ap (λ (cs : List Change). c ∷ cs) (changes_more xs e)
    ]

pub changes_next : (es : Accesses) (i : ℕ) (e : Entry) → i < length es → e ≡ get_or es i e → changes_of (take (i + 1) es) ≡ changes_of (take i es) ++ changes_of (e ∷ [])
changes_next es i e lt here =
    ap changes_of (take_more es i e lt ∙ ap (λ (y : Entry). take i es ++ y ∷ []) (sym here)) ∙ changes_more (take i es) e

-- those of the last one, where no other makes a change
pub changes_last : (es xs : Accesses) (e : Entry) → es ≡ xs ++ e ∷ [] → changes_of xs ≡ [] → changes_of es ≡ changes_of (e ∷ [])
changes_last es xs e is none = ap changes_of is ∙ changes_more xs e ∙ ap (λ (cs : List Change). cs ++ changes_of (e ∷ [])) none

-- the changes leave what is seen
pub changes_seen : (es : Accesses) (g : Content) → after_changes g (changes_of es) ≡ seen g es
changes_seen [] g = refl
changes_seen (entry.Unlock u ∷ es) g = changes_seen es g
changes_seen (entry.Access (access.Value n) r ∷ es) g = changes_seen es g
changes_seen (entry.Access (access.Data n) r ∷ es) g = changes_seen es g
changes_seen (entry.Access (access.Order n way) r ∷ es) g = changes_seen es g
changes_seen (entry.Access (access.Query n) r ∷ es) g = changes_seen es g
changes_seen (entry.Access (access.Subtree n) r ∷ es) g = changes_seen es g
changes_seen (entry.Access (access.Set n v) r ∷ es) g = changes_seen es (after_access (access.Set n v) g)
changes_seen (entry.Access (access.Kill n) r ∷ es) g = changes_seen es (after_access (access.Kill n) g)
changes_seen (entry.Access (access.Put n nodes) r ∷ es) g =
    elim (is_too_deep n nodes) as (λ b. after_changes g (cons_option (cond b None (Some (change.Put n nodes))) (changes_of es)) ≡ seen (cond b g (after_put g n nodes)) es) [
      | true ↦ changes_seen es g
      | false ↦ changes_seen es (after_put g n nodes)
    ]

-- none of them gives a name too many subscripts
pub none_deep : (es : Accesses) → list_any goes_too_deep (changes_of es) ≡ false
none_deep [] = refl
none_deep (entry.Unlock u ∷ es) = none_deep es
none_deep (entry.Access (access.Value n) r ∷ es) = none_deep es
none_deep (entry.Access (access.Data n) r ∷ es) = none_deep es
none_deep (entry.Access (access.Order n way) r ∷ es) = none_deep es
none_deep (entry.Access (access.Query n) r ∷ es) = none_deep es
none_deep (entry.Access (access.Subtree n) r ∷ es) = none_deep es
none_deep (entry.Access (access.Set n v) r ∷ es) = none_deep es
none_deep (entry.Access (access.Kill n) r ∷ es) = none_deep es
none_deep (entry.Access (access.Put n nodes) r ∷ es) =
    elim (is_too_deep n nodes) as (λ b. is_too_deep n nodes ≡ b → list_any goes_too_deep (cons_option (cond b None (Some (change.Put n nodes))) (changes_of es)) ≡ false) [
      | true ↦ λ q. none_deep es
      | false ↦ λ q. ap (λ b. b || list_any goes_too_deep (changes_of es)) q ∙ none_deep es
    ] refl

-- one SET is the only change
pub set_seen : (es : Accesses) (g : Content) (n : Name) (v : List ℕ) → changes_of es ≡ change.Set n v ∷ [] → after_set g n v ≡ seen g es
set_seen es g n v is = sym (ap (after_changes g) is) ∙ changes_seen es g

pub set_others : (es : Accesses) (n : Name) (v : List ℕ) (old new : Stamps) → changes_of es ≡ change.Set n v ∷ [] → KeepsStamps (same_word n) old new
    → KeepsStamps (are_to (changes_of es)) old new
set_others es n v old new is kept m e = kept m (either_false (same_word n m) (sym (ap (λ (cs : List Change). are_to cs m) is) ∙ e)) where
  either_false : (b : Bool) → (b || false) ≡ false → b ≡ false
  either_false true h = h
  either_false false h = refl
