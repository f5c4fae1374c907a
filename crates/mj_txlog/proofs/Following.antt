-- A transaction goes on following the globals, whatever changes in them and whatever it does.
use Rattle.std.proofs.Common.{◌≡◌, ℕ, zero, suc, ◌+◌, ◌≤◌, ◌<◌, Bool, true, false, not, cond, ◌&&◌, List, [], ◌∷◌, ◌++◌, length, take, get_or, Some, None, refl, sym, ap, ◌∙◌, subst, arith}
use Rattle.std.specs.Prelude.{T, ◌↔◌, IsTrue, nat_lt, slice_get, if◌then◌else◌}
use Rattle.std.specs.FinMap.{find, is_sorted}
use Rattle.std.specs.Option.{is_some}
use Rattle.std.proofs.lemmas.Bool.{ltb-true, ltb-false}
use Rattle.std.proofs.lemmas.List.{length-append, length-take, take_all, take_more}
use Rattle.std.proofs.lemmas.Option.{same_Some, slice_get-get_or, slice_get_within, slice_get_read}
use Rattle.mj_subs.specs.Name.{Name}
use Rattle.mj_subs.specs.Collation.{subscript_cmp, name_cmp}
use Rattle.mj_store.specs.Nodes.{after_front}
use Rattle.mj_store.specs.Questions.{Content, same_word, rest_of}
use Rattle.mj_store.specs.Runs.{name_of, answer_of, after_access, after_accesses}
use Rattle.mj_store.specs.declared.access.Access.{Access}
use Rattle.mj_store.specs.declared.access.Access.TheVariants as access
use Rattle.mj_store.specs.declared.access.Answer.{Answer}
use Rattle.mj_globs.specs.Stamps.{Stamps, Stamped, stamp_at, is_still, Rises}
use Rattle.mj_globs.proofs.Stamping.{still_same, one_stamp}
use Rattle.mj_txlog.specs.declared.entry.Entry.{Entry}
use Rattle.mj_txlog.specs.declared.entry.Entry.TheVariants as entry
use Rattle.mj_txlog.specs.Accesses.{Accesses, is_write, writes_of, seen}
use Rattle.mj_txlog.specs.Sight.{reach_of}
use Rattle.mj_txlog.specs.Logged.{Logged}
use Rattle.mj_txlog.specs.Follows.{FollowsNow, FollowsAt, AreFollowing, Follows, is_stale, stale_among}
use Rattle.mj_txlog.proofs.Alike.{same_access}
use Rattle.mj_txlog.proofs.Looks.{answer_alike}
use Rattle.mj_txlog.proofs.Sorted.{rises_seen}

-- ---- the globals change

-- accesses leave the same text where the same was before
same_accesses : (m : Name) (ws : List Access) (c d : Content) → find name_cmp m c ≡ find name_cmp m d → find name_cmp m (after_accesses ws c) ≡ find name_cmp m (after_accesses ws d)
same_accesses m [] c d e = e
same_accesses m (a ∷ ws) c d e = same_accesses m ws (after_access a c) (after_access a d) (same_access m a c d e)

below_word : (n m : Name) → is_some (rest_of n m) ≡ true → same_word n m ≡ true
below_word n m e = by (same_word n m) e where
  by : (b : Bool) → is_some (cond b (after_front subscript_cmp n.subscripts m.subscripts) None) ≡ true → b ≡ true
  by true h = refl
  by false h = absurd cc

-- what a read depends on is of its name's word
reach_word : (a : Access) (m : Name) → is_write a ≡ false → is_some (rest_of (reach_of a) m) ≡ true → same_word (name_of a) m ≡ true
reach_word (access.Value n) m read e = below_word n m e
reach_word (access.Data n) m read e = below_word n m e
reach_word (access.Order n way) m read e = below_word (reach_of (access.Order n way)) m e
reach_word (access.Query n) m read e = below_word (reach_of (access.Query n)) m e
reach_word (access.Subtree n) m read e = below_word n m e
reach_word (access.Set n v) m read e = absurd cc
reach_word (access.Kill n) m read e = absurd cc
reach_word (access.Put n nodes) m read e = absurd cc

-- as long as its word's stamp stands still, a read has its answer
still_answer : (g h : Stamped) (a : Access) (es : Accesses) → T (is_sorted name_cmp g.content) → T (is_sorted name_cmp h.content) → is_write a ≡ false → Rises g h
    → is_still (stamp_at g.stamps (name_of a)) (stamp_at h.stamps (name_of a)) ≡ true → answer_of a (seen h.content es) ≡ answer_of a (seen g.content es)
still_answer g h a es hg hh read rises still =
    answer_alike (seen h.content es) (seen g.content es) (rises_seen h.content es hh) (rises_seen g.content es hg) a read (λ m at.
    let word = reach_word a m read at in
    same_accesses m (writes_of es) h.content g.content
    (rises.still m ((λ i. is_still (sym (one_stamp g.stamps (name_of a) m word) i) (sym (one_stamp h.stamps (name_of a) m word) i)) ∙ still)))

at_on : (g h : Stamped) (earlier : Accesses) (e : Entry) (s : ℕ) → T (is_sorted name_cmp g.content) → T (is_sorted name_cmp h.content) → Rises g h → FollowsAt g earlier e s → FollowsAt h earlier e s
at_on g h earlier (entry.Unlock u) s hg hh rises was = tt
at_on g h earlier (entry.Access a r) s hg hh rises was = λ read.
    let behind = (was read).behind in
    let up = rises.up (name_of a) in
    record {
      behind = omega (arith, behind, up);
      still = λ e.
          let same : s ≡ stamp_at h.stamps (name_of a) = still_same s _ e in
          let mid : stamp_at g.stamps (name_of a) ≡ s = omega (arith, behind, up, same) in
          still_answer g h a earlier hg hh read rises (subst (λ k. is_still k (stamp_at h.stamps (name_of a)) ≡ true) (sym mid) e)
          ∙ (was read).still (subst (λ k. is_still s k ≡ true) (sym same ∙ sym mid) e);
    }

pub following_on : (g h : Stamped) (es : Accesses) (ss : List ℕ) → T (is_sorted name_cmp g.content) → T (is_sorted name_cmp h.content) → Rises g h → AreFollowing g es ss → AreFollowing h es ss
following_on g h es ss hg hh rises follows i e s at kept = at_on g h (take i es) e s hg hh rises (follows i e s at kept)

pub follows_on : (g h : Stamped) (log : Logged) → T (is_sorted name_cmp g.content) → T (is_sorted name_cmp h.content) → Rises g h → Follows log g → Follows log h
follows_on g h log hg hh rises follows = following_on g h log.transaction.accesses log.stamps hg hh rises follows

-- ---- the transaction goes on

pub none_following : (g : Stamped) (ss : List ℕ) → AreFollowing g [] ss
none_following g ss i e s at = absurd (let no : ⊥ = cc in no)

get_front : {X : Type 0} (xs : List X) (y : X) (i : ℕ) → i < length xs → slice_get (xs ++ y ∷ []) i ≡ slice_get xs i
get_front [] y i h = absurd (omega (arith, h))
get_front (x ∷ xs) y zero h = refl
get_front (x ∷ xs) y (suc i) h = get_front xs y i (omega (arith, h))

get_last : {X : Type 0} (xs : List X) (y : X) → slice_get (xs ++ y ∷ []) (length xs) ≡ Some y
get_last [] y = refl
get_last (x ∷ xs) y = get_last xs y

take_front : {X : Type 0} (xs : List X) (y : X) (i : ℕ) → i ≤ length xs → take i (xs ++ y ∷ []) ≡ take i xs
take_front [] y zero h = refl
take_front [] y (suc i) h = absurd (omega (arith, h))
take_front (x ∷ xs) y zero h = refl
take_front (x ∷ xs) y (suc i) h = ap (λ l. x ∷ l) (take_front xs y i (omega (arith, h)))

take_whole : {X : Type 0} (xs : List X) → take (length xs) xs ≡ xs
take_whole [] = refl
take_whole (x ∷ xs) = ap (λ l. x ∷ l) (take_whole xs)

-- one access more, which follows too
pub following_more : (g : Stamped) (es : Accesses) (ss : List ℕ) (e : Entry) (s : ℕ) → length ss ≡ length es → AreFollowing g es ss → FollowsAt g es e s → AreFollowing g (es ++ e ∷ []) (ss ++ s ∷ [])
following_more g es ss e s len follows last i x t at kept = by (nat_lt i (length es)) refl where
  inside : i < length (es ++ e ∷ [])
  inside = slice_get_within (es ++ e ∷ []) i x at

  by : (b : Bool) → nat_lt i (length es) ≡ b → FollowsAt g (take i (es ++ e ∷ [])) x t
  by true q =
      let below = ltb-true i (length es) q in
      subst (λ (xs : Accesses). FollowsAt g xs x t) (sym (take_front es e i (omega (arith, below))))
      (follows i x t (sym (get_front es e i below) ∙ at) (sym (get_front ss s i (omega (arith, below, len))) ∙ kept))
  by false q =
      let above = ltb-false i (length es) q in
      let is : i ≡ length es = omega (arith, above, inside, length-append es (e ∷ [])) in
      let entry_is : e ≡ x = same_Some e x (sym (get_last es e) ∙ ap (slice_get (es ++ e ∷ [])) (sym is) ∙ at) in
      let stamp_is : s ≡ t = same_Some s t (sym (get_last ss s) ∙ ap (slice_get (ss ++ s ∷ [])) (len ∙ sym is) ∙ kept) in
      subst (λ k. FollowsAt g (take i (es ++ e ∷ [])) x k) stamp_is
      (subst (λ (y : Entry). FollowsAt g (take i (es ++ e ∷ [])) y s) entry_is
      (subst (λ (xs : Accesses). FollowsAt g xs e s) (sym (ap (λ k. take k (es ++ e ∷ [])) is ∙ take_front es e (length es) (omega arith) ∙ take_whole es)) last))

-- and where all do, each does
pub following_at : (g : Stamped) (es : Accesses) (ss : List ℕ) (i : ℕ) (e : Entry) (d : ℕ) → length ss ≡ length es → i < length es → e ≡ get_or es i e
    → AreFollowing g es ss → FollowsAt g (take i es) e (get_or ss i d)
following_at g es ss i e d len lt at follows =
    follows i e (get_or ss i d) (slice_get_read es (length es) i e refl lt at) (slice_get-get_or ss i d (omega (arith, len, lt)))

-- the accesses so far follow, and so does the next
pub following_next : (g : Stamped) (es : Accesses) (ss : List ℕ) (i : ℕ) (e : Entry) (d : ℕ) → length ss ≡ length es → i < length es → e ≡ get_or es i e
    → AreFollowing g (take i es) (take i ss) → FollowsAt g (take i es) e (get_or ss i d) → AreFollowing g (take (i + 1) es) (take (i + 1) ss)
following_next g es ss i e d len lt at so last =
    subst (λ (xs : Accesses). AreFollowing g xs (take (i + 1) ss)) (sym (take_more es i e lt ∙ ap (λ (y : Entry). take i es ++ y ∷ []) (sym at)))
    (subst (λ (ts : List ℕ). AreFollowing g (take i es ++ e ∷ []) ts) (sym (take_more ss i d (omega (arith, len, lt))))
    (following_more g (take i es) (take i ss) e (get_or ss i d) (omega (arith, len, lt, length-take i es, length-take i ss)) so last))

-- and at the end they are all
pub following_whole : (g : Stamped) (es : Accesses) (ss : List ℕ) (i : ℕ) → length ss ≡ length es → length es ≤ i → AreFollowing g (take i es) (take i ss) → AreFollowing g es ss
following_whole g es ss i len all so =
    subst (λ (xs : Accesses). AreFollowing g xs ss) (take_all i es all)
    (subst (λ (ts : List ℕ). AreFollowing g (take i es) ts) (take_all i ss (omega (arith, len, all))) so)

-- ---- one access, by its cases

pub still_follows : (g : Stamped) (earlier : Accesses) (a : Access) (r : Answer) (s : ℕ) (b : Bool) → is_write a ≡ false → s ≤ stamp_at g.stamps (name_of a)
    → is_still s (stamp_at g.stamps (name_of a)) ≡ true → IsTrue b ↔ (answer_of a (seen g.content earlier) ≡ r) → IsTrue b ↔ FollowsAt g earlier (entry.Access a r) s
still_follows g earlier a r s b read behind still has =
    (λ t read. record { behind = behind; still = λ e. has.0 t }, λ follows. has.1 ((follows read).still still))

-- a test of an access tells whether it is so
pub told_access : (g : Stamped) (earlier : Accesses) (e x : Entry) (s : ℕ) (b : Bool) → e ≡ x → IsTrue b ↔ FollowsAt g earlier x s → IsTrue b ↔ FollowsAt g earlier e s
told_access g earlier e x s b is told = subst (λ (y : Entry). IsTrue b ↔ FollowsAt g earlier y s) (sym is) told

-- ---- what isn't stale has its answer

still_read : (stamps : Stamps) (a : Access) (r : Answer) (s : ℕ) → is_stale stamps (entry.Access a r) s ≡ false → is_write a ≡ false → is_still s (stamp_at stamps (name_of a)) ≡ true
still_read stamps a r s fresh read = by (is_still s (stamp_at stamps (name_of a))) (ap (λ w. not w && not (is_still s (stamp_at stamps (name_of a)))) (sym read) ∙ fresh) where
  by : (b : Bool) → not b ≡ false → b ≡ true
  by true h = refl
  by false h = absurd cc

pub fresh_answer : (g : Stamped) (earlier : Accesses) (a : Access) (r : Answer) (s : ℕ) → FollowsNow g earlier a r s → is_stale g.stamps (entry.Access a r) s ≡ false → is_write a ≡ false
    → answer_of a (seen g.content earlier) ≡ r
fresh_answer g earlier a r s follows fresh read = follows.still (still_read g.stamps a r s fresh read)

-- where none is stale, none of them is
pub none_stale : (stamps : Stamps) (es : Accesses) (ss : List ℕ) → stale_among stamps es ss ≡ 0
    → (i : ℕ) (e : Entry) (s : ℕ) → slice_get es i ≡ Some e → slice_get ss i ≡ Some s → is_stale stamps e s ≡ false
none_stale stamps [] ss none i e s at kept = absurd (let no : ⊥ = cc in no)
none_stale stamps (x ∷ es) [] none i e s at kept = absurd (let no : ⊥ = cc in no)
none_stale stamps (x ∷ es) (y ∷ ss) none zero e s at kept =
    (λ i. is_stale stamps (same_Some e x (sym at) i) (same_Some s y (sym kept) i)) ∙ by (is_stale stamps x y) none
  where
    by : (b : Bool) → (if b then 1 else 0) + stale_among stamps es ss ≡ 0 → b ≡ false
    by true h = absurd (let no : ⊥ = omega (arith, h) in no)
    by false h = refl
none_stale stamps (x ∷ es) (y ∷ ss) none (suc i) e s at kept = none_stale stamps es ss (omega (arith, none)) i e s at kept

-- how many are stale of one more
pub stale_more : (stamps : Stamps) (es : Accesses) (ss : List ℕ) (e : Entry) (s : ℕ) → length ss ≡ length es
    → stale_among stamps (es ++ e ∷ []) (ss ++ s ∷ []) ≡ stale_among stamps es ss + (if is_stale stamps e s then 1 else 0)
stale_more stamps [] [] e s len = omega arith
stale_more stamps [] (y ∷ ss) e s len = absurd (omega (arith, len))
stale_more stamps (x ∷ es) [] e s len = absurd (omega (arith, len))
stale_more stamps (x ∷ es) (y ∷ ss) e s len = let more = stale_more stamps es ss e s (omega (arith, len)) in omega (arith, more)

pub stale_next : (stamps : Stamps) (es : Accesses) (ss : List ℕ) (i : ℕ) (e : Entry) (d : ℕ) → length ss ≡ length es → i < length es → e ≡ get_or es i e
    → stale_among stamps (take (i + 1) es) (take (i + 1) ss) ≡ stale_among stamps (take i es) (take i ss) + (if is_stale stamps e (get_or ss i d) then 1 else 0)
stale_next stamps es ss i e d len lt at =
    ap (λ (xs : Accesses). stale_among stamps xs (take (i + 1) ss)) (take_more es i e lt ∙ ap (λ (y : Entry). take i es ++ y ∷ []) (sym at))
    ∙ ap (λ (ts : List ℕ). stale_among stamps (take i es ++ e ∷ []) ts) (take_more ss i d (omega (arith, len, lt)))
    ∙ stale_more stamps (take i es) (take i ss) e (get_or ss i d) (omega (arith, len, lt, length-take i es, length-take i ss))

pub stale_most : (stamps : Stamps) (es : Accesses) (ss : List ℕ) → stale_among stamps es ss ≤ length es
stale_most stamps [] ss = omega arith
stale_most stamps (x ∷ es) [] = omega arith
stale_most stamps (x ∷ es) (y ∷ ss) = let rest = stale_most stamps es ss in by (is_stale stamps x y) rest where
  by : (b : Bool) → stale_among stamps es ss ≤ length es → (if b then 1 else 0) + stale_among stamps es ss ≤ suc (length es)
  by true h = omega (arith, h)
  by false h = omega (arith, h)
