-- A refused listing is refused by its first line that isn't one of globals, and for one reason; and globals have one listing of each version at most.
use Rattle.std.proofs.Common.{◌≡◌, ◌⊎◌, inl, inr, ◌∙◌, ◌+◌, suc, ℕ, Bool, true, false, cond, ◌&&◌, eqb, eqb-true, List, [], ◌∷◌, ◌++◌, length, length-append, Option, Some, None, Result, Ok, Err, refl, sym, ap, subst, append_assoc, arith}
use Rattle.std.specs.Prelude.{IfErr}
use Rattle.std.specs.List.{list_all}
use Rattle.std.specs.Ordering.{is_lt}
use Rattle.std.specs.declared.cmp.Ordering.{Ordering}
use Rattle.std.specs.declared.cmp.Ordering.TheVariants.{Less, Equal, Greater}
use Rattle.std.proofs.lemmas.List.Folds.{list_all-append}
use Rattle.mj_text.specs.declared.limit.Limit.{Limit}
use Rattle.mj_text.specs.Limit.{smaller}
use Rattle.mj_subs.specs.Name.{Name}
use Rattle.mj_subs.specs.Collation.{name_cmp}
use Rattle.mj_nref.specs.Spelling.{is_filled}
use Rattle.mj_store.specs.Questions.{Content}
use Rattle.mj_gfile.specs.declared.error.ReadError.{ReadError}
use Rattle.mj_gfile.specs.declared.error.ReadError.TheVariants as error
use Rattle.mj_gfile.specs.Spelling.{is_any_word, listed_line, listed_lines, header, listing_of}
use Rattle.mj_gfile.specs.Spelled.{HasOneSpelling}
use Rattle.mj_gfile.specs.Reading.{line_of}
use Rattle.mj_gfile.specs.Listing.{is_small_node, begun_by, lines_of, is_after, judged, before, followed, nodes_of, version_of, behind_header, headed, reading_of, are_bytes, is_node}
use Rattle.mj_gfile.specs.Refused.{is_any_subscript, is_any_node, HasLine, IsUnspelled, IsOverLimit, IsOutOfOrder, IsFirst, IsListingRefused, HasOneReason}
use Rattle.mj_gfile.specs.Laws.Texts.{both_true}
use Rattle.mj_gfile.specs.Laws.Names.{AreSubs}
use Rattle.mj_gfile.specs.Laws.Listings.{IsSpelled, node_parts, rises_all, judged_ok, line_of-listed, IsLine, line_of-IsLine, node_whole, AreWithin, line_first, line_within, Rises, sorted_of, header_within, version_of-header, version_is, reading}

-- ---- a line at the front

-- the bytes at whose front a line stands that is ended, and what follows it
abbrev pub Cut : List ℕ → List ℕ → List (List ℕ × Bool) → Type 0
Cut bs l ls = (r : List ℕ) × (bs ≡ l ++ 10 ∷ r) × (lines_of r ≡ ls)

module _ (c : ℕ) (cs : List ℕ) (rec : (k : List ℕ) (ms : List (List ℕ × Bool)) → lines_of cs ≡ (k, true) ∷ ms → Cut cs k ms) (l : List ℕ) (ls : List (List ℕ × Bool)) where
  cut_longer : (m : List (List ℕ × Bool)) → lines_of cs ≡ m → begun_by c m ≡ (l, true) ∷ ls → Cut (c ∷ cs) l ls
  cut_longer [] m f = absurd (let both : ◌≡◌ {A = List ℕ × Bool} (c ∷ [], false) (l, true) = cc in let ended : false ≡ true = ap (λ x. x.1) both in cc)
  cut_longer ((k, b) ∷ ms) m f =
      let both : ◌≡◌ {A = List ℕ × Bool} (c ∷ k, b) (l, true) = cc in
      let same : ms ≡ ls = cc in
      let more = rec k ls (m ∙ (λ i. (k, (both i).1) ∷ same i)) in
      (more.0, ap (λ x. c ∷ x) more.1 ∙ ap (λ x. x.0 ++ 10 ∷ more.0) both, more.2)

  cut_by : (b : Bool) → eqb c 10 ≡ b → cond b (([], true) ∷ lines_of cs) (begun_by c (lines_of cs)) ≡ (l, true) ∷ ls → Cut (c ∷ cs) l ls
  cut_by true d f =
      let both : ◌≡◌ {A = List ℕ × Bool} ([], true) (l, true) = cc in
      let same : lines_of cs ≡ ls = cc in
      (cs, ap (λ x. x ∷ cs) (eqb-true c 10 d) ∙ ap (λ x. x.0 ++ 10 ∷ cs) both, same)
  cut_by false d f = cut_longer (lines_of cs) refl f

pub cut_line : (bs l : List ℕ) (ls : List (List ℕ × Bool)) → lines_of bs ≡ (l, true) ∷ ls → Cut bs l ls
cut_line [] l ls e = absurd cc
cut_line (c ∷ cs) l ls e = cut_by c cs (λ k ms f. cut_line cs k ms f) l ls (eqb c 10) refl e

-- a line that stands at the front is the first
pub first_line : (line bs l : List ℕ) (b : Bool) (ls : List (List ℕ × Bool)) → AreWithin line → HasLine line bs → lines_of bs ≡ (l, b) ∷ ls → (l ≡ line) × (b ≡ true)
first_line line bs l b ls within has e =
    let all : (l, b) ∷ ls ≡ (line, true) ∷ lines_of has.rest =
    sym e ∙ ap lines_of (has.is ∙ append_assoc line (10 ∷ []) has.rest) ∙ line_first line has.rest within in
    let both : ◌≡◌ {A = List ℕ × Bool} (l, b) (line, true) = cc in
    (ap (λ x. x.0) both, ap (λ x. x.1) both)

pub has_line : (line bs r : List ℕ) → bs ≡ line ++ 10 ∷ r → HasLine line bs
has_line line bs r e = record { rest = r; is = e ∙ sym (append_assoc line (10 ∷ []) r) }

pub some_lines : (bs l : List ℕ) (b : Bool) (ls : List (List ℕ × Bool)) → lines_of bs ≡ (l, b) ∷ ls → bs ≡ [] → ⊥
some_lines bs l b ls e none = absurd (let no : [] ≡ (l, b) ∷ ls = ap lines_of (sym none) ∙ e in cc)

-- ---- nodes of any size

subs_any : (ss : List (List ℕ)) → AreSubs ss → list_all is_any_subscript ss ≡ true
subs_any [] k = refl
subs_any (s ∷ ss) k = λ i. (k.0.filled i && k.0.bytes i) && subs_any ss k.1 i

any_subs : (ss : List (List ℕ)) → list_all is_any_subscript ss ≡ true → AreSubs ss
any_subs [] h = tt
any_subs (s ∷ ss) h =
    let p = both_true (is_any_subscript s) (list_all is_any_subscript ss) h in
    let q = both_true (is_filled s) (are_bytes s) p.0 in
    (record { filled = q.0; bytes = q.1 }, any_subs ss p.1)

spelled_any : (e : Name × List ℕ) → IsSpelled e → is_any_node e ≡ true
spelled_any e k = λ i. ((k.global i && k.word i) && subs_any e.0.subscripts k.subs i) && k.text i

any_spelled : (e : Name × List ℕ) → is_any_node e ≡ true → IsSpelled e
any_spelled e h =
    let a = both_true (e.0.global && is_any_word e.0.word && list_all is_any_subscript e.0.subscripts) (are_bytes e.1) h in
    let b = both_true (e.0.global && is_any_word e.0.word) (list_all is_any_subscript e.0.subscripts) a.0 in
    let c = both_true e.0.global (is_any_word e.0.word) b.0 in
    record { global = c.0; word = c.1; subs = any_subs e.0.subscripts b.1; text = a.1 }

-- ---- lines behind others

-- the name of the last line of these, or else this one
last_of : Option Name → Content → Option Name
last_of last [] = last
last_of last (e ∷ es) = last_of (Some e.0) es

rises_added : (last : Option Name) (es : Content) (e : Name × List ℕ) → Rises last es → is_after (last_of last es) e.0 ≡ true → Rises last (es ++ e ∷ [])
unfolding last_of
rises_added last [] e h k = (k, tt)
rises_added last (d ∷ es) e h k = (h.0, rises_added (Some d.0) es e h.1 k)

last_added : (last : Option Name) (es : Content) (e : Name × List ℕ) → last_of last (es ++ e ∷ []) ≡ Some e.0
unfolding last_of
last_added last [] e = refl
last_added last (d ∷ es) e = last_added (Some d.0) es e

lines_added : (es : Content) (e : Name × List ℕ) → listed_lines (es ++ e ∷ []) ≡ listed_lines es ++ (listed_line e ++ 10 ∷ [])
lines_added [] e = refl
lines_added (d ∷ es) e = ap (λ l. listed_line d ++ 10 ∷ l) (lines_added es e) ∙ sym (append_assoc (listed_line d) (10 ∷ listed_lines es) (listed_line e ++ 10 ∷ []))

-- the last of these lines, where this name doesn't stand after it
record IsLast (es : Content) (n : Name) : Type 0 where
  front : Content
  last : Name × List ℕ
  behind : es ≡ front ++ last ∷ []
  order : ¬ (name_cmp last.0 n ≡ Less)

not_less : (m n : Name) → is_after (Some m) n ≡ false → ¬ (name_cmp m n ≡ Less)
not_less m n h e = absurd (let no : is_lt Less ≡ false = ap is_lt (sym e) ∙ h in cc)

last_before : (d : Name × List ℕ) (es : Content) (n : Name) → is_after (last_of (Some d.0) es) n ≡ false → IsLast (d ∷ es) n
unfolding last_of
last_before d [] n h = record { front = []; last = d; behind = refl; order = not_less d.0 n h }
last_before d (e ∷ es) n h =
    let more = last_before e es n h in record { front = d ∷ more.front; last = more.last; behind = ap (λ l. d ∷ l) more.behind; order = more.order }

last_there : (es : Content) (n : Name) → is_after (last_of None es) n ≡ false → IsLast es n
unfolding last_of
last_there [] n h = absurd cc
last_there (d ∷ es) n h = last_before d es n h

-- ---- up to the line that is refused

-- up to these bytes, which are the lines from k on, the bytes are the listing of these globals
record IsUpTo (limit version : Limit) (bytes : List ℕ) (es : Content) (k : ℕ) (rest : List ℕ) : Type 0 where
  cut : bytes ≡ listing_of version es ++ rest
  nodes : list_all (is_node (smaller version limit)) es ≡ true
  rise : Rises None es
  place : k ≡ length es + 2

module _ (limit version : Limit) (bytes : List ℕ) (es : Content) (k : ℕ) (rest : List ℕ) (u : IsUpTo limit version bytes es k rest) where
  first : (IsWhy : Limit → Content → List ℕ → Type 0) → IsWhy (smaller version limit) es rest → IsFirst limit bytes k IsWhy
  first IsWhy why = record { version = version; before = es; rest = rest; cut = u.cut; globals = record { nodes = u.nodes; rise = sorted_of None es u.rise }; place = u.place; why = why }

  more : (e : Name × List ℕ) (r : List ℕ) → rest ≡ listed_line e ++ 10 ∷ r → is_node (smaller version limit) e ≡ true → is_after (last_of None es) e.0 ≡ true
      → IsUpTo limit version bytes (es ++ e ∷ []) (suc k) r
  more e r at can after = record {
    cut = u.cut ∙ ap (λ x. listing_of version es ++ x) (at ∙ sym (append_assoc (listed_line e) (10 ∷ []) r))
        ∙ sym (append_assoc (listing_of version es) (listed_line e ++ 10 ∷ []) r)
        ∙ ap (λ x. x ++ r) (append_assoc (header version) (10 ∷ listed_lines es) (listed_line e ++ 10 ∷ []) ∙ ap (λ x. header version ++ 10 ∷ x) (sym (lines_added es e)));
    nodes = list_all-append (is_node (smaller version limit)) es (e ∷ []) ∙ (λ i. u.nodes i && (can i && true));
    rise = rises_added None es e u.rise after;
    place = let one = length-append es (e ∷ []) in omega (arith, u.place, one);
  }

  module _ (l : List ℕ) (ls : List (List ℕ × Bool)) where
    -- no byte 10 ends the line
    unended : lines_of rest ≡ (l, false) ∷ ls → IsUnspelled (smaller version limit) es rest
    unended e = record {
      some = some_lines rest l false ls e;
      none = λ node can has. absurd (let ended : false ≡ true = (first_line (listed_line node) rest l false ls (line_within node (any_spelled node can)) has e).1 in cc);
    }

    -- the line says nothing
    unspelled : lines_of rest ≡ (l, true) ∷ ls → line_of l ≡ None → IsUnspelled (smaller version limit) es rest
    unspelled e none = record {
      some = some_lines rest l true ls e;
      none = λ node can has. absurd (
          let spelled = any_spelled node can in
          let is = (first_line (listed_line node) rest l true ls (line_within node spelled) has e).0 in
          let both : None ≡ Some node = sym none ∙ ap line_of is ∙ line_of-listed node spelled in
          cc
          );
    }

some_same : (e d : Name × List ℕ) → Some e ≡ Some d → e ≡ d
some_same e d h = cc

err_same : (a b : ReadError) → ◌≡◌ {A = Result Content ReadError} (Err a) (Err b) → a ≡ b
err_same a b h = cc

before_err : (e : Name × List ℕ) (r : Result Content ReadError) (x : ReadError) → before e r ≡ Err x → r ≡ Err x
before_err e (Ok es) x h = absurd cc
before_err e (Err y) x h = cc

so : (limit : Limit) (bytes : List ℕ) (x a : ReadError) → ◌≡◌ {A = Result Content ReadError} (Err a) (Err x) → IsListingRefused limit bytes a → IsListingRefused limit bytes x
so limit bytes x a h is = subst (IsListingRefused limit bytes) (err_same a x h) is

-- a line that is ended, behind which the lines ls stand
module _ (limit version : Limit) (bytes : List ℕ) (x : ReadError) (es : Content) (k : ℕ) (rest : List ℕ) (u : IsUpTo limit version bytes es k rest) (l : List ℕ) (ls : List (List ℕ × Bool))
    (e : lines_of rest ≡ (l, true) ∷ ls)
    (rec : (d : Name × List ℕ) (r : List ℕ) → IsUpTo limit version bytes (es ++ d ∷ []) (suc k) r → lines_of r ≡ ls
    → nodes_of (smaller version limit) (last_of None (es ++ d ∷ [])) (suc k) ls ≡ Err x → IsListingRefused limit bytes x) where
  has : (d : Name × List ℕ) → l ≡ listed_line d → HasLine (listed_line d) rest
  has d is = let cut = cut_line rest l ls e in has_line (listed_line d) rest cut.0 (cut.1 ∙ ap (λ y. y ++ 10 ∷ cut.0) is)

  in_place : (d : Name × List ℕ) (b : Bool) → is_after (last_of None es) d.0 ≡ b → l ≡ listed_line d → is_node (smaller version limit) d ≡ true
      → followed (cond b (Ok d) (Err (error.Order k))) (λ c. nodes_of (smaller version limit) (Some c.0) (suc k) ls) ≡ Err x → IsListingRefused limit bytes x
  in_place d true after is can f =
      let cut = cut_line rest l ls e in
      rec d cut.0 (more limit version bytes es k rest u d cut.0 (cut.1 ∙ ap (λ y. y ++ 10 ∷ cut.0) is) can after) cut.2
      (ap (λ o. nodes_of (smaller version limit) o (suc k) ls) (last_added None es d) ∙ before_err d (nodes_of (smaller version limit) (Some d.0) (suc k) ls) x f)
  in_place d false after is can f =
      let last = last_there es d.0 after in
      so limit bytes x (error.Order k) f (first limit version bytes es k rest u IsOutOfOrder (record {
        node = d;
        line = has d is;
        can = can;
        front = last.front;
        last = last.last;
        behind = last.behind;
        order = last.order;
      }))

  in_limits : (d : Name × List ℕ) (b : Bool) → is_small_node (smaller version limit) d ≡ b → l ≡ listed_line d → IsSpelled d
      → followed (cond b (cond (is_after (last_of None es) d.0) (Ok d) (Err (error.Order k))) (Err (error.Limit k))) (λ c. nodes_of (smaller version limit) (Some c.0) (suc k) ls) ≡ Err x
      → IsListingRefused limit bytes x
  in_limits d true small is spelled f = in_place d (is_after (last_of None es) d.0) refl is (node_whole (smaller version limit) d spelled small) f
  in_limits d false small is spelled f =
      so limit bytes x (error.Limit k) f (first limit version bytes es k rest u IsOverLimit (record { node = d; line = has d is; spelled = spelled_any d spelled; over = small }))

  says : (o : Option (Name × List ℕ)) → line_of l ≡ o → IsLine l o
      → followed (judged (smaller version limit) (last_of None es) k o) (λ c. nodes_of (smaller version limit) (Some c.0) (suc k) ls) ≡ Err x → IsListingRefused limit bytes x
  says None none is f = so limit bytes x (error.Line k) f (first limit version bytes es k rest u IsUnspelled (unspelled limit version bytes es k rest u l ls e none))
  says (Some d) some is f = in_limits d (is_small_node (smaller version limit) d) refl is.0 is.1 f

lines_refused : (limit version : Limit) (bytes : List ℕ) (x : ReadError) (es : Content) (k : ℕ) (rest : List ℕ) (ls : List (List ℕ × Bool)) → IsUpTo limit version bytes es k rest → lines_of rest ≡ ls
    → nodes_of (smaller version limit) (last_of None es) k ls ≡ Err x → IsListingRefused limit bytes x
lines_refused limit version bytes x es k rest [] u e h = absurd cc
lines_refused limit version bytes x es k rest ((l, false) ∷ ls) u e h =
    so limit bytes x (error.Line k) h (first limit version bytes es k rest u IsUnspelled (unended limit version bytes es k rest u l ls e))
lines_refused limit version bytes x es k rest ((l, true) ∷ ls) u e h =
    says limit version bytes x es k rest u l ls e (λ d r v f g. lines_refused limit version bytes x (es ++ d ∷ []) (suc k) r ls v f g) (line_of l) refl (line_of-IsLine l) h

-- ---- the whole

module _ (limit : Limit) (bytes : List ℕ) where
  no_header : (l : List ℕ) (b : Bool) (ls : List (List ℕ × Bool)) → lines_of bytes ≡ (l, b) ∷ ls → (b ≡ true → version_of l ≡ None) → (version : Limit) → ¬ HasLine (header version) bytes
  no_header l b ls e not_so version has =
      let is = first_line (header version) bytes l b ls (header_within version) has e in
      let is_so : version_of l ≡ Some version = ap version_of is.0 ∙ version_of-header version in
      absurd (let both : Some version ≡ None = sym is_so ∙ not_so is.1 in cc)

  no_line : lines_of bytes ≡ [] → (version : Limit) → ¬ HasLine (header version) bytes
  no_line e version has = absurd (
      let both : [] ≡ (header version, true) ∷ lines_of has.rest =
      sym e ∙ ap lines_of (has.is ∙ append_assoc (header version) (10 ∷ []) has.rest) ∙ line_first (header version) has.rest (header_within version) in
      cc
      )

  none_before : (version : Limit) (r : List ℕ) → bytes ≡ header version ++ 10 ∷ r → IsUpTo limit version bytes [] 2 r
  none_before version r e = record { cut = e ∙ sym (append_assoc (header version) (10 ∷ []) r); nodes = refl; rise = tt; place = omega arith }

  headed_refused : (x : ReadError) (ls : List (List ℕ × Bool)) → lines_of bytes ≡ ls → headed limit ls ≡ Err x → IsListingRefused limit bytes x
  unfolding last_of
  headed_refused x [] e h = so limit bytes x error.Header h (no_line e)
  headed_refused x ((l, false) ∷ ls) e h = so limit bytes x error.Header h (no_header l false ls e (λ ended. absurd cc))
  headed_refused x ((l, true) ∷ ls) e h = by (version_of l) refl h
    where
      by : (v : Option Limit) → version_of l ≡ v → behind_header limit v ls ≡ Err x → IsListingRefused limit bytes x
      by None none f = so limit bytes x error.Header f (no_header l true ls e (λ ended. none))
      by (Some version) is f =
          let cut = cut_line bytes l ls e in
          lines_refused limit version bytes x [] 2 cut.0 ls (none_before version cut.0 (cut.1 ∙ ap (λ y. y ++ 10 ∷ cut.0) (version_is l version is))) cut.2 f

-- what isn't read is refused for this reason
pub refusal : (limit : Limit) (bytes : List ℕ) (x : ReadError) → reading_of limit bytes ≡ Err x → IsListingRefused limit bytes x
refusal limit bytes x h = headed_refused limit bytes x (lines_of bytes) refl h

-- what a call gives that reads so
pub refuses_it : {A : Type 0} (limit : Limit) (bytes : List ℕ) (r : Result A ReadError) → IfErr r (λ e. (e ≡ error.Memory) ⊎ (reading_of limit bytes ≡ Err e)) → IfErr r (IsListingRefused limit bytes)
refuses_it limit bytes (Ok g) h = tt
refuses_it limit bytes (Err e) h = by h
  where
    by : (e ≡ error.Memory) ⊎ (reading_of limit bytes ≡ Err e) → IsListingRefused limit bytes e
    by (inl m) = subst (IsListingRefused limit bytes) (sym m) tt
    by (inr f) = refusal limit bytes e f

-- ---- one reason

-- behind the lines of globals it goes on with what follows
nodes_first : (limit : Limit) (last : Option Name) (k : ℕ) (es : Content) (rest : List ℕ) (x : ReadError) → list_all (is_node limit) es ≡ true → Rises last es
    → nodes_of limit (last_of last es) (k + length es) (lines_of rest) ≡ Err x → nodes_of limit last k (lines_of (listed_lines es ++ rest)) ≡ Err x
unfolding last_of
nodes_first limit last k [] rest x can up h = let same : k ≡ k + length {A = Name × List ℕ} [] = omega arith in ap (λ n. nodes_of limit last n (lines_of rest)) same ∙ h
nodes_first limit last k (e ∷ es) rest x can up h =
    let p = both_true (is_node limit e) (list_all (is_node limit) es) can in
    let q = node_parts limit e p.0 in
    let same : suc k + length es ≡ k + length (e ∷ es) = omega arith in
    ap (λ l. nodes_of limit last k (lines_of l)) (append_assoc (listed_line e) (10 ∷ listed_lines es) rest)
    ∙ ap (nodes_of limit last k) (line_first (listed_line e) (listed_lines es ++ rest) (line_within e q.0))
    ∙ ap (λ o. followed (judged limit last k o) (λ d. nodes_of limit (Some d.0) (suc k) (lines_of (listed_lines es ++ rest)))) (line_of-listed e q.0)
    ∙ ap (λ o. followed o (λ d. nodes_of limit (Some d.0) (suc k) (lines_of (listed_lines es ++ rest)))) (judged_ok limit last k e q.1 up.0)
    ∙ ap (before e) (nodes_first limit (Some e.0) (suc k) es rest x p.1 up.1 (ap (λ n. nodes_of limit (last_of (Some e.0) es) n (lines_of rest)) same ∙ h))

pub no_bytes : (bs : List ℕ) → lines_of bs ≡ [] → bs ≡ []
no_bytes [] e = refl
no_bytes (c ∷ cs) e = by (eqb c 10) (lines_of cs) e
  where
    by : (b : Bool) (ls : List (List ℕ × Bool)) → cond b (([], true) ∷ ls) (begun_by c ls) ≡ [] → c ∷ cs ≡ []
    by true ls f = absurd cc
    by false [] f = absurd cc
    by false (l ∷ ls) f = absurd cc

not_after : (m n : Name) → ¬ (name_cmp m n ≡ Less) → is_lt (name_cmp m n) ≡ false
not_after m n h = by (name_cmp m n) h
  where
    by : (r : Ordering) → ¬ (r ≡ Less) → is_lt r ≡ false
    by Less k = absurd (k refl)
    by Equal k = refl
    by Greater k = refl

module _ (limit : Limit) (last : Option Name) (k : ℕ) (rest : List ℕ) where
  -- a line at the front is read
  line_read : (node : Name × List ℕ) (has : HasLine (listed_line node) rest) → IsSpelled node
      → nodes_of limit last k (lines_of rest) ≡ followed (judged limit last k (Some node)) (λ c. nodes_of limit (Some c.0) (suc k) (lines_of has.rest))
  line_read node has spelled =
      ap (λ l. nodes_of limit last k (lines_of l)) (has.is ∙ append_assoc (listed_line node) (10 ∷ []) has.rest)
      ∙ ap (nodes_of limit last k) (line_first (listed_line node) has.rest (line_within node spelled))
      ∙ ap (λ o. followed (judged limit last k o) (λ c. nodes_of limit (Some c.0) (suc k) (lines_of has.rest))) (line_of-listed node spelled)

  over_read : (es : Content) → IsOverLimit limit es rest → nodes_of limit last k (lines_of rest) ≡ Err (error.Limit k)
  over_read es w =
      line_read w.node w.line (any_spelled w.node w.spelled)
      ∙ ap (λ b. followed (cond b (cond (is_after last w.node.0) (Ok w.node) (Err (error.Order k))) (Err (error.Limit k))) (λ c. nodes_of limit (Some c.0) (suc k) (lines_of w.line.rest))) w.over

  order_read : (es : Content) (w : IsOutOfOrder limit es rest) → last ≡ Some w.last.0 → nodes_of limit last k (lines_of rest) ≡ Err (error.Order k)
  order_read es w is =
      let parts = node_parts limit w.node w.can in
      let after : is_after last w.node.0 ≡ false = ap (λ o. is_after o w.node.0) is ∙ not_after w.last.0 w.node.0 w.order in
      line_read w.node w.line parts.0
      ∙ ap (λ b. followed (cond b (cond (is_after last w.node.0) (Ok w.node) (Err (error.Order k))) (Err (error.Limit k))) (λ c. nodes_of limit (Some c.0) (suc k) (lines_of w.line.rest))) parts.1
      ∙ ap (λ b. followed (cond b (Ok w.node) (Err (error.Order k))) (λ c. nodes_of limit (Some c.0) (suc k) (lines_of w.line.rest))) after

  module _ (es : Content) (w : IsUnspelled limit es rest) where
    no_node : (l : List ℕ) (ls : List (List ℕ × Bool)) → lines_of rest ≡ (l, true) ∷ ls → (o : Option (Name × List ℕ)) → IsLine l o
        → followed (judged limit last k o) (λ c. nodes_of limit (Some c.0) (suc k) ls) ≡ Err (error.Line k)
    no_node l ls e None h = refl
    no_node l ls e (Some d) h =
        let cut = cut_line rest l ls e in absurd (w.none d (spelled_any d h.1) (has_line (listed_line d) rest cut.0 (cut.1 ∙ ap (λ y. y ++ 10 ∷ cut.0) h.0)))

    unspelled_by : (ls : List (List ℕ × Bool)) → lines_of rest ≡ ls → nodes_of limit last k ls ≡ Err (error.Line k)
    unspelled_by [] e = absurd (w.some (no_bytes rest e))
    unspelled_by ((l, false) ∷ ls) e = refl
    unspelled_by ((l, true) ∷ ls) e = no_node l ls e (line_of l) (line_of-IsLine l)

module _ (limit : Limit) (bytes : List ℕ) where
  from_first : (number : ℕ) (IsWhy : Limit → Content → List ℕ → Type 0) (f : IsFirst limit bytes number IsWhy) (x : ReadError)
      → nodes_of (smaller f.version limit) (last_of None f.before) (2 + length f.before) (lines_of f.rest) ≡ Err x → reading_of limit bytes ≡ Err x
  from_first number IsWhy f x h =
      ap (reading_of limit) (f.cut ∙ append_assoc (header f.version) (10 ∷ listed_lines f.before) f.rest)
      ∙ ap (headed limit) (line_first (header f.version) (listed_lines f.before ++ f.rest) (header_within f.version))
      ∙ ap (λ v. behind_header limit v (lines_of (listed_lines f.before ++ f.rest))) (version_of-header f.version)
      ∙ nodes_first (smaller f.version limit) None 2 f.before f.rest x f.globals.nodes (rises_all f.before f.globals.rise) h

  number_is : (number : ℕ) (es : Content) → number ≡ length es + 2 → 2 + length es ≡ number
  number_is number es h = omega (arith, h)

  headerless : ((version : Limit) → ¬ HasLine (header version) bytes) → (ls : List (List ℕ × Bool)) → lines_of bytes ≡ ls → headed limit ls ≡ Err error.Header
  headerless w [] e = refl
  headerless w ((l, false) ∷ ls) e = refl
  headerless w ((l, true) ∷ ls) e = by (version_of l) refl
    where
      by : (v : Option Limit) → version_of l ≡ v → behind_header limit v ls ≡ Err error.Header
      by None is = refl
      by (Some version) is =
          let cut = cut_line bytes l ls e in
          absurd (w version (has_line (header version) bytes cut.0 (cut.1 ∙ ap (λ y. y ++ 10 ∷ cut.0) (version_is l version is))))

  -- what is refused isn't read, for the same reason
  refused_unread : (x : ReadError) → ¬ (x ≡ error.Memory) → IsListingRefused limit bytes x → reading_of limit bytes ≡ Err x
  refused_unread error.Header not_so w = headerless w (lines_of bytes) refl
  refused_unread (error.Line number) not_so f =
      from_first number IsUnspelled f (error.Line number)
      (unspelled_by (smaller f.version limit) (last_of None f.before) (2 + length f.before) f.rest f.before f.why (lines_of f.rest) refl
      ∙ ap (λ n. Err (error.Line n)) (number_is number f.before f.place))
  refused_unread (error.Limit number) not_so f =
      from_first number IsOverLimit f (error.Limit number)
      (over_read (smaller f.version limit) (last_of None f.before) (2 + length f.before) f.rest f.before f.why ∙ ap (λ n. Err (error.Limit n)) (number_is number f.before f.place))
  refused_unread (error.Order number) not_so f =
      from_first number IsOutOfOrder f (error.Order number)
      (order_read (smaller f.version limit) (last_of None f.before) (2 + length f.before) f.rest f.before f.why (ap (last_of None) f.why.behind ∙ last_added None f.why.front f.why.last)
      ∙ ap (λ n. Err (error.Order n)) (number_is number f.before f.place))
  refused_unread error.Memory not_so w = absurd (not_so refl)

-- two refusals of some bytes are the same, unless memory was wanting
pub one_reason : HasOneReason
one_reason limit bytes e f p q h i = err_same e f (sym (refused_unread limit bytes e p h) ∙ refused_unread limit bytes f q i)

-- ---- one spelling

-- bytes with a header that are read are the listing under it
pub one_spelling : HasOneSpelling
one_spelling limit version bytes content has e =
    let is = ((reading limit bytes).lists content).0 e in
    let first : lines_of bytes ≡ (header is.0, true) ∷ lines_of (listed_lines content) = ap lines_of is.1 ∙ line_first (header is.0) (listed_lines content) (header_within is.0) in
    let same : header is.0 ≡ header version = (first_line (header version) bytes (header is.0) true (lines_of (listed_lines content)) (header_within version) has first).0 in
    is.1 ∙ ap (λ h. h ++ 10 ∷ listed_lines content) same
