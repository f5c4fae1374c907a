-- Lines that are read one after the other.
use Rattle.std.proofs.Common.{◌≡◌, ◌∙◌, ◌+◌, suc, add-one, ℕ, Bool, true, false, cond, List, [], ◌∷◌, ◌++◌, Option, Some, None, Result, Ok, Err, refl, sym, ap, subst, append_assoc, append-nil}
use Rattle.std.specs.declared.cmp.Ordering.{Ordering}
use Rattle.std.specs.declared.cmp.Ordering.TheVariants.{Less, Equal, Greater}
use Rattle.std.specs.Ordering.{is_lt, ordering_reverse}
use Rattle.std.specs.FinMap.{put}
use Rattle.std.specs.FinMap.Entries.{by_order}
use Rattle.mj_text.specs.declared.limit.Limit.{Limit}
use Rattle.mj_subs.specs.Name.{Name}
use Rattle.mj_subs.specs.Collation.{name_cmp}
use Rattle.mj_subs.specs.Laws.Total.{name_cmp_total}
use Rattle.mj_store.specs.Questions.{Content}
use Rattle.mj_gfile.specs.declared.error.ReadError.{ReadError}
use Rattle.mj_gfile.specs.declared.error.ReadError.TheVariants as error
use Rattle.mj_gfile.specs.Reading.{line_of}
use Rattle.mj_gfile.specs.Listing.{is_small_node, is_after, judged, before, followed, nodes_of, lines_of, unended}

-- the names c before those that are read
abbrev pub joined_nodes : Content → Result Content ReadError → Result Content ReadError
joined_nodes c (Ok es) = Ok (c ++ es)
joined_nodes c (Err e) = Err e

pub joined_nodes_none : (r : Result Content ReadError) → joined_nodes [] r ≡ r
joined_nodes_none (Ok es) = refl
joined_nodes_none (Err e) = refl

joined_before : (c : Content) (e : Name × List ℕ) (r : Result Content ReadError) → joined_nodes c (before e r) ≡ joined_nodes (c ++ e ∷ []) r
joined_before c e (Ok es) = ap Ok (sym (append_assoc c (e ∷ []) es))
joined_before c e (Err x) = refl

-- each of the names stands before n
abbrev pub AllBefore : Content → Name → Type 0
AllBefore [] n = Unit {0}
AllBefore (e ∷ es) n = (name_cmp e.0 n ≡ Less) × AllBefore es n

-- each of the names stands before every name that stands after the last one
abbrev pub AreBefore : Content → Option Name → Type 0
AreBefore c last = (n : Name) → is_after last n ≡ true → AllBefore c n

greater : (m n : Name) → name_cmp m n ≡ Less → name_cmp n m ≡ Greater
greater m n e = name_cmp_total.antisymm n m ∙ ap ordering_reverse e

-- a name that stands after all others is put at the end
put_last : (c : Content) (n : Name) (t : List ℕ) → AllBefore c n → put name_cmp n t c ≡ c ++ (n, t) ∷ []
put_last [] n t h = refl
put_last (e ∷ es) n t h =
    ap (λ r. by_order r ((n, t) ∷ e ∷ es) ((e.0, t) ∷ es) (e ∷ put name_cmp n t es)) (greater e.0 n h.0)
    ∙ ap (λ (r : Content). e ∷ r) (put_last es n t h.1)

less : (r : Ordering) → is_lt r ≡ true → r ≡ Less
less Less e = refl
less Equal e = absurd cc
less Greater e = absurd cc

still_before : (c : Content) (m n : Name) (t : List ℕ) → AllBefore c m → name_cmp m n ≡ Less → AllBefore (c ++ (m, t) ∷ []) n
still_before [] m n t h l = (l, tt)
still_before (e ∷ es) m n t h l = (name_cmp_total.trans e.0 m n h.0 l, still_before es m n t h.1 l)

by_place : (last : Option Name) (k : ℕ) (e d : Name × List ℕ) (b : Bool) → is_after last e.0 ≡ b → cond b (Ok e) (Err (error.Order k)) ≡ Ok d → (e ≡ d) × (b ≡ true)
by_place last k e d true a h = (cc, refl)
by_place last k e d false a h = absurd cc

by_limit : (last : Option Name) (k : ℕ) (e d : Name × List ℕ) (b : Bool) → cond b (cond (is_after last e.0) (Ok e) (Err (error.Order k))) (Err (error.Limit k)) ≡ Ok d → is_after last d.0 ≡ true
by_limit last k e d true h = let p = by_place last k e d (is_after last e.0) refl h in subst (λ x. is_after last x.0 ≡ true) p.0 p.1
by_limit last k e d false h = absurd cc

-- what a line says stands after the line before
judged_after : (limit : Limit) (last : Option Name) (k : ℕ) (o : Option (Name × List ℕ)) (d : Name × List ℕ) → judged limit last k o ≡ Ok d → is_after last d.0 ≡ true
judged_after limit last k None d h = absurd cc
judged_after limit last k (Some e) d h = by_limit last k e d (is_small_node limit e) h

-- the names c were read of `total`, and the rest is read from bs on
module _ (limit : Limit) (c : Content) (last : Option Name) (k : ℕ) (bs : List ℕ) (total : Result Content ReadError) (inv : total ≡ joined_nodes c (nodes_of limit last k (lines_of bs))) where
  -- a line is ended there
  module _ (line rest : List ℕ) (at : lines_of bs ≡ (line, true) ∷ lines_of rest) where
    at_line : (r : Result (Name × List ℕ) ReadError) → judged limit last k (line_of line) ≡ r → total ≡ joined_nodes c (followed r (λ e. nodes_of limit (Some e.0) (suc k) (lines_of rest)))
    at_line r e =
        inv ∙ ap (λ ls. joined_nodes c (nodes_of limit last k ls)) at ∙ ap (λ x. joined_nodes c (followed x (λ e. nodes_of limit (Some e.0) (suc k) (lines_of rest)))) e

    pub refused : (e : ReadError) → judged limit last k (line_of line) ≡ Err e → total ≡ Err e
    refused e h = at_line (Err e) h

    module _ (n : Name) (t : List ℕ) (says : judged limit last k (line_of line) ≡ Ok (n, t)) (stand : AreBefore c last) (d : Content) (is : d ≡ put name_cmp n t c) where
      here : AllBefore c n
      here = stand n (judged_after limit last k (line_of line) (n, t) says)

      longer : d ≡ c ++ (n, t) ∷ []
      longer = is ∙ put_last c n t here

      pub next_reads : total ≡ joined_nodes d (nodes_of limit (Some n) (k + 1) (lines_of rest))
      next_reads =
          at_line (Ok (n, t)) says ∙ joined_before c (n, t) (nodes_of limit (Some n) (suc k) (lines_of rest))
          ∙ (λ i. joined_nodes (sym longer i) (nodes_of limit (Some n) (sym (add-one k) i) (lines_of rest)))

      pub next_before : AreBefore d (Some n)
      next_before m a = subst (λ x. AllBefore x m) (sym longer) (still_before c n m t here (less (name_cmp n m) a))

  -- no line is ended there
  module _ (at : lines_of bs ≡ unended bs) where
    pub all_read : bs ≡ [] → total ≡ Ok c
    all_read none = inv ∙ ap (λ ls. joined_nodes c (nodes_of limit last k ls)) (at ∙ ap unended none) ∙ ap Ok (append-nil c)

  pub left_over : lines_of bs ≡ unended bs → (bs ≡ [] → ⊥) → total ≡ Err (error.Line k)
  left_over at some = inv ∙ ap (λ ls. joined_nodes c (nodes_of limit last k ls)) at ∙ by bs some
    where
      by : (xs : List ℕ) → (xs ≡ [] → ⊥) → joined_nodes c (nodes_of limit last k (unended xs)) ≡ Err (error.Line k)
      by [] h = absurd (h refl)
      by (x ∷ xs) h = refl
