-- What a writer holds, and what is still to be written to it.
use Rattle.std.proofs.Common.{◌≡◌, ◌∙◌, ℕ, List, [], ◌∷◌, ◌++◌, Option, Some, None, refl, sym, ap, subst, append_assoc, append-nil}
use Rattle.std.specs.Io.KnownBytes.{Appends}
use Rattle.mj_store.specs.Questions.{Content}
use Rattle.mj_gfile.specs.Spelling.{listed_line, listed_lines}

-- what a writer holds, where that is known, and behind it what is to be written
abbrev pub with_waiting : Option (List ℕ) → List ℕ → Option (List ℕ)
with_waiting None waiting = None
with_waiting (Some known) waiting = Some (known ++ waiting)

-- where nothing is written, all stays
pub appends_none : (held : Option (List ℕ)) → Appends held held []
appends_none None = tt
appends_none (Some bytes) = sym (append-nil bytes)

-- what is written by turns is written in order
pub appends_more : (old mid new : Option (List ℕ)) (first second : List ℕ) → Appends old mid first → Appends mid new second → Appends old new (first ++ second)
appends_more None mid new first second a b = tt
appends_more (Some xs) None new first second a b = absurd a
appends_more (Some xs) (Some ys) None first second a b = absurd b
appends_more (Some xs) (Some ys) (Some zs) first second a b = b ∙ ap (λ (l : List ℕ). l ++ second) a ∙ append_assoc xs first second

-- the lines of two lists of nodes, one behind the other
pub listed_lines-append : (es fs : Content) → listed_lines (es ++ fs) ≡ listed_lines es ++ listed_lines fs
listed_lines-append [] fs = refl
listed_lines-append (e ∷ es) fs =
    ap (λ (l : List ℕ). listed_line e ++ 10 ∷ l) (listed_lines-append es fs) ∙ sym (append_assoc (listed_line e) (10 ∷ listed_lines es) (listed_lines fs))

-- lines that are written by turns are written in order
pub lines_more : (old mid new : Option (List ℕ)) (es fs : Content) → Appends old mid (listed_lines es) → Appends mid new (listed_lines fs) → Appends old new (listed_lines (es ++ fs))
lines_more old mid new es fs a b = subst (λ (l : List ℕ). Appends old new l) (sym (listed_lines-append es fs)) (appends_more old mid new (listed_lines es) (listed_lines fs) a b)
