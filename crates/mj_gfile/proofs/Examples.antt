-- Worked rows of the definitions.
use Rattle.std.proofs.Common.{◌≡◌, ◌++◌, ℕ, true, false, nat_le, length, List, [], ◌∷◌, Some, None, Ok, Err, refl, ap}
use Rattle.std.specs.Prelude.{codes}
use Rattle.mj_text.specs.declared.limit.Limit.TheVariants.{V1, V2}
use Rattle.mj_text.specs.Limit.{smaller}
use Rattle.mj_subs.specs.Name.{Name}
use Rattle.mj_gfile.specs.declared.error.ReadError.TheVariants as error
use Rattle.mj_gfile.specs.Spelling.{listed_text, listed_name, listing_of}
use Rattle.mj_gfile.specs.Reading.{subscripts_of, text_at, name_at}
use Rattle.mj_gfile.specs.Listing.{reading_of, is_short}

-- a line of a listing, with the byte 10 that ends it
abbrev line : List ℕ → List ℕ
line bs = bs ++ 10 ∷ []

abbrev head : List ℕ
head = line (codes "mj-globals 2")

-- that of the listings that were written when texts were shorter
abbrev old_head : List ℕ
old_head = line (codes "mj-globals 1")

-- ---- texts: "a", a quote, a backslash, byte 10 and byte 200
abbrev text : List ℕ
text = 97 ∷ 34 ∷ 92 ∷ 10 ∷ 200 ∷ []

abbrev text_listed : List ℕ
text_listed = 34 ∷ 97 ∷ 34 ∷ 34 ∷ 92 ∷ 92 ∷ 92 ∷ 48 ∷ 97 ∷ 92 ∷ 99 ∷ 56 ∷ 34 ∷ []

lists_text : listed_text text ≡ text_listed
lists_text = refl

reads_text : text_at (text_listed ++ codes " x") ≡ Some (text, codes " x")
reads_text = refl

-- `A` isn't spelled by its digits, nor are digits capitals, nor does byte 10 stand bare
no_shown : text_at (34 ∷ 92 ∷ 52 ∷ 49 ∷ 34 ∷ []) ≡ None
no_shown = refl

no_capital : text_at (34 ∷ 92 ∷ 48 ∷ 65 ∷ 34 ∷ []) ≡ None
no_capital = refl

no_bare : text_at (34 ∷ 10 ∷ 34 ∷ []) ≡ None
no_bare = refl

no_end : text_at (34 ∷ 97 ∷ []) ≡ None
no_end = refl

-- ---- names: ^A(1,"b")
abbrev name : Name
name = record { global = true; word = codes "A"; subscripts = codes "1" ∷ codes "b" ∷ [] }

abbrev name_listed : List ℕ
name_listed = 94 ∷ 65 ∷ 40 ∷ 49 ∷ 44 ∷ 34 ∷ 98 ∷ 34 ∷ 41 ∷ []

lists_name : listed_name name ≡ name_listed
lists_name = refl

reads_name : name_at (name_listed ++ codes "=x") ≡ Some (name, codes "=x")
unfolding subscripts_of
reads_name = refl

-- 1 isn't quoted, 01 isn't bare, no subscript is empty, and a list is closed
no_quoted_one : name_at (94 ∷ 65 ∷ 40 ∷ 34 ∷ 49 ∷ 34 ∷ 41 ∷ []) ≡ None
unfolding subscripts_of
no_quoted_one = refl

no_zero_one : name_at (codes "^A(01)") ≡ None
unfolding subscripts_of
no_zero_one = refl

no_empty : name_at (94 ∷ 65 ∷ 40 ∷ 34 ∷ 34 ∷ 41 ∷ []) ≡ None
unfolding subscripts_of
no_empty = refl

no_list : name_at (codes "^A()") ≡ None
unfolding subscripts_of
no_list = refl

no_close : name_at (codes "^A(1") ≡ None
unfolding subscripts_of
no_close = refl

no_word : name_at (codes "^1") ≡ None
unfolding subscripts_of
no_word = refl

-- ---- listings: ^A(1)="x" and ^A(2)="y"
abbrev node : ℕ → ℕ → Name × List ℕ
node s v = (record { global = true; word = codes "A"; subscripts = (s ∷ []) ∷ [] }, v ∷ [])

abbrev node_listed : ℕ → ℕ → List ℕ
node_listed s v = codes "^A(" ++ s ∷ 41 ∷ 61 ∷ 34 ∷ v ∷ 34 ∷ []

lists_both : listing_of V2 (node 49 120 ∷ node 50 121 ∷ []) ≡ head ++ line (node_listed 49 120) ++ line (node_listed 50 121)
lists_both = refl

reads_both : reading_of V2 (head ++ line (node_listed 49 120) ++ line (node_listed 50 121)) ≡ Ok (node 49 120 ∷ node 50 121 ∷ [])
unfolding subscripts_of
reads_both = refl

reads_none : reading_of V2 head ≡ Ok []
reads_none = refl

-- both versions, with either limit
lists_old : listing_of V1 (node 49 120 ∷ []) ≡ old_head ++ line (node_listed 49 120)
lists_old = refl

reads_old : reading_of V2 (old_head ++ line (node_listed 49 120)) ≡ Ok (node 49 120 ∷ [])
unfolding subscripts_of
reads_old = refl

reads_new : reading_of V1 (head ++ line (node_listed 49 120)) ≡ Ok (node 49 120 ∷ [])
unfolding subscripts_of
reads_new = refl

-- no other version
no_version : reading_of V2 (line (codes "mj-globals 3")) ≡ Err error.Header
no_version = refl

-- a text of 32,768 bytes is over the limit of the first version, and over the smaller limit, whatever the version is
over_old : (v : List ℕ) → length v ≡ 32768 → is_short (smaller V1 V2) v ≡ false
over_old v h = ap (λ n. nat_le n 32767) h

over_limit : (v : List ℕ) → length v ≡ 32768 → is_short (smaller V2 V1) v ≡ false
over_limit v h = ap (λ n. nat_le n 32767) h

within_new : (v : List ℕ) → length v ≡ 32768 → is_short (smaller V2 V2) v ≡ true
within_new v h = ap (λ n. nat_le n 1048576) h

no_bytes : reading_of V2 [] ≡ Err error.Header
no_bytes = refl

-- a header without its byte 10
no_header : reading_of V2 (codes "mj-globals 2") ≡ Err error.Header
no_header = refl

-- a line that isn't ended, with a text that isn't either
no_text : reading_of V2 (head ++ codes "^A=" ++ 34 ∷ 120 ∷ []) ≡ Err (error.Line 2)
unfolding subscripts_of
no_text = refl

-- the last line isn't ended
no_line_end : reading_of V2 (head ++ line (node_listed 49 120) ++ node_listed 50 121) ≡ Err (error.Line 3)
unfolding subscripts_of
no_line_end = refl

-- a line that is empty
no_line : reading_of V2 (head ++ 10 ∷ []) ≡ Err (error.Line 2)
unfolding subscripts_of
no_line = refl

-- a local
no_global : reading_of V2 (head ++ line (codes "A=" ++ 34 ∷ 120 ∷ 34 ∷ [])) ≡ Err (error.Line 2)
unfolding subscripts_of
no_global = refl

-- names that fall, and one that comes twice
no_order : reading_of V2 (head ++ line (node_listed 50 120) ++ line (node_listed 49 121)) ≡ Err (error.Order 3)
unfolding subscripts_of
no_order = refl

no_second : reading_of V2 (head ++ line (node_listed 50 120) ++ line (node_listed 50 120)) ≡ Err (error.Order 3)
unfolding subscripts_of
no_second = refl

-- a word of 32 bytes; where such a line isn't spelled as it must be, that comes first
no_limit : reading_of V2 (head ++ line (codes "^ABCDEFGHIJKLMNOPQRSTUVWXYZabcdef=" ++ 34 ∷ 34 ∷ [])) ≡ Err (error.Limit 2)
unfolding subscripts_of
no_limit = refl

no_limit_there : reading_of V2 (head ++ line (codes "^ABCDEFGHIJKLMNOPQRSTUVWXYZabcdef=" ++ 34 ∷ [])) ≡ Err (error.Line 2)
unfolding subscripts_of
no_limit_there = refl
