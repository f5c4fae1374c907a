-- Listings as a whole: which globals one lists, and which refusal comes for bytes that are none.
use Rattle.std.specs.Prelude.{T, ◌≡◌, ◌↔◌, ℕ, suc, Bool, true, false, ◌&&◌, ◌==◌, nat_lt, nat_le, if◌then◌else◌, List, [], ◌∷◌, length, Option, None, Some, Result, Ok, Err}
use Rattle.std.specs.Option.{option_map}
use Rattle.std.specs.List.{list_all}
use Rattle.std.specs.Str.{bytes_eq}
use Rattle.std.specs.FinMap.{is_sorted, put}
use Rattle.std.specs.Ordering.{is_lt}
use Rattle.mj_text.specs.declared.limit.Limit.{Limit}
use Rattle.mj_text.specs.declared.limit.Limit.TheVariants.{V1, V2}
use Rattle.mj_text.specs.Limit.{most_bytes, smaller}
use Rattle.mj_subs.specs.Name.{Name, is_word}
use Rattle.mj_subs.specs.Collation.{name_cmp}
use Rattle.mj_nref.specs.Spelling.{is_filled}
use Rattle.mj_store.specs.Questions.{Content}
use Rattle.mj_gfile.specs.declared.field.Field.{Field}
use Rattle.mj_gfile.specs.declared.field.Field.TheVariants.{Within, Over}
use Rattle.mj_gfile.specs.declared.error.ReadError.{ReadError}
use Rattle.mj_gfile.specs.declared.error.ReadError.TheVariants as error
use Rattle.mj_gfile.specs.Spelling.{header, listing_of}
use Rattle.mj_gfile.specs.Reading.{line_of}
use Rattle.mj_subs.specs.declared.subs.TheConstants.{SUBSCRIPTS_LIMIT}
use Rattle.mj_subs.specs.declared.word.TheConstants.{WORD_LIMIT}

-- ---- limits

-- The limit is that of texts and of subscripts. Those of words and of lists of subscripts are the same ever.

-- a text is within a limit
abbrev pub is_short : Limit → List ℕ → Bool
is_short limit t = nat_le (length t) (most_bytes limit)

-- a list of subscripts is within its limit, and each of them is a text within this one
abbrev pub are_small : Limit → List (List ℕ) → Bool
are_small limit ss = nat_le (length ss) SUBSCRIPTS_LIMIT && list_all (is_short limit) ss

-- the name of this kind with this word and these subscripts
abbrev pub name : Bool → List ℕ → List (List ℕ) → Name
name g w ss = record { global = g; word = w; subscripts = ss }

-- a name is within the limits: its word is, and its subscripts are
abbrev pub is_small : Limit → Name → Bool
is_small limit n = nat_le (length n.word) WORD_LIMIT && are_small limit n.subscripts

-- a name and its text are within the limits
abbrev pub is_small_node : Limit → Name × List ℕ → Bool
is_small_node limit e = is_small limit e.0 && is_short limit e.1

-- a field, by whether it is within the limits
abbrev pub limited : {A : Type 0} → Bool → A → Field A
limited true x = Within x
limited false x = Over

-- what is read of a text that stands at the front
abbrev pub text_field : Limit → Option (List ℕ × List ℕ) → Option (Field (List ℕ) × List ℕ)
text_field limit o = option_map (λ p. (limited (is_short limit p.0) p.0, p.1)) o

-- what is read of a subscript that stands at the front, with its comma or parenthesis
abbrev pub item_field : Limit → Option (List ℕ × Bool × List ℕ) → Option (Field (List ℕ) × Bool × List ℕ)
item_field limit o = option_map (λ p. (limited (is_short limit p.0) p.0, p.1, p.2)) o

-- what is read of a list of subscripts that stands at the front
abbrev pub subscripts_field : Limit → Option (List (List ℕ) × List ℕ) → Option (Field (List (List ℕ)) × List ℕ)
subscripts_field limit o = option_map (λ p. (limited (are_small limit p.0) p.0, p.1)) o

-- what is read of a name that stands at the front
abbrev pub name_field : Limit → Option (Name × List ℕ) → Option (Field Name × List ℕ)
name_field limit o = option_map (λ p. (limited (is_small limit p.0) p.0, p.1)) o

-- what is read of a text that stands behind a name
abbrev pub value_field : Limit → Option (List ℕ) → Option (Field (List ℕ))
value_field limit o = option_map (λ t. limited (is_short limit t) t) o

-- what is read of a line
abbrev pub node_field : Limit → Option (Name × List ℕ) → Option (Field (Name × List ℕ))
node_field limit o = option_map (λ e. limited (is_small_node limit e) e) o

-- ---- lines

-- one more byte at the front of the first line. Each line has whether byte 10 ends it
abbrev pub begun_by : ℕ → List (List ℕ × Bool) → List (List ℕ × Bool)
begun_by c [] = (c ∷ [], false) ∷ []
begun_by c (l ∷ ls) = (c ∷ l.0, l.1) ∷ ls

-- the lines of some bytes, each without byte 10, and whether byte 10 ends it, which it may not do for the last alone
abbrev pub lines_of : List ℕ → List (List ℕ × Bool)
lines_of [] = []
lines_of (c ∷ cs) = if c == 10 then ([], true) ∷ lines_of cs else begun_by c (lines_of cs)

-- the one line of bytes that no byte 10 ends, if there are any
abbrev pub unended : List ℕ → List (List ℕ × Bool)
unended [] = []
unended (c ∷ cs) = (c ∷ cs, false) ∷ []

-- ---- reading

-- the name stands after that of the line before, if there is one
abbrev pub is_after : Option Name → Name → Bool
is_after None n = true
is_after (Some m) n = is_lt (name_cmp m n)

-- what line k says, where it is given what it spells: it must spell something, within the limits, that stands after the line before
abbrev pub judged : Limit → Option Name → ℕ → Option (Name × List ℕ) → Result (Name × List ℕ) ReadError
judged limit last k None = Err (error.Line k)
judged limit last k (Some e) = if is_small_node limit e then (if is_after last e.0 then Ok e else Err (error.Order k)) else Err (error.Limit k)

-- what line k says
abbrev pub node_of : Limit → Option Name → ℕ → List ℕ × Bool → Result (Name × List ℕ) ReadError
node_of limit last k l = if l.1 then judged limit last k (line_of l.0) else Err (error.Line k)

-- one more name with its text before those that were read
abbrev pub before : Name × List ℕ → Result Content ReadError → Result Content ReadError
before e (Ok es) = Ok (e ∷ es)
before e (Err r) = Err r

abbrev pub followed : Result (Name × List ℕ) ReadError → (Name × List ℕ → Result Content ReadError) → Result Content ReadError
followed (Ok e) more = before e (more e)
followed (Err r) more = Err r

-- what the lines from k on say, where the name of the line before is given: the first that is refused decides
abbrev pub nodes_of : Limit → Option Name → ℕ → List (List ℕ × Bool) → Result Content ReadError
nodes_of limit last k [] = Ok []
nodes_of limit last k (l ∷ ls) = followed (node_of limit last k l) (λ e. nodes_of limit (Some e.0) (suc k) ls)

-- the version whose header a line is, if it is one
abbrev pub version_of : List ℕ → Option Limit
version_of l = if bytes_eq l (header V1) then Some V1 else (if bytes_eq l (header V2) then Some V2 else None)

-- what the lines behind the header of a version say, where texts are within the limit of that and within this one
abbrev pub behind_header : Limit → Option Limit → List (List ℕ × Bool) → Result Content ReadError
behind_header limit None ls = Err error.Header
behind_header limit (Some version) ls = nodes_of (smaller version limit) None 2 ls

-- what the lines of a file say: the first must be a header
abbrev pub headed : Limit → List (List ℕ × Bool) → Result Content ReadError
headed limit [] = Err error.Header
headed limit (l ∷ ls) = if l.1 then behind_header limit (version_of l.0) ls else Err error.Header

-- the globals that some bytes list, or their refusal, where texts are within a limit
abbrev pub reading_of : Limit → List ℕ → Result Content ReadError
reading_of limit bs = headed limit (lines_of bs)

-- ---- what has one listing

abbrev pub are_bytes : List ℕ → Bool
are_bytes t = list_all (λ c. nat_lt c 256) t

-- a text
abbrev pub is_text : Limit → List ℕ → Bool
is_text limit t = is_short limit t && are_bytes t

-- a subscript of a name that has a text: no empty one
abbrev pub is_subscript : Limit → List ℕ → Bool
is_subscript limit s = is_filled s && is_text limit s

-- the name of a global, within the limits, and a text
abbrev pub is_node : Limit → Name × List ℕ → Bool
is_node limit e = e.0.global && is_word e.0.word && nat_le (length e.0.subscripts) SUBSCRIPTS_LIMIT && list_all (is_subscript limit) e.0.subscripts && is_text limit e.1

-- globals within a limit: names of them that rise, each with its text
pub record AreGlobals (limit : Limit) (content : Content) : Type 0 where
  pub nodes : list_all (is_node limit) content ≡ true
  pub rise : T (is_sorted name_cmp content)

-- the bytes are a listing of these globals, whose texts are within the limit of its version and within this one
abbrev pub IsListed : Limit → List ℕ → Content → Type 0
IsListed limit bs content = (version : Limit) × (bs ≡ listing_of version content) × AreGlobals (smaller version limit) content

-- r is what the bytes list: it is some globals exactly where the bytes are a listing of these
pub record IsReading (limit : Limit) (bs : List ℕ) (r : Result Content ReadError) : Type 0 where
  pub lists : (content : Content) → (r ≡ Ok content) ↔ IsListed limit bs content

-- line k, behind one with this name, says a name with its text, which are put to the globals, and the name is the last one then
abbrev pub IsPut : Limit → Option Name → ℕ → List ℕ → Content → Option Name → Content → Type 0
IsPut limit last k line c new d =
    (n : Name) × (t : List ℕ) × (judged limit last k (line_of line) ≡ Ok (n, t)) × (new ≡ Some n) × (d ≡ put name_cmp n t c)
