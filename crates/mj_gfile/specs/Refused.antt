-- Why bytes are refused as a listing, said by the spelling alone: up to the line that is refused the bytes are a listing of some globals.
use Rattle.std.specs.Prelude.{◌≡◌, ℕ, ◌+◌, Bool, true, false, ◌&&◌, List, [], ◌∷◌, ◌++◌, length}
use Rattle.std.specs.List.{list_all}
use Rattle.std.specs.declared.cmp.Ordering.TheVariants.{Less}
use Rattle.mj_text.specs.declared.limit.Limit.{Limit}
use Rattle.mj_text.specs.Limit.{smaller}
use Rattle.mj_subs.specs.Name.{Name}
use Rattle.mj_subs.specs.Collation.{name_cmp}
use Rattle.mj_nref.specs.Spelling.{is_filled}
use Rattle.mj_store.specs.Questions.{Content}
use Rattle.mj_gfile.specs.declared.error.ReadError.{ReadError}
use Rattle.mj_gfile.specs.declared.error.ReadError.TheVariants as error
use Rattle.mj_gfile.specs.Spelling.{is_any_word, listed_line, header, listing_of}
use Rattle.mj_gfile.specs.Begins.{HasFront}
use Rattle.mj_gfile.specs.Listing.{is_small_node, are_bytes, is_node, AreGlobals}

-- ---- one line

-- a subscript of a name that has a text, of any length
abbrev pub is_any_subscript : List ℕ → Bool
is_any_subscript s = is_filled s && are_bytes s

-- the name of a global and a text, of any size
abbrev pub is_any_node : Name × List ℕ → Bool
is_any_node e = e.0.global && is_any_word e.0.word && list_all is_any_subscript e.0.subscripts && are_bytes e.1

-- the bytes begin with this line and the byte 10 that ends it
abbrev pub HasLine : List ℕ → List ℕ → Type 0
HasLine line bytes = HasFront (line ++ 10 ∷ []) bytes

-- There are bytes, and they don't begin with the line of a name and its text, of whatever size: it isn't spelled so, or byte 10 doesn't end it.
pub record IsUnspelled (limit : Limit) (before : Content) (rest : List ℕ) : Type 0 where
  pub some : ¬ (rest ≡ [])
  pub none : (node : Name × List ℕ) → is_any_node node ≡ true → ¬ HasLine (listed_line node) rest

-- they begin with the line of a name and its text that aren't within the limits
pub record IsOverLimit (limit : Limit) (before : Content) (rest : List ℕ) : Type 0 where
  pub node : Name × List ℕ
  pub line : HasLine (listed_line node) rest
  pub spelled : is_any_node node ≡ true
  pub over : is_small_node limit node ≡ false

-- they begin with the line of a name and its text within the limits, and the name doesn't stand after that of the line before
pub record IsOutOfOrder (limit : Limit) (before : Content) (rest : List ℕ) : Type 0 where
  pub node : Name × List ℕ
  pub line : HasLine (listed_line node) rest
  pub can : is_node limit node ≡ true
  pub front : Content
  pub last : Name × List ℕ
  pub behind : before ≡ front ++ last ∷ []
  pub order : ¬ (name_cmp last.0 node.0 ≡ Less)

-- ---- all lines

-- The line of this number is the first that is refused, and this is why: up to it the bytes are a listing of some globals, whose texts are within the limit
-- of its version and within this one. Lines count from 1, the header among them.
pub record IsFirst (limit : Limit) (bytes : List ℕ) (number : ℕ) (IsWhy : Limit → Content → List ℕ → Type 0) : Type 0 where
  pub version : Limit
  pub before : Content
  pub rest : List ℕ
  pub cut : bytes ≡ listing_of version before ++ rest
  pub globals : AreGlobals (smaller version limit) before
  pub place : number ≡ length before + 2
  pub why : IsWhy (smaller version limit) before rest

-- why bytes are refused, where texts are to be within a limit; want of memory says nothing
abbrev pub IsListingRefused : Limit → List ℕ → ReadError → Type 0
IsListingRefused limit bytes error.Header = (version : Limit) → ¬ HasLine (header version) bytes
IsListingRefused limit bytes (error.Line number) = IsFirst limit bytes number IsUnspelled
IsListingRefused limit bytes (error.Limit number) = IsFirst limit bytes number IsOverLimit
IsListingRefused limit bytes (error.Order number) = IsFirst limit bytes number IsOutOfOrder
IsListingRefused limit bytes error.Memory = Unit {0}

-- two refusals of some bytes are the same, unless memory was wanting
abbrev pub HasOneReason : Type 0
HasOneReason =
    (limit : Limit) (bytes : List ℕ) (e f : ReadError) → ¬ (e ≡ error.Memory) → ¬ (f ≡ error.Memory) → IsListingRefused limit bytes e → IsListingRefused limit bytes f
    → e ≡ f
