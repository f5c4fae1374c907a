-- Listings that are written, and read again.
use Rattle.std.specs.Prelude.{◌≡◌, ℕ, List, Ok}
use Rattle.mj_text.specs.declared.limit.Limit.{Limit}
use Rattle.mj_text.specs.Limit.{smaller}
use Rattle.mj_store.specs.Questions.{Content}
use Rattle.mj_gfile.specs.Spelling.{header, listing_of}
use Rattle.mj_gfile.specs.Listing.{reading_of, AreGlobals}
use Rattle.mj_gfile.specs.Refused.{HasLine}

-- a listing of globals is read as these, where their texts are within the limit of its version and within the one that is asked for
abbrev pub IsReadBack : Type 0
IsReadBack = (limit version : Limit) (content : Content) → AreGlobals (smaller version limit) content → reading_of limit (listing_of version content) ≡ Ok content

-- there is one listing of each version at most for some globals: bytes with its header that are read as these
abbrev pub HasOneSpelling : Type 0
HasOneSpelling =
    (limit version : Limit) (bytes : List ℕ) (content : Content) → HasLine (header version) bytes → reading_of limit bytes ≡ Ok content → bytes ≡ listing_of version content
