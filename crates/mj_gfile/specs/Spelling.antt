-- How globals are listed (this profile): a line for each name that has a text. `"` is byte 34, `(` is 40, `)` is 41, `,` is 44, `=` is
-- 61, `\` is 92 and `^` is 94. Byte 10 ends each line.
use Rattle.std.specs.Prelude.{ℕ, ◌+◌, ◌/◌, ◌%◌, Bool, false, ◌&&◌, ◌||◌, ◌==◌, nat_lt, nat_le, if◌then◌else◌, List, [], ◌∷◌, ◌++◌, codes}
use Rattle.std.specs.List.{list_all}
use Rattle.std.specs.Char.{is_ascii_alphabetic, is_ascii_alphanumeric}
use Rattle.mj_text.specs.declared.limit.Limit.{Limit}
use Rattle.mj_text.specs.declared.limit.Limit.TheVariants.{V1, V2}
use Rattle.mj_num.specs.Number.{is_canonic}
use Rattle.mj_subs.specs.Name.{Name}
use Rattle.mj_nref.specs.Spelling.{word_text}
use Rattle.mj_store.specs.Questions.{Content}

-- a word, of any length: a letter or `%`, then letters and digits
abbrev pub is_any_word : List ℕ → Bool
is_any_word [] = false
is_any_word (c ∷ cs) = (is_ascii_alphabetic c || c == 37) && list_all is_ascii_alphanumeric cs

-- a byte that has a sign: a blank, or what can be seen
abbrev pub is_shown : ℕ → Bool
is_shown c = nat_le 32 c && nat_le c 126

-- a hexadecimal digit below 16, in lower case
abbrev pub digit_byte : ℕ → ℕ
digit_byte d = if nat_lt d 10 then 48 + d else 87 + d

-- a byte in listing quotes: `"` and `\` are doubled, and one without a sign is `\` and two hexadecimal digits
abbrev pub quoted_byte : ℕ → List ℕ
quoted_byte c =
    if c == 34 then 34 ∷ 34 ∷ []
    else (if c == 92 then 92 ∷ 92 ∷ [] else (if is_shown c then c ∷ [] else 92 ∷ digit_byte (c / 16) ∷ digit_byte (c % 16) ∷ []))

-- the bytes of a text, between the quotes
abbrev pub quoted_bytes : List ℕ → List ℕ
quoted_bytes [] = []
quoted_bytes (c ∷ cs) = quoted_byte c ++ quoted_bytes cs

-- a text in listing quotes
abbrev pub listed_text : List ℕ → List ℕ
listed_text t = 34 ∷ (quoted_bytes t ++ 34 ∷ [])

-- a subscript: a canonic number bare, any other text in listing quotes
abbrev pub listed_subscript : List ℕ → List ℕ
listed_subscript s = if is_canonic s then s else listed_text s

-- the subscripts behind the first, each after a comma, and the closing parenthesis
abbrev pub listed_rest : List (List ℕ) → List ℕ
listed_rest [] = 41 ∷ []
listed_rest (s ∷ ss) = 44 ∷ (listed_subscript s ++ listed_rest ss)

-- a list of subscripts: in parentheses, and nothing for none
abbrev pub listed_subscripts : List (List ℕ) → List ℕ
listed_subscripts [] = []
listed_subscripts (s ∷ ss) = 40 ∷ (listed_subscript s ++ listed_rest ss)

-- a name
abbrev pub listed_name : Name → List ℕ
listed_name n = word_text n.global n.word ++ listed_subscripts n.subscripts

-- the line of a name and its text, without the byte 10 that ends it
abbrev pub listed_line : Name × List ℕ → List ℕ
listed_line e = listed_name e.0 ++ 61 ∷ listed_text e.1

-- the line of a name that is given by its parts, and of its text, with the byte 10 that ends it
abbrev pub ended_line : Bool → List ℕ → List (List ℕ) → List ℕ → List ℕ
ended_line global word subscripts text = listed_line (record { global = global; word = word; subscripts = subscripts }, text) ++ 10 ∷ []

-- the lines of names and their texts, in order
abbrev pub listed_lines : Content → List ℕ
listed_lines [] = []
listed_lines (e ∷ es) = listed_line e ++ 10 ∷ listed_lines es

-- the first line, without its byte 10. There are two versions of listings, which differ in it and in the limit of their texts, so that one is named by
-- its limit
abbrev pub header : Limit → List ℕ
header V1 = codes "mj-globals 1"
header V2 = codes "mj-globals 2"

-- the listing of this version of names and their texts
abbrev pub listing_of : Limit → Content → List ℕ
listing_of version content = header version ++ 10 ∷ listed_lines content
