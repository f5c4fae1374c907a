-- The definitions at worked rows.
use Rattle.std.proofs.Common.{◌≡◌, refl, [], ◌∷◌, Ok, Err, Some, None}
use Rattle.std.specs.Prelude.{codes}
use Rattle.std.specs.Fmt.{digits}
use Rattle.mj_text.specs.declared.fault.Fault.TheVariants.{Char, Range}
use Rattle.mj_text.specs.declared.limit.Limit.TheVariants.{V1}
use Rattle.mj_strfn.specs.Functions.{ascii_value, char_value, extract_value, find_value, justify_value, length_value, piece_value, assigned_pieces, set_piece_value, reverse_value, translate_value}

-- ---- $ASCII and $CHAR

ascii_first : ascii_value (codes "abc") None ≡ Ok (codes "97")
unfolding digits
ascii_first = refl

ascii_past_the_end : ascii_value (codes "abc") (Some (codes "4")) ≡ Ok (codes "-1")
unfolding digits
ascii_past_the_end = refl

ascii_at_0 : ascii_value (codes "abc") (Some (codes "0")) ≡ Ok (codes "-1")
unfolding digits
ascii_at_0 = refl

char_of_codes : char_value V1 (codes "77" ∷ codes "-1" ∷ codes "10" ∷ []) ≡ Ok (77 ∷ 10 ∷ [])
char_of_codes = refl

char_first_fault : char_value V1 (codes "256" ∷ codes "9999999999999999999" ∷ []) ≡ Err Char
char_first_fault = refl

-- ---- $EXTRACT

extract_middle : extract_value (codes "abcde") (Some (codes "2")) (Some (codes "4")) ≡ Ok (codes "bcd")
extract_middle = refl

-- a start below 1 doesn't shift the end
extract_from_below_1 : extract_value (codes "abcde") (Some (codes "-3")) (Some (codes "2")) ≡ Ok (codes "ab")
extract_from_below_1 = refl

extract_alone : extract_value (codes "abcde") None None ≡ Ok (codes "a")
extract_alone = refl

extract_one : extract_value (codes "abcde") (Some (codes "3")) None ≡ Ok (codes "c")
extract_one = refl

extract_past_the_end : extract_value (codes "abcde") (Some (codes "5")) (Some (codes "900")) ≡ Ok (codes "e")
extract_past_the_end = refl

extract_backwards : extract_value (codes "abcde") (Some (codes "4")) (Some (codes "2")) ≡ Ok []
extract_backwards = refl

extract_out_of_range : extract_value (codes "a") (Some (codes "9999999999999999999")) None ≡ Err Range
extract_out_of_range = refl

-- ---- $FIND

find_from_3 : find_value (codes "abcabc") (codes "bc") (Some (codes "3")) ≡ Ok (codes "7")
unfolding digits
find_from_3 = refl

find_first : find_value (codes "abcabc") (codes "bc") None ≡ Ok (codes "4")
unfolding digits
find_first = refl

find_none : find_value (codes "abc") (codes "x") None ≡ Ok (codes "0")
unfolding digits
find_none = refl

find_nothing_past_the_end : find_value (codes "abc") [] (Some (codes "9")) ≡ Ok (codes "9")
unfolding digits
find_nothing_past_the_end = refl

find_past_the_end : find_value (codes "abc") (codes "a") (Some (codes "9")) ≡ Ok (codes "0")
unfolding digits
find_past_the_end = refl

find_below_1 : find_value (codes "abc") (codes "a") (Some (codes "-9")) ≡ Ok (codes "2")
unfolding digits
find_below_1 = refl

-- ---- $JUSTIFY

justify_blanks : justify_value V1 (codes "ab") (codes "4") ≡ Ok (codes "  ab")
justify_blanks = refl

justify_wide_enough : justify_value V1 (codes "ab") (codes "-4") ≡ Ok (codes "ab")
justify_wide_enough = refl

-- ---- $LENGTH

length_of_bytes : length_value (codes "abc") None ≡ codes "3"
unfolding digits
length_of_bytes = refl

length_of_pieces : length_value (codes "a,,b") (Some (codes ",")) ≡ codes "3"
unfolding digits
length_of_pieces = refl

length_by_nothing : length_value (codes "abc") (Some []) ≡ codes "0"
unfolding digits
length_by_nothing = refl

length_of_nothing : length_value [] (Some (codes ",")) ≡ codes "1"
unfolding digits
length_of_nothing = refl

-- occurrences are taken from the left and don't overlap
length_without_overlap : length_value (codes "aaaaa") (Some (codes "aa")) ≡ codes "3"
unfolding digits
length_without_overlap = refl

-- ---- $PIECE

piece_two_to_three : piece_value (codes "a,b,c") (codes ",") (Some (codes "2")) (Some (codes "3")) ≡ Ok (codes "b,c")
piece_two_to_three = refl

piece_first : piece_value (codes "a,b,c") (codes ",") None None ≡ Ok (codes "a")
piece_first = refl

piece_past_the_end : piece_value (codes "a,b,c") (codes ",") (Some (codes "4")) None ≡ Ok []
piece_past_the_end = refl

piece_from_below_1 : piece_value (codes "a,b,c") (codes ",") (Some (codes "-7")) (Some (codes "2")) ≡ Ok (codes "a,b")
piece_from_below_1 = refl

piece_by_two_bytes : piece_value (codes "a::b:c") (codes "::") (Some (codes "2")) None ≡ Ok (codes "b:c")
piece_by_two_bytes = refl

piece_by_nothing : piece_value (codes "abc") [] None None ≡ Ok []
piece_by_nothing = refl

-- ---- SET of $PIECE

assigned_one : assigned_pieces (codes ",") (Some (codes "4")) None ≡ Ok (Some (4, 4))
assigned_one = refl

assigned_from_below_1 : assigned_pieces (codes ",") (Some (codes "-4")) (Some (codes "2")) ≡ Ok (Some (1, 2))
assigned_from_below_1 = refl

assigned_none_below_1 : assigned_pieces (codes ",") (Some (codes "-4")) (Some (codes "0")) ≡ Ok None
assigned_none_below_1 = refl

assigned_none_backwards : assigned_pieces (codes ",") (Some (codes "3")) (Some (codes "2")) ≡ Ok None
assigned_none_backwards = refl

assigned_none_by_nothing : assigned_pieces [] None None ≡ Ok None
assigned_none_by_nothing = refl

set_piece_pads : set_piece_value V1 (codes "a,b") (codes ",") (4, 4) (codes "d") ≡ Ok (codes "a,b,,d")
set_piece_pads = refl

set_piece_inside : set_piece_value V1 (codes "a,b,c,d") (codes ",") (2, 3) (codes "x") ≡ Ok (codes "a,x,d")
set_piece_inside = refl

set_piece_of_nothing : set_piece_value V1 [] (codes ",") (1, 1) (codes "x") ≡ Ok (codes "x")
set_piece_of_nothing = refl

-- ---- $REVERSE and $TRANSLATE

reverse_it : reverse_value (codes "abc") ≡ codes "cba"
reverse_it = refl

translate_it : translate_value (codes "banana") (codes "an") (Some (codes "o")) ≡ codes "booo"
translate_it = refl

-- the first place in the list counts
translate_first_place : translate_value (codes "aba") (codes "aa") (Some (codes "xy")) ≡ codes "xbx"
translate_first_place = refl

translate_away : translate_value (codes "banana") (codes "an") None ≡ codes "b"
translate_away = refl
