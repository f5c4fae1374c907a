-- Which phrase helps where a line is refused (this profile).
--
-- A line that can't go on at a column is cut there: the bytes before it, which begin a line, and the bytes that stand there. The first token of these is what no
-- line goes on with. What people meant is guessed by the bytes around the column. So a phrase is a guess, and the refusal is none: nothing here says what is
-- refused.
use Rattle.std.specs.Prelude.{ℕ, ◌+◌, ◌-◌, ◌==◌, nat_lt, Bool, true, false, not, ◌&&◌, ◌||◌, if◌then◌else◌, List, [], ◌∷◌, length, map, reverse, take, drop, take_while, Option, Some, None, codes, nat_eq, bytes_eq}
use Rattle.std.specs.List.{starts_with, ends_with, list_all}
use Rattle.mj_ast.specs.declared.construct.Construct.{Construct}
use Rattle.mj_ast.specs.declared.construct.Construct.TheVariants as construct
use Rattle.mj_ast.specs.declared.keyword.Keyword.TheVariants as keyword
use Rattle.mj_ast.specs.declared.keyword.Verb.{Verb}
use Rattle.mj_ast.specs.declared.keyword.Verb.TheVariants.{Of}
use Rattle.mj_ast.specs.declared.sign.Sign.{Sign}
use Rattle.mj_ast.specs.declared.sign.Sign.TheVariants.{Caret, Close, Dot, Open, Underscore}
use Rattle.mj_ast.specs.Tokens.{Token, Word, Called, Special, Invoked, Numbered, Dollars, Digits, Quoted, Signed, Blank, Comment, Unclosed, Stray, Lexeme, lexemes, is_blank}
use Rattle.mj_ast.specs.Expressions.{callee_of}
use Rattle.mj_ast.specs.Commands.{capital, verb_of}
use Rattle.mj_ast.specs.LeftOut.{has_verb, has_callee}
use Rattle.mj_line.specs.Forms.{may_be_bare as is_bare_verb}
use Rattle.mj_hints.specs.Near.{near_of, function_names, variable_names, command_names}
use Rattle.mj_hints.specs.declared.phrases.Hint.{Hint}
use Rattle.mj_hints.specs.declared.phrases.Hint.TheVariants as hint

-- ---- what helps

-- what is said: that a word is nearly this one, or the phrase of a case
pub data Help : Type 0 where
  Nearly : (name : List ℕ) → Help
  Said : (case : Hint) → Help

abbrev pub help_seen : Hint → Help
help_seen (hint.Near name) = Nearly name.now
help_seen h = Said h

-- the first that there is
abbrev pub first_of : Option Help → Option Help → Option Help
first_of None h = h
first_of (Some g) h = Some g

-- ---- what stands there

-- the first token of the bytes, and the slice of them that spells it
abbrev pub first_lexeme : List Lexeme → Option (Token × List ℕ)
first_lexeme [] = None
first_lexeme (l ∷ ls) = Some (l.token, l.slice)

abbrev pub front_there : List ℕ → Option (Token × List ℕ)
front_there there = first_lexeme (lexemes there)

-- the bytes of that token, or none at the line's end
abbrev pub slice_of : Option (Token × List ℕ) → List ℕ
slice_of None = []
slice_of (Some f) = f.1

-- a blank stands there
abbrev pub begins_blank : List ℕ → Bool
begins_blank [] = false
begins_blank (b ∷ bs) = is_blank b

-- the bytes behind the blanks in front
abbrev pub past_blanks : List ℕ → List ℕ
past_blanks [] = []
past_blanks (b ∷ bs) = if is_blank b then past_blanks bs else b ∷ bs

-- ---- what stands before

abbrev pub is_solid : ℕ → Bool
is_solid b = not (is_blank b)

-- how many bytes stand behind the last blank
abbrev pub solid_length : List ℕ → ℕ
solid_length before = length (take_while is_solid (reverse before))

-- those bytes
abbrev pub last_part : List ℕ → List ℕ
last_part before = drop (length before - solid_length before) before

-- what stands before that blank
abbrev pub parts_before : List ℕ → List ℕ
parts_before before = take (length before - solid_length before - 1) before

-- before the column stands a blank, or nothing
abbrev pub ends_blank : List ℕ → Bool
ends_blank before = solid_length before == 0

abbrev pub is_dot_byte : ℕ → Bool
is_dot_byte b = b == 46

abbrev pub is_no_colon : ℕ → Bool
is_no_colon b = not (b == 58)

-- the word of the command that a part of a line is: without the dots before it, and without a `:` and what stands behind that
abbrev pub command_part : List ℕ → List ℕ
command_part part = take_while is_no_colon (drop (length (take_while is_dot_byte part)) part)

-- the command may stand without arguments
abbrev pub may_be_bare : Option Verb → Bool
may_be_bare None = false
may_be_bare (Some v) = is_bare_verb v

-- the part is the word of a command, or of one that may stand without arguments, with a postcondition or without one
abbrev pub is_command : List ℕ → Bool
is_command part = has_verb (verb_of (command_part part))

abbrev pub is_bare : List ℕ → Bool
is_bare part = may_be_bare (verb_of (command_part part))

-- how many parentheses are open behind the bytes, outside of quotes, where so many are open before them
abbrev pub open_behind : Bool → ℕ → List ℕ → ℕ
open_behind quoted n [] = n
open_behind quoted n (b ∷ bs) =
    if b == 34 then open_behind (not quoted) n bs
    else if quoted then open_behind quoted n bs
    else if b == 40 then open_behind quoted (n + 1) bs
    else if b == 41 then open_behind quoted (n - 1) bs
    else open_behind quoted n bs

abbrev pub is_inside : List ℕ → Bool
is_inside before = nat_lt 0 (open_behind false 0 before)

-- ---- blanks

-- Two blanks are wanted behind a command without arguments. With one, what was meant as the next command counts as its argument: it stands there, or before the
-- column, with a blank behind it or there.
abbrev pub lacks_blank : List ℕ → List ℕ → Bool
lacks_blank before word =
    ends_blank before && ((is_bare (last_part (parts_before before)) && is_command word)
    || (is_command (last_part (parts_before before)) && is_bare (last_part (parts_before (parts_before before)))))

abbrev pub lacks_blank_there : List ℕ → List ℕ → Bool
lacks_blank_there before there = begins_blank there && (is_command (last_part before) && is_bare (last_part (parts_before before)))

-- a second blank stands before the arguments of a command
abbrev pub is_second_blank : List ℕ → List ℕ → Bool
is_second_blank before there = begins_blank there && (ends_blank before && is_command (last_part (parts_before before)))

-- a byte that joins two parts of arguments
abbrev pub joins : ℕ → Bool
joins b =
    b == 61 || (b == 43 || (b == 45 || (b == 42 || (b == 47 || (b == 92 || (b == 35 || (b == 95 || (b == 60 || (b == 62
    || (b == 91 || (b == 93 || (b == 38 || (b == 33 || (b == 39 || (b == 44 || b == 58)))))))))))))))

abbrev pub joins_or_opens : ℕ → Bool
joins_or_opens b = b == 40 || joins b

abbrev pub begins_joint : List ℕ → Bool
begins_joint [] = false
begins_joint (b ∷ bs) = joins b

abbrev pub ends_joint : List ℕ → Bool
ends_joint [] = false
ends_joint (b ∷ []) = joins_or_opens b
ends_joint (b ∷ c ∷ bs) = ends_joint (c ∷ bs)

-- a blank stands inside arguments: beside what joins their parts, or behind what opens one
abbrev pub is_blank_inside : List ℕ → List ℕ → Bool
is_blank_inside before there =
    (begins_blank there && (begins_joint (past_blanks there) || ends_joint before)) || (ends_blank before && begins_joint there)

-- the verb is that of TROLLBACK
abbrev pub is_rollback_verb : Option Verb → Bool
is_rollback_verb (Some (Of keyword.TRollback)) = true
is_rollback_verb v = false

-- an argument of TROLLBACK would stand there
abbrev pub is_rolled : List ℕ → Bool
is_rolled before = ends_blank before && is_rollback_verb (verb_of (command_part (last_part (parts_before before))))

-- the first argument of a command would stand there
abbrev pub begins_argument : List ℕ → Bool
begins_argument before = ends_blank before && is_command (last_part (parts_before before))

-- a command would stand there
abbrev pub begins_command : List ℕ → Bool
begins_command before = ends_blank before && not (is_command (last_part (parts_before before)))

-- a part of an argument would begin there
abbrev pub begins_part : List ℕ → Bool
begins_part before = begins_argument before || (ends_joint before || ends_with nat_eq before (codes "^"))

-- the verb is that of a command whose arguments are locals without subscripts
abbrev pub is_verb_of_locals : Option Verb → Bool
is_verb_of_locals (Some (Of keyword.New)) = true
is_verb_of_locals (Some (Of keyword.TStart)) = true
is_verb_of_locals v = false

-- an argument of such a command would stand there, or go on there
abbrev pub takes_locals : List ℕ → Bool
takes_locals before = is_verb_of_locals (verb_of (command_part (last_part (parts_before before))))

-- a `*` stands there where an argument or an actual begins
abbrev pub is_alias : List ℕ → List ℕ → Bool
is_alias before there =
    starts_with nat_eq there (codes "*")
    && ((ends_with nat_eq before (codes "(") || ends_with nat_eq before (codes ","))
    || (ends_blank before && is_command (last_part (parts_before before))))

-- a value is given, and no SET stands before it: to the word that stands there, which is no command's, or to the one before the column, which is
abbrev pub lacks_set : Option Construct → List ℕ → List ℕ → List ℕ → Bool
lacks_set None before there word = starts_with nat_eq there (codes ":=") || (starts_with nat_eq there (codes "=") && is_command (last_part before))
lacks_set (Some construct.Command) before there word = starts_with nat_eq (drop (length word) there) (codes "=")
lacks_set (Some c) before there word = false

-- what joins two parts stands there, and nothing is before it to be joined
abbrev pub lacks_part : List ℕ → List ℕ → Bool
lacks_part before there = begins_joint there && begins_part before

-- a value is given to `$X` or `$Y` there
abbrev pub is_column : List ℕ → Bool
is_column there =
    starts_with nat_eq there (codes "$X=")
    || (starts_with nat_eq there (codes "$x=") || (starts_with nat_eq there (codes "$Y=") || starts_with nat_eq there (codes "$y=")))

-- ---- signs of other languages

-- a byte order mark
abbrev pub is_mark : List ℕ → Bool
is_mark there = starts_with nat_eq there (239 ∷ 187 ∷ 191 ∷ [])

-- these bytes, the first before the column and the others there, or all there
abbrev pub is_across : List ℕ → List ℕ → List ℕ → List ℕ → List ℕ → Bool
is_across before there left right both = (ends_with nat_eq before left && starts_with nat_eq there right) || starts_with nat_eq there both

abbrev pub is_comment_mark : List ℕ → List ℕ → Bool
is_comment_mark before there =
    is_across before there (codes "/") (codes "/") (codes "//")
    || (starts_with nat_eq there (codes "/*") || (list_all is_blank before && starts_with nat_eq there (codes "#")))

abbrev pub is_brace : List ℕ → Bool
is_brace there = starts_with nat_eq there (codes "{") || starts_with nat_eq there (codes "}")

abbrev pub is_unequal : List ℕ → List ℕ → Bool
is_unequal before there =
    is_across before there (codes "!") (codes "=") (codes "!=") || is_across before there (codes "<") (codes ">") (codes "<>")

abbrev pub is_increase : List ℕ → Bool
is_increase there =
    starts_with nat_eq there (codes "+=") || (starts_with nat_eq there (codes "-=") || (starts_with nat_eq there (codes "++") || starts_with nat_eq there (codes "--")))

abbrev pub foreign_help : List ℕ → List ℕ → Option Help
foreign_help before there =
    if is_mark there then Some (Said hint.Mark)
    else if is_comment_mark before there then Some (Said hint.Semicolon)
    else if is_brace there then Some (Said hint.Braces)
    else if is_across before there (codes "<") (codes "=") (codes "<=") then Some (Said hint.AtMost)
    else if is_across before there (codes ">") (codes "=") (codes ">=") then Some (Said hint.AtLeast)
    else if is_unequal before there then Some (Said hint.Unequal)
    else if is_across before there (codes "=") (codes "=") (codes "==") then Some (Said hint.OneEquals)
    else if is_across before there (codes "&") (codes "&") (codes "&&") then Some (Said hint.And)
    else if starts_with nat_eq there (codes "||") then Some (Said hint.Or)
    else if is_increase there then Some (Said hint.Increase)
    else None

-- ---- words

-- the word is this one, or its abbreviation
abbrev pub is_one : List ℕ → List ℕ → List ℕ → Bool
is_one word full short = bytes_eq word full || bytes_eq word short

-- that the word, in capitals, is nearly a name, or else another phrase
abbrev pub nearly_or : Option (List ℕ) → Hint → Help
nearly_or None h = Said h
nearly_or (Some name) h = Nearly name

abbrev pub is_trap : List ℕ → Bool
is_trap word =
    is_one word (codes "$ECODE") (codes "$EC")
    || (is_one word (codes "$ETRAP") (codes "$ET")
    || (is_one word (codes "$STACK") (codes "$ST") || (is_one word (codes "$ESTACK") (codes "$ES")
    || (is_one word (codes "$ZTRAP") (codes "$ZT") || is_one word (codes "$ZSTATUS") (codes "$ZS")))))

abbrev pub is_clock : List ℕ → Bool
is_clock word =
    is_one word (codes "$HOROLOG") (codes "$H") || (is_one word (codes "$ZHOROLOG") (codes "$ZH") || bytes_eq word (codes "$ZUT"))

abbrev pub is_raised : List ℕ → Bool
is_raised word = is_one word (codes "$INCREMENT") (codes "$I") || is_one word (codes "$ZINCREMENT") (codes "$ZINCR")

-- the name of a function, where nothing stands behind it that would make it one
abbrev pub is_function : List ℕ → Bool
is_function [] = false
is_function (b ∷ word) = has_callee (callee_of word)

-- the name of a function with a `Z` before it
abbrev pub is_byte_function : List ℕ → Bool
is_byte_function word = starts_with nat_eq word (codes "$Z") && is_function (drop 1 word)

-- what tells of the system
abbrev pub is_system : List ℕ → Bool
is_system word = is_one word (codes "$SYSTEM") (codes "$SY") || bytes_eq word (codes "$STORAGE")

-- what tells how a READ or a device fared
abbrev pub is_told_of_devices : List ℕ → Bool
is_told_of_devices word = is_one word (codes "$KEY") (codes "$K") || bytes_eq word (codes "$DEVICE")

-- a function of lists
abbrev pub is_list : List ℕ → Bool
is_list word =
    starts_with nat_eq word (codes "$LIST")
    || (is_one word (codes "$LB") (codes "$LI") || (is_one word (codes "$LG") (codes "$LL") || is_one word (codes "$LF") (codes "$LTS")))

-- what is said of any other variable
abbrev pub other_variable_help : List ℕ → Help
other_variable_help word =
    if is_system word then Said hint.System
    else if is_told_of_devices word then Said hint.Device
    else if bytes_eq word (codes "$QUIT") then Said hint.Asked
    else nearly_or (near_of word variable_names) hint.Variables

-- what is said of a variable that the language leaves out, by its word in capitals
abbrev pub variable_help : List ℕ → Help
variable_help word =
    if is_clock word then Said hint.Clock
    else if is_trap word then Said hint.Trap
    else if is_one word (codes "$PRINCIPAL") (codes "$P") then Said hint.Principal
    else if is_function word then Said hint.Directly
    else if is_one word (codes "$ZEOF") (codes "$ZEO") then Said hint.InputEnd
    else if starts_with nat_eq word (codes "$Z") then Said hint.Passed
    else other_variable_help word

-- what is said of a function that is nearly no other
abbrev pub unknown_function : List ℕ → Hint
unknown_function word =
    if is_byte_function word then hint.Bytes else if starts_with nat_eq word (codes "$Z") then hint.PassedFunctions else hint.Functions

abbrev pub near_function_help : List ℕ → Help
near_function_help word = nearly_or (near_of word function_names) (unknown_function word)

-- what is said of one that has nothing to do with faults
abbrev pub untrapped_function_help : List ℕ → Help
untrapped_function_help word =
    if is_one word (codes "$VIEW") (codes "$V") then Said hint.System
    else if is_list word then Said hint.Lists
    else if bytes_eq word (codes "$CASE") then Said hint.Cases
    else near_function_help word

-- what is said of any other function
abbrev pub other_function_help : List ℕ → Help
other_function_help word = if is_trap word then Said hint.Trap else untrapped_function_help word

-- what is said of a function that it leaves out
abbrev pub function_help : List ℕ → Help
function_help word =
    if is_one word (codes "$TEXT") (codes "$T") then Said hint.Lines
    else if is_one word (codes "$RANDOM") (codes "$R") then Said hint.Chance
    else if is_one word (codes "$FNUMBER") (codes "$FN") then Said hint.Format
    else if is_raised word then Said hint.Raised
    else if is_one word (codes "$NEXT") (codes "$N") then Said hint.Next
    else if is_one word (codes "$ZPREVIOUS") (codes "$ZP") then Said hint.Back
    else if is_one word (codes "$ZDATE") (codes "$ZD") then Said hint.Dated
    else if is_one word (codes "$ZCONVERT") (codes "$ZCO") then Said hint.Letters
    else other_function_help word

-- the word of a command that keeps what is below
abbrev pub is_kept : List ℕ → Bool
is_kept word = is_one word (codes "ZKILL") (codes "ZK") || is_one word (codes "ZWITHDRAW") (codes "ZWI")

-- what is said of a word that is no command's
abbrev pub command_help : List ℕ → Help
command_help word =
    if is_one word (codes "XECUTE") (codes "X") then Said hint.Execute
    else if is_one word (codes "ZWRITE") (codes "ZWR") then Said hint.Listed
    else if is_kept word then Said hint.Kept
    else if is_one word (codes "VIEW") (codes "V") || starts_with nat_eq word (codes "Z") then Said hint.Extended
    else if bytes_eq word (codes "THEN") then Said hint.Then
    else if bytes_eq word (codes "RETURN") then Said hint.Returned
    else if bytes_eq word (codes "PRINT") then Nearly (codes "WRITE")
    else nearly_or (near_of word command_names) hint.Commands

-- what is said of a construct that it leaves out, by the word that stands there
abbrev pub construct_help : Construct → List ℕ → Help
construct_help construct.Function word = function_help (map capital word)
construct_help construct.Variable word = variable_help (map capital word)
construct_help construct.Command word = command_help (map capital word)
construct_help c word = Said (hint.Instead c)

-- ---- other tokens

abbrev pub end_help : Bool → Help
end_help inside = if inside then Said hint.Parenthesis else Said hint.Ends

-- what is said of what may stand nowhere there: a name is wanted, or a command, or what joins both
abbrev pub place_help : List ℕ → Help
place_help before =
    if begins_part before then Said hint.NameThere else if begins_command before then Said hint.CommandThere else Said hint.Apart

-- of the call of a function
abbrev pub call_help : List ℕ → Help
call_help before = if begins_command before then Said hint.Invoked else place_help before

-- of a text in quotes
abbrev pub text_help : List ℕ → Help
text_help before = if begins_part before then Said hint.NameThere else Said hint.Joined

-- of digits
abbrev pub digits_help : List ℕ → List ℕ → Help
digits_help digits before = if nat_lt 18 (length digits) then Said hint.LongNumber else place_help before

-- of a `(` and a `^`
abbrev pub name_help : List ℕ → Help
name_help before = if takes_locals before then Said hint.Locals else place_help before

-- of a word, which is none of a command where one may begin
abbrev pub word_help : List ℕ → Option Help
word_help before =
    if begins_argument before then Some (Said hint.TwoBlanks) else if ends_blank before || begins_part before then None else Some (Said hint.Apart)

-- of a comment
abbrev pub comment_help : List ℕ → Help
comment_help before = if ends_blank before then end_help (is_inside before) else Said hint.CommentBlank

-- of a byte that begins nothing
abbrev pub byte_help : ℕ → Option Help
byte_help b = if b == 36 then None else Some (Said hint.Stray)

-- of a sign
abbrev pub sign_help : Sign → List ℕ → Option Help
sign_help Close before = if is_inside before then Some (Said hint.Fewer) else Some (Said hint.Closed)
sign_help Dot before = Some (Said hint.Dotted)
sign_help Underscore before = Some (Said hint.Underscored)
sign_help Open before = Some (name_help before)
sign_help Caret before = Some (name_help before)
sign_help s before = None

-- what is said where nothing else is, by the token that stands there
abbrev pub token_help : Option (Token × List ℕ) → List ℕ → Option Help
token_help None before = Some (end_help (is_inside before))
token_help (Some (Comment text, slice)) before = Some (comment_help before)
token_help (Some (Unclosed text, slice)) before = Some (Said hint.Quote)
token_help (Some (Quoted text, slice)) before = Some (text_help before)
token_help (Some (Blank, slice)) before = Some (end_help (is_inside before))
token_help (Some (Signed s, slice)) before = sign_help s before
token_help (Some (Digits digits, slice)) before = Some (digits_help digits before)
token_help (Some (Special word, slice)) before = Some (place_help before)
token_help (Some (Called word, slice)) before = Some (place_help before)
token_help (Some (Invoked word, slice)) before = Some (call_help before)
token_help (Some (Numbered digits, slice)) before = Some (call_help before)
token_help (Some (Dollars, slice)) before = None
token_help (Some (Word word, slice)) before = word_help before
token_help (Some (Stray b, slice)) before = byte_help b

-- what is said of a blank too much or too few inside arguments, of a byte that means something else in other languages, or else of the token
abbrev pub plain_help : List ℕ → List ℕ → Option Help
plain_help before there =
    if is_second_blank before there then Some (Said hint.OneBlank)
    else if is_rolled before then Some (Said hint.Rollback)
    else if is_alias before there then Some (Said hint.Alias)
    else if ends_with nat_eq before (codes "!") then Some (Said hint.NewLine)
    else if is_blank_inside before there then Some (Said hint.NoBlank)
    else if starts_with nat_eq there (codes "'") then Some (Said hint.Apostrophe)
    else if starts_with nat_eq there (codes "[") then Some (Said hint.Brackets)
    else if starts_with nat_eq there (codes "%") then Some (Said hint.Remainder)
    else if is_column there then Some (Said hint.Column)
    else if lacks_part before there then Some (Said hint.Fewer)
    else token_help (front_there there) before

abbrev pub named_help : Option Construct → List ℕ → List ℕ → Option Help
named_help None before there = plain_help before there
named_help (Some c) before there = Some (construct_help c (slice_of (front_there there)))

-- Whether a command may stand there that counts as an argument, for want of a blank: not where something else is left out by its name.
abbrev pub may_hide : Option Construct → Bool
may_hide None = true
may_hide (Some construct.Command) = true
may_hide (Some c) = false

-- What helps where a line can't go on behind these bytes with what stands there, which is left out by this name or by none: first where a blank is missing, or
-- SET is, then by signs of other languages, then by the name, then by the rest.
unfoldable pub help_at : Option Construct → List ℕ → List ℕ → Option Help
help_at c before there =
    if may_hide c && (lacks_blank before (slice_of (front_there there)) || lacks_blank_there before there) then Some (Said hint.TwoBlanks)
    else if lacks_set c before there (slice_of (front_there there)) then Some (Said hint.Valued)
    else first_of (foreign_help before there) (named_help c before there)
