-- What functions give of the values of their arguments (ISO/IEC 11756:1999, 7.1.5). The arguments are texts, all of which have
-- their values before one of them is looked at.
use Rattle.std.specs.Prelude.{ℕ, List, [], Option, Some, None, Result, Ok, Err, length, slice_get}
use Rattle.mj_text.specs.declared.fault.Fault.{Fault}
use Rattle.mj_text.specs.declared.fault.Fault.TheVariants.{Subscript}
use Rattle.mj_text.specs.Failing.{then_value}
use Rattle.mj_text.specs.declared.limit.Limit.{Limit}
use Rattle.mj_num.specs.Number.{reading}
use Rattle.mj_subs.specs.Name.{Name}
use Rattle.mj_nref.specs.Reading.{name_of}
use Rattle.mj_nref.specs.Spelling.{part_at}
use Rattle.mj_ast.specs.declared.function.Function.{Function}
use Rattle.mj_ast.specs.declared.function.Function.TheVariants.{Ascii, Char, Extract, Find, Justify, Length, Piece, QLength, QSubscript, Reverse, Translate}
use Rattle.mj_strfn.specs.Functions.{ascii_value, char_value, extract_value, find_value, justify_value, length_value, number_text, piece_value, reverse_value, translate_value}

-- the argument behind n others, if there is one
abbrev pub optional : ℕ → List (List ℕ) → Option (List ℕ)
optional n arguments = slice_get arguments n

-- an argument that is always there; one that is missing would count as the empty text
abbrev pub needed : ℕ → List (List ℕ) → List ℕ
needed n arguments = elim (slice_get arguments n) [ None ↦ [] | Some t ↦ t ]

-- the name that a text spells; SUBSCRIPT where it is no name text (this profile)
abbrev pub spelled_name : List ℕ → Result Name Fault
spelled_name t = elim (name_of t) [ None ↦ Err Subscript | Some n ↦ Ok n ]

-- the value of a call, where texts have this limit
abbrev pub call_value : Limit → Function → List (List ℕ) → Result (List ℕ) Fault
call_value limit Ascii a = ascii_value (needed 0 a) (optional 1 a)
call_value limit Char a = char_value limit a
call_value limit Extract a = extract_value (needed 0 a) (optional 1 a) (optional 2 a)
call_value limit Find a = find_value (needed 0 a) (needed 1 a) (optional 2 a)
call_value limit Justify a = justify_value limit (needed 0 a) (needed 1 a)
call_value limit Length a = Ok (length_value (needed 0 a) (optional 1 a))
call_value limit Piece a = piece_value (needed 0 a) (needed 1 a) (optional 2 a) (optional 3 a)
call_value limit QLength a = then_value (spelled_name (needed 0 a)) (λ n. Ok (number_text (length n.subscripts)))
call_value limit QSubscript a = then_value (spelled_name (needed 0 a)) (λ n. then_value (reading (needed 1 a)) (λ k. Ok (part_at n k)))
call_value limit Reverse a = Ok (reverse_value (needed 0 a))
call_value limit Translate a = Ok (translate_value (needed 0 a) (needed 1 a) (optional 2 a))
