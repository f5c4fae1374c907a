-- What the functions of variables give: the question that they ask of a name, and the text that they make of the answer
-- (ISO/IEC 11756:1999, 7.1.5: $DATA, $GET, $NAME, $ORDER, $QUERY). What stands behind the variable is a text, if anything does.
use Rattle.std.specs.Prelude.{ℕ, zero, suc, Bool, true, false, List, [], Option, Some, None, Result, Ok, Err, ℤ, pos, negsuc}
use Rattle.mj_text.specs.declared.fault.Fault.{Fault}
use Rattle.mj_text.specs.declared.fault.Fault.TheVariants.{Range}
use Rattle.mj_text.specs.Failing.{then_value}
use Rattle.mj_num.specs.Number.{reading}
use Rattle.mj_subs.specs.Name.{Name}
use Rattle.mj_nref.specs.Spelling.{name_text}
use Rattle.mj_store.specs.declared.store.Direction.{Direction}
use Rattle.mj_store.specs.declared.store.Direction.TheVariants.{Forward, Backward}
use Rattle.mj_store.specs.declared.access.Access.{Access}
use Rattle.mj_store.specs.declared.access.Access.TheVariants as accesses
use Rattle.mj_store.specs.declared.access.Answer.{Answer}
use Rattle.mj_text.specs.Limit.{within_limit}
use Rattle.mj_text.specs.declared.limit.Limit.{Limit}
use Rattle.mj_strfn.specs.Functions.{number_text}
use Rattle.mj_semantics.specs.Accesses.{data_told, order_told, query_told, value_told}
use Rattle.mj_ast.specs.declared.function.NameFunction.{NameFunction}
use Rattle.mj_ast.specs.declared.function.NameFunction.TheVariants as names

-- the text of a name, if it is no longer than a text may be
abbrev pub spelled : Limit → Name → Result (List ℕ) Fault
spelled limit x = within_limit limit (name_text x)

-- a direction of `$ORDER`: 1 or -1, anything else is RANGE
abbrev pub way_of : ℤ → Result Direction Fault
way_of (pos zero) = Err Range
way_of (pos (suc zero)) = Ok Forward
way_of (pos (suc (suc n))) = Err Range
way_of (negsuc zero) = Ok Backward
way_of (negsuc (suc n)) = Err Range

-- the direction that a text reads as; forward where none is given
abbrev pub direction_of : Option (List ℕ) → Result Direction Fault
direction_of None = Ok Forward
direction_of (Some t) = then_value (reading t) way_of

-- whether the function asks something; `$NAME` alone doesn't
abbrev pub asks : NameFunction → Bool
asks names.Data = true
asks names.Get = true
asks names.Name = false
asks names.Order = true
asks names.Query = true

-- what is asked of the name, where something is
abbrev pub question : NameFunction → Name → Option (List ℕ) → Result Access Fault
question names.Data x other = Ok (accesses.Data x)
question names.Get x other = Ok (accesses.Value x)
question names.Name x other = Ok (accesses.Value x)
question names.Order x other = then_value (direction_of other) (λ way. Ok (accesses.Order x way))
question names.Query x other = Ok (accesses.Query x)

-- a text, or another where there is none; the empty text where there is no other
abbrev pub or_other : Option (List ℕ) → Option (List ℕ) → List ℕ
or_other (Some v) other = v
or_other None (Some t) = t
or_other None None = []

-- the text of a name, and the empty text where there is none
abbrev pub spelled_if : Limit → Option Name → Result (List ℕ) Fault
spelled_if limit None = Ok []
spelled_if limit (Some x) = spelled limit x

-- what the answer gives
abbrev pub function_told : Limit → NameFunction → Option (List ℕ) → Answer → Result (List ℕ) Fault
function_told limit names.Data other a = Ok (number_text (data_told a))
function_told limit names.Get other a = Ok (or_other (value_told a) other)
function_told limit names.Name other a = Ok []
function_told limit names.Order other a = Ok (or_other (order_told a) None)
function_told limit names.Query other a = spelled_if limit (query_told a)
