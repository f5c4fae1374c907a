use Rattle.mj_steps.proofs.Spelled.{ok_some, err_some}
use Rattle.mj_dialogue.proofs.Numbers.{is_text, is_read}
use Rattle.mj_dialogue.proofs.number.number.Goals as goal

pub returns-in_default : goal.returns-in_default
returns-in_default c = λ count few e. absurd (c.in_default.ensures.cases.0 (is_text c.args.digits.now count few e))

pub returns-in-Ok-parse : goal.returns-in-Ok-parse
returns-in-Ok-parse c =
    λ count few e. ok_some c.parse.result c.in-Ok-parse.count count c.in-Ok-parse.is
    (is_read c.in-Ok.text.now c.args.digits.now count c.parse.result c.in-Ok.ensures.cases.0 few e c.parse.ensures.value.0)

pub returns-in-Err : goal.returns-in-Err
returns-in-Err c =
    λ count few e. err_some c.parse.result c.in-Err.field-0 count c.in-Err.is (is_read c.in-Ok.text.now c.args.digits.now count c.parse.result c.in-Ok.ensures.cases.0 few e c.parse.ensures.value.0)
