use Rattle.mj_steps.proofs.Spelled.{ok_some, err_some, is_text, is_read}
use Rattle.mj_steps.proofs.line.number.Goals as goal

pub returns-in_default : goal.returns-in_default
returns-in_default c = λ job few e. absurd (c.in_default.ensures.cases.0 (is_text c.args.digits.now job few e))

pub returns-in-Ok-parse : goal.returns-in-Ok-parse
returns-in-Ok-parse c =
    λ job few e. ok_some c.parse.result c.in-Ok-parse.job job c.in-Ok-parse.is (is_read c.in-Ok.text.now c.args.digits.now job c.parse.result c.in-Ok.ensures.cases.0 few e c.parse.ensures.value.0)

pub returns-in-Err : goal.returns-in-Err
returns-in-Err c =
    λ job few e. err_some c.parse.result c.in-Err.field-0 job c.in-Err.is (is_read c.in-Ok.text.now c.args.digits.now job c.parse.result c.in-Ok.ensures.cases.0 few e c.parse.ensures.value.0)
