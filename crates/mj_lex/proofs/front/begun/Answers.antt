use Rattle.std.proofs.Common.{◌≡◌, sym, ap, ◌∙◌}
use Rattle.mj_ast.specs.Tokens.{Token, Digits, Class, ADigit, class_of, front_of, is_digit}
use Rattle.mj_lex.specs.Seen.{class_seen}
use Rattle.mj_lex.proofs.Fronts.{first_and_front}
use Rattle.mj_lex.proofs.front.begun.Goals as goal

pub returns-in-Digit-clause-token : goal.returns-in-Digit-clause-token
returns-in-Digit-clause-token c =
    let class : ADigit ≡ class_of c.args.first = sym (ap class_seen c.in-Digit.is) ∙ c.begun_by.ensures in
    let front : Class → Token = λ k. (front_of k c.args.first c.args.rest.now).0 in
    ap Digits (first_and_front is_digit c.args.bytes.now c.args.first c.args.rest.now c.digits_length-n.result c.requires c.digits_length-n.ensures.value)
    ∙ ap front class
