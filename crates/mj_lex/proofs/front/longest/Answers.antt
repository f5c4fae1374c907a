use Rattle.std.proofs.Common.{ℕ, drop, sym, ap, arith}
use Rattle.mj_ast.specs.declared.sign.Sign.{Sign}
use Rattle.mj_lex.proofs.Signs.{longest_other}
use Rattle.mj_lex.proofs.front.longest.Goals as goal

pub returns-in_default : goal.returns-in_default
returns-in_default c =
    let e = longest_other c.args.sign c.args.rest.now c.in_default.not-CloseBracket c.in_default.not-Apostrophe in
    record { sign = ap (λ (x : Sign × ℕ). x.0) (sym e); rest = ap (λ (x : Sign × ℕ). drop x.1 c.args.rest.now) (sym e); within = omega arith }
