use Rattle.std.proofs.Common.{◌∙◌, [], map, refl, ap, sym, true, inr}
use Rattle.mj_ast.specs.declared.keyword.Verb.{Verb}
use Rattle.mj_ast.specs.declared.keyword.Verb.TheVariants.{HaltOrHang}
use Rattle.mj_ast.specs.Syntax.{Hang}
use Rattle.mj_ast.specs.Commands.{value_parts}
use Rattle.mj_ast.specs.Trees.{command_of, expr_of}
use Rattle.mj_lex.specs.Seen.{tokens_seen}
use Rattle.mj_line.specs.Forms.{ValueWanted, ValueEnd, may_be_bare}
use Rattle.mj_line.specs.Machine.{Bare, Behind, At, args_rest, run}
use Rattle.mj_cmd.proofs.Follow.{room_for, args_end}
use Rattle.mj_cmd.proofs.FollowLines.{blank_opens, own_reads}
use Rattle.mj_cmd.proofs.Lists.{hang_meant, items_parts}
use Rattle.mj_cmd.proofs.command.with_arguments.Goals as goal

pub returns-in-Of-clause-reads : goal.returns-in-Of-clause-reads
returns-in-Of-clause-reads c = λ m r o condition.
    own_reads c.args.phrases.limited (λ x. command_of x.0) (λ x. x.1.now) c.with_own.result m c.args.tokens.now o condition c.args.verb c.in-Of.keyword
    c.in-Of.is (c.with_own.ensures.reads m r o condition)

pub returns-in_ok-arguments-in-HaltOrHang-clause-reads : goal.returns-in_ok-arguments-in-HaltOrHang-clause-reads
returns-in_ok-arguments-in-HaltOrHang-clause-reads c = λ m r o condition.
    let a = c.in_ok-arguments-in-HaltOrHang.ensures.reads true m (room_for c.args.phrases.limited m c.args.tokens.now c.args.behind.now c.requires.room r)
    (inr (c.requires.other (ap may_be_bare c.in-HaltOrHang.is))) o condition HaltOrHang [] in
    let kw = ap (λ (v : Verb). run m (tokens_seen c.in_ok-arguments-in-HaltOrHang.rest.now) (At (Behind (args_rest o condition v a.0)))) (sym c.in-HaltOrHang.is) in (
      a.0,
      λ l. (
        (
          Hang (map expr_of c.in_ok-arguments-in-HaltOrHang.arguments.items),
          items_parts expr_of value_parts c.in_ok-arguments-in-HaltOrHang.arguments.items a.0 (a.1 l),
          refl,
        ),
        hang_meant c.args.verb c.in_ok-arguments-in-HaltOrHang.arguments.items a.0 c.in-HaltOrHang.is (a.1 l),
      ),
      ap (λ (v : Verb). run m (tokens_seen c.args.tokens.now) (At (Bare o condition v))) c.in-HaltOrHang.is
          ∙ blank_opens m o condition HaltOrHang (ValueWanted true) (tokens_seen c.args.tokens.now) (tokens_seen c.args.behind.now) c.requires.blank refl
          ∙ a.2
          ∙ args_end m o condition HaltOrHang a.0 ValueEnd (tokens_seen c.in_ok-arguments-in-HaltOrHang.rest.now) refl c.in_ok-arguments-in-HaltOrHang.ensures.parted
          ∙ kw,
    )
