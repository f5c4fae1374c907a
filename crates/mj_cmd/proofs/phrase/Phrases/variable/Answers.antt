use Rattle.std.proofs.Common.{Bor, List}
use Rattle.mj_lex.specs.declared.token.Lexeme.{Lexeme}
use Rattle.mj_ast.specs.Expressions.{variables}
use Rattle.mj_ast.specs.Trees.{variable_of}
use Rattle.mj_expr.specs.Machine.{Target}
use Rattle.mj_line.specs.Machine.{variable_wanted, inside, level}
use Rattle.mj_cmd.proofs.Follow.{limited_reads, room_free, free_reads, free_refuses, reads_err, inside_room, level_one}
use Rattle.mj_cmd.proofs.phrase.Phrases.variable.Goals as goal

pub returns-then-self-clause-reads : goal.returns-then-self-clause-reads
returns-then-self-clause-reads c = λ m r g v z.
    limited_reads variables c.args.self.limited (λ x. variable_of x.0) Target (λ x. x.1.now) c.variable.result m c.args.tokens.now g variable_wanted
    c.args.level v z c.if-self.true r c.variable.ensures.read c.variable.ensures.runs

pub returns-in_err-rest-clause-reads : goal.returns-in_err-rest-clause-reads
returns-in_err-rest-clause-reads c = λ m r g v z.
    let room = room_free c.args.self.limited m c.args.tokens.now c.if-self.false r in
    reads_err c.args.self.limited _ _ c.from_residual.result c.in_err-rest.field-0.0 m c.args.tokens.now _ _ c.from_residual.ensures.1
    (free_refuses {X = Bor (List Lexeme)} c.args.self.limited Target (λ x. x.now) c.in_err-rest.field-0.0 m c.args.tokens.now g variable_wanted
    (c.in_err-rest.ensures.ends (inside m (level g)) room.0 (inside_room m g c.args.tokens.now (level_one c.args.level (level g) v c.requires) room.1)))

pub returns-clause-reads : goal.returns-clause-reads
returns-clause-reads c = λ m r g v z.
    let room = room_free c.args.self.limited m c.args.tokens.now c.if-self.false r in
    free_reads c.args.self.limited Target m c.args.tokens.now c.in_ok-rest.rest.now g variable_wanted _ z c.if-self.false c.in_ok-rest.ensures.back
    (c.in_ok-rest.ensures.ends (inside m (level g)) room.0 (inside_room m g c.args.tokens.now (level_one c.args.level (level g) v c.requires) room.1))
