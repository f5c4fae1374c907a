use Rattle.std.proofs.Common.{ap, ◌∙◌, subst, Bool}
use Rattle.mj_ast.specs.Tokens.{tokens}
use Rattle.mj_ast.specs.Lines.{label_of}
use Rattle.mj_lex.specs.Seen.{tokens_seen}
use Rattle.mj_rou.specs.Read.{IsTwice}
use Rattle.mj_rou.proofs.Columns.{seen_tokens}
use Rattle.mj_rou.proofs.routine.line_tree.Goals as goal

pub returns-in-Err-clause-refused : goal.returns-in-Err-clause-refused
returns-in-Err-clause-refused c = λ before h.
    let said = c.label-label.ensures ∙ ap label_of (ap tokens_seen c.as_slice-lexemes.ensures.value ∙ seen_tokens c.tokens_into.new.lexemes.items c.args.line.now c.in-Ok.ensures.placed) in
    c.ranked.ensures before c.args.line.now c.in-Err.ensures.refused (c.is_kept-twice.ensures before (tokens c.args.line.now) h said)

pub returns-then-twice-clause-refused : goal.returns-then-twice-clause-refused
returns-then-twice-clause-refused c = λ before h.
    let said = c.label-label.ensures ∙ ap label_of (ap tokens_seen c.as_slice-lexemes.ensures.value ∙ seen_tokens c.tokens_into.new.lexemes.items c.args.line.now c.in-Ok.ensures.placed) in
    let P : Bool → Type 0 = λ b. IsTwice b before (tokens c.args.line.now) in
    (c.in-Ok-tree_of.ensures.read.short, subst P c.if-twice.true (c.is_kept-twice.ensures before (tokens c.args.line.now) h said))

pub returns-else-twice-clause-label : goal.returns-else-twice-clause-label
returns-else-twice-clause-label c = c.label-label.ensures ∙ ap label_of (ap tokens_seen c.as_slice-lexemes.ensures.value ∙
    seen_tokens c.tokens_into.new.lexemes.items c.args.line.now c.in-Ok.ensures.placed)

pub returns-else-twice-clause-apart : goal.returns-else-twice-clause-apart
returns-else-twice-clause-apart c = λ before h.
    let said = c.label-label.ensures ∙ ap label_of (ap tokens_seen c.as_slice-lexemes.ensures.value ∙ seen_tokens c.tokens_into.new.lexemes.items c.args.line.now c.in-Ok.ensures.placed) in
    let P : Bool → Type 0 = λ b. IsTwice b before (tokens c.args.line.now) in
    subst P c.if-twice.false (c.is_kept-twice.ensures before (tokens c.args.line.now) h said)
