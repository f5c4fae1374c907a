use Rattle.std.proofs.Common.{◌∙◌, List, ◌++◌, ap, sym}
use Rattle.mj_lex.specs.declared.token.Lexeme.{Lexeme}
use Rattle.mj_lex.specs.Seen.{tokens_seen}
use Rattle.mj_line.specs.Machine.{Args, At, run}
use Rattle.mj_cmd.specs.Lists.{AreItems}
use Rattle.mj_cmd.proofs.Follow.{fails_behind, reads_as_err, refuses_from}
use Rattle.mj_cmd.proofs.Lists.{over_stuck}
use Rattle.mj_cmd.proofs.list.arguments.Goals as goal

pub returns-in_err-rest-clause-reads : goal.returns-in_err-rest-clause-reads
returns-in_err-rest-clause-reads g c = λ q m r b o condition k done.
    reads_as_err c.args.phrases.limited _ _ c.from_residual-in_err-rest.result c.in_err-rest.field-0.0 m c.args.tokens.now _ _ c.from_residual-in_err-rest.ensures.1
    (fails_behind c.args.phrases.limited (λ ps. AreItems g.T.Item.spells ps c.in_ok-items.items.items) c.in_err-rest.field-0.0 m c.args.tokens.now
    (g.T.Item.first_at q) c.in_ok-items.rest.now (g.T.Item.behind_at q) o condition k done (c.in_ok-items.ensures.reads q m r b o condition k done)
    (λ d. refuses_from c.args.phrases.limited c.in_err-rest.field-0.0 _ _
    (over_stuck m o condition k d (g.T.Item.behind_at q) (tokens_seen c.in_ok-items.rest.now) (g.met.T.Argument.over q) c.in_ok-items.ensures.over
    c.in_err-rest.ensures.other) (c.in_err-rest.ensures.refused c.args.phrases.limited)))

pub returns-clause-reads : goal.returns-clause-reads
returns-clause-reads g c = λ q m r b o condition k done.
    let h = c.in_ok-items.ensures.reads q m r b o condition k done in
    (h.0, h.1, h.2 ∙ ap (λ (ls : List Lexeme). run m (tokens_seen ls) (At (Args o condition k (done ++ h.0) (g.T.Item.behind_at q)))) (sym c.in_ok-rest.ensures.ok.0))
