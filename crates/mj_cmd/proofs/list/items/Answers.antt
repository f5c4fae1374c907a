use Rattle.std.proofs.Common.{[], ◌∷◌, arith}
use Rattle.mj_ast.specs.declared.sign.Sign.TheVariants.{Comma}
use Rattle.mj_ast.specs.Tokens.{Signed}
use Rattle.mj_ast.specs.Commands.{Put}
use Rattle.mj_line.specs.Forms.{sort_of}
use Rattle.mj_cmd.specs.Lists.{AreItems}
use Rattle.mj_cmd.proofs.Follow.{fails_behind, fails_then, kept_length, reads_as_err, room_for, sign_at, went_by, went_token}
use Rattle.mj_cmd.proofs.Lists.{items_first, more_items}
use Rattle.mj_cmd.proofs.list.items.Goals as goal

pub commas-init : goal.commas-init
commas-init g c = record {
  goes = λ q m r b o condition k done.
      went_by c.args.phrases.limited (λ ps. g.T.Item.spells ps c.in_ok-first.first) (λ ps. AreItems g.T.Item.spells ps c.added.new.list.items) m
      c.args.tokens.now (g.T.Item.first_at q) c.in_ok-first.rest.now (g.T.Item.behind_at q) o condition k done
      (λ ps i. items_first g.T.Item.spells c.new-items.result.items c.added.new.list.items c.in_ok-first.first ps c.new-items.ensures.items
      c.in_ok-added.ensures i) (c.in_ok-first.ensures.first q m r b o condition k done);
  some = kept_length c.new-items.result.items c.added.new.list.items c.in_ok-first.first c.in_ok-added.ensures;
  falls = c.in_ok-first.ensures.shorter;
}

pub returns-in_err-item-clause-reads : goal.returns-in_err-item-clause-reads
returns-in_err-item-clause-reads g c = λ q m r b o condition k done.
    reads_as_err c.args.phrases.limited _ _ c.from_residual-in_err-item.result c.in_err-item.field-0.0 m c.args.tokens.now _ _ c.from_residual-in_err-item.ensures.1
    (fails_behind c.args.phrases.limited (λ ps. AreItems g.T.Item.spells ps c.commas.items.items) c.in_err-item.field-0.0 m c.args.tokens.now
    (g.T.Item.first_at q) c.commas.rest.now (g.T.Item.behind_at q) o condition k done (c.commas.invariant.goes q m r b o condition k done)
    (λ d. fails_then c.args.phrases.limited (Put Comma ∷ []) c.in_err-item.field-0.0 m c.commas.rest.now (g.T.Item.behind_at q) c.in-Some.behind.now
    (g.T.Item.more_at q) o condition k d (went_token c.args.phrases.limited (Signed Comma) (Put Comma) m c.commas.rest.now (g.T.Item.behind_at q)
    c.in-Some.behind.now (g.T.Item.more_at q) o condition k d c.in-Some.ensures.0 (sign_at (sort_of (g.T.Item.behind_at q)) Comma) (g.met.T.Item.comma q))
    (λ e. c.in_err-item.ensures.more q m (room_for c.args.phrases.limited m c.args.tokens.now c.in-Some.behind.now (omega (arith, c.in-Some.ensures.1, c.commas.invariant.falls)) r) o condition k e)))

pub commas-preserved : goal.commas-preserved
commas-preserved g c = record {
  goes = λ q m r b o condition k done.
      more_items g.T.Item.spells c.args.phrases.limited c.commas.items.items c.added-in-Some.new.list.items c.in_ok-item.item m c.args.tokens.now
      (g.T.Item.first_at q) c.commas.rest.now (g.T.Item.behind_at q) c.in-Some.behind.now (g.T.Item.more_at q) c.in_ok-item.behind.now o condition k done
      c.in_ok-added-2.ensures c.in-Some.ensures.0 (g.met.T.Item.comma q)
      (c.commas.invariant.goes q m r b o condition k done)
      (λ d. c.in_ok-item.ensures.more q m (room_for c.args.phrases.limited m c.args.tokens.now c.in-Some.behind.now (omega (arith, c.in-Some.ensures.1, c.commas.invariant.falls)) r) o condition k d);
  some = kept_length c.commas.items.items c.added-in-Some.new.list.items c.in_ok-item.item c.in_ok-added-2.ensures;
  falls = omega (arith, c.in_ok-item.ensures.shorter, c.in-Some.ensures.1, c.commas.invariant.falls);
}
