use Rattle.std.proofs.Common.{[], Some, sym, ap, ◌∙◌}
use Rattle.std.specs.Option.{option_map}
use Rattle.mj_store.specs.Questions.{with_subscripts}
use Rattle.mj_globs.proofs.Both.{query_of}
use Rattle.mj_globs.proofs.texts.TextsStore.query.Goals as goal

pub returns-in-None-2 : goal.returns-in-None-2
returns-in-None-2 c =
    sym (ap (option_map (with_subscripts c.args.name.now)) c.in-None-2.is)
    ∙ query_of c.args.self.now c.args.name.now c.subscripts.result.now c.in-Some.tree.now c.in_ok-query-in-Some.field-0 c.in_ok-query-in-Some.ensures c.subscripts.ensures
    (c.in-Some.ensures.own [])

pub returns-in_ok-with-in-Some-2 : goal.returns-in_ok-with-in-Some-2
returns-in_ok-with-in-Some-2 c =
    ap (λ n. Some n) c.in_ok-with-in-Some-2.ensures
    ∙ sym (ap (option_map (with_subscripts c.args.name.now)) c.in-Some-2.is)
    ∙ query_of c.args.self.now c.args.name.now c.subscripts.result.now c.in-Some.tree.now c.in_ok-query-in-Some.field-0 c.in_ok-query-in-Some.ensures c.subscripts.ensures
    (c.in-Some.ensures.own [])
