use Rattle.std.proofs.Common.{sym, ◌∙◌}
use Rattle.mj_work.proofs.job.Worker.answer_ask.Goals as goal

pub hear-requires : goal.hear-requires
hear-requires g c = record { asks = (c.in-Some.ask.now, sym c.in-Some.ensures, sym c.needs_no_place.ensures ∙ c.if-needs_no_place.true) }

pub share-requires : goal.share-requires
share-requires g c = record { asks = (c.in-Some.ask.now, sym c.in-Some.ensures, sym c.is_shared.ensures ∙ c.if-is_shared.true) }

pub answer_own-requires : goal.answer_own-requires
answer_own-requires g c = record { asks = (c.in-Some.ask.now, sym c.in-Some.ensures, sym c.is_shared.ensures ∙ c.if-is_shared.false) }

pub returns-else-is_shared : goal.returns-else-is_shared
returns-else-is_shared g c = λ a is. c.answer_own.ensures a c.args.claim.now is
