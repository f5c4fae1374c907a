use Rattle.mj_globs.proofs.Lists.{keeps_set, keeps_put}
use Rattle.mj_globs.proofs.all.give.Goals as goal

pub returns-in_ok-try_clone-in-Set-clause-others : goal.returns-in_ok-try_clone-in-Set-clause-others
returns-in_ok-try_clone-in-Set-clause-others c = keeps_set _ _ _ _ _ _ c.in-Set.is c.in_ok-try_clone-in-Set.ensures c.exchange.ensures.others

pub returns-in-Put-clause-others : goal.returns-in-Put-clause-others
returns-in-Put-clause-others c = keeps_put _ _ _ _ _ c.in-Put.is c.give_nodes.ensures.others
