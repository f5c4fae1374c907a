use Rattle.std.proofs.Common.{◌≡◌, take, drop, ◌++◌}
use Rattle.mj_store.specs.Runs.{answers_of, after_accesses}
use Rattle.mj_store.proofs.access.run.Given as goal

-- the answers so far and those to what is left are those to all, and the content is that after a front
abbrev pub invariant-loop-access : goal.invariant-loop-access
invariant-loop-access g l =
    let contents = g.S.Store.contents in
    record {
      answered : l.answers.items ++ answers_of (drop l.access-index l.accesses) (contents l.store) ≡ answers_of l.accesses (contents l.fn.store);
      content : contents l.store ≡ after_accesses (take l.access-index l.accesses) (contents l.fn.store);
    }
