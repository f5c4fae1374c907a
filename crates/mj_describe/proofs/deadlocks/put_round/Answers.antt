use Rattle.std.proofs.Common.{◌++◌, ap, option_copied}
use Rattle.mj_describe.specs.Words.{Standing, round_text}
use Rattle.mj_explain.proofs.Begun.{got}
use Rattle.mj_describe.proofs.Rounds.{round_on}
use Rattle.mj_describe.proofs.deadlocks.put_round.Goals as goal

pub loop-wait-preserved : goal.loop-wait-preserved
loop-wait-preserved c =
    round_on c.args.shown.now c.args.standing.now c.args.waits.now c.loop-wait.wait-index _
    (c.args.bytes.now.items ++ round_text c.args.shown.now c.args.standing.now c.args.waits.now) c.loop-wait.bytes.items c.put_holds.new.bytes.items
    c.put_wait.new.bytes.items (option_copied c.get.result) c.standing.inside.holds.now
    c.standing.inside.asked.now (ap (λ (v : Standing). v.asked) c.standing.view_is) c.loop-wait-test.true
    c.loop-wait.invariant
    (got c.standing.inside.asked.now _ c.get.result c.get.ensures.lookup)
    (ap (λ (v : Standing). v.holds) c.standing.view_is) c.in_ok-put_holds.ensures c.in_ok-put_wait.ensures
