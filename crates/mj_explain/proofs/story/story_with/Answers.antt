use Rattle.std.proofs.Common.{◌≡◌, true}
use Rattle.std.proofs.lemmas.List.Elements.{All-map}
use Rattle.mj_explain.specs.Waiting.{is_deadlock}
use Rattle.mj_explain.proofs.story.story_with.Goals as goal

pub returns : goal.returns
returns c = record {
  clashes = c.in_ok-clashes.ensures.are;
  all_clashes = c.in_ok-clashes.ensures.count;
  deadlocks =
      All-map (λ waits. is_deadlock c.args.asked.now c.args.holds.now waits ≡ true) (λ d. d.items) c.in_ok-deadlocks.deadlocks.items c.in_ok-deadlocks.ensures;
  losses = record {
    found = _;
    are = c.in_ok-losses.ensures;
    first = c.first_of-losses.ensures.first;
    all = c.first_of-losses.ensures.all;
  };
}
