use Rattle.std.proofs.Common.{◌≡◌, true, refl}
use Rattle.mj_text.specs.declared.limit.Limit.{Limit}
use Rattle.mj_text.specs.declared.limit.Limit.TheVariants.{V1, V2}
use Rattle.mj_ask.specs.Within.{is_reply_within}
use Rattle.mj_ask.specs.declared.ask.Reply.TheVariants as replies
use Rattle.mj_test_core.proofs.logs.is_over.Goals as goal

-- `done` has no text
done_within : (limit : Limit) → is_reply_within limit replies.Done ≡ true
done_within V1 = refl
done_within V2 = refl

pub returns-in-Asks : goal.returns-in-Asks
returns-in-Asks c =
    let start = c.requires.0 in
    (start, c.tell.ensures c.args.image.now start (done_within c.args.image.now.bounds.limit) (c.advance.ensures.run start c.requires.1))
