use Rattle.mj_machine.specs.Kept.{replied}
use Rattle.mj_turn.specs.Starts.{start_of}
use Rattle.mj_faulted.specs.Walks.{lent}
use Rattle.mj_faulted.proofs.Walked.{goes_on}
use Rattle.mj_faulted.proofs.walk.go_on.Goals as goal

pub returns-then-walk-most : goal.returns-then-walk-most
returns-then-walk-most c = c.make_several.ensures (start_of c.args.start.now) (lent c.args.replies.now) c.requires

pub make_one-requires-clause-sound : goal.make_one-requires-clause-sound
make_one-requires-clause-sound c =
    let i = c.make_several.ensures (start_of c.args.start.now) (lent c.args.replies.now) c.requires in
    i.stands.sound

pub make_one-requires-clause-few : goal.make_one-requires-clause-few
make_one-requires-clause-few c =
    let i = c.make_several.ensures (start_of c.args.start.now) (lent c.args.replies.now) c.requires in
    i.few

pub returns : goal.returns
returns c =
    goes_on c.args.image.now (start_of c.args.start.now) (lent c.args.replies.now) c.make_one.result (replied c.reply_at.result) c.make_several.new.walk
    c.make_one.new.walk c.reply_at.ensures (c.make_several.ensures (start_of c.args.start.now) (lent c.args.replies.now) c.requires) c.make_one.ensures
