use Rattle.mj_hints.proofs.Lines.{emptied_in}
use Rattle.mj_hints.proofs.text.with_empty.Goals as goal

pub returns : goal.returns
returns c =
    emptied_in c.args.place c.args.bytes.now c.in-Some.front.now c.in-Some.rest.now _ c.first_line.result.1.now c.in_ok-text-2.text.items c.in-Some.ensures.cut c.first_line.ensures
    c.in_ok-text-2.ensures
