use Rattle.std.proofs.Common.{ap, ◌∙◌, ◌≡◌, ◌++◌, ◌∷◌, []}
use Rattle.std.proofs.lemmas.List.Elements.{All-push, All-same}
use Rattle.mj_gather.specs.Rans.{Kept}
use Rattle.mj_work.specs.Working.{is_cut}
use Rattle.mj_work.proofs.Standing.{cut_on}
use Rattle.mj_work.proofs.locked.Locked.hand_in.Goals as goal

pub invariant_of-self-clause-cut : goal.invariant_of-self-clause-cut
invariant_of-self-clause-cut g c =
    cut_on c.args.self.now.rans.items c.push.new.self.items c.args.ran c.args.self.now.stopped c.either.result c.is_cut-cut.result c.in_default.ensures.items
    c.args.self.now.cut (c.is_cut-cut.ensures ∙ ap is_cut c.stop.ensures) c.either.ensures

pub invariant_of-self-clause-images : goal.invariant_of-self-clause-images
invariant_of-self-clause-images g c =
    let P : Kept → Type 0 = λ r. r.image ≡ g.J.Work.image in
    All-same P c.push.new.self.items (c.args.self.now.rans.items ++ c.args.ran ∷ []) c.in_default.ensures.items
    (All-push P c.args.self.now.rans.items c.args.ran c.args.self.now.images c.requires.image)
