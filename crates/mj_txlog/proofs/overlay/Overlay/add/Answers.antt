use Rattle.std.proofs.Common.{[], ◌∷◌, ◌++◌, sym, ap, ◌∙◌, subst}
use Rattle.std.proofs.lemmas.Result.{on_ok_weaker}
use Rattle.mj_txlog.specs.Laid.{Laid, laid_more, IsLaid}
use Rattle.mj_txlog.proofs.Laid.{more_laid}
use Rattle.mj_txlog.proofs.overlay.Overlay.add.Goals as goal

pub returns-in-Access-clause-laid : goal.returns-in-Access-clause-laid
returns-in-Access-clause-laid c = on_ok_weaker c.make.result
    (λ h es laid. subst (λ (o : Laid). IsLaid o (es ++ c.args.entry.now ∷ [])) (ap (laid_more c.args.self.now) c.in-Access.is ∙ sym h) (more_laid c.args.self.now es c.args.entry.now laid))
    c.make.ensures.ok

pub returns-in-Unlock-clause-laid : goal.returns-in-Unlock-clause-laid
returns-in-Unlock-clause-laid c es laid =
    subst (λ (o : Laid). IsLaid o (es ++ c.args.entry.now ∷ [])) (ap (laid_more c.args.self.now) c.in-Unlock.is) (more_laid c.args.self.now es c.args.entry.now laid)
