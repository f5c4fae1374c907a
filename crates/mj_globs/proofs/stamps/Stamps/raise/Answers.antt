use Rattle.std.proofs.Common.{ℕ, Vec, Global, sym, ap, subst}
use Rattle.std.specs.BTreeMap.{BTreeMap}
use Rattle.mj_globs.specs.Stamps.{Stamps, IsRaised}
use Rattle.mj_globs.specs.Words.{spelled}
use Rattle.mj_globs.proofs.Stamping.{raised_there, raised_absent}
use Rattle.mj_globs.proofs.stamps.Stamps.raise.Goals as goal

pub returns-in_default : goal.returns-in_default
returns-in_default c =
    subst (λ (s : Stamps). IsRaised c.args.word.now s (spelled c.get_mut.follows.lender-at-none.entries)) c.self.view_is
    (raised_absent c.self.inside.words.entries c.get_mut.follows.lender-at-none.entries c.bytes.result.now c.args.word.now c.bytes.ensures.value (sym c.in_default.ensures.value)
    (ap (λ (m : BTreeMap (Vec ℕ Global) ℕ). spelled m.entries) c.get_mut.follows.holds-at-none))

pub returns : goal.returns
returns c =
    subst (λ (s : Stamps). IsRaised c.args.word.now s (spelled (c.get_mut.follows.lender c.after.result).entries)) c.self.view_is
    (raised_there c.self.inside.words.entries (c.get_mut.follows.lender c.after.result).entries c.bytes.result.now c.args.word.now c.bytes.ensures.value
    c.in-Some.stamp.now c.after.result (sym c.in-Some.ensures.value) (c.get_mut.follows.holds c.after.result).0 c.after.ensures.up c.after.ensures.further)
