use Rattle.std.proofs.Common.{◌<◌, ℕ, Vec, Global, sym, ap, subst}
use Rattle.std.specs.Prelude.{OnOk}
use Rattle.std.specs.BTreeMap.{BTreeMap}
use Rattle.mj_globs.specs.Stamps.{Stamps, stamp_limit, stamp_of, IsRaised}
use Rattle.mj_globs.specs.Words.{spelled}
use Rattle.mj_globs.proofs.Stamping.{raised_there, counted_there, raised_added, counted_added}
use Rattle.mj_globs.proofs.stamps.Stamps.count.Goals as goal

pub returns-in-Some-clause-raised : goal.returns-in-Some-clause-raised
returns-in-Some-clause-raised c =
    subst (λ (s : Stamps). IsRaised c.args.word.now s (spelled (c.get_mut.follows.lender c.after.result).entries)) c.self.view_is
    (raised_there c.self.inside.words.entries (c.get_mut.follows.lender c.after.result).entries c.bytes-key.result.now c.args.word.now c.bytes-key.ensures.value
    c.in-Some.stamp.now c.after.result (sym c.in-Some.ensures.value) (c.get_mut.follows.holds c.after.result).0 c.after.ensures.up c.after.ensures.further)

pub returns-in-Some-clause-counted : goal.returns-in-Some-clause-counted
returns-in-Some-clause-counted c =
    subst (λ (s : Stamps). stamp_of s c.args.word.now < stamp_limit → stamp_of s c.args.word.now
    < stamp_of (spelled (c.get_mut.follows.lender c.after.result).entries) c.args.word.now) c.self.view_is
    (counted_there c.self.inside.words.entries (c.get_mut.follows.lender c.after.result).entries c.bytes-key.result.now c.args.word.now c.bytes-key.ensures.value
    c.in-Some.stamp.now c.after.result (sym c.in-Some.ensures.value) (c.get_mut.follows.holds c.after.result).0 c.after.ensures.up c.after.ensures.further)

pub returns-in-None-clause-raised : goal.returns-in-None-clause-raised
returns-in-None-clause-raised c =
    subst (λ (s : Stamps). IsRaised c.args.word.now s c.add.new.self) c.self.view_is
    (raised_added c.self.inside.words.entries c.get_mut.follows.lender-at-none.entries c.bytes-key.result.now c.args.word.now c.bytes-key.ensures.value (sym c.in-None.ensures.value)
    (ap (λ (m : BTreeMap (Vec ℕ Global) ℕ). spelled m.entries) c.get_mut.follows.holds-at-none) c.add.result c.add.new.self c.add.ensures.ok c.add.ensures.err)

pub returns-in-None-clause-counted : goal.returns-in-None-clause-counted
returns-in-None-clause-counted c =
    subst (λ (s : Stamps). OnOk c.add.result (stamp_of s c.args.word.now < stamp_limit → stamp_of s c.args.word.now < stamp_of c.add.new.self c.args.word.now)) c.self.view_is
    (counted_added c.self.inside.words.entries c.get_mut.follows.lender-at-none.entries c.bytes-key.result.now c.args.word.now c.bytes-key.ensures.value (sym c.in-None.ensures.value)
    (ap (λ (m : BTreeMap (Vec ℕ Global) ℕ). spelled m.entries) c.get_mut.follows.holds-at-none) c.add.result c.add.new.self c.add.ensures.ok)
