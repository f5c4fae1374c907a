use Rattle.std.proofs.Common.{Some, refl, ap, subst}
use Rattle.mj_subs.specs.Name.{Name}
use Rattle.mj_locktab.specs.Told.{stands_of}
use Rattle.mj_locktab.specs.Parts.{held_by}
use Rattle.mj_locktab.proofs.Follows.{more_and_less}
use Rattle.mj_locktab.proofs.Followed.{follows_alike, follows_new, alike_itself}
use Rattle.mj_locktab.proofs.Named.{IsWrittenAt, held_new}
use Rattle.mj_locktab.proofs.part.add.Goals as goal

pub returns-in_err-added-clause-follows : goal.returns-in_err-added-clause-follows
returns-in_err-added-clause-follows c =
    let held = held_by c.args.job c.args.part.now.entries in
    follows_alike (stands_of c.args.index.now) (stands_of c.args.index.now) held held c.args.job c.args.name.now refl (alike_itself (stands_of c.args.index.now))

pub returns-in_err-mark-clause-follows : goal.returns-in_err-mark-clause-follows
returns-in_err-mark-clause-follows c =
    let held = held_by c.args.job c.args.part.now.entries in
    follows_alike (stands_of c.args.index.now) (stands_of c.mark.new.self) held held c.args.job c.args.name.now refl c.in_err-mark.ensures.err

pub returns-clause-ok : goal.returns-clause-ok
returns-clause-ok c =
    let old = c.args.part.now.entries in
    let new = c.insert.new.self.entries in
    let written = subst (λ (x : Name). IsWrittenAt old new x (Some 1)) c.in_ok-added.ensures c.in_default.ensures.updates.0 in
    held_new c.args.job c.args.name.now old new c.requires.part c.in_default.ensures.ordered c.requires.absent written

pub returns-clause-follows : goal.returns-clause-follows
returns-clause-follows c =
    let old = c.args.part.now.entries in
    let new = c.insert.new.self.entries in
    let written = subst (λ (x : Name). IsWrittenAt old new x (Some 1)) c.in_ok-added.ensures c.in_default.ensures.updates.0 in
    follows_new (stands_of c.args.index.now) (stands_of c.mark.new.self) (held_by c.args.job old) (held_by c.args.job new) c.args.job c.args.name.now c.requires.absent
    (held_new c.args.job c.args.name.now old new c.requires.part c.in_default.ensures.ordered c.requires.absent written) c.in_ok-mark.ensures.ok

-- where memory is refused the trees are given it back
pub returns-in-Err-clause-err : goal.returns-in-Err-clause-err
returns-in-Err-clause-err c = ap (held_by c.args.job) c.in-Err.ensures.err

pub returns-in-Err-clause-follows : goal.returns-in-Err-clause-follows
returns-in-Err-clause-follows c =
    follows_alike (stands_of c.args.index.now) (stands_of c.unmark.new.self) (held_by c.args.job c.args.part.now.entries) (held_by c.args.job c.insert.new.self.entries) c.args.job c.args.name.now
    (ap (held_by c.args.job) c.in-Err.ensures.err)
    (more_and_less (stands_of c.args.index.now) (stands_of c.mark.new.self) (stands_of c.unmark.new.self) c.args.job c.args.name.now c.requires.free c.in_ok-mark.ensures.ok c.unmark.ensures)
