use Rattle.std.proofs.Common.{◌≡◌, ◌<◌, List, length, reverse, sym, ap, ◌∙◌, arith}
use Rattle.std.specs.Prelude.{vec_len}
use Rattle.mj_locals.specs.Groups.{Group, newest, reduced}
use Rattle.mj_locals.specs.Marks.{divided}
use Rattle.mj_locals.proofs.Marks.{popped_keeps, popped_newest, popped_rest, popped_none}
use Rattle.mj_locals.proofs.trail.Trail.pop.Goals as goal

pub invariant_of-self : goal.invariant_of-self
invariant_of-self c =
    let same : length (newest (divided (reverse c.self.inside.marks.items) c.self.inside.pairs.items)) ≡ length (newest c.args.self.now) =
    ap (λ (gs : List Group). length (newest gs)) c.self.view_is in
    let some : 0 < length (newest (divided (reverse c.self.inside.marks.items) c.self.inside.pairs.items)) = omega arith in
    popped_keeps (reverse c.self.inside.marks.items) c.self.inside.pairs.items c.pop.new.self.items c.pop.result c.pop.ensures.items c.self.invariant some

pub returns-clause-pairs : goal.returns-clause-pairs
returns-clause-pairs c =
    let same : length (newest (divided (reverse c.self.inside.marks.items) c.self.inside.pairs.items)) ≡ length (newest c.args.self.now) =
    ap (λ (gs : List Group). length (newest gs)) c.self.view_is in
    let some : 0 < length (newest (divided (reverse c.self.inside.marks.items) c.self.inside.pairs.items)) = omega arith in
    sym (ap newest c.self.view_is)
    ∙ popped_newest (reverse c.self.inside.marks.items) c.self.inside.pairs.items c.pop.new.self.items c.pop.result c.pop.ensures.items c.self.invariant some

pub returns-clause-rest : goal.returns-clause-rest
returns-clause-rest c =
    let same : length (newest (divided (reverse c.self.inside.marks.items) c.self.inside.pairs.items)) ≡ length (newest c.args.self.now) =
    ap (λ (gs : List Group). length (newest gs)) c.self.view_is in
    let some : 0 < length (newest (divided (reverse c.self.inside.marks.items) c.self.inside.pairs.items)) = omega arith in
    popped_rest (reverse c.self.inside.marks.items) c.self.inside.pairs.items c.pop.new.self.items c.pop.result c.pop.ensures.items c.self.invariant some
    ∙ ap (reduced (newest (divided (reverse c.self.inside.marks.items) c.pop.new.self.items))) c.self.view_is

pub returns-clause-none : goal.returns-clause-none
returns-clause-none c =
    let same : length (newest (divided (reverse c.self.inside.marks.items) c.self.inside.pairs.items)) ≡ length (newest c.args.self.now) =
    ap (λ (gs : List Group). length (newest gs)) c.self.view_is in
    let some : 0 < length (newest (divided (reverse c.self.inside.marks.items) c.self.inside.pairs.items)) = omega arith in
    let counted : vec_len c.self.inside.pairs ≡ length c.self.inside.pairs.items = omega (arith, c.self.inside.pairs.ok) in
    popped_none c.pop.result (vec_len c.self.inside.pairs) _ _ (reverse c.self.inside.marks.items) c.self.inside.pairs.items _ c.pop.ensures.cases counted some
