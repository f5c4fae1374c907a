use Rattle.std.proofs.Common.{◌≡◌, Option, None, Some, ap, ◌∙◌, arith}
use Rattle.std.specs.Prelude.{MatchOption}
use Rattle.mj_locals.specs.declared.trail.NewMark.{NewMark}
use Rattle.mj_locals.specs.Groups.{newest, rest}
use Rattle.mj_locals.proofs.Marks.{ended, ended_keeps}
use Rattle.mj_locals.proofs.trail.Trail.end.Goals as goal

pub invariant_of-self : goal.invariant_of-self
invariant_of-self c =
    ended_keeps c.self.inside.marks.items c.pop-mark.new.self.items c.self.inside.pairs.items c.pop-mark.result c.pop-mark.ensures.items (ap newest c.self.view_is ∙ c.requires) c.self.invariant

left : (r : Option NewMark) (P : Type 0) (Q : NewMark → Type 0) → MatchOption r P Q → r ≡ None → P
left None P Q h e = h
left (Some m) P Q h e = absurd cc

pub returns : goal.returns
returns c =
    ended c.self.inside.marks.items c.pop-mark.new.self.items c.self.inside.pairs.items c.pop-mark.result c.pop-mark.ensures.items
    (λ e. let none = left c.pop-mark.result _ _ c.pop-mark.ensures.cases e in omega (arith, none.0, c.self.inside.marks.ok))
    (ap newest c.self.view_is ∙ c.requires)
    ∙ ap rest c.self.view_is
