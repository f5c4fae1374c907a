use Rattle.std.proofs.Common.{sym, ◌∙◌}
use Rattle.mj_locktab.specs.Trees.{Stand, tallies_of}
use Rattle.mj_locktab.proofs.Bare.{told_false, none_there, one_there, is_bare_if, bare_holder, bare_tallies, bare_kids}
use Rattle.mj_locktab.proofs.node.Node.is_bare.Goals as goal
use Rattle.mj_locktab.proofs.node.Node.is_bare.Goals.{then-is_none, else-is_none}

pub returns-then-is_empty : goal.returns-then-is_empty
returns-then-is_empty c =
    let own : Stand = (c.self.inside.holder, tallies_of c.self.inside.tallies) in
    let ks = c.self.inside.children.entries in
    elim c.if-is_none.branch [
      | then-is_none w ↦ (
        λ empty. is_bare_if own ks c.args.self.now c.self.view_is (none_there c.self.inside.holder c.is_none.result c.is_none.ensures w.if-is_none.true)
            (w.is_empty.ensures.0 (sym w.value-is ∙ c.if-is_empty.true)) (c.is_empty-then-is_empty.ensures.0 empty),
        λ bare. c.is_empty-then-is_empty.ensures.1 (bare_kids own ks c.args.self.now c.self.view_is c.self.invariant.0 c.self.invariant.2 bare),
      )
      | else-is_none w ↦ absurd (told_false c.if-is_none.value (w.value-is ∙ w.if-is_none.false) c.if-is_empty.true)
    ]

pub returns-else-is_empty : goal.returns-else-is_empty
returns-else-is_empty c =
    let own : Stand = (c.self.inside.holder, tallies_of c.self.inside.tallies) in
    let ks = c.self.inside.children.entries in (
      λ yes. absurd (told_false c.if-is_none.value c.if-is_empty.false yes),
      λ bare. elim c.if-is_none.branch [
        | then-is_none w ↦ w.value-is ∙ w.is_empty.ensures.1 (bare_tallies own ks c.args.self.now c.self.view_is c.self.invariant.1 bare)
        | else-is_none w ↦ absurd (one_there c.self.inside.holder c.is_none.result c.is_none.ensures w.if-is_none.false (bare_holder own ks c.args.self.now c.self.view_is bare))
      ],
    )
