use Rattle.std.proofs.Common.{sym, ap, ◌∙◌, subst}
use Rattle.mj_locals.specs.Letters.{place_in, AreLed}
use Rattle.mj_locals.proofs.Letters.{led_still, led_now}
use Rattle.mj_locals.proofs.index.Index.add.Goals as goal

-- memory is refused
pub invariant_of-self : goal.invariant_of-self
invariant_of-self c = subst (AreLed c.self.inside.letters) (sym c.in_err-insert.ensures.err) c.self.invariant

pub invariant_of-self-in-Some : goal.invariant_of-self-in-Some
invariant_of-self-in-Some c =
    led_now c.self.inside.letters c.self.inside.words.entries c.self.invariant c.args.word c.args.place
    (ap (place_in c.args.word.items) c.self.view_is ∙ c.requires)
    c.in-Some.letter c.lead.new.letters (sym c.as_slice.ensures.value ∙ c.in-Some.ensures)
    c.insert.new.self.entries c.lead.ensures c.in_ok-insert.ensures.entries

pub invariant_of-self-in_default : goal.invariant_of-self-in_default
invariant_of-self-in_default c =
    led_still c.self.inside.letters c.self.inside.words.entries c.self.invariant c.args.word c.args.place
    (ap (place_in c.args.word.items) c.self.view_is ∙ c.requires)
    c.insert.new.self.entries c.in_ok-insert.ensures.entries
