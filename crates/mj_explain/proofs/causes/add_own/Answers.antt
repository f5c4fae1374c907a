use Rattle.std.proofs.Common.{rules, ◌≡◌, false, None, ap, sym, ◌∙◌, option_copied}
use Rattle.std.specs.Prelude.{slice_get}
use Rattle.mj_explain.specs.Events.{is_change_of, change_at}
use Rattle.mj_explain.proofs.Begun.{got}
use Rattle.mj_explain.proofs.Owning.{own_not, own_gone}
use Rattle.mj_explain.proofs.causes.add_own.Goals as goal

pub returns-in_default : goal.returns-in_default
returns-in_default c =
    let es = c.args.events.now in
    let none : c.change_at.result ≡ None = search rules in
    let gone : change_at es c.args.place ≡ None = sym c.change_at.ensures ∙ ap option_copied none in
    own_gone c.args.job (slice_get es c.args.place) (change_at es c.args.place) c.args.own.now.items gone

pub returns-else-is_change_of : goal.returns-else-is_change_of
returns-else-is_change_of c =
    let es = c.args.events.now in
    let no : is_change_of c.args.job (slice_get es c.args.place) ≡ false =
    ap (is_change_of c.args.job) (sym (got es c.args.place c.get.result c.get.ensures.lookup)) ∙ sym c.is_change_of.ensures ∙ c.if-is_change_of.false in
    own_not c.args.job (slice_get es c.args.place) (change_at es c.args.place) c.args.own.now.items no
