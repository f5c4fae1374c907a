use Rattle.std.proofs.Common.{◌≡◌, ◌∙◌, ◌++◌, List, Bool, true, false, append-nil, Option, Some, IfOk, sym, ap, subst}
use Rattle.std.specs.Prelude.{option_map}
use Rattle.mj_ask.specs.declared.ask.Ask.{Ask}
use Rattle.mj_ask.specs.declared.ask.Reply.{Reply}
use Rattle.mj_semantics.specs.Job.{Start}
use Rattle.mj_load.specs.Image.{Loaded}
use Rattle.mj_jobvm.specs.Jobs.{IsIn}
use Rattle.mj_inspect.specs.Waits.{IsCut, reply_in}
use Rattle.mj_inspect.specs.Stands.{IsBehind}
use Rattle.mj_inspect.proofs.waiting.goes_past.Goals as goal

pub goes_behind-requires : goal.goes_behind-requires
goes_behind-requires g c = let P : Loaded → Type 0 = λ image. IsIn image c.args.job.now in subst P (sym c.image.ensures) c.requires

pub returns-in-Some-clause-on : goal.returns-in-Some-clause-on
returns-in-Some-clause-on g c =
    let P : Loaded → Option (Ask × Reply) → Type 0 = λ image own. (start : Start) (told : List Reply) → IsBehind image start told c.args.job.now
    → IfOk c.goes_behind.result (λ on. on ≡ true → IsBehind image start (told ++ reply_in own) c.goes_behind.new.job) in
    let own = sym (ap (option_map (λ own. (own.0.now, own.1.now))) c.in-Some.is) ∙ c.own_event.ensures in
    subst (P c.args.core.now.image) own
    (let Q : Loaded → Type 0 = λ image. P image (Some (c.in-Some.ask.now, c.in-Some.reply.now)) in subst Q c.image.ensures c.goes_behind.ensures.on)

pub returns-in-Some-clause-cut : goal.returns-in-Some-clause-cut
returns-in-Some-clause-cut g c =
    let P : Loaded → Option (Ask × Reply) → Type 0 = λ image own. (start : Start) (told : List Reply) → IsBehind image start told c.args.job.now
    → IfOk c.goes_behind.result (λ on. on ≡ false → IsCut image start told own) in
    let own = sym (ap (option_map (λ own. (own.0.now, own.1.now))) c.in-Some.is) ∙ c.own_event.ensures in
    subst (P c.args.core.now.image) own
    (let Q : Loaded → Type 0 = λ image. P image (Some (c.in-Some.ask.now, c.in-Some.reply.now)) in subst Q c.image.ensures c.goes_behind.ensures.cut)

pub returns-in-None-clause-on : goal.returns-in-None-clause-on
returns-in-None-clause-on g c = λ start told is on.
    let own = sym (ap (option_map (λ own. (own.0.now, own.1.now))) c.in-None.is) ∙ c.own_event.ensures in
    let P : Option (Ask × Reply) → Type 0 = λ own. IsBehind c.args.core.now.image start (told ++ reply_in own) c.args.job.now in
    let Q : List Reply → Type 0 = λ all. IsBehind c.args.core.now.image start all c.args.job.now in
    subst P own (subst Q (sym (append-nil told)) is)

pub returns-in-None-clause-cut : goal.returns-in-None-clause-cut
returns-in-None-clause-cut g c = λ start told is off. absurd (let no : true ≡ false = off in cc)
