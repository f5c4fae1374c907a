use Rattle.std.proofs.Common.{◌∙◌, List, OnOk, sym, ap, subst}
use Rattle.mj_semantics.specs.Job.{Start}
use Rattle.mj_inspect.specs.Stands.{Puts, starts_of}
use Rattle.mj_inspect.proofs.Putting.{puts_none}
use Rattle.mj_inspect.proofs.waiting.put_at.Goals as goal

pub returns-in-Some : goal.returns-in-Some
returns-in-Some g c =
    let core = c.args.core.now in
    let P : List Start → Type 0 = λ starts. OnOk c.put_next.result (Puts core.image core.history c.args.place starts c.args.bytes.now.items c.put_next.new.bytes.items) in
    subst P (sym (ap starts_of c.in-Some.is) ∙ c.job_started.ensures) c.put_next.ensures

pub returns-in-None : goal.returns-in-None
returns-in-None g c =
    let core = c.args.core.now in
    let bytes = c.args.bytes.now.items in
    let P : List Start → Type 0 = λ starts. Puts core.image core.history c.args.place starts bytes bytes in
    subst P (sym (ap starts_of c.in-None.is) ∙ c.job_started.ensures) (puts_none core.image core.history c.args.place bytes)
