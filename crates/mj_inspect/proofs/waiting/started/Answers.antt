use Rattle.std.proofs.Common.{◌≡◌, ◌∙◌, ℕ, List, [], Option, ap, subst}
use Rattle.mj_ask.specs.Started.{Started}
use Rattle.mj_ask.specs.declared.entry.Entry.{Entry}
use Rattle.mj_load.specs.Image.{Loaded}
use Rattle.mj_jobvm.specs.Jobs.{Running, IsRunOfAfter}
use Rattle.mj_core.specs.Runs.{start_in}
use Rattle.mj_inspect.specs.Stands.{IsBehind}
use Rattle.mj_inspect.proofs.Following.{starts_behind}
use Rattle.mj_inspect.proofs.waiting.started.Goals as goal

-- it starts at the entry, and with the values, of its start
starts_with : (image own : Loaded) (number : ℕ) (entry : Entry) (values : List (Option (List ℕ))) (start : Started) (job : Running)
    → own ≡ image → entry ≡ start.entry → values ≡ start.values
    → IsRunOfAfter own (record { job = number; entry = entry; values = values }) 0 job → job.run.log ≡ [] → IsBehind image (start_in number start) [] job
starts_with image own number entry values start job same is are run none =
    let E : Entry → Type 0 = λ e. IsRunOfAfter own (record { job = number; entry = e; values = values }) 0 job in
    let V : List (Option (List ℕ)) → Type 0 = λ v. IsRunOfAfter own (record { job = number; entry = start.entry; values = v }) 0 job in
    starts_behind image own (start_in number start) job same (subst V are (subst E is run)) none

pub returns : goal.returns
returns g c =
    starts_with c.args.core.now.image c.image.result.now c.args.number c.into_parts-entry.result.0 c.into_parts-entry.result.1.items c.args.start.now
    c.start.result c.image.ensures
    (c.into_parts-entry.ensures.entry ∙ ap (λ (s : Started). s.entry) c.in_ok-try_clone.ensures)
    (c.into_parts-entry.ensures.values ∙ ap (λ (s : Started). s.values) c.in_ok-try_clone.ensures)
    c.start.ensures.run (ap (λ (job : Running). job.run.log) c.start.ensures.opening)
