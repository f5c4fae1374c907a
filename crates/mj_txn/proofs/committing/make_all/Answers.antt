use Rattle.std.proofs.Common.{◌≡◌, false, List, ap, ◌∙◌, if◌then◌else◌}
use Rattle.std.specs.List.{list_any}
use Rattle.mj_text.specs.declared.fault.Failure.TheVariants as failure
use Rattle.mj_text.specs.declared.fault.Fault.TheVariants as fault
use Rattle.mj_globs.specs.declared.change.Change.{Change}
use Rattle.mj_globs.specs.Changes.{after_changes, goes_too_deep, are_to}
use Rattle.mj_txn.specs.Commits.{changes_of}
use Rattle.mj_txn.proofs.Replies.{changes_seen, none_deep}
use Rattle.mj_txn.proofs.committing.make_all.Goals as goal

pub returns-in-Ok-clause-globals : goal.returns-in-Ok-clause-globals
returns-in-Ok-clause-globals c =
    c.in-Ok.ensures.ok
    ∙ ap (after_changes c.args.globals.now.content) (c.deref.ensures.value ∙ c.in_ok-changes.ensures ∙ ap changes_of c.entries.ensures.value)
    ∙ changes_seen c.args.log.now.transaction.accesses c.args.globals.now.content

pub returns-in-Ok-clause-others : goal.returns-in-Ok-clause-others
returns-in-Ok-clause-others c n e =
    c.in-Ok.ensures.others n (ap (λ (xs : List Change). are_to xs n) (c.deref.ensures.value ∙ c.in_ok-changes.ensures ∙ ap changes_of c.entries.ensures.value) ∙ e)

pub unreachable-requires : goal.unreachable-requires
unreachable-requires c =
    let none : list_any goes_too_deep c.deref.result.now ≡ false =
    ap (list_any goes_too_deep) (c.deref.ensures.value ∙ c.in_ok-changes.ensures ∙ ap changes_of c.entries.ensures.value) ∙ none_deep c.args.log.now.transaction.accesses in
    let memory : c.in-Err-Fault.field-0 ≡ failure.Memory = c.in-Err-Fault.ensures.error ∙ ap (λ b. if b then failure.Fault fault.Limit else failure.Memory) none in
    let fault : c.in-Err-Fault.field-0 ≡ failure.Fault c.in-Err-Fault.field-0-0 = c.in-Err-Fault.field-0-is in
    cc (memory, fault)
