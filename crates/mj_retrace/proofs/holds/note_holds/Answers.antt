use Rattle.std.proofs.Common.{rules, ◌≡◌, ◌++◌, [], List, Bool, true, sym, ap, ◌∙◌, subst}
use Rattle.std.specs.Prelude.{OnOk, if◌then◌else◌}
use Rattle.std.specs.List.{filter}
use Rattle.std.proofs.lemmas.Fn.{filter_same}
use Rattle.mj_subs.specs.Name.{Name}
use Rattle.mj_retrace.specs.Retraced.{locked_by}
use Rattle.mj_retrace.specs.Noted.{Note, changes_locks, is_held, with_names, gone}
use Rattle.mj_retrace.proofs.Noting.{whichever}
use Rattle.mj_retrace.proofs.holds.note_holds.Goals as goal

-- what is held still is kept, and what was locked is added
pub returns-clause-holds : goal.returns-clause-holds
returns-clause-holds c =
    let locks = c.args.locks.now.holds in
    let job = c.args.job in
    let place = c.args.place in
    let old = c.args.holds.now.items in
    let left = c.retain.new.self.items in
    let names = locked_by c.args.ask.now c.args.reply.now in
    let yes : changes_locks c.args.ask.now ≡ true = sym c.changes_locks.ensures ∙ c.if-not-changes_locks.false in
    let kept : left ≡ filter (is_held locks) old = filter_same _ (is_held locks) _ (λ x r f' k. search rules) _ _ c.retain.ensures.filtered in
    let P : List Note → Type 0 = λ xs. OnOk c.note_names.result (c.note_names.new.holds.items ≡ xs) in
    subst P (ap (λ (ns : List Name). with_names locks job place ns left) c.locked_by.ensures ∙ ap (λ (xs : List Note). with_names locks job place names xs) kept
    ∙ sym (ap (λ (b : Bool). if b then with_names locks job place names (filter (is_held locks) old) else old) yes)) c.note_names.ensures

-- and what isn't held any more is told of
pub returns-clause-past : goal.returns-clause-past
returns-clause-past c =
    let locks = c.args.locks.now.holds in
    let place = c.args.place in
    let old = c.args.holds.now.items in
    let past = c.args.past.now.items in
    let yes : changes_locks c.args.ask.now ≡ true = sym c.changes_locks.ensures ∙ c.if-not-changes_locks.false in
    whichever c.note_names.result (
    c.in_ok-note_gone.ensures ∙ ap (λ (xs : List Note). past ++ gone locks place xs) c.deref.ensures.value
    ∙ sym (ap (λ (b : Bool). past ++ (if b then gone locks place old else [])) yes))
