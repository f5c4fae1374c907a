use Rattle.std.proofs.Common.{◌≡◌, List, ℕ, [], ◌∷◌, ◌++◌, nat_cmp, sym, ap, ◌∙◌, subst}
use Rattle.std.specs.Option.{is_some}
use Rattle.std.specs.Cmp.Lexicographic.{slice_cmp}
use Rattle.std.specs.BTreeMap.{insert_entry}
use Rattle.mj_pcode.specs.Labels.{Labels, spelled, line_with}
use Rattle.mj_pcode.specs.Rows.{AreRows}
use Rattle.mj_pcode.proofs.Spelled.{line_spelled, insert_spelled, one_more_row, is_none, kept, came}
use Rattle.mj_pcode.proofs.labels.Labels.add.Goals as goal

-- the label stands there already
pub returns-then-contains_key-clause-ok : goal.returns-then-contains_key-clause-ok
returns-then-contains_key-clause-ok c =
    let test : c.contains_key.result ≡ is_some (line_with c.args.label.now c.args.self.now) =
    c.contains_key.ensures ∙ ap is_some (line_spelled c.bytes-key.result.now c.self.inside.lines.entries
    ∙ ap (λ (l : List ℕ). line_with l (spelled c.self.inside.lines.entries)) c.bytes-key.ensures.value ∙ ap (line_with c.args.label.now) c.self.view_is) in
    sym (kept c.args.self.now c.args.label.now c.args.line (sym test ∙ c.if-contains_key.true))

-- it comes
pub returns-clause-ok : goal.returns-clause-ok
returns-clause-ok c =
    let test : c.contains_key.result ≡ is_some (line_with c.args.label.now c.args.self.now) =
    c.contains_key.ensures ∙ ap is_some (line_spelled c.bytes-key.result.now c.self.inside.lines.entries
    ∙ ap (λ (l : List ℕ). line_with l (spelled c.self.inside.lines.entries)) c.bytes-key.ensures.value ∙ ap (line_with c.args.label.now) c.self.view_is) in
    ap spelled c.in_ok-insert.ensures.entries
    ∙ insert_spelled c.self.inside.lines.entries c.in_ok-from_slice.field-0 c.args.line
    ∙ ap (λ (l : List ℕ). insert_entry (slice_cmp nat_cmp) (spelled c.self.inside.lines.entries) l c.args.line) (c.in_ok-from_slice.ensures.items ∙ c.bytes-key.ensures.value)
    ∙ ap (λ (ls : Labels). insert_entry (slice_cmp nat_cmp) ls c.args.label.now c.args.line) c.self.view_is
    ∙ sym (came c.args.self.now c.args.label.now c.args.line (sym test ∙ c.if-contains_key.false))

-- its row comes too
pub invariant_of-self-2 : goal.invariant_of-self-2
invariant_of-self-2 c =
    let labels : Labels = spelled c.self.inside.lines.entries in
    let l : List ℕ = c.args.label.now in
    let k : ℕ = c.args.line in
    let test : c.contains_key.result ≡ is_some (line_with l labels) =
    c.contains_key.ensures ∙ ap is_some (line_spelled c.bytes-key.result.now c.self.inside.lines.entries
    ∙ ap (λ (t : List ℕ). line_with t labels) c.bytes-key.ensures.value) in
    let entries : spelled c.insert.new.self.entries ≡ insert_entry (slice_cmp nat_cmp) labels l k =
    ap spelled c.in_ok-insert.ensures.entries
    ∙ insert_spelled c.self.inside.lines.entries c.in_ok-from_slice.field-0 k
    ∙ ap (λ (t : List ℕ). insert_entry (slice_cmp nat_cmp) labels t k) (c.in_ok-from_slice.ensures.items ∙ c.bytes-key.ensures.value) in
    let rows : c.push_reserved.new.self.items ≡ c.self.inside.rows.items ++ (l, k) ∷ [] =
    c.push_reserved.ensures.items
    ∙ (λ i. c.in_ok-reserve.ensures.items i ++ (c.in_ok-try_clone.ensures i, k) ∷ []) in
    subst (λ (ls : Labels). AreRows ls c.push_reserved.new.self.items) (sym entries)
    (subst (AreRows (insert_entry (slice_cmp nat_cmp) labels l k)) (sym rows)
    (one_more_row labels l k c.self.inside.rows.items (is_none (line_with l labels) (sym test ∙ c.if-contains_key.false)) c.self.invariant))
