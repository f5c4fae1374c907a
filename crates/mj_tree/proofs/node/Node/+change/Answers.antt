use Rattle.std.proofs.Common.{◌≡◌, true, false, ℕ, ◌-◌, ◌<◌, List, Some, None, ◌++◌, [], ◌∷◌, take, drop, length, refl, sym, ap, ◌∙◌, subst, arith}
use Rattle.std.specs.Prelude.{slice_set}
use Rattle.std.specs.FinMap.{put}
use Rattle.std.specs.Map.{lookup, remove_entry}
use Rattle.std.specs.BTreeMap.{BTreeMap, is_at}
use Rattle.std.specs.Cmp.Lexicographic.{slice_cmp}
use Rattle.std.proofs.lemmas.Result.{on_ok_weaker, on_err_weaker}
use Rattle.mj_subs.specs.Collation.{subscript_cmp}
use Rattle.mj_store.specs.Questions.{Subtree}
use Rattle.mj_tree.specs.declared.children.Children.{Children}
use Rattle.mj_tree.specs.Changes.{changed}
use Rattle.mj_tree.specs.Nest.{own, below}
use Rattle.mj_tree.specs.Rows.{IsOrdered, IsTrimmed, live, all_of, places, AreSound}
use Rattle.mj_tree.proofs.Nest.{first_and_rest, no_elements}
use Rattle.mj_tree.proofs.Puts.{put_own}
use Rattle.mj_tree.proofs.Changed.{written_row, length_set, changed_none}
use Rattle.mj_tree.proofs.Whole.{seen, ordered_in, put_by_adding, same_by_adding, some_after}
use Rattle.mj_tree.proofs.Written.{put_in_row, put_in_others, put_alone, some_alone, change_in_row, gone_in_row, change_in_others, gone_in_others, change_nowhere}
use Rattle.mj_tree.proofs.Gone.{sound_behind, place_behind, none_behind, absent_behind, on_err_any}
use Rattle.mj_tree.proofs.node.Node.+change.Goals as goal
use Rattle.mj_tree.proofs.node.Node.+change.Goals.{in-Some-4, in-None-4, in-Some-5, in-None-5}

-- at the node itself
pub returns-in-empty : goal.returns-in-empty
returns-in-empty t c = c.change_own.ensures ∙ ap (λ p. changed c.args.change p c.args.self.now) (sym (no_elements c.args.path.now c.in-empty.len_below))

-- below a node without children
pub returns-in_default : goal.returns-in_default
returns-in_default t c =
    let none = sym c.take.ensures.value ∙ c.in_default.is in
    ap (λ cs. own c.self.inside.text ++ below (places cs)) (c.take.ensures.after ∙ sym none)
    ∙ sym (changed_none c.args.change c.sub-item.result (take (length c.args.path.now - 1) (drop 1 c.args.path.now)) c.self.inside.text (places c.self.inside.children)
    (ap (λ cs. lookup (is_at (subscript_cmp c.sub-item.result)) (places cs)) none))
    ∙ (λ i. changed c.args.change (sym (first_and_rest c.args.path.now c.sub-item.result c.in-len1-up.len_at_least c.sub-item.is) i) (c.self.view_is i))

-- in a place of the row
pub place_of-requires : goal.place_of-requires
place_of-requires t c = (ordered_in c.self.inside.children c.in-Some.taken c.deref.result.now c.self.invariant (sym c.take.ensures.value ∙ c.in-Some.is) c.deref.ensures).is_row

pub index_mut-requires : goal.index_mut-requires
index_mut-requires t c =
    let place =
    place_behind c.sub-item.result c.deref.result.now c.deref_mut.result.now c.in-Some-place_of.at (c.deref.ensures ∙ sym c.deref_mut.ensures.value) c.in-Some-place_of.ensures in
    omega (arith, place.0, c.deref_mut.result.now.row.ok.0)

pub trim-requires-clause-within : goal.trim-requires-clause-within
trim-requires-clause-within t c =
    let place =
    place_behind c.sub-item.result c.deref.result.now c.deref_mut.result.now c.in-Some-place_of.at (c.deref.ensures ∙ sym c.deref_mut.ensures.value) c.in-Some-place_of.ensures in
    subst (λ (k : Children). c.in-Some-place_of.at < length k.row.items) (sym c.deref_mut-then-is_empty.ensures.value)
    (omega (arith, place.0, length_set c.deref_mut.result.now.row.items c.in-Some-place_of.at (c.index_mut.result.now.0, c.change-in-Some-place_of.new.self)))

pub trim-requires-clause-ordered : goal.trim-requires-clause-ordered
trim-requires-clause-ordered t c =
    let is = sym c.take.ensures.value ∙ c.in-Some.is in
    let sound = sound_behind c.self.inside.children c.in-Some.taken c.deref_mut.result.now c.self.invariant is c.deref_mut.ensures.value in
    let place =
    place_behind c.sub-item.result c.deref.result.now c.deref_mut.result.now c.in-Some-place_of.at (c.deref.ensures ∙ sym c.deref_mut.ensures.value) c.in-Some-place_of.ensures in
    let new = slice_set c.deref_mut.result.now.row.items c.in-Some-place_of.at (c.index_mut.result.now.0, c.change-in-Some-place_of.new.self) in
    let written =
    written_row c.sub-item.result c.in-Some-place_of.at c.index_mut.result.now c.change-in-Some-place_of.new.self c.deref_mut.result.now.row.items new c.deref_mut.result.now.others.entries
    sound.0.0 place c.index_mut.ensures.value refl in
    subst (λ (k : Children). IsOrdered k.row.items k.others.entries) (sym c.deref_mut-then-is_empty.ensures.value) written.ordered

pub trim-requires-clause-head : goal.trim-requires-clause-head
trim-requires-clause-head t c =
    let is = sym c.take.ensures.value ∙ c.in-Some.is in
    let sound = sound_behind c.self.inside.children c.in-Some.taken c.deref_mut.result.now c.self.invariant is c.deref_mut.ensures.value in
    let place =
    place_behind c.sub-item.result c.deref.result.now c.deref_mut.result.now c.in-Some-place_of.at (c.deref.ensures ∙ sym c.deref_mut.ensures.value) c.in-Some-place_of.ensures in
    let new = slice_set c.deref_mut.result.now.row.items c.in-Some-place_of.at (c.index_mut.result.now.0, c.change-in-Some-place_of.new.self) in
    let written =
    written_row c.sub-item.result c.in-Some-place_of.at c.index_mut.result.now c.change-in-Some-place_of.new.self c.deref_mut.result.now.row.items new c.deref_mut.result.now.others.entries
    sound.0.0 place c.index_mut.ensures.value refl in
    λ b. subst (λ (k : Children). IsTrimmed k.row.items) (sym c.deref_mut-then-is_empty.ensures.value) (written.behind b sound.0.1)

pub kept-requires : goal.kept-requires
kept-requires t c = c.trim.ensures.sound

pub returns-then-is_empty : goal.returns-then-is_empty
returns-then-is_empty t c =
    let is = sym c.take.ensures.value ∙ c.in-Some.is in
    let rest = take (length c.args.path.now - 1) (drop 1 c.args.path.now) in
    let sound = sound_behind c.self.inside.children c.in-Some.taken c.deref_mut.result.now c.self.invariant is c.deref_mut.ensures.value in
    let place =
    place_behind c.sub-item.result c.deref.result.now c.deref_mut.result.now c.in-Some-place_of.at (c.deref.ensures ∙ sym c.deref_mut.ensures.value) c.in-Some-place_of.ensures in
    let new = slice_set c.deref_mut.result.now.row.items c.in-Some-place_of.at (c.index_mut.result.now.0, c.change-in-Some-place_of.new.self) in
    let view =
    seen c.self.inside.text c.self.inside.children c.in-Some.taken c.args.self.now (all_of c.deref_mut.result.now) c.self.view_is is (ap all_of c.deref_mut.ensures.value) in
    let path = first_and_rest c.args.path.now c.sub-item.result c.in-len1-up.len_at_least c.sub-item.is in
    ap (λ (ks : List (List ℕ × Subtree)). own c.self.inside.text ++ below ks) c.kept.ensures.places
    ∙ gone_in_row c.args.change c.sub-item.result rest c.self.inside.text c.deref_mut.result.now.row.items new c.deref_mut.result.now.others.entries c.in-Some-place_of.at
    c.index_mut.result.now c.change-in-Some-place_of.new.self
    (all_of c.trim.new.self) sound.0.0 place c.index_mut.ensures.value refl c.change-in-Some-place_of.ensures
    (c.trim.ensures.same ∙ ap (λ (k : Children). live (all_of k)) c.deref_mut-then-is_empty.ensures.value)
    ∙ (λ i. changed c.args.change (sym path i) (view i))

pub invariant_of-self-else-is_empty : goal.invariant_of-self-else-is_empty
invariant_of-self-else-is_empty t c =
    let is = sym c.take.ensures.value ∙ c.in-Some.is in
    let rest = take (length c.args.path.now - 1) (drop 1 c.args.path.now) in
    let sound = sound_behind c.self.inside.children c.in-Some.taken c.deref_mut.result.now c.self.invariant is c.deref_mut.ensures.value in
    let place =
    place_behind c.sub-item.result c.deref.result.now c.deref_mut.result.now c.in-Some-place_of.at (c.deref.ensures ∙ sym c.deref_mut.ensures.value) c.in-Some-place_of.ensures in
    let new = slice_set c.deref_mut.result.now.row.items c.in-Some-place_of.at (c.index_mut.result.now.0, c.change-in-Some-place_of.new.self) in
    let so =
    change_in_row c.args.change c.sub-item.result rest c.self.inside.text c.deref_mut.result.now.row.items new c.deref_mut.result.now.others.entries c.in-Some-place_of.at
    c.index_mut.result.now c.change-in-Some-place_of.new.self sound.0.0
    sound.0.1 place c.index_mut.ensures.value refl c.change-in-Some-place_of.ensures (λ e. let f : false ≡ true = c.if-is_empty.ensures.1 e in absurd cc) in
    so.sound

pub invariant_of-self-else-is_empty-3 : goal.invariant_of-self-else-is_empty-3
invariant_of-self-else-is_empty-3 t c =
    let is = sym c.take.ensures.value ∙ c.in-Some.is in
    let rest = take (length c.args.path.now - 1) (drop 1 c.args.path.now) in
    let sound = sound_behind c.self.inside.children c.in-Some.taken c.deref_mut.result.now c.self.invariant is c.deref_mut.ensures.value in
    let place =
    place_behind c.sub-item.result c.deref.result.now c.deref_mut.result.now c.in-Some-place_of.at (c.deref.ensures ∙ sym c.deref_mut.ensures.value) c.in-Some-place_of.ensures in
    let new = slice_set c.deref_mut.result.now.row.items c.in-Some-place_of.at (c.index_mut.result.now.0, c.change-in-Some-place_of.new.self) in
    let so =
    change_in_row c.args.change c.sub-item.result rest c.self.inside.text c.deref_mut.result.now.row.items new c.deref_mut.result.now.others.entries c.in-Some-place_of.at
    c.index_mut.result.now c.change-in-Some-place_of.new.self sound.0.0
    sound.0.1 place c.index_mut.ensures.value refl c.change-in-Some-place_of.ensures (λ e. let f : false ≡ true = c.if-is_empty.ensures.1 e in absurd cc) in
    so.sound

pub returns-else-is_empty : goal.returns-else-is_empty
returns-else-is_empty t c =
    let is = sym c.take.ensures.value ∙ c.in-Some.is in
    let rest = take (length c.args.path.now - 1) (drop 1 c.args.path.now) in
    let sound = sound_behind c.self.inside.children c.in-Some.taken c.deref_mut.result.now c.self.invariant is c.deref_mut.ensures.value in
    let place =
    place_behind c.sub-item.result c.deref.result.now c.deref_mut.result.now c.in-Some-place_of.at (c.deref.ensures ∙ sym c.deref_mut.ensures.value) c.in-Some-place_of.ensures in
    let new = slice_set c.deref_mut.result.now.row.items c.in-Some-place_of.at (c.index_mut.result.now.0, c.change-in-Some-place_of.new.self) in
    let so =
    change_in_row c.args.change c.sub-item.result rest c.self.inside.text c.deref_mut.result.now.row.items new c.deref_mut.result.now.others.entries c.in-Some-place_of.at
    c.index_mut.result.now c.change-in-Some-place_of.new.self sound.0.0
    sound.0.1 place c.index_mut.ensures.value refl c.change-in-Some-place_of.ensures (λ e. let f : false ≡ true = c.if-is_empty.ensures.1 e in absurd cc) in
    let view =
    seen c.self.inside.text c.self.inside.children c.in-Some.taken c.args.self.now (all_of c.deref_mut.result.now) c.self.view_is is (ap all_of c.deref_mut.ensures.value) in
    let path = first_and_rest c.args.path.now c.sub-item.result c.in-len1-up.len_at_least c.sub-item.is in
    let done = so.same ∙ (λ i. changed c.args.change (sym path i) (view i)) in
    elim c.match-self.branch [ in-Some-4 w ↦ w.self-is ∙ done | in-None-4 w ↦ w.self-is ∙ done ]

-- where no child is
pub invariant_of-self-in_default-get_mut : goal.invariant_of-self-in_default-get_mut
invariant_of-self-in_default-get_mut t c =
    let is = sym c.take.ensures.value ∙ c.in-Some.is in
    let sound = sound_behind c.self.inside.children c.in-Some.taken c.deref_mut-in-None.result.now c.self.invariant is c.deref_mut-in-None.ensures.value in
    subst (λ (m : BTreeMap (List ℕ) Subtree).
    (IsOrdered c.deref_mut-in-None.result.now.row.items m.entries × IsTrimmed c.deref_mut-in-None.result.now.row.items) × (0 < length (c.deref_mut-in-None.result.now.row.items ++ m.entries)))
    (sym c.get_mut.follows.holds-at-none) sound

pub returns-in_default-get_mut : goal.returns-in_default-get_mut
returns-in_default-get_mut t c =
    let is = sym c.take.ensures.value ∙ c.in-Some.is in
    let rest = take (length c.args.path.now - 1) (drop 1 c.args.path.now) in
    let none =
    none_behind c.sub-item.result c.deref.result.now c.deref_mut-in-None.result.now (c.deref.ensures ∙ sym c.deref_mut-in-None.ensures.value) c.in-None.ensures in
    let view =
    seen c.self.inside.text c.self.inside.children c.in-Some.taken c.args.self.now (all_of c.deref_mut-in-None.result.now) c.self.view_is is (ap all_of c.deref_mut-in-None.ensures.value) in
    let path = first_and_rest c.args.path.now c.sub-item.result c.in-len1-up.len_at_least c.sub-item.is in
    ap (λ (m : BTreeMap (List ℕ) Subtree). own c.self.inside.text ++ below (c.deref_mut-in-None.result.now.row.items ++ m.entries)) c.get_mut.follows.holds-at-none
    ∙ change_nowhere c.args.change c.sub-item.result rest c.self.inside.text c.deref_mut-in-None.result.now.row.items c.deref_mut-in-None.result.now.others.entries none
    (sym c.in_default-get_mut.ensures.value)
    ∙ (λ i. changed c.args.change (sym path i) (view i))

-- in one of the others
pub kept-requires-then-is_empty-2 : goal.kept-requires-then-is_empty-2
kept-requires-then-is_empty-2 t c =
    let is = sym c.take.ensures.value ∙ c.in-Some.is in
    let rest = take (length c.args.path.now - 1) (drop 1 c.args.path.now) in
    let sound = sound_behind c.self.inside.children c.in-Some.taken c.deref_mut-in-None.result.now c.self.invariant is c.deref_mut-in-None.ensures.value in
    let none =
    none_behind c.sub-item.result c.deref.result.now c.deref_mut-in-None.result.now (c.deref.ensures ∙ sym c.deref_mut-in-None.ensures.value) c.in-None.ensures in
    let so =
    gone_in_others c.args.change c.sub-item.result rest c.self.inside.text c.deref_mut-in-None.result.now.row.items c.deref_mut-in-None.result.now.others.entries
    (c.get_mut.follows.lender c.change-in-None.new.self).entries
    c.remove.new.children.entries c.in-Some-get_mut.child.now c.change-in-None.new.self sound.0.0 sound.0.1 none (sym c.in-Some-get_mut.ensures.value)
    (c.get_mut.follows.holds c.change-in-None.new.self).0
    (c.remove.ensures ∙ ap (λ (k : Children). remove_entry (is_at (subscript_cmp c.sub-item.result)) k.others.entries) c.deref_mut-then-is_empty-2.ensures.value) c.change-in-None.ensures
    (c.if-is_empty-2.ensures.0 refl) in
    subst (λ (k : Children). IsOrdered k.row.items c.remove.new.children.entries × IsTrimmed k.row.items) (sym c.deref_mut-then-is_empty-2.ensures.value) so.sound

pub returns-then-is_empty-2 : goal.returns-then-is_empty-2
returns-then-is_empty-2 t c =
    let is = sym c.take.ensures.value ∙ c.in-Some.is in
    let rest = take (length c.args.path.now - 1) (drop 1 c.args.path.now) in
    let sound = sound_behind c.self.inside.children c.in-Some.taken c.deref_mut-in-None.result.now c.self.invariant is c.deref_mut-in-None.ensures.value in
    let none =
    none_behind c.sub-item.result c.deref.result.now c.deref_mut-in-None.result.now (c.deref.ensures ∙ sym c.deref_mut-in-None.ensures.value) c.in-None.ensures in
    let so =
    gone_in_others c.args.change c.sub-item.result rest c.self.inside.text c.deref_mut-in-None.result.now.row.items c.deref_mut-in-None.result.now.others.entries
    (c.get_mut.follows.lender c.change-in-None.new.self).entries
    c.remove.new.children.entries c.in-Some-get_mut.child.now c.change-in-None.new.self sound.0.0 sound.0.1 none (sym c.in-Some-get_mut.ensures.value)
    (c.get_mut.follows.holds c.change-in-None.new.self).0
    (c.remove.ensures ∙ ap (λ (k : Children). remove_entry (is_at (subscript_cmp c.sub-item.result)) k.others.entries) c.deref_mut-then-is_empty-2.ensures.value) c.change-in-None.ensures
    (c.if-is_empty-2.ensures.0 refl) in
    let view =
    seen c.self.inside.text c.self.inside.children c.in-Some.taken c.args.self.now (all_of c.deref_mut-in-None.result.now) c.self.view_is is (ap all_of c.deref_mut-in-None.ensures.value) in
    let path = first_and_rest c.args.path.now c.sub-item.result c.in-len1-up.len_at_least c.sub-item.is in
    ap (λ (ks : List (List ℕ × Subtree)). own c.self.inside.text ++ below ks) c.kept-then-is_empty-2.ensures.places
    ∙ ap (λ (k : Children). own c.self.inside.text ++ below (k.row.items ++ c.remove.new.children.entries)) c.deref_mut-then-is_empty-2.ensures.value
    ∙ so.same
    ∙ (λ i. changed c.args.change (sym path i) (view i))

pub invariant_of-self-else-is_empty-2 : goal.invariant_of-self-else-is_empty-2
invariant_of-self-else-is_empty-2 t c =
    let is = sym c.take.ensures.value ∙ c.in-Some.is in
    let rest = take (length c.args.path.now - 1) (drop 1 c.args.path.now) in
    let sound = sound_behind c.self.inside.children c.in-Some.taken c.deref_mut-in-None.result.now c.self.invariant is c.deref_mut-in-None.ensures.value in
    let none =
    none_behind c.sub-item.result c.deref.result.now c.deref_mut-in-None.result.now (c.deref.ensures ∙ sym c.deref_mut-in-None.ensures.value) c.in-None.ensures in
    let so =
    change_in_others c.args.change c.sub-item.result rest c.self.inside.text c.deref_mut-in-None.result.now.row.items c.deref_mut-in-None.result.now.others.entries
    (c.get_mut.follows.lender c.change-in-None.new.self).entries
    c.in-Some-get_mut.child.now c.change-in-None.new.self sound.0.0 sound.0.1 none (sym c.in-Some-get_mut.ensures.value) (c.get_mut.follows.holds c.change-in-None.new.self).0
    c.change-in-None.ensures (λ e. let f : false ≡ true = c.if-is_empty-2.ensures.1 e in absurd cc) in
    so.sound

pub invariant_of-self-else-is_empty-2-2 : goal.invariant_of-self-else-is_empty-2-2
invariant_of-self-else-is_empty-2-2 t c =
    let is = sym c.take.ensures.value ∙ c.in-Some.is in
    let rest = take (length c.args.path.now - 1) (drop 1 c.args.path.now) in
    let sound = sound_behind c.self.inside.children c.in-Some.taken c.deref_mut-in-None.result.now c.self.invariant is c.deref_mut-in-None.ensures.value in
    let none =
    none_behind c.sub-item.result c.deref.result.now c.deref_mut-in-None.result.now (c.deref.ensures ∙ sym c.deref_mut-in-None.ensures.value) c.in-None.ensures in
    let so =
    change_in_others c.args.change c.sub-item.result rest c.self.inside.text c.deref_mut-in-None.result.now.row.items c.deref_mut-in-None.result.now.others.entries
    (c.get_mut.follows.lender c.change-in-None.new.self).entries
    c.in-Some-get_mut.child.now c.change-in-None.new.self sound.0.0 sound.0.1 none (sym c.in-Some-get_mut.ensures.value) (c.get_mut.follows.holds c.change-in-None.new.self).0
    c.change-in-None.ensures (λ e. let f : false ≡ true = c.if-is_empty-2.ensures.1 e in absurd cc) in
    so.sound

pub returns-else-is_empty-2 : goal.returns-else-is_empty-2
returns-else-is_empty-2 t c =
    let is = sym c.take.ensures.value ∙ c.in-Some.is in
    let rest = take (length c.args.path.now - 1) (drop 1 c.args.path.now) in
    let sound = sound_behind c.self.inside.children c.in-Some.taken c.deref_mut-in-None.result.now c.self.invariant is c.deref_mut-in-None.ensures.value in
    let none =
    none_behind c.sub-item.result c.deref.result.now c.deref_mut-in-None.result.now (c.deref.ensures ∙ sym c.deref_mut-in-None.ensures.value) c.in-None.ensures in
    let so =
    change_in_others c.args.change c.sub-item.result rest c.self.inside.text c.deref_mut-in-None.result.now.row.items c.deref_mut-in-None.result.now.others.entries
    (c.get_mut.follows.lender c.change-in-None.new.self).entries
    c.in-Some-get_mut.child.now c.change-in-None.new.self sound.0.0 sound.0.1 none (sym c.in-Some-get_mut.ensures.value) (c.get_mut.follows.holds c.change-in-None.new.self).0
    c.change-in-None.ensures (λ e. let f : false ≡ true = c.if-is_empty-2.ensures.1 e in absurd cc) in
    let view =
    seen c.self.inside.text c.self.inside.children c.in-Some.taken c.args.self.now (all_of c.deref_mut-in-None.result.now) c.self.view_is is (ap all_of c.deref_mut-in-None.ensures.value) in
    let path = first_and_rest c.args.path.now c.sub-item.result c.in-len1-up.len_at_least c.sub-item.is in
    let done = so.same ∙ (λ i. changed c.args.change (sym path i) (view i)) in
    elim c.match-self-3.branch [ in-Some-5 w ↦ w.self-is ∙ done | in-None-5 w ↦ w.self-is ∙ done ]
