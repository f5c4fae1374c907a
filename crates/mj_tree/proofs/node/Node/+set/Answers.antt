use Rattle.std.proofs.Common.{◌≡◌, true, false, ℕ, ◌-◌, ◌<◌, List, Some, None, ◌++◌, [], ◌∷◌, take, drop, length, refl, sym, ap, ◌∙◌, subst, arith}
use Rattle.std.specs.Prelude.{slice_set}
use Rattle.std.specs.FinMap.{put}
use Rattle.std.specs.Map.{lookup, remove_entry}
use Rattle.std.specs.BTreeMap.{BTreeMap, is_at}
use Rattle.std.specs.Cmp.Lexicographic.{slice_cmp}
use Rattle.std.proofs.lemmas.Result.{on_ok_weaker, on_err_weaker}
use Rattle.mj_subs.specs.Collation.{subscript_cmp}
use Rattle.mj_store.specs.Questions.{Subtree}
use Rattle.mj_tree.specs.declared.children.Children.{Children}
use Rattle.mj_tree.specs.Changes.{changed}
use Rattle.mj_tree.specs.Nest.{own, below}
use Rattle.mj_tree.specs.Rows.{IsOrdered, IsTrimmed, live, all_of, places, AreSound}
use Rattle.mj_tree.proofs.Nest.{first_and_rest, no_elements}
use Rattle.mj_tree.proofs.Puts.{put_own}
use Rattle.mj_tree.proofs.Changed.{written_row, length_set, changed_none}
use Rattle.mj_tree.proofs.Whole.{seen, ordered_in, put_by_adding, same_by_adding, some_after}
use Rattle.mj_tree.proofs.Written.{put_in_row, put_in_others, put_alone, some_alone, change_in_row, gone_in_row, change_in_others, gone_in_others, change_nowhere}
use Rattle.mj_tree.proofs.Gone.{sound_behind, place_behind, none_behind, absent_behind, on_err_any}
use Rattle.mj_tree.proofs.node.Node.+set.Goals as goal

-- at the node itself
pub returns-in-empty-clause-ok : goal.returns-in-empty-clause-ok
returns-in-empty-clause-ok t c =
    sym (put_own subscript_cmp c.args.text c.self.inside.text (places c.self.inside.children))
    ∙ (λ i. put (slice_cmp subscript_cmp) (sym (no_elements c.args.path.now c.in-empty.len_below) i) c.args.text (c.self.view_is i))

-- below a node without children
pub invariant_of-self-in_default : goal.invariant_of-self-in_default
invariant_of-self-in_default t c = (
  c.in_ok-only-in-len1-up.ensures.sound,
  some_alone (all_of c.in_ok-only-in-len1-up.field-0.value) c.sub-item.result c.in_ok-chain-in-len1-up.field-0 c.in_ok-only-in-len1-up.ensures.alone,
)

pub only-requires : goal.only-requires
only-requires t c = subst (λ (n : Subtree). 0 < length n) (sym c.in_ok-chain-in-len1-up.ensures) (omega arith)

pub returns-in_default-clause-ok : goal.returns-in_default-clause-ok
returns-in_default-clause-ok t c =
    put_alone (all_of c.in_ok-only-in-len1-up.field-0.value) (places c.self.inside.children) c.sub-item.result (take (length c.args.path.now - 1) (drop 1 c.args.path.now))
    c.args.text c.in_ok-chain-in-len1-up.field-0 c.self.inside.text
    c.in_ok-only-in-len1-up.ensures.alone c.in_ok-chain-in-len1-up.ensures (ap (λ cs. places cs) (sym c.take.ensures.value ∙ c.in_default.is))
    ∙ (λ i. put (slice_cmp subscript_cmp) (sym (first_and_rest c.args.path.now c.sub-item.result c.in-len1-up.len_at_least c.sub-item.is) i) c.args.text (c.self.view_is i))

pub returns-in_err-chain-in-len1-up-clause-err : goal.returns-in_err-chain-in-len1-up-clause-err
returns-in_err-chain-in-len1-up-clause-err t c =
    on_err_any c.from_residual.result
    (ap (λ cs. own c.self.inside.text ++ below (places cs)) (c.take.ensures.after ∙ sym (sym c.take.ensures.value ∙ c.in_default.is)) ∙ c.self.view_is)

pub returns-in_err-only-in-len1-up-clause-err : goal.returns-in_err-only-in-len1-up-clause-err
returns-in_err-only-in-len1-up-clause-err t c =
    on_err_any c.from_residual-in_err-only-in-len1-up.result
    (ap (λ cs. own c.self.inside.text ++ below (places cs)) (c.take.ensures.after ∙ sym (sym c.take.ensures.value ∙ c.in_default.is)) ∙ c.self.view_is)

-- in a place of the row
pub place_of-requires : goal.place_of-requires
place_of-requires t c = (ordered_in c.self.inside.children c.in-Some.taken c.deref.result.now c.self.invariant (sym c.take.ensures.value ∙ c.in-Some.is) c.deref.ensures).is_row

pub index_mut-requires : goal.index_mut-requires
index_mut-requires t c =
    let place =
    place_behind c.sub-item.result c.deref.result.now c.deref_mut.result.now c.in-Some-place_of.at (c.deref.ensures ∙ sym c.deref_mut.ensures.value) c.in-Some-place_of.ensures in
    omega (arith, place.0, c.deref_mut.result.now.row.ok.0)

pub invariant_of-self-in-Some-place_of : goal.invariant_of-self-in-Some-place_of
invariant_of-self-in-Some-place_of t c =
    let is = sym c.take.ensures.value ∙ c.in-Some.is in
    let rest = take (length c.args.path.now - 1) (drop 1 c.args.path.now) in
    let sound = sound_behind c.self.inside.children c.in-Some.taken c.deref_mut.result.now c.self.invariant is c.deref_mut.ensures.value in
    let place =
    place_behind c.sub-item.result c.deref.result.now c.deref_mut.result.now c.in-Some-place_of.at (c.deref.ensures ∙ sym c.deref_mut.ensures.value) c.in-Some-place_of.ensures in
    let put_so =
    put_in_row c.set-done.result c.sub-item.result rest c.args.text c.self.inside.text c.deref_mut.result.now.row.items
    (slice_set c.deref_mut.result.now.row.items c.in-Some-place_of.at (c.index_mut.result.now.0, c.set-done.new.self)) c.deref_mut.result.now.others.entries c.in-Some-place_of.at
    c.index_mut.result.now c.set-done.new.self sound.0.0 sound.0.1 place c.index_mut.ensures.value refl c.set-done.ensures.ok c.set-done.ensures.err in
    put_so.sound

pub returns-in-Some-place_of-clause-ok : goal.returns-in-Some-place_of-clause-ok
returns-in-Some-place_of-clause-ok t c =
    let is = sym c.take.ensures.value ∙ c.in-Some.is in
    let rest = take (length c.args.path.now - 1) (drop 1 c.args.path.now) in
    let sound = sound_behind c.self.inside.children c.in-Some.taken c.deref_mut.result.now c.self.invariant is c.deref_mut.ensures.value in
    let place =
    place_behind c.sub-item.result c.deref.result.now c.deref_mut.result.now c.in-Some-place_of.at (c.deref.ensures ∙ sym c.deref_mut.ensures.value) c.in-Some-place_of.ensures in
    let put_so =
    put_in_row c.set-done.result c.sub-item.result rest c.args.text c.self.inside.text c.deref_mut.result.now.row.items
    (slice_set c.deref_mut.result.now.row.items c.in-Some-place_of.at (c.index_mut.result.now.0, c.set-done.new.self)) c.deref_mut.result.now.others.entries c.in-Some-place_of.at
    c.index_mut.result.now c.set-done.new.self sound.0.0 sound.0.1 place c.index_mut.ensures.value refl c.set-done.ensures.ok c.set-done.ensures.err in
    let view =
    seen c.self.inside.text c.self.inside.children c.in-Some.taken c.args.self.now (all_of c.deref_mut.result.now) c.self.view_is is (ap all_of c.deref_mut.ensures.value) in
    let path = first_and_rest c.args.path.now c.sub-item.result c.in-len1-up.len_at_least c.sub-item.is in
    on_ok_weaker c.set-done.result (λ e. e ∙ (λ i. put (slice_cmp subscript_cmp) (sym path i) c.args.text (view i))) put_so.ok

pub returns-in-Some-place_of-clause-err : goal.returns-in-Some-place_of-clause-err
returns-in-Some-place_of-clause-err t c =
    let is = sym c.take.ensures.value ∙ c.in-Some.is in
    let rest = take (length c.args.path.now - 1) (drop 1 c.args.path.now) in
    let sound = sound_behind c.self.inside.children c.in-Some.taken c.deref_mut.result.now c.self.invariant is c.deref_mut.ensures.value in
    let place =
    place_behind c.sub-item.result c.deref.result.now c.deref_mut.result.now c.in-Some-place_of.at (c.deref.ensures ∙ sym c.deref_mut.ensures.value) c.in-Some-place_of.ensures in
    let put_so =
    put_in_row c.set-done.result c.sub-item.result rest c.args.text c.self.inside.text c.deref_mut.result.now.row.items
    (slice_set c.deref_mut.result.now.row.items c.in-Some-place_of.at (c.index_mut.result.now.0, c.set-done.new.self)) c.deref_mut.result.now.others.entries c.in-Some-place_of.at
    c.index_mut.result.now c.set-done.new.self sound.0.0 sound.0.1 place c.index_mut.ensures.value refl c.set-done.ensures.ok c.set-done.ensures.err in
    let view =
    seen c.self.inside.text c.self.inside.children c.in-Some.taken c.args.self.now (all_of c.deref_mut.result.now) c.self.view_is is (ap all_of c.deref_mut.ensures.value) in
    on_err_weaker c.set-done.result (λ e. e ∙ view) put_so.err

-- in one of the others
pub invariant_of-self-in-Some-get_mut : goal.invariant_of-self-in-Some-get_mut
invariant_of-self-in-Some-get_mut t c =
    let is = sym c.take.ensures.value ∙ c.in-Some.is in
    let rest = take (length c.args.path.now - 1) (drop 1 c.args.path.now) in
    let sound = sound_behind c.self.inside.children c.in-Some.taken c.deref_mut-in-None.result.now c.self.invariant is c.deref_mut-in-None.ensures.value in
    let none =
    none_behind c.sub-item.result c.deref.result.now c.deref_mut-in-None.result.now (c.deref.ensures ∙ sym c.deref_mut-in-None.ensures.value) c.in-None.ensures in
    let put_so =
    put_in_others c.set-done-in-Some-get_mut.result c.sub-item.result rest c.args.text c.self.inside.text c.deref_mut-in-None.result.now.row.items
    c.deref_mut-in-None.result.now.others.entries (c.get_mut.follows.lender c.set-done-in-Some-get_mut.new.self).entries c.in-Some-get_mut.child.now c.set-done-in-Some-get_mut.new.self
    sound.0.0 sound.0.1 none (sym c.in-Some-get_mut.ensures.value) (c.get_mut.follows.holds c.set-done-in-Some-get_mut.new.self).0 c.set-done-in-Some-get_mut.ensures.ok
    c.set-done-in-Some-get_mut.ensures.err in
    put_so.sound

pub returns-in-Some-get_mut-clause-ok : goal.returns-in-Some-get_mut-clause-ok
returns-in-Some-get_mut-clause-ok t c =
    let is = sym c.take.ensures.value ∙ c.in-Some.is in
    let rest = take (length c.args.path.now - 1) (drop 1 c.args.path.now) in
    let sound = sound_behind c.self.inside.children c.in-Some.taken c.deref_mut-in-None.result.now c.self.invariant is c.deref_mut-in-None.ensures.value in
    let none =
    none_behind c.sub-item.result c.deref.result.now c.deref_mut-in-None.result.now (c.deref.ensures ∙ sym c.deref_mut-in-None.ensures.value) c.in-None.ensures in
    let put_so =
    put_in_others c.set-done-in-Some-get_mut.result c.sub-item.result rest c.args.text c.self.inside.text c.deref_mut-in-None.result.now.row.items
    c.deref_mut-in-None.result.now.others.entries (c.get_mut.follows.lender c.set-done-in-Some-get_mut.new.self).entries c.in-Some-get_mut.child.now c.set-done-in-Some-get_mut.new.self
    sound.0.0 sound.0.1 none (sym c.in-Some-get_mut.ensures.value) (c.get_mut.follows.holds c.set-done-in-Some-get_mut.new.self).0 c.set-done-in-Some-get_mut.ensures.ok
    c.set-done-in-Some-get_mut.ensures.err in
    let view =
    seen c.self.inside.text c.self.inside.children c.in-Some.taken c.args.self.now (all_of c.deref_mut-in-None.result.now) c.self.view_is is (ap all_of c.deref_mut-in-None.ensures.value) in
    let path = first_and_rest c.args.path.now c.sub-item.result c.in-len1-up.len_at_least c.sub-item.is in
    on_ok_weaker c.set-done-in-Some-get_mut.result (λ e. e ∙ (λ i. put (slice_cmp subscript_cmp) (sym path i) c.args.text (view i))) put_so.ok

pub returns-in-Some-get_mut-clause-err : goal.returns-in-Some-get_mut-clause-err
returns-in-Some-get_mut-clause-err t c =
    let is = sym c.take.ensures.value ∙ c.in-Some.is in
    let rest = take (length c.args.path.now - 1) (drop 1 c.args.path.now) in
    let sound = sound_behind c.self.inside.children c.in-Some.taken c.deref_mut-in-None.result.now c.self.invariant is c.deref_mut-in-None.ensures.value in
    let none =
    none_behind c.sub-item.result c.deref.result.now c.deref_mut-in-None.result.now (c.deref.ensures ∙ sym c.deref_mut-in-None.ensures.value) c.in-None.ensures in
    let put_so =
    put_in_others c.set-done-in-Some-get_mut.result c.sub-item.result rest c.args.text c.self.inside.text c.deref_mut-in-None.result.now.row.items
    c.deref_mut-in-None.result.now.others.entries (c.get_mut.follows.lender c.set-done-in-Some-get_mut.new.self).entries c.in-Some-get_mut.child.now c.set-done-in-Some-get_mut.new.self
    sound.0.0 sound.0.1 none (sym c.in-Some-get_mut.ensures.value) (c.get_mut.follows.holds c.set-done-in-Some-get_mut.new.self).0 c.set-done-in-Some-get_mut.ensures.ok
    c.set-done-in-Some-get_mut.ensures.err in
    let view =
    seen c.self.inside.text c.self.inside.children c.in-Some.taken c.args.self.now (all_of c.deref_mut-in-None.result.now) c.self.view_is is (ap all_of c.deref_mut-in-None.ensures.value) in
    on_err_weaker c.set-done-in-Some-get_mut.result (λ e. e ∙ view) put_so.err

-- in a child that is added
pub add_chain-done-requires-clause-sound : goal.add_chain-done-requires-clause-sound
add_chain-done-requires-clause-sound t c =
    let is = sym c.take.ensures.value ∙ c.in-Some.is in
    let same_children : c.deref_mut-in-None-get_mut.result.now ≡ c.deref_mut-in-None.result.now =
    c.deref_mut-in-None-get_mut.ensures.value ∙ (λ i. record { row = c.deref_mut-in-None.result.now.row; others = c.get_mut.follows.holds-at-none i }) in
    let sound = sound_behind c.self.inside.children c.in-Some.taken c.deref_mut-in-None-get_mut.result.now c.self.invariant is (same_children ∙ c.deref_mut-in-None.ensures.value) in
    sound.0

pub add_chain-done-requires-clause-absent : goal.add_chain-done-requires-clause-absent
add_chain-done-requires-clause-absent t c =
    let same_children : c.deref_mut-in-None-get_mut.result.now ≡ c.deref_mut-in-None.result.now =
    c.deref_mut-in-None-get_mut.ensures.value ∙ (λ i. record { row = c.deref_mut-in-None.result.now.row; others = c.get_mut.follows.holds-at-none i }) in
    let none =
    none_behind c.sub-item.result c.deref.result.now c.deref_mut-in-None.result.now (c.deref.ensures ∙ sym c.deref_mut-in-None.ensures.value) c.in-None.ensures in
    absent_behind c.sub-item.result c.deref_mut-in-None-get_mut.result.now c.deref_mut-in-None.result.now same_children none (sym c.in-None-get_mut.ensures.value)

pub invariant_of-self-in-None-get_mut : goal.invariant_of-self-in-None-get_mut
invariant_of-self-in-None-get_mut t c =
    let is = sym c.take.ensures.value ∙ c.in-Some.is in
    let rest = take (length c.args.path.now - 1) (drop 1 c.args.path.now) in
    let same_children : c.deref_mut-in-None-get_mut.result.now ≡ c.deref_mut-in-None.result.now =
    c.deref_mut-in-None-get_mut.ensures.value ∙ (λ i. record { row = c.deref_mut-in-None.result.now.row; others = c.get_mut.follows.holds-at-none i }) in
    let sound = sound_behind c.self.inside.children c.in-Some.taken c.deref_mut-in-None-get_mut.result.now c.self.invariant is (same_children ∙ c.deref_mut-in-None.ensures.value) in (
      c.add_chain-done.ensures.sound,
      some_after c.add_chain-done.result c.deref_mut-in-None-get_mut.result.now c.add_chain-done.new.children c.sub-item.result ((rest, c.args.text) ∷ []) sound.0 sound.1
          (omega arith) c.add_chain-done.ensures,
    )

pub returns-in-None-get_mut-clause-ok : goal.returns-in-None-get_mut-clause-ok
returns-in-None-get_mut-clause-ok t c =
    let is = sym c.take.ensures.value ∙ c.in-Some.is in
    let rest = take (length c.args.path.now - 1) (drop 1 c.args.path.now) in
    let same_children : c.deref_mut-in-None-get_mut.result.now ≡ c.deref_mut-in-None.result.now =
    c.deref_mut-in-None-get_mut.ensures.value ∙ (λ i. record { row = c.deref_mut-in-None.result.now.row; others = c.get_mut.follows.holds-at-none i }) in
    let sound = sound_behind c.self.inside.children c.in-Some.taken c.deref_mut-in-None-get_mut.result.now c.self.invariant is (same_children ∙ c.deref_mut-in-None.ensures.value) in
    let none =
    none_behind c.sub-item.result c.deref.result.now c.deref_mut-in-None.result.now (c.deref.ensures ∙ sym c.deref_mut-in-None.ensures.value) c.in-None.ensures in
    let view =
    seen c.self.inside.text c.self.inside.children c.in-Some.taken c.args.self.now (all_of c.deref_mut-in-None-get_mut.result.now) c.self.view_is is
    (ap all_of (same_children ∙ c.deref_mut-in-None.ensures.value)) in
    let path = first_and_rest c.args.path.now c.sub-item.result c.in-len1-up.len_at_least c.sub-item.is in
    on_ok_weaker c.add_chain-done.result (λ e. e ∙ (λ i. put (slice_cmp subscript_cmp) (sym path i) c.args.text (view i)))
    (put_by_adding c.add_chain-done.result c.deref_mut-in-None-get_mut.result.now c.add_chain-done.new.children c.sub-item.result rest c.args.text ((rest, c.args.text) ∷ []) c.self.inside.text sound.0
    (absent_behind c.sub-item.result c.deref_mut-in-None-get_mut.result.now c.deref_mut-in-None.result.now same_children none (sym c.in-None-get_mut.ensures.value)) refl c.add_chain-done.ensures)

pub returns-in-None-get_mut-clause-err : goal.returns-in-None-get_mut-clause-err
returns-in-None-get_mut-clause-err t c =
    let is = sym c.take.ensures.value ∙ c.in-Some.is in
    let rest = take (length c.args.path.now - 1) (drop 1 c.args.path.now) in
    let same_children : c.deref_mut-in-None-get_mut.result.now ≡ c.deref_mut-in-None.result.now =
    c.deref_mut-in-None-get_mut.ensures.value ∙ (λ i. record { row = c.deref_mut-in-None.result.now.row; others = c.get_mut.follows.holds-at-none i }) in
    let view =
    seen c.self.inside.text c.self.inside.children c.in-Some.taken c.args.self.now (all_of c.deref_mut-in-None-get_mut.result.now) c.self.view_is is
    (ap all_of (same_children ∙ c.deref_mut-in-None.ensures.value)) in
    on_err_weaker c.add_chain-done.result (λ e. e ∙ view)
    (same_by_adding c.add_chain-done.result c.deref_mut-in-None-get_mut.result.now c.add_chain-done.new.children c.sub-item.result ((rest, c.args.text) ∷ []) c.self.inside.text
    c.add_chain-done.ensures)
