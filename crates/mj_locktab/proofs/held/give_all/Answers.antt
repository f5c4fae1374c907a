use Rattle.std.proofs.Common.{◌≡◌, true, [], ◌∷◌, Some, None, sym, ap, ◌∙◌, subst}
use Rattle.std.specs.FinMap.{find}
use Rattle.mj_subs.specs.Name.{Name}
use Rattle.mj_locktab.specs.Locks.{Locks, hold_of, hold_cmp}
use Rattle.mj_locktab.specs.Told.{Tell, stands_of}
use Rattle.mj_locktab.specs.Parts.{holds_of, held_by, with_left, IsPart}
use Rattle.mj_locktab.proofs.Left.{IsRest, whole_rest, front_rest, one_gone, all_left, none_left}
use Rattle.mj_locktab.proofs.Parts.{find_parts, order_parts, counted_parts}
use Rattle.mj_locktab.proofs.Named.{append_held, nothing_there}
use Rattle.mj_locktab.proofs.Refilled.{emptied, other_key, part_found, parts_without, kept}
use Rattle.mj_locktab.proofs.held.give_all.Goals as goal

-- a job without a part holds nothing
pub returns-in_default : goal.returns-in_default
returns-in_default c =
    let old = c.args.parts.now.entries in
    let new = c.remove.new.self.entries in
    let updates = c.remove.ensures.updates in
    let change = emptied old new c.args.job updates.1 (λ j other. updates.2 j (other_key c.args.job j other)) in
    let all = parts_without old new c.args.job c.requires.parts change c.remove.ensures.ordered in
    let nobody : Name = record { global = true; word = []; subscripts = [] } in
    let same = (kept old new c.args.job nobody [] c.requires.parts change c.remove.ensures.ordered (sym (part_found old c.args.job None c.in_default.ensures.value))).1 in
    record { after = all.1; parts = all.0; told = subst (Tell (stands_of c.args.index.now)) (sym same) c.requires.told }

pub loop-name-init : goal.loop-name-init
loop-name-init c =
    let old = c.args.parts.now.entries in
    let found = part_found old c.args.job (Some c.in-Some.part) c.in-Some.ensures.value in
    let same : (m : Name) → find hold_cmp (hold_of c.args.job m) (held_by c.args.job c.in-Some.part.entries) ≡ find hold_cmp (hold_of c.args.job m) (holds_of old) =
    λ m. ap (λ (l : Locks). find hold_cmp (hold_of c.args.job m) l) (sym found) ∙ sym (find_parts old c.requires.parts c.args.job m) in
    record {
      rest = whole_rest (holds_of old) c.args.job (held_by c.args.job c.in-Some.part.entries) (subst (IsPart c.args.job) found (c.requires.parts.each c.args.job)) same;
      told = subst (Tell (stands_of c.args.index.now))
          (sym (all_left (holds_of old) c.args.job (order_parts old c.requires.parts) (counted_parts old c.requires.parts) (held_by c.args.job c.in-Some.part.entries) same)) c.requires.told;
    }

pub loop-name-preserved : goal.loop-name-preserved
loop-name-preserved c =
    let old = c.args.parts.now.entries in
    let name = c.in-Some-pop_last.name in
    let count = c.in-Some-pop_last._count in
    let init = held_by c.args.job c.pop_last.new.self.entries in
    let items = ap (held_by c.args.job) c.in-Some-pop_last.ensures.removal ∙ append_held c.args.job c.pop_last.new.self.entries ((name, count) ∷ []) in
    let rest = subst (λ (l : Locks). IsRest (holds_of old) c.args.job l) items c.loop-name.invariant.rest in
    let told = subst (λ (l : Locks). Tell (stands_of c.loop-name.index) (with_left (holds_of old) c.args.job l)) items c.loop-name.invariant.told in
    record {
      rest = front_rest (holds_of old) c.args.job init (hold_of c.args.job name) count rest;
      told = one_gone (holds_of old) c.args.job init (hold_of c.args.job name) count rest (order_parts old c.requires.parts) (counted_parts old c.requires.parts)
          (stands_of c.loop-name.index) (stands_of c.unmark.new.self) told c.unmark.ensures;
    }

pub loop-name-preserved-in-Some-pop_last : goal.loop-name-preserved-in-Some-pop_last
loop-name-preserved-in-Some-pop_last c =
    let old = c.args.parts.now.entries in
    let name = c.in-Some-pop_last.name in
    let count = c.in-Some-pop_last._count in
    let init = held_by c.args.job c.pop_last.new.self.entries in
    let items = ap (held_by c.args.job) c.in-Some-pop_last.ensures.removal ∙ append_held c.args.job c.pop_last.new.self.entries ((name, count) ∷ []) in
    let rest = subst (λ (l : Locks). IsRest (holds_of old) c.args.job l) items c.loop-name.invariant.rest in
    let told = subst (λ (l : Locks). Tell (stands_of c.loop-name.index) (with_left (holds_of old) c.args.job l)) items c.loop-name.invariant.told in
    record {
      rest = front_rest (holds_of old) c.args.job init (hold_of c.args.job name) count rest;
      told = one_gone (holds_of old) c.args.job init (hold_of c.args.job name) count rest (order_parts old c.requires.parts) (counted_parts old c.requires.parts)
          (stands_of c.loop-name.index) (stands_of c.unmark.new.self) told c.unmark.ensures;
    }

pub returns : goal.returns
returns c =
    let old = c.args.parts.now.entries in
    let new = c.remove.new.self.entries in
    let updates = c.remove.ensures.updates in
    let change = emptied old new c.args.job updates.1 (λ j other. updates.2 j (other_key c.args.job j other)) in
    let all = parts_without old new c.args.job c.requires.parts change c.remove.ensures.ordered in
    let empty : held_by c.args.job c.loop-name.part.entries ≡ [] = ap (held_by c.args.job) (nothing_there c.loop-name.part.entries c.in_default-pop_last.ensures.variant.1) in
    let left = ap (λ (l : Locks). with_left (holds_of old) c.args.job l) empty ∙ none_left (holds_of old) c.args.job (order_parts old c.requires.parts) (counted_parts old c.requires.parts) in
    record { after = all.1; parts = all.0; told = subst (Tell (stands_of c.loop-name.index)) (left ∙ sym all.1) c.loop-name.invariant.told }
