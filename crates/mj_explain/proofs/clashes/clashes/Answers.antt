use Rattle.std.proofs.Common.{◌≡◌, ℕ, All, List, [], ◌∷◌, ◌++◌, ◌+◌, Vec, Global, length, map, take, refl, ap, sym, ◌∙◌, subst, arith}
use Rattle.std.proofs.lemmas.Option.{slice_get_read}
use Rattle.std.proofs.lemmas.List.{length-append}
use Rattle.mj_explain.specs.declared.clashes.ToldClash.{ToldClash}
use Rattle.mj_explain.specs.Clashes.{IsClash, clash_places}
use Rattle.mj_explain.proofs.Places.{places_within, places_yes, places_no, take_yes, take_no}
use Rattle.mj_explain.proofs.clashes.clashes.Goals.{then-count-most+in_ok-add_clash, else-count-most}
use Rattle.mj_explain.proofs.clashes.clashes.Goals as goal

pub overflow_add-count : goal.overflow_add-count
overflow_add-count c =
    let few = places_within c.args.events.now c.loop-place.place in
    let is = c.loop-place.invariant.2 in
    omega (arith, few, is)

pub add_clash-requires-clause-there : goal.add_clash-requires-clause-there
add_clash-requires-clause-there c =
    slice_get_read c.args.events.now (length c.args.events.now) c.loop-place.place c.index-events-place.result refl c.loop-place-test.true c.index-events-place.is

pub loop-place-preserved-in_default : goal.loop-place-preserved-in_default
loop-place-preserved-in_default c =
    let es = c.args.events.now in
    let k = c.loop-place.place in
    let e = c.index-events-place.result in
    let there = slice_get_read es (length es) k e refl c.loop-place-test.true c.index-events-place.is in
    let no : clash_places es (k + 1) ≡ clash_places es k = places_no es k e there c.in_default.ensures in
    (c.loop-place.invariant.0, c.loop-place.invariant.1 ∙ ap (take c.args.most) (sym no), c.loop-place.invariant.2 ∙ ap length (sym no))

pub loop-place-preserved : goal.loop-place-preserved
loop-place-preserved c =
    let es = c.args.events.now in
    let g = c.args.globals.now.content in
    let most = c.args.most in
    let k = c.loop-place.place in
    let e = c.index-events-place.result in
    let P = clash_places es k in
    let there = slice_get_read es (length es) k e refl c.loop-place-test.true c.index-events-place.is in
    let yes : clash_places es (k + 1) ≡ P ++ k ∷ [] = places_yes es k e there c.in-Some.clash.now c.in-Some.ensures in
    let is = c.loop-place.invariant.2 in
    let kept : All (IsClash g es) c.if-count-most.clashes.items =
    elim c.if-count-most.branch [
      | then-count-most+in_ok-add_clash w ↦
          subst (λ (cs : Vec ToldClash Global). All (IsClash g es) cs.items) (sym w.clashes-is) (w.in_ok-add_clash.ensures.each c.loop-place.invariant.0)
      | else-count-most w ↦ subst (λ (cs : Vec ToldClash Global). All (IsClash g es) cs.items) (sym w.clashes-is) c.loop-place.invariant.0
    ] in
    let first : map (λ t. t.commit) c.if-count-most.clashes.items ≡ take most (P ++ k ∷ []) =
    elim c.if-count-most.branch [
      | then-count-most+in_ok-add_clash w ↦
          subst (λ (cs : Vec ToldClash Global). map (λ t. t.commit) cs.items ≡ take most (P ++ k ∷ [])) (sym w.clashes-is)
          (w.in_ok-add_clash.ensures.more ∙ ap (λ (xs : List ℕ). xs ++ k ∷ []) c.loop-place.invariant.1
          ∙ sym (take_yes most k P (let fits = w.if-count-most.true in omega (arith, is, fits))))
      | else-count-most w ↦
          subst (λ (cs : Vec ToldClash Global). map (λ t. t.commit) cs.items ≡ take most (P ++ k ∷ [])) (sym w.clashes-is)
          (c.loop-place.invariant.1 ∙ sym (take_no most k P (let beyond = w.if-count-most.false in omega (arith, is, beyond))))
    ] in
    (kept, first ∙ ap (take most) (sym yes), ap (λ (n : ℕ). n + 1) is ∙ sym (length-append P (k ∷ [])) ∙ ap length (sym yes))

pub returns : goal.returns
returns c =
    let es = c.args.events.now in
    let all : c.loop-place.place ≡ length es = omega arith in
    record {
      are = record { each = c.loop-place.invariant.0; first = c.loop-place.invariant.1 ∙ ap (λ (k : ℕ). take c.args.most (clash_places es k)) all };
      count = c.loop-place.invariant.2 ∙ ap (λ (k : ℕ). length (clash_places es k)) all;
    }
