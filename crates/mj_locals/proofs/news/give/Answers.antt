use Rattle.std.proofs.Common.{◌≡◌, ℕ, ◌+◌, ◌<◌, suc, List, [], length, map, drop, get_or, Option, Some, None, refl, sym, ap, ◌∙◌, subst, arith}
use Rattle.std.specs.Prelude.{slice_set}
use Rattle.std.specs.FinMap.{put}
use Rattle.std.proofs.lemmas.List.{get_or_read}
use Rattle.mj_store.specs.Questions.{Subtree}
use Rattle.mj_globs.proofs.Groups.{S}
use Rattle.mj_semantics.specs.State.{bound}
use Rattle.mj_locals.specs.Groups.{Pairs, newest}
use Rattle.mj_locals.specs.Kept.{named}
use Rattle.mj_locals.specs.Trees.{Trees, at, word_at, content}
use Rattle.mj_locals.proofs.Places.{length_placed, word_placed}
use Rattle.mj_locals.proofs.At.{room_at}
use Rattle.mj_locals.proofs.Content.{set_content, bound_step, bound_end}
use Rattle.mj_locals.proofs.Formals.{place_within, words_of_group, word_of_group, value_left, values_left, bound_skip}
use Rattle.mj_locals.proofs.news.give.Goals as goal
use Rattle.mj_locals.proofs.news.give.Goals.{in-Some, in_default}

pub give-requires : goal.give-requires
give-requires c =
    let within = place_within (length c.args.table.now) (newest c.args.trail.now) c.loop-index.index c.requires (omega (arith, c.len.ensures)) in
    omega (arith, within, c.place.ensures, c.loop-index.invariant.count)

pub loop-index-preserved : goal.loop-index-preserved
loop-index-preserved c =
    let ts : Trees = c.args.table.now in
    let ps : Pairs = newest c.args.trail.now in
    let xs : List (List ℕ) = map (λ k. k.0) (named ts ps) in
    let vs : List (Option (List ℕ)) = c.args.values.now in
    let now : List (Option (List ℕ)) = c.loop-index.values in
    let k : ℕ = c.loop-index.index in
    let p : k < length ps = omega (arith, c.len.ensures) in
    let q : k < length vs = omega (arith, c.loop-index.auto.values) in
    let r : k < length now = omega (arith, c.loop-index.auto.values) in
    let s : k < length xs = omega (arith, words_of_group ts ps) in
    let one : suc k ≡ k + 1 = omega arith in
    let left : drop (k + 1) (slice_set now k c.take.new.self) ≡ drop (k + 1) vs =
    subst (λ n. drop n (slice_set now k c.take.new.self) ≡ drop n vs) one (values_left now vs k c.take.new.self r q c.loop-index.invariant.values) in
    let own : (e : Option (List ℕ)) → c.take.result ≡ get_or vs k e = λ e. c.take.ensures.value
    ∙ sym c.index-values-index.is ∙ get_or_read now k c.index-values-index.result r c.index-values-index.is e ∙ value_left now vs k e r q c.loop-index.invariant.values in
    elim c.match-take.branch [
      | in-Some w ↦
          let us : Trees = c.loop-index.table in
          let place : ℕ = w.place.result in
          let within = place_within (length ts) ps k c.requires p in
          let less : place < length us = omega (arith, within, w.place.ensures, c.loop-index.invariant.count) in
          let word : word_at us place ≡ word_at ts (get_or ps k (0, [])).0 = c.loop-index.invariant.words place ∙ ap (word_at ts) w.place.ensures in
          let gave = w.table-is ∙ w.give.ensures in
          let n : Subtree = put S [] w.in-Some.value (at us (word_at us place)) in
          record {
            content =
                bound_step xs vs k (k + 1) (word_at us place) w.in-Some.value (content us) (content c.match-take.table) _ refl s q
                (λ e. word ∙ word_of_group ts ps k e p)
                (λ e. sym w.in-Some.is ∙ own e)
                (ap content gave ∙ set_content us (word_at us place) [] w.in-Some.value c.rises.ensures (room_at us place less))
                c.loop-index.invariant.content;
            values = left;
            words = λ x. ap (λ (zs : Trees). word_at zs x) gave ∙ word_placed us (word_at us place) n x ∙ c.loop-index.invariant.words x;
            count = ap (λ (zs : Trees). length zs) gave ∙ length_placed us (word_at us place) n ∙ c.loop-index.invariant.count;
          }
      | in_default w ↦
          let none : c.take.result ≡ None = nothing c.take.result w.in_default.not-Some in
          record {
            content = ap (λ (zs : Trees). bound (drop (k + 1) xs) (drop (k + 1) vs) (content zs)) w.table-is
                ∙ bound_skip xs vs k (content c.loop-index.table) _ s q (sym (own None) ∙ none) c.loop-index.invariant.content;
            values = left;
            words = λ x. ap (λ (zs : Trees). word_at zs x) w.table-is ∙ c.loop-index.invariant.words x;
            count = ap (λ (zs : Trees). length zs) w.table-is ∙ c.loop-index.invariant.count;
          }
    ]
  where
    nothing : (o : Option (List ℕ)) → ((v : List ℕ) → o ≡ Some v → ⊥) → o ≡ None
    nothing None h = refl
    nothing (Some v) h = absurd (h v refl)

pub returns-clause-content : goal.returns-clause-content
returns-clause-content c =
    let ts : Trees = c.args.table.now in
    let ps : Pairs = newest c.args.trail.now in
    let xs : List (List ℕ) = map (λ k. k.0) (named ts ps) in
    sym (bound_end xs c.args.values.now c.loop-index.index (content c.loop-index.table) (omega (arith, words_of_group ts ps, c.len.ensures, c.min-index-end.ensures)))
    ∙ c.loop-index.invariant.content
