use Rattle.std.proofs.Common.{ℕ, List, length, sym, ap, ◌∙◌, subst, arith}
use Rattle.mj_store.specs.Questions.{Subtree}
use Rattle.mj_globs.proofs.Groups.{append_nil}
use Rattle.mj_locals.specs.Groups.{Pairs, newest, rest}
use Rattle.mj_locals.specs.Kept.{named, HavePlaces}
use Rattle.mj_locals.specs.Trees.{Trees, placed, word_at}
use Rattle.mj_locals.specs.Hiding.{all_put}
use Rattle.mj_locals.proofs.Places.{length_placed, word_placed}
use Rattle.mj_locals.proofs.At.{all_put_pushed}
use Rattle.mj_locals.proofs.HiddenWords.{named_pushed, places_popped, rest_reduced}
use Rattle.mj_locals.proofs.news.put_back.Goals as goal

pub exchange-requires : goal.exchange-requires
exchange-requires c =
    let all = subst (HavePlaces (length c.args.table.now)) c.in-Some.ensures.pairs c.loop-place.invariant.places in
    let so = places_popped (length c.args.table.now) (newest c.pop.new.self) (c.in-Some.place, c.in-Some.tree) all in
    omega (arith, so.1, c.loop-place.invariant.count)

pub loop-place-preserved : goal.loop-place-preserved
loop-place-preserved c =
    let ts = c.args.table.now in
    let x : ℕ × Subtree = (c.in-Some.place, c.in-Some.tree) in
    let all = subst (HavePlaces (length ts)) c.in-Some.ensures.pairs c.loop-place.invariant.places in
    let so = places_popped (length ts) (newest c.pop.new.self) x all in
    let w : List ℕ = word_at c.loop-place.table x.0 in
    record {
      table =
          ap (all_put (named ts (newest c.pop.new.self))) (c.exchange.ensures.rest ∙ ap (λ (v : List ℕ). placed c.loop-place.table v x.1) (c.loop-place.invariant.words x.0))
          ∙ sym (all_put_pushed (named ts (newest c.pop.new.self)) (word_at ts x.0, x.1) c.loop-place.table)
          ∙ ap (λ (ks : Trees). all_put ks c.loop-place.table) (sym (named_pushed ts (newest c.pop.new.self) x))
          ∙ ap (λ (ps : Pairs). all_put (named ts ps) c.loop-place.table) (sym c.in-Some.ensures.pairs)
          ∙ c.loop-place.invariant.table;
      words = λ p. ap (λ (us : Trees). word_at us p) c.exchange.ensures.rest ∙ word_placed c.loop-place.table w x.1 p ∙ c.loop-place.invariant.words p;
      count = ap (λ (us : Trees). length us) c.exchange.ensures.rest ∙ length_placed c.loop-place.table w x.1 ∙ c.loop-place.invariant.count;
      places = so.0;
      rest = ap rest c.in-Some.ensures.rest ∙ rest_reduced (newest c.pop.new.self) c.loop-place.trail ∙ c.loop-place.invariant.rest;
    }

pub end-requires : goal.end-requires
end-requires c = sym (append_nil (newest c.pop.new.self)) ∙ sym c.in_default.ensures.pairs ∙ c.in_default.ensures.none

pub returns-clause-table : goal.returns-clause-table
returns-clause-table c = ap (λ (ps : Pairs). all_put (named c.args.table.now ps) c.loop-place.table) (sym c.in_default.ensures.none) ∙ c.loop-place.invariant.table
