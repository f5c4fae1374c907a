use Rattle.std.proofs.Common.{◌≡◌, [], ◌∷◌, ◌++◌, Option, Some, refl, sym, ap, ◌∙◌, subst}
use Rattle.std.specs.Prelude.{IsSome}
use Rattle.mj_ask.specs.declared.ask.Ask.{Ask}
use Rattle.mj_jobvm.specs.Jobs.{Running, FitsPending, IsRunOf}
use Rattle.mj_turn.specs.Starts.{start_of}
use Rattle.mj_semantics.specs.State.{place_of}
use Rattle.mj_jobvm.proofs.Answered.{answered_by}
use Rattle.mj_jobvm.proofs.job.Job.answer.Goals as goal

waits : (pending : Option Ask) (a : Ask) → pending ≡ Some a → IsSome pending
waits pending a e = subst IsSome (sym e) refl

pub push_reserved-requires : goal.push_reserved-requires
push_reserved-requires c =
    let s = c.self.inside in
    (c.self.invariant (waits s.pending c.in-Some.ask (sym c.take.ensures.value ∙ c.in-Some.is))).0

pub keep-requires : goal.keep-requires
keep-requires c =
    let s = c.self.inside in
    (c.self.invariant (waits s.pending c.in-Some.ask (sym c.take.ensures.value ∙ c.in-Some.is))).1

pub returns-in-Some-clause-places : goal.returns-in-Some-clause-places
returns-in-Some-clause-places c =
    let s = c.self.inside in
    let P : Running → Type 0 = λ j. c.keep.new.self.places ≡ j.run.places ++ place_of j.run.at.state ∷ [] in
    subst P c.self.view_is
    (c.keep.ensures ∙ ap (λ next. s.places.places ++ next ∷ []) (c.self.invariant (waits s.pending c.in-Some.ask (sym c.take.ensures.value ∙ c.in-Some.is))).2)

pub returns-in-Some-clause-run : goal.returns-in-Some-clause-run
returns-in-Some-clause-run c = λ image start within is.
    let s = c.self.inside in
    let P : Running → Type 0 = λ j. IsRunOf image start j in
    let Q : Running → Type 0 = λ j. FitsPending j.run.pending c.args.reply in
    answered_by image start (start_of s.start) s.machine s.log.items c.push_reserved.new.self.items s.places.places c.keep.new.self.places s.given s.pending c.take.new.self
    s.spent c.in-Some.ask c.args.reply within
    (sym c.take.ensures.value ∙ c.in-Some.is) (subst Q (sym c.self.view_is) c.requires) c.push_reserved.ensures.items c.take.ensures.after
    (c.keep.ensures ∙ ap (λ next. s.places.places ++ next ∷ []) (c.self.invariant (waits s.pending c.in-Some.ask (sym c.take.ensures.value ∙ c.in-Some.is))).2) (subst P (sym c.self.view_is) is)
