use Rattle.std.specs.Prelude.{slice_get, codes}
use Rattle.std.proofs.Common.{◌≡◌, [], ◌∷◌, ◌++◌, List, ℕ, Option, None, sym, ap, ◌∙◌}
use Rattle.mj_text.specs.declared.limit.Limit.TheVariants.{V2}
use Rattle.mj_ask.specs.declared.noted.Spot.{Spot}
use Rattle.mj_frames.specs.Frames.{place_at}
use Rattle.mj_sys.specs.declared.event.Event.{Event}
use Rattle.mj_trace.specs.declared.form.Form.TheVariants.{Second}
use Rattle.mj_trace.specs.Spelling.{event_text}
use Rattle.mj_core.specs.Kept.{shown_event}
use Rattle.mj_dialogue.specs.Lines.{line_of_event}
use Rattle.mj_dialogue.proofs.tell.event.Goals as goal

pub returns-in_default : goal.returns-in_default
returns-in_default g c =
    let place = place_at c.place_of.result in
    let none : None ≡ slice_get c.args.core.now.history c.args.at = ap shown_event (sym c.in_default.is) ∙ c.event.ensures in
    (place, c.place_of.ensures, c.new.ensures.items ∙ ap (λ (e : Option Event). line_of_event e place) none)

pub returns : goal.returns
returns g c =
    let place = place_at c.place_of.result in
    let e : Event = record { job = c.in-Some.job; ask = c.in-Some.ask.now; reply = c.in-Some.reply.now } in
    let text : Option Spot → List ℕ = λ spot. event_text (Second V2) (record { job = e.job; spot = spot; ask = e.ask; reply = e.reply }) in (
      place,
      c.place_of.ensures,
      c.in_ok-push.ensures.items
          ∙ ap (λ (line : List ℕ). line ++ 10 ∷ []) (c.in_ok-bytes.ensures ∙ ap text (c.as_ref.ensures.value ∙ c.in_ok-spot.ensures))
          ∙ ap (λ (o : Option Event). line_of_event o place) c.in-Some.ensures,
    )
