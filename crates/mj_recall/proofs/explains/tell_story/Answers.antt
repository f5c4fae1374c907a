use Rattle.std.proofs.Common.{◌≡◌, ◌∙◌}
use Rattle.mj_describe.specs.Words.{Shown, Standing, story_text}
use Rattle.mj_recall.specs.Explained.{known_of, standing_of}
use Rattle.mj_recall.proofs.explains.tell_story.Goals as goal

pub returns-clause-words : goal.returns-clause-words
returns-clause-words c =
    let s : Shown = record { before = c.before_events.result; events = c.events.result.now; spots = c.as_slice.result.now } in
    let t : Standing = record { asked = c.as_slice-2.result.now; spots = c.as_slice-3.result.now; holds = c.as_slice-4.result.now } in
    let stands : t ≡ standing_of (known_of c.args.retraced.now) =
    λ i. record { asked = c.as_slice-2.ensures.value i; spots = c.as_slice-3.ensures.value i; holds = c.as_slice-4.ensures.value i } in
    record {
      shown = s;
      shows = record { events = c.events.ensures; spots_are = c.as_slice.ensures.value; lines = c.before_events.ensures };
      text = c.in_ok-words.ensures ∙ (λ i. story_text s (stands i) c.args.story.now);
    }
