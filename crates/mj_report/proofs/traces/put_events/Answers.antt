use Rattle.std.specs.List.{slice_index_or}
use Rattle.std.proofs.Common.{◌≡◌, ℕ, ◌<◌, ◌≤◌, ◌^◌, Option, None, length, take, sym, ap, ◌∙◌, subst, arith}
use Rattle.mj_sys.specs.declared.event.Event.{Event}
use Rattle.mj_sys.specs.History.{log_of}
use Rattle.mj_ask.specs.declared.noted.Spot.{Spot}
use Rattle.mj_core.specs.Runs.{places_lent, places_at}
use Rattle.mj_trace.specs.Sized.{event_fits}
use Rattle.mj_trace.specs.Spelling.{event_text}
use Rattle.mj_replica.specs.Placed.{spot_for}
use Rattle.mj_report.specs.Traced.{count_in}
use Rattle.mj_report.proofs.Lines.{lines_on, fits_on, counts_on, few_logged, line_with, fits_with}
use Rattle.mj_report.proofs.traces.put_events.Goals as goal

pub count_one-requires : goal.count_one-requires
count_one-requires g c =
    let job = c.in-Some.job in
    let few : length (log_of job (take c.events.at (g.H.Events.history c.args.told.now))) ≤ c.events.at = few_logged job c.events.at (g.H.Events.history c.args.told.now) in
    let counted = c.events.invariant.counted job in
    let within = c.events-test.true in
    omega (arith, few, counted, within)

pub events-preserved : goal.events-preserved
events-preserved g c =
    let e : Event = record { job = c.in-Some.job; ask = c.in-Some.ask.now; reply = c.in-Some.reply.now } in
    let there = sym c.in-Some.ensures in
    let history = g.H.Events.history c.args.told.now in
    let places = places_at (places_lent c.args.places.now) in
    let before : c.in_ok-before.before ≡ length (log_of e.job (take c.events.at history)) = c.in_ok-before.ensures.before ∙ c.events.invariant.counted e.job in
    let spot : c.in_ok-spot.spot ≡ spot_for (slice_index_or (places e.job) (length (log_of e.job (take c.events.at history))) None) =
    c.in_ok-spot.ensures ∙ ap (λ n. spot_for (slice_index_or (places e.job) n None)) before in
    record {
      lines = lines_on places history c.events.at e there c.events.bytes.items c.put_event.new.bytes.items _ c.events.invariant.lines
          (line_with e c.events.bytes.items _ _ _ (c.as_ref.ensures.value ∙ spot) c.in_ok-put_event.ensures.text);
      fits = fits_on places history c.events.at e there (fits_with e _ _ (c.as_ref.ensures.value ∙ spot) c.in_ok-put_event.ensures.fits) ∙ c.events.invariant.fits;
      counted = counts_on places history c.events.at e there (count_in c.events.counts.items) (count_in c.count_one.new.counts.items) c.events.invariant.counted c.in_ok-before.ensures.counted;
    }
