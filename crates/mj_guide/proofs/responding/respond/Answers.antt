use Rattle.std.proofs.Common.{◌≡◌, ◌∙◌, ℕ, List, [], refl, sym, ap, subst}
use Rattle.mj_load.specs.Image.{Loaded}
use Rattle.mj_core.specs.Shown.{Shown}
use Rattle.mj_inspect.specs.Shows.{ShowsVariable}
use Rattle.mj_inspect.specs.Source.{source_lines}
use Rattle.mj_inspect.specs.Specials.{ShowsSpecial}
use Rattle.mj_inspect.specs.Spots.{entry_line}
use Rattle.mj_guide.specs.declared.request.Request.TheVariants as requests
use Rattle.mj_guide.specs.Notes.{situation}
use Rattle.mj_guide.proofs.Answered.{answered, request_so}
use Rattle.mj_guide.proofs.responding.respond.Goals as goal

pub returns-in-Plain : goal.returns-in-Plain
returns-in-Plain g c =
    let old = situation c.args.debugger.now c.args.notes.now (g.W.Write.contents c.args.out.now) in
    let new = situation c.plain.new.debugger c.plain.new.notes (g.W.Write.contents c.plain.new.out) in
    request_so g.O.Opening.opening c.args.sources.now old new (requests.Plain c.in-Plain.command) c.args.request.now c.plain.result c.in-Plain.is c.plain.ensures

pub returns-in-Until : goal.returns-in-Until
returns-in-Until g c =
    let old = situation c.args.debugger.now c.args.notes.now (g.W.Write.contents c.args.out.now) in
    let new = situation c.until.new.debugger c.until.new.notes (g.W.Write.contents c.until.new.out) in
    request_so g.O.Opening.opening c.args.sources.now old new (requests.Until c.in-Until.goal) c.args.request.now c.until.result c.in-Until.is c.until.ensures

pub returns-in_ok-show-in-Show : goal.returns-in_ok-show-in-Show
returns-in_ok-show-in-Show g c =
    let bytes = c.in_ok-show-in-Show.field-0.items in
    let old = situation c.args.debugger.now c.args.notes.now (g.W.Write.contents c.args.out.now) in
    let new = situation c.show.new.debugger c.args.notes.now (g.W.Write.contents c.give.new.out) in
    let J : ℕ → Type 0 = λ job. ShowsVariable g.O.Opening.opening c.args.debugger.now job c.in-Show.name bytes in
    let shows = c.in_ok-show-in-Show.ensures.ok in
    answered g.O.Opening.opening c.args.sources.now old new (requests.Show c.in-Show.name)
    c.args.request.now bytes c.deref.result.now c.give.result c.in-Show.is tt
    c.deref.ensures.value (shows.0, subst J c.asker_or_none-job.ensures shows.1) refl refl refl c.give.ensures

pub returns-in_ok-show-in-ShowOf : goal.returns-in_ok-show-in-ShowOf
returns-in_ok-show-in-ShowOf g c =
    let bytes = c.in_ok-show-in-ShowOf.field-0.items in
    let old = situation c.args.debugger.now c.args.notes.now (g.W.Write.contents c.args.out.now) in
    let new = situation c.show-in-ShowOf.new.debugger c.args.notes.now (g.W.Write.contents c.give-in-ShowOf.new.out) in
    answered g.O.Opening.opening c.args.sources.now old new (requests.ShowOf c.in-ShowOf.job c.in-ShowOf.name)
    c.args.request.now bytes c.deref-in-ShowOf.result.now c.give-in-ShowOf.result c.in-ShowOf.is tt
    c.deref-in-ShowOf.ensures.value c.in_ok-show-in-ShowOf.ensures.ok refl refl refl c.give-in-ShowOf.ensures

pub returns-in_ok-special-in-Special : goal.returns-in_ok-special-in-Special
returns-in_ok-special-in-Special g c =
    let bytes = c.in_ok-special-in-Special.field-0.items in
    let old = situation c.args.debugger.now c.args.notes.now (g.W.Write.contents c.args.out.now) in
    let new = situation c.args.debugger.now c.args.notes.now (g.W.Write.contents c.give-in-Special.new.out) in
    let walk = c.args.debugger.now in
    let J : ℕ → Type 0 = λ job.
    ShowsSpecial walk.core.image c.args.notes.now.starts.items walk.core.history walk.place job c.in-Special.of bytes in
    answered g.O.Opening.opening c.args.sources.now old new (requests.Special c.in-Special.of)
    c.args.request.now bytes c.deref-in-Special.result.now c.give-in-Special.result c.in-Special.is tt
    c.deref-in-Special.ensures.value (refl, subst J c.asker_or_none-job-in-Special.ensures c.in_ok-special-in-Special.ensures) refl refl refl c.give-in-Special.ensures

pub returns-in_ok-special-in-SpecialOf : goal.returns-in_ok-special-in-SpecialOf
returns-in_ok-special-in-SpecialOf g c =
    let bytes = c.in_ok-special-in-SpecialOf.field-0.items in
    let old = situation c.args.debugger.now c.args.notes.now (g.W.Write.contents c.args.out.now) in
    let new = situation c.args.debugger.now c.args.notes.now (g.W.Write.contents c.give-in-SpecialOf.new.out) in
    answered g.O.Opening.opening c.args.sources.now old new (requests.SpecialOf c.in-SpecialOf.job c.in-SpecialOf.of)
    c.args.request.now bytes c.deref-in-SpecialOf.result.now c.give-in-SpecialOf.result c.in-SpecialOf.is tt
    c.deref-in-SpecialOf.ensures.value (refl, c.in_ok-special-in-SpecialOf.ensures) refl refl refl c.give-in-SpecialOf.ensures

pub returns-in_ok-waiting-in-Waits : goal.returns-in_ok-waiting-in-Waits
returns-in_ok-waiting-in-Waits g c =
    let bytes = c.in_ok-waiting-in-Waits.field-0.items in
    let old = situation c.args.debugger.now c.args.notes.now (g.W.Write.contents c.args.out.now) in
    let new = situation c.args.debugger.now c.args.notes.now (g.W.Write.contents c.give-in-Waits.new.out) in
    answered g.O.Opening.opening c.args.sources.now old new requests.Waits
    c.args.request.now bytes c.deref-in-Waits.result.now c.give-in-Waits.result c.in-Waits.is tt
    c.deref-in-Waits.ensures.value (refl, c.in_ok-waiting-in-Waits.ensures) refl refl refl c.give-in-Waits.ensures

pub returns-in_ok-list_breaks-in-Breaks : goal.returns-in_ok-list_breaks-in-Breaks
returns-in_ok-list_breaks-in-Breaks g c =
    let bytes = c.in_ok-list_breaks-in-Breaks.field-0.items in
    let old = situation c.args.debugger.now c.args.notes.now (g.W.Write.contents c.args.out.now) in
    let new = situation c.args.debugger.now c.args.notes.now (g.W.Write.contents c.give-in-Breaks.new.out) in
    answered g.O.Opening.opening c.args.sources.now old new requests.Breaks
    c.args.request.now bytes c.deref-in-Breaks.result.now c.give-in-Breaks.result c.in-Breaks.is tt
    c.deref-in-Breaks.ensures.value (refl, c.in_ok-list_breaks-in-Breaks.ensures) refl refl refl c.give-in-Breaks.ensures

pub returns-in_ok-mark_entry-in-SetAt : goal.returns-in_ok-mark_entry-in-SetAt
returns-in_ok-mark_entry-in-SetAt g c =
    let bytes = c.in_ok-mark_entry-in-SetAt.field-0.items in
    let old = situation c.args.debugger.now c.args.notes.now (g.W.Write.contents c.args.out.now) in
    let new = situation c.mark_entry.new.debugger c.args.notes.now (g.W.Write.contents c.give-in-SetAt.new.out) in
    answered g.O.Opening.opening c.args.sources.now old new (requests.SetAt c.in-SetAt.entry)
    c.args.request.now bytes c.deref-in-SetAt.result.now c.give-in-SetAt.result c.in-SetAt.is tt
    c.deref-in-SetAt.ensures.value c.in_ok-mark_entry-in-SetAt.ensures refl refl refl c.give-in-SetAt.ensures

pub returns-in_ok-mark_entry-in-ClearAt : goal.returns-in_ok-mark_entry-in-ClearAt
returns-in_ok-mark_entry-in-ClearAt g c =
    let bytes = c.in_ok-mark_entry-in-ClearAt.field-0.items in
    let old = situation c.args.debugger.now c.args.notes.now (g.W.Write.contents c.args.out.now) in
    let new = situation c.mark_entry-in-ClearAt.new.debugger c.args.notes.now (g.W.Write.contents c.give-in-ClearAt.new.out) in
    answered g.O.Opening.opening c.args.sources.now old new (requests.ClearAt c.in-ClearAt.entry)
    c.args.request.now bytes c.deref-in-ClearAt.result.now c.give-in-ClearAt.result c.in-ClearAt.is tt
    c.deref-in-ClearAt.ensures.value c.in_ok-mark_entry-in-ClearAt.ensures refl refl refl c.give-in-ClearAt.ensures

pub returns-in_ok-source_here-in-Source : goal.returns-in_ok-source_here-in-Source
returns-in_ok-source_here-in-Source g c =
    let bytes = c.in_ok-source_here-in-Source.field-0.items in
    let old = situation c.args.debugger.now c.args.notes.now (g.W.Write.contents c.args.out.now) in
    let new = situation c.args.debugger.now c.args.notes.now (g.W.Write.contents c.give-in-Source.new.out) in
    answered g.O.Opening.opening c.args.sources.now old new requests.Source
    c.args.request.now bytes c.deref-in-Source.result.now c.give-in-Source.result c.in-Source.is tt
    c.deref-in-Source.ensures.value (refl, c.in_ok-source_here-in-Source.ensures) refl refl refl c.give-in-Source.ensures

pub returns-in_ok-around-in-SourceAt : goal.returns-in_ok-around-in-SourceAt
returns-in_ok-around-in-SourceAt g c =
    let bytes = c.in_ok-around-in-SourceAt.field-0.items in
    let old = situation c.args.debugger.now c.args.notes.now (g.W.Write.contents c.args.out.now) in
    let new = situation c.args.debugger.now c.args.notes.now (g.W.Write.contents c.give-in-SourceAt.new.out) in
    answered g.O.Opening.opening c.args.sources.now old new (requests.SourceAt c.in-SourceAt.routine c.in-SourceAt.line)
    c.args.request.now bytes c.deref-in-SourceAt.result.now c.give-in-SourceAt.result c.in-SourceAt.is tt
    c.deref-in-SourceAt.ensures.value (refl, c.in_ok-around-in-SourceAt.ensures) refl refl refl c.give-in-SourceAt.ensures

pub returns-in_ok-source_of-in-SourceOf : goal.returns-in_ok-source_of-in-SourceOf
returns-in_ok-source_of-in-SourceOf g c =
    let bytes = c.in_ok-source_of-in-SourceOf.field-0.items in
    let old = situation c.args.debugger.now c.args.notes.now (g.W.Write.contents c.args.out.now) in
    let new = situation c.args.debugger.now c.args.notes.now (g.W.Write.contents c.give-in-SourceOf.new.out) in
    let image = c.image.ensures ∙ ap (λ (core : Shown). core.image) c.core.ensures in
    let entry = c.in-SourceOf.entry in
    let lines =
    c.in_ok-source_of-in-SourceOf.ensures
    ∙ ap (λ (image : Loaded). source_lines c.args.sources.now entry.routine (entry_line image.routines entry)) image in
    answered g.O.Opening.opening c.args.sources.now old new (requests.SourceOf c.in-SourceOf.entry)
    c.args.request.now bytes c.deref-in-SourceOf.result.now c.give-in-SourceOf.result c.in-SourceOf.is tt
    c.deref-in-SourceOf.ensures.value (refl, lines) refl refl refl c.give-in-SourceOf.ensures

pub returns-in_ok-watched_text-in-Watched : goal.returns-in_ok-watched_text-in-Watched
returns-in_ok-watched_text-in-Watched g c =
    let bytes = c.in_ok-watched_text-in-Watched.field-0.items in
    let old = situation c.args.debugger.now c.args.notes.now (g.W.Write.contents c.args.out.now) in
    let new = situation c.args.debugger.now c.args.notes.now (g.W.Write.contents c.give-in-Watched.new.out) in
    answered g.O.Opening.opening c.args.sources.now old new requests.Watched
    c.args.request.now bytes c.deref-in-Watched.result.now c.give-in-Watched.result c.in-Watched.is tt
    c.deref-in-Watched.ensures.value (refl, c.in_ok-watched_text-in-Watched.ensures) refl refl refl c.give-in-Watched.ensures

pub returns-in_ok-watch-in-Watch : goal.returns-in_ok-watch-in-Watch
returns-in_ok-watch-in-Watch g c =
    let bytes = c.in_ok-watch-in-Watch.field-0.items in
    let old = situation c.args.debugger.now c.args.notes.now (g.W.Write.contents c.args.out.now) in
    let new = situation c.args.debugger.now c.watch.new.notes (g.W.Write.contents c.give-in-Watch.new.out) in
    answered g.O.Opening.opening c.args.sources.now old new (requests.Watch c.in-Watch.name)
    c.args.request.now bytes c.deref-in-Watch.result.now c.give-in-Watch.result c.in-Watch.is tt
    c.deref-in-Watch.ensures.value (refl, c.in_ok-watch-in-Watch.ensures.ok) c.watch.ensures.steps c.in_ok-watch-in-Watch.ensures.watched c.watch.ensures.starts c.give-in-Watch.ensures

pub returns-in_ok-unwatch-in-Unwatch : goal.returns-in_ok-unwatch-in-Unwatch
returns-in_ok-unwatch-in-Unwatch g c =
    let bytes = c.in_ok-unwatch-in-Unwatch.field-0.items in
    let old = situation c.args.debugger.now c.args.notes.now (g.W.Write.contents c.args.out.now) in
    let new = situation c.args.debugger.now c.unwatch.new.notes (g.W.Write.contents c.give-in-Unwatch.new.out) in
    answered g.O.Opening.opening c.args.sources.now old new (requests.Unwatch c.in-Unwatch.name)
    c.args.request.now bytes c.deref-in-Unwatch.result.now c.give-in-Unwatch.result c.in-Unwatch.is tt
    c.deref-in-Unwatch.ensures.value (refl, c.in_ok-unwatch-in-Unwatch.ensures.ok) c.unwatch.ensures.steps c.unwatch.ensures.watched c.unwatch.ensures.starts c.give-in-Unwatch.ensures

pub returns-in-Help : goal.returns-in-Help
returns-in-Help g c =
    let old = situation c.args.debugger.now c.args.notes.now (g.W.Write.contents c.args.out.now) in
    let new = situation c.args.debugger.now c.args.notes.now (g.W.Write.contents c.give-in-Help.new.out) in
    answered g.O.Opening.opening c.args.sources.now old new _ c.args.request.now [] _ c.give-in-Help.result c.in-Help.is tt refl (refl, refl) refl refl refl
    c.give-in-Help.ensures

pub returns-in-Keep : goal.returns-in-Keep
returns-in-Keep g c =
    let old = situation c.args.debugger.now c.args.notes.now (g.W.Write.contents c.args.out.now) in
    let new = situation c.args.debugger.now c.args.notes.now (g.W.Write.contents c.give-in-Keep.new.out) in
    answered g.O.Opening.opening c.args.sources.now old new _ c.args.request.now [] _ c.give-in-Keep.result c.in-Keep.is tt refl (refl, refl) refl refl refl
    c.give-in-Keep.ensures

pub returns-in-Branch : goal.returns-in-Branch
returns-in-Branch g c =
    let old = situation c.args.debugger.now c.args.notes.now (g.W.Write.contents c.args.out.now) in
    let new = situation c.args.debugger.now c.args.notes.now (g.W.Write.contents c.give-in-Branch.new.out) in
    answered g.O.Opening.opening c.args.sources.now old new _ c.args.request.now [] _ c.give-in-Branch.result c.in-Branch.is tt refl (refl, refl) refl refl refl
    c.give-in-Branch.ensures
