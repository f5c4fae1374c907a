use Rattle.std.proofs.Common.{◌≡◌, ◌++◌, ◌∷◌, [], Bool, false, Some, sym, ap, ◌∙◌, subst, lit<}
use Rattle.std.specs.Str.{bytes_eq}
use Rattle.std.proofs.lemmas.Fmt.{decimal_digit}
use Rattle.mj_ask.specs.Started.{Started}
use Rattle.mj_dev.specs.Shelves.{principal}
use Rattle.mj_jobvm.specs.Jobs.{Running}
use Rattle.mj_sys.specs.System.{Claimed}
use Rattle.mj_core.specs.Answering.{HasAll}
use Rattle.mj_core.proofs.Admitting.{same_claim, first_has, slot_kept, slot_woven, slot_turns, slot_stands}
use Rattle.mj_core.proofs.together.start_next.Goals as goal
use Rattle.mj_core.proofs.together.start_next.Given.{Over}
use Rattle.mj_core.proofs.together.start_next.Goals.{After-open}

-- the job has its principal session
holds : (g : Over) (c : After-open g) → HasAll g.A.Answerer.answering c.open.new.self (bytes_eq principal)
holds g c name =
    let called : c.from_number-principal.result ≡ principal = c.from_number-principal.ensures ∙ decimal_digit 0 (lit< tt) in
    let H : Bool → Type 0 = λ b. g.A.Answerer.answering.Has c.open.new.self name b in
    subst H (first_has (bytes_eq c.from_number-principal.result name) ∙ ap (λ n. bytes_eq n name) called)
    (c.open.ensures.there name false (c.make_room.ensures.stays.1 name false (c.new-answerer.ensures.none name)))

pub returns-clause-kept : goal.returns-clause-kept
returns-clause-kept g c =
    let is : c.args.waiting.now ≡ Some (c.in-Some-take.claim, c.in-Some-take.session) = sym c.take.ensures.value ∙ c.in-Some-take.is in
    let same : c.in-Some.claim ≡ c.in-Some-take.claim = same_claim c.args.waiting.now c.in-Some.claim c.in-Some-take.claim c.in-Some.field-0-1 c.in-Some-take.session c.in-Some.is is in
    let start = c.in_ok-try_clone.ensures ∙ c.start.ensures ∙ ap (λ (x : Claimed). x.start) same in
    slot_kept g.A.Answerer.answering c.args.image.now g.O.Opening.opening c.args.system.now c.args.slots.now.items c.args.order.now c.args.waiting.now c.requires.kept
    c.in-Some-take.claim c.in-Some-take.session is c.job.result c.into_parts-entry.result.0 c.into_parts-entry.result.1.items c.job.ensures.value
    (c.into_parts-entry.ensures.entry ∙ ap (λ (s : Started). s.entry) start) (c.into_parts-entry.ensures.values ∙ ap (λ (s : Started). s.values) start)
    c.start-job.result (ap (λ (j : Running). j.run.log) c.start-job.ensures.opening) (ap (λ (j : Running). j.run.spent) c.start-job.ensures.opening)
    (ap (λ (j : Running). j.run.pending) c.start-job.ensures.opening) c.start-job.ensures.run
    c.open.new.self (c.open.ensures.of [] (c.make_room.ensures.stays.0 [] c.new-answerer.ensures.of)) (holds g (goal.at.returns-clause-kept g c).After-open)
    c.push_reserved.new.self.items (c.push_reserved.ensures.items ∙ ap (λ l. l ++ record { claim = c.in-Some-take.claim; job = c.start-job.result; answerer = c.open.new.self; at_ask = false } ∷ [])
    c.in_ok-reserve.ensures.items) c.take.new.self c.take.ensures.after

pub returns-clause-woven : goal.returns-clause-woven
returns-clause-woven g c =
    let is : c.args.waiting.now ≡ Some (c.in-Some-take.claim, c.in-Some-take.session) = sym c.take.ensures.value ∙ c.in-Some-take.is in
    let same : c.in-Some.claim ≡ c.in-Some-take.claim = same_claim c.args.waiting.now c.in-Some.claim c.in-Some-take.claim c.in-Some.field-0-1 c.in-Some-take.session c.in-Some.is is in
    let start = c.in_ok-try_clone.ensures ∙ c.start.ensures ∙ ap (λ (x : Claimed). x.start) same in
    slot_woven g.A.Answerer.answering c.args.image.now g.O.Opening.opening c.args.system.now c.args.slots.now.items c.args.order.now c.args.waiting.now c.requires.kept
    c.in-Some-take.claim c.in-Some-take.session is c.job.result c.into_parts-entry.result.0 c.into_parts-entry.result.1.items c.job.ensures.value
    (c.into_parts-entry.ensures.entry ∙ ap (λ (s : Started). s.entry) start) (c.into_parts-entry.ensures.values ∙ ap (λ (s : Started). s.values) start)
    c.start-job.result (ap (λ (j : Running). j.run.log) c.start-job.ensures.opening) (ap (λ (j : Running). j.run.spent) c.start-job.ensures.opening)
    (ap (λ (j : Running). j.run.pending) c.start-job.ensures.opening) c.start-job.ensures.run
    c.open.new.self (c.open.ensures.of [] (c.make_room.ensures.stays.0 [] c.new-answerer.ensures.of)) (holds g (goal.at.returns-clause-woven g c).After-open)
    c.push_reserved.new.self.items (c.push_reserved.ensures.items ∙ ap (λ l. l ++ record { claim = c.in-Some-take.claim; job = c.start-job.result; answerer = c.open.new.self; at_ask = false } ∷ [])
    c.in_ok-reserve.ensures.items)

pub returns-clause-turns : goal.returns-clause-turns
returns-clause-turns g c =
    let is : c.args.waiting.now ≡ Some (c.in-Some-take.claim, c.in-Some-take.session) = sym c.take.ensures.value ∙ c.in-Some-take.is in
    let same : c.in-Some.claim ≡ c.in-Some-take.claim = same_claim c.args.waiting.now c.in-Some.claim c.in-Some-take.claim c.in-Some.field-0-1 c.in-Some-take.session c.in-Some.is is in
    let start = c.in_ok-try_clone.ensures ∙ c.start.ensures ∙ ap (λ (x : Claimed). x.start) same in
    slot_turns g.A.Answerer.answering c.args.image.now g.O.Opening.opening c.args.system.now c.args.slots.now.items c.args.order.now c.args.waiting.now c.requires.kept
    c.in-Some-take.claim c.in-Some-take.session is c.job.result c.into_parts-entry.result.0 c.into_parts-entry.result.1.items c.job.ensures.value
    (c.into_parts-entry.ensures.entry ∙ ap (λ (s : Started). s.entry) start) (c.into_parts-entry.ensures.values ∙ ap (λ (s : Started). s.values) start)
    c.start-job.result (ap (λ (j : Running). j.run.log) c.start-job.ensures.opening) (ap (λ (j : Running). j.run.spent) c.start-job.ensures.opening)
    (ap (λ (j : Running). j.run.pending) c.start-job.ensures.opening) c.start-job.ensures.run
    c.open.new.self (c.open.ensures.of [] (c.make_room.ensures.stays.0 [] c.new-answerer.ensures.of)) (holds g (goal.at.returns-clause-turns g c).After-open)
    c.push_reserved.new.self.items (c.push_reserved.ensures.items ∙ ap (λ l. l ++ record { claim = c.in-Some-take.claim; job = c.start-job.result; answerer = c.open.new.self; at_ask = false } ∷ [])
    c.in_ok-reserve.ensures.items)

pub returns-clause-stands : goal.returns-clause-stands
returns-clause-stands g c =
    let is : c.args.waiting.now ≡ Some (c.in-Some-take.claim, c.in-Some-take.session) = sym c.take.ensures.value ∙ c.in-Some-take.is in
    let same : c.in-Some.claim ≡ c.in-Some-take.claim = same_claim c.args.waiting.now c.in-Some.claim c.in-Some-take.claim c.in-Some.field-0-1 c.in-Some-take.session c.in-Some.is is in
    let start = c.in_ok-try_clone.ensures ∙ c.start.ensures ∙ ap (λ (x : Claimed). x.start) same in
    slot_stands g.A.Answerer.answering c.args.image.now g.O.Opening.opening c.args.system.now c.args.slots.now.items c.args.order.now c.args.waiting.now c.requires.kept
    c.in-Some-take.claim c.in-Some-take.session is c.job.result c.into_parts-entry.result.0 c.into_parts-entry.result.1.items c.job.ensures.value
    (c.into_parts-entry.ensures.entry ∙ ap (λ (s : Started). s.entry) start) (c.into_parts-entry.ensures.values ∙ ap (λ (s : Started). s.values) start)
    c.start-job.result (ap (λ (j : Running). j.run.log) c.start-job.ensures.opening) (ap (λ (j : Running). j.run.spent) c.start-job.ensures.opening)
    (ap (λ (j : Running). j.run.pending) c.start-job.ensures.opening) c.start-job.ensures.run
    c.open.new.self (c.open.ensures.of [] (c.make_room.ensures.stays.0 [] c.new-answerer.ensures.of)) (holds g (goal.at.returns-clause-stands g c).After-open)
    c.push_reserved.new.self.items (c.push_reserved.ensures.items ∙ ap (λ l. l ++ record { claim = c.in-Some-take.claim; job = c.start-job.result; answerer = c.open.new.self; at_ask = false } ∷ [])
    c.in_ok-reserve.ensures.items)
