-- A fault that was found, or wasn't.
use Rattle.std.proofs.Common.{◌≡◌, ℕ, List, ◌++◌, Result, Ok, Err, OnOk, IfSome, Option, Some, None, inl, inr, refl, ap, ◌∙◌, subst}
use Rattle.mj_text.specs.declared.fault.Fault.{Fault}
use Rattle.mj_ask.specs.declared.ask.Reply.{Reply}
use Rattle.mj_ask.specs.declared.entry.Entry.{Entry}
use Rattle.mj_ask.specs.Started.{Started}
use Rattle.mj_load.specs.Image.{Loaded}
use Rattle.mj_machine.specs.Standing.{Standing}
use Rattle.mj_machine.specs.Kept.{standing}
use Rattle.mj_turn.specs.declared.start.Start as openings
use Rattle.mj_turn.specs.Starts.{start_of}
use Rattle.mj_faulted.specs.declared.fault.Fall.{Fall}
use Rattle.mj_faulted.specs.Stands.{FaultsAt}
use Rattle.mj_faulted.specs.Stories.{story_text, lost_text}
use Rattle.mj_faulted.specs.Told.{AddsStory, begun, found_text}

module _ (image : Loaded) (sources : List (List ℕ × List ℕ)) (start : Started) (replies : List Reply) (job : ℕ) (fault : Fault) (old new : List ℕ) where
  -- its parts are those of the start
  found_so : (j : ℕ) (entry : Entry) (values : List (Option (List ℕ))) (at fallen : Standing) → j ≡ job → entry ≡ start.entry → values ≡ start.values
      → FaultsAt image (record { job = j; entry = entry; values = values }) replies fault at fallen → FaultsAt image (begun job start) replies fault at fallen
  found_so j entry values at fallen n e v h =
      subst (λ (x : ℕ). FaultsAt image (record { job = x; entry = start.entry; values = start.values }) replies fault at fallen) n
      (subst (λ (x : Entry). FaultsAt image (record { job = j; entry = x; values = start.values }) replies fault at fallen) e
      (subst (λ (x : List (Option (List ℕ))). FaultsAt image (record { job = j; entry = entry; values = x }) replies fault at fallen) v h))

  pub adds_text : {A E : Type 0} (r : Result A E) (opening : openings.Start) (found : Option Fall) (entry : Entry)
      → opening.job ≡ job → opening.entry ≡ start.entry → opening.values.items ≡ start.values → entry ≡ start.entry
      → IfSome found (λ f. FaultsAt image (start_of opening) replies fault (standing f.before None) (standing f.fallen None))
      → OnOk r (new ≡ old ++ found_text image sources job fault entry found) → OnOk r (AddsStory image sources start replies job fault old new)
  adds_text (Err refused) opening found entry n e v s h k = tt
  adds_text (Ok done) opening None entry n e v s h k = (lost_text job fault, inr refl, k)
  adds_text (Ok done) opening (Some f) entry n e v s h k = (
    story_text image sources job fault start.entry (standing f.before None) (standing f.fallen None),
    inl (
      standing f.before None,
      standing f.fallen None,
      found_so opening.job opening.entry opening.values.items (standing f.before None) (standing f.fallen None) n e v h,
      refl,
    ),
    k ∙ ap (λ (x : Entry). old ++ story_text image sources job fault x (standing f.before None) (standing f.fallen None)) s,
  )
