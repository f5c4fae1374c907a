-- Where frames stand of which the innermost lies last, and the calls that are told of them.
use Rattle.std.proofs.Common.{◌≡◌, ℕ, suc, ◌+◌, ◌-◌, ◌≤◌, ◌<◌, List, [], ◌∷◌, ◌++◌, length, take, get_or, map, reverse, Result, Ok, Err, OnOk, sym, ap, ◌∙◌, subst, arith, append_assoc}
use Rattle.std.proofs.lemmas.List.{reverse-append, map-append, take_all, take_more}
use Rattle.mj_ast.specs.declared.routine.Routine.{Routine}
use Rattle.mj_semantics.specs.State as states
use Rattle.mj_frames.specs.declared.frame.Frame.{Frame}
use Rattle.mj_frames.specs.Frames.{frame_of, place_of}
use Rattle.mj_faulted.specs.Framed.{places_of}
use Rattle.mj_faulted.specs.Stories.{call_text, calls_text, calls_below, calls_most}

pub places_last : (below : List Frame) (innermost : Frame) → places_of (below ++ innermost ∷ []) ≡ place_of innermost.place ∷ places_of below
places_last below innermost =
    ap (λ (frames : List states.Frame). map (λ f. f.place) (reverse frames)) (map-append frame_of below (innermost ∷ []))
    ∙ ap (λ (frames : List states.Frame). map (λ f. f.place) frames) (reverse-append (map frame_of below) (frame_of innermost ∷ []))

-- a list by its last element and those before it
cut_last : (xs : List Frame) (d : Frame) → 1 ≤ length xs → take (length xs - 1) xs ++ get_or xs (length xs - 1) d ∷ [] ≡ xs
cut_last xs d some =
    sym (take_more xs (length xs - 1) d (omega (arith, some)))
    ∙ ap (λ (k : ℕ). take k xs) (let e : length xs - 1 + 1 ≡ length xs = omega (arith, some) in e) ∙ take_all (length xs) xs (omega arith)

places_split : (xs : List Frame) (d : Frame) → 1 ≤ length xs
    → places_of xs ≡ place_of (get_or xs (length xs - 1) d).place ∷ places_of (take (length xs - 1) xs)
places_split xs d some = ap places_of (sym (cut_last xs d some)) ∙ places_last (take (length xs - 1) xs) (get_or xs (length xs - 1) d)

-- the frames below
pub below_on : {A E : Type 0} (r : Result A E) (routines : List Routine) (sources : List (List ℕ × List ℕ)) (frames : List Frame) (old new : List ℕ) → 1 ≤ length frames
    → OnOk r (new ≡ old ++ calls_text routines sources calls_most (places_of (take (length frames - 1) frames)))
    → OnOk r (new ≡ old ++ calls_below routines sources (places_of frames))
below_on r routines sources [] old new some h = absurd (omega (arith, some))
below_on r routines sources (f ∷ fs) old new some h =
    subst (λ (ps : List states.Place). OnOk r (new ≡ old ++ calls_below routines sources ps)) (sym (places_split (f ∷ fs) f some)) h

-- one call more
pub call_on : {A E : Type 0} (r : Result A E) (routines : List Routine) (sources : List (List ℕ × List ℕ)) (frames : List Frame) (innermost : Frame) (most : ℕ)
    (old mid new : List ℕ) → 1 ≤ length frames → innermost ≡ get_or frames (length frames - 1) innermost → 1 ≤ most
    → mid ≡ old ++ call_text routines sources (place_of innermost.place)
    → OnOk r (new ≡ mid ++ calls_text routines sources (most - 1) (places_of (take (length frames - 1) frames)))
    → OnOk r (new ≡ old ++ calls_text routines sources most (places_of frames))
call_on (Err refused) routines sources frames innermost most old mid new some is more h k = tt
call_on (Ok done) routines sources frames innermost most old mid new some is more h k =
    let rest : List ℕ = calls_text routines sources (most - 1) (places_of (take (length frames - 1) frames)) in
    let split : places_of frames ≡ place_of innermost.place ∷ places_of (take (length frames - 1) frames) =
    places_split frames innermost some
    ∙ ap (λ (f : Frame). place_of f.place ∷ places_of (take (length frames - 1) frames)) (sym is) in
    let e : suc (most - 1) ≡ most = omega (arith, more) in
    let whole : calls_text routines sources most (places_of frames) ≡ call_text routines sources (place_of innermost.place) ++ rest =
    ap (λ (n : ℕ). calls_text routines sources n (places_of frames)) (sym e)
    ∙ ap (λ (ps : List states.Place). calls_text routines sources (suc (most - 1)) ps) split in
    k ∙ ap (λ (t : List ℕ). t ++ rest) h ∙ append_assoc old (call_text routines sources (place_of innermost.place)) rest
    ∙ ap (λ (t : List ℕ). old ++ t) (sym whole)
