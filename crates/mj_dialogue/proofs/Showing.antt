-- Lines of what stands at a place, one behind the other.
use Rattle.std.proofs.Common.{◌≡◌, ℕ, zero, suc, ◌+◌, ◌<◌, ◌≤◌, List, [], ◌∷◌, ◌++◌, map, reverse, length, get_or, drop, drop-cons, refl, sym, ap, ◌∙◌, subst, append_assoc, append-nil, arith}
use Rattle.std.proofs.lemmas.List.{reverse-append, map-append}
use Rattle.mj_subs.specs.Name.{Name}
use Rattle.mj_semantics.specs.State.{Place, Frame}
use Rattle.mj_frames.specs.declared.frame.Frame as kept
use Rattle.mj_frames.specs.Frames.{frame_of, frames_of}
use Rattle.mj_locktab.specs.Locks.{Locks, job_of, name_of}
use Rattle.mj_dialogue.specs.Lines.{spot_line, spot_lines, held_line, held_lines}

-- ---- frames

-- the lines of frames that lie with the innermost last
abbrev pub framed : List kept.Frame → List ℕ
framed frames = spot_lines (map (λ f. f.place) (frames_of frames))

pub framed_last : (front : List kept.Frame) (f : kept.Frame) → framed (front ++ f ∷ []) ≡ spot_line f.place.routine f.place.line ++ framed front
framed_last front f =
    let all : frames_of (front ++ f ∷ []) ≡ frame_of f ∷ frames_of front =
    ap reverse (map-append frame_of front (f ∷ [])) ∙ reverse-append (map frame_of front) (frame_of f ∷ []) in
    ap (λ (l : List Frame). spot_lines (map (λ f. f.place) l)) all

-- the line of the last frame is put behind those that were put
pub framed_on : (lines bytes new : List ℕ) (frames front : List kept.Frame) (f : kept.Frame)
    → lines ≡ bytes ++ framed frames → frames ≡ front ++ f ∷ [] → new ≡ bytes ++ spot_line f.place.routine f.place.line → lines ≡ new ++ framed front
framed_on lines bytes new frames front f all cut put =
    all
    ∙ ap (λ (l : List kept.Frame). bytes ++ framed l) cut
    ∙ ap (λ (l : List ℕ). bytes ++ l) (framed_last front f)
    ∙ sym (append_assoc bytes (spot_line f.place.routine f.place.line) (framed front))
    ∙ ap (λ (l : List ℕ). l ++ framed front) (sym put)

pub framed_all : (lines bytes : List ℕ) (frames : List kept.Frame) → lines ≡ bytes ++ framed frames → length frames ≡ 0 → bytes ≡ lines
framed_all lines bytes [] all none = sym (all ∙ append-nil bytes)
framed_all lines bytes (f ∷ frames) all none = absurd (omega (arith, none))

-- ---- names that are held

-- the lines of names that are held, of which each has its job and its count
abbrev pub listed : List (ℕ × Name × ℕ) → List ℕ
listed [] = []
listed (held ∷ rest) = held_line held.0 held.1 held.2 ++ listed rest

pub listed_held : (locks : Locks) → listed (map (λ e. (job_of e.0, name_of e.0, e.1)) locks) ≡ held_lines locks
listed_held [] = refl
listed_held (held ∷ locks) = ap (λ (x : List ℕ). held_line (job_of held.0) (name_of held.0) held.1 ++ x) (listed_held locks)

pub listed_on : (lines bytes new : List ℕ) (list : List (ℕ × Name × ℕ)) (i : ℕ) (held : ℕ × Name × ℕ)
    → lines ≡ bytes ++ listed (drop i list) → i < length list → held ≡ get_or list i held → new ≡ bytes ++ held_line held.0 held.1 held.2
    → lines ≡ new ++ listed (drop (i + 1) list)
listed_on lines bytes new list i held all less is put =
    let next : suc i ≡ i + 1 = omega arith in
    let cut : drop i list ≡ held ∷ drop (i + 1) list =
    drop-cons list i held less ∙ ap (λ (h : ℕ × Name × ℕ). h ∷ drop (suc i) list) (sym is) ∙ ap (λ (n : ℕ). held ∷ drop n list) next in
    all
    ∙ ap (λ (l : List (ℕ × Name × ℕ)). bytes ++ listed l) cut
    ∙ sym (append_assoc bytes (held_line held.0 held.1 held.2) (listed (drop (i + 1) list)))
    ∙ ap (λ (l : List ℕ). l ++ listed (drop (i + 1) list)) (sym put)

dropped : (list : List (ℕ × Name × ℕ)) (i : ℕ) → length list ≤ i → drop i list ≡ []
dropped [] zero far = refl
dropped [] (suc i) far = refl
dropped (held ∷ list) zero far = absurd (omega (arith, far))
dropped (held ∷ list) (suc i) far = dropped list i (omega (arith, far))

pub listed_all : (lines bytes : List ℕ) (list : List (ℕ × Name × ℕ)) (i : ℕ) → lines ≡ bytes ++ listed (drop i list) → length list ≤ i → bytes ≡ lines
listed_all lines bytes list i all far =
    sym (all ∙ ap (λ (l : List (ℕ × Name × ℕ)). bytes ++ listed l) (dropped list i far) ∙ append-nil bytes)
