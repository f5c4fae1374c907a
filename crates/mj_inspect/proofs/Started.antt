-- How jobs started, and their last events.
use Rattle.std.proofs.Common.{◌≡◌, ℕ, zero, suc, ◌+◌, ◌<◌, ◌≤◌, ◌==◌, ◌⊎◌, true, false, List, [], ◌∷◌, ◌++◌, length, get_or, take, append-nil, append_assoc}
use Rattle.std.proofs.Common.{inl, inr, Option, Some, None, IfNone, refl, sym, ap, ◌∙◌, subst, eq-eqb, arith}
use Rattle.std.specs.Prelude.{slice_get}
use Rattle.mj_ask.specs.Started.{Started}
use Rattle.mj_ask.specs.declared.ask.Ask.{Ask}
use Rattle.mj_ask.specs.declared.ask.Reply.{Reply}
use Rattle.mj_semantics.specs.Job.{Start}
use Rattle.mj_sys.specs.declared.event.Event.{Event}
use Rattle.mj_sys.specs.History.{History}
use Rattle.mj_core.specs.Runs.{start_in}
use Rattle.mj_inspect.specs.Own.{own_event}
use Rattle.mj_load.specs.Image.{Loaded}
use Rattle.mj_inspect.specs.declared.special.Special.{Special}
use Rattle.mj_inspect.specs.Specials.{IsAmong, IsLast, IsNowhere, ShowsAt}
use Rattle.mj_inspect.specs.Waits.{numbered, reply_in, started_at, started_in, told_before}
use Rattle.mj_inspect.proofs.Following.{told_next}

-- ---- one of several

among_left : (start : Start) (xs ys : List Start) → IsAmong start xs → IsAmong start (xs ++ ys)
among_left start [] ys is = absurd is
among_left start (x ∷ xs) ys (inl is) = inl is
among_left start (x ∷ xs) ys (inr is) = inr (among_left start xs ys is)

among_right : (start : Start) (xs ys : List Start) → IsAmong start ys → IsAmong start (xs ++ ys)
among_right start [] ys is = is
among_right start (x ∷ xs) ys is = inr (among_right start xs ys is)

pub is_first : (start : Start) (xs ys : List Start) → IsAmong start xs → IsAmong start (xs ++ ys)
is_first start xs ys is = among_left start xs ys is

pub is_later : (start : Start) (xs ys : List Start) → IsAmong start ys → IsAmong start (xs ++ ys)
is_later start xs ys is = among_right start xs ys is

-- the job of a place is one of those that are numbered
among_numbered : (starts : List Started) (job k : ℕ) (start : Started) → k < length starts → get_or starts k start ≡ start
    → IsAmong (start_in (job + k) start) (numbered job starts)
among_numbered [] job k start less is = absurd (omega (arith, less))
among_numbered (s ∷ starts) job zero start less is =
    let same : job + 0 ≡ job = omega arith in
    inl (ap (λ (n : ℕ). start_in n start) same ∙ ap (start_in job) (sym is))
among_numbered (s ∷ starts) job (suc k) start less is =
    let next : (job + 1) + k ≡ job + suc k = omega arith in
    inr (subst (λ (n : ℕ). IsAmong (start_in n start) (numbered (job + 1) starts)) next (among_numbered starts (job + 1) k start (omega (arith, less)) is))

pub is_numbered : (starts : List Started) (at number : ℕ) (start : Started) → at < length starts → start ≡ get_or starts at start → number ≡ at + 1
    → IsAmong (start_in number start) (numbered 1 starts)
is_numbered starts at number start less is next =
    let same : 1 + at ≡ number = omega (arith, next) in
    subst (λ (n : ℕ). IsAmong (start_in n start) (numbered 1 starts)) same (among_numbered starts 1 at start less (sym is))

-- a job that an event started is one of those that were started
started_there : (h : History) (place at : ℕ) (start : Start) → at < place → started_at (slice_get h at) ≡ start ∷ [] → IsAmong start (started_in (take place h))
started_there [] place zero start less is = absurd cc
started_there [] place (suc at) start less is = absurd cc
started_there (e ∷ h) zero at start less is = absurd (omega (arith, less))
started_there (e ∷ h) (suc place) zero start less is =
    subst (λ (l : List Start). IsAmong start (l ++ started_in (take place h))) (sym is) (inl refl)
started_there (e ∷ h) (suc place) (suc at) start less is =
    among_right start (started_at (Some e)) (started_in (take place h)) (started_there h place at start (omega (arith, less)) is)

pub is_started : (h : History) (place at : ℕ) (start : Start) → at < place → started_at (slice_get h at) ≡ start ∷ [] → IsAmong start (started_in (take place h))
is_started h place at start less is = started_there h place at start less is

-- ---- none of several

-- those that are numbered have numbers from the first on, one for each
among_bounds : (starts : List Started) (job number : ℕ) (start : Started) → IsAmong (start_in number start) (numbered job starts)
    → (job ≤ number) × (number < job + length starts)
among_bounds [] job number start is = absurd is
among_bounds (s ∷ starts) job number start (inl is) = let same : number ≡ job = ap (λ (s : Start). s.job) is in (omega (arith, same), omega (arith, same))
among_bounds (s ∷ starts) job number start (inr is) =
    let rest = among_bounds starts (job + 1) number start is in
    (omega (arith, rest.0), omega (arith, rest.1))

pub nowhere_zero : (starts : List Started) (number : ℕ) → number ≡ 0 → IsNowhere number (numbered 1 starts)
nowhere_zero starts number none start is = let bounds = among_bounds starts 1 number start is in omega (arith, bounds.0, none)

pub nowhere_past : (starts : List Started) (number at : ℕ) → number ≡ at + 1 → length starts ≤ at → IsNowhere number (numbered 1 starts)
nowhere_past starts number at next past start is = let bounds = among_bounds starts 1 number start is in omega (arith, bounds.1, next, past)

among_either : (start : Start) (xs ys : List Start) → IsAmong start (xs ++ ys) → IsAmong start xs ⊎ IsAmong start ys
among_either start [] ys is = inr is
among_either start (x ∷ xs) ys (inl is) = inl (inl is)
among_either start (x ∷ xs) ys (inr is) = by (among_either start xs ys is)
  where
    by : IsAmong start xs ⊎ IsAmong start ys → IsAmong start (x ∷ xs) ⊎ IsAmong start ys
    by (inl here) = inl (inr here)
    by (inr there) = inr there

pub nowhere_both : (number : ℕ) (xs ys : List Start) → IsNowhere number xs → IsNowhere number ys → IsNowhere number (xs ++ ys)
nowhere_both number xs ys first second start is = by (among_either (start_in number start) xs ys is)
  where
    by : IsAmong (start_in number start) xs ⊎ IsAmong (start_in number start) ys → ⊥
    by (inl here) = first start here
    by (inr there) = second start there

-- of neither kind
pub nowhere_found : {A : Type 0} (found : Option A) (number : ℕ) (xs ys : List Start) → IsNowhere number xs → IfNone found (IsNowhere number ys)
    → IfNone found (IsNowhere number (xs ++ ys))
nowhere_found None number xs ys first second = nowhere_both number xs ys first second
nowhere_found (Some x) number xs ys first second = tt

-- another job is none
pub nowhere_other : (number job : ℕ) (start : Started) → (job == number) ≡ false → IsNowhere number (start_in job start ∷ [])
nowhere_other number job start off other (inl is) =
    let same : number ≡ job = ap (λ (s : Start). s.job) is in
    let on : (job == number) ≡ true = eq-eqb job number (sym same) in
    absurd (let no : true ≡ false = sym on ∙ off in cc)
nowhere_other number job start off other (inr is) = is

pub nowhere_nothing : (number : ℕ) → IsNowhere number []
nowhere_nothing number start is = is

-- before the first event none was started
pub nowhere_first : (number : ℕ) (h : History) → IsNowhere number (started_in (take 0 h))
nowhere_first number [] start is = is
nowhere_first number (e ∷ h) start is = is

started_more : (h : History) (at : ℕ) → started_in (take (suc at) h) ≡ started_in (take at h) ++ started_at (slice_get h at)
started_more [] zero = refl
started_more [] (suc at) = refl
started_more (e ∷ h) zero = append-nil (started_at (Some e))
started_more (e ∷ h) (suc at) =
    ap (λ (l : List Start). started_at (Some e) ++ l) (started_more h at)
    ∙ sym (append_assoc (started_at (Some e)) (started_in (take at h)) (started_at (slice_get h at)))

-- one event more starts none
pub nowhere_next : (number : ℕ) (h : History) (at : ℕ) → IsNowhere number (started_in (take at h)) → IsNowhere number (started_at (slice_get h at))
    → IsNowhere number (started_in (take (at + 1) h))
nowhere_next number h at before here =
    let next : suc at ≡ at + 1 = omega arith in
    subst (λ (n : ℕ). IsNowhere number (started_in (take n h))) next
    (subst (λ (l : List Start). IsNowhere number l) (sym (started_more h at)) (nowhere_both number (started_in (take at h)) (started_at (slice_get h at)) before here))

-- ---- the last event

pub last_here : (job : ℕ) (h : History) (at : ℕ) (own : Option (Ask × Reply)) (a : Ask) (reply : Reply) → Some (a, reply) ≡ own → own ≡ own_event job (slice_get h at)
    → IsLast job h (at + 1) (Some at)
last_here job h at own a reply is found =
    (reply, told_next job h at ∙ ap (λ (own : Option (Ask × Reply)). told_before job h at ++ reply_in own) (sym (is ∙ found)))

told_same : (job : ℕ) (h : History) (at : ℕ) → None ≡ own_event job (slice_get h at) → told_before job h (at + 1) ≡ told_before job h at
told_same job h at none =
    told_next job h at ∙ ap (λ (own : Option (Ask × Reply)). told_before job h at ++ reply_in own) (sym none) ∙ append-nil (told_before job h at)

pub last_before : (job : ℕ) (h : History) (at : ℕ) (last : Option ℕ) → None ≡ own_event job (slice_get h at) → IsLast job h at last → IsLast job h (at + 1) last
last_before job h at None none is = told_same job h at none ∙ is
last_before job h at (Some last) none is = (is.0, told_same job h at none ∙ is.1)

pub last_first : (job : ℕ) (h : History) → IsLast job h 0 None
last_first job [] = refl
last_first job (e ∷ h) = refl

-- ---- what is shown there

pub shown_at : (image : Loaded) (h : History) (start : Start) (special : Special) (last other : Option ℕ) (bytes : List ℕ) → last ≡ other
    → ShowsAt image h start special other bytes → ShowsAt image h start special last bytes
shown_at image h start special last other bytes same shows = subst (λ (l : Option ℕ). ShowsAt image h start special l bytes) (sym same) shows
