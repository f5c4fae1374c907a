-- What is kept beside each other stays together: the sessions of a pool, their holders and the rows.
use Rattle.std.proofs.Common.{◌≡◌, ℕ, zero, suc, ◌+◌, ◌-◌, ◌<◌, ◌≤◌, Bool, true, false, cond, List, [], ◌∷◌, length, map, replicate, Option, Some, None, refl, sym, ap, ◌∙◌, subst, arith}
use Rattle.std.specs.List.{find}
use Rattle.std.specs.Str.{bytes_eq}
use Rattle.std.proofs.lemmas.Slice.Eq.{bytes_eq-Decides}
use Rattle.mj_ask.specs.Started.{Started}
use Rattle.mj_dev.specs.Shelves.{Shelf, is_named, one_taken, after_take, left_of, principal}
use Rattle.std.specs.Prelude.{slice_get, slice_set}
use Rattle.std.specs.Option.{IfSome}
use Rattle.std.proofs.lemmas.Option.{slice_get_within}
use Rattle.std.proofs.lemmas.List.{length-set, length-map, length-replicate}
use Rattle.mj_jobs.specs.Rows.{Row, Rows, row_at, opened, with_ended}
use Rattle.mj_sys.specs.Devices.{Device, Devices, device_at, sessions_of}
use Rattle.mj_sys.specs.Opening.{device_of}
use Rattle.mj_sys.specs.Kept.{devices_of, AreTogether}

abbrev sessions_in : Option Device → ℕ
sessions_in o = elim o [ None ↦ 0 | Some d ↦ d.sessions ]

-- two devices in the same place with as many sessions, where they are looked for
at_first : (b : Bool) (d d' : Device) (rest rest' : Option Device) → (b ≡ true → d.sessions ≡ d'.sessions) → sessions_in rest ≡ sessions_in rest'
    → sessions_in (cond b (Some d) rest) ≡ sessions_in (cond b (Some d') rest')
at_first true d d' rest rest' first other = first refl
at_first false d d' rest rest' first other = other

-- how many sessions a name has doesn't depend on who holds them
sessions_same : (p : ℕ) (name : List ℕ) (shelves : List Shelf) (holders holders' : List (Option ℕ)) → length holders ≡ length holders'
    → sessions_of (devices_of p shelves holders) name ≡ sessions_of (devices_of p shelves holders') name
sessions_same p name [] holders holders' same = refl
sessions_same p name (s ∷ shelves) [] [] same = refl
sessions_same p name (s ∷ shelves) [] (k ∷ holders') same = absurd (let no : ⊥ = omega (arith, same) in no)
sessions_same p name (s ∷ shelves) (k ∷ holders) [] same = absurd (let no : ⊥ = omega (arith, same) in no)
sessions_same p name (s ∷ shelves) (k ∷ holders) (k' ∷ holders') same =
    at_first (bytes_eq s.name name) (device_of p s k) (device_of p s k') (device_at (devices_of p shelves holders) name) (device_at (devices_of p shelves holders') name)
    (λ _. refl) (sessions_same p name shelves holders holders' (omega (arith, same)))

-- there are as many principal sessions, whichever was taken
sessions_taken : (p : ℕ) (name : List ℕ) (shelves : List Shelf) (holders : List (Option ℕ))
    → sessions_of (devices_of p (after_take name shelves) holders) principal ≡ sessions_of (devices_of p shelves holders) principal
sessions_taken p name [] holders = refl
sessions_taken p name (s ∷ shelves) [] = none_of (is_named name s) where
  none_of : (b : Bool) → sessions_of (devices_of p (cond b (one_taken s ∷ shelves) (s ∷ after_take name shelves)) []) principal ≡ 0
  none_of true = refl
  none_of false = refl
sessions_taken p name (s ∷ shelves) (k ∷ holders) = one_of (is_named name s) (sessions_taken p name shelves holders) where
  one_of : (b : Bool) → sessions_of (devices_of p (after_take name shelves) holders) principal ≡ sessions_of (devices_of p shelves holders) principal
      → sessions_of (devices_of p (cond b (one_taken s ∷ shelves) (s ∷ after_take name shelves)) (k ∷ holders)) principal
      ≡ sessions_of (devices_of p (s ∷ shelves) (k ∷ holders)) principal
  one_of true rest =
      let found = device_at (devices_of p shelves holders) principal in
      at_first (bytes_eq s.name principal) (device_of p (one_taken s) k) (device_of p s k) found found
      (λ is. ap (λ b. cond b p ((s.left - 1) + (s.taken + 1))) is ∙ sym (ap (λ b. cond b p (s.left + s.taken)) is)) refl
  one_of false rest =
      at_first (bytes_eq s.name principal) (device_of p s k) (device_of p s k) (device_at (devices_of p (after_take name shelves) holders) principal)
      (device_at (devices_of p shelves holders) principal) (λ _. refl) rest

abbrev left_in : Option Shelf → ℕ
left_in o = elim o [ None ↦ 0 | Some s ↦ s.left ]

-- a session of a name less
left_less : (name : List ℕ) (shelves : List Shelf) → left_of name (after_take name shelves) ≡ left_of name shelves - 1
left_less name [] = refl
left_less name (s ∷ shelves) = by_name (is_named name s) refl (left_less name shelves) where
  by_name : (b : Bool) → is_named name s ≡ b → left_of name (after_take name shelves) ≡ left_of name shelves - 1
      → left_of name (cond b (one_taken s ∷ shelves) (s ∷ after_take name shelves)) ≡ left_in (cond b (Some s) (find (is_named name) shelves)) - 1
  by_name true is rest = ap (λ b. left_in (cond b (Some (one_taken s)) (find (is_named name) shelves))) is
  by_name false is rest = ap (λ b. left_in (cond b (Some s) (find (is_named name) (after_take name shelves)))) is ∙ rest

-- and of the other names as many
left_other : (name other : List ℕ) (shelves : List Shelf) → bytes_eq name other ≡ false → left_of other (after_take name shelves) ≡ left_of other shelves
left_other name other [] apart = refl
left_other name other (s ∷ shelves) apart = by_name (is_named name s) refl (left_other name other shelves apart) where
  by_name : (b : Bool) → is_named name s ≡ b → left_of other (after_take name shelves) ≡ left_of other shelves
      → left_of other (cond b (one_taken s ∷ shelves) (s ∷ after_take name shelves)) ≡ left_of other (s ∷ shelves)
  by_name true is rest =
      let not_it : bytes_eq s.name other ≡ false = ap (λ n. bytes_eq n other) ((bytes_eq-Decides s.name name).0 is) ∙ apart in
      ap (λ b. left_in (cond b (Some (one_taken s)) (find (is_named other) shelves))) not_it
      ∙ sym (ap (λ b. left_in (cond b (Some s) (find (is_named other) shelves))) not_it)
  by_name false is rest = here (bytes_eq s.name other) rest where
    here : (b : Bool) → left_of other (after_take name shelves) ≡ left_of other shelves
        → left_in (cond b (Some s) (find (is_named other) (after_take name shelves))) ≡ left_in (cond b (Some s) (find (is_named other) shelves))
    here true rest = refl
    here false rest = rest

length_taken : (name : List ℕ) (shelves : List Shelf) → length (after_take name shelves) ≡ length shelves
length_taken name [] = refl
length_taken name (s ∷ shelves) = by_name (is_named name s) (length_taken name shelves) where
  by_name : (b : Bool) → length (after_take name shelves) ≡ length shelves → length (cond b (one_taken s ∷ shelves) (s ∷ after_take name shelves)) ≡ length (s ∷ shelves)
  by_name true rest = refl
  by_name false rest = ap suc rest

-- other holders
pub with_holders : (p : ℕ) (shelves : List Shelf) (holders holders' : List (Option ℕ)) (jobs : Rows) → AreTogether p shelves holders jobs
    → length holders' ≡ length holders → AreTogether p shelves holders' jobs
with_holders p shelves holders holders' jobs together same = record {
  placed = same ∙ together.placed;
  sessions = together.sessions;
  known = sessions_same p principal shelves holders' holders same ∙ together.known;
  room = together.room;
}

-- a session of another name than the principal one is taken
pub with_session : (p : ℕ) (name : List ℕ) (shelves : List Shelf) (holders holders' : List (Option ℕ)) (jobs : Rows) → AreTogether p shelves holders jobs
    → length holders' ≡ length holders → bytes_eq name principal ≡ false → AreTogether p (after_take name shelves) holders' jobs
with_session p name shelves holders holders' jobs together same apart =
    let t = with_holders p shelves holders holders' jobs together same in
    record {
      placed = t.placed ∙ sym (length_taken name shelves);
      sessions = ap (λ n. n + jobs.claimed) (left_other name principal shelves apart) ∙ t.sessions;
      known = sessions_taken p name shelves holders' ∙ t.known;
      room = t.room;
    }

-- a row is claimed, and its job's principal session taken
pub with_claim : (p : ℕ) (shelves : List Shelf) (holders : List (Option ℕ)) (jobs jobs' : Rows) → AreTogether p shelves holders jobs
    → 0 < left_of principal shelves → jobs'.rows ≡ jobs.rows → jobs'.claimed ≡ jobs.claimed + 1 → AreTogether p (after_take principal shelves) holders jobs'
with_claim p shelves holders jobs jobs' together some rows claimed = record {
  placed = together.placed ∙ sym (length_taken principal shelves);
  sessions = let e = left_less principal shelves in let f = together.sessions in omega (arith, e, f, some, claimed);
  known = sessions_taken p principal shelves holders ∙ together.known;
  room = subst (λ r. length r ≤ p) (sym rows) together.room;
}

-- other rows, as many
pub with_rows : (p : ℕ) (shelves : List Shelf) (holders : List (Option ℕ)) (jobs jobs' : Rows) → AreTogether p shelves holders jobs
    → length jobs'.rows ≡ length jobs.rows → jobs'.claimed ≡ jobs.claimed → AreTogether p shelves holders jobs'
with_rows p shelves holders jobs jobs' together rows claimed = record {
  placed = together.placed;
  sessions = ap (λ n. left_of principal shelves + n) claimed ∙ together.sessions;
  known = together.known;
  room = subst (λ n. n ≤ p) (sym rows) together.room;
}

-- the end of a job leaves as many rows
pub length-ended : (rows : List Row) (job : ℕ) → length (with_ended rows job) ≡ length rows
length-ended rows zero = refl
length-ended rows (suc k) = of (slice_get rows k) where
  of : (found : Option Row) → length {A = Row} (elim found as (λ _. List Row) [ None ↦ rows | Some row ↦ slice_set rows k (record row { ended = true }) ]) ≡ length rows
  of None = refl
  of (Some row) = length-set rows k (record row { ended = true })

-- the beginning
principals_of : (p : ℕ) (shelves : List Shelf) → sessions_of (devices_of p shelves (replicate (length shelves) None)) principal
    ≡ elim (find (is_named principal) shelves) as (λ _. ℕ) [ None ↦ 0 | Some s ↦ p ]
principals_of p [] = refl
principals_of p (s ∷ shelves) = by_name (bytes_eq s.name principal) refl (principals_of p shelves) where
  rest : Devices
  rest = devices_of p shelves (replicate (length shelves) None)

  by_name : (b : Bool) → bytes_eq s.name principal ≡ b
      → sessions_of rest principal ≡ elim (find (is_named principal) shelves) as (λ _. ℕ) [ None ↦ 0 | Some s ↦ p ]
      → sessions_in (cond b (Some (device_of p s None)) (device_at rest principal))
      ≡ elim (cond b (Some s) (find (is_named principal) shelves)) as (λ _. ℕ) [ None ↦ 0 | Some s ↦ p ]
  by_name true is next = ap (λ b. cond b p (s.left + s.taken)) is
  by_name false is next = next

pub at_first_together : (shelves : List Shelf) (starts : List Started) → length starts ≤ left_of principal shelves
    → AreTogether (left_of principal shelves) shelves (replicate (length shelves) None) (record { rows = map opened starts; claimed = 0 })
at_first_together shelves starts fits = record {
  placed = length-replicate (length shelves) None;
  sessions = let p = left_of principal shelves in let e : p + 0 ≡ p = omega arith in e;
  known = principals_of (left_of principal shelves) shelves ∙ same (find (is_named principal) shelves);
  room = subst (λ n. n ≤ left_of principal shelves) (sym (length-map starts opened)) fits;
} where
  same : (o : Option Shelf) → elim o as (λ _. ℕ) [ None ↦ 0 | Some s ↦ left_in o ] ≡ left_in o
  same None = refl
  same (Some s) = refl

-- a row that isn't claimed is within the rows
pub row_within : (rows : List Row) (job n : ℕ) (row : Row) → job ≡ n + 1 → row_at rows job ≡ Some row → n < length rows
row_within rows zero n row is there = absurd (let no : ⊥ = cc in no)
row_within rows (suc k) n row is there = let below = slice_get_within rows k row there in omega (arith, is, below)

-- what holds where there is something holds of it
pub some_is : {A : Type 0} (o : Option A) (x : A) (P : A → Type 0) → o ≡ Some x → IfSome o P → P x
some_is o x P is holds = subst (λ u. IfSome u P) is holds
