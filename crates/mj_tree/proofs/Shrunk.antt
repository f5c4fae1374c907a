-- A row of which places are taken at its ends, and one that grows by a child.
use Rattle.std.proofs.Common.{◌≡◌, ℕ, zero, suc, ◌+◌, ◌-◌, ◌<◌, ◌≤◌, ℤ, pos, ◌+ℤ◌, Bool, true, false, ◌↔◌, List, [], ◌∷◌, ◌++◌, length, drop, get_or, Option, Some, None, refl, sym, ap, ◌∙◌, subst, arith}
use Rattle.std.specs.Prelude.{T, ◌≤ℤ◌, ◌==◌, IsTrue, MatchOption}
use Rattle.std.specs.Option.{option_to_list}
use Rattle.std.proofs.lemmas.Int.{ints}
use Rattle.std.specs.FinMap.Entries.{below_all}
use Rattle.std.specs.BTreeMap.{insert_entry}
use Rattle.mj_num.specs.Number.{number_of, IsInRange}
use Rattle.mj_subs.specs.Collation.{subscript_cmp}
use Rattle.mj_store.specs.Questions.{Subtree}
use Rattle.mj_tree.specs.Rows.{IsNumber, IsRow, IsEnd, IsAhead, live, IsOrdered, IsTrimmed}
use Rattle.mj_tree.proofs.Copies.{joined}
use Rattle.mj_tree.proofs.Places.{trimmed_front, trimmed_pushed}
use Rattle.mj_tree.proofs.Numbers.{bounded}
use Rattle.mj_tree.proofs.Kills.{some_node}
use Rattle.mj_tree.proofs.Added.{no_items}
use Rattle.mj_tree.proofs.Growth.{IsLonger, IsLongerAhead, longer_behind, longer_ahead, pushed, live_pushed, live_hole, fronted, live_fronted, live_hole_front, front_gone, back_gone, moved, moved_ordered}

abbrev Places : Type 0
Places = List (List ℕ × Subtree)

-- sound children that hold what others did
abbrev pub IsAsSound : Places → Places → Places → Type 0
IsAsSound new others all = (IsOrdered new others × IsTrimmed new) × (live (new ++ others) ≡ live all)

-- ---- at the front

pub trimmed_told : (row : Places) (x : List ℕ × Subtree) → x ≡ get_or row 0 x → (x.1 ≡ [] → ⊥) → IsTrimmed row
trimmed_told [] x at some = tt
trimmed_told (k ∷ ks) x at some = subst (λ (e : List ℕ × Subtree). 0 < length e.1) at (some_node x.1 some)

pub trimmed_none : (row : Places) → length row ≡ 0 → IsTrimmed row
trimmed_none [] none = tt
trimmed_none (k ∷ ks) none = absurd (omega arith)

pub front_taken : (row new others : Places) (x : List ℕ × Subtree) → IsOrdered row others → 0 < length row → new ≡ drop 1 row → x ≡ get_or row 0 x → x.1 ≡ []
    → IsOrdered new others × (live (new ++ others) ≡ live (row ++ others))
front_taken [] new others x o some is at none = absurd (omega arith)
front_taken (k ∷ ks) new others x o some is at none =
    subst (λ (r : Places). IsOrdered r others × (live (r ++ others) ≡ live ((k ∷ ks) ++ others))) (sym is)
    (front_gone k ks others o, sym (live_hole_front k.0 k.1 ks others (sym (ap (λ (e : List ℕ × Subtree). e.1) at) ∙ none)))

-- ---- at the back

pub back_taken : (row new others : Places) (r : Option (List ℕ × Subtree)) (x : List ℕ × Subtree) → IsOrdered row others → IsTrimmed row → row ≡ new ++ option_to_list r → r ≡ Some x → x.1 ≡ []
    → IsAsSound new others (row ++ others)
back_taken row new others r x o trimmed split found none =
    let is : row ≡ new ++ x ∷ [] = split ∙ ap (λ (y : Option (List ℕ × Subtree)). new ++ option_to_list y) found in (
      (back_gone x new others (subst (λ (xs : Places). IsOrdered xs others) is o), trimmed_front new (x ∷ []) (subst IsTrimmed is trimmed)),
      sym (ap (λ (xs : Places). live (xs ++ others)) is ∙ live_hole x.0 x.1 new others none),
    )

-- the last of a row went to the others
pub spilled_one : (row new others es : Places) (s : List ℕ) (c : Subtree) → IsOrdered row others → IsTrimmed row → row ≡ new ++ (s, c) ∷ [] → (c ≡ [] → ⊥) → es ≡ insert_entry subscript_cmp others s c
    → IsAsSound new es (row ++ others)
spilled_one row new others es s c o trimmed is some put =
    let same : IsOrdered (new ++ (s, c) ∷ []) others = subst (λ (xs : Places). IsOrdered xs others) is o in
    let first : es ≡ (s, c) ∷ others = put ∙ moved s c new others same in (
      (subst (λ (xs : Places). IsOrdered new xs) (sym first) (moved_ordered s c new others same (some_node c some)), trimmed_front new ((s, c) ∷ []) (subst IsTrimmed is trimmed)),
      ap (λ (xs : Places). live (new ++ xs)) first ∙ sym (ap (λ (xs : Places). live (xs ++ others)) is ∙ ap (λ (xs : Places). live xs) (joined new ((s, c) ∷ []) others)),
    )

-- it came back where memory was refused
pub spilled_none : (row new back others es : Places) (x y : List ℕ × Subtree) → IsOrdered row others → IsTrimmed row → row ≡ new ++ x ∷ [] → back ≡ new ++ y ∷ [] → y ≡ x → es ≡ others
    → IsAsSound back es (row ++ others)
spilled_none row new back others es x y o trimmed is again same kept =
    let whole : back ≡ row = again ∙ ap (λ (e : List ℕ × Subtree). new ++ e ∷ []) same ∙ sym is in
    subst (λ (p : Places × Places). IsAsSound p.0 p.1 (row ++ others)) (sym (λ i. (whole i, kept i))) ((o, trimmed), refl)

pub whole_back : (row others back es all : Places) → IsAsSound back es (row ++ others) → live (row ++ others) ≡ live all → IsAsSound back es all
whole_back row others back es all h same = (h.0, h.1 ∙ same)

-- ---- a child that is put at an end

pub end_at : (row : Places) (gap : ℕ) (n : ℤ) → gap ≡ 0 → IsEnd row gap n → IsEnd row 0 n
end_at row gap n none e = subst (λ g. IsEnd row g n) none e

pub grown_behind : (row new others : Places) (s : List ℕ) (c : Subtree) (n : ℤ) (gap : ℕ) → gap ≡ 0 → IsOrdered row others → IsTrimmed row → 0 < length c → IsNumber s n → IsEnd row gap n
    → T (below_all subscript_cmp s others) → new ≡ row ++ (s, c) ∷ [] → (IsOrdered new others × IsTrimmed new) × (live (new ++ others) ≡ insert_entry subscript_cmp (live (row ++ others)) s c)
grown_behind row new others s c n gap none o trimmed some h e b is =
    subst (λ (xs : Places). (IsOrdered xs others × IsTrimmed xs) × (live (xs ++ others) ≡ insert_entry subscript_cmp (live (row ++ others)) s c)) (sym is)
    ((pushed s c n row others o h (end_at row gap n none e) b, trimmed_pushed row s c trimmed (λ _. some)), live_pushed s c n row others o h (end_at row gap n none e) b some)

pub grown_ahead : (row new others : Places) (s : List ℕ) (c : Subtree) (n : ℤ) (gap : ℕ) → gap ≡ 0 → IsOrdered row others → 0 < length c → IsNumber s n → IsAhead row gap n → new ≡ (s, c) ∷ row
    → (IsOrdered new others × IsTrimmed new) × (live (new ++ others) ≡ insert_entry subscript_cmp (live (row ++ others)) s c)
grown_ahead row new others s c n gap none o some h e is =
    let next : IsAhead row 0 n = subst (λ g. IsAhead row g n) none e in
    subst (λ (xs : Places). (IsOrdered xs others × IsTrimmed xs) × (live (xs ++ others) ≡ insert_entry subscript_cmp (live (row ++ others)) s c)) (sym is)
    ((fronted s c n row others o h next, some), live_fronted s c n row others o h next some)

-- ---- the numbers of empty places

-- so few are behind a row that the code counts them
pub few_behind : (row : Places) (gap : ℕ) (n : ℤ) → IsRow row → IsEnd row gap n → IsInRange n → gap < 2000000000000000000
few_behind [] gap n r e h = omega (arith, e)
few_behind (k ∷ ks) gap n r e h =
    let first : IsInRange (number_of k.0) = bounded k.0 (number_of k.0) (r.1.0.0, refl) in
    let end : n ≡ number_of k.0 +ℤ pos (suc (length ks) + gap) = e in omega (arith, ints)

pub few_ahead : (row : Places) (gap : ℕ) (n : ℤ) → IsRow row → IsAhead row gap n → IsInRange n → gap < 2000000000000000000
few_ahead [] gap n r e h = absurd e
few_ahead (k ∷ ks) gap n r e h =
    let first : IsInRange (number_of k.0) = bounded k.0 (number_of k.0) (r.1.0.0, refl) in
    let ahead : number_of k.0 ≡ n +ℤ pos (gap + 1) = e in omega (arith, ints)

-- a number in range from which so many more lead at most to another
pub record HasRoom (n : ℤ) (gap : ℕ) : Type 0 where
  pub first : ℤ
  pub within : IsInRange first
  pub under : (first +ℤ pos gap) ≤ℤ n

pub room_behind : (row : Places) (gap : ℕ) (n : ℤ) → IsRow row → IsEnd row gap n → 0 < gap → HasRoom n gap
room_behind [] gap n r e some = absurd (omega (arith, e))
room_behind (k ∷ ks) gap n r e some =
    let end : n ≡ number_of k.0 +ℤ pos (suc (length ks) + gap) = e in
    record { first = number_of k.0; within = bounded k.0 (number_of k.0) (r.1.0.0, refl); under = omega (arith, ints) }

-- the same of a number and that before which so many more end
pub record HasRoomAhead (n : ℤ) (gap : ℕ) : Type 0 where
  pub last : ℤ
  pub within : IsInRange last
  pub under : (n +ℤ pos gap) ≤ℤ last

pub room_ahead : (row : Places) (gap : ℕ) (n : ℤ) → IsRow row → IsAhead row gap n → HasRoomAhead n gap
room_ahead [] gap n r e = absurd e
room_ahead (k ∷ ks) gap n r e =
    let ahead : number_of k.0 ≡ n +ℤ pos (gap + 1) = e in
    record { last = number_of k.0; within = bounded k.0 (number_of k.0) (r.1.0.0, refl); under = omega (arith, ints) }

-- ---- one more empty place

one_less : (gap : ℕ) → 0 < gap → gap ≡ gap - 1 + 1
one_less gap some = omega arith

pub longer_by : (s t : List ℕ) (d : Subtree) (n m : ℤ) (gap : ℕ) (row new others : Places) → 0 < gap → IsOrdered row others → IsTrimmed row → IsNumber s n → IsEnd row gap n
    → T (below_all subscript_cmp s others) → IsNumber t m → m +ℤ pos gap ≡ n → d ≡ [] → new ≡ row ++ (t, d) ∷ [] → IsLonger s n (gap - 1) row new others
longer_by s t d n m gap row new others some o trimmed h e b k is empty put =
    longer_behind s t d n m (gap - 1) row new others o trimmed h (subst (λ g. IsEnd row g n) (one_less gap some) e) b k (ap (λ g. m +ℤ pos g) (sym (one_less gap some)) ∙ is) empty put

pub longer_by_ahead : (t : List ℕ) (d : Subtree) (n m : ℤ) (gap : ℕ) (row new others : Places) → 0 < gap → IsOrdered row others → IsAhead row gap n → IsNumber t m → m ≡ n +ℤ pos gap → d ≡ []
    → new ≡ (t, d) ∷ row → IsLongerAhead n (gap - 1) row new others
longer_by_ahead t d n m gap row new others some o e k is empty put =
    longer_ahead t d n m (gap - 1) row new others o (subst (λ g. IsAhead row g n) (one_less gap some) e) k (is ∙ ap (λ g. n +ℤ pos g) (one_less gap some)) empty put

pub shorter : {X : Type 0} (r : Option X) (y : X) (n m : ℕ) → r ≡ Some y → MatchOption r ((m ≡ 0) × (n ≡ 0)) (λ _. n + 1 ≡ m) → n < m
shorter {X} r y n m is h = let k : n + 1 ≡ m = subst (λ (o : Option X). MatchOption o ((m ≡ 0) × (n ≡ 0)) (λ _. n + 1 ≡ m)) is h in omega arith

-- ---- children that are none

pub empty_both : (b : Bool) (row others : Places) → length row ≡ 0 → (IsTrue b ↔ (length others ≡ 0)) → IsTrue b ↔ (row ++ others ≡ [])
empty_both b [] others none h = (λ t. no_items others (h.0 t), λ e. h.1 (ap (λ (ks : Places). length ks) e))
empty_both b (k ∷ ks) others none h = absurd (omega arith)

pub some_row : (b : Bool) (row others : Places) → b ≡ false → (length row ≡ 0 → ⊥) → IsTrue b ↔ (row ++ others ≡ [])
some_row b [] others unset some = absurd (some refl)
some_row b (k ∷ ks) others unset some = (λ t. absurd cc, λ e. absurd cc)

pub none_told : (n : ℕ) (row : Places) → n ≡ length row → false ≡ (n == 0) → length row ≡ 0 → ⊥
none_told n row same told none = let t : (n == 0) ≡ true = ap (λ m. m == 0) (same ∙ none) in let f : false ≡ true = told ∙ t in absurd cc
