-- Division: where quotients and remainders lie, and the remainder of the language against the one that is never negative.
use Rattle.std.proofs.Common.{Bool, true, cond, subst, Ok, Err, Result, sym, ◌≤ℤ◌, ◌≡◌, ◌≢◌, ℕ, zero, suc, ◌+◌, ◌-◌, ◌/◌, ◌%◌, ◌<◌, ◌≤◌, ℤ, pos, negsuc, ◌+ℤ◌, neg_ℤ, ◌<ℤ◌, false, refl, ap, ◌∙◌, ◌⊎◌, inl, inr, ⊎_elim, arith}
use Rattle.std.proofs.Math.Nat.{suc-mod, mod-eq_of_lt, mod_self, div-add-mod, mod-lt, zero-mod, div-le_self}
use Rattle.std.proofs.lemmas.Bool.{cases_lt, true≢false}
use Rattle.std.proofs.lemmas.Int.{ints}
use Rattle.std.specs.Prelude.{unsigned_abs}
use Rattle.std.specs.Int.{int_rem_euclid}
use Rattle.std.specs.Prelude.{IfOk}
use Rattle.mj_text.specs.declared.fault.Fault.{Fault}
use Rattle.mj_text.specs.declared.fault.Fault.TheVariants.{Divide, Range}
use Rattle.mj_num.specs.Number.{is_zero, IsInRange, is_in_range, quotient, remainder, remainder_of, IsUpTo}

-- the next number's remainder is 0 where one more is the divisor, and else one more
next_remainder : (n m : ℕ) → 0 < m → ((suc n % m ≡ 0) × (n % m + 1 ≡ m)) ⊎ ((suc n % m ≡ n % m + 1) × (n % m + 1 < m))
next_remainder n m some = ⊎_elim
    (λ l. inr (suc-mod n m ∙ mod-eq_of_lt l ∙ omega arith, omega arith))
    (λ l. let e : suc (n % m) ≡ m = omega (arith, mod-lt n some) in inl (suc-mod n m ∙ ap (λ k. k % m) e ∙ mod_self m, omega arith))
    (cases_lt (suc (n % m)) m)

-- ---- the remainder by the two signs

pub remainder-positive : (a m : ℕ) → 0 < m → remainder (pos a) (pos m) ≡ pos (a % m)
remainder-positive a m some = omega (arith, ints, div-add-mod a m)

pub remainder-of_negative : (a m : ℕ) → 0 < m → remainder (negsuc a) (pos m) ≡ pos (m - 1 - a % m)
remainder-of_negative a m some = omega (arith, ints, div-add-mod a m, mod-lt a some)

pub remainder-by_negative : (a b : ℕ) → remainder (pos (suc a)) (negsuc b) ≡ neg_ℤ (pos (b - a % suc b))
remainder-by_negative a b = omega (arith, ints, div-add-mod a (suc b))

pub remainder-negative : (a b : ℕ) → remainder (negsuc a) (negsuc b) ≡ neg_ℤ (pos (suc a % suc b))
remainder-negative a b = omega (arith, ints, div-add-mod (suc a) (suc b))

-- ---- against the remainder that is never negative

pub remainder-positive_divisor : (a d : ℤ) → pos 0 <ℤ d → remainder a d ≡ int_rem_euclid a d
remainder-positive_divisor (pos a) (pos m) h = remainder-positive a m (omega (arith, ints))
remainder-positive_divisor (negsuc a) (pos m) h = remainder-of_negative a m (omega (arith, ints))
remainder-positive_divisor a (negsuc b) h = absurd (omega (arith, ints))

pub remainder-whole : (a d : ℤ) → d <ℤ pos 0 → int_rem_euclid a d ≡ pos 0 → remainder a d ≡ pos 0
remainder-whole a (pos m) h e = absurd (omega (arith, ints))
remainder-whole (pos zero) (negsuc b) h e = omega (arith, ints)
remainder-whole (pos (suc a)) (negsuc b) h e =
    let none : b - a % suc b ≡ 0 = ⊎_elim (λ l. omega arith) (λ r. omega (arith, ints)) (next_remainder a (suc b) (omega arith)) in
    remainder-by_negative a b ∙ ap (λ k. neg_ℤ (pos k)) none
remainder-whole (negsuc a) (negsuc b) h e =
    let none : suc a % suc b ≡ 0 = ⊎_elim (λ l. l.0) (λ r. omega (arith, ints)) (next_remainder a (suc b) (omega arith)) in
    remainder-negative a b ∙ ap (λ k. neg_ℤ (pos k)) none

pub remainder-negative_divisor : (a d : ℤ) → d <ℤ pos 0 → int_rem_euclid a d ≢ pos 0 → remainder a d ≡ int_rem_euclid a d +ℤ d
remainder-negative_divisor a (pos m) h ne = absurd (omega (arith, ints))
remainder-negative_divisor (pos zero) (negsuc b) h ne = absurd (ne (ap pos (zero-mod (suc b))))
remainder-negative_divisor (pos (suc a)) (negsuc b) h ne =
    ⊎_elim (λ l. absurd (ne (ap pos l.0))) (λ r. remainder-by_negative a b ∙ omega (arith, ints)) (next_remainder a (suc b) (omega arith))
remainder-negative_divisor (negsuc a) (negsuc b) h ne =
    ⊎_elim (λ l. absurd (ne (ap pos (omega arith)))) (λ r. remainder-negative a b ∙ omega (arith, ints)) (next_remainder a (suc b) (omega arith))

-- ---- where they lie

unsigned_abs-neg : (n : ℕ) → unsigned_abs (neg_ℤ (pos n)) ≡ n
unsigned_abs-neg zero = refl
unsigned_abs-neg (suc n) = refl

pub unsigned_abs-quotient : (a d : ℤ) → unsigned_abs (quotient a d) ≤ unsigned_abs a
unsigned_abs-quotient (pos a) (pos m) = div-le_self a m
unsigned_abs-quotient (pos a) (negsuc b) = rw (unsigned_abs-neg (a / suc b)) (div-le_self a (suc b))
unsigned_abs-quotient (negsuc a) (pos m) = rw (unsigned_abs-neg (suc a / m)) (div-le_self (suc a) m)
unsigned_abs-quotient (negsuc a) (negsuc b) = div-le_self (suc a) (suc b)

pub unsigned_abs-remainder : (a d : ℤ) → is_zero d ≡ false → unsigned_abs (remainder a d) < unsigned_abs d
unsigned_abs-remainder a (pos zero) h = absurd (true≢false h)
unsigned_abs-remainder (pos a) (pos (suc m)) h = rw (remainder-positive a (suc m) (omega arith)) (mod-lt a (omega arith))
unsigned_abs-remainder (negsuc a) (pos (suc m)) h = rw (remainder-of_negative a (suc m) (omega arith)) (omega arith)
unsigned_abs-remainder (pos zero) (negsuc b) h = let e : remainder (pos 0) (negsuc b) ≡ pos 0 = omega (arith, ints) in rw e (omega arith)
unsigned_abs-remainder (pos (suc a)) (negsuc b) h = rw (remainder-by_negative a b, unsigned_abs-neg (b - a % suc b)) (omega arith)
unsigned_abs-remainder (negsuc a) (negsuc b) h = rw (remainder-negative a b, unsigned_abs-neg (suc a % suc b)) (mod-lt (suc a) (omega arith))

-- a remainder is in range where the divisor is, and a quotient where the dividend is
pub IsInRange-remainder : (a d : ℤ) → is_zero d ≡ false → IsInRange d → IsInRange (remainder a d)
IsInRange-remainder a d nz h = omega (arith, unsigned_abs-remainder a d nz)

pub IsInRange-quotient : (a d : ℤ) → IsInRange a → IsInRange (quotient a d)
IsInRange-quotient a d h = omega (arith, unsigned_abs-quotient a d)

pub IsUpTo-remainder : (a d : ℤ) → is_zero d ≡ false → IsUpTo d (remainder a d)
IsUpTo-remainder a d nz = record { above = from_zero a d; below = to_zero a d }
  where
    from_zero : (a d : ℤ) → pos 0 <ℤ d → (pos 0 ≤ℤ remainder a d) × (remainder a d <ℤ d)
    from_zero (pos a) (pos m) h =
        rw (remainder-positive a m (omega (arith, ints))) (omega (arith, ints, mod-lt a {m = m} (omega (arith, ints))), omega (arith, ints, mod-lt a {m = m} (omega (arith, ints))))
    from_zero (negsuc a) (pos m) h = rw (remainder-of_negative a m (omega (arith, ints))) (omega (arith, ints), omega (arith, ints))
    from_zero a (negsuc b) h = absurd (omega (arith, ints))

    to_zero : (a d : ℤ) → d <ℤ pos 0 → (d <ℤ remainder a d) × (remainder a d ≤ℤ pos 0)
    to_zero a (pos m) h = absurd (omega (arith, ints))
    to_zero (pos zero) (negsuc b) h = let e : remainder (pos 0) (negsuc b) ≡ pos 0 = omega (arith, ints) in rw e (omega (arith, ints), omega (arith, ints))
    to_zero (pos (suc a)) (negsuc b) h = rw (remainder-by_negative a b) (omega (arith, ints), omega (arith, ints))
    to_zero (negsuc a) (negsuc b) h =
        rw (remainder-negative a b) (omega (arith, ints, mod-lt (suc a) {m = suc b} (omega arith)), omega (arith, ints))

-- what the operator gives lies from 0 to the divisor
pub remainder_of_lies : (a d : ℤ) (r : Result ℤ Fault) → r ≡ remainder_of a d → IfOk r (IsUpTo d)
remainder_of_lies a d r e = subst (λ r. IfOk r (IsUpTo d)) (sym e) (by (is_zero d) (is_in_range (remainder a d)) (IsUpTo-remainder a d))
  where
    by : (b t : Bool) → (b ≡ false → IsUpTo d (remainder a d)) → IfOk (cond b (Err Divide) (cond t (Ok (remainder a d)) (Err Range))) (IsUpTo d)
    by true t h = tt
    by false true h = h refl
    by false false h = tt
