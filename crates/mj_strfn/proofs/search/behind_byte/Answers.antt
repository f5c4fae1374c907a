use Rattle.std.proofs.Common.{◌≡◌, ◌≤◌, ◌<◌, ℕ, length, arith, refl, subst}
use Rattle.std.proofs.lemmas.List.{take_rest}
use Rattle.memchr.specs.Find.{Nowhere, Passes, is_byte}
use Rattle.mj_strfn.proofs.PieceLaws.{near_found, far_found, none_far}
use Rattle.mj_strfn.proofs.search.behind_byte.Goals as goal

pub returns-then-bytes-place : goal.returns-then-bytes-place
returns-then-bytes-place c =
    let b = c.args.separator in
    let s = c.args.bytes.now in
    let below = c.loop-place-test.true in
    let within : c.loop-place.place < length s = omega (arith, c.min-near.ensures) in
    rw take_rest (near_found b s c.loop-place.place within c.if-bytes-place.true c.loop-place.invariant)

pub returns-in_err-place : goal.returns-in_err-place
returns-in_err-place c =
    let b = c.args.separator in
    let s = c.args.bytes.now in
    let near = c.min-near.result in
    let past = c.loop-place-test.false in
    let most = c.loop-place.auto.place-end in
    let end : c.loop-place.place ≡ near = omega arith in
    let within : near ≤ length s = omega (arith, c.min-near.ensures) in
    let before = subst (λ (k : ℕ). Nowhere (Passes (is_byte b) s) 0 k) end c.loop-place.invariant in
    rw c.from_residual.ensures (none_far b s _ near within (take_rest s near) before c.in_err-place.ensures)

pub returns : goal.returns
returns c =
    let b = c.args.separator in
    let s = c.args.bytes.now in
    let near = c.min-near.result in
    let past = c.loop-place-test.false in
    let most = c.loop-place.auto.place-end in
    let end : c.loop-place.place ≡ near = omega arith in
    let within : near ≤ length s = omega (arith, c.min-near.ensures) in
    let before = subst (λ (k : ℕ). Nowhere (Passes (is_byte b) s) 0 k) end c.loop-place.invariant in
    rw take_rest (far_found b s _ near _ _ within (take_rest s near) before c.in_ok-place.ensures refl)
