-- The machine's words hold what is computed of parts. Assumes nothing.
use Rattle.std.proofs.Common.{◌≡◌, ◌≤◌, true, cond, Ok, Err, Result, ℤ, pos, ◌<ℤ◌, sym, ap, ◌∙◌, ◌+ℤ◌, ◌-ℤ◌, ◌*ℤ◌, nat_abs, mul-le-mul, arith, w64, SFits, to_z, of_z}
use Rattle.std.specs.Int.Signed.{quot_z, rem_z}
use Rattle.std.proofs.lemmas.Int.{ints, to_z-of_z, unsigned_abs-mul, quot_fits, quot_is, rem_is}
use Rattle.std.proofs.lemmas.Bool.{cond-true, and_from}
use Rattle.refusals.specs.declared.Refusal.{Refusal}
use Rattle.refusals.specs.declared.Refusal.TheVariants.{NoQuotient}
use Rattle.rings.specs.Whole.{sameℤ}
use Rattle.rings.proofs.Whole.{same-decides}
use Rattle.gaussian.specs.Gaussian.{Below, of, shared, shares}
use Rattle.gaussian.specs.declared.value.Gaussian.{Gaussian}

-- a number that went to its bits and back
abbrev pub bits : ℤ → ℤ
bits z = to_z w64 (of_z w64 z)

pub below-bits : (z : ℤ) → Below 61 z → bits z ≡ z
below-bits z p = to_z-of_z w64 z (omega (arith, ints))

module _ (x y : ℤ) (p : Below 30 x) (q : Below 30 y) where
  product-below : Below 60 (x *ℤ y)
  product-below =
      let a : nat_abs x ≤ 1_073_741_823 = omega arith in
      let b : nat_abs y ≤ 1_073_741_823 = omega arith in
      let m = mul-le-mul a b in let n = unsigned_abs-mul x y in omega arith

  pub same-product : bits x *ℤ bits y ≡ x *ℤ y
  same-product i = below-bits x (omega arith) i *ℤ below-bits y (omega arith) i

  pub small-sum : bits (bits x +ℤ bits y) ≡ x +ℤ y
  small-sum = rw (below-bits x (omega arith), below-bits y (omega arith)) (below-bits (x +ℤ y) (omega (arith, ints)))

  pub product-bits : bits (bits x *ℤ bits y) ≡ x *ℤ y
  product-bits = rw same-product (below-bits (x *ℤ y) (let k = product-below in omega arith))

  pub product-bits-below : Below 60 (bits (bits x *ℤ bits y))
  product-bits-below = rw product-bits product-below

module _ (x y : ℤ) (p : Below 60 x) (q : Below 60 y) where
  same_sum : bits x +ℤ bits y ≡ x +ℤ y
  same_sum i = below-bits x (omega arith) i +ℤ below-bits y (omega arith) i

  same-difference : bits x -ℤ bits y ≡ x -ℤ y
  same-difference i = below-bits x (omega arith) i -ℤ below-bits y (omega arith) i

  pub sum-bits : bits (bits x +ℤ bits y) ≡ x +ℤ y
  sum-bits = rw same_sum (below-bits (x +ℤ y) (omega (arith, ints)))

  pub difference-bits : bits (bits x -ℤ bits y) ≡ x -ℤ y
  difference-bits = rw same-difference (below-bits (x -ℤ y) (omega (arith, ints)))

module _ (x n : ℤ) (p : SFits w64 x) (q : SFits w64 n) (some : pos 0 <ℤ n) where
  pub quotient_fits : SFits w64 (quot_z (bits x) (bits n))
  quotient_fits = rw (to_z-of_z w64 x p, to_z-of_z w64 n q) (quot_fits w64 x n p some)

  pub quotient-bits : bits (quot_z (bits x) (bits n)) ≡ quot_z x n
  quotient-bits = quot_is w64 x n p q (quot_fits w64 x n p some)

  pub remainder-bits : bits (rem_z (bits x) (bits n)) ≡ rem_z x n
  remainder-bits = rem_is w64 x n p q

  pub no_remainder : of_z w64 (rem_z (bits x) (bits n)) ≡ 0 → sameℤ (rem_z x n) (pos 0) ≡ true
  no_remainder e = (same-decides (rem_z x n) (pos 0)).1 (sym remainder-bits ∙ ap (to_z w64) e)

-- what is answered where neither part leaves a remainder
pub shared_answer : (x y n : ℤ) → SFits w64 x → SFits w64 y → SFits w64 n → pos 0 <ℤ n → of_z w64 (rem_z (bits x) (bits n)) ≡ 0 → of_z w64 (rem_z (bits y) (bits n)) ≡ 0 → ◌≡◌ {A = Result Gaussian Refusal} (Ok (record { real = bits (quot_z (bits x) (bits n)); imaginary = bits (quot_z (bits y) (bits n)) })) (cond (shares (record { real = x; imaginary = y }) n) (Ok (of (shared (record { real = x; imaginary = y }) n))) (Err NoQuotient))
shared_answer x y n f g h some d e =
    (λ i. Ok (record { real = quotient-bits x n f h some i; imaginary = quotient-bits y n g h some i }))
    ∙ sym (cond-true (shares (record { real = x; imaginary = y }) n) _ _ (and_from _ _ (no_remainder x n f h some d) (no_remainder y n g h some e)))

-- for the checks of what is computed
pub ruleset words = (below-bits, product-bits, product-bits-below, sum-bits, difference-bits)

pub ruleset divisions = (quotient_fits, quotient-bits, remainder-bits, shared_answer)
