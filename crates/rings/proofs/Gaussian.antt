-- The Gaussian integers are a commutative ring without zero divisors, and a quotient of them is found by the norm of the divisor. Assumes nothing.
use Rattle.std.proofs.Common.{◌≡◌, ℕ, zero, suc, ◌+◌, ◌*◌, ◌<◌, ◌≤◌, ◌⊎◌, ℤ, pos, negsuc, ◌+ℤ◌, ◌-ℤ◌, ◌*ℤ◌, neg_ℤ, nat_abs, Decides, sym, refl, ap, ◌∙◌, inl, inr, ⊎_elim, mul-le-mul_right, mul-le-mul, arith}
use lib.IntN.{+ℤ_assoc, +ℤ_comm, +ℤ_idr, +ℤ_invr, *ℤ_comm}
use Rattle.std.proofs.lemmas.Int.{ints, unsigned_abs-mul}
use Rattle.std.proofs.lemmas.Bool.{cases_lt}
use Rattle.std.proofs.lemmas.Bool.Decides.{Decides-and, Decides-like}
use Rattle.rings.specs.Members.{RingLaws, NoZeroDivisors, copies}
use Rattle.rings.specs.Gaussian.{Number, sum, product, alike, nought, conjugate, norm, scaled, gaussian}
use Rattle.rings.specs.Whole.{sameℤ, whole}
use Rattle.rings.proofs.Whole.{plus_times, times_plus, negative-times, times_assoc, same-decides, whole_ring, whole_no_zero_divisors, copies-times, nat_abs_negative, zero_from_nat_abs, zero_or_positive}

times-negative : (m k : ℤ) → m *ℤ neg_ℤ k ≡ neg_ℤ (m *ℤ k)
times-negative m k = *ℤ_comm m (neg_ℤ k) ∙ negative-times k m ∙ ap neg_ℤ (*ℤ_comm k m)

swapped : (m n k : ℤ) → m *ℤ (n *ℤ k) ≡ n *ℤ (m *ℤ k)
swapped m n k = sym (times_assoc m n k) ∙ ap (λ x. x *ℤ k) (*ℤ_comm m n) ∙ times_assoc n m k

-- a product of sums as a sum of products, the factors of each sorted
ruleset expanded = (plus_times, times_plus, negative-times, times-negative, times_assoc, *ℤ_comm, swapped)

module _ (a b c d e f : ℤ) where
  assoc_real : (a *ℤ c -ℤ b *ℤ d) *ℤ e -ℤ (a *ℤ d +ℤ b *ℤ c) *ℤ f ≡ a *ℤ (c *ℤ e -ℤ d *ℤ f) -ℤ b *ℤ (c *ℤ f +ℤ d *ℤ e)
  assoc_real = simp expanded (omega (arith, ints))

  assoc_imaginary : (a *ℤ c -ℤ b *ℤ d) *ℤ f +ℤ (a *ℤ d +ℤ b *ℤ c) *ℤ e ≡ a *ℤ (c *ℤ f +ℤ d *ℤ e) +ℤ b *ℤ (c *ℤ e -ℤ d *ℤ f)
  assoc_imaginary = simp expanded (omega (arith, ints))

module _ (a b c d e f : ℤ) where
  plus-real : a *ℤ (c +ℤ e) -ℤ b *ℤ (d +ℤ f) ≡ (a *ℤ c -ℤ b *ℤ d) +ℤ (a *ℤ e -ℤ b *ℤ f)
  plus-real = simp expanded (omega (arith, ints))

  plus-imaginary : a *ℤ (d +ℤ f) +ℤ b *ℤ (c +ℤ e) ≡ (a *ℤ d +ℤ b *ℤ c) +ℤ (a *ℤ f +ℤ b *ℤ e)
  plus-imaginary = simp expanded (omega (arith, ints))

one-real : (a b : ℤ) → a *ℤ pos 1 -ℤ b *ℤ pos 0 ≡ a
one-real a b = omega (arith, ints)

one-imaginary : (a b : ℤ) → a *ℤ pos 0 +ℤ b *ℤ pos 1 ≡ b
one-imaginary a b = omega (arith, ints)

pub alike-decides : (z w : Number) → Decides (alike z w) (z ≡ w)
alike-decides z w =
    Decides-like (alike z w) (λ p i. record { real = p.0 i; imaginary = p.1 i }) (λ e. (ap (λ n. n.real) e, ap (λ n. n.imaginary) e))
    (Decides-and (sameℤ z.real w.real) (sameℤ z.imaginary w.imaginary) (same-decides z.real w.real) (same-decides z.imaginary w.imaginary))

pub gaussian_ring : RingLaws gaussian
gaussian_ring = record {
  plus_assoc = λ z w v i. record { real = +ℤ_assoc z.real w.real v.real i; imaginary = +ℤ_assoc z.imaginary w.imaginary v.imaginary i };
  plus_comm = λ z w i. record { real = +ℤ_comm z.real w.real i; imaginary = +ℤ_comm z.imaginary w.imaginary i };
  plus_zero = λ z i. record { real = +ℤ_idr z.real i; imaginary = +ℤ_idr z.imaginary i };
  plus_negative = λ z i. record { real = +ℤ_invr z.real i; imaginary = +ℤ_invr z.imaginary i };
  times_assoc = λ z w v i. record {
    real = assoc_real z.real z.imaginary w.real w.imaginary v.real v.imaginary i;
    imaginary = assoc_imaginary z.real z.imaginary w.real w.imaginary v.real v.imaginary i;
  };
  times_comm = λ z w i. record {
    real = (*ℤ_comm z.real w.real i) -ℤ (*ℤ_comm z.imaginary w.imaginary i);
    imaginary = comm_imaginary z.real z.imaginary w.real w.imaginary i;
  };
  times_one = λ z i. record { real = one-real z.real z.imaginary i; imaginary = one-imaginary z.real z.imaginary i };
  times_plus = λ z w v i. record {
    real = plus-real z.real z.imaginary w.real w.imaginary v.real v.imaginary i;
    imaginary = plus-imaginary z.real z.imaginary w.real w.imaginary v.real v.imaginary i;
  };
  one_not_zero = λ e. whole_ring.one_not_zero (ap (λ z. z.real) e);
  decides = alike-decides;
}
  where
    comm_imaginary : (a b c d : ℤ) → a *ℤ d +ℤ b *ℤ c ≡ c *ℤ b +ℤ d *ℤ a
    comm_imaginary a b c d = simp expanded (omega (arith, ints))

pub copies-scaled : (n : ℕ) (z : Number) → copies gaussian n z ≡ scaled (pos n) z
copies-scaled n z = by_parts n ∙ (λ i. record { real = copies-times n z.real i; imaginary = copies-times n z.imaginary i })
  where
    by_parts : (n : ℕ) → copies gaussian n z ≡ record { real = copies whole n z.real; imaginary = copies whole n z.imaginary }
    by_parts zero = refl
    by_parts (suc n) = ap (λ s. sum s z) (by_parts n)

-- ---- the norm
square : (a : ℤ) → a *ℤ a ≡ pos (nat_abs a * nat_abs a)
square (pos a) = refl
square (negsuc a) = refl

pub norm-natural : (w : Number) → norm w ≡ pos (nat_abs w.real * nat_abs w.real + nat_abs w.imaginary * nat_abs w.imaginary)
norm-natural w i = square w.real i +ℤ square w.imaginary i

no_square : (n m : ℕ) → n * n + m ≡ 0 → n ≡ 0
no_square zero m e = refl
no_square (suc n) m e = absurd (omega arith)

pub only_zero_has_norm_zero : (w : Number) → norm w ≡ pos 0 → w ≡ nought
only_zero_has_norm_zero w e =
    let n = nat_abs w.real in
    let m = nat_abs w.imaginary in
    let s : n * n + m * m ≡ 0 = ap nat_abs (sym (norm-natural w) ∙ e) in
    let p = zero_from_nat_abs w.real (no_square n (m * m) s) in
    let q = zero_from_nat_abs w.imaginary (no_square m (n * n) (omega arith)) in
    λ i. record { real = p i; imaginary = q i }

-- a factor other than 0 is taken from both sides
cancel : (x y n : ℤ) → (n ≡ pos 0 → ⊥) → x *ℤ n ≡ y *ℤ n → x ≡ y
cancel x y n apart e =
    ⊎_elim (λ h. omega (arith, ints)) (λ h. absurd (apart h)) (whole_no_zero_divisors (x -ℤ y) n (plus_times x (neg_ℤ y) n ∙ ap (λ m. x *ℤ n +ℤ m) (negative-times y n) ∙ none))
  where
    none : x *ℤ n -ℤ y *ℤ n ≡ pos 0
    none = ap (λ m. m -ℤ y *ℤ n) e ∙ +ℤ_invr (y *ℤ n)

-- a product times the conjugate of its second factor is the first factor times the norm
module _ (a b c d : ℤ) where
  back-real : (a *ℤ c -ℤ b *ℤ d) *ℤ c -ℤ (a *ℤ d +ℤ b *ℤ c) *ℤ neg_ℤ d ≡ a *ℤ (c *ℤ c +ℤ d *ℤ d)
  back-real = simp expanded (omega (arith, ints))

  back-imaginary : (a *ℤ c -ℤ b *ℤ d) *ℤ neg_ℤ d +ℤ (a *ℤ d +ℤ b *ℤ c) *ℤ c ≡ b *ℤ (c *ℤ c +ℤ d *ℤ d)
  back-imaginary = simp expanded (omega (arith, ints))

-- and a product with a conjugate times the number itself is the first factor times the norm
module _ (a b c d : ℤ) where
  forth_real : (a *ℤ c -ℤ b *ℤ neg_ℤ d) *ℤ c -ℤ (a *ℤ neg_ℤ d +ℤ b *ℤ c) *ℤ d ≡ a *ℤ (c *ℤ c +ℤ d *ℤ d)
  forth_real = simp expanded (omega (arith, ints))

  forth_imaginary : (a *ℤ c -ℤ b *ℤ neg_ℤ d) *ℤ d +ℤ (a *ℤ neg_ℤ d +ℤ b *ℤ c) *ℤ c ≡ b *ℤ (c *ℤ c +ℤ d *ℤ d)
  forth_imaginary = simp expanded (omega (arith, ints))

-- q times w is z only if the parts of q are those of z times the conjugate of w, over the norm of w
pub quotient_parts : (q z w : Number) → product q w ≡ z → (q.real *ℤ norm w ≡ (product z (conjugate w)).real) × (q.imaginary *ℤ norm w ≡ (product z (conjugate w)).imaginary)
quotient_parts q z w e = (
  sym (back-real q.real q.imaginary w.real w.imaginary) ∙ ap (λ p. (product p (conjugate w)).real) e,
  sym (back-imaginary q.real q.imaginary w.real w.imaginary) ∙ ap (λ p. (product p (conjugate w)).imaginary) e,
)

-- and if they are
pub quotient_times : (q z w : Number) → (w ≡ nought → ⊥) → q.real *ℤ norm w ≡ (product z (conjugate w)).real → q.imaginary *ℤ norm w ≡ (product z (conjugate w)).imaginary → product q w ≡ z
quotient_times q z w apart e f = λ i. record { real = real i; imaginary = imaginary i }
  where
    some : norm w ≡ pos 0 → ⊥
    some h = apart (only_zero_has_norm_zero w h)

    regroup_real : (x y c d n : ℤ) → (x *ℤ c -ℤ y *ℤ d) *ℤ n ≡ (x *ℤ n) *ℤ c -ℤ (y *ℤ n) *ℤ d
    regroup_real x y c d n = simp expanded (omega (arith, ints))

    regroup_imaginary : (x y c d n : ℤ) → (x *ℤ d +ℤ y *ℤ c) *ℤ n ≡ (x *ℤ n) *ℤ d +ℤ (y *ℤ n) *ℤ c
    regroup_imaginary x y c d n = simp expanded (omega (arith, ints))

    real : (product q w).real ≡ z.real
    real =
        cancel (product q w).real z.real (norm w) some
        (regroup_real q.real q.imaginary w.real w.imaginary (norm w)
        ∙ (λ i. e i *ℤ w.real -ℤ f i *ℤ w.imaginary)
        ∙ forth_real z.real z.imaginary w.real w.imaginary)

    imaginary : (product q w).imaginary ≡ z.imaginary
    imaginary =
        cancel (product q w).imaginary z.imaginary (norm w) some
        (regroup_imaginary q.real q.imaginary w.real w.imaginary (norm w)
        ∙ (λ i. e i *ℤ w.imaginary +ℤ f i *ℤ w.real)
        ∙ forth_imaginary z.real z.imaginary w.real w.imaginary)

pub gaussian_no_zero_divisors : NoZeroDivisors gaussian
gaussian_no_zero_divisors z w e =
    let p = quotient_parts z nought w e in
    let real = p.0 ∙ nothing_real w.real (neg_ℤ w.imaginary) in
    let imaginary = p.1 ∙ nothing_imaginary w.real (neg_ℤ w.imaginary) in
    ⊎_elim (λ h. inr (only_zero_has_norm_zero w h)) (λ apart. inl (λ i. record { real = factor z.real real apart i; imaginary = factor z.imaginary imaginary apart i })) (cases_zero (norm w))
  where
    nothing_real : (c d : ℤ) → pos 0 *ℤ c -ℤ pos 0 *ℤ d ≡ pos 0
    nothing_real c d = omega (arith, ints)

    nothing_imaginary : (c d : ℤ) → pos 0 *ℤ d +ℤ pos 0 *ℤ c ≡ pos 0
    nothing_imaginary c d = omega (arith, ints)

    cases_zero : (n : ℤ) → (n ≡ pos 0) ⊎ (n ≡ pos 0 → ⊥)
    cases_zero n = ⊎_elim inl (λ h. inr (λ e. omega (arith, ap nat_abs e))) (zero_or_positive n)

    factor : (x : ℤ) → x *ℤ norm w ≡ pos 0 → (norm w ≡ pos 0 → ⊥) → x ≡ pos 0
    factor x h apart = ⊎_elim (λ k. k) (λ k. absurd (apart k)) (whole_no_zero_divisors x (norm w) h)

-- ---- a quotient's parts are no larger than those of the dividend
nat_abs_sum : (x y : ℤ) → nat_abs (x +ℤ y) ≤ nat_abs x + nat_abs y
nat_abs_sum x y = omega (arith, ints)

at_most_square : (n : ℕ) → n ≤ n * n
at_most_square zero = omega arith
at_most_square (suc n) = omega arith

-- q times c² + d² is the sum of c times a number up to l and d times another
bounded : (l : ℕ) (q u v : ℤ) (a b c d n : ℕ) → a ≤ l → b ≤ l → nat_abs u ≡ a * c → nat_abs v ≡ b * d → 0 < n → n ≡ c * c + d * d → q *ℤ pos n ≡ u +ℤ v → nat_abs q ≤ l
bounded l q u v a b c d n p r eu ev some en e =
    ⊎_elim
    (λ h.
    let whole = unsigned_abs-mul q (pos n) in
    let parts = ap nat_abs e in
    let large = mul-le-mul_right n h in
    absurd (omega (arith, nat_abs_sum u v, mul-le-mul p (at_most_square c), mul-le-mul r (at_most_square d), ap (λ k. l * k) en)))
    (λ h. h)
    (cases_lt l (nat_abs q))

pub quotient-small : (l : ℕ) (q z w : Number) → nat_abs z.real ≤ l → nat_abs z.imaginary ≤ l → (w ≡ nought → ⊥) → product q w ≡ z → (nat_abs q.real ≤ l) × (nat_abs q.imaginary ≤ l)
quotient-small l q z w r s apart e =
    let c = nat_abs w.real in
    let d = nat_abs w.imaginary in
    let n = c * c + d * d in
    let some : 0 < n = ⊎_elim (λ h. absurd (apart (only_zero_has_norm_zero w h))) (λ h. omega (arith, ap nat_abs (norm-natural w))) (zero_or_positive (norm w)) in
    let parts = quotient_parts q z w e in (
      bounded l q.real (z.real *ℤ w.real) (neg_ℤ (z.imaginary *ℤ neg_ℤ w.imaginary)) (nat_abs z.real) (nat_abs z.imaginary) c d n r s
          (unsigned_abs-mul z.real w.real) (nat_abs_negative (z.imaginary *ℤ neg_ℤ w.imaginary) ∙ by_negative z.imaginary w.imaginary) some refl (ap (λ m. q.real *ℤ m) (sym (norm-natural w)) ∙ parts.0),
      bounded l q.imaginary (z.real *ℤ neg_ℤ w.imaginary) (z.imaginary *ℤ w.real) (nat_abs z.real) (nat_abs z.imaginary) d c n r s
          (by_negative z.real w.imaginary) (unsigned_abs-mul z.imaginary w.real) some (omega arith) (ap (λ m. q.imaginary *ℤ m) (sym (norm-natural w)) ∙ parts.1),
    )
  where
    by_negative : (x y : ℤ) → nat_abs (x *ℤ neg_ℤ y) ≡ nat_abs x * nat_abs y
    by_negative x y = unsigned_abs-mul x (neg_ℤ y) ∙ ap (λ m. nat_abs x * m) (nat_abs_negative y)
