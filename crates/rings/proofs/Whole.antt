-- The whole numbers are a commutative ring without zero divisors. Assumes nothing.
use Rattle.std.proofs.Common.{◌≡◌, ℕ, zero, suc, ◌%◌, ◌<◌, ◌≤◌, ◌⊎◌, ℤ, pos, negsuc, ◌+ℤ◌, ◌-ℤ◌, ◌*ℤ◌, neg_ℤ, nat_abs, Decides, sym, refl, ap, ◌∙◌, inl, inr, ⊎_elim, mul-pos, div-le_self, arith}
use native.Mathlib.Nat.{mul-mod_left}
use lib.IntN.{suc_ℤ, pred_ℤ, +ℤ_assoc, +ℤ_comm, +ℤ_idl, +ℤ_idr, +ℤ_invr, suc_ℤ-+ℤ, pred_ℤ-+ℤ, suc_ℤ-*ℤ, pred_ℤ-*ℤ, zero-*ℤ, *ℤ_comm, *ℤ-one, one, pos-ne-negsuc}
use lib.Signed.{quot_z, rem_z}
use Rattle.std.proofs.lemmas.Bool.{eqb-true, eq-eqb, false≢true}
use Rattle.std.proofs.lemmas.Int.{quot-rem, unsigned_abs-mul}
use Rattle.rings.specs.Members.{RingLaws, NoZeroDivisors, copies}
use Rattle.rings.specs.Whole.{sameℤ, whole}

-- what holds at 0, and one further up or down where it holds, holds everywhere
module _ (P : ℤ → Type 0) (at_zero : P (pos 0)) (up : (z : ℤ) → P z → P (suc_ℤ z)) (down : (z : ℤ) → P z → P (pred_ℤ z)) where
  climbs : (n : ℕ) → P (pos n)
  climbs zero = at_zero
  climbs (suc n) = up (pos n) (climbs n)

  sinks : (n : ℕ) → P (negsuc n)
  sinks zero = down (pos 0) at_zero
  sinks (suc n) = down (negsuc n) (sinks n)

  everywhere : (z : ℤ) → P z
  everywhere (pos n) = climbs n
  everywhere (negsuc n) = sinks n

swap_last : (x y z : ℤ) → (x +ℤ y) +ℤ z ≡ (x +ℤ z) +ℤ y
swap_last x y z = +ℤ_assoc x y z ∙ ap (λ w. x +ℤ w) (+ℤ_comm y z) ∙ sym (+ℤ_assoc x z y)

pub plus_times : (m n k : ℤ) → (m +ℤ n) *ℤ k ≡ m *ℤ k +ℤ n *ℤ k
plus_times m n k =
    everywhere (λ z. (z +ℤ n) *ℤ k ≡ z *ℤ k +ℤ n *ℤ k)
    (ap (λ x. x *ℤ k) (+ℤ_idl n) ∙ sym (ap (λ x. x +ℤ n *ℤ k) (zero-*ℤ k) ∙ +ℤ_idl (n *ℤ k)))
    (λ z h. ap (λ x. x *ℤ k) (suc_ℤ-+ℤ z n) ∙ suc_ℤ-*ℤ (z +ℤ n) k ∙ ap (λ x. x +ℤ k) h ∙ swap_last (z *ℤ k) (n *ℤ k) k ∙ sym (ap (λ x. x +ℤ n *ℤ k) (suc_ℤ-*ℤ z k)))
    (λ z h. ap (λ x. x *ℤ k) (pred_ℤ-+ℤ z n) ∙ pred_ℤ-*ℤ (z +ℤ n) k ∙ ap (λ x. x -ℤ k) h ∙ swap_last (z *ℤ k) (n *ℤ k) (neg_ℤ k) ∙ sym (ap (λ x. x +ℤ n *ℤ k) (pred_ℤ-*ℤ z k)))
    m

pub times_plus : (k m n : ℤ) → k *ℤ (m +ℤ n) ≡ k *ℤ m +ℤ k *ℤ n
times_plus k m n = *ℤ_comm k (m +ℤ n) ∙ plus_times m n k ∙ ap (λ x. x +ℤ n *ℤ k) (*ℤ_comm m k) ∙ ap (λ x. k *ℤ m +ℤ x) (*ℤ_comm n k)

pub negative-times : (m k : ℤ) → neg_ℤ m *ℤ k ≡ neg_ℤ (m *ℤ k)
negative-times m k =
    let cancels = sym (plus_times m (neg_ℤ m) k) ∙ ap (λ x. x *ℤ k) (+ℤ_invr m) ∙ zero-*ℤ k in
    opposite (m *ℤ k) (neg_ℤ m *ℤ k) cancels
  where
    opposite : (x y : ℤ) → x +ℤ y ≡ pos 0 → y ≡ neg_ℤ x
    opposite x y e = sym (+ℤ_idr y) ∙ ap (λ w. y +ℤ w) (sym (+ℤ_invr x)) ∙ sym (+ℤ_assoc y x (neg_ℤ x)) ∙ ap (λ w. w +ℤ neg_ℤ x) (+ℤ_comm y x ∙ e) ∙ +ℤ_idl (neg_ℤ x)

pub times_assoc : (m n k : ℤ) → (m *ℤ n) *ℤ k ≡ m *ℤ (n *ℤ k)
times_assoc m n k =
    everywhere (λ z. (z *ℤ n) *ℤ k ≡ z *ℤ (n *ℤ k))
    (ap (λ x. x *ℤ k) (zero-*ℤ n) ∙ zero-*ℤ k ∙ sym (zero-*ℤ (n *ℤ k)))
    (λ z h. ap (λ x. x *ℤ k) (suc_ℤ-*ℤ z n) ∙ plus_times (z *ℤ n) n k ∙ ap (λ x. x +ℤ n *ℤ k) h ∙ sym (suc_ℤ-*ℤ z (n *ℤ k)))
    (λ z h. ap (λ x. x *ℤ k) (pred_ℤ-*ℤ z n) ∙ plus_times (z *ℤ n) (neg_ℤ n) k ∙ ap (λ x. x +ℤ neg_ℤ n *ℤ k) h ∙ ap (λ x. z *ℤ (n *ℤ k) +ℤ x) (negative-times n k) ∙ sym (pred_ℤ-*ℤ z (n *ℤ k)))
    m

pub same-decides : (a b : ℤ) → Decides (sameℤ a b) (a ≡ b)
same-decides (pos a) (pos b) = (λ e. ap pos (eqb-true a b e), λ e. eq-eqb a b (ap nat_abs e))
same-decides (pos a) (negsuc b) = (λ e. absurd (false≢true e), λ e. absurd (pos-ne-negsuc a b e))
same-decides (negsuc a) (pos b) = (λ e. absurd (false≢true e), λ e. absurd (pos-ne-negsuc b a (sym e)))
same-decides (negsuc a) (negsuc b) = (λ e. ap negsuc (eqb-true a b e), λ e. eq-eqb a b (cc))

pub whole_ring : RingLaws whole
unfolding one
whole_ring = record {
  plus_assoc = +ℤ_assoc;
  plus_comm = +ℤ_comm;
  plus_zero = +ℤ_idr;
  plus_negative = +ℤ_invr;
  times_assoc = times_assoc;
  times_comm = *ℤ_comm;
  times_one = *ℤ-one;
  times_plus = times_plus;
  one_not_zero = λ e. let z : ◌≡◌ {A = ℕ} 1 0 = ap nat_abs e in omega arith;
  decides = same-decides;
}

pub nat_abs_negative : (z : ℤ) → nat_abs (neg_ℤ z) ≡ nat_abs z
nat_abs_negative (pos zero) = refl
nat_abs_negative (pos (suc n)) = refl
nat_abs_negative (negsuc n) = refl

pub zero_or_positive : (z : ℤ) → (z ≡ pos 0) ⊎ (0 < nat_abs z)
zero_or_positive (pos zero) = inl refl
zero_or_positive (pos (suc n)) = inr (omega arith)
zero_or_positive (negsuc n) = inr (omega arith)

pub whole_no_zero_divisors : NoZeroDivisors whole
whole_no_zero_divisors a b e =
    ⊎_elim inl
    (λ p. ⊎_elim inr (λ q. let n = sym (unsigned_abs-mul a b) ∙ ap nat_abs e in let m = mul-pos p q in absurd (omega arith)) (zero_or_positive b))
    (zero_or_positive a)

nat_abs_remainder : (a b : ℤ) → nat_abs (rem_z a b) ≡ nat_abs a % nat_abs b
nat_abs_remainder (pos a) b = refl
nat_abs_remainder (negsuc a) b = nat_abs_negative (pos (suc a % nat_abs b))

pub zero_from_nat_abs : (z : ℤ) → nat_abs z ≡ 0 → z ≡ pos 0
zero_from_nat_abs z e = ⊎_elim (λ h. h) (λ h. absurd (omega arith)) (zero_or_positive z)

-- a product divides without a remainder
pub remainder_of_product : (q a b : ℤ) → q *ℤ b ≡ a → rem_z a b ≡ pos 0
remainder_of_product q a b e =
    zero_from_nat_abs (rem_z a b) (nat_abs_remainder a b ∙ ap (λ n. n % nat_abs b) (sym (ap nat_abs e) ∙ unsigned_abs-mul q b) ∙ mul-mod_left (nat_abs q) (nat_abs b))

-- without a remainder, the quotient toward zero is exact
pub quotient-exact : (a b : ℤ) → rem_z a b ≡ pos 0 → quot_z a b *ℤ b ≡ a
quotient-exact a b e = sym (+ℤ_idr (quot_z a b *ℤ b)) ∙ ap (λ r. quot_z a b *ℤ b +ℤ r) (sym e) ∙ quot-rem a b

-- the quotient toward zero is no larger than the dividend
pub nat_abs_quotient : (a b : ℤ) → nat_abs (quot_z a b) ≤ nat_abs a
nat_abs_quotient (pos a) (pos b) = div-le_self a b
nat_abs_quotient (pos a) (negsuc b) = rw nat_abs_negative (div-le_self a (suc b))
nat_abs_quotient (negsuc a) (pos b) = rw nat_abs_negative (div-le_self (suc a) b)
nat_abs_quotient (negsuc a) (negsuc b) = div-le_self (suc a) (suc b)

pub copies-times : (n : ℕ) (z : ℤ) → copies whole n z ≡ pos n *ℤ z
copies-times zero z = sym (zero-*ℤ z)
copies-times (suc n) z = ap (λ x. x +ℤ z) (copies-times n z) ∙ sym (suc_ℤ-*ℤ (pos n) z)
