-- The ring of members that a coefficient kind stands for. It is the ring of mathematics, without limits of size.
--     Ops             the members, with zero, one, sum, product and negative, and a test of equality
--     RingLaws R      R is a commutative ring in which one is not zero
--     NoZeroDivisors  a product is zero only if a factor is
--     copies R n a    the sum of n copies of a
use Rattle.std.specs.Prelude.{◌≡◌, ℕ, zero, suc, Bool, ◌⊎◌, Decides}

pub record Ops : Type 1 where
  pub Member : Type 0
  pub zero : Member
  pub one : Member
  pub plus : Member → Member → Member
  pub times : Member → Member → Member
  pub negative : Member → Member
  pub same : Member → Member → Bool

pub record RingLaws (R : Ops) : Type 0 where
  pub plus_assoc : (a b c : R.Member) → R.plus (R.plus a b) c ≡ R.plus a (R.plus b c)
  pub plus_comm : (a b : R.Member) → R.plus a b ≡ R.plus b a
  pub plus_zero : (a : R.Member) → R.plus a R.zero ≡ a
  pub plus_negative : (a : R.Member) → R.plus a (R.negative a) ≡ R.zero
  pub times_assoc : (a b c : R.Member) → R.times (R.times a b) c ≡ R.times a (R.times b c)
  pub times_comm : (a b : R.Member) → R.times a b ≡ R.times b a
  pub times_one : (a : R.Member) → R.times a R.one ≡ a
  pub times_plus : (a b c : R.Member) → R.times a (R.plus b c) ≡ R.plus (R.times a b) (R.times a c)
  pub one_not_zero : R.one ≡ R.zero → ⊥
  pub decides : (a b : R.Member) → Decides (R.same a b) (a ≡ b)

abbrev pub NoZeroDivisors : Ops → Type 0
NoZeroDivisors R = (a b : R.Member) → R.times a b ≡ R.zero → (a ≡ R.zero) ⊎ (b ≡ R.zero)

abbrev pub copies : (R : Ops) → ℕ → R.Member → R.Member
copies R zero a = R.zero
copies R (suc n) a = R.plus (copies R n a) a
