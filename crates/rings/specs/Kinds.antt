-- A coefficient kind: a ring of members, which of them fit, and how a value holds and writes a member that fits.
--     Kind V          a kind whose values are held in contents of type V
--     meaning v       the member that the content v means, whether or not v is a value
--     value m         the one value of the member m, or Unfit where m does not fit
--     zero_value, one_value    the values of zero and one
--     count           how many figures write a value, one or two
--     first, second   the figures of a content
--     ranges          where the figures of a value lie
--     make a b        the value that the figures a and b make, or Unfit
--     Fits K m        the member m fits
--     IsValue K v     the content v is a value
--     Within r a b    the figures a and b lie in the ranges r, as a test
--     Short k r       no figure in the ranges r has more than k decimal digits
--     Counted n r     n figures are one or two, and the ranges r are short enough for so many
--     ValueLaws K     each value means one member that fits, and each member that fits has one value
--     FigureLaws K    figures in range make a value, a value's figures make it again, and only zeros make zero
--     Telling K       the values of zero and one differ, and the sum of zero and one is accepted
--     Division K a b r    r answers a divided by b: refused by zero, exact, without a quotient, or with one that does not fit
use Rattle.std.specs.Prelude.{◌≡◌, ℕ, ◌-◌, ◌^◌, Bool, ◌&&◌, ◌⊎◌, ℤ, pos, neg_ℤ, ◌≤ℤ◌, is_ok, Ok, Err, Result, ◌≢◌, int_le}
use Rattle.refusals.specs.declared.Refusal.{Refusal}
use Rattle.refusals.specs.declared.Refusal.TheVariants.{Unfit, ZeroDivisor, NoQuotient, QuotientUnfit}
use Rattle.rings.specs.Members.{Ops}

pub record Ranges : Type 0 where
  pub first_low : ℤ
  pub first_high : ℤ
  pub second_low : ℤ
  pub second_high : ℤ

pub record Kind (V : Type 0) : Type 1 where
  pub ops : Ops
  pub meaning : V → ops.Member
  pub value : ops.Member → Result V Refusal
  pub zero_value : V
  pub one_value : V
  pub count : ℕ
  pub first : V → ℤ
  pub second : V → ℤ
  pub ranges : Ranges
  pub make : ℤ → ℤ → Result V Refusal

abbrev pub Fits : {V : Type 0} (K : Kind V) → K.ops.Member → Type 0
Fits {V} K m = (v : V) × (K.value m ≡ Ok v)

abbrev pub IsValue : {V : Type 0} (K : Kind V) → V → Type 0
IsValue K v = K.value (K.meaning v) ≡ Ok v

pub record ValueLaws {V : Type 0} (K : Kind V) : Type 0 where
  pub means : (m : K.ops.Member) (v : V) → K.value m ≡ Ok v → K.meaning v ≡ m
  pub unfit : (m : K.ops.Member) (c : Refusal) → K.value m ≡ Err c → c ≡ Unfit
  pub contents : (v : V) → Fits K (K.meaning v)
  pub zero : K.value K.ops.zero ≡ Ok K.zero_value
  pub one : K.value K.ops.one ≡ Ok K.one_value
  pub negative : (m : K.ops.Member) → Fits K m → Fits K (K.ops.negative m)

abbrev pub Within : Ranges → ℤ → ℤ → Bool
Within r a b = (int_le r.first_low a && int_le a r.first_high) && (int_le r.second_low b && int_le b r.second_high)

abbrev pub Short : ℕ → Ranges → Type 0
Short k r = (neg_ℤ (pos (10 ^ k - 1)) ≤ℤ r.first_low) × (r.first_high ≤ℤ pos (10 ^ k - 1)) × (neg_ℤ (pos (10 ^ k - 1)) ≤ℤ r.second_low) × (r.second_high ≤ℤ pos (10 ^ k - 1))

-- one figure of at most 18 digits, the second being 0, or two of at most 16
abbrev pub Counted : ℕ → Ranges → Type 0
Counted n r = ((n ≡ 1) × (r.second_low ≡ pos 0) × (r.second_high ≡ pos 0) × Short 18 r) ⊎ ((n ≡ 2) × Short 16 r)

pub record FigureLaws {V : Type 0} (K : Kind V) : Type 0 where
  pub counted : Counted K.count K.ranges
  pub within : (a b : ℤ) → is_ok (K.make a b) ≡ Within K.ranges a b
  pub unfit : (a b : ℤ) (c : Refusal) → K.make a b ≡ Err c → c ≡ Unfit
  pub made : (a b : ℤ) (v : V) → K.make a b ≡ Ok v → IsValue K v
  pub again : (v : V) → K.make (K.first v) (K.second v) ≡ K.value (K.meaning v)
  pub zeros : (a b : ℤ) (v : V) → K.make a b ≡ Ok v → K.meaning v ≡ K.ops.zero → (a ≡ pos 0) × (b ≡ pos 0)

pub record Telling {V : Type 0} (K : Kind V) : Type 0 where
  pub values : K.zero_value ≡ K.one_value → ⊥
  pub sum : K.value (K.ops.plus K.ops.zero K.ops.one) ≡ Ok K.one_value

pub data Division {V : Type 0} (K : Kind V) (a b : V) : Result V Refusal → Type 0 where
  by_zero : K.meaning b ≡ K.ops.zero → Division K a b (Err ZeroDivisor)
  exact : {v : V} → (K.meaning b ≢ K.ops.zero) → IsValue K v → K.ops.times (K.meaning v) (K.meaning b) ≡ K.meaning a → Division K a b (Ok v)
  none : (K.meaning b ≢ K.ops.zero) → ((q : K.ops.Member) → K.ops.times q (K.meaning b) ≢ K.meaning a) → Division K a b (Err NoQuotient)
  unfit : (K.meaning b ≢ K.ops.zero) → (q : K.ops.Member) → K.ops.times q (K.meaning b) ≡ K.meaning a → (Fits K q → ⊥) → Division K a b (Err QuotientUnfit)
