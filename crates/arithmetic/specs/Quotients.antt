-- What exact division means. The polynomials are in the variables vs, over a kind K without zero divisors, in areas of c rows.
--     Stopped K vs c p d e    the refusal e of p by d is that of a limit, and is right: with some quotient so far and its remainder, at the leading terms of remainder and divisor, the member that their coefficients' quotient is does not fit; or the quotient has c terms already; or subtracting that term times d is refused as a step of a product is
--     Divided K vs c p d r    r answers p by d rightly: rows of a quotient; refused by zero; or without a quotient; or by a limit
--     Quotients K over vs c   exact division of canonical rows is that of polynomials
use Rattle.std.specs.Prelude.{◌≡◌, ℕ, true, false, ◌⊎◌, List, length, Ok, Err, Result, ◌≢◌}
use Rattle.refusals.specs.declared.Refusal.{Refusal}
use Rattle.refusals.specs.declared.Refusal.TheVariants.{Unfit, Exponent, Rows, ZeroDivisor, NoQuotient, QuotientUnfit}
use Rattle.rings.specs.Kinds.{Kind, Fits}
use Rattle.formats.specs.Exponents.{added, covers, lowered}
use Rattle.formats.specs.Keys.{within}
use Rattle.formats.specs.declared.variable.Variable.{Variable}
use Rattle.rows.specs.declared.Row.{Row}
use Rattle.algebra.specs.Polynomials.{Poly, Agree, nought, term, sum, negative, product}
use Rattle.algebra.specs.Leading.{Leading, Quotient}
use Rattle.algebra.specs.Tables.{CanonicalRows}
use Rattle.arithmetic.specs.Dividing.{Over, quotient}
use Rattle.arithmetic.specs.Refusals.{Unfitting, TooLarge}

pub record Stopped {V : Type 0} (K : Kind V) (vs : List Variable) (c : ℕ) (p d : Poly K.ops) (e : Refusal) : Type 0 where
  pub so_far : Poly K.ops
  pub rest : Poly K.ops
  pub splits : Agree K.ops (length vs) p (sum K.ops (product K.ops so_far d) rest)
  pub first : List ℕ
  pub second : List ℕ
  pub leads_rest : Leading K.ops (length vs) rest first
  pub leads_divisor : Leading K.ops (length vs) d second
  pub over : covers first second ≡ true
  pub member : K.ops.Member
  pub divides : K.ops.times member (d second) ≡ rest first
  pub cause :
      ((e ≡ QuotientUnfit) × (Fits K member → ⊥))
      ⊎ (((e ≡ Rows) × ((qs : List (Row V)) × CanonicalRows K vs so_far qs × (length qs ≡ c)))
      ⊎ (((e ≡ Exponent) × ((b : List ℕ) × (length b ≡ length vs) × (d b ≢ K.ops.zero) × (within vs (added b (lowered first second)) ≡ false)))
      ⊎ (((e ≡ Unfit) × Unfitting K vs (product K.ops d (term K.ops (lowered first second) member)))
      ⊎ TooLarge K vs c (sum K.ops rest (negative K.ops (product K.ops (term K.ops (lowered first second) member) d))) e)))

abbrev pub Divided : {V : Type 0} (K : Kind V) → List Variable → ℕ → Poly K.ops → Poly K.ops → Result (List (Row V)) Refusal → Type 0
Divided K vs c p d (Ok qs) = (q : Poly K.ops) × Quotient K.ops (length vs) p d q × CanonicalRows K vs q qs
Divided K vs c p d (Err e) =
    ((e ≡ ZeroDivisor) × Agree K.ops (length vs) d (nought K.ops))
    ⊎ (((e ≡ NoQuotient) × (Agree K.ops (length vs) d (nought K.ops) → ⊥) × ((q : Poly K.ops) → Quotient K.ops (length vs) p d q → ⊥))
    ⊎ Stopped K vs c p d e)

pub record Quotients {V : Type 0} (K : Kind V) (over : Over V) (vs : List Variable) (c : ℕ) : Type 0 where
  pub quotients : (p d : Poly K.ops) (xs ds : List (Row V)) → CanonicalRows K vs p xs → CanonicalRows K vs d ds → Divided K vs c p d (quotient K over vs c xs ds)
