-- On canonical rows, the arithmetic of tables is that of polynomials, or is refused with its cause. Assumes nothing.
--     table_arithmetic_lem     all of it together
use Rattle.std.proofs.Common.{ℕ, List}
use Rattle.rings.specs.Members.{RingLaws}
use Rattle.rings.specs.Kinds.{Kind, ValueLaws}
use Rattle.formats.specs.Drafts.{Sound}
use Rattle.formats.specs.declared.variable.Variable.{Variable}
use Rattle.arithmetic.specs.Theorems.{TableArithmetic}
use Rattle.arithmetic.proofs.Adding.{sums}
use Rattle.arithmetic.proofs.Opposites.{negatives, differences}
use Rattle.arithmetic.proofs.Pairs.{products, truncated_products}
use Rattle.arithmetic.proofs.Truncated.{truncations}
use Rattle.arithmetic.proofs.Derived.{derivatives}
use Rattle.arithmetic.proofs.Substituted.{substitutions}

pub table_arithmetic_lem : {V : Type 0} (K : Kind V) → RingLaws K.ops → ValueLaws K → (vs : List Variable) (c : ℕ) → Sound vs → TableArithmetic K vs c
table_arithmetic_lem K ring laws vs c sound = record {
  sums = λ p q xs ys hp hq. sums K ring laws vs p q xs ys hp hq c;
  negatives = negatives K ring laws vs sound.narrow;
  differences = differences K ring laws vs sound.narrow c;
  products = products K ring laws vs sound.narrow c;
  truncations = truncations K vs;
  truncated_products = truncated_products K ring laws vs sound.narrow c;
  derivatives = λ v p xs here hp. derivatives K ring laws vs v here p xs hp;
  substitutions = λ v B p q xs ys here bounded hp hq. substitutions K ring vs c (λ p q xs ys hp hq. sums K ring laws vs p q xs ys hp hq c) (products K ring laws vs sound.narrow c) v B p q ys here bounded hq xs hp;
}
