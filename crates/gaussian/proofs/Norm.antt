-- The norm of a divisor. Assumes nothing.
use Rattle.std.proofs.Common.{◌≡◌, pos, ◌<ℤ◌, ⊎_elim, arith}
use Rattle.std.proofs.lemmas.Int.{ints}
use Rattle.rings.specs.Gaussian.{Number, nought, norm}
use Rattle.rings.proofs.Whole.{zero_or_positive}
use Rattle.rings.proofs.Gaussian.{norm-natural, only_zero_has_norm_zero}

pub norm_positive : (w : Number) → (w ≡ nought → ⊥) → pos 0 <ℤ norm w
norm_positive w apart =
    ⊎_elim (λ e. absurd (apart (only_zero_has_norm_zero w e))) (λ h. let e = norm-natural w in omega (arith, ints)) (zero_or_positive (norm w))
