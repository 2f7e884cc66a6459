-- The residues keep the laws of a kind, and their division answers as a domain's does. Assumes nothing.
--     residue_ring        the residues are a ring
--     value_laws          the laws of values
--     figure_laws         the laws of figures
--     no_zero_divisors    nonzero residues have a nonzero product
--     division_law        the law of a domain
use Rattle.std.specs.Prelude.{◌≡◌, ℕ, ◌*◌, ◌%◌, ◌<◌, Bool, true, false, cond, Ok, Err, ◌==◌, refl}
use Rattle.std.proofs.Common.{sym, ap, ◌∙◌, mod-lt, mul_assoc, mul-one, arith, lit<, lit≤}
use Rattle.std.proofs.Math.Nat.{mod-mod}
use Rattle.std.proofs.lemmas.Bool.{eqb-true, eqb-false}
use Rattle.refusals.specs.declared.Refusal.TheVariants.{ZeroDivisor}
use Rattle.rings.specs.Members.{RingLaws, NoZeroDivisors}
use Rattle.rings.specs.Kinds.{ValueLaws, FigureLaws, Division}
use Rattle.rings.specs.Kinds.Division.{by_zero, exact}
use Rattle.rings.specs.Remainders.{class, remainders}
use Rattle.rings.proofs.Remainders.{class_path, class-below, mod-times-mod, times-mod-mod, remainders_ring, modulo-values, modulo-figures, reciprocals_no_zero_divisors}
use Rattle.residues.specs.Residues.{of, residues, reciprocal, divided}
use Rattle.residues.specs.declared.Residue.{Residue}
use Rattle.residues.specs.Table.{rule}

pub residue_ring : RingLaws (remainders 257)
residue_ring = remainders_ring 257 (lit< tt)

pub value_laws : ValueLaws residues
value_laws = modulo-values 257 (lit< tt) _ _ (λ n. refl)

pub figure_laws : FigureLaws residues
figure_laws = modulo-figures 257 (lit< tt) _ _ (λ n. refl) (lit≤ tt)

pub no_zero_divisors : NoZeroDivisors (remainders 257)
no_zero_divisors =
    reciprocals_no_zero_divisors 257 (lit< tt) (λ a. class 257 (reciprocal a.number))
    (λ a n. class_path _ _ (mod-times-mod (reciprocal a.number) a.number 257 ∙ rule a.number (omega arith) (class-below a (lit< tt))))

-- a times the reciprocal of b, times b, is a
quotient_times : (a b : ℕ) → 0 < b → b < 257 → ((a * reciprocal b) % 257 % 257 * b) % 257 ≡ a % 257
quotient_times a b p q =
    ap (λ x. (x * b) % 257) (mod-mod (a * reciprocal b) 257) ∙ mod-times-mod (a * reciprocal b) b 257 ∙ ap (λ x. x % 257) (mul_assoc a (reciprocal b) b)
    ∙ sym (times-mod-mod a (reciprocal b * b) 257) ∙ ap (λ x. (a * x) % 257) (rule b p q) ∙ ap (λ x. x % 257) (mul-one a)

pub division_law : (a b : Residue) → Division residues a b (divided a b)
division_law a b = at (b.number % 257 == 0) refl
  where
    at : (s : Bool) → (b.number % 257 == 0) ≡ s → Division residues a b (cond s (Err ZeroDivisor) (Ok (of ((a.number * reciprocal (b.number % 257)) % 257))))
    at true e = by_zero (class_path _ _ (eqb-true _ _ e))
    at false e =
        exact (λ h. eqb-false _ _ e (ap (λ c. c.number) h)) (ap (λ n. Ok (of n)) (mod-mod (a.number * reciprocal (b.number % 257)) 257))
        (class_path _ _ (quotient_times a.number (b.number % 257) (let n = eqb-false _ _ e in omega arith) (mod-lt b.number (lit< tt))))
