-- The kind of the residues.
--     of n             the content that holds the number n
--     residues         the kind: the whole numbers modulo 257, a value for each, one figure
--     reciprocal n     the 255th power of n modulo 257, whose product with n leaves 1 where 257 does not divide n
--     divided a b      what dividing the value a by b answers
use Rattle.std.specs.Prelude.{ℕ, ◌*◌, ◌%◌, ◌^◌, cond, Ok, Err, Result, ◌==◌}
use Rattle.refusals.specs.declared.Refusal.{Refusal}
use Rattle.refusals.specs.declared.Refusal.TheVariants.{ZeroDivisor}
use Rattle.rings.specs.Kinds.{Kind}
use Rattle.rings.specs.Remainders.{modulo}
use Rattle.residues.specs.declared.Residue.{Residue}

abbrev pub of : ℕ → Residue
of n = record { number = n }

abbrev pub residues : Kind Residue
residues = modulo 257 of (λ v. v.number)

abbrev pub reciprocal : ℕ → ℕ
reciprocal n = n ^ 255 % 257

abbrev pub divided : Residue → Residue → Result Residue Refusal
divided a b = cond (b.number % 257 == 0) (Err ZeroDivisor) (Ok (of ((a.number * reciprocal (b.number % 257)) % 257)))
