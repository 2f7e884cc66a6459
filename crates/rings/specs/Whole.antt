-- The ring of the whole numbers.
--     sameℤ a b    whether a and b are equal
--     whole        all whole numbers, with their sum, product and negative
use Rattle.std.specs.Prelude.{Bool, false, ℤ, pos, negsuc, ◌+ℤ◌, ◌*ℤ◌, neg_ℤ, ◌==◌}
use Rattle.rings.specs.Members.{Ops}

abbrev pub sameℤ : ℤ → ℤ → Bool
sameℤ (pos a) (pos b) = a == b
sameℤ (pos a) (negsuc b) = false
sameℤ (negsuc a) (pos b) = false
sameℤ (negsuc a) (negsuc b) = a == b

abbrev pub whole : Ops
whole = record { Member = ℤ; zero = pos 0; one = pos 1; plus = ◌+ℤ◌; times = ◌*ℤ◌; negative = neg_ℤ; same = sameℤ }
