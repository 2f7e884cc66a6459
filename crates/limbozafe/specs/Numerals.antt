-- Numbers in a script.
--     reads n bs       the number that the digits bs write after the number n, if they are digits and it has 64 bits
--     natural bs       the number that the word bs writes
--     number bs        the same, if it has 32 bits
--     figure bs        the figure that the word bs writes, if it has 64 bits: a number, with a minus before it if it is negative
use Rattle.std.specs.Prelude.{ℕ, ◌+◌, ◌-◌, ◌*◌, ◌^◌, ℤ, pos, ◌-ℤ◌, cond, ◌&&◌, List, [], ◌∷◌, Some, None, Option, nat_le, nat_lt, nat_eq}
use Rattle.std.specs.Option.{option_map}

abbrev pub reads : ℕ → List ℕ → Option ℕ
reads n [] = Some n
reads n (b ∷ bs) = cond ((nat_le 48 b && nat_le b 57) && nat_lt (n * 10 + (b - 48)) (2 ^ 64)) (reads (n * 10 + (b - 48)) bs) None

abbrev pub natural : List ℕ → Option ℕ
natural [] = None
natural (b ∷ bs) = reads 0 (b ∷ bs)

-- the number, if it is below the limit
abbrev pub below : ℕ → Option ℕ → Option ℕ
below limit None = None
below limit (Some n) = cond (nat_lt n limit) (Some n) None

abbrev pub number : List ℕ → Option ℕ
number bs = below (2 ^ 32) (natural bs)

abbrev pub negative : ℕ → ℤ
negative n = pos 0 -ℤ pos n

-- 45 is a minus
abbrev pub figure : List ℕ → Option ℤ
figure [] = None
figure (b ∷ bs) = cond (nat_eq b 45) (option_map negative (below (2 ^ 63 + 1) (natural bs))) (option_map pos (below (2 ^ 63) (natural (b ∷ bs))))
