-- The twelve areas lie in the lent rows, one after the other. Assumes nothing.
--     capacity-fits     twelve areas are at most the lent rows
--     area_end          an area ends where the next one starts, at the latest
--     areas_apart       so two areas have no row in common
use Rattle.std.proofs.Common.{ℕ, ◌+◌, ◌*◌, ◌<◌, ◌≤◌, mul-le-mul_right, suc-mul, arith}
use Rattle.areas.specs.Shares.{capacity}

pub capacity-fits : (n : ℕ) → 12 * capacity n ≤ n
capacity-fits n = omega arith

pub areas_apart : (a b c : ℕ) → a < b → a * c + c ≤ b * c
areas_apart a b c h = let m = mul-le-mul_right c h in let n = suc-mul a c in omega arith

pub area_end : (a n : ℕ) → a < 12 → a * capacity n + capacity n ≤ n
area_end a n h = let p = areas_apart a 12 (capacity n) h in let q = capacity-fits n in omega arith
