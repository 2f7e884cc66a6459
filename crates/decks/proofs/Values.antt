-- The values of numbers on cards fit 64 bits. Assumes nothing.
--     small_size          so many digits make
use Rattle.std.proofs.Common.{◌^◌, ◌<◌, ◌≤◌, arith}
use native.Mathlib.Nat.{pow-le-pow_right}
use Rattle.decks.specs.declared.begun.Begun.{Begun}

pub small_size : (n : Begun) → n.size < 10 ^ 18
small_size n = let few = n.few in let small = n.small in let p : 10 ^ n.digits ≤ 10 ^ 18 = pow-le-pow_right (omega arith) few in omega arith
