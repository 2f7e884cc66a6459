-- Parts of a list, and writing over them.
--     part at n xs            the n elements of xs from at on
--     put xs at ys            xs with ys written over it from at on
--     Clear a m b n           the m places from a on and the n places from b on have none in common
use Rattle.std.specs.Prelude.{ℕ, ◌+◌, ◌≤◌, ◌⊎◌, List, ◌++◌, length, take, drop}

abbrev pub part : {X : Type 0} → ℕ → ℕ → List X → List X
part at n xs = take n (drop at xs)

abbrev pub put : {X : Type 0} → List X → ℕ → List X → List X
put xs at ys = take at xs ++ (ys ++ drop (at + length ys) xs)

abbrev pub Clear : ℕ → ℕ → ℕ → ℕ → Type 0
Clear a m b n = (a + m ≤ b) ⊎ (b + n ≤ a)
