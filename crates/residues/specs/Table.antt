-- The rule of the reciprocals, proved for all of 1 to 256 by one test that the checker computes. Assumes nothing.
--     passes f xs    whether the test f passes at each number of xs
--     right n        whether n times its reciprocal leaves 1
--     rule           it does, for each n from 1 to 256
--     entry          the constant list in the source is that of the reciprocals
use Rattle.std.specs.Prelude.{◌≡◌, ℕ, ◌+◌, ◌-◌, ◌*◌, ◌%◌, ◌<◌, Bool, true, ◌&&◌, List, [], ◌∷◌, map, ◌==◌, slice_index, refl}
use Rattle.std.proofs.Common.{sym, subst, ◌∙◌, arith}
use Rattle.std.specs.List.{range_with_len, AllByRecursion}
use Rattle.std.proofs.lemmas.Bool.{and_parts, eqb-true}
use Rattle.std.proofs.ByRecursion.{All-get_or}
use Rattle.std.proofs.lemmas.List.FromFn.{get_or-range_with_len, length-range_with_len, get_or-map-range_with_len}
use Rattle.residues.specs.Residues.{reciprocal}

-- whether a test passes at each number of a list
abbrev passes : (ℕ → Bool) → List ℕ → Bool
passes f [] = true
passes f (x ∷ xs) = f x && passes f xs

all_pass : (f : ℕ → Bool) (xs : List ℕ) → passes f xs ≡ true → AllByRecursion (λ x. f x ≡ true) xs
all_pass f [] e = tt
all_pass f (x ∷ xs) e = let p = and_parts (f x) (passes f xs) e in (p.0, all_pass f xs p.1)

right : ℕ → Bool
right n = (reciprocal n * n) % 257 == 1

tested : passes right (range_with_len 1 256) ≡ true
unfolding right
tested = refl

-- the product of a number and its reciprocal leaves 1
pub rule : (n : ℕ) → 0 < n → n < 257 → (reciprocal n * n) % 257 ≡ 1
unfolding right
rule n p q =
    let k : 1 + (n - 1) ≡ n = omega arith in
    let at = All-get_or (λ x. right x ≡ true) (range_with_len 1 256) (n - 1) 0 (subst (λ l. n - 1 < l) (sym (length-range_with_len 1 256)) (omega arith)) (all_pass right (range_with_len 1 256) tested) in
    eqb-true _ _ (subst (λ x. right x ≡ true) (get_or-range_with_len 1 256 (n - 1) 0 (omega arith) ∙ k) at)

-- the entry that stands for n, in the list of all reciprocals in turn: the checker computes that list and compares it with the source's
pub entry : (n : ℕ) → 0 < n → n < 257 → slice_index (map reciprocal (range_with_len 1 256)) (n - 1) ≡ reciprocal n
entry n p q = get_or-map-range_with_len reciprocal 1 256 (n - 1) n 0 (omega arith) (omega arith)
