use Rattle.std.proofs.Common.{◌≡◌, ℕ, ◌+◌, ◌-◌, ◌*◌, ◌/◌, ◌%◌, ◌^◌, ◌≤◌, ap, ◌∙◌, arith}
use Rattle.std.proofs.lemmas.Nat.{field_of, shl-shr}
use Rattle.formats.proofs.format.Format.cleared.Goals as goal

-- a shift to the left and back clears what is above the lowest n bits
shl-back : (k n : ℕ) → n ≤ 64 → (k * 2 ^ (64 - n)) % 2 ^ 64 / 2 ^ (64 - n) ≡ k % 2 ^ n
shl-back k n h =
    let all : 64 ≡ n + (64 - n) = omega arith in
    ap (λ m. (k * 2 ^ (64 - n)) % 2 ^ m / 2 ^ (64 - n)) all ∙ field_of (k * 2 ^ (64 - n)) n (64 - n) ∙ ap (λ m. m % 2 ^ n) (shl-shr k (64 - n))

pub returns : goal.returns
returns c = shl-back c.args.key c.bits-above.result (omega (arith, c.bits-above.ensures, c.args.self.now.variables.narrow)) ∙ ap (λ n. c.args.key % 2 ^ n) c.bits-above.ensures
