use Rattle.std.proofs.Common.{◌≡◌, ℕ, ◌-◌, ◌*◌, ◌/◌, ◌%◌, ◌^◌, ◌≤◌, ap, ◌∙◌, arith}
use lib.Bits.{bit_and}
use Rattle.std.proofs.lemmas.Nat.{one_shl, and_mask}
use Rattle.formats.proofs.field.Field.of.Goals as goal

-- the lowest w bits, by a mask
masked : (k w : ℕ) → w ≤ 16 → bit_and k ((1 * 2 ^ w) % 2 ^ 64 - 1) ≡ k % 2 ^ w
masked k w h = ap (λ m. bit_and k (m - 1)) (one_shl w 64 (omega arith)) ∙ and_mask k w

pub returns : goal.returns
returns c = masked (c.args.key / 2 ^ c.args.self.shift) c.args.self.width c.args.self.narrow
