-- The variables of a format, in order, each a letter and a width.
--     total vs        how many bits the exponents of vs have together
--     used x vs       whether one of vs has the letter x
--     capital x       whether the byte x is a letter from A to Z
--     wide w          whether w is a width from 1 to 16
--     lawful vs       whether each letter of vs is a capital that no other has, and each width is from 1 to 16
--     variable x w    the variable with the letter x and the width w
--     Spans n vs      vs are lawful, and their exponents have n bits together, 64 at most
--     refusal vs x w  why a variable with the letter x and the width w may not be added to vs, if it may not
use Rattle.std.specs.Prelude.{◌≡◌, ℕ, ◌+◌, ◌≤◌, Bool, true, false, cond, not, ◌&&◌, ◌||◌, List, [], ◌∷◌, length, Some, None, Option, ◌==◌, nat_le, nat_lt}
use Rattle.refusals.specs.declared.Refusal.{Refusal}
use Rattle.refusals.specs.declared.Refusal.TheVariants.{Letter, Width, TooWide}
use Rattle.formats.specs.declared.variable.Variable.{Variable}

abbrev pub total : List Variable → ℕ
total [] = 0
total (v ∷ vs) = v.width + total vs

abbrev pub used : ℕ → List Variable → Bool
used x [] = false
used x (v ∷ vs) = v.letter == x || used x vs

abbrev pub capital : ℕ → Bool
capital x = nat_le 65 x && nat_le x 90

abbrev pub wide : ℕ → Bool
wide w = nat_le 1 w && nat_le w 16

abbrev pub lawful : List Variable → Bool
lawful [] = true
lawful (v ∷ vs) = (capital v.letter && wide v.width) && (not (used v.letter vs) && lawful vs)

pub record Spans (n : ℕ) (vs : List Variable) : Type 0 where
  pub ok : lawful vs ≡ true
  pub bits : n ≡ total vs
  pub narrow : n ≤ 64

abbrev pub variable : ℕ → ℕ → Variable
variable x w = record { letter = x; width = w }

-- why a variable may not be added to vs, the causes in their order
abbrev pub refusal : List Variable → ℕ → ℕ → Option Refusal
refusal vs x w =
    cond (not (capital x) || used x vs) (Some Letter)
    (cond (not (wide w)) (Some Width)
    (cond (nat_le 8 (length vs) || nat_lt 64 (total vs + w)) (Some TooWide) None))
