-- Packed keys: the exponents of the variables vs as one number, the last variable in the lowest bits, each earlier one directly above.
--     pack vs es       the key of the exponents es
--     unpack vs k      the exponents in the key k
--     field s w k      the w bits of k that lie above the lowest s
--     places vs        how many bits of a key lie below the field of each variable, and how wide it is
--     within vs es     whether each exponent is within its field
--     packed vs es     the key of es, or the refusal of an exponent that is not within its field
--     replaced vs k v e
--                      the key k with e as the exponent of the variable v, or the refusal of a variable that is not there or of an exponent that is not within its field
--     difference vs j k
--                      the key of the exponents in j less those in k, or none where one would be negative
--     alone n i        n exponents, 1 at i and 0 elsewhere
--     unit vs i        the key of the variable i, or the refusal of a variable that is not there
use Rattle.std.specs.Prelude.{ℕ, ◌+◌, ◌*◌, ◌/◌, ◌%◌, ◌^◌, Bool, true, false, cond, ◌&&◌, List, [], ◌∷◌, length, replicate, Some, None, Ok, Err, Option, Result, nat_lt, slice_set}
use Rattle.refusals.specs.declared.Refusal.{Refusal}
use Rattle.refusals.specs.declared.Refusal.TheVariants.{Exponent, Variable as NotInFormat}
use Rattle.formats.specs.declared.variable.Variable.{Variable}
use Rattle.formats.specs.Variables.{total}
use Rattle.formats.specs.Exponents.{placed, covers, lowered}

abbrev pub pack : List Variable → List ℕ → ℕ
pack [] es = 0
pack (v ∷ vs) [] = 0
pack (v ∷ vs) (e ∷ es) = e * 2 ^ total vs + pack vs es

abbrev pub field : ℕ → ℕ → ℕ → ℕ
field s w k = (k / 2 ^ s) % 2 ^ w

abbrev pub unpack : List Variable → ℕ → List ℕ
unpack [] k = []
unpack (v ∷ vs) k = field (total vs) v.width k ∷ unpack vs k

abbrev pub places : List Variable → List (ℕ × ℕ)
places [] = []
places (v ∷ vs) = (total vs, v.width) ∷ places vs

abbrev pub within : List Variable → List ℕ → Bool
within [] es = true
within (v ∷ vs) [] = false
within (v ∷ vs) (e ∷ es) = nat_lt e (2 ^ v.width) && within vs es

abbrev pub packed : List Variable → List ℕ → Result ℕ Refusal
packed vs es = cond (within vs es) (Ok (pack vs es)) (Err Exponent)

abbrev pub replaced : List Variable → ℕ → ℕ → ℕ → Result ℕ Refusal
replaced vs k v e = cond (nat_lt v (length vs)) (packed vs (placed v e (unpack vs k))) (Err NotInFormat)

abbrev pub difference : List Variable → ℕ → ℕ → Option ℕ
difference vs j k = cond (covers (unpack vs j) (unpack vs k)) (Some (pack vs (lowered (unpack vs j) (unpack vs k)))) None

abbrev pub alone : ℕ → ℕ → List ℕ
alone n i = slice_set (replicate n 0) i 1

abbrev pub unit : List Variable → ℕ → Result ℕ Refusal
unit vs i = cond (nat_lt i (length vs)) (Ok (pack vs (alone (length vs) i))) (Err NotInFormat)
