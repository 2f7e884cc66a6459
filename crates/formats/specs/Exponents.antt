-- Lists of exponents, one exponent for each variable.
--     alike a b        whether the lists a and b are equal
--     zeros n          n exponents, all 0
--     exponent v e     the exponent of the variable v in e
--     placed v i e     e with i as the exponent of v
--     added a b        the sums of the exponents of a and b
--     covers e t       whether no exponent of t is above that of e
--     lowered e t      the exponents of e less those of t
--     degree e         the sum of the exponents of e
--     greater a b      the greater of the exponents of a and b at each place; past the end of one list, the other as it is
--     Below a b        a comes before b in the lexicographic order of lists of one length: at the first exponent that differs, that of a is less
use Rattle.std.specs.Prelude.{◌≡◌, ℕ, ◌+◌, ◌-◌, ◌<◌, max, Bool, true, false, ◌&&◌, ◌⊎◌, List, [], ◌∷◌, replicate, ◌==◌, nat_le, slice_index, slice_set}

abbrev pub alike : List ℕ → List ℕ → Bool
alike [] [] = true
alike [] (j ∷ b) = false
alike (i ∷ a) [] = false
alike (i ∷ a) (j ∷ b) = i == j && alike a b

abbrev pub zeros : ℕ → List ℕ
zeros n = replicate n 0

abbrev pub placed : ℕ → ℕ → List ℕ → List ℕ
placed v i e = slice_set e v i

abbrev pub exponent : ℕ → List ℕ → ℕ
exponent v e = slice_index e v

abbrev pub added : List ℕ → List ℕ → List ℕ
added [] b = []
added (i ∷ a) [] = []
added (i ∷ a) (j ∷ b) = (i + j) ∷ added a b

abbrev pub covers : List ℕ → List ℕ → Bool
covers e [] = true
covers [] (j ∷ t) = false
covers (i ∷ e) (j ∷ t) = nat_le j i && covers e t

abbrev pub lowered : List ℕ → List ℕ → List ℕ
lowered e [] = e
lowered [] (j ∷ t) = []
lowered (i ∷ e) (j ∷ t) = (i - j) ∷ lowered e t

abbrev pub degree : List ℕ → ℕ
degree [] = 0
degree (i ∷ e) = i + degree e

abbrev pub greater : List ℕ → List ℕ → List ℕ
greater a [] = a
greater [] (j ∷ b) = j ∷ b
greater (i ∷ a) (j ∷ b) = max i j ∷ greater a b

abbrev pub Below : List ℕ → List ℕ → Type 0
Below [] b = ⊥
Below (i ∷ a) [] = ⊥
Below (i ∷ a) (j ∷ b) = (i < j) ⊎ ((i ≡ j) × Below a b)
