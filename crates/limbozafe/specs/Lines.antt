-- The lines of a script.
--     line bs           the first line of the bytes bs, with its byte 10
--     after_line bs     the bytes after it
--     content bs        the line bs without its end: a byte 10, with a byte 13 right before it if there is one
--     IsPoint bs        the line bs is just a point
--     IsCutAtPoint text cards rest         cards are the lines of the text before the first that is just a point, and rest is what comes after that one
--     IsCutAfter ws text cards rest        the same where a line of the words ws asks for cards, and otherwise there are none
use Rattle.std.specs.Prelude.{◌≡◌, ℕ, ◌+◌, ◌-◌, ◌⊎◌, List, [], ◌∷◌, ◌++◌, length, take, drop, cond, nat_eq, slice_index}
use Rattle.std.specs.List.{position_or_len}
use Rattle.limbozafe.specs.Words.{AsksForCards}

abbrev pub line_length : List ℕ → ℕ
line_length bs = position_or_len (λ b. nat_eq b 10) bs + 1

abbrev pub line : List ℕ → List ℕ
line bs = take (line_length bs) bs

abbrev pub after_line : List ℕ → List ℕ
after_line bs = drop (line_length bs) bs

-- how many bytes its end has
abbrev pub ending : List ℕ → ℕ
ending bs = cond (nat_eq (slice_index bs (length bs - 1)) 10) (cond (nat_eq (slice_index bs (length bs - 2)) 13) 2 1) 0

abbrev pub content : List ℕ → List ℕ
content bs = take (length bs - ending bs) bs

-- 46 is a point
abbrev pub IsPoint : List ℕ → Type 0
IsPoint bs = (bs ≡ 46 ∷ []) ⊎ (bs ≡ 46 ∷ 10 ∷ [])

pub data IsCutAtPoint : List ℕ → List ℕ → List ℕ → Type 0 where
  ended : IsCutAtPoint [] [] []
  point : (text : List ℕ) → IsPoint (line text) → IsCutAtPoint text [] (after_line text)
  more : (text cards rest : List ℕ) → ¬ IsPoint (line text) → IsCutAtPoint (after_line text) cards rest → IsCutAtPoint text (line text ++ cards) rest

abbrev pub IsCutAfter : List (List ℕ) → List ℕ → List ℕ → List ℕ → Type 0
IsCutAfter ws text cards rest = (AsksForCards ws × IsCutAtPoint text cards rest) ⊎ (¬ AsksForCards ws × (cards ≡ []) × (rest ≡ text))
