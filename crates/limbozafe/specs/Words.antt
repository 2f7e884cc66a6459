-- The words of a line.
--     blank b                   whether the byte b is a blank or a tab
--     words bs                  the words of the line bs, in order: the parts between blanks that are not empty
--     read_first f ws           what f reads in the first of the words ws, which has to be there
--     read_first_if_any f ws    the same, if it is there
--     line_words name others    the words of a line: its first, the name, and the others, or none where there is no first
--     AsksForCards ws           the words ws are a `read` without a file name, right or wrong
use Rattle.std.specs.Prelude.{◌≡◌, ℕ, ◌<◌, Bool, ◌||◌, List, [], ◌∷◌, length, nat_eq, nat_lt, codes, Result, Ok, Err, Option, Some, None}
use Rattle.std.specs.Borrow.{Bor}
use Rattle.std.specs.List.{filter, slice_split}
use Rattle.limbozafe.specs.declared.fault.Fault.{Fault}
use Rattle.limbozafe.specs.declared.fault.Fault.TheVariants.{Missing}

abbrev pub blank : ℕ → Bool
blank b = nat_eq b 32 || nat_eq b 9

abbrev pub words : List ℕ → List (List ℕ)
words bs = filter (λ word. nat_lt 0 (length word)) (slice_split blank bs)

abbrev pub read_first : {T : Type 0} → (List ℕ → Result T Fault) → List (List ℕ) → Result T Fault
read_first f [] = Err Missing
read_first f (w ∷ ws) = f w

-- a word that is there
abbrev pub there : {T : Type 0} → Result T Fault → Result (Option T) Fault
there (Ok x) = Ok (Some x)
there (Err e) = Err e

abbrev pub read_first_if_any : {T : Type 0} → (List ℕ → Result T Fault) → List (List ℕ) → Result (Option T) Fault
read_first_if_any f [] = Ok None
read_first_if_any f (w ∷ ws) = there (f w)

abbrev pub line_words : Option (Bor (List ℕ)) → List (List ℕ) → List (List ℕ)
line_words None others = []
line_words (Some name) others = name.now ∷ others

abbrev pub AsksForCards : List (List ℕ) → Type 0
AsksForCards ws = (others : List (List ℕ)) × (ws ≡ codes "read" ∷ others) × (length others < 2)
