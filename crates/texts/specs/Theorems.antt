-- What is proved of decks, over a kind K and the variables vs of a format.
--     Narrow vs xs         the keys of xs are keys of vs
--     DecksOfTables K vs   a written deck is read back as the rows that were written, to its last byte; so two tables with the same deck are the same; and a text that is read gives the canonical rows of the sum of its terms
use Rattle.std.specs.Prelude.{◌≡◌, ℕ, ◌^◌, ◌<◌, ◌≤◌, List, length, Ok}
use Rattle.rings.specs.Kinds.{Kind}
use Rattle.formats.specs.Variables.{total}
use Rattle.formats.specs.declared.variable.Variable.{Variable}
use Rattle.rows.specs.Canonical.{Canonical}
use Rattle.rows.specs.declared.Row.{Row}
use Rattle.algebra.specs.Tables.{Every, CanonicalRows, meant}
use Rattle.texts.specs.Decks.{deck}
use Rattle.texts.specs.Reading.{read, dealt}

abbrev pub Narrow : {V : Type 0} → List Variable → List (Row V) → Type 0
Narrow vs xs = Every (λ x. x.key < 2 ^ total vs) xs

pub record DecksOfTables {V : Type 0} (K : Kind V) (vs : List Variable) : Type 0 where
  pub back : (c : ℕ) (xs : List (Row V)) → Canonical K xs → Narrow vs xs → length xs ≤ c → read K vs c (deck K vs xs) ≡ Ok (record { bytes = length (deck K vs xs); table = xs })
  pub one_deck : (xs ys : List (Row V)) → Canonical K xs → Canonical K ys → Narrow vs xs → Narrow vs ys → deck K vs xs ≡ deck K vs ys → xs ≡ ys
  pub terms : (c n : ℕ) (text : List ℕ) (xs : List (Row V)) → read K vs c text ≡ Ok (record { bytes = n; table = xs }) → (ts : List (Row V)) × (dealt K vs text ≡ Ok (record { bytes = n; table = ts })) × CanonicalRows K vs (meant K vs ts) xs
