-- How the lent rows are shared out to the areas, and which of them are blank.
--     capacity n           the rows of one area, where n rows are lent
--     room_of rows         the rows of one area, where these rows are lent
--     count_of rows cs a   how many rows the table in the area a has, where the areas have the counts cs
--     Counted rows cs i    the lent row of index i is a row of some table
--     Tidy K rows cs       every lent row that is no row of a table is blank
use Rattle.std.specs.Prelude.{◌≡◌, ℕ, ◌+◌, ◌*◌, ◌/◌, ◌<◌, ◌≤◌, min, List, length, slice_index, slice_index_or}
use Rattle.rings.specs.Kinds.{Kind}
use Rattle.rows.specs.Tables.{blank}
use Rattle.rows.specs.declared.Row.{Row}

abbrev pub capacity : ℕ → ℕ
capacity n = min (n / 12) 4096

abbrev pub room_of : {X : Type 0} → List X → ℕ
room_of rows = capacity (length rows)

abbrev pub count_of : {X : Type 0} → List X → List ℕ → ℕ → ℕ
count_of rows cs a = min (slice_index cs a) (room_of rows)

abbrev pub Counted : {X : Type 0} → List X → List ℕ → ℕ → Type 0
Counted rows cs i = (a : ℕ) × (a < 12) × (a * room_of rows ≤ i) × (i < a * room_of rows + count_of rows cs a)

abbrev pub Tidy : {V : Type 0} → Kind V → List (Row V) → List ℕ → Type 0
Tidy K rows cs = (i : ℕ) → i < length rows → (Counted rows cs i → ⊥) → slice_index_or rows i (blank K) ≡ blank K
