-- What an addition promises by the lent rows, on a sheet whose places hold canonical tables.
--     Keeps s t o          the place o has the same table in s and t
--     SumOf K s t r p q    the table of r in t is canonical and gives to each key the sum of what the tables of p and q give to it in s; no other place has changed
--     NoSum K s t p q e    no place has changed, and e says why: at some key the sum does not fit; or it fits, and has more rows than an area
--     Adding K s t r p q a     what an addition promises that answered a
use Rattle.std.specs.Prelude.{◌≡◌, ℕ, ◌<◌, ◌⊎◌, List, length, Ok, Err, Result, ◌≢◌}
use Rattle.refusals.specs.declared.Refusal.{Refusal}
use Rattle.refusals.specs.declared.Refusal.TheVariants.{Unfit, Rows}
use Rattle.rings.specs.Kinds.{Kind}
use Rattle.rows.specs.Canonical.{Canonical, Adds, Overflows}
use Rattle.rows.specs.declared.Row.{Row}
use Rattle.sheets.specs.Lent.{Lent, room, place}

abbrev pub Keeps : {V : Type 0} → Lent V → Lent V → ℕ → Type 0
Keeps s t o = place t o ≡ place s o

pub record SumOf {V : Type 0} (K : Kind V) (s t : Lent V) (r p q : ℕ) : Type 0 where
  pub sums : Adds K (place s p) (place s q) (place t r)
  pub others : (o : ℕ) → o < 8 → (o ≢ r) → Keeps s t o

pub record NoSum {V : Type 0} (K : Kind V) (s t : Lent V) (p q : ℕ) (e : Refusal) : Type 0 where
  pub cause : ((e ≡ Unfit) × Overflows K (place s p) (place s q)) ⊎ ((e ≡ Rows) × ((zs : List (Row V)) × Adds K (place s p) (place s q) zs × (room s < length zs)))
  pub places : (o : ℕ) → o < 8 → Keeps s t o

abbrev pub Answering : {V : Type 0} → Kind V → Lent V → Lent V → ℕ → ℕ → ℕ → Result (Unit {0}) Refusal → Type 0
Answering K s t r p q (Ok x) = SumOf K s t r p q
Answering K s t r p q (Err e) = NoSum K s t p q e

abbrev pub Adding : {V : Type 0} → Kind V → Lent V → Lent V → ℕ → ℕ → ℕ → Result (Unit {0}) Refusal → Type 0
Adding K s t r p q a = r < 8 → p < 8 → q < 8 → Canonical K (place s p) → Canonical K (place s q) → Answering K s t r p q a
