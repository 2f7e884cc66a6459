-- The steps inside products and substitutions.
--     highest vs most xs      at each variable, the greatest of most and of the exponents in the rows of xs
--     turned K vs c most acc xs y     the running table acc plus the rows of xs times the row y, or the refusal, by the greatest exponents most of xs
--     table s a               the table in the area a of the worktop s
--     below n, but a          the areas below n; all but the area a
--     Kept same s t           steps took the worktop s to t: the areas of same hold what they held
use Rattle.std.specs.Prelude.{◌≡◌, ℕ, ◌<◌, cond, List, [], ◌∷◌, length, take, Err, Result}
use Rattle.refusals.specs.declared.Refusal.{Refusal}
use Rattle.refusals.specs.declared.Refusal.TheVariants.{Exponent}
use Rattle.rings.specs.Kinds.{Kind}
use Rattle.rings.specs.declared.ring.Ring.{Ghosts}
use Rattle.formats.specs.Exponents.{added, greater}
use Rattle.formats.specs.Keys.{unpack, within}
use Rattle.formats.specs.declared.variable.Variable.{Variable}
use Rattle.rows.specs.Products.{joined}
use Rattle.rows.specs.Tables.{limited}
use Rattle.rows.specs.declared.Row.{Row}
use Rattle.areas.specs.Areas.{contents}
use Rattle.sheets.specs.declared.worktop.Worktop.{Worktop}

abbrev pub highest : {V : Type 0} → List Variable → List ℕ → List (Row V) → List ℕ
highest vs most [] = most
highest vs most (x ∷ xs) = highest vs (greater most (unpack vs x.key)) xs

abbrev pub turned : {V : Type 0} → Kind V → List Variable → ℕ → List ℕ → List (Row V) → List (Row V) → Row V → Result (List (Row V)) Refusal
turned K vs c most acc xs y = cond (within vs (added (take (length vs) most) (unpack vs y.key))) (limited c (joined K acc y xs)) (Err Exponent)

abbrev pub table : {V : Type 0} {G : Ghosts V} → Worktop V G → ℕ → List (Row V)
table s a = (contents s.areas).tables a

abbrev pub below : ℕ → ℕ → Type 0
below n o = o < n

abbrev pub but : ℕ → ℕ → Type 0
but a o = o ≡ a → ⊥

pub record Kept {V : Type 0} {G : Ghosts V} (same : ℕ → Type 0) (s t : Worktop V G) : Type 0 where
  pub others : (o : ℕ) → same o → table t o ≡ table s o
  pub lent : (contents t.areas).lent ≡ (contents s.areas).lent
  pub room : (contents t.areas).room ≡ (contents s.areas).room
  pub format : t.format ≡ s.format
