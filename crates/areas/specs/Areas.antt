-- Twelve tables in lent rows: each area is the same share of the rows, and its table is the first of its rows, as many as its count says.
--     Contents V         what areas hold: how many rows are lent, the room of each area, and its table
--     contents s         what the areas s hold
--     storing c a xs     c with the table xs in the area a; c itself if there is no such area
--     fresh n            what areas hold that were opened on n rows: no row
--     rows_of r          the rows of r, or none where it is a refusal
--     answered r         what a call answers that was to leave the rows of r
--     kept c a r         c with the rows of r in the area a, or c itself where r is a refusal
--     apart t a b        whether t, a and b are areas, and t is neither of the others
--     pushed c a x       the table in the area a with the row x after it, or the refusal: no such area, no room
--     added K c t a b    the sum of the tables in a and b, to be left in t, or the refusal: areas that are not apart, a coefficient that does not fit, too many rows
--     scaling K c t a b y    the table in a plus that in b times the row y, to be left in t, or the refusal
--     lent_room s        the rows of one area of s
--     count s a          how many rows the table in the area a has
use Rattle.std.specs.Prelude.{ℕ, ◌*◌, Bool, cond, not, ◌&&◌, List, [], ◌∷◌, ◌++◌, length, Ok, Err, Result, ◌==◌, nat_lt}
use Rattle.refusals.specs.declared.Refusal.{Refusal}
use Rattle.refusals.specs.declared.Refusal.TheVariants.{Place}
use Rattle.rings.specs.Kinds.{Kind}
use Rattle.rings.specs.declared.ring.Ring.{Ghosts}
use Rattle.rows.specs.Lists.{part}
use Rattle.rows.specs.Tables.{sum, limited}
use Rattle.rows.specs.Products.{joined}
use Rattle.rows.specs.declared.Row.{Row}
use Rattle.areas.specs.Shares.{capacity, room_of, count_of}
use Rattle.areas.specs.declared.twelve.Areas.{Areas}

pub record Contents (V : Type 0) : Type 0 where
  pub lent : ℕ
  pub room : ℕ
  pub tables : ℕ → List (Row V)

abbrev pub lent_room : {V : Type 0} {G : Ghosts V} → Areas V G → ℕ
lent_room s = room_of s.rows.now

abbrev pub count : {V : Type 0} {G : Ghosts V} → Areas V G → ℕ → ℕ
count s a = count_of s.rows.now s.counts a

abbrev pub contents : {V : Type 0} {G : Ghosts V} → Areas V G → Contents V
contents s = record { lent = length s.rows.now; room = lent_room s; tables = λ a. part (a * lent_room s) (count s a) s.rows.now }

abbrev pub storing : {V : Type 0} → Contents V → ℕ → List (Row V) → Contents V
storing c a xs = record { lent = c.lent; room = c.room; tables = λ o. cond (o == a && nat_lt a 12) xs (c.tables o) }

abbrev pub fresh : {V : Type 0} → ℕ → Contents V
fresh n = record { lent = n; room = capacity n; tables = λ _. [] }

abbrev pub rows_of : {V : Type 0} → Result (List (Row V)) Refusal → List (Row V)
rows_of (Ok xs) = xs
rows_of (Err e) = []

abbrev pub answered : {V : Type 0} → Result (List (Row V)) Refusal → Result (Unit {0}) Refusal
answered (Ok xs) = Ok tt
answered (Err e) = Err e

abbrev pub kept : {V : Type 0} → Contents V → ℕ → Result (List (Row V)) Refusal → Contents V
kept c a (Ok xs) = storing c a xs
kept c a (Err e) = c

abbrev pub apart : ℕ → ℕ → ℕ → Bool
apart t a b = (nat_lt t 12 && (nat_lt a 12 && nat_lt b 12)) && (not (t == a) && not (t == b))

abbrev pub pushed : {V : Type 0} → Contents V → ℕ → Row V → Result (List (Row V)) Refusal
pushed c a x = cond (nat_lt a 12) (limited c.room (Ok (c.tables a ++ x ∷ []))) (Err Place)

abbrev pub added : {V : Type 0} → Kind V → Contents V → ℕ → ℕ → ℕ → Result (List (Row V)) Refusal
added K c t a b = cond (apart t a b) (limited c.room (sum K (c.tables a) (c.tables b))) (Err Place)

abbrev pub scaling : {V : Type 0} → Kind V → Contents V → ℕ → ℕ → ℕ → Row V → Result (List (Row V)) Refusal
scaling K c t a b y = cond (apart t a b) (limited c.room (joined K (c.tables a) y (c.tables b))) (Err Place)
