-- A merge under way: of one table, and of another whose rows are each multiplied by a factor, if there is one.
--     spanned rows s          the rows in the span s
--     nonzero K k v           the row of key k and coefficient v; none where v is zero
--     found K k v             that row where v is a coefficient, or its refusal
--     product K o x           the row x times that of o; none where their product is zero, a refusal where it does not fit; x itself where o has no row
--     factored K o ys         the rows of ys times that of o, or as they are where o has none
--     prepended o r           the row of o, if there is one, before the rows of r
--     giving K o h xs ys      the table xs plus the row of h, if there is one, and the rows of ys times that of o
--     remaining K m           what the merge m has yet to give
--     unread m                how many rows it has yet to look at
--     Goes m o m'             the merge m' is what is left of m after a step that gave the row of o
--     Filled r old new        new is old with the rows of r written from its start on; where r is a refusal, as many rows as old, whatever they are
--     IsBeside s area n       the span s lies in n rows, clear of the span area
--     Written r old area new  new is old with the rows of r written from the start of the span area on; where r is a refusal, with some rows all over it
--     combined K c t a b o    the table in a plus that in b times the row of o, to be left in t, or the refusal
use Rattle.std.specs.Prelude.{◌≡◌, ℕ, ◌+◌, ◌-◌, ◌<◌, ◌≤◌, cond, List, length, Some, None, Ok, Err, Option, Result}
use Rattle.std.specs.Option.{option_to_list}
use Rattle.std.specs.declared.ops.Range.{Range}
use Rattle.refusals.specs.declared.Refusal.{Refusal}
use Rattle.refusals.specs.declared.Refusal.TheVariants.{Place}
use Rattle.rings.specs.Kinds.{Kind}
use Rattle.rows.specs.Lists.{part, put, Clear}
use Rattle.rows.specs.Tables.{row, consed, sum, limited}
use Rattle.rows.specs.Products.{key_sum, scaled, continued}
use Rattle.rows.specs.declared.Row.{Row}
use Rattle.areas.specs.Areas.{Contents, apart}
use Rattle.areas.specs.declared.step.Merge.{Merge}

abbrev pub spanned : {X : Type 0} → List X → Range ℕ → List X
spanned xs s = part s.start (s.end - s.start) xs

abbrev pub nonzero : {V : Type 0} → Kind V → ℕ → V → Option (Row V)
nonzero K k v = cond (K.ops.same (K.meaning v) K.ops.zero) None (Some (row k v))

abbrev pub found : {V : Type 0} → Kind V → ℕ → Result V Refusal → Result (Option (Row V)) Refusal
found K k (Ok v) = Ok (nonzero K k v)
found K k (Err e) = Err e

abbrev pub product : {V : Type 0} → Kind V → Option (Row V) → Row V → Result (Option (Row V)) Refusal
product K (Some y) x = found K (key_sum x.key y.key) (K.value (K.ops.times (K.meaning x.coefficient) (K.meaning y.coefficient)))
product K None x = Ok (Some x)

abbrev pub factored : {V : Type 0} → Kind V → Option (Row V) → List (Row V) → Result (List (Row V)) Refusal
factored K (Some y) ys = scaled K y ys
factored K None ys = Ok ys

abbrev pub prepended : {V : Type 0} → Option (Row V) → Result (List (Row V)) Refusal → Result (List (Row V)) Refusal
prepended (Some x) r = consed x r
prepended None r = r

abbrev pub giving : {V : Type 0} → Kind V → Option (Row V) → Option (Row V) → List (Row V) → List (Row V) → Result (List (Row V)) Refusal
giving K o h xs ys = continued (prepended h (factored K o ys)) (sum K xs)

abbrev pub remaining : {V : Type 0} → Kind V → Merge V → Result (List (Row V)) Refusal
remaining K m = giving K m.factor m.head m.left.now m.right.now

abbrev pub unread : {V : Type 0} → Merge V → ℕ
unread m = length m.left.now + length m.right.now + length (option_to_list m.head)

-- a row of the second table is looked at twice: once to be multiplied, once to be given
pub record Goes {V : Type 0} (m : Merge V) (o : Option (Row V)) (m' : Merge V) : Type 0 where
  pub falls : unread m' + length m'.right.now < unread m + length m.right.now
  pub few : length (option_to_list o) + unread m' ≤ unread m

abbrev pub Filled : {X : Type 0} → Result (List X) Refusal → List X → List X → Type 0
Filled (Ok ys) old new = new ≡ put old 0 ys
Filled (Err e) old new = length new ≡ length old

pub record IsBeside (s area : Range ℕ) (n : ℕ) : Type 0 where
  pub order : s.start ≤ s.end
  pub within : s.end ≤ n
  pub clear : Clear s.start (s.end - s.start) area.start (area.end - area.start)

abbrev pub Written : {X : Type 0} → Result (List X) Refusal → List X → Range ℕ → List X → Type 0
Written (Ok ys) old area new = new ≡ put old area.start ys
Written {X} (Err e) old area new = (ys : List X) × (length ys ≡ area.end - area.start) × (new ≡ put old area.start ys)

abbrev pub combined : {V : Type 0} → Kind V → Contents V → ℕ → ℕ → ℕ → Option (Row V) → Result (List (Row V)) Refusal
combined K c t a b o = cond (apart t a b) (limited c.room (giving K o None (c.tables a) (c.tables b))) (Err Place)
