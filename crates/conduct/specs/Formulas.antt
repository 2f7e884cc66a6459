-- The formulas of places. They are kept from the calls' arguments and from which calls were accepted, never from rows.
--     Sets K vs c f g         an accepted call c takes the formulas f to g: one line for each call, as algebra says, in polynomials without limits. A question sets none
--     Stay f g                g are the formulas f
--     Becomes f r p g         g are the formulas f with p for the place r
--     Next K vs c ok f g      the same, where ok says whether c was accepted; a refused call sets none
--     Zero f                  every formula is zero
use Rattle.std.specs.Prelude.{◌≡◌, ℕ, ◌<◌, Bool, true, false, List, length, Ok, ◌≢◌}
use Rattle.rings.specs.Members.{Ops}
use Rattle.rings.specs.Kinds.{Kind}
use Rattle.formats.specs.declared.variable.Variable.{Variable}
use Rattle.rows.specs.declared.Row.{Row}
use Rattle.algebra.specs.Leading.{Quotient}
use Rattle.algebra.specs.Polynomials as poly
use Rattle.algebra.specs.Polynomials.{Poly, Agree, Bounded, nought}
use Rattle.algebra.specs.Tables.{meant}
use Rattle.texts.specs.Reading.{dealt}
use Rattle.sheets.specs.Promises.{Formulas}
use Rattle.conduct.specs.Calls.{Call}
use Rattle.conduct.specs.Calls.Call.{read, constant, variable, copy, negate, add, subtract, multiply, divide, differentiate, substitute, truncate, multiply_truncate, write, equal, leading}

module _ {V : Type 0} (K : Kind V) (vs : List Variable) where
  abbrev R : Ops
  R = K.ops

  abbrev Same : Poly R → Poly R → Type 0
  Same = Agree R (length vs)

  abbrev pub Stay : Formulas K → Formulas K → Type 0
  Stay f g = (o : ℕ) → o < 8 → Same (g o) (f o)

  abbrev pub Becomes : Formulas K → ℕ → Poly R → Formulas K → Type 0
  Becomes f r p g = Same (g r) p × ((o : ℕ) → o < 8 → (o ≢ r) → Same (g o) (f o))

  abbrev pub Sets : Call → Formulas K → Formulas K → Type 0
  Sets (read r text) f g = (n : ℕ) × (ts : List (Row V)) × (dealt K vs text ≡ Ok (record { bytes = n; table = ts })) × Becomes f r (meant K vs ts) g
  Sets (constant r a b) f g = (v : V) × (K.make a b ≡ Ok v) × Becomes f r (poly.constant R (K.meaning v)) g
  Sets (variable r v) f g = Becomes f r (poly.variable R v) g
  Sets (copy r p) f g = Becomes f r (f p) g
  Sets (negate r p) f g = Becomes f r (poly.negative R (f p)) g
  Sets (add r p q) f g = Becomes f r (poly.sum R (f p) (f q)) g
  Sets (subtract r p q) f g = Becomes f r (poly.sum R (f p) (poly.negative R (f q))) g
  Sets (multiply r p q) f g = Becomes f r (poly.product R (f p) (f q)) g
  Sets (divide r p q) f g = (d : Poly R) × Quotient R (length vs) (f p) (f q) d × Becomes f r d g
  Sets (differentiate r p v) f g = Becomes f r (poly.derivative R v (f p)) g
  Sets (substitute r p q v) f g = (B : ℕ) × Bounded R (length vs) B (f p) × Becomes f r (poly.substitution R v B (f p) (f q)) g
  Sets (truncate r p k n) f g = Becomes f r (poly.truncation R k n (f p)) g
  Sets (multiply_truncate r p q k n) f g = Becomes f r (poly.truncation R k n (poly.product R (f p) (f q))) g
  Sets (write p n) f g = Stay f g
  Sets (equal p q) f g = Stay f g
  Sets (leading p) f g = Stay f g

  abbrev pub Next : Call → Bool → Formulas K → Formulas K → Type 0
  Next c true f g = Sets c f g
  Next c false f g = Stay f g

  abbrev pub Zero : Formulas K → Type 0
  Zero f = (o : ℕ) → o < 8 → Same (f o) (nought R)
