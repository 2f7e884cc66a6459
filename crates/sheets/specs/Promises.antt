-- What the calls promise in the words of algebra. Each place has a formula, a polynomial.
--     Formulas K            a polynomial for each place
--     Holds K s f           in the state s, each place has exactly the canonical rows of its formula
--     giving f r p          the formulas f with p for the place r
--     Outcome K t f r p Bad a    the call that answered a left the state t: accepted, the place r has the formula p and every other the same as before; refused, every place has, and Bad holds of the cause
--     OnOne, OnTwo          what a call promises that makes the place r of one place, or of two
--     Copying, Negating, Adding, Subtracting, Multiplying, MultiplyingTruncated, Truncating, Differentiating, Substituting     the promises of those calls
--     Constant, VariableOf  the promises of the calls that make the place r of their arguments alone
--     Divides K s t f r x y a    the call that answered a left the state t: accepted, the place r has a quotient of x by y for its formula; refused, every place has the same as before, and the cause is one of those that division has
--     Dividing              what the call promises that makes the place r the quotient of two places
--     constant_of K v       the constant that figures made; zero where they made none
--     Same                  what the answer whether two places have the same rows tells of their formulas
--     Leads                 what the answer with the first row of a place tells of its formula
--     NoConstant K s v      why a constant is refused: its figures make no value, or it is not zero and there is no room for a row
--     Same, Comparing       what the answer tells whether two places are equal
--     Leads, LeadingRow     what the answer tells that is the leading row of a place
use Rattle.std.specs.Prelude.{◌≡◌, ℕ, ◌<◌, ◌≤◌, Bool, true, false, cond, length, ℤ, Some, None, Ok, Err, Option, Result, ◌==◌, ◌≢◌}
use Rattle.refusals.specs.declared.Refusal.{Refusal}
use Rattle.refusals.specs.declared.Refusal.TheVariants.{Unfit, Rows}
use Rattle.rings.specs.Kinds.{Kind}
use Rattle.formats.specs.Keys.{unpack}
use Rattle.rows.specs.declared.Row.{Row}
use Rattle.algebra.specs.Polynomials as poly
use Rattle.algebra.specs.Polynomials.{Poly, Agree, Bounded, nought}
use Rattle.algebra.specs.Leading.{Leading, Quotient}
use Rattle.algebra.specs.Tables.{CanonicalRows}
use Rattle.arithmetic.specs.Quotients.{Divided}
use Rattle.arithmetic.specs.Refusals.{TooLarge, Unfitting, NoProduct, NoSubstitution, every, lowest}
use Rattle.sheets.specs.States.{State}

abbrev pub Formulas : {V : Type 0} → Kind V → Type 0
Formulas K = ℕ → Poly K.ops

abbrev pub Holds : {V : Type 0} (K : Kind V) → State V → Formulas K → Type 0
Holds K s f = (p : ℕ) → p < 8 → CanonicalRows K s.vars (f p) (s.places p)

abbrev pub giving : {V : Type 0} (K : Kind V) → Formulas K → ℕ → Poly K.ops → Formulas K
giving K f r p o = cond (o == r) p (f o)

abbrev pub Outcome : {V : Type 0} (K : Kind V) → State V → Formulas K → ℕ → Poly K.ops → (Refusal → Type 0) → Result (Unit {0}) Refusal → Type 0
Outcome K t f r p Bad (Ok x) = Holds K t (giving K f r p)
Outcome K t f r p Bad (Err e) = Holds K t f × Bad e

abbrev pub Divides : {V : Type 0} (K : Kind V) → State V → State V → Formulas K → ℕ → Poly K.ops → Poly K.ops → Result (Unit {0}) Refusal → Type 0
Divides K s t f r x y (Ok u) = (d : Poly K.ops) × Quotient K.ops (length s.vars) x y d × Holds K t (giving K f r d)
Divides K s t f r x y (Err e) = Holds K t f × Divided K s.vars s.room x y (Err e)

abbrev pub constant_of : {V : Type 0} (K : Kind V) → Result V Refusal → Poly K.ops
constant_of K (Ok v) = poly.constant K.ops (K.meaning v)
constant_of K (Err x) = nought K.ops

abbrev pub NoConstant : {V : Type 0} (K : Kind V) → State V → Result V Refusal → Refusal → Type 0
NoConstant K s (Ok v) e = (e ≡ Rows) × (s.room ≡ 0) × (K.meaning v ≢ K.ops.zero)
NoConstant K s (Err x) e = e ≡ x

module _ {V : Type 0} (K : Kind V) (s t : State V) (a : Result (Unit {0}) Refusal) where
  -- the place r is made of the places p and q
  abbrev pub OnTwo : ℕ → ℕ → ℕ → (Poly K.ops → Poly K.ops → Poly K.ops) → (Poly K.ops → Poly K.ops → Refusal → Type 0) → Type 0
  OnTwo r p q op Bad = (f : Formulas K) → Holds K s f → r < 8 → p < 8 → q < 8 → Outcome K t f r (op (f p) (f q)) (Bad (f p) (f q)) a

  -- the place r is made of the place p
  abbrev pub OnOne : ℕ → ℕ → (Poly K.ops → Poly K.ops) → (Poly K.ops → Refusal → Type 0) → Type 0
  OnOne r p op Bad = (f : Formulas K) → Holds K s f → r < 8 → p < 8 → Outcome K t f r (op (f p)) (Bad (f p)) a

  abbrev pub Copying : ℕ → ℕ → Type 0
  Copying r p = OnOne r p (λ x. x) (λ _ _. ⊥)

  abbrev pub Negating : ℕ → ℕ → Type 0
  Negating r p = OnOne r p (poly.negative K.ops) (λ _ _. ⊥)

  abbrev pub Adding : ℕ → ℕ → ℕ → Type 0
  Adding r p q = OnTwo r p q (poly.sum K.ops) (λ x y. TooLarge K s.vars s.room (poly.sum K.ops x y))

  abbrev pub Subtracting : ℕ → ℕ → ℕ → Type 0
  Subtracting r p q = OnTwo r p q (λ x y. poly.sum K.ops x (poly.negative K.ops y)) (λ x y. TooLarge K s.vars s.room (poly.sum K.ops x (poly.negative K.ops y)))

  abbrev pub Multiplying : ℕ → ℕ → ℕ → Type 0
  Multiplying r p q = OnTwo r p q (poly.product K.ops) (NoProduct K (every K.ops) s.vars s.room)

  abbrev pub Dividing : ℕ → ℕ → ℕ → Type 0
  Dividing r p q = (f : Formulas K) → Holds K s f → r < 8 → p < 8 → q < 8 → Divides K s t f r (f p) (f q) a

  abbrev pub MultiplyingTruncated : ℕ → ℕ → ℕ → ℕ → ℕ → Type 0
  MultiplyingTruncated r p q k n = k ≤ length s.vars → OnTwo r p q (λ x y. poly.truncation K.ops k n (poly.product K.ops x y)) (NoProduct K (lowest K.ops k n) s.vars s.room)

  abbrev pub Truncating : ℕ → ℕ → ℕ → ℕ → Type 0
  Truncating r p k n = k ≤ length s.vars → OnOne r p (poly.truncation K.ops k n) (λ _ _. ⊥)

  abbrev pub Differentiating : ℕ → ℕ → ℕ → Type 0
  Differentiating r p v = v < length s.vars → OnOne r p (poly.derivative K.ops v) (λ x e. (e ≡ Unfit) × Unfitting K s.vars (poly.derivative K.ops v x))

  -- for every bound of the exponents in the first operand: the formula does not depend on which
  abbrev pub Substituting : ℕ → ℕ → ℕ → ℕ → Type 0
  Substituting r p q v = (B : ℕ) → v < length s.vars → (f : Formulas K) → Holds K s f → Bounded K.ops (length s.vars) B (f p) → r < 8 → p < 8 → q < 8 → Outcome K t f r (poly.substitution K.ops v B (f p) (f q)) (NoSubstitution K s.vars s.room v B (f p) (f q)) a

  abbrev pub Constant : ℕ → ℤ → ℤ → Type 0
  Constant r x y = (f : Formulas K) → Holds K s f → r < 8 → Outcome K t f r (constant_of K (K.make x y)) (NoConstant K s (K.make x y)) a

  abbrev pub VariableOf : ℕ → ℕ → Type 0
  VariableOf r v = (f : Formulas K) → Holds K s f → r < 8 → v < length s.vars → Outcome K t f r (poly.variable K.ops v) (λ e. (e ≡ Rows) × (s.room ≡ 0)) a

-- whether two places have the same rows tells whether their formulas are one polynomial
abbrev pub Same : {V : Type 0} (K : Kind V) → State V → Poly K.ops → Poly K.ops → Result Bool Refusal → Type 0
Same K s x y (Ok true) = Agree K.ops (length s.vars) x y
Same K s x y (Ok false) = Agree K.ops (length s.vars) x y → ⊥
Same K s x y (Err e) = ⊥

abbrev pub Comparing : {V : Type 0} (K : Kind V) → State V → ℕ → ℕ → Result Bool Refusal → Type 0
Comparing K s p q a = (f : Formulas K) → Holds K s f → p < 8 → q < 8 → Same K s (f p) (f q) a

-- the leading row is that of the leading term, absent only for the zero polynomial
abbrev pub Leads : {V : Type 0} (K : Kind V) → State V → Poly K.ops → Result (Option (Row V)) Refusal → Type 0
Leads K s x (Ok None) = Agree K.ops (length s.vars) x (nought K.ops)
Leads K s x (Ok (Some y)) = Leading K.ops (length s.vars) x (unpack s.vars y.key) × (K.value (x (unpack s.vars y.key)) ≡ Ok y.coefficient)
Leads K s x (Err e) = ⊥

abbrev pub LeadingRow : {V : Type 0} (K : Kind V) → State V → ℕ → Result (Option (Row V)) Refusal → Type 0
LeadingRow K s p a = (f : Formulas K) → Holds K s f → p < 8 → Leads K s (f p) a
