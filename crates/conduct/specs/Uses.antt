-- The promise over whole uses. A use is a list of calls, of any length and order, with any arguments, on one sheet freshly opened on some rows; its format has the variables vs, its coefficients are of the kind K, and over divides them. Where may is false, as for a kind that is no domain, no call is a division.
--     Use                     how many rows are lent, and the calls
--     Both A B                A exactly when B
--     Allowed may cs          division is among the calls cs only if may is true
--     left u                  the state that the use u leaves
--     Follow s f cs g         from the formulas f in the state s to g, call by call as Next allows
--     Follows u f             f are formulas of the places after u: zero on opening, and from call to call as Next allows
--     CanonicalAlways         every place has exactly the canonical rows of its formula, after every use; and there are such formulas
--     OneTableOneDeck         for two places, each after any use, the formulas are equal exactly when the rows are, and exactly when the written cards are
--     Division u x y a        a answers rightly what x by y is, after the use u
--     Limit e                 e is a refusal by a limit of numbers, exponents or rows
--     DividesWhenDivisible    over a domain, after any use, dividing by a polynomial that is not zero is stopped by a limit, which is named with its ground; or is accepted, and there is a quotient; or is refused with 14, and there is none
--     Promise                 all three
use Rattle.std.specs.Prelude.{◌≡◌, ℕ, ◌<◌, Bool, true, false, ◌⊎◌, List, [], ◌∷◌, length}
use Rattle.refusals.specs.declared.Refusal.{Refusal}
use Rattle.refusals.specs.declared.Refusal.TheVariants.{Unfit, Exponent, Rows, NoQuotient, QuotientUnfit}
use Rattle.rings.specs.Kinds.{Kind}
use Rattle.formats.specs.declared.variable.Variable.{Variable}
use Rattle.algebra.specs.Leading.{Quotient}
use Rattle.algebra.specs.Polynomials.{Poly, Agree, nought}
use Rattle.algebra.specs.Tables.{Every}
use Rattle.arithmetic.specs.Dividing.{Over}
use Rattle.arithmetic.specs.Quotients.{Stopped}
use Rattle.sheets.specs.Promises.{Formulas, Holds}
use Rattle.sheets.specs.States.{State, opened}
use Rattle.conduct.specs.Calls.{Call, Answer, divides, accepted, answer, after, after_all, cards}
use Rattle.conduct.specs.Calls.Call.{divide}
use Rattle.conduct.specs.Calls.Answer.{done, refused}
use Rattle.conduct.specs.Formulas.{Next, Zero, Stay}

pub record Use : Type 0 where
  pub rows : ℕ
  pub calls : List Call

abbrev pub Limit : Refusal → Type 0
Limit e = (e ≡ Unfit) ⊎ ((e ≡ QuotientUnfit) ⊎ ((e ≡ Exponent) ⊎ (e ≡ Rows)))

abbrev pub Both : Type 0 → Type 0 → Type 0
Both A B = (A → B) × (B → A)

abbrev pub Allowed : Bool → List Call → Type 0
Allowed true cs = Unit {0}
Allowed false cs = Every (λ c. divides c ≡ false) cs

module _ {V : Type 0} (K : Kind V) (over : Over V) (vs : List Variable) where
  abbrev Same : Poly K.ops → Poly K.ops → Type 0
  Same = Agree K.ops (length vs)

  abbrev pub left : Use → State V
  left u = after_all K over (opened u.rows vs) u.calls

  abbrev pub Follow : State V → Formulas K → List Call → Formulas K → Type 0
  Follow s f [] g = Stay K vs f g
  Follow s f (c ∷ cs) g = (h : Formulas K) × Next K vs c (accepted (answer K over s c)) f h × Follow (after K over s c) h cs g

  abbrev pub Division : Use → Poly K.ops → Poly K.ops → Answer V → Type 0
  Division u x y a =
      ((e : Refusal) × (a ≡ refused e) × Limit e × Stopped K vs (left u).room x y e)
      ⊎ (((a ≡ done) × ((q : Poly K.ops) × Quotient K.ops (length vs) x y q))
      ⊎ ((a ≡ refused NoQuotient) × ((q : Poly K.ops) → Quotient K.ops (length vs) x y q → ⊥)))

  module _ (may : Bool) where
    abbrev pub Follows : Use → Formulas K → Type 0
    Follows u g = Allowed may u.calls × ((f : Formulas K) × Zero K vs f × Follow (opened u.rows vs) f u.calls g)

    pub record CanonicalAlways : Type 0 where
      pub some : (u : Use) → Allowed may u.calls → (f : Formulas K) × Follows u f
      pub holds : (u : Use) (f : Formulas K) → Follows u f → Holds K (left u) f

    pub record OneTableOneDeck : Type 0 where
      pub tables : (u w : Use) (f g : Formulas K) → Follows u f → Follows w g → (p q : ℕ) → p < 8 → q < 8 → Both (Same (f p) (g q)) ((left u).places p ≡ (left w).places q)
      pub decks : (u w : Use) (f g : Formulas K) → Follows u f → Follows w g → (p q : ℕ) → p < 8 → q < 8 → Both (Same (f p) (g q)) (cards K (left u) p ≡ cards K (left w) q)

    pub record DividesWhenDivisible : Type 0 where
      pub divides : may ≡ true → (u : Use) (f : Formulas K) → Follows u f → (r p q : ℕ) → r < 8 → p < 8 → q < 8 → (Same (f q) (nought K.ops) → ⊥) → Division u (f p) (f q) (answer K over (left u) (divide r p q))

    pub record Promise : Type 0 where
      pub canonical_always : CanonicalAlways
      pub one_table_one_deck : OneTableOneDeck
      pub divides_when_divisible : DividesWhenDivisible
