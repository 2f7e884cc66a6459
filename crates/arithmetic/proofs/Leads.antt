-- The first canonical row of a polynomial is that of its leading term; rows whose lists are all below a list have keys below its key. Assumes nothing.
--     leading-of-rows    the list of the first row is the leading list
--     row-member         the coefficient of a row is the member at its list
--     rows-below         where a polynomial is zero from a list on, the keys of its rows are below the key of that list
use Rattle.std.proofs.Common.{◌≡◌, ℕ, ◌<◌, true, ◌⊎◌, List, [], ◌∷◌, length, sym, ap, ◌∙◌, inl, inr, ⊎_elim, arith}
use Rattle.rings.specs.Members.{RingLaws}
use Rattle.rings.specs.Kinds.{Kind, ValueLaws}
use Rattle.formats.specs.Exponents.{Below}
use Rattle.formats.specs.Keys.{pack, unpack, within}
use Rattle.formats.specs.declared.variable.Variable.{Variable}
use Rattle.rows.specs.Canonical.{Under}
use Rattle.rows.specs.declared.Row.{Row}
use Rattle.algebra.specs.Polynomials.{Poly}
use Rattle.algebra.specs.Leading.{Leading}
use Rattle.algebra.specs.Tables.{Every, Some, Term, CanonicalRows}
use Rattle.algebra.proofs.Orders.{cases_below, cases_zero}
use Rattle.algebra.proofs.Packing.{packing, length_unpack, within-unpack}
use Rattle.algebra.proofs.Tabling.{under_some}
use Rattle.arithmetic.proofs.Truncated.{row_list}

module _ {V : Type 0} (K : Kind V) (ring : RingLaws K.ops) (vs : List Variable) (p : Poly K.ops) where
  pub row-member : ValueLaws K → (x : Row V) → Term K vs p x → K.meaning x.coefficient ≡ p (unpack vs x.key)
  row-member laws x t = laws.means (p t.list) x.coefficient t.value ∙ ap p (sym (row_list K vs p x t))

  pub row-key : (x : Row V) → Term K vs p x → x.key ≡ pack vs (unpack vs x.key)
  row-key x t = t.key ∙ ap (pack vs) (sym (row_list K vs p x t))

  pub leading-of-rows : (x : Row V) (xs : List (Row V)) → CanonicalRows K vs p (x ∷ xs) → Leading K.ops (length vs) p (unpack vs x.key)
  leading-of-rows x xs c = record { long = length_unpack vs x.key; there = λ z. t.there (ap p (sym (row_list K vs p x t)) ∙ z); above = above }
    where
      t : Term K vs p x
      t = c.terms.0

      no : (e : List ℕ) → length e ≡ length vs → Below (unpack vs x.key) e → within vs e ≡ true → Some (λ y. y.key ≡ pack vs e) (x ∷ xs) → ⊥
      no e l b w s =
          let k = row-key x t in
          let h = (packing vs).order (unpack vs x.key) e (length_unpack vs x.key) l (within-unpack vs x.key) w b in
          ⊎_elim (λ q. omega arith) (λ q. let u = under_some K x.key (pack vs e) xs c.falling.0 q in omega arith) s

      above : (e : List ℕ) → length e ≡ length vs → Below (unpack vs x.key) e → p e ≡ K.ops.zero
      above e l b = ⊎_elim (λ z. z) (λ z. let s = c.complete e l z in absurd (no e l b s.0 s.1)) (cases_zero K.ops ring (p e))

  pub rows-below : (a : List ℕ) → length a ≡ length vs → within vs a ≡ true → ((e : List ℕ) → length e ≡ length vs → (e ≡ a) ⊎ Below a e → p e ≡ K.ops.zero) → (xs : List (Row V)) → Every (Term K vs p) xs → Under (pack vs a) xs
  rows-below a l w none [] t = tt
  rows-below a l w none (x ∷ xs) t = (below t.0, rows-below a l w none xs t.1)
    where
      below : Term K vs p x → x.key < pack vs a
      below t =
          let k = t.key in
          ⊎_elim
          (λ e. absurd (t.there (none t.list t.long (inl e))))
          (⊎_elim
          (λ b. let h = (packing vs).order t.list a t.long l t.inside w b in omega arith)
          (λ b. absurd (t.there (none t.list t.long (inr b)))))
          (cases_below t.list a (t.long ∙ sym l))
