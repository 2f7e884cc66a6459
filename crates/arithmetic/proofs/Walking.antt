-- The rows of a table one after another, with the running polynomial of those so far. Assumes nothing.
--     precedes-below, below-precedes    what the test of the order says
--     Known            what is known of the running polynomial P at a list, with the rows xs to come
--     next             the running polynomial with the term of one more row
--     known_first      with all rows to come, it is zero
--     next_known       with one more row, it is the terms down to that of the row
--     known_last       with no rows to come, it is the polynomial of the table
use Rattle.std.proofs.Common.{◌≡◌, ℕ, true, ◌&&◌, eqb, ltb, ◌⊎◌, List, [], ◌∷◌, length, sym, refl, ap, ◌∙◌, subst, ap₂, inl, inr, ⊎_elim, arith}
use Rattle.std.proofs.lemmas.Bool.{cases_Bool, cond-true, cond-false, cond_both, eq-eqb, eqb-true, lt-ltb, ltb-true, or_cases, or_left, or_right, and_parts, and_from, false≢true}
use Rattle.rings.specs.Members.{RingLaws}
use Rattle.rings.specs.Kinds.{Kind}
use Rattle.formats.specs.Exponents.{Below}
use Rattle.formats.specs.Keys.{pack, within}
use Rattle.formats.specs.declared.variable.Variable.{Variable}
use Rattle.rows.specs.Canonical.{Under}
use Rattle.rows.specs.declared.Row.{Row}
use Rattle.algebra.specs.Polynomials.{Poly, Agree, nought, term, sum as plus}
use Rattle.algebra.specs.Tables.{Some, Term, CanonicalRows}
use Rattle.algebra.proofs.Orders.{below_trans, below_not, cases_zero}
use Rattle.algebra.proofs.Packing.{packing, pack_injective}
use Rattle.algebra.proofs.Products.{term_here, term_elsewhere}
use Rattle.algebra.proofs.Splits.{zero-plus}
use Rattle.algebra.proofs.Tabling.{under_some}
use Rattle.arithmetic.specs.Refusals.{precedes, upto}

pub precedes-below : (a b : List ℕ) → precedes a b ≡ true → Below a b
precedes-below [] b h = absurd (false≢true h)
precedes-below (i ∷ a) [] h = absurd (false≢true h)
precedes-below (i ∷ a) (j ∷ b) h =
    let again = precedes-below a b in
    ⊎_elim (λ l. inl (ltb-true i j l)) (λ l. let p = and_parts (eqb i j) (precedes a b) l in inr (eqb-true i j p.0, again p.1)) (or_cases (ltb i j) (eqb i j && precedes a b) h)

pub below-precedes : (a b : List ℕ) → Below a b → precedes a b ≡ true
below-precedes [] b h = absurd h
below-precedes (i ∷ a) [] h = absurd h
below-precedes (i ∷ a) (j ∷ b) h =
    let again = below-precedes a b in
    ⊎_elim (λ l. or_left (ltb i j) (eqb i j && precedes a b) (lt-ltb i j l)) (λ l. or_right (ltb i j) (eqb i j && precedes a b) (and_from (eqb i j) (precedes a b) (eq-eqb i j l.0) (again l.1))) h

module _ {V : Type 0} (K : Kind V) (ring : RingLaws K.ops) (vs : List Variable) (p : Poly K.ops) where
  -- zero at the lists of rows to come, and at lists without a row; the polynomial at the others
  abbrev pub Known : Poly K.ops → List (Row V) → List ℕ → Type 0
  Known P xs e =
      ((P e ≡ K.ops.zero) × ((p e ≡ K.ops.zero) ⊎ ((within vs e ≡ true) × Some (λ x. x.key ≡ pack vs e) xs)))
      ⊎ ((P e ≡ p e) × (within vs e ≡ true) × Under (pack vs e) xs)

  pub known_first : (xs : List (Row V)) → CanonicalRows K vs p xs → (e : List ℕ) → length e ≡ length vs → Known (nought K.ops) xs e
  known_first xs c e l = inl (refl, ⊎_elim inl (λ z. inr (c.complete e l z)) (cases_zero K.ops ring (p e)))

  pub known_last : (P : Poly K.ops) → ((e : List ℕ) → length e ≡ length vs → Known P [] e) → Agree K.ops (length vs) P p
  known_last P k e l = ⊎_elim (λ s. ⊎_elim (λ z. s.0 ∙ sym z) (λ w. absurd w.1) s.1) (λ s. s.0) (k e l)

  module _ (x : Row V) (xs : List (Row V)) (t : Term K vs p x) (falls : Under x.key xs) (P : Poly K.ops) where
    abbrev a : List ℕ
    a = t.list

    abbrev pub next : Poly K.ops
    next = plus K.ops P (term K.ops a (p a))

    module _ (e : List ℕ) (l : length e ≡ length vs) where
      kept : (Below e a → ⊥) → upto K.ops a p e ≡ p e
      kept n = ⊎_elim (λ h. absurd (n (precedes-below e a h))) (λ h. cond-false (precedes e a) K.ops.zero (p e) h) (cases_Bool (precedes e a))

      cut : Below e a → upto K.ops a p e ≡ K.ops.zero
      cut h = cond-true (precedes e a) K.ops.zero (p e) (below-precedes e a h)

      other : (e ≡ a → ⊥) → next e ≡ P e
      other n = ap (K.ops.plus (P e)) (term_elsewhere K.ops ring a (p a) e n) ∙ ring.plus_zero (P e)

      pub next_known : Known P (x ∷ xs) e → Known next xs e × (next e ≡ upto K.ops a p e)
      next_known = ⊎_elim (λ k. ⊎_elim (absent k.0) (λ s. ⊎_elim (current k.0 s.0) (later k.0 s.0) s.1) k.1) (λ k. before k.0 k.1 k.2)
        where
          absent : P e ≡ K.ops.zero → p e ≡ K.ops.zero → Known next xs e × (next e ≡ upto K.ops a p e)
          absent z n =
              let is = other (λ s. t.there (ap p (sym s) ∙ n)) ∙ z in
              (inl (is, inl n), is ∙ cond_both (precedes e a) K.ops.zero (p e) (λ y. K.ops.zero ≡ y) (λ _. refl) (λ _. sym n))

          current : P e ≡ K.ops.zero → within vs e ≡ true → x.key ≡ pack vs e → Known next xs e × (next e ≡ upto K.ops a p e)
          current z w k =
              let s : a ≡ e = pack_injective vs a e t.long l t.inside w (sym t.key ∙ k) in
              let is : next e ≡ p e = ap₂ K.ops.plus z (ap (term K.ops a (p a)) (sym s) ∙ term_here K.ops ring a (p a) ∙ ap p s) ∙ zero-plus K.ops ring (p e) in
              (inr (is, w, subst (λ k. Under k xs) k falls), is ∙ sym (kept (λ b. below_not e (subst (Below e) s b))))

          later : P e ≡ K.ops.zero → within vs e ≡ true → Some (λ y. y.key ≡ pack vs e) xs → Known next xs e × (next e ≡ upto K.ops a p e)
          later z w s =
              let h = under_some K x.key (pack vs e) xs falls s in
              let k = t.key in
              let below = (packing vs).order_back e a l t.long w t.inside (omega arith) in
              let is = other (λ q. below_not a (subst (λ y. Below y a) q below)) ∙ z in
              (inl (is, inr (w, s)), is ∙ sym (cut below))

          before : P e ≡ p e → within vs e ≡ true → Under (pack vs e) (x ∷ xs) → Known next xs e × (next e ≡ upto K.ops a p e)
          before z w u =
              let h = u.0 in
              let k = t.key in
              let below = (packing vs).order_back a e t.long l t.inside w (omega arith) in
              let is = other (λ q. below_not a (subst (Below a) q below)) ∙ z in
              (inr (is, w, u.1), is ∙ sym (kept (λ b. below_not a (below_trans a e a below b))))
