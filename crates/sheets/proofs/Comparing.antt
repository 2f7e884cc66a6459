-- Whether tables are the same, and the first row of one. Assumes nothing.
--     same_pair                whether the rows of a pair are the same
--     unequal_lengths, same_pairs     tables of unequal lengths are not the same; others are if their pairs are
--     same-itself, same-canonical     canonical rows are the same exactly if they are equal
--     compared                 so they are exactly if their polynomials are one
--     leading-of-rows          the first of canonical rows is that of the leading term
use Rattle.std.specs.List.{list_all, zip}
use Rattle.std.specs.Prelude.{◌==◌}
use Rattle.std.proofs.Common.{◌≡◌, ℕ, Bool, true, false, ◌&&◌, eqb, List, [], ◌∷◌, length, Ok, sym, refl, ap, ◌∙◌, subst, ⊎_elim, arith}
use Rattle.std.proofs.lemmas.Bool.{eqb-true, eq-eqb, and_parts, and_from, true≢false}
use Rattle.rings.specs.Members.{RingLaws}
use Rattle.rings.specs.Kinds.{Kind, ValueLaws}
use Rattle.formats.specs.Exponents.{Below}
use Rattle.formats.specs.Keys.{pack, within}
use Rattle.rows.specs.Canonical.{Canonical}
use Rattle.rows.specs.declared.Row.{Row}
use Rattle.algebra.specs.Polynomials.{Poly}
use Rattle.algebra.specs.Tables.{Some as OneOf, CanonicalRows}
use Rattle.algebra.proofs.Orders.{cases_zero}
use Rattle.algebra.proofs.Packing.{packing, length_unpack}
use Rattle.algebra.proofs.Tabling.{tabling, under_some}
use Rattle.arithmetic.proofs.Truncated.{row_list}
use Rattle.sheets.specs.Calls.{same_rows, row_leading}
use Rattle.sheets.specs.Promises.{Same, Leads}
use Rattle.sheets.specs.States.{State}

-- whether the rows of a pair are the same
abbrev pub same_pair : {V : Type 0} → Kind V → Row V × Row V → Bool
same_pair K p = p.0.key == p.1.key && K.ops.same (K.meaning p.0.coefficient) (K.meaning p.1.coefficient)

module _ {V : Type 0} (K : Kind V) where
  pub unequal_lengths : (xs ys : List (Row V)) → (length xs ≡ length ys → ⊥) → same_rows K xs ys ≡ false
  unequal_lengths [] [] n = absurd (n refl)
  unequal_lengths [] (y ∷ ys) n = refl
  unequal_lengths (x ∷ xs) [] n = refl
  unequal_lengths (x ∷ xs) (y ∷ ys) n =
      and_false (eqb x.key y.key && K.ops.same (K.meaning x.coefficient) (K.meaning y.coefficient)) (same_rows K xs ys) (unequal_lengths xs ys (λ e. n (omega arith)))
    where
      and_false : (a b : Bool) → b ≡ false → a && b ≡ false
      and_false true b e = e
      and_false false b e = refl

  pub same_pairs : (xs ys : List (Row V)) → length xs ≡ length ys → list_all (same_pair K) (zip xs ys) ≡ same_rows K xs ys
  same_pairs [] [] e = refl
  same_pairs [] (y ∷ ys) e = absurd (omega arith)
  same_pairs (x ∷ xs) [] e = absurd (omega arith)
  same_pairs (x ∷ xs) (y ∷ ys) e = ap (λ t. same_pair K (x, y) && t) (same_pairs xs ys (omega arith))

  -- ---- canonical rows
  module _ (ring : RingLaws K.ops) (laws : ValueLaws K) where
    same-itself : (xs : List (Row V)) → same_rows K xs xs ≡ true
    same-itself [] = refl
    same-itself (x ∷ xs) = and_from _ _ (and_from _ _ (eq-eqb x.key x.key refl) ((ring.decides (K.meaning x.coefficient) (K.meaning x.coefficient)).1 refl)) (same-itself xs)

    same-canonical : (xs ys : List (Row V)) → Canonical K xs → Canonical K ys → same_rows K xs ys ≡ true → xs ≡ ys
    same-canonical [] [] cx cy h = refl
    same-canonical [] (y ∷ ys) cx cy h = absurd (true≢false (sym h))
    same-canonical (x ∷ xs) [] cx cy h = absurd (true≢false (sym h))
    same-canonical (x ∷ xs) (y ∷ ys) cx cy h =
        let p = and_parts (eqb x.key y.key && K.ops.same (K.meaning x.coefficient) (K.meaning y.coefficient)) (same_rows K xs ys) h in
        let q = and_parts (eqb x.key y.key) (K.ops.same (K.meaning x.coefficient) (K.meaning y.coefficient)) p.0 in
        let k = eqb-true x.key y.key q.0 in
        let m = (ring.decides (K.meaning x.coefficient) (K.meaning y.coefficient)).0 q.1 in
        let v : Ok x.coefficient ≡ Ok y.coefficient = sym cx.0 ∙ ap K.value m ∙ cy.0 in
        let c : x.coefficient ≡ y.coefficient = cc in
        let rest = same-canonical xs ys cx.3 cy.3 p.1 in
        λ i. record { key = k i; coefficient = c i } ∷ rest i

    module _ (s : State V) where
      pub compared : (p q : Poly K.ops) (xs ys : List (Row V)) → CanonicalRows K s.vars p xs → CanonicalRows K s.vars q ys → Same K s p q (Ok (same_rows K xs ys))
      compared p q xs ys hp hq = by (same_rows K xs ys) refl
        where
          by : (t : Bool) → same_rows K xs ys ≡ t → Same K s p q (Ok t)
          by true e =
              let T = tabling K ring s.vars laws in
              let same = same-canonical xs ys (T.canonical p xs hp).0 (T.canonical q ys hq).0 e in
              T.one_polynomial p q xs hp (subst (CanonicalRows K s.vars q) (sym same) hq)
          by false e = λ agree.
              let same = (tabling K ring s.vars laws).one_table p q xs ys hp hq agree in
              true≢false (sym (same-itself xs) ∙ ap (same_rows K xs) same ∙ e)

      -- ---- leading terms
      pub leading-of-rows : (p : Poly K.ops) (xs : List (Row V)) → CanonicalRows K s.vars p xs → Leads K s p (Ok (row_leading xs))
      leading-of-rows p [] c = λ e l. ⊎_elim (λ z. z) (λ n. absurd (c.complete e l n).1) (cases_zero K.ops ring (p e))
      leading-of-rows p (x ∷ xs) c =
          let vs = s.vars in
          let t = c.terms.0 in
          let list = row_list K vs p x t in (
            record {
              long = length_unpack vs x.key;
              there = λ z. t.there (ap p (sym list) ∙ z);
              above = λ e l below. ⊎_elim (λ z. z) (λ n. let h = c.complete e l n in absurd (none e l (subst (λ a. Below a e) list below) h.0 h.1)) (cases_zero K.ops ring (p e));
            },
            ap (λ e. K.value (p e)) list ∙ t.value,
          )
        where
          -- a term above the first row has no row
          none : (e : List ℕ) → length e ≡ length s.vars → Below c.terms.0.list e → within s.vars e ≡ true → OneOf (λ y. y.key ≡ pack s.vars e) (x ∷ xs) → ⊥
          none e l below w here =
              let t = c.terms.0 in
              let k = t.key in
              let up = (packing s.vars).order t.list e t.long l t.inside w below in
              ⊎_elim (λ q. omega arith) (λ o. let down = under_some K x.key (pack s.vars e) xs c.falling.0 o in omega arith) here
