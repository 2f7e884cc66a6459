-- One polynomial has one table of canonical rows, and one table one polynomial. Assumes nothing.
--     every_under, under_every       two ways to say that keys are below a bound
--     rows_agree                     polynomials that agree have the same canonical rows
--     meant-within, meant_outside    what rows mean at a list is the coefficient that they give to its key; zero where the list is not within its fields
--     wide-none                      a key that is too wide has the coefficient zero
--     one-canonical                  canonical rows are known from the coefficients that they give
--     tabling                        what is proved of the canonical rows of polynomials
use Rattle.std.proofs.Common.{◌≡◌, ℕ, ◌^◌, ◌<◌, ◌≤◌, true, false, eqb, List, [], ◌∷◌, length, Ok, sym, refl, ap, ◌∙◌, subst, ap₂, inl, inr, ⊎_elim, arith}
use Rattle.std.proofs.lemmas.Bool.{eq-eqb, ne_eqb, cond-true, cond-false, cases_Bool, cases_eq, cases_lt, cases_order, true≢false}
use Rattle.rings.specs.Members.{RingLaws}
use Rattle.rings.specs.Kinds.{Kind, ValueLaws}
use Rattle.formats.specs.Keys.{pack, unpack, within}
use Rattle.formats.specs.Variables.{total as bits}
use Rattle.formats.specs.declared.variable.Variable.{Variable}
use Rattle.formats.proofs.Keys.{pack-lt}
use Rattle.rows.specs.Canonical.{coefficient, Under, Canonical}
use Rattle.rows.specs.declared.Row.{Row}
use Rattle.rows.proofs.Canonical.{under_more, none_under, skip, take_at}
use Rattle.algebra.specs.Polynomials.{Poly, Agree, Finite, term}
use Rattle.algebra.specs.Tables.{Every, Some, Falling, Term, CanonicalRows, meant}
use Rattle.algebra.specs.Theorems.{RowsOfPolynomials}
use Rattle.algebra.proofs.Orders.{cases_zero}
use Rattle.algebra.proofs.Splits.{zero-plus}
use Rattle.algebra.proofs.Products.{term_here, term_elsewhere}
use Rattle.algebra.proofs.Packing.{length_unpack, within-unpack, unpack-back, pack-back, pack_injective, exponent_bound}

pub every_under : {V : Type 0} (b : ℕ) (xs : List (Row V)) → Every (λ x. x.key < b) xs → Under b xs
every_under b [] n = tt
every_under b (x ∷ xs) n = (n.0, every_under b xs n.1)

pub under_every : {V : Type 0} (b : ℕ) (xs : List (Row V)) → Under b xs → Every (λ x. x.key < b) xs
under_every b [] u = tt
under_every b (x ∷ xs) u = (u.0, under_every b xs u.1)

module _ {V : Type 0} (K : Kind V) (vs : List Variable) where
  pub term_agree : (p q : Poly K.ops) (x : Row V) (t : Term K vs p x) → p t.list ≡ q t.list → Term K vs q x
  term_agree p q x t h = record { list = t.list; long = t.long; inside = t.inside; there = λ z. t.there (h ∙ z); key = t.key; value = ap K.value (sym h) ∙ t.value }

  terms_agree : (p q : Poly K.ops) → Agree K.ops (length vs) p q → (xs : List (Row V)) → Every (Term K vs p) xs → Every (Term K vs q) xs
  terms_agree p q h [] t = tt
  terms_agree p q h (x ∷ xs) t = (term_agree p q x t.0 (h t.0.list t.0.long), terms_agree p q h xs t.1)

  pub rows_agree : (p q : Poly K.ops) (xs : List (Row V)) → Agree K.ops (length vs) p q → CanonicalRows K vs p xs → CanonicalRows K vs q xs
  rows_agree p q xs h c = record { falling = c.falling; terms = terms_agree p q h xs c.terms; complete = λ e l z. c.complete e l (λ w. z (sym (h e l) ∙ w)) }

module _ {V : Type 0} (K : Kind V) where
  -- ---- whether a table has a row of a key
  none_of : (k : ℕ) (xs : List (Row V)) → (Some (λ x. x.key ≡ k) xs → ⊥) → coefficient K xs k ≡ K.ops.zero
  none_of k [] n = refl
  none_of k (x ∷ xs) n = cond-false (eqb x.key k) _ _ (ne_eqb x.key k (λ e. n (inl e))) ∙ none_of k xs (λ s. n (inr s))

  some_of : (k : ℕ) (xs : List (Row V)) → (coefficient K xs k ≡ K.ops.zero → ⊥) → Some (λ x. x.key ≡ k) xs
  some_of k [] n = n refl
  some_of k (x ∷ xs) n =
      let again = some_of k xs in
      ⊎_elim inl (λ h. inr (again (λ z. n (cond-false (eqb x.key k) _ _ (ne_eqb x.key k h) ∙ z)))) (cases_eq x.key k)

  pub under_some : (j k : ℕ) (xs : List (Row V)) → Under j xs → Some (λ x. x.key ≡ k) xs → k < j
  under_some j k [] u s = absurd s
  under_some j k (x ∷ xs) u s = let again = under_some j k xs u.1 in ⊎_elim (λ e. let l = u.0 in omega arith) again s

module _ {V : Type 0} (K : Kind V) (ring : RingLaws K.ops) (laws : ValueLaws K) where
  -- ---- canonical rows are known from the coefficients that they give
  pub one-canonical : (xs ys : List (Row V)) → Canonical K xs → Canonical K ys → ((k : ℕ) → coefficient K xs k ≡ coefficient K ys k) → xs ≡ ys
  one-canonical [] [] cx cy h = refl
  one-canonical [] (y ∷ ys) cx cy h = absurd (cy.1 (sym (take_at K ring laws y ys y.key refl cy.2) ∙ sym (h y.key)))
  one-canonical (x ∷ xs) [] cx cy h = absurd (cx.1 (sym (take_at K ring laws x xs x.key refl cx.2) ∙ h x.key))
  one-canonical (x ∷ xs) (y ∷ ys) cx cy h =
      let again = one-canonical xs ys cx.3 cy.3 in
      ⊎_elim (λ e. same e again) (⊎_elim (λ l. absurd (second l)) (λ l. absurd (first l))) (cases_order x.key y.key)
    where
      second : x.key < y.key → ⊥
      second l = cy.1 (sym (take_at K ring laws y ys y.key refl cy.2) ∙ sym (h y.key) ∙ none_under K ring laws y.key (x ∷ xs) (l, under_more x.key y.key xs l cx.2))

      first : y.key < x.key → ⊥
      first l = cx.1 (sym (take_at K ring laws x xs x.key refl cx.2) ∙ h x.key ∙ none_under K ring laws x.key (y ∷ ys) (l, under_more y.key x.key ys l cy.2))

      tails : x.key ≡ y.key → (k : ℕ) → coefficient K xs k ≡ coefficient K ys k
      tails e k =
          ⊎_elim
          (λ q. none_under K ring laws k xs (subst (λ j. Under j xs) (sym q) cx.2) ∙ sym (none_under K ring laws k ys (subst (λ j. Under j ys) (sym (q ∙ e)) cy.2)))
          (λ n. sym (skip K ring laws x xs k n) ∙ h k ∙ skip K ring laws y ys k (λ q. n (q ∙ sym e)))
          (cases_eq k x.key)

      same : x.key ≡ y.key → (((k : ℕ) → coefficient K xs k ≡ coefficient K ys k) → xs ≡ ys) → x ∷ xs ≡ y ∷ ys
      same e again =
          let u = subst (λ k. Under k ys) (sym e) cy.2 in
          let m = sym (take_at K ring laws x xs x.key refl cx.2) ∙ h x.key ∙ take_at K ring laws y ys x.key (sym e) u in
          let v : Ok x.coefficient ≡ Ok y.coefficient = sym cx.0 ∙ ap K.value m ∙ cy.0 in
          let c : x.coefficient ≡ y.coefficient = cc in
          let rest = again (tails e) in
          λ i. record { key = e i; coefficient = c i } ∷ rest i

module _ {V : Type 0} (K : Kind V) (ring : RingLaws K.ops) (vs : List Variable) where
  abbrev M : Type 0
  M = K.ops.Member

  abbrev plus : M → M → M
  plus = K.ops.plus

  -- the keys have no bits but those of the variables
  abbrev pub Narrow : List (Row V) → Type 0
  Narrow xs = Every (λ x. x.key < 2 ^ bits vs) xs

  pub meant-within : (xs : List (Row V)) (e : List ℕ) → length e ≡ length vs → within vs e ≡ true → Narrow xs → meant K vs xs e ≡ coefficient K xs (pack vs e)
  meant-within [] e l w n = refl
  meant-within (x ∷ xs) e l w n = ⊎_elim (here (meant-within xs e l w n.1)) (elsewhere (meant-within xs e l w n.1)) (cases_eq x.key (pack vs e))
    where
      m : M
      m = K.meaning x.coefficient

      here : meant K vs xs e ≡ coefficient K xs (pack vs e) → x.key ≡ pack vs e → meant K vs (x ∷ xs) e ≡ coefficient K (x ∷ xs) (pack vs e)
      here rest h =
          let list : unpack vs x.key ≡ e = ap (unpack vs) h ∙ unpack-back vs e l w in
          ap₂ plus (ap (λ t. term K.ops t m e) list ∙ term_here K.ops ring e m) rest ∙ sym (cond-true (eqb x.key (pack vs e)) _ _ (eq-eqb x.key (pack vs e) h))

      elsewhere : meant K vs xs e ≡ coefficient K xs (pack vs e) → (x.key ≡ pack vs e → ⊥) → meant K vs (x ∷ xs) e ≡ coefficient K (x ∷ xs) (pack vs e)
      elsewhere rest h =
          let none = term_elsewhere K.ops ring (unpack vs x.key) m e (λ q. h (sym (pack-back vs x.key n.0) ∙ ap (pack vs) (sym q))) in
          ap₂ plus none rest ∙ zero-plus K.ops ring (coefficient K xs (pack vs e)) ∙ sym (cond-false (eqb x.key (pack vs e)) _ _ (ne_eqb x.key (pack vs e) h))

  pub meant_outside : (xs : List (Row V)) (e : List ℕ) → within vs e ≡ false → meant K vs xs e ≡ K.ops.zero
  meant_outside [] e w = refl
  meant_outside (x ∷ xs) e w =
      let none = term_elsewhere K.ops ring (unpack vs x.key) (K.meaning x.coefficient) e (λ q. true≢false (sym (within-unpack vs x.key) ∙ ap (within vs) (sym q) ∙ w)) in
      ap₂ plus none (meant_outside xs e w) ∙ ring.plus_zero K.ops.zero

  pub wide-none : (k : ℕ) (xs : List (Row V)) → Narrow xs → 2 ^ bits vs ≤ k → coefficient K xs k ≡ K.ops.zero
  wide-none k [] n h = refl
  wide-none k (x ∷ xs) n h = cond-false (eqb x.key k) _ _ (ne_eqb x.key k (λ e. let l = n.0 in omega arith)) ∙ wide-none k xs n.1 h

  module _ (laws : ValueLaws K) where
    -- ---- what the rows of a polynomial give
    module _ (p : Poly K.ops) where
      list_of : (x : Row V) (t : Term K vs p x) (e : List ℕ) → length e ≡ length vs → within vs e ≡ true → x.key ≡ pack vs e → t.list ≡ e
      list_of x t e l w h = pack_injective vs t.list e t.long l t.inside w (sym t.key ∙ h)

      member : (x : Row V) (t : Term K vs p x) → K.meaning x.coefficient ≡ p t.list
      member x t = laws.means (p t.list) x.coefficient t.value

      given_at : (xs : List (Row V)) → Falling xs → Every (Term K vs p) xs → (e : List ℕ) → length e ≡ length vs → within vs e ≡ true → Some (λ x. x.key ≡ pack vs e) xs → coefficient K xs (pack vs e) ≡ p e
      given_at [] f t e l w s = absurd s
      given_at (x ∷ xs) f t e l w s =
          let again = given_at xs f.1 t.1 e l w in
          ⊎_elim
          (λ h. take_at K ring laws x xs (pack vs e) h (subst (λ k. Under k xs) h f.0) ∙ member x t.0 ∙ ap p (list_of x t.0 e l w h))
          (λ h. skip K ring laws x xs (pack vs e) (λ q. let b = under_some K x.key (pack vs e) xs f.0 h in omega arith) ∙ again h)
          s

      not_zero_at : (xs : List (Row V)) → Every (Term K vs p) xs → (e : List ℕ) → length e ≡ length vs → within vs e ≡ true → Some (λ x. x.key ≡ pack vs e) xs → p e ≡ K.ops.zero → ⊥
      not_zero_at [] t e l w s z = s
      not_zero_at (x ∷ xs) t e l w s z =
          let again = not_zero_at xs t.1 e l w in
          ⊎_elim (λ h. t.0.there (ap p (list_of x t.0 e l w h) ∙ z)) (λ h. again h z) s

      terms-narrow : (xs : List (Row V)) → Every (Term K vs p) xs → Narrow xs
      terms-narrow [] t = tt
      terms-narrow (x ∷ xs) t = (let h = pack-lt vs t.0.list t.0.inside in let k = t.0.key in omega arith, terms-narrow xs t.1)

      terms-canonical : (xs : List (Row V)) → Falling xs → Every (Term K vs p) xs → Canonical K xs
      terms-canonical [] f t = tt
      terms-canonical (x ∷ xs) f t =
          let m = member x t.0 in
          (ap K.value m ∙ t.0.value, (λ z. t.0.there (sym m ∙ z)), f.0, terms-canonical xs f.1 t.1)

      outside_zero : (xs : List (Row V)) → CanonicalRows K vs p xs → (e : List ℕ) → length e ≡ length vs → (within vs e ≡ true → ⊥) → p e ≡ K.ops.zero
      outside_zero xs c e l n = ⊎_elim (λ z. z) (λ z. absurd (n (c.complete e l z).0)) (cases_zero K.ops ring (p e))

      means-at : (xs : List (Row V)) → CanonicalRows K vs p xs → Agree K.ops (length vs) p (meant K vs xs)
      means-at xs c e l = ⊎_elim inside outside (cases_Bool (within vs e))
        where
          inside : within vs e ≡ true → p e ≡ meant K vs xs e
          inside w =
              let bridge = sym (meant-within xs e l w (terms-narrow xs c.terms)) in
              ⊎_elim
              (λ z. z ∙ sym (none_of K (pack vs e) xs (λ s. not_zero_at xs c.terms e l w s z)) ∙ bridge)
              (λ z. sym (given_at xs c.falling c.terms e l w (c.complete e l z).1) ∙ bridge)
              (cases_zero K.ops ring (p e))

          outside : within vs e ≡ false → p e ≡ meant K vs xs e
          outside w = outside_zero xs c e l (λ t. true≢false (sym t ∙ w)) ∙ sym (meant_outside xs e w)

      finite-rows : (xs : List (Row V)) → CanonicalRows K vs p xs → Finite K.ops (length vs) p
      finite-rows xs c = (2 ^ bits vs, λ e l b. outside_zero xs c e l (λ w. let h = exponent_bound vs e b.0 l w in let g = b.1 in omega arith))

    -- ---- rows that are canonical are those of what they mean
    terms-of : (all : List (Row V)) → Narrow all → (xs : List (Row V)) → Canonical K xs → Narrow xs → ((k : ℕ) → Some (λ x. x.key ≡ k) xs → coefficient K all k ≡ coefficient K xs k) → Every (Term K vs (meant K vs all)) xs
    terms-of all na [] c n h = tt
    terms-of all na (x ∷ xs) c n h = (here, terms-of all na xs c.3 n.1 (λ k s. h k (inr s) ∙ skip K ring laws x xs k (λ q. let b = under_some K x.key k xs c.2 s in omega arith)))
      where
        at : meant K vs all (unpack vs x.key) ≡ K.meaning x.coefficient
        at =
            meant-within all (unpack vs x.key) (length_unpack vs x.key) (within-unpack vs x.key) na
            ∙ ap (coefficient K all) (pack-back vs x.key n.0)
            ∙ h x.key (inl refl)
            ∙ take_at K ring laws x xs x.key refl c.2

        here : Term K vs (meant K vs all) x
        here = record {
          list = unpack vs x.key;
          long = length_unpack vs x.key;
          inside = within-unpack vs x.key;
          there = λ z. c.1 (sym at ∙ z);
          key = sym (pack-back vs x.key n.0);
          value = ap K.value at ∙ c.0;
        }

    canonical_falls : (xs : List (Row V)) → Canonical K xs → Falling xs
    canonical_falls [] c = tt
    canonical_falls (x ∷ xs) c = (c.2, canonical_falls xs c.3)

    exists : (xs : List (Row V)) → Canonical K xs → Narrow xs → CanonicalRows K vs (meant K vs xs) xs
    exists xs c n = record {
      falling = canonical_falls xs c;
      terms = terms-of xs n xs c n (λ k s. refl);
      complete = λ e l z. ⊎_elim
          (λ w. (w, some_of K (pack vs e) xs (λ q. z (meant-within xs e l w n ∙ q))))
          (λ w. absurd (z (meant_outside xs e w)))
          (cases_Bool (within vs e));
    }

    -- rows that mean one polynomial give each key one coefficient
    same_coefficients : (xs ys : List (Row V)) → Narrow xs → Narrow ys → Agree K.ops (length vs) (meant K vs xs) (meant K vs ys) → (k : ℕ) → coefficient K xs k ≡ coefficient K ys k
    same_coefficients xs ys nx ny h k = ⊎_elim narrow (λ l. wide-none k xs nx l ∙ sym (wide-none k ys ny l)) (cases_lt k (2 ^ bits vs))
      where
        at : (zs : List (Row V)) → Narrow zs → k < 2 ^ bits vs → coefficient K zs k ≡ meant K vs zs (unpack vs k)
        at zs n l = ap (coefficient K zs) (sym (pack-back vs k l)) ∙ sym (meant-within zs (unpack vs k) (length_unpack vs k) (within-unpack vs k) n)

        narrow : k < 2 ^ bits vs → coefficient K xs k ≡ coefficient K ys k
        narrow l = at xs nx l ∙ h (unpack vs k) (length_unpack vs k) ∙ sym (at ys ny l)

    pub tabling : RowsOfPolynomials K vs
    tabling = record {
      one_table = λ p q xs ys c d h. one-canonical K ring laws xs ys (terms-canonical p xs c.falling c.terms) (terms-canonical q ys d.falling d.terms)
          (same_coefficients xs ys (terms-narrow p xs c.terms) (terms-narrow q ys d.terms) (λ e l. sym (means-at p xs c e l) ∙ h e l ∙ means-at q ys d e l));
      one_polynomial = λ p q xs c d e l. means-at p xs c e l ∙ sym (means-at q xs d e l);
      means = means-at;
      finite = finite-rows;
      canonical = λ p xs c. (terms-canonical p xs c.falling c.terms, terms-narrow p xs c.terms);
      exist = exists;
    }
