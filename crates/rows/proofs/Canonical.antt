-- The sum of two canonical tables is the sum of their polynomials, and is refused only where a coefficient of that does not fit. Assumes nothing.
--     sum-adds          an accepted sum adds
--     sum_under         its keys are below what those of both tables are below
--     sum_overflows     a refused one has a coefficient that does not fit
use Rattle.std.proofs.Common.{◌≡◌, ℕ, ◌<◌, Bool, true, false, cond, eqb, List, [], ◌∷◌, Ok, Err, Result, sym, refl, ap, ◌∙◌, subst, ⊎_elim, lt_trans, arith}
use Rattle.std.proofs.lemmas.Bool.{eq-eqb, ne_eqb, cond-true, cond-false, cases_Bool, cases_order, true≢false}
use Rattle.refusals.specs.declared.Refusal.{Refusal}
use Rattle.refusals.specs.declared.Refusal.TheVariants.{Unfit}
use Rattle.rings.specs.Members.{RingLaws}
use Rattle.rings.specs.Kinds.{Kind, Fits, ValueLaws}
use Rattle.rows.specs.declared.Row.{Row}
use Rattle.rows.specs.Tables.{row, sum, both, consed}
use Rattle.rows.specs.Canonical.{coefficient, Under, Canonical, Adds, Overflows}
use Rattle.rows.proofs.Sums.{sum_first, sum-second, sum_both}

pub under_more : {V : Type 0} (j k : ℕ) (xs : List (Row V)) → j < k → Under j xs → Under k xs
under_more j k [] h u = tt
under_more j k (x ∷ xs) h u = (lt_trans u.0 h, under_more j k xs h u.1)

-- what a row before a refusal or a table is
consed-ok : {V : Type 0} (x : Row V) (r : Result (List (Row V)) Refusal) (zs : List (Row V)) → consed x r ≡ Ok zs → (ws : List (Row V)) × (r ≡ Ok ws) × (zs ≡ x ∷ ws)
consed-ok x (Ok ws) zs e = (ws, refl, cc)
consed-ok x (Err c) zs e = absurd (let z : ◌≡◌ {A = ℕ} 0 1 = cc in omega arith)

module _ {V : Type 0} (K : Kind V) (ring : RingLaws K.ops) (laws : ValueLaws K) where
  abbrev M : Type 0
  M = K.ops.Member

  abbrev plus : M → M → M
  plus = K.ops.plus

  zero-plus : (a : M) → plus K.ops.zero a ≡ a
  zero-plus a = ring.plus_comm K.ops.zero a ∙ ring.plus_zero a

  -- a row's member before what its rows after it give
  abbrev given : Bool → M → M → M
  given t a c = cond t (plus a c) c

  given_left : (t : Bool) (a c d : M) → given t a (plus c d) ≡ plus (given t a c) d
  given_left true a c d = sym (ring.plus_assoc a c d)
  given_left false a c d = refl

  given_right : (t : Bool) (a c d : M) → given t a (plus c d) ≡ plus c (given t a d)
  given_right true a c d = sym (ring.plus_assoc a c d) ∙ ap (λ x. plus x d) (ring.plus_comm a c) ∙ ring.plus_assoc c a d
  given_right false a c d = refl

  given_both : (t : Bool) (a b c d : M) → given t (plus a b) (plus c d) ≡ plus (given t a c) (given t b d)
  given_both true a b c d = ring.plus_assoc a b (plus c d) ∙ ap (plus a) (given_right true b c d) ∙ sym (ring.plus_assoc a c (plus b d))
  given_both false a b c d = refl

  given_zero : (t : Bool) (a c : M) → a ≡ K.ops.zero → given t a c ≡ c
  given_zero true a c e = ap (λ x. plus x c) e ∙ zero-plus c
  given_zero false a c e = refl

  -- a sum, with where its keys lie
  record Sum (xs ys zs : List (Row V)) : Type 0 where
    all : Adds K xs ys zs
    under : (b : ℕ) → Under b xs → Under b ys → Under b zs

  module _ (x : Row V) (xs : List (Row V)) (cx : Canonical K (x ∷ xs)) (rest : (ys zs : List (Row V)) → Canonical K ys → sum K xs ys ≡ Ok zs → Sum xs ys zs) where
    module _ (y : Row V) (ys : List (Row V)) (cy : Canonical K (y ∷ ys)) where
      a : M
      a = K.meaning x.coefficient

      b : M
      b = K.meaning y.coefficient

      first : (zs : List (Row V)) → y.key < x.key → sum K (x ∷ xs) (y ∷ ys) ≡ Ok zs → Sum (x ∷ xs) (y ∷ ys) zs
      unfolding a
      first zs h e =
          let p = consed-ok x (sum K xs (y ∷ ys)) zs (sym (sum_first K x xs y ys h) ∙ e) in
          let r = rest (y ∷ ys) p.0 cy p.1 in
          subst (Sum (x ∷ xs) (y ∷ ys)) (sym p.2) (record {
            all = record {
              canonical = (cx.0, cx.1, r.under x.key cx.2 (h, under_more y.key x.key ys h cy.2), r.all.canonical);
              adds = λ k. ap (given (eqb x.key k) a) (r.all.adds k) ∙ given_left (eqb x.key k) a (coefficient K xs k) (coefficient K (y ∷ ys) k);
            };
            under = λ t u v. (u.0, r.under t u.1 v);
          })

      second : (zs : List (Row V)) → x.key < y.key → sum K (x ∷ xs) (y ∷ ys) ≡ Ok zs → ((ws : List (Row V)) → sum K (x ∷ xs) ys ≡ Ok ws → Sum (x ∷ xs) ys ws) → Sum (x ∷ xs) (y ∷ ys) zs
      unfolding b
      second zs h e again =
          let p = consed-ok y (sum K (x ∷ xs) ys) zs (sym (sum-second K x xs y ys h) ∙ e) in
          let r = again p.0 p.1 in
          subst (Sum (x ∷ xs) (y ∷ ys)) (sym p.2) (record {
            all = record {
              canonical = (cy.0, cy.1, r.under y.key (h, under_more x.key y.key xs h cx.2) cy.2, r.all.canonical);
              adds = λ k. ap (given (eqb y.key k) b) (r.all.adds k) ∙ given_right (eqb y.key k) b (coefficient K (x ∷ xs) k) (coefficient K ys k);
            };
            under = λ t u v. (v.0, r.under t u v.1);
          })

      -- two rows of one key, whose sum has the value v
      joined : (zs : List (Row V)) (v : V) → x.key ≡ y.key → K.value (plus a b) ≡ Ok v → both K x.key (Ok v) (sum K xs ys) ≡ Ok zs → Sum (x ∷ xs) (y ∷ ys) zs
      unfolding a b
      joined zs v h f e = ⊎_elim gone stays (cases_Bool (K.ops.same (K.meaning v) K.ops.zero))
        where
          sums : K.meaning v ≡ plus a b
          sums = laws.means (plus a b) v f

          adds-at : (ws : List (Row V)) → Sum xs ys ws → (k : ℕ) → given (eqb x.key k) (K.meaning v) (coefficient K ws k) ≡ plus (coefficient K (x ∷ xs) k) (coefficient K (y ∷ ys) k)
          adds-at ws r k = (λ i. given (eqb x.key k) (sums i) (r.all.adds k i)) ∙ given_both (eqb x.key k) a b (coefficient K xs k) (coefficient K ys k) ∙ ap (λ m. plus (coefficient K (x ∷ xs) k) (given (eqb m k) b (coefficient K ys k))) h

          gone : K.ops.same (K.meaning v) K.ops.zero ≡ true → Sum (x ∷ xs) (y ∷ ys) zs
          gone t =
              let r = rest ys zs cy.3 (sym (cond-true _ _ _ t) ∙ e) in
              let none = (ring.decides (K.meaning v) K.ops.zero).0 t in
              record {
                all = record { canonical = r.all.canonical; adds = λ k. sym (given_zero (eqb x.key k) (K.meaning v) (coefficient K zs k) none) ∙ adds-at zs r k };
                under = λ t u w. r.under t u.1 w.1;
              }

          stays : K.ops.same (K.meaning v) K.ops.zero ≡ false → Sum (x ∷ xs) (y ∷ ys) zs
          stays t =
              let p = consed-ok (row x.key v) (sum K xs ys) zs (sym (cond-false _ _ _ t) ∙ e) in
              let r = rest ys p.0 cy.3 p.1 in
              subst (Sum (x ∷ xs) (y ∷ ys)) (sym p.2) (record {
                all = record {
                  canonical = (ap K.value sums ∙ f, (λ z. true≢false (sym ((ring.decides (K.meaning v) K.ops.zero).1 z) ∙ t)), r.under x.key cx.2 (subst (λ m. Under m ys) (sym h) cy.2), r.all.canonical);
                  adds = adds-at p.0 r;
                };
                under = λ t u w. (u.0, r.under t u.1 w.1);
              })

      equal : (zs : List (Row V)) → x.key ≡ y.key → sum K (x ∷ xs) (y ∷ ys) ≡ Ok zs → Sum (x ∷ xs) (y ∷ ys) zs
      unfolding a b
      equal zs h e = by (K.value (plus a b)) refl (sym (sum_both K x xs y ys (omega arith) (omega arith)) ∙ e)
        where
          by : (r : Result V Refusal) → K.value (plus a b) ≡ r → both K x.key r (sum K xs ys) ≡ Ok zs → Sum (x ∷ xs) (y ∷ ys) zs
          by (Ok v) f g = joined zs v h f g
          by (Err c) f g = absurd (let z : ◌≡◌ {A = ℕ} 0 1 = cc in omega arith)

    with_row : (ys zs : List (Row V)) → Canonical K ys → sum K (x ∷ xs) ys ≡ Ok zs → Sum (x ∷ xs) ys zs
    with_row [] zs cy e =
        let s : x ∷ xs ≡ zs = cc in
        subst (Sum (x ∷ xs) []) s (record { all = record { canonical = cx; adds = λ k. sym (ring.plus_zero (coefficient K (x ∷ xs) k)) }; under = λ t u v. u })
    with_row (y ∷ ys) zs cy e =
        let again : (ws : List (Row V)) → sum K (x ∷ xs) ys ≡ Ok ws → Sum (x ∷ xs) ys ws = λ ws f. with_row ys ws cy.3 f in
        ⊎_elim (λ h. equal y ys cy zs h e) (⊎_elim (λ h. second y ys cy zs h e again) (λ h. first y ys cy zs h e)) (cases_order x.key y.key)

  all_rows : (xs ys zs : List (Row V)) → Canonical K xs → Canonical K ys → sum K xs ys ≡ Ok zs → Sum xs ys zs
  all_rows [] ys zs cx cy e =
      let s : ys ≡ zs = cc in
      subst (Sum [] ys) s (record { all = record { canonical = cy; adds = λ k. sym (zero-plus (coefficient K ys k)) }; under = λ t u v. v })
  all_rows (x ∷ xs) ys zs cx cy e = with_row x xs cx (λ vs ws c f. all_rows xs vs ws cx.3 c f) ys zs cy e

  pub sum-adds : (xs ys zs : List (Row V)) → Canonical K xs → Canonical K ys → sum K xs ys ≡ Ok zs → Adds K xs ys zs
  sum-adds xs ys zs cx cy e = (all_rows xs ys zs cx cy e).all

  pub sum_under : (xs ys zs : List (Row V)) → Canonical K xs → Canonical K ys → sum K xs ys ≡ Ok zs → (b : ℕ) → Under b xs → Under b ys → Under b zs
  sum_under xs ys zs cx cy e = (all_rows xs ys zs cx cy e).under

  -- ---- a refused sum
  pub none_under : (k : ℕ) (xs : List (Row V)) → Under k xs → coefficient K xs k ≡ K.ops.zero
  none_under k [] u = refl
  none_under k (x ∷ xs) u = cond-false (eqb x.key k) _ _ (ne_eqb x.key k (λ e. let l = u.0 in omega arith)) ∙ none_under k xs u.1

  record Refused (xs ys : List (Row V)) (e : Refusal) : Type 0 where
    unfit : e ≡ Unfit
    at : ℕ
    over : Fits K (plus (coefficient K xs at) (coefficient K ys at)) → ⊥

  -- a key that neither table has overflows nothing
  zeros_fit : (p q : M) → p ≡ K.ops.zero → q ≡ K.ops.zero → Fits K (plus p q)
  zeros_fit p q e f = (K.zero_value, (λ i. K.value (plus (e i) (f i))) ∙ ap K.value (ring.plus_zero K.ops.zero) ∙ laws.zero)

  consed_err : (x : Row V) (r : Result (List (Row V)) Refusal) (e : Refusal) → consed x r ≡ Err e → r ≡ Err e
  consed_err x (Ok ws) e h = absurd (let z : ◌≡◌ {A = ℕ} 0 1 = cc in omega arith)
  consed_err x (Err c) e h = h

  -- the refusal of what is left is that of the whole, where the row's own key is not the one that overflows
  carry : (xs ys xs' ys' : List (Row V)) (e : Refusal) (j : ℕ) → Refused xs ys e → coefficient K xs j ≡ K.ops.zero → coefficient K ys j ≡ K.ops.zero → ((k : ℕ) → (k ≡ j → ⊥) → (coefficient K xs' k ≡ coefficient K xs k) × (coefficient K ys' k ≡ coefficient K ys k)) → Refused xs' ys' e
  carry xs ys xs' ys' e j r p q same =
      let k = r.at in
      let apart : k ≡ j → ⊥ = λ h. r.over (zeros_fit _ _ (ap (coefficient K xs) h ∙ p) (ap (coefficient K ys) h ∙ q)) in
      let s = same k apart in
      record { unfit = r.unfit; at = k; over = λ f. r.over (subst (Fits K) (λ i. plus (s.0 i) (s.1 i)) f) }

  pub skip : (x : Row V) (xs : List (Row V)) (k : ℕ) → (k ≡ x.key → ⊥) → coefficient K (x ∷ xs) k ≡ coefficient K xs k
  skip x xs k n = cond-false (eqb x.key k) _ _ (ne_eqb x.key k (λ e. n (sym e)))

  pub take_at : (x : Row V) (xs : List (Row V)) (k : ℕ) → x.key ≡ k → Under k xs → coefficient K (x ∷ xs) k ≡ K.meaning x.coefficient
  take_at x xs k e u = cond-true (eqb x.key k) _ _ (eq-eqb x.key k e) ∙ ap (plus (K.meaning x.coefficient)) (none_under k xs u) ∙ ring.plus_zero (K.meaning x.coefficient)

  module _ (x : Row V) (xs : List (Row V)) (cx : Canonical K (x ∷ xs)) (rest : (ys : List (Row V)) (e : Refusal) → Canonical K ys → sum K xs ys ≡ Err e → Refused xs ys e) where
    module _ (y : Row V) (ys : List (Row V)) (cy : Canonical K (y ∷ ys)) (e : Refusal) where
      refused-first : y.key < x.key → sum K (x ∷ xs) (y ∷ ys) ≡ Err e → Refused (x ∷ xs) (y ∷ ys) e
      refused-first h f =
          let r = rest (y ∷ ys) e cy (consed_err x (sum K xs (y ∷ ys)) e (sym (sum_first K x xs y ys h) ∙ f)) in
          carry xs (y ∷ ys) (x ∷ xs) (y ∷ ys) e x.key r (none_under x.key xs cx.2) (none_under x.key (y ∷ ys) (h, under_more y.key x.key ys h cy.2)) (λ k n. (skip x xs k n, refl))

      refused-second : x.key < y.key → sum K (x ∷ xs) (y ∷ ys) ≡ Err e → (sum K (x ∷ xs) ys ≡ Err e → Refused (x ∷ xs) ys e) → Refused (x ∷ xs) (y ∷ ys) e
      refused-second h f again =
          let r = again (consed_err y (sum K (x ∷ xs) ys) e (sym (sum-second K x xs y ys h) ∙ f)) in
          carry (x ∷ xs) ys (x ∷ xs) (y ∷ ys) e y.key r (none_under y.key (x ∷ xs) (h, under_more x.key y.key xs h cx.2)) (none_under y.key ys cy.2) (λ k n. (refl, skip y ys k n))

      refused-equal : x.key ≡ y.key → sum K (x ∷ xs) (y ∷ ys) ≡ Err e → Refused (x ∷ xs) (y ∷ ys) e
      refused-equal h f = by (K.value (plus (K.meaning x.coefficient) (K.meaning y.coefficient))) refl (sym (sum_both K x xs y ys (omega arith) (omega arith)) ∙ f)
        where
          left : sum K xs ys ≡ Err e → Refused (x ∷ xs) (y ∷ ys) e
          left g =
              let r = rest ys e cy.3 g in
              carry xs ys (x ∷ xs) (y ∷ ys) e x.key r (none_under x.key xs cx.2) (none_under x.key ys (subst (λ m. Under m ys) (sym h) cy.2)) (λ k n. (skip x xs k n, skip y ys k (λ q. n (q ∙ sym h))))

          by : (r : Result V Refusal) → K.value (plus (K.meaning x.coefficient) (K.meaning y.coefficient)) ≡ r → both K x.key r (sum K xs ys) ≡ Err e → Refused (x ∷ xs) (y ∷ ys) e
          by (Ok v) g i = ⊎_elim (λ t. left (sym (cond-true _ _ _ t) ∙ i)) (λ t. left (consed_err (row x.key v) (sum K xs ys) e (sym (cond-false _ _ _ t) ∙ i))) (cases_Bool (K.ops.same (K.meaning v) K.ops.zero))
          by (Err c) g i =
              let same : c ≡ e = cc in
              record {
                unfit = sym same ∙ laws.unfit _ c g;
                at = x.key;
                over = λ t.
                    let u = take_at x xs x.key refl cx.2 in
                    let w = take_at y ys x.key (sym h) (subst (λ m. Under m ys) (sym h) cy.2) in
                    let v : K.value (plus (K.meaning x.coefficient) (K.meaning y.coefficient)) ≡ Ok t.0 = sym (λ i. K.value (plus (u i) (w i))) ∙ t.1 in
                    let z : ◌≡◌ {A = ℕ} 0 1 = cc in
                    omega arith;
              }

    refused-row : (ys : List (Row V)) (e : Refusal) → Canonical K ys → sum K (x ∷ xs) ys ≡ Err e → Refused (x ∷ xs) ys e
    refused-row [] e cy f = absurd (let z : ◌≡◌ {A = ℕ} 0 1 = cc in omega arith)
    refused-row (y ∷ ys) e cy f =
        let again : sum K (x ∷ xs) ys ≡ Err e → Refused (x ∷ xs) ys e = λ g. refused-row ys e cy.3 g in
        ⊎_elim (λ h. refused-equal y ys cy e h f) (⊎_elim (λ h. refused-second y ys cy e h f again) (λ h. refused-first y ys cy e h f)) (cases_order x.key y.key)

  refused_all : (xs ys : List (Row V)) (e : Refusal) → Canonical K xs → Canonical K ys → sum K xs ys ≡ Err e → Refused xs ys e
  refused_all [] ys e cx cy f = absurd (let z : ◌≡◌ {A = ℕ} 0 1 = cc in omega arith)
  refused_all (x ∷ xs) ys e cx cy f = refused-row x xs cx (λ vs c d g. refused_all xs vs c cx.3 d g) ys e cy f

  pub sum_overflows : (xs ys : List (Row V)) (e : Refusal) → Canonical K xs → Canonical K ys → sum K xs ys ≡ Err e → (e ≡ Unfit) × Overflows K xs ys
  sum_overflows xs ys e cx cy f = let r = refused_all xs ys e cx cy f in (r.unfit, (r.at, r.over))
