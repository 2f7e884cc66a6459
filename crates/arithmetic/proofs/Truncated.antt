-- A truncated table is the canonical rows of the truncated polynomial. Assumes nothing.
--     chosen-rows      the rows that a test of exponents takes are those of the polynomial where it holds, zero elsewhere
--     truncations      truncation is that of one such test
use Rattle.std.proofs.Common.{◌≡◌, ℕ, Bool, true, cond, List, [], ◌∷◌, length, sym, ap, ◌∙◌, inl, inr, ⊎_elim}
use Rattle.std.proofs.lemmas.Bool.{cond-true, cond-false, cond_both, cases_Bool, true≢false}
use Rattle.rings.specs.Kinds.{Kind}
use Rattle.formats.specs.Keys.{pack, unpack, within}
use Rattle.formats.specs.declared.variable.Variable.{Variable}
use Rattle.rows.specs.Canonical.{Under}
use Rattle.rows.specs.declared.Row.{Row}
use Rattle.algebra.specs.Polynomials.{Poly, truncation}
use Rattle.algebra.specs.Tables.{Every, Some, Falling, Term, CanonicalRows}
use Rattle.algebra.proofs.Packing.{unpack-back}
use Rattle.algebra.proofs.Tabling.{term_agree}
use Rattle.arithmetic.specs.Truncating.{chosen, low, truncated}

pub chosen_under : {V : Type 0} (t : Row V → Bool) (k : ℕ) (xs : List (Row V)) → Under k xs → Under k (chosen t xs)
chosen_under t k [] u = tt
chosen_under t k (x ∷ xs) u = let rest = chosen_under t k xs u.1 in cond_both (t x) (x ∷ chosen t xs) (chosen t xs) (Under k) (λ _. (u.0, rest)) (λ _. rest)

chosen-falling : {V : Type 0} (t : Row V → Bool) (xs : List (Row V)) → Falling xs → Falling (chosen t xs)
chosen-falling t [] f = tt
chosen-falling t (x ∷ xs) f =
    let rest = chosen-falling t xs f.1 in
    cond_both (t x) (x ∷ chosen t xs) (chosen t xs) Falling (λ _. (chosen_under t x.key xs f.0, rest)) (λ _. rest)

module _ {V : Type 0} (K : Kind V) (vs : List Variable) where
  -- the list of a row
  pub row_list : (p : Poly K.ops) (x : Row V) (t : Term K vs p x) → unpack vs x.key ≡ t.list
  row_list p x t = ap (unpack vs) t.key ∙ unpack-back vs t.list t.long t.inside

  module _ (test : List ℕ → Bool) (p : Poly K.ops) where
    -- p where the test holds, zero elsewhere
    abbrev pub where_true : Poly K.ops
    where_true e = cond (test e) (p e) K.ops.zero

    abbrev pub taken : List (Row V) → List (Row V)
    taken xs = chosen (λ x. test (unpack vs x.key)) xs

    chosen-terms : (xs : List (Row V)) → Every (Term K vs p) xs → Every (Term K vs where_true) (taken xs)
    chosen-terms [] t = tt
    chosen-terms (x ∷ xs) t =
        let rest = chosen-terms xs t.1 in
        let yes : test (unpack vs x.key) ≡ true → Term K vs where_true x = λ h. term_agree K vs p where_true x t.0 (sym (cond-true (test t.0.list) _ _ (ap test (sym (row_list p x t.0)) ∙ h))) in
        cond_both (test (unpack vs x.key)) (x ∷ taken xs) (taken xs) (Every (Term K vs where_true)) (λ h. (yes h, rest)) (λ _. rest)

    chosen-some : (e : List ℕ) → length e ≡ length vs → within vs e ≡ true → test e ≡ true → (xs : List (Row V)) → Some (λ x. x.key ≡ pack vs e) xs → Some (λ x. x.key ≡ pack vs e) (taken xs)
    chosen-some e l w h [] s = s
    chosen-some e l w h (x ∷ xs) s =
        let again = chosen-some e l w h xs in
        let list : x.key ≡ pack vs e → test (unpack vs x.key) ≡ true = λ k. ap test (ap (unpack vs) k ∙ unpack-back vs e l w) ∙ h in
        let P : List (Row V) → Type 0 = Some (λ x. x.key ≡ pack vs e) in
        ⊎_elim
        (λ k. cond_both (test (unpack vs x.key)) (x ∷ taken xs) (taken xs) P (λ _. inl k) (λ n. absurd (true≢false (sym (list k) ∙ n))))
        (λ k. cond_both (test (unpack vs x.key)) (x ∷ taken xs) (taken xs) P (λ _. inr (again k)) (λ _. again k))
        s

    pub chosen-rows : (xs : List (Row V)) → CanonicalRows K vs p xs → CanonicalRows K vs where_true (taken xs)
    chosen-rows xs c = record { falling = chosen-falling (λ x. test (unpack vs x.key)) xs c.falling; terms = chosen-terms xs c.terms; complete = all }
      where
        all : (e : List ℕ) → length e ≡ length vs → (where_true e ≡ K.ops.zero → ⊥) → (within vs e ≡ true) × Some (λ x. x.key ≡ pack vs e) (taken xs)
        all e l z =
            ⊎_elim
            (λ h. let s = c.complete e l (λ n. z (cond-true (test e) _ _ h ∙ n)) in (s.0, chosen-some e l s.0 h xs s.1))
            (λ h. absurd (z (cond-false (test e) _ _ h)))
            (cases_Bool (test e))

  pub truncations : (k n : ℕ) (p : Poly K.ops) (xs : List (Row V)) → CanonicalRows K vs p xs → CanonicalRows K vs (truncation K.ops k n p) (truncated vs k n xs)
  truncations k n p xs c = chosen-rows (low k n) p xs c
