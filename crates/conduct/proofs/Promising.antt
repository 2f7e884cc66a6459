-- The promise over whole uses: canonical always; one table, one deck; divides exactly when divisible. Assumes nothing: Settled has what is asked for here as Known.
--     limit-of       the cause of a division that stopped is a limit
--     promise        all of it together
use Rattle.std.proofs.Common.{◌≡◌, ℕ, ◌<◌, Bool, true, ◌&&◌, List, length, Ok, Err, Result, sym, refl, ap, ◌∙◌, subst, inl, inr, ⊎_elim}
use Rattle.std.proofs.lemmas.Bool.{and_from, cond-true, lt-ltb}
use Rattle.refusals.specs.declared.Refusal.{Refusal}
use Rattle.refusals.specs.declared.Refusal.TheVariants.{Place}
use Rattle.rings.specs.Kinds.{Kind}
use Rattle.formats.specs.declared.variable.Variable.{Variable}
use Rattle.rows.specs.declared.Row.{Row}
use Rattle.algebra.specs.Polynomials.{Poly, Agree, nought}
use Rattle.algebra.specs.Tables.{CanonicalRows}
use Rattle.algebra.proofs.Tabling.{tabling}
use Rattle.arithmetic.specs.Dividing.{Over, quotient}
use Rattle.arithmetic.specs.Quotients.{Stopped, Divided}
use Rattle.texts.specs.Decks.{deck}
use Rattle.sheets.specs.Calls.{all_placed}
use Rattle.sheets.specs.Promises.{Formulas}
use Rattle.sheets.specs.States.{State, placed}
use Rattle.conduct.specs.Calls.{answer, changing, cards}
use Rattle.conduct.specs.Calls.Answer.{refused}
use Rattle.conduct.specs.Calls.Call.{divide}
use Rattle.conduct.specs.Uses.{Use, Limit, Follows, left, CanonicalAlways, OneTableOneDeck, Division, DividesWhenDivisible, Promise}
use Rattle.conduct.proofs.Runs.{left-vars, use_holds, use_some}
use Rattle.conduct.proofs.Steps.{Known, Holding}

limit-of : {V : Type 0} (K : Kind V) (vs : List Variable) (c : ℕ) (x y : Poly K.ops) (e : Refusal) → Stopped K vs c x y e → Limit e
limit-of K vs c x y e s =
    ⊎_elim
    (λ t. inr (inl t.0))
    (⊎_elim (λ t. inr (inr (inr t.0))) (⊎_elim (λ t. inr (inr (inl t.0))) (⊎_elim (λ t. inl t.0) (⊎_elim (λ t. inl t.0) (λ t. inr (inr (inr t.0)))))))
    s.cause

module _ {V : Type 0} (K : Kind V) (over : Over V) (vs : List Variable) (may : Bool) (known : Known K over vs may) where
  open known use {ring, laws, division, decks}

  abbrev end : Use → State V
  end = left K over vs

  abbrev Same : Poly K.ops → Poly K.ops → Type 0
  Same = Agree K.ops (length vs)

  vars : (u : Use) → (end u).vars ≡ vs
  vars = left-vars K over vs

  holds : (u : Use) (f : Formulas K) → Follows K over vs may u f → Holding K vs (end u).places f
  holds = use_holds K over vs may known

  canonical_always : CanonicalAlways K over vs may
  canonical_always = record {
    some = use_some K over vs may known;
    holds = λ u f t. subst (λ ws. (p : ℕ) → p < 8 → CanonicalRows K ws (f p) ((end u).places p)) (sym (vars u)) (holds u f t);
  }

  -- ---- one polynomial, one table, one deck
  module _ (x y : Poly K.ops) (xs ys : List (Row V)) (hx : CanonicalRows K vs x xs) (hy : CanonicalRows K vs y ys) where
    table_to : Same x y → xs ≡ ys
    table_to a = (tabling K ring vs laws).one_table x y xs ys hx hy a

    table_from : xs ≡ ys → Same x y
    table_from e = (tabling K ring vs laws).one_polynomial x y ys (subst (CanonicalRows K vs x) e hx) hy

    deck_from : deck K vs xs ≡ deck K vs ys → Same x y
    deck_from e =
        let cx = (tabling K ring vs laws).canonical x xs hx in
        let cy = (tabling K ring vs laws).canonical y ys hy in
        table_from (decks.one_deck xs ys cx.0 cy.0 cx.1 cy.1 e)

  written : (u : Use) (p : ℕ) → cards K (end u) p ≡ deck K vs ((end u).places p)
  written u p = ap (λ ws. deck K ws ((end u).places p)) (vars u)

  one_table_one_deck : OneTableOneDeck K over vs may
  one_table_one_deck = record {
    tables = λ u w f g s t p q lp lq. (table_to (f p) (g q) ((end u).places p) ((end w).places q) (holds u f s p lp) (holds w g t q lq), table_from (f p) (g q) ((end u).places p) ((end w).places q) (holds u f s p lp) (holds w g t q lq));
    decks = λ u w f g s t p q lp lq. (
      (λ a. written u p ∙ ap (deck K vs) (table_to (f p) (g q) ((end u).places p) ((end w).places q) (holds u f s p lp) (holds w g t q lq) a) ∙ sym (written w q)),
      λ e. deck_from (f p) (g q) ((end u).places p) ((end w).places q) (holds u f s p lp) (holds w g t q lq) (sym (written u p) ∙ e ∙ written w q),
    );
  }

  -- ---- divides when divisible
  answers : (u : Use) (x y : Poly K.ops) → (Same y (nought K.ops) → ⊥) → (a : Result (List (Row V)) Refusal) → Divided K vs (end u).room x y a → Division K over vs u x y (changing a)
  answers u x y some (Ok qs) d = inr (inl (refl, (d.0, d.1)))
  answers u x y some (Err e) d =
      ⊎_elim
      (λ z. absurd (some z.1))
      (⊎_elim (λ n. inr (inr (ap refused n.0, n.2))) (λ s. inl (e, refl, limit-of K vs (end u).room x y e s, s)))
      d

  dividing_answer : (u : Use) (r p q : ℕ) → r < 8 → p < 8 → q < 8 → answer K over (end u) (divide r p q) ≡ changing (quotient K over vs (end u).room ((end u).places p) ((end u).places q))
  dividing_answer u r p q lr lp lq =
      let all : all_placed r p q ≡ true = and_from (placed r) (placed p && placed q) (lt-ltb r 8 lr) (and_from (placed p) (placed q) (lt-ltb p 8 lp) (lt-ltb q 8 lq)) in
      ap changing (cond-true (all_placed r p q) (quotient K over (end u).vars (end u).room ((end u).places p) ((end u).places q)) (Err Place) all)
      ∙ ap (λ ws. changing (quotient K over ws (end u).room ((end u).places p) ((end u).places q))) (vars u)

  divides_when_divisible : DividesWhenDivisible K over vs may
  divides_when_divisible = record {
    divides = λ m u f t r p q lr lp lq some.
        subst (Division K over vs u (f p) (f q)) (sym (dividing_answer u r p q lr lp lq))
        (answers u (f p) (f q) some (quotient K over vs (end u).room ((end u).places p) ((end u).places q))
        ((division m (end u).room).quotients (f p) (f q) ((end u).places p) ((end u).places q) (holds u f t p lp) (holds u f t q lq)));
  }

  pub promise : Promise K over vs may
  promise = record { canonical_always = canonical_always; one_table_one_deck = one_table_one_deck; divides_when_divisible = divides_when_divisible }
