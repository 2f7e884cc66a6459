-- A table for a variable of another is the canonical rows of the substituted polynomial, or is refused at a term. Assumes nothing.
use Rattle.std.proofs.Common.{◌≡◌, ℕ, zero, suc, ◌<◌, ◌≤◌, true, List, [], ◌∷◌, length, Ok, Result, sym, refl, ap, ◌∙◌, subst, inl, inr, ⊎_elim, arith}
use Rattle.std.proofs.lemmas.List.{length-set}
use Rattle.std.proofs.lemmas.Bool.{cases_Bool, cases_lt, cond-false}
use Rattle.refusals.specs.declared.Refusal.{Refusal}
use Rattle.rings.specs.Members.{RingLaws}
use Rattle.rings.specs.Kinds.{Kind}
use Rattle.formats.specs.Exponents.{alike, exponent, placed}
use Rattle.formats.specs.Keys.{pack, within}
use Rattle.formats.specs.declared.variable.Variable.{Variable}
use Rattle.rows.specs.Canonical.{Under}
use Rattle.rows.specs.Products.{continued}
use Rattle.rows.specs.Tables.{row, sum, limited}
use Rattle.rows.specs.declared.Row.{Row}
use Rattle.algebra.specs.Polynomials.{Poly, Agree, Bounded, nought, term, sum as plus, product, power, substitution}
use Rattle.algebra.specs.Tables.{Every, Falling, Term, CanonicalRows}
use Rattle.algebra.proofs.Exponents.{alike_true}
use Rattle.algebra.proofs.Products.{term_here, product_assoc, product_one}
use Rattle.algebra.proofs.Substituting.{substituting, substitution_agree, substitution-nought, substitution-term}
use Rattle.arithmetic.specs.Multiplying.{product as product_rows}
use Rattle.arithmetic.specs.Refusals.{TooLarge, NoProduct, NoSubstitution, every, upto}
use Rattle.arithmetic.specs.Substituting.{raised, term_raised, substituted}
use Rattle.arithmetic.specs.Theorems.{Gives}
use Rattle.algebra.proofs.Tabling.{rows_agree}
use Rattle.arithmetic.proofs.Truncated.{row_list}
use Rattle.arithmetic.proofs.Giving.{gives_weaker, large_agree, continued_cases, gives_cases, cases_gives}
use Rattle.arithmetic.proofs.Derived.{within_lower}
use Rattle.arithmetic.proofs.Walking.{Known, next, known_first, known_last, next_known}

continued_gives : {V : Type 0} (K : Kind V) (vs : List Variable) (p q : Poly K.ops) (Bad Worse : Refusal → Type 0) (f : List (Row V) → Result (List (Row V)) Refusal) → ((zs : List (Row V)) → CanonicalRows K vs p zs → Gives K vs q Worse (f zs)) → ((e : Refusal) → Bad e → Worse e) → (r : Result (List (Row V)) Refusal) → Gives K vs p Bad r → Gives K vs q Worse (continued r f)
continued_gives K vs p q Bad Worse f on off r g =
    cases_gives K vs q Worse (continued r f) (continued_cases (CanonicalRows K vs p) (CanonicalRows K vs q) Bad Worse f (λ zs h. gives_cases K vs q Worse (f zs) (on zs h)) off r (gives_cases K vs p Bad r g))

module _ {V : Type 0} (K : Kind V) (ring : RingLaws K.ops) (vs : List Variable) where
  -- the rows of one term
  pub single : (b : List ℕ) (m : K.ops.Member) (u : V) → length b ≡ length vs → within vs b ≡ true → (m ≡ K.ops.zero → ⊥) → K.value m ≡ Ok u → CanonicalRows K vs (term K.ops b m) (row (pack vs b) u ∷ [])
  single b m u l w z val =
      let at = term_here K.ops ring b m in
      record {
        falling = (tt, tt);
        terms = (record { list = b; long = l; inside = w; there = λ n. z (sym at ∙ n); key = refl; value = ap K.value at ∙ val }, tt);
        complete = λ e le n. ⊎_elim
            (λ s. let same = alike_true e b s in (ap (within vs) same ∙ w, inl (ap (pack vs) (sym same))))
            (λ s. absurd (n (cond-false (alike e b) m K.ops.zero s)))
            (cases_Bool (alike e b));
      }

module _ {V : Type 0} (K : Kind V) (ring : RingLaws K.ops) (vs : List Variable) (c : ℕ)
    (sums : (p q : Poly K.ops) (xs ys : List (Row V)) → CanonicalRows K vs p xs → CanonicalRows K vs q ys → Gives K vs (plus K.ops p q) (TooLarge K vs c (plus K.ops p q)) (limited c (sum K xs ys)))
    (products : (p q : Poly K.ops) (xs ys : List (Row V)) → CanonicalRows K vs p xs → CanonicalRows K vs q ys → Gives K vs (product K.ops p q) (NoProduct K (every K.ops) vs c p q) (product_rows K vs c xs ys)) where
  module _ (v B : ℕ) (p q : Poly K.ops) (ys : List (Row V)) (here : v < length vs) (bounded : Bounded K.ops (length vs) B p) (hq : CanonicalRows K vs q ys) where
    abbrev S : Poly K.ops → Poly K.ops
    S P = substitution K.ops v B P q

    abbrev Bad : Refusal → Type 0
    Bad = NoSubstitution K vs c v B p q

    -- the term at a without v, times i copies of q
    abbrev partial : List ℕ → ℕ → Poly K.ops
    partial a i = product K.ops (term K.ops (placed v 0 a) (p a)) (power K.ops q i)

    abbrev NoPower : List ℕ → ℕ → Refusal → Type 0
    NoPower a i e = (j : ℕ) × (j < i) × NoProduct K (every K.ops) vs c (partial a j) q e

    raise : (a : List ℕ) (ts : List (Row V)) → CanonicalRows K vs (partial a 0) ts → (i : ℕ) → Gives K vs (partial a i) (NoPower a i) (raised K vs c ys ts i)
    unfolding power
    raise a ts h zero = h
    raise a ts h (suc i) =
        continued_gives K vs (partial a i) (partial a (suc i)) (NoPower a i) (NoPower a (suc i)) (λ us. product_rows K vs c us ys)
        (λ us g. gives_weaker K vs (product K.ops (partial a i) q) (partial a (suc i)) (NoProduct K (every K.ops) vs c (partial a i) q) (NoPower a (suc i))
        (λ e l. ap (λ r. r e) (product_assoc K.ops ring (term K.ops (placed v 0 a) (p a)) (power K.ops q i) q))
        (λ e n. (i, omega arith, n)) (product_rows K vs c us ys) (products (partial a i) q us ys g hq))
        (λ e n. let l = n.1 in (n.0, omega arith, n.2))
        (raised K vs c ys ts i) (raise a ts h i)

    module _ (x : Row V) (xs : List (Row V)) (t : Term K vs p x) (falls : Under x.key xs) where
      abbrev a : List ℕ
      a = t.list

      raised-row : Gives K vs (partial a (exponent v a)) (NoPower a (exponent v a)) (term_raised K vs c v ys x)
      unfolding power
      raised-row =
          let first = single K ring vs (placed v 0 a) (p a) x.coefficient (length-set a v 0 ∙ t.long) (within_lower vs v 0 a (omega arith) t.inside) t.there t.value in
          let start = subst (λ r. CanonicalRows K vs r (row (pack vs (placed v 0 a)) x.coefficient ∷ [])) (sym (product_one K.ops ring (term K.ops (placed v 0 a) (p a)))) first in
          subst (λ b. Gives K vs (partial a (exponent v a)) (NoPower a (exponent v a)) (raised K vs c ys (row (pack vs (placed v 0 b)) x.coefficient ∷ []) (exponent v b)))
          (sym (row_list K vs p x t)) (raise a (row (pack vs (placed v 0 a)) x.coefficient ∷ []) start (exponent v a))

      low : exponent v a ≤ B
      low = ⊎_elim (λ h. absurd (t.there (bounded a t.long (v, h)))) (λ h. h) (cases_lt B (exponent v a))

      module _ (P : Poly K.ops) where
        abbrev after : Poly K.ops
        after = next K ring vs p x xs t falls P

        -- the sum with the row's product
        abbrev grown : Poly K.ops
        grown = plus K.ops (S P) (partial a (exponent v a))

        after-sum : Agree K.ops (length vs) grown (S after)
        after-sum e l =
            ap (K.ops.plus (substitution K.ops v B P q e)) (sym (substitution-term K.ops ring (length vs) v here q B a (p a) t.long low e l))
            ∙ ap (λ r. r e) (sym ((substituting K.ops ring (length vs) v here q).sums B P (term K.ops a (p a))))

        module _ (acc : List (Row V)) (h : CanonicalRows K vs (S P) acc) (known : (e : List ℕ) → length e ≡ length vs → Known K ring vs p P (x ∷ xs) e) (rest : (more : List (Row V)) → CanonicalRows K vs (S after) more → Gives K vs (S p) Bad (substituted K vs c v ys more xs)) where
          large : (e : Refusal) → TooLarge K vs c grown e → Bad e
          large e n = record {
            at = a;
            long = t.long;
            there = t.there;
            cause = inr (large_agree K vs c grown (S (upto K.ops a p)) e (λ d l. after-sum d l ∙ substitution_agree K.ops ring (length vs) v here q B after (upto K.ops a p) (λ d l. (next_known K ring vs p x xs t falls P d l (known d l)).1) d l) n);
          }

          summed : (ts : List (Row V)) → CanonicalRows K vs (partial a (exponent v a)) ts → Gives K vs (S p) Bad (continued (limited c (sum K acc ts)) (λ more. substituted K vs c v ys more xs))
          summed ts g =
              continued_gives K vs grown (S p) (TooLarge K vs c grown) Bad (λ more. substituted K vs c v ys more xs)
              (λ more m. rest more (rows_agree K vs grown (S after) more after-sum m)) large
              (limited c (sum K acc ts)) (sums (S P) (partial a (exponent v a)) acc ts h g)

          row_run : Gives K vs (S p) Bad (substituted K vs c v ys acc (x ∷ xs))
          row_run =
              continued_gives K vs (partial a (exponent v a)) (S p) (NoPower a (exponent v a)) Bad
              (λ ts. continued (limited c (sum K acc ts)) (λ more. substituted K vs c v ys more xs)) summed
              (λ e n. record { at = a; long = t.long; there = t.there; cause = inl n })
              (term_raised K vs c v ys x) raised-row

    run : (xs : List (Row V)) (P : Poly K.ops) (acc : List (Row V)) → Falling xs → Every (Term K vs p) xs → ((e : List ℕ) → length e ≡ length vs → Known K ring vs p P xs e) → CanonicalRows K vs (S P) acc → Gives K vs (S p) Bad (substituted K vs c v ys acc xs)
    run [] P acc f t k h = rows_agree K vs (S P) (S p) acc (substitution_agree K.ops ring (length vs) v here q B P p (known_last K ring vs p P k)) h
    run (x ∷ xs) P acc f t k h =
        row_run x xs t.0 f.0 P acc h k
        (λ more g. run xs (next K ring vs p x xs t.0 f.0 P) more f.1 t.1 (λ e l. (next_known K ring vs p x xs t.0 f.0 P e l (k e l)).0) g)

    pub substitutions : (xs : List (Row V)) → CanonicalRows K vs p xs → Gives K vs (S p) Bad (substituted K vs c v ys [] xs)
    substitutions xs h = run xs (nought K.ops) [] h.falling h.terms (known_first K ring vs p xs h) none
      where
        none : CanonicalRows K vs (S (nought K.ops)) []
        none = record { falling = tt; terms = tt; complete = λ e l z. absurd (z (substitution-nought K.ops ring (length vs) v here q B e l)) }
