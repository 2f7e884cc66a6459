-- Canonical rows with one more row below all of them. Assumes nothing.
--     every_append, every_weaker     what holds of every row
--     append-rows                    the rows of a polynomial and that of a lower term are the rows of their sum
use Rattle.std.proofs.Common.{◌≡◌, ℕ, ◌^◌, ◌<◌, List, [], ◌∷◌, ◌++◌, sym, ap, ◌∙◌, ap₂}
use Rattle.rings.specs.Members.{RingLaws}
use Rattle.rings.specs.Kinds.{Kind, IsValue, ValueLaws}
use Rattle.formats.specs.Keys.{unpack}
use Rattle.formats.specs.Variables.{total as bits}
use Rattle.formats.specs.declared.variable.Variable.{Variable}
use Rattle.rows.specs.Canonical.{Under, Canonical}
use Rattle.rows.specs.declared.Row.{Row}
use Rattle.algebra.specs.Polynomials.{Poly, term, sum}
use Rattle.algebra.specs.Tables.{Every, CanonicalRows, meant}
use Rattle.algebra.proofs.Tabling.{tabling}
use Rattle.arithmetic.proofs.Giving.{meant-rows}
use Rattle.algebra.proofs.Tabling.{every_under, under_every}

pub every_append : {X : Type 0} (P : X → Type 0) (xs : List X) (t : X) → Every P xs → P t → Every P (xs ++ t ∷ [])
every_append P [] t h k = (k, tt)
every_append P (x ∷ xs) t h k = (h.0, every_append P xs t h.1 k)

pub every_weaker : {X : Type 0} (P Q : X → Type 0) → ((x : X) → P x → Q x) → (xs : List X) → Every P xs → Every Q xs
every_weaker P Q w [] h = tt
every_weaker P Q w (x ∷ xs) h = (w x h.0, every_weaker P Q w xs h.1)

module _ {V : Type 0} (K : Kind V) (ring : RingLaws K.ops) (vs : List Variable) (t : Row V) where
  canonical-append : IsValue K t.coefficient → (K.meaning t.coefficient ≡ K.ops.zero → ⊥) → (xs : List (Row V)) → Canonical K xs → Every (λ x. t.key < x.key) xs → Canonical K (xs ++ t ∷ [])
  canonical-append is some [] c u = (is, some, tt, tt)
  canonical-append is some (x ∷ xs) c u =
      let below : Under x.key (xs ++ t ∷ []) = every_under x.key (xs ++ t ∷ []) (every_append (λ z. z.key < x.key) xs t (under_every x.key xs c.2) u.0) in
      (c.0, c.1, below, canonical-append is some xs c.3 u.1)

  meant-append : (xs : List (Row V)) (e : List ℕ) → meant K vs (xs ++ t ∷ []) e ≡ K.ops.plus (meant K vs xs e) (term K.ops (unpack vs t.key) (K.meaning t.coefficient) e)
  meant-append [] e = ring.plus_comm _ _
  meant-append (x ∷ xs) e =
      let first = term K.ops (unpack vs x.key) (K.meaning x.coefficient) e in
      ap (K.ops.plus first) (meant-append xs e) ∙ sym (ring.plus_assoc first (meant K vs xs e) (term K.ops (unpack vs t.key) (K.meaning t.coefficient) e))

  pub append-rows : ValueLaws K → (a : List ℕ) → unpack vs t.key ≡ a → t.key < 2 ^ bits vs → IsValue K t.coefficient → (K.meaning t.coefficient ≡ K.ops.zero → ⊥) → (q : Poly K.ops) (xs : List (Row V)) → CanonicalRows K vs q xs → Every (λ x. t.key < x.key) xs → CanonicalRows K vs (sum K.ops q (term K.ops a (K.meaning t.coefficient))) (xs ++ t ∷ [])
  append-rows laws a list narrow is some q xs h u =
      let c = (tabling K ring vs laws).canonical q xs h in
      meant-rows K ring laws vs (sum K.ops q (term K.ops a (K.meaning t.coefficient))) (xs ++ t ∷ []) (canonical-append is some xs c.0 u) (every_append (λ x. x.key < 2 ^ bits vs) xs t c.1 narrow)
      (λ e l. meant-append xs e ∙ ap₂ K.ops.plus (sym ((tabling K ring vs laws).means q xs h e l)) (ap (λ b. term K.ops b (K.meaning t.coefficient) e) list))
