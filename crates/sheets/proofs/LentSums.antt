-- An addition, in the words of sums of tables by their keys. Assumes nothing.
use Rattle.std.proofs.Common.{◌≡◌, ℕ, ◌<◌, List, length, Ok, Err, Result, sym, refl, ap, ◌∙◌, subst, inl, inr, ⊎_elim}
use Rattle.std.proofs.lemmas.Bool.{cases_lt, lt-ltb, le-ltb, eq-eqb, ne_eqb, cond-true, cond-false}
use Rattle.refusals.specs.declared.Refusal.{Refusal}
use Rattle.refusals.specs.declared.Refusal.TheVariants.{Rows, Place}
use Rattle.rings.specs.Kinds.{Kind, ValueLaws}
use Rattle.rings.specs.declared.ring.Ring.{Ghosts}
use Rattle.rings.specs.Members.{RingLaws}
use Rattle.rows.specs.Canonical.{Canonical, Adds}
use Rattle.rows.specs.Tables.{sum, limited}
use Rattle.rows.specs.declared.Row.{Row}
use Rattle.rows.proofs.Canonical.{sum-adds, sum_overflows}
use Rattle.areas.specs.Areas.{answered}
use Rattle.sheets.specs.States.{kept as kept_state}
use Rattle.sheets.specs.Worktops.{state}
use Rattle.sheets.specs.Calls.{added}
use Rattle.sheets.specs.Lent.{lent_on, room, place}
use Rattle.sheets.specs.Sums.{Keeps, Answering, Adding}
use Rattle.sheets.specs.declared.worktop.Worktop.{Worktop}
use Rattle.sheets.proofs.Outcomes.{three_placed}
use Rattle.sheets.proofs.LentRows.{place_is, added-is}

module _ {V : Type 0} {G : Ghosts V} (K : Kind V) (s t : Worktop V G) (ring : RingLaws K.ops) (laws : ValueLaws K) where
  module _ (r p q : ℕ) (hr : r < 8) where
    abbrev first : List (Row V)
    first = place (lent_on s) p

    abbrev second : List (Row V)
    second = place (lent_on s) q

    unchanged : state t ≡ state s → (o : ℕ) → o < 8 → Keeps (lent_on s) (lent_on t) o
    unchanged l o ho = place_is t o ho ∙ ap (λ u. u.places o) l ∙ sym (place_is s o ho)

    by : Canonical K first → Canonical K second → (w : Result (List (Row V)) Refusal) → sum K first second ≡ w → (a : Result (Unit {0}) Refusal) → a ≡ answered (limited (room (lent_on s)) w) → state t ≡ kept_state (state s) r (limited (room (lent_on s)) w) → Answering K (lent_on s) (lent_on t) r p q a
    by cp cq (Err e) f a g l = subst (Answering K (lent_on s) (lent_on t) r p q) (sym g) (record { cause = inl (sum_overflows K ring laws first second e cp cq f); places = unchanged l })
    by cp cq (Ok zs) f a g l =
        let c = room (lent_on s) in
        let adds = sum-adds K ring laws first second zs cp cq f in
        ⊎_elim
        (λ over.
        let m : limited c (Ok zs) ≡ Err Rows = cond-true _ _ _ (lt-ltb c (length zs) over) in
        subst (Answering K (lent_on s) (lent_on t) r p q) (sym (g ∙ ap answered m)) (record { cause = inr (refl, (zs, adds, over)); places = unchanged (l ∙ ap (kept_state (state s) r) m) }))
        (λ fits.
        let m : limited c (Ok zs) ≡ Ok zs = cond-false _ _ _ (le-ltb c (length zs) fits) in
        let k = l ∙ ap (kept_state (state s) r) m in
        subst (Answering K (lent_on s) (lent_on t) r p q) (sym (g ∙ ap answered m))
        (record {
          sums = subst (Adds K first second) (sym (place_is t r hr ∙ ap (λ u. u.places r) k ∙ cond-true _ _ _ (eq-eqb r r refl))) adds;
          others = λ o ho ne. place_is t o ho ∙ ap (λ u. u.places o) k ∙ cond-false _ _ _ (ne_eqb o r ne) ∙ sym (place_is s o ho);
        }))
        (cases_lt c (length zs))

  pub adding : (r p q : ℕ) (a : Result (Unit {0}) Refusal) → a ≡ answered (added K (state s) r p q) → state t ≡ kept_state (state s) r (added K (state s) r p q) → Adding K (lent_on s) (lent_on t) r p q a
  adding r p q a g l hr hp hq cp cq =
      let here = sym (added-is K s r p q) ∙ cond-true _ (limited (room (lent_on s)) (sum K (first r p q hr) (second r p q hr))) (Err Place) (three_placed r p q hr hp hq) in
      by r p q hr cp cq (sum K (first r p q hr) (second r p q hr)) refl a (g ∙ ap answered here) (l ∙ ap (kept_state (state s) r) here)
