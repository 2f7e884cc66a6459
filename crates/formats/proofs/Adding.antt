-- One variable more. Assumes nothing.
use Rattle.std.proofs.Common.{◌≡◌, ℕ, ◌+◌, ◌<◌, ◌≤◌, Bool, true, false, cond, not, ◌&&◌, ◌||◌, eqb, ltb, leb, List, [], ◌∷◌, ◌++◌, length, take, set, Some, None, Option, sym, refl, ap, ◌∙◌, arith}
use Rattle.std.proofs.lemmas.List.{length-set, length-take-le, take_more_set}
use Rattle.std.proofs.lemmas.Bool.{eqb-false, ne_eqb, leb-false, ltb-false, not-false, not-true, or_parts, or_from, and_parts, and_from, not_from_false}
use Rattle.refusals.specs.declared.Refusal.{Refusal}
use Rattle.refusals.specs.declared.Refusal.TheVariants.{Letter, Width, TooWide}
use Rattle.formats.specs.Variables.{total, used, capital, wide, lawful, variable, refusal}
use Rattle.formats.specs.declared.variable.Variable.{Variable}

-- what it takes to be added
pub record Addable (vs : List Variable) (x w : ℕ) : Type 0 where
  pub letter : capital x ≡ true
  pub fresh : used x vs ≡ false
  pub width : wide w ≡ true
  pub few : length vs < 8
  pub narrow : total vs + w ≤ 64

-- a choice that is none was not a refusal
not_refused : (t : Bool) (c : Refusal) (r : Option Refusal) → cond t (Some c) r ≡ None → (t ≡ false) × (r ≡ None)
not_refused true c r e = absurd (let n : ◌≡◌ {A = ℕ} 0 1 = cc in omega arith)
not_refused false c r e = (refl, e)

pub addable : (vs : List Variable) (x w : ℕ) → refusal vs x w ≡ None → Addable vs x w
addable vs x w e =
    let p = not_refused (not (capital x) || used x vs) Letter _ e in
    let q = not_refused (not (wide w)) Width _ p.1 in
    let r = not_refused (leb 8 (length vs) || ltb 64 (total vs + w)) TooWide _ q.1 in
    let a = or_parts (not (capital x)) (used x vs) p.0 in
    let b = or_parts (leb 8 (length vs)) (ltb 64 (total vs + w)) r.0 in
    record {
      letter = not-false (capital x) a.0;
      fresh = a.1;
      width = not-false (wide w) q.0;
      few = leb-false 8 (length vs) b.0;
      narrow = ltb-false 64 (total vs + w) b.1;
    }

pub total-push : (vs : List Variable) (v : Variable) → total (vs ++ v ∷ []) ≡ total vs + v.width
total-push [] v = omega arith
total-push (u ∷ vs) v = omega (arith, total-push vs v)

used-push : (y : ℕ) (vs : List Variable) (v : Variable) → used y vs ≡ false → eqb v.letter y ≡ false → used y (vs ++ v ∷ []) ≡ false
used-push y [] v e f = or_from (eqb v.letter y) false f refl
used-push y (u ∷ vs) v e f = let p = or_parts (eqb u.letter y) (used y vs) e in or_from (eqb u.letter y) (used y (vs ++ v ∷ [])) p.0 (used-push y vs v p.1 f)

pub lawful-push : (vs : List Variable) (x w : ℕ) → lawful vs ≡ true → capital x ≡ true → wide w ≡ true → used x vs ≡ false → lawful (vs ++ variable x w ∷ []) ≡ true
lawful-push [] x w l c d f = and_from (capital x && wide w) true (and_from (capital x) (wide w) c d) refl
lawful-push (v ∷ vs) x w l c d f =
    let p = and_parts (capital v.letter && wide v.width) (not (used v.letter vs) && lawful vs) l in
    let q = and_parts (not (used v.letter vs)) (lawful vs) p.1 in
    let g = or_parts (eqb v.letter x) (used x vs) f in
    let apart = ne_eqb x v.letter (λ e. eqb-false v.letter x g.0 (sym e)) in
    and_from (capital v.letter && wide v.width) _ p.0
    (and_from (not (used v.letter (vs ++ variable x w ∷ []))) (lawful (vs ++ variable x w ∷ []))
    (not_from_false _ (used-push v.letter vs (variable x w) (not-true (used v.letter vs) q.0) apart))
    (lawful-push vs x w q.1 c d g.1))

-- the entries of a draft with one more
module _ (es : List Variable) (n x w : ℕ) (long : length es ≡ 8) (added : Addable (take n es) x w) (few : n ≤ 8) where
  room : n < length es
  room = let f = added.few in let t = length-take-le n es (omega arith) in omega arith

  pub entries_push : take (n + 1) (set es n (variable x w)) ≡ take n es ++ variable x w ∷ []
  entries_push = take_more_set es n (variable x w) room

  pub push-counted : length (take (n + 1) (set es n (variable x w))) ≡ n + 1
  push-counted = let r = room in length-take-le (n + 1) (set es n (variable x w)) (omega (arith, length-set es n (variable x w)))

  pub push-few : n + 1 ≤ 8
  push-few = let r = room in omega arith

  pub push_ok : lawful (take n es) ≡ true → lawful (take (n + 1) (set es n (variable x w))) ≡ true
  push_ok l = ap lawful entries_push ∙ lawful-push (take n es) x w l added.letter added.width added.fresh

  pub push-narrow : total (take (n + 1) (set es n (variable x w))) ≤ 64
  push-narrow = let t = ap total entries_push ∙ total-push (take n es) (variable x w) in let h = added.narrow in omega arith
