-- The greatest exponents of a table decide whether a product with it stays within the fields. Assumes nothing.
--     within-greater      the greater of two exponents stays within its field where both do
--     highest-inside      so one test does for all rows
use Rattle.std.proofs.Common.{◌≡◌, ℕ, zero, suc, ◌+◌, ◌^◌, ◌≤◌, max, Bool, true, false, ◌&&◌, ltb, List, [], ◌∷◌, length, take, replicate, sym, refl, ap, ◌∙◌, ⊎_elim, arith}
use Rattle.std.proofs.lemmas.List.{length-replicate, take-replicate}
use Rattle.std.proofs.lemmas.Bool.{cases_lt, lt-ltb, le-ltb, and_from}
use Rattle.arithmetic.specs.Multiplying.{inside}
use Rattle.formats.specs.Exponents.{added, greater}
use Rattle.formats.specs.Keys.{unpack, within}
use Rattle.formats.specs.declared.variable.Variable.{Variable}
use Rattle.formats.proofs.Lists.{within-unpack}
use Rattle.formats.proofs.Turns.{length_unpack}
use Rattle.rows.specs.declared.Row.{Row}
use Rattle.sheets.specs.Working.{highest}

-- ---- tests
both-apart : (a b p q : Bool) → (a && b) && (p && q) ≡ (a && p) && (b && q)
both-apart true true p q = refl
both-apart true false true q = refl
both-apart true false false q = refl
both-apart false b p q = refl

and_joined : (a b c : Bool) → (a && b) && c ≡ a && (b && c)
and_joined true b c = refl
and_joined false b c = refl

max_below : (i j e n : ℕ) → ltb (max i j + e) n ≡ ltb (i + e) n && ltb (j + e) n
max_below i j e n =
    ⊎_elim
    (λ a. ⊎_elim
    (λ b. lt-ltb (max i j + e) n (omega arith) ∙ sym (and_from _ _ (lt-ltb (i + e) n a) (lt-ltb (j + e) n b)))
    (λ b. le-ltb (max i j + e) n (omega arith) ∙ sym (λ k. lt-ltb (i + e) n a k && le-ltb (j + e) n b k))
    (cases_lt (j + e) n))
    (λ a. le-ltb (max i j + e) n (omega arith) ∙ sym (ap (λ t. t && ltb (j + e) n) (le-ltb (i + e) n a)))
    (cases_lt (i + e) n)

-- ---- one row
pub within-greater : (vs : List Variable) (a b e : List ℕ) → length vs ≤ length a → length b ≡ length vs → length e ≡ length vs → within vs (added (take (length vs) (greater a b)) e) ≡ within vs (added (take (length vs) a) e) && within vs (added b e)
within-greater [] a b e la lb le = refl
within-greater (v ∷ vs) [] b e la lb le = absurd (omega arith)
within-greater (v ∷ vs) (i ∷ a) [] e la lb le = absurd (omega arith)
within-greater (v ∷ vs) (i ∷ a) (j ∷ b) [] la lb le = absurd (omega arith)
within-greater (v ∷ vs) (i ∷ a) (j ∷ b) (k ∷ e) la lb le =
    (λ h. max_below i j k (2 ^ v.width) h && within-greater vs a b e (omega arith) (omega arith) (omega arith) h)
    ∙ both-apart (ltb (i + k) (2 ^ v.width)) (ltb (j + k) (2 ^ v.width)) (within vs (added (take (length vs) a) e)) (within vs (added b e))

length_greater : (a b : List ℕ) → length a ≤ length (greater a b)
length_greater a [] = omega arith
length_greater [] (j ∷ b) = omega arith
length_greater (i ∷ a) (j ∷ b) = omega (arith, length_greater a b)

-- ---- all rows
module _ {V : Type 0} (vs : List Variable) (y : Row V) where
  abbrev e : List ℕ
  e = unpack vs y.key

  abbrev stays : List ℕ → Bool
  stays a = within vs (added (take (length vs) a) e)

  highest_stays : (most : List ℕ) (xs : List (Row V)) → length vs ≤ length most → stays (highest vs most xs) ≡ stays most && inside vs y xs
  highest_stays most [] h = always (stays most)
    where
      always : (t : Bool) → t ≡ t && true
      always true = refl
      always false = refl
  highest_stays most (x ∷ xs) h =
      let l = length_greater most (unpack vs x.key) in
      highest_stays (greater most (unpack vs x.key)) xs (omega arith)
      ∙ ap (λ t. t && inside vs y xs) (within-greater vs most (unpack vs x.key) e h (length_unpack vs x.key) (length_unpack vs y.key))
      ∙ and_joined (stays most) (within vs (added (unpack vs x.key) e)) (inside vs y xs)

none-added : (n : ℕ) (e : List ℕ) → length e ≤ n → added (replicate n 0) e ≡ e
none-added zero [] h = refl
none-added zero (j ∷ e) h = absurd (omega arith)
none-added (suc n) [] h = refl
none-added (suc n) (j ∷ e) h = λ i. let z : 0 + j ≡ j = omega arith in z i ∷ none-added n e (omega arith) i

pub highest-inside : {V : Type 0} (vs : List Variable) (y : Row V) (xs : List (Row V)) → length vs ≤ 8 → within vs (added (take (length vs) (highest vs (replicate 8 0) xs)) (unpack vs y.key)) ≡ inside vs y xs
highest-inside vs y xs h =
    highest_stays vs y (replicate 8 0) xs (let l = length-replicate {A = ℕ} 8 0 in omega arith) ∙ ap (λ t. t && inside vs y xs) none_inside
  where
    none_inside : within vs (added (take (length vs) (replicate 8 0)) (unpack vs y.key)) ≡ true
    none_inside =
        let l = length_unpack vs y.key in
        ap (λ z. within vs (added z (unpack vs y.key))) (take-replicate (length vs) 8 0 h) ∙ ap (within vs) (none-added (length vs) (unpack vs y.key) (omega arith)) ∙ within-unpack vs y.key
