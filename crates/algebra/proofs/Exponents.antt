-- Lists of exponents: the test of equality, sums, what covers what. Assumes nothing.
use Rattle.std.proofs.Common.{◌≡◌, ℕ, zero, suc, ◌+◌, ◌≤◌, true, false, eqb, leb, List, [], ◌∷◌, length, take, sym, refl, ap, ◌∙◌, ap₂, ⊎_elim, add-zero, add_comm, arith}
use Rattle.std.proofs.lemmas.List.{length-replicate}
use Rattle.std.proofs.lemmas.Bool.{eqb-true, eq-eqb, le-leb, leb-true, false≢true, true≢false, and_parts, and_from, cases_Bool}
use Rattle.formats.specs.Exponents.{alike, zeros, exponent, placed, added, covers, lowered, degree}

pub alike_true : (a b : List ℕ) → alike a b ≡ true → a ≡ b
alike_true [] [] e = refl
alike_true [] (j ∷ b) e = absurd (false≢true e)
alike_true (i ∷ a) [] e = absurd (false≢true e)
alike_true (i ∷ a) (j ∷ b) e = let parts = and_parts (eqb i j) (alike a b) e in ap₂ ◌∷◌ (eqb-true i j parts.0) (alike_true a b parts.1)

pub alike_same : (a : List ℕ) → alike a a ≡ true
alike_same [] = refl
alike_same (i ∷ a) = and_from (eqb i i) (alike a a) (eq-eqb i i refl) (alike_same a)

pub alike_false : (a b : List ℕ) → (a ≡ b → ⊥) → alike a b ≡ false
alike_false a b n = ⊎_elim (λ e. absurd (n (alike_true a b e))) (λ e. e) (cases_Bool (alike a b))

-- tests of equations that follow from one another
pub alike_iff : (a b x y : List ℕ) → (a ≡ b → x ≡ y) → (x ≡ y → a ≡ b) → alike a b ≡ alike x y
alike_iff a b x y there back =
    ⊎_elim (λ e. e ∙ sym (ap (λ w. alike w y) (there (alike_true a b e)) ∙ alike_same y))
    (λ e. e ∙ sym (alike_false x y (λ s. true≢false (sym (ap (λ w. alike w b) (back s) ∙ alike_same b) ∙ e))))
    (cases_Bool (alike a b))

pub length_zeros : (n : ℕ) → length (zeros n) ≡ n
length_zeros n = length-replicate n 0

pub added-zeros : (a : List ℕ) → added a (zeros (length a)) ≡ a
added-zeros [] = refl
added-zeros (i ∷ a) = ap₂ ◌∷◌ (add-zero i) (added-zeros a)

pub added_comm : (a b : List ℕ) → added a b ≡ added b a
added_comm [] [] = refl
added_comm [] (j ∷ b) = refl
added_comm (i ∷ a) [] = refl
added_comm (i ∷ a) (j ∷ b) = ap₂ ◌∷◌ (add_comm i j) (added_comm a b)

pub length_added : (a b : List ℕ) → length a ≡ length b → length (added a b) ≡ length b
length_added [] [] l = refl
length_added [] (j ∷ b) l = l
length_added (i ∷ a) [] l = absurd (omega arith)
length_added (i ∷ a) (j ∷ b) l = ap suc (length_added a b (omega arith))

-- what is added to one list may be taken off again
pub added_cancel : (a b t : List ℕ) → length a ≡ length t → length b ≡ length t → added a t ≡ added b t → a ≡ b
added_cancel [] [] t la lb e = refl
added_cancel [] (j ∷ b) t la lb e = absurd (omega arith)
added_cancel (i ∷ a) [] t la lb e = absurd (omega arith)
added_cancel (i ∷ a) (j ∷ b) [] la lb e = absurd (omega arith)
added_cancel (i ∷ a) (j ∷ b) (k ∷ t) la lb e =
    let heads : i + k ≡ j + k = cc in
    let tails : added a t ≡ added b t = cc in
    ap₂ ◌∷◌ (omega arith) (added_cancel a b t (omega arith) (omega arith) tails)

pub covers-added : (a t : List ℕ) → length a ≡ length t → covers (added a t) t ≡ true
covers-added a [] l = refl
covers-added [] (j ∷ t) l = absurd (omega arith)
covers-added (i ∷ a) (j ∷ t) l = and_from (leb j (i + j)) (covers (added a t) t) (le-leb j (i + j) (omega arith)) (covers-added a t (omega arith))

pub added-lowered : (e t : List ℕ) → length e ≡ length t → covers e t ≡ true → added (lowered e t) t ≡ e
added-lowered [] [] l c = refl
added-lowered (i ∷ e) [] l c = absurd (omega arith)
added-lowered [] (j ∷ t) l c = absurd (false≢true c)
added-lowered (i ∷ e) (j ∷ t) l c =
    let parts = and_parts (leb j i) (covers e t) c in
    let h = leb-true j i parts.0 in
    ap₂ ◌∷◌ (omega arith) (added-lowered e t (omega arith) parts.1)

pub length_lowered : (e t : List ℕ) → length e ≡ length t → length (lowered e t) ≡ length e
length_lowered e [] l = refl
length_lowered [] (j ∷ t) l = refl
length_lowered (i ∷ e) (j ∷ t) l = ap suc (length_lowered e t (omega arith))

pub exponent-added : (v : ℕ) (a b : List ℕ) → length a ≡ length b → exponent v (added a b) ≡ exponent v a + exponent v b
exponent-added v [] [] l = refl
exponent-added v [] (j ∷ b) l = absurd (omega arith)
exponent-added v (i ∷ a) [] l = absurd (omega arith)
exponent-added zero (i ∷ a) (j ∷ b) l = refl
exponent-added (suc v) (i ∷ a) (j ∷ b) l = exponent-added v a b (omega arith)

pub exponent-degree : (v : ℕ) (e : List ℕ) → exponent v e ≤ degree e
exponent-degree v [] = omega arith
exponent-degree zero (i ∷ e) = omega arith
exponent-degree (suc v) (i ∷ e) = let h = exponent-degree v e in omega arith

pub exponent-zeros : (v n : ℕ) → exponent v (zeros n) ≡ 0
exponent-zeros v zero = refl
exponent-zeros zero (suc n) = refl
exponent-zeros (suc v) (suc n) = exponent-zeros v n

-- a larger exponent in one place makes no exponent less
pub exponent-raised : (w v i : ℕ) (e : List ℕ) → exponent v e ≤ i → exponent w e ≤ exponent w (placed v i e)
exponent-raised w v i [] h = omega arith
exponent-raised zero zero i (k ∷ e) h = h
exponent-raised zero (suc v) i (k ∷ e) h = omega arith
exponent-raised (suc w) zero i (k ∷ e) h = omega arith
exponent-raised (suc w) (suc v) i (k ∷ e) h = exponent-raised w v i e h

pub degree-added : (k : ℕ) (a b : List ℕ) → length a ≡ length b → degree (take k (added a b)) ≡ degree (take k a) + degree (take k b)
degree-added zero a b l = refl
degree-added (suc k) [] [] l = refl
degree-added (suc k) [] (j ∷ b) l = absurd (omega arith)
degree-added (suc k) (i ∷ a) [] l = absurd (omega arith)
degree-added (suc k) (i ∷ a) (j ∷ b) l = let h = degree-added k a b (omega arith) in omega arith
