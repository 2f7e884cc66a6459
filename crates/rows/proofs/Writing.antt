-- Writing over a part of a list. Assumes nothing.
--     length_put       the length stays
--     put-push         one more element
--     put-none         no element
--     put_is           how such a list is told
--     part-put         the part that was written
--     part-put-apart   a part that was not
--     put_next         one part after another
use Rattle.std.proofs.Common.{◌≡◌, ℕ, ◌+◌, ◌-◌, ◌<◌, ◌≤◌, List, [], ◌∷◌, ◌++◌, length, get_or, take, drop, set, sym, refl, ap, ◌∙◌, ⊎_elim, add-zero, arith}
use Rattle.std.proofs.lemmas.List.{append_assoc, length-append, length-drop, length-take, length-take-le, take-append-drop, length_push, get_or-take, get_or-drop, get_or_append_left, get_or-append_right, drop_more, take_at, drop_at, set_at, same_lists}
use Rattle.std.proofs.lemmas.Bool.{cases_lt}
use Rattle.rows.specs.Lists.{part, put, Clear}

module _ {X : Type 0} (xs : List X) (at : ℕ) (ys : List X) (fits : at + length ys ≤ length xs) where
  front : length (take at xs) ≡ at
  front = length-take-le at xs (omega arith)

  pub length_put : length (put xs at ys) ≡ length xs
  length_put =
      let a = length-append (take at xs) (ys ++ drop (at + length ys) xs) in
      let b = length-append ys (drop (at + length ys) xs) in
      let c = length-drop (at + length ys) xs in
      let f = front in
      omega arith

  pub get_or-put_before : (k : ℕ) (d : X) → k < at → get_or (put xs at ys) k d ≡ get_or xs k d
  get_or-put_before k d h = get_or_append_left (take at xs) _ d k (let f = front in omega arith) ∙ get_or-take at xs k d h

  pub get_or-put_in : (k : ℕ) (d : X) → at ≤ k → k < at + length ys → get_or (put xs at ys) k d ≡ get_or ys (k - at) d
  get_or-put_in k d h l = get_or-append_right (take at xs) _ at k d front h ∙ get_or_append_left ys _ d (k - at) (omega arith)

  pub get_or-put_after : (k : ℕ) (d : X) → at + length ys ≤ k → get_or (put xs at ys) k d ≡ get_or xs k d
  get_or-put_after k d h =
      let i : at + length ys + (k - at - length ys) ≡ k = omega arith in
      get_or-append_right (take at xs) _ at k d front (omega arith) ∙ get_or-append_right ys _ (length ys) (k - at) d refl (omega arith) ∙ get_or-drop (at + length ys) xs (k - at - length ys) d
      ∙ ap (λ n. get_or xs n d) i

  pub part-put : part at (length ys) (put xs at ys) ≡ ys
  part-put = ap (take (length ys)) (drop_at (take at xs) _ at front) ∙ take_at ys _ (length ys) refl

  pub put-push : (x : X) → at + length ys < length xs → set (put xs at ys) (at + length ys) x ≡ put xs at (ys ++ x ∷ [])
  put-push x h =
      let n = at + length ys in
      let rest = drop (n + 1) xs in
      let z = get_or xs n x in
      let cut : put xs at ys ≡ (take at xs ++ ys) ++ z ∷ rest = ap (λ l. take at xs ++ (ys ++ l)) (drop_more xs n x h) ∙ sym (append_assoc (take at xs) ys (z ∷ rest)) in
      let long : length (take at xs ++ ys) ≡ n = length-append (take at xs) ys ∙ ap (λ m. m + length ys) front in
      let end : n + 1 ≡ at + length (ys ++ x ∷ []) = let p = length_push ys x in omega arith in
      ap (λ l. set l n x) cut ∙ set_at (take at xs ++ ys) z rest x n long ∙ append_assoc (take at xs) ys (x ∷ rest) ∙ ap (λ l. take at xs ++ l) (sym (append_assoc ys (x ∷ []) rest))
      ∙ ap (λ m. take at xs ++ ((ys ++ x ∷ []) ++ drop m xs)) end

-- two lists that agree at each place below, within and past what was written
pub put_is : {X : Type 0} (xs : List X) (at : ℕ) (ys : List X) (fits : at + length ys ≤ length xs) (zs : List X) → length zs ≡ length xs → ((k : ℕ) (d : X) → k < at → get_or zs k d ≡ get_or xs k d) → ((k : ℕ) (d : X) → k < length ys → get_or zs (at + k) d ≡ get_or ys k d) → ((k : ℕ) (d : X) → at + length ys ≤ k → get_or zs k d ≡ get_or xs k d) → zs ≡ put xs at ys
put_is xs at ys fits zs long before within after =
    same_lists zs (put xs at ys) (long ∙ sym (length_put xs at ys fits))
    (λ k d h. ⊎_elim (λ l. before k d l ∙ sym (get_or-put_before xs at ys fits k d l))
    (λ g. ⊎_elim
    (λ l. let e : at + (k - at) ≡ k = omega arith in sym (ap (λ n. get_or zs n d) e) ∙ within (k - at) d (omega arith) ∙ sym (get_or-put_in xs at ys fits k d g l))
    (λ p. after k d p ∙ sym (get_or-put_after xs at ys fits k d p))
    (cases_lt k (at + length ys)))
    (cases_lt k at))

pub put-none : {X : Type 0} (xs : List X) (at : ℕ) → put xs at [] ≡ xs
put-none xs at = ap (λ n. take at xs ++ drop n xs) (add-zero at) ∙ take-append-drop at xs

pub part_same : {X : Type 0} (xs zs : List X) (a m : ℕ) → length zs ≡ length xs → ((k : ℕ) (d : X) → a ≤ k → k < a + m → get_or zs k d ≡ get_or xs k d) → part a m zs ≡ part a m xs
part_same xs zs a m long same =
    let p = length-take m (drop a zs) in
    let q = length-take m (drop a xs) in
    let u = length-drop a zs in
    let v = length-drop a xs in
    same_lists (part a m zs) (part a m xs) (omega arith)
    (λ k d h.
    let l : k < m = omega arith in
    get_or-take m (drop a zs) k d l ∙ get_or-drop a zs k d ∙ same (a + k) d (omega arith) (omega arith) ∙ sym (get_or-take m (drop a xs) k d l ∙ get_or-drop a xs k d))

module _ {X : Type 0} (xs : List X) (at : ℕ) (ys : List X) (fits : at + length ys ≤ length xs) where
  pub part-put-apart : (a m : ℕ) → Clear a m at (length ys) → part a m (put xs at ys) ≡ part a m xs
  part-put-apart a m clear =
      part_same xs (put xs at ys) a m (length_put xs at ys fits)
      (λ k d h l. ⊎_elim (λ p. get_or-put_before xs at ys fits k d (omega arith)) (λ p. get_or-put_after xs at ys fits k d (omega arith)) clear)

  pub put_next : (b : ℕ) (zs : List X) → at + length ys ≡ b → b + length zs ≤ length xs → put (put xs at ys) b zs ≡ put xs at (ys ++ zs)
  put_next b zs is fits' =
      let long = length_put xs at ys fits in
      let both = length-append ys zs in
      let low : b + length zs ≤ length (put xs at ys) = omega arith in
      put_is xs at (ys ++ zs) (omega arith) (put (put xs at ys) b zs) (length_put (put xs at ys) b zs low ∙ long)
      (λ k d h. get_or-put_before (put xs at ys) b zs low k d (omega arith) ∙ get_or-put_before xs at ys fits k d h)
      (λ k d h. ⊎_elim
      (λ l. let e : at + k - at ≡ k = omega arith in get_or-put_before (put xs at ys) b zs low (at + k) d (omega arith) ∙ get_or-put_in xs at ys fits (at + k) d (omega arith) (omega arith) ∙ ap (λ n. get_or ys n d) e ∙ sym (get_or_append_left ys zs d k l))
      (λ g. let e : at + k - b ≡ k - length ys = omega arith in get_or-put_in (put xs at ys) b zs low (at + k) d (omega arith) (omega arith) ∙ ap (λ n. get_or zs n d) e ∙ sym (get_or-append_right ys zs (length ys) k d refl g))
      (cases_lt k (length ys)))
      (λ k d h. get_or-put_after (put xs at ys) b zs low k d (omega arith) ∙ get_or-put_after xs at ys fits k d (omega arith))
