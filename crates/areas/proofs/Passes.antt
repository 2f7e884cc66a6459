-- What the passes over rows leave and read. Assumes nothing.
--     filled_with      a call that gives the same at each place
--     length_part      the length of a part
--     copied           a part copied to another place
--     part-past        a part past two lists, of three one after another
use Rattle.std.proofs.Common.{◌≡◌, ℕ, ◌+◌, ◌-◌, ◌≤◌, List, [], ◌∷◌, ◌++◌, length, take, drop, replicate, refl, sym, ap, ◌∙◌, arith}
use Rattle.std.specs.List.{FoldsTo, copy_within}
use Rattle.std.proofs.lemmas.List.{length-append, length-take-le, length-drop, append_assoc, drop_at, drop-drop}
use Rattle.rows.specs.Lists.{part, put}

pub filled_with : {X P : Type 0} (R : P → X → P → Type 0) (b : X) → ((p : P) (x : X) (q : P) → R p x q → x ≡ b) → (xs : List X) (p q : P) → FoldsTo R p xs q → xs ≡ replicate (length xs) b
filled_with R b is [] p q h = refl
filled_with R b is (x ∷ xs) p q h = λ i. is p x h.0 h.1 i ∷ filled_with R b is xs h.0 q h.2 i

pub length_part : {X : Type 0} (xs : List X) (a n : ℕ) → a + n ≤ length xs → length (part a n xs) ≡ n
length_part xs a n h = let d = length-drop a xs in length-take-le n (drop a xs) (omega arith)

pub part-past : {X : Type 0} (xs ys zs : List X) (n a m k : ℕ) → length xs + length ys ≡ n → n ≤ a → k ≡ m → take k (drop (a - n) zs) ≡ part a m (xs ++ (ys ++ zs))
part-past xs ys zs n a m k e h f =
    let place : n + (a - n) ≡ a = omega arith in
    let all = xs ++ (ys ++ zs) in
    ap (λ j. take j (drop (a - n) zs)) f
    ∙ ap (λ l. take m (drop (a - n) l)) (sym (drop_at (xs ++ ys) zs n (length-append xs ys ∙ e)) ∙ ap (drop n) (append_assoc xs ys zs))
    ∙ ap (take m) (drop-drop (a - n) n all ∙ ap (λ j. drop j all) place)

pub copied : {X : Type 0} (xs : List X) (a e at n : ℕ) → e - a ≡ n → a + n ≤ length xs → copy_within xs a e at ≡ put xs at (part a n xs)
copied xs a e at n d h =
    let l = length_part xs a n h in
    append_assoc (take at xs) (take (e - a) (drop a xs)) (drop (at + (e - a)) xs)
    ∙ ap (λ m. take at xs ++ (take m (drop a xs) ++ drop (at + m) xs)) d ∙ ap (λ m. take at xs ++ (part a n xs ++ drop (at + m) xs)) (sym l)
