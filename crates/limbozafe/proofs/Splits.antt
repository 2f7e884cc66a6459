-- Where the parts of a list that is cut at a test begin and end. Assumes nothing.
use Rattle.std.proofs.Common.{◌≡◌, ℕ, suc, ◌+◌, ◌<◌, ◌≤◌, Bool, true, false, not, cond, List, [], ◌∷◌, length, take, drop, refl, sym, ◌∙◌, ap, arith}
use Rattle.std.specs.Prelude.{nat_lt}
use Rattle.std.specs.List.{slice_split, onto_first, filter, position_or_len}
use Rattle.std.proofs.lemmas.Bool.{cond-true, lt-ltb}
use Rattle.std.proofs.lemmas.List.Splits.{slice_split-cons_yes, slice_split-cons_no}

module _ {X : Type 0} (p : X → Bool) where
  abbrev pub full : List (List X) → List (List X)
  full = filter (λ part. nat_lt 0 (length part))

  full-cons : (ys : List X) (ps : List (List X)) → 0 < length ys → full (ys ∷ ps) ≡ ys ∷ full ps
  full-cons ys ps l = cond-true _ _ _ (lt-ltb 0 (length ys) l)

  abbrev pub parts : List X → List (List X)
  parts xs = full (slice_split p xs)

  -- how many elements at the start pass, and how many do not
  abbrev pub gap : List X → ℕ
  gap xs = position_or_len (λ x. not (p x)) xs

  abbrev pub run : List X → ℕ
  run xs = position_or_len p xs

  gap-yes : (x : X) (xs : List X) → p x ≡ true → gap (x ∷ xs) ≡ suc (gap xs)
  gap-yes x xs e = ap (λ t. cond (not (not t)) (1 + gap xs) 0) e ∙ omega arith

  gap-no : (x : X) (xs : List X) → p x ≡ false → gap (x ∷ xs) ≡ 0
  gap-no x xs e = ap (λ t. cond (not (not t)) (1 + gap xs) 0) e

  run-yes : (x : X) (xs : List X) → p x ≡ true → run (x ∷ xs) ≡ 0
  run-yes x xs e = ap (λ t. cond (not t) (1 + run xs) 0) e

  run-no : (x : X) (xs : List X) → p x ≡ false → run (x ∷ xs) ≡ suc (run xs)
  run-no x xs e = ap (λ t. cond (not t) (1 + run xs) 0) e ∙ omega arith

  -- the first part, and those after it
  pub record Begins (xs : List X) : Type 0 where
    pub others : List (List X)
    pub first : slice_split p xs ≡ take (run xs) xs ∷ others
    pub more : full others ≡ parts (drop (run xs) xs)

  begins-more : (x : X) (xs : List X) (t : Bool) → p x ≡ t → Begins xs → Begins (x ∷ xs)
  begins-more x xs true e b =
      let cut = slice_split-cons_yes p x xs e in
      let none = run-yes x xs e in
      record {
        others = slice_split p xs;
        first = cut ∙ ap (λ k. take k (x ∷ xs) ∷ slice_split p xs) (sym none);
        more = ap full (sym cut) ∙ ap (λ k. parts (drop k (x ∷ xs))) (sym none);
      }
  begins-more x xs false e b =
      let one = run-no x xs e in
      record {
        others = b.others;
        first = slice_split-cons_no p x xs e ∙ ap (onto_first x) b.first ∙ ap (λ k. take k (x ∷ xs) ∷ b.others) (sym one);
        more = b.more ∙ ap (λ k. parts (drop k (x ∷ xs))) (sym one);
      }

  begins : (xs : List X) → Begins xs
  begins [] = record { others = []; first = refl; more = refl }
  begins (x ∷ xs) = begins-more x xs (p x) refl (begins xs)

  -- a list that is a gap has no parts, and otherwise the first comes after the gap
  pub record Cut (xs : List X) : Type 0 where
    pub none : length xs ≤ gap xs → parts xs ≡ []
    pub some : gap xs < length xs → parts xs ≡ take (run (drop (gap xs) xs)) (drop (gap xs) xs) ∷ parts (drop (run (drop (gap xs) xs)) (drop (gap xs) xs))

  abbrev First : List X → List X → Type 0
  First xs ys = parts xs ≡ take (run ys) ys ∷ parts (drop (run ys) ys)

  first-cons : (x : X) (xs : List X) → p x ≡ false → First (x ∷ xs) (x ∷ xs)
  first-cons x xs e =
      let b = begins (x ∷ xs) in
      let long : 0 < length (take (run (x ∷ xs)) (x ∷ xs)) = rw (run-no x xs e) (omega arith) in
      ap full b.first ∙ full-cons _ b.others long ∙ ap (λ ps. take (run (x ∷ xs)) (x ∷ xs) ∷ ps) b.more

  cut-more : (x : X) (xs : List X) (t : Bool) → p x ≡ t → Cut xs → Cut (x ∷ xs)
  cut-more x xs true e c =
      let one = gap-yes x xs e in
      let same : parts (x ∷ xs) ≡ parts xs = ap full (slice_split-cons_yes p x xs e) in
      record {
        none = λ l. same ∙ c.none (omega arith);
        some = λ l. same ∙ c.some (omega arith) ∙ ap (λ k. take (run (drop k (x ∷ xs))) (drop k (x ∷ xs)) ∷ parts (drop (run (drop k (x ∷ xs))) (drop k (x ∷ xs)))) (sym one);
      }
  cut-more x xs false e c =
      let nought = gap-no x xs e in
      record {
        none = λ l. absurd (omega arith);
        some = λ l. first-cons x xs e ∙ ap (λ k. take (run (drop k (x ∷ xs))) (drop k (x ∷ xs)) ∷ parts (drop (run (drop k (x ∷ xs))) (drop k (x ∷ xs)))) (sym nought);
      }

  pub cut : (xs : List X) → Cut xs
  cut [] = record { none = λ l. refl; some = λ l. absurd (omega arith) }
  cut (x ∷ xs) = cut-more x xs (p x) refl (cut xs)
