-- A text that is cut at a line that is just a point. Assumes nothing.
--     CutBefore text n rest     what is cut from the rest makes, with the first n bytes before it, what is cut from the text
use Rattle.std.proofs.Common.{◌≡◌, ℕ, ◌+◌, ◌<◌, ◌≤◌, List, [], ◌∷◌, ◌++◌, length, take, drop, refl, sym, ◌∙◌, ap, subst, append_assoc, arith}
use Rattle.std.proofs.Math.Seq.{take-add}
use Rattle.std.proofs.lemmas.List.{append-nil, length-drop, take_all, take_at, take-append-drop}
use Rattle.limbozafe.specs.Lines.{line, line_length, after_line, IsPoint, IsCutAtPoint}
use Rattle.limbozafe.specs.Lines.IsCutAtPoint.{ended, point, more}

abbrev pub CutBefore : List ℕ → ℕ → List ℕ → Type 0
CutBefore text n rest = (cards after : List ℕ) → IsCutAtPoint rest cards after → IsCutAtPoint text (take n text ++ cards) after

nothing : (xs : List ℕ) → ¬ (0 < length xs) → xs ≡ []
nothing [] short = refl
nothing (x ∷ xs) short = absurd (short (omega arith))

module _ (text : List ℕ) (n : ℕ) (rest : List ℕ) (left : drop n text ≡ rest) (cut : CutBefore text n rest) where
  pub cut_point : IsPoint (line rest) → IsCutAtPoint text (take n text) (after_line rest)
  cut_point is = subst (λ cs. IsCutAtPoint text cs (after_line rest)) (append-nil (take n text)) (cut [] (after_line rest) (point rest is))

  pub cut_more : ¬ IsPoint (line rest) → CutBefore text (n + length (line rest)) (after_line rest)
  cut_more not cards after is =
      let whole : line rest ≡ take (length (line rest)) rest = sym (take_at (line rest) (after_line rest) _ refl) ∙ ap (take (length (line rest))) (take-append-drop (line_length rest) rest) in
      let longer : take (n + length (line rest)) text ≡ take n text ++ line rest = take-add n (length (line rest)) text ∙ ap (λ l. take n text ++ l) (ap (take (length (line rest))) left ∙ sym whole) in
      subst (λ cs. IsCutAtPoint text cs after) (sym (append_assoc (take n text) (line rest) cards) ∙ ap (λ l. l ++ cards) (sym longer)) (cut (line rest ++ cards) after (more rest cards after not is))

  pub cut_end : ¬ (0 < length rest) → IsCutAtPoint text text (after_line rest)
  cut_end short =
      let none = nothing rest short in
      let long : length text ≤ n = let d = length-drop n text in let e = ap length (left ∙ none) in omega arith in
      subst (λ cs. IsCutAtPoint text cs (after_line rest)) (append-nil (take n text) ∙ take_all n text long) (cut [] (after_line rest) (subst (λ r. IsCutAtPoint r [] (after_line r)) (sym none) ended))
