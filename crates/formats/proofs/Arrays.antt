-- Arrays that are made from a function of the index. Assumes nothing.
use Rattle.std.proofs.Common.{◌≡◌, ℕ, zero, suc, ◌+◌, ◌<◌, ◌≤◌, List, map, get_or, subst, ⊎_elim, ◌∙◌, arith}
use denote.Param.Members.{Mut}
use Rattle.std.specs.Fn.{Called}
use Rattle.std.specs.Array.{IsFromFnResult, IsFromFnResultFrom}
use Rattle.std.specs.List.{range_with_len}
use Rattle.std.proofs.lemmas.List.FromFn.{fill_by_all}
use Rattle.std.proofs.lemmas.Bool.{cases_lt}

module _ {F B : Type 0} (g : Mut F (ℕ × Unit {0}) B) (f : F) (h : ℕ → B) (top : ℕ) (computes : (k : ℕ) → k < top → (y : B) (q : F) → Called g f (k, tt) y q → (q ≡ f) × (y ≡ h k)) where
  each_is : (ys : List B) (i n k : ℕ) (d : B) → i + n ≤ top → IsFromFnResultFrom g f ys i n → i ≤ k → k < i + n → get_or ys k d ≡ h k
  each_is ys i zero k d room e low high = absurd (omega arith)
  each_is ys i (suc n) k d room (q, y, here, call, rest) low high =
      let said = computes i (omega arith) y q call in
      let after = subst (λ p. IsFromFnResultFrom g p ys (i + 1) n) said.0 rest in
      ⊎_elim
      (λ at. subst (λ m. get_or ys m d ≡ h m) (let same : i ≡ k = omega arith in same) (here.1 d ∙ said.1))
      (λ later. each_is ys (i + 1) n k d (omega arith) after (omega arith) (omega arith))
      (cases_lt k (i + 1))

  pub from_fn_is : (ys : List B) (d : B) → IsFromFnResult g f ys top → ys ≡ map h (range_with_len 0 top)
  from_fn_is ys d e = fill_by_all h ys top d e.long (λ k small. each_is ys 0 top k d (omega arith) e.each (omega arith) (omega arith))
