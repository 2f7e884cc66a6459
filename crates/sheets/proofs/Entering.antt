-- The running table of a sheet. Assumes nothing.
--     below-some, below-told     the test of a key against that of the last row, if there is one
--     alone-fits                 the area for one row has room for it, where there is a running table
--     merged_sum, merged_rows, merged_state, merged-first, merged_lent     a row added by the sum: what is to be left, what is, the places, the first working area, the lent rows
--     accepted-rows, refused_rows, held-state, held-first, held_lent   a row written after the others
--     entering-falling           on falling keys, a row is always added as by the sum
use Rattle.std.proofs.Common.{◌≡◌, ℕ, ◌-◌, ◌<◌, ◌≤◌, true, false, ltb, List, [], ◌∷◌, ◌++◌, length, get_or, is_err, Bool, Some, None, Option, is_some, IfSome, MatchOption, IsTrue, Bor, Ok, Err, Result, sym, refl, ap, ◌∙◌, ⊎_elim, arith}
use Rattle.std.proofs.lemmas.Bool.{cases_Bool, ltb-true, lt-ltb, le-ltb, cond-true, cond-false, true≢false}
use Rattle.refusals.specs.declared.Refusal.{Refusal}
use Rattle.rings.specs.Kinds.{Kind}
use Rattle.formats.specs.declared.variable.Variable.{Variable}
use Rattle.rows.specs.Tables.{consed, sum, limited}
use Rattle.rows.specs.declared.Row.{Row}
use Rattle.rows.proofs.Sums.{sum_first}
use Rattle.algebra.specs.Tables.{Falling}
use Rattle.areas.specs.Areas.{Contents, storing, rows_of, answered, added, pushed, kept as held}
use Rattle.areas.proofs.Storing.{storing-again}
use Rattle.sheets.specs.States.{seen}
use Rattle.sheets.specs.Running.{follows, below_last, entering}
use Rattle.sheets.proofs.States.{table-other, seen-working}

-- ---- the key of the last row
follows-last : {V : Type 0} (k : ℕ) (x : Row V) (xs : List (Row V)) (d : Row V) → follows k x xs ≡ ltb k (get_or (x ∷ xs) (length xs) d).key
follows-last k x [] d = refl
follows-last k x (y ∷ ys) d = follows-last k y ys d

pub below-some : {V : Type 0} (k : ℕ) (xs : List (Row V)) (d : Row V) → (length xs ≡ 0 → ⊥) → ltb k (get_or xs (length xs - 1) d).key ≡ below_last k xs
below-some k [] d n = absurd (n refl)
below-some k (x ∷ xs) d n = let e : length (x ∷ xs) - 1 ≡ length xs = omega arith in ap (λ m. ltb k (get_or (x ∷ xs) m d).key) e ∙ sym (follows-last k x xs d)

-- the same of the last row as it is asked for
pub below-told : {V : Type 0} (k : ℕ) (xs : List (Row V)) (o : Option (Bor (Row V))) (b : Bool) → is_some o ≡ ltb 0 (length xs) → IfSome o (λ x. x.now ≡ get_or xs (length xs - 1) x.now) → MatchOption o (IsTrue b) (λ x. b ≡ ltb k x.now.key) → b ≡ below_last k xs
below-told k [] None true some at h = refl
below-told k [] None false some at h = absurd (true≢false (sym h))
below-told k [] (Some y) b some at h = absurd (true≢false some)
below-told k (x ∷ xs) None b some at h = absurd (true≢false (sym (lt-ltb 0 (length (x ∷ xs)) (omega arith)) ∙ sym some))
below-told k (x ∷ xs) (Some y) b some at h = h ∙ ap (λ z. ltb k z.key) at ∙ below-some k (x ∷ xs) y.now (λ e. absurd (omega arith))

-- ---- a row added by the sum: alone in the area 10, the sum in the area 11, from where it is copied
module _ {V : Type 0} (K : Kind V) (c c₁ : Contents V) (x : Row V) (e₁ : c₁ ≡ storing c 10 []) (some : 0 < length (c.tables 9)) (few : length (c.tables 9) ≤ c.room) where
  pub alone-fits : pushed c₁ 10 x ≡ Ok (x ∷ [])
  alone-fits = ap (λ d. pushed d 10 x) e₁ ∙ cond-false (ltb c.room 1) _ _ (le-ltb c.room 1 (omega arith))

  module _ (c₂ c₃ c₄ : Contents V) (e₂ : c₂ ≡ held c₁ 10 (pushed c₁ 10 x)) (e₃ : c₃ ≡ storing c₂ 11 (rows_of (added K c₂ 11 9 10))) (e₄ : c₄ ≡ storing c₃ 9 (c₃.tables 11)) where
    holds-alone : c₂ ≡ storing c 10 (x ∷ [])
    holds-alone = e₂ ∙ ap (held c₁ 10) alone-fits ∙ ap (λ d. storing d 10 (x ∷ [])) e₁ ∙ storing-again c 10 [] (x ∷ [])

    pub merged_sum : added K c₂ 11 9 10 ≡ limited c.room (sum K (c.tables 9) (x ∷ []))
    merged_sum = ap (λ d. added K d 11 9 10) holds-alone

    pub merged_rows : c₄.tables 9 ≡ rows_of (limited c.room (sum K (c.tables 9) (x ∷ [])))
    merged_rows = ap (λ d. d.tables 9) e₄ ∙ ap (λ d. d.tables 11) e₃ ∙ ap rows_of merged_sum

    pub merged_state : (vs : List Variable) → seen c₄ vs ≡ seen c vs
    merged_state vs =
        ap (λ d. seen d vs) e₄ ∙ seen-working c₃ vs 9 (c₃.tables 11) (omega arith) ∙ ap (λ d. seen d vs) e₃ ∙ seen-working c₂ vs 11 (rows_of (added K c₂ 11 9 10)) (omega arith)
        ∙ ap (λ d. seen d vs) holds-alone ∙ seen-working c vs 10 (x ∷ []) (omega arith)

    pub merged-first : c₄.tables 8 ≡ c.tables 8
    merged-first =
        ap (λ d. d.tables 8) e₄ ∙ table-other c₃ 9 (c₃.tables 11) 8 (λ e. omega arith) ∙ ap (λ d. d.tables 8) e₃ ∙ table-other c₂ 11 (rows_of (added K c₂ 11 9 10)) 8 (λ e. omega arith)
        ∙ ap (λ d. d.tables 8) holds-alone ∙ table-other c 10 (x ∷ []) 8 (λ e. omega arith)

    pub merged_lent : c₄.lent ≡ c.lent
    merged_lent = ap (λ d. d.lent) e₄ ∙ ap (λ d. d.lent) e₃ ∙ ap (λ d. d.lent) holds-alone

-- ---- a row written after the others, as r says
module _ {V : Type 0} (c : Contents V) where
  pub accepted-rows : (r : Result (List (Row V)) Refusal) → is_err (answered r) ≡ false → (held c 9 r).tables 9 ≡ rows_of r
  accepted-rows (Ok xs) h = refl
  accepted-rows (Err e) h = absurd (true≢false h)

  pub refused_rows : (r : Result (List (Row V)) Refusal) → is_err (answered r) ≡ true → rows_of r ≡ []
  refused_rows (Ok xs) h = absurd (true≢false (sym h))
  refused_rows (Err e) h = refl

  pub held-state : (vs : List Variable) (r : Result (List (Row V)) Refusal) → seen (held c 9 r) vs ≡ seen c vs
  held-state vs (Ok xs) = seen-working c vs 9 xs (omega arith)
  held-state vs (Err e) = refl

  pub held-first : (r : Result (List (Row V)) Refusal) → (held c 9 r).tables 8 ≡ c.tables 8
  held-first (Ok xs) = table-other c 9 xs 8 (λ e. omega arith)
  held-first (Err e) = refl

  pub held_lent : (r : Result (List (Row V)) Refusal) → (held c 9 r).lent ≡ c.lent
  held_lent (Ok xs) = refl
  held_lent (Err e) = refl

-- ---- falling keys
module _ {V : Type 0} (K : Kind V) where
  follows-above : (k : ℕ) (x : Row V) (xs : List (Row V)) → Falling (x ∷ xs) → follows k x xs ≡ true → k < x.key
  follows-above k x [] f h = ltb-true k x.key h
  follows-above k x (y ∷ ys) f h = let a = follows-above k y ys f.1 h in let b = f.0.0 in omega arith

  follows-after : (k : ℕ) (x : Row V) (xs : List (Row V)) → follows k x xs ≡ true → below_last k xs ≡ true
  follows-after k x [] h = refl
  follows-after k x (y ∷ ys) h = h

  sum-last : (xs : List (Row V)) (x : Row V) → Falling xs → below_last x.key xs ≡ true → sum K xs (x ∷ []) ≡ Ok (xs ++ x ∷ [])
  sum-last [] x f h = refl
  sum-last (y ∷ ys) x f h = sum_first K y ys x [] (follows-above x.key y ys f h) ∙ ap (consed y) (sum-last ys x f.1 (follows-after x.key y ys h))

  pub entering-falling : (c : ℕ) (xs : List (Row V)) (x : Row V) → Falling xs → entering K c xs x ≡ limited c (sum K xs (x ∷ []))
  entering-falling c xs x f =
      ⊎_elim (λ h. cond-true (below_last x.key xs) _ _ h ∙ ap (limited c) (sym (sum-last xs x f h))) (λ h. cond-false (below_last x.key xs) _ _ h) (cases_Bool (below_last x.key xs))
