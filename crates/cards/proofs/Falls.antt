-- A table whose keys fall still falls after a row is entered. Assumes nothing.
--     entering_falls     the rows that are left by entering a row fall
use Rattle.std.proofs.Common.{ℕ, ◌<◌, ltb, List, [], ◌∷◌, length, Ok, Err, Result, sym, subst, ⊎_elim}
use Rattle.std.proofs.lemmas.Bool.{cases_lt, cond_both}
use Rattle.refusals.specs.declared.Refusal.{Refusal}
use Rattle.refusals.specs.declared.Refusal.TheVariants.{Rows}
use Rattle.rings.specs.Kinds.{Kind}
use Rattle.rows.specs.Canonical.{Under}
use Rattle.rows.specs.Tables.{row, consed, both, sum, limited}
use Rattle.rows.specs.declared.Row.{Row}
use Rattle.rows.proofs.Canonical.{under_more}
use Rattle.rows.proofs.Sums.{sum_nil, sum_first, sum-second, sum_both}
use Rattle.algebra.specs.Tables.{Falling}
use Rattle.areas.specs.Areas.{rows_of}
use Rattle.sheets.specs.Running.{entering}
use Rattle.sheets.proofs.Entering.{entering-falling}

-- below a key, and falling
abbrev Below : {V : Type 0} → ℕ → Result (List (Row V)) Refusal → Type 0
Below b r = Under b (rows_of r)

abbrev Falls : {V : Type 0} → Result (List (Row V)) Refusal → Type 0
Falls r = Falling (rows_of r)

below-consed : {V : Type 0} (b : ℕ) (x : Row V) (r : Result (List (Row V)) Refusal) → x.key < b → Below b r → Below b (consed x r)
below-consed b x (Ok xs) h u = (h, u)
below-consed b x (Err e) h u = tt

falls_consed : {V : Type 0} (x : Row V) (r : Result (List (Row V)) Refusal) → Below x.key r → Falls r → Falls (consed x r)
falls_consed x (Ok xs) u f = (u, f)
falls_consed x (Err e) u f = tt

module _ {V : Type 0} (K : Kind V) where
  below_both : (b k : ℕ) (v : Result V Refusal) (r : Result (List (Row V)) Refusal) → k < b → Below b r → Below b (both K k v r)
  below_both b k (Ok v) r h u = cond_both (K.ops.same (K.meaning v) K.ops.zero) r (consed (row k v) r) (Below b) (λ _. u) (λ _. below-consed b (row k v) r h u)
  below_both b k (Err e) r h u = tt

  falls_both : (k : ℕ) (v : Result V Refusal) (r : Result (List (Row V)) Refusal) → Below k r → Falls r → Falls (both K k v r)
  falls_both k (Ok v) r u f = cond_both (K.ops.same (K.meaning v) K.ops.zero) r (consed (row k v) r) Falls (λ _. f) (λ _. falls_consed (row k v) r u f)
  falls_both k (Err e) r u f = tt

  sum_below : (xs : List (Row V)) (x : Row V) (b : ℕ) → Under b xs → x.key < b → Below b (sum K xs (x ∷ []))
  sum_below [] x b u h = (h, tt)
  sum_below (y ∷ ys) x b u h =
      ⊎_elim (λ l. subst (Below b) (sym (sum_first K y ys x [] l)) (below-consed b y (sum K ys (x ∷ [])) u.0 (sum_below ys x b u.1 h)))
      (λ l. ⊎_elim (λ m. subst (Below b) (sym (sum-second K y ys x [] m)) (h, u))
      (λ m. subst (Below b) (sym (sum_both K y ys x [] l m)) (below_both b y.key _ (sum K ys []) u.0 (subst (Below b) (sym (sum_nil K ys)) u.1)))
      (cases_lt y.key x.key))
      (cases_lt x.key y.key)

  sum_falls : (xs : List (Row V)) (x : Row V) → Falling xs → Falls (sum K xs (x ∷ []))
  sum_falls [] x f = (tt, tt)
  sum_falls (y ∷ ys) x f =
      ⊎_elim (λ l. subst Falls (sym (sum_first K y ys x [] l)) (falls_consed y (sum K ys (x ∷ [])) (sum_below ys x y.key f.0 l) (sum_falls ys x f.1)))
      (λ l. ⊎_elim (λ m. subst Falls (sym (sum-second K y ys x [] m)) ((m, under_more y.key x.key ys m f.0), f))
      (λ m. subst Falls (sym (sum_both K y ys x [] l m)) (falls_both y.key _ (sum K ys []) (subst (Below y.key) (sym (sum_nil K ys)) f.0) (subst Falls (sym (sum_nil K ys)) f.1)))
      (cases_lt y.key x.key))
      (cases_lt x.key y.key)

  limited_falls : (c : ℕ) (r : Result (List (Row V)) Refusal) → Falls r → Falls (limited c r)
  limited_falls c (Ok xs) f = cond_both (ltb c (length xs)) (Err Rows) (Ok xs) Falls (λ _. tt) (λ _. f)
  limited_falls c (Err e) f = tt

  pub entering_falls : (c : ℕ) (xs : List (Row V)) (x : Row V) → Falling xs → Falling (rows_of (entering K c xs x))
  entering_falls c xs x f = subst Falls (sym (entering-falling K c xs x f)) (limited_falls c (sum K xs (x ∷ [])) (sum_falls xs x f))
