-- A table for a variable, power by power and row by row: the sum in the area 8, the table of a row in the area 9. Assumes nothing.
--     Raising, raising_none, raising_more, raising_refused, raising_all     the table of a row, multiplied so many times
--     without              a row without the variable has a key
--     begun                that row as a table
--     row-raised           it, multiplied as often as its exponent says
--     row-refused          or refused
--     row_summed, row-over     the sum so far with that table, or its refusal
--     Summing, summing_none, summing_more, summing_refused, summing_all     the sum of the rows so far
use Rattle.std.proofs.Common.{◌≡◌, ℕ, zero, suc, ◌+◌, ◌<◌, ◌≤◌, List, [], ◌∷◌, ◌++◌, length, get_or, drop, Ok, Err, Result, sym, refl, ap, ◌∙◌, ⊎_elim, add-one, arith}
use Rattle.std.proofs.lemmas.List.{at_drop_more, at_drop_all}
use Rattle.std.proofs.lemmas.Bool.{cases_lt, cond-true, lt-ltb}
use Rattle.refusals.specs.declared.Refusal.{Refusal}
use Rattle.refusals.specs.declared.Refusal.TheVariants.{Place}
use Rattle.rings.specs.Kinds.{Kind}
use Rattle.rings.specs.declared.ring.Ring.{Ghosts}
use Rattle.formats.specs.Drafts.{variables}
use Rattle.formats.specs.Exponents.{placed}
use Rattle.formats.specs.Keys.{pack, unpack, replaced}
use Rattle.formats.specs.declared.variable.Variable.{Variable}
use Rattle.formats.proofs.Lists.{within-unpack}
use Rattle.rows.specs.Products.{continued}
use Rattle.rows.specs.Tables.{sum, limited}
use Rattle.rows.specs.declared.Row.{Row}
use Rattle.areas.specs.Areas.{contents, storing, rows_of, answered, apart, pushed, added, kept as held}
use Rattle.arithmetic.specs.Multiplying.{product}
use Rattle.arithmetic.specs.Substituting.{raised, term_raised, substituted}
use Rattle.arithmetic.proofs.Derived.{within_lower}
use Rattle.sheets.specs.Worktops.{state}
use Rattle.sheets.specs.Ends.{made_in, made_of, Making}
use Rattle.sheets.specs.Working.{table, below, but, Kept}
use Rattle.sheets.specs.declared.worktop.Worktop.{Worktop}
use Rattle.sheets.proofs.States.{table-there}
use Rattle.sheets.proofs.Outcomes.{apart_areas}
use Rattle.sheets.proofs.Products.{kept_same, kept-after, kept_fewer, kept-stored, made_kept, made_by, making_after}
use Rattle.sheets.proofs.Changing.{pushed-fits}

-- ---- powers
module _ {V : Type 0} {G : Ghosts V} (K : Kind V) (qs ts : List (Row V)) (s : Worktop V G) where
  abbrev power : ℕ → Result (List (Row V)) Refusal
  power = raised K (state s).vars (state s).room qs ts

  lasting : (x : Refusal) (j k : ℕ) → j ≤ k → power j ≡ Err x → power k ≡ Err x
  lasting x j zero h e = let z : j ≡ 0 = omega arith in ap power (sym z) ∙ e
  lasting x j (suc k) h e =
      ⊎_elim (λ l. ap (λ r. continued r (λ us. product K (state s).vars (state s).room us qs)) (lasting x j k (omega arith) e)) (λ l. let z : suc k ≡ j = omega arith in ap power z ∙ e) (cases_lt j (suc k))

  pub record Raising (t : Worktop V G) (i : ℕ) : Type 0 where
    pub kept : Kept (below 9) s t
    pub now : power i ≡ Ok (table t 9)

  pub raising_none : table s 9 ≡ ts → Raising s 0
  raising_none e = record { kept = kept_same (below 9) s; now = ap Ok (sym e) }

  module _ (q : ℕ) (inside : q < 9) (is : table s q ≡ qs) (t u : Worktop V G) (i : ℕ) (r : Raising t i) (made : Result ℕ Refusal) (m : Making 10 t u (product K (state t).vars (state t).room (table t 9) (table t q)) made) where
    next : power (suc i) ≡ made_of (contents u.areas) made
    next =
        let k = r.kept in
        ap (λ z. continued z (λ us. product K (state s).vars (state s).room us qs)) r.now
        ∙ sym (m.result ∙ (λ j. product K (variables (k.format j)) (k.room j) (table t 9) ((k.others q inside ∙ is) j)))

    so_far : Kept (below 9) s u
    so_far = kept-after (below 9) (below 10) (below 9) s t u (λ o h. (h, omega arith)) r.kept (made_kept 10 t u _ made m)

    pub raising_more : (at : ℕ) → made ≡ Ok at → (v : Worktop V G) → contents v.areas ≡ storing (contents u.areas) 9 (table u at) → Kept (but 9) u v → Raising v (i + 1)
    raising_more at e v leaves k = record {
      kept = kept-after (below 9) (but 9) (below 9) s u v (λ o h. (h, λ z. omega arith)) so_far k;
      now = ap power (add-one i) ∙ next ∙ ap (made_of (contents u.areas)) e ∙ ap Ok (sym (ap (λ d. d.tables 9) leaves ∙ table-there (contents u.areas) 9 (table u at) (omega arith)));
    }

    pub raising_refused : (x : Refusal) → made ≡ Err x → (n : ℕ) → i < n → Making 9 s u (power n) (Err x)
    raising_refused x e n h = made_by 9 s u (power n) (Err x) so_far (sym (lasting x (suc i) n h (next ∙ ap (made_of (contents u.areas)) e)))

  pub raising_all : (t : Worktop V G) (i n : ℕ) → Raising t i → i ≡ n → Making 9 s t (power n) (Ok 9)
  raising_all t i n r e = made_by 9 s t (power n) (Ok 9) r.kept (sym r.now ∙ ap power e)

-- ---- one row
pub without : (vs : List Variable) (v k : ℕ) → v < length vs → replaced vs k v 0 ≡ Ok (pack vs (placed v 0 (unpack vs k)))
without vs v k h = cond-true _ _ _ (lt-ltb v (length vs) h) ∙ cond-true _ _ _ (within_lower vs v 0 (unpack vs k) (omega arith) (within-unpack vs k))

module _ {V : Type 0} {G : Ghosts V} (s : Worktop V G) where
  pub begun : (mid t : Worktop V G) (x : Row V) (answer : Result (Unit {0}) Refusal) → 0 < (contents s.areas).room → contents mid.areas ≡ storing (contents s.areas) 9 [] → Kept (but 9) s mid → contents t.areas ≡ held (contents mid.areas) 9 (pushed (contents mid.areas) 9 x) → t.format ≡ mid.format → answer ≡ answered (pushed (contents mid.areas) 9 x) → Making 9 s t (Ok (x ∷ [])) (made_in 9 answer)
  begun mid t x answer room cleared k leaves format answers =
      let none : table mid 9 ≡ [] = ap (λ d. d.tables 9) cleared ∙ table-there (contents s.areas) 9 [] (omega arith) in
      let fits : pushed (contents mid.areas) 9 x ≡ Ok (x ∷ []) = pushed-fits (contents mid.areas) 9 x (omega arith) (omega (arith, ap length none, k.room)) ∙ ap (λ xs. Ok (xs ++ x ∷ [])) none in
      let now = leaves ∙ ap (held (contents mid.areas) 9) fits in
      let l = kept-stored mid t 9 (x ∷ []) now format in
      made_by 9 s t (Ok (x ∷ [])) (made_in 9 answer) (kept-after (but 9) (but 9) (below 9) s mid t (λ o h. ((λ e. omega arith), (λ e. omega arith))) k l)
      (ap (λ r. made_of (contents t.areas) (made_in 9 r)) (answers ∙ ap answered fits) ∙ ap Ok (ap (λ d. d.tables 9) now ∙ table-there (contents mid.areas) 9 (x ∷ []) (omega arith)))

module _ {V : Type 0} {G : Ghosts V} (K : Kind V) (s : Worktop V G) where
  pub row-raised : (t u : Worktop V G) (q : ℕ) → q < 9 → (xs : List (Row V)) (e n : ℕ) (answer : Result (Unit {0}) Refusal) → Making 9 s t (Ok xs) (Ok 9) → e ≡ n → Making 9 t u (raised K (state t).vars (state t).room (table t q) (table t 9) e) (made_in 9 answer) → Making 9 s u (raised K (state s).vars (state s).room (table s q) xs n) (made_in 9 answer)
  row-raised t u q inside xs e n answer m same r =
      let there : table t 9 ≡ xs = let o = m.result in cc in
      making_after 9 s t u _ _ (made_in 9 answer) (made_kept 9 s t (Ok xs) (Ok 9) m) (λ i. raised K (variables (m.format i)) (m.room i) (m.others q inside i) (there i) (same i)) r

  pub row-refused : (a : Result (List (Row V)) Refusal) (t : Worktop V G) (x : Refusal) → Making 9 s t a (Err x) → Making 8 s t (continued a (λ ts. limited (state s).room (sum K (table s 8) ts))) (Err x)
  row-refused a t x m = made_by 8 s t _ (Err x) (kept_fewer (below 9) (below 8) s t (λ o h. omega arith) (made_kept 9 s t a (Err x) m)) (ap (λ r. continued r (λ ts. limited (state s).room (sum K (table s 8) ts))) m.result)

  module _ (a : Result (List (Row V)) Refusal) (t u : Worktop V G) (m : Making 9 s t a (Ok 9)) (answer : Result (Unit {0}) Refusal) where
    abbrev total : Result (List (Row V)) Refusal
    total = continued a (λ ts. limited (state s).room (sum K (table s 8) ts))

    summed : added K (contents t.areas) 10 8 9 ≡ total
    summed =
        cond-true (apart 10 8 9) (limited (contents t.areas).room (sum K (table t 8) (table t 9))) (Err Place) (apart_areas 10 8 9 (omega arith) (omega arith) (omega arith) (λ x. omega arith) (λ x. omega arith))
        ∙ (λ i. limited (m.room i) (sum K (m.others 8 (omega arith) i) (table t 9)))
        ∙ ap (λ r. continued r (λ ts. limited (state s).room (sum K (table s 8) ts))) m.result

    kept-sum : Kept (but 10) t u → Kept (below 9) s u
    kept-sum = kept-after (below 9) (but 10) (below 9) s t u (λ o h. (h, λ e. omega arith)) (made_kept 9 s t a (Ok 9) m)

    pub row-over : answer ≡ answered (added K (contents t.areas) 10 8 9) → Kept (but 10) t u → (x : Refusal) → answer ≡ Err x → Making 8 s u total (Err x)
    row-over answers k x e = made_by 8 s u total (Err x) (kept_fewer (below 9) (below 8) s u (λ o h. omega arith) (kept-sum k)) (by total (sym e ∙ answers ∙ ap answered summed))
      where
        by : (r : Result (List (Row V)) Refusal) → Err x ≡ answered r → Err x ≡ r
        by (Ok xs) h = absurd (let z : ◌≡◌ {A = ℕ} 0 1 = cc in omega arith)
        by (Err y) h = cc

    pub row_summed : answer ≡ answered (added K (contents t.areas) 10 8 9) → contents u.areas ≡ storing (contents t.areas) 10 (rows_of (added K (contents t.areas) 10 8 9)) → Kept (but 10) t u → answer ≡ Ok tt → (v : Worktop V G) → contents v.areas ≡ storing (contents u.areas) 8 (table u 10) → Kept (but 8) u v → Making 8 s v total (Ok 8)
    row_summed answers leaves k e v copied l =
        made_by 8 s v total (Ok 8) (kept-after (below 9) (but 8) (below 8) s u v (λ o h. (omega arith, λ z. omega arith)) (kept-sum k) l)
        (ap Ok (ap (λ d. d.tables 8) copied ∙ table-there (contents u.areas) 8 (table u 10) (omega arith) ∙ ap (λ d. d.tables 10) leaves ∙ table-there (contents t.areas) 10 _ (omega arith) ∙ ap rows_of summed) ∙ by total (sym e ∙ answers ∙ ap answered summed))
      where
        by : (r : Result (List (Row V)) Refusal) → Ok tt ≡ answered r → Ok (rows_of r) ≡ r
        by (Ok xs) h = refl
        by (Err y) h = absurd (let z : ◌≡◌ {A = ℕ} 0 1 = cc in omega arith)

-- ---- all rows
continued_twice : {V : Type 0} (r : Result (List (Row V)) Refusal) (f h : List (Row V) → Result (List (Row V)) Refusal) → continued (continued r f) h ≡ continued r (λ xs. continued (f xs) h)
continued_twice (Ok xs) f h = refl
continued_twice (Err e) f h = refl

module _ {V : Type 0} {G : Ghosts V} (K : Kind V) (v : ℕ) (qs xs : List (Row V)) (s : Worktop V G) where
  abbrev left-sum : List (Row V) → List (Row V) → Result (List (Row V)) Refusal
  left-sum = substituted K (state s).vars (state s).room v qs

  pub record Summing (t : Worktop V G) (i : ℕ) : Type 0 where
    pub kept : Kept (below 8) s t
    pub whole : left-sum (table t 8) (drop i xs) ≡ left-sum [] xs

  pub summing_none : table s 8 ≡ [] → Summing s 0
  summing_none e = record { kept = kept_same (below 8) s; whole = ap (λ acc. left-sum acc xs) e }

  module _ (q : ℕ) (inside : q < 8) (same : table s q ≡ qs) (t u : Worktop V G) (i : ℕ) (r : Summing t i) (more : i < length xs) (x : Row V) (is : x ≡ get_or xs i x) (answer : Result (Unit {0}) Refusal) (m : Making 8 t u (continued (term_raised K (state t).vars (state t).room v (table t q) x) (λ ts. limited (state t).room (sum K (table t 8) ts))) (made_in 8 answer)) where
    abbrev tail : List (Row V) → Result (List (Row V)) Refusal
    tail acc = left-sum acc (drop (i + 1) xs)

    next-sum : continued (made_of (contents u.areas) (made_in 8 answer)) tail ≡ left-sum [] xs
    next-sum =
        let k = r.kept in
        ap (λ z. continued z tail) (m.result ∙ (λ j. continued (term_raised K (variables (k.format j)) (k.room j) v ((k.others q inside ∙ same) j) x) (λ ts. limited (k.room j) (sum K (table t 8) ts))))
        ∙ continued_twice (term_raised K (state s).vars (state s).room v qs x) (λ ts. limited (state s).room (sum K (table t 8) ts)) tail
        ∙ sym (at_drop_more (left-sum (table t 8)) xs i x more ∙ ap (λ z. left-sum (table t 8) (z ∷ drop (i + 1) xs)) (sym is))
        ∙ r.whole

    so_far_sum : Kept (below 8) s u
    so_far_sum = kept-after (below 8) (below 8) (below 8) s t u (λ o h. (h, h)) r.kept (made_kept 8 t u _ (made_in 8 answer) m)

    pub summing_more : answer ≡ Ok tt → Summing u (i + 1)
    summing_more e = record { kept = so_far_sum; whole = ap (λ z. continued (made_of (contents u.areas) (made_in 8 z)) tail) (sym e) ∙ next-sum }

    pub summing_refused : (y : Refusal) → answer ≡ Err y → Making 8 s u (left-sum [] xs) (Err y)
    summing_refused y e = made_by 8 s u (left-sum [] xs) (Err y) so_far_sum (ap (λ z. continued (made_of (contents u.areas) (made_in 8 z)) tail) (sym e) ∙ next-sum)

  pub summing_all : (t : Worktop V G) (i : ℕ) → Summing t i → length xs ≤ i → Making 8 s t (left-sum [] xs) (Ok 8)
  summing_all t i r all = made_by 8 s t (left-sum [] xs) (Ok 8) r.kept (sym (at_drop_all (left-sum (table t 8)) xs i all) ∙ r.whole)
