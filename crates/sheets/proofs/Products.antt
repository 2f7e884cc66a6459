-- A product of tables, row by row of the second, in the working areas 10 and 11. Assumes nothing.
--     always               the rows that every row of the second table meets, where that is all of the first
--     kept_same, kept_fewer, kept-after, making_after     no step, fewer areas, steps after steps
--     kept-stored          a table stored in an area
--     made_kept, made_by   what steps that make something keep
--     product-kept         the product of two tables that were kept
--     turn_step            a turn with the greatest exponents of the factors is a step
--     Turn, turn_taken     a turn is a step of the product
--     Running              the running table after some rows: what it comes to with the rest is the whole product
--     running_none, running_more, running-refused, running_all     before the first row, one row more, a row that is refused, and no row left
use Rattle.std.proofs.Common.{◌≡◌, ℕ, ◌+◌, ◌-◌, ◌<◌, ◌≤◌, cond, List, [], ◌∷◌, length, get_or, drop, replicate, Ok, Err, Result, sym, refl, ap, ◌∙◌, arith}
use Rattle.std.proofs.lemmas.List.{at_drop_more, at_drop_all}
use Rattle.refusals.specs.declared.Refusal.{Refusal}
use Rattle.refusals.specs.declared.Refusal.TheVariants.{Exponent}
use Rattle.rings.specs.Kinds.{Kind}
use Rattle.rings.specs.declared.ring.Ring.{Ghosts}
use Rattle.formats.specs.Drafts.{variables}
use Rattle.formats.specs.declared.variable.Variable.{Variable}
use Rattle.formats.proofs.Keys.{sound}
use Rattle.rows.specs.Products.{joined, continued}
use Rattle.rows.specs.Tables.{limited}
use Rattle.rows.specs.declared.Row.{Row}
use Rattle.areas.specs.Areas.{contents, storing, answered}
use Rattle.arithmetic.specs.Multiplying.{step, multiplied, product}
use Rattle.sheets.specs.Worktops.{state}
use Rattle.sheets.specs.Ends.{made_in, made_of, Making}
use Rattle.sheets.specs.Working.{highest, turned, table, below, but, Kept}
use Rattle.sheets.specs.declared.worktop.Worktop.{Worktop}
use Rattle.sheets.proofs.States.{table-other}
use Rattle.sheets.proofs.Bounding.{highest-inside}

abbrev pub always : {V : Type 0} → List (Row V) → Row V → List (Row V)
always xs y = xs

-- ---- steps after steps
module _ {V : Type 0} {G : Ghosts V} where
  pub kept_same : (same : ℕ → Type 0) (s : Worktop V G) → Kept same s s
  kept_same same s = record { others = λ o h. refl; lent = refl; room = refl; format = refl }

  pub kept-after : (one two all : ℕ → Type 0) (s t u : Worktop V G) → ((o : ℕ) → all o → one o × two o) → Kept one s t → Kept two t u → Kept all s u
  kept-after one two all s t u both p q = record {
    others = λ o h. q.others o (both o h).1 ∙ p.others o (both o h).0;
    lent = q.lent ∙ p.lent;
    room = q.room ∙ p.room;
    format = q.format ∙ p.format;
  }

  pub kept_fewer : (one all : ℕ → Type 0) (s t : Worktop V G) → ((o : ℕ) → all o → one o) → Kept one s t → Kept all s t
  kept_fewer one all s t less k = record { others = λ o h. k.others o (less o h); lent = k.lent; room = k.room; format = k.format }

  pub kept-stored : (s t : Worktop V G) (a : ℕ) (xs : List (Row V)) → contents t.areas ≡ storing (contents s.areas) a xs → t.format ≡ s.format → Kept (but a) s t
  kept-stored s t a xs is format = record { others = λ o h. ap (λ c. c.tables o) is ∙ table-other (contents s.areas) a xs o h; lent = ap (λ c. c.lent) is; room = ap (λ c. c.room) is; format = format }

  pub made_kept : (n : ℕ) (s t : Worktop V G) (a : Result (List (Row V)) Refusal) (made : Result ℕ Refusal) → Making n s t a made → Kept (below n) s t
  made_kept n s t a made m = record { others = m.others; lent = m.lent; room = m.room; format = m.format }

  pub made_by : (n : ℕ) (s t : Worktop V G) (a : Result (List (Row V)) Refusal) (made : Result ℕ Refusal) → Kept (below n) s t → made_of (contents t.areas) made ≡ a → Making n s t a made
  made_by n s t a made k e = record { result = e; others = k.others; lent = k.lent; room = k.room; format = k.format }

  pub making_after : (n : ℕ) (s t u : Worktop V G) (a b : Result (List (Row V)) Refusal) (made : Result ℕ Refusal) → Kept (below n) s t → b ≡ a → Making n t u b made → Making n s u a made
  making_after n s t u a b made k e m = made_by n s u a made (kept-after (below n) (below n) (below n) s t u (λ o h. (h, h)) k (made_kept n t u b made m)) (m.result ∙ e)

  -- the product of two tables, after the area 10 was written
  pub product-kept : (K : Kind V) (s t : Worktop V G) → Kept (but 10) s t → (p q : ℕ) → p < 10 → q < 10 → product K (state t).vars (state t).room (table t p) (table t q) ≡ product K (state s).vars (state s).room (table s p) (table s q)
  product-kept K s t k p q hp hq = λ i. product K (variables (k.format i)) (k.room i) (k.others p (λ e. omega arith) i) (k.others q (λ e. omega arith) i)

-- ---- one turn
pub turn_step : {V : Type 0} (K : Kind V) (vs : List Variable) (c : ℕ) (most : List ℕ) (acc xs : List (Row V)) (y : Row V) → length vs ≤ 8 → most ≡ highest vs (replicate 8 0) xs → turned K vs c most acc xs y ≡ step K vs c acc xs y
turn_step K vs c most acc xs y few e = ap (λ m. turned K vs c m acc xs y) e ∙ ap (λ t. cond t (limited c (joined K acc y xs)) (Err Exponent)) (highest-inside vs y xs few)

-- ---- all turns
module _ {V : Type 0} {G : Ghosts V} (K : Kind V) (n : ℕ) (pick : Row V → List (Row V)) (ys : List (Row V)) (s : Worktop V G) where
  abbrev rest : List (Row V) → List (Row V) → Result (List (Row V)) Refusal
  rest = multiplied K (state s).vars (state s).room pick

  abbrev one : List (Row V) → Row V → Result (List (Row V)) Refusal
  one acc y = step K (state s).vars (state s).room acc (pick y) y

  pub record Turn (t u : Worktop V G) (at : ℕ) (y : Row V) (made : Result ℕ Refusal) : Type 0 where
    pub kept : Kept (below n) t u
    pub makes : made_of (contents u.areas) made ≡ one (table t at) y
    pub area : made ≡ made_in (21 - at) (answered (one (table t at) y))

  pub record Running (t : Worktop V G) (at i : ℕ) : Type 0 where
    pub low : 10 ≤ at
    pub high : at ≤ 11
    pub kept : Kept (below n) s t
    pub whole : rest (table t at) (drop i ys) ≡ rest [] ys

  -- with the rows of the area f, in a sheet mid that has the running table too
  pub turn_taken : n ≤ 10 → (t mid u : Worktop V G) (at i f : ℕ) (most : List ℕ) (y : Row V) (made : Result ℕ Refusal) → Running t at i → Kept (below n) t mid → table mid at ≡ table t at → table mid f ≡ pick y → most ≡ highest (state s).vars (replicate 8 0) (pick y) → Making 10 mid u (turned K (state mid).vars (state mid).room most (table mid at) (table mid f) y) made → made ≡ made_in (21 - at) (answered (turned K (state mid).vars (state mid).room most (table mid at) (table mid f) y)) → Turn t u at y made
  turn_taken few t mid u at i f most y made r k acc rows high m area =
      let same : turned K (state mid).vars (state mid).room most (table mid at) (table mid f) y ≡ one (table t at) y =
      (λ j. turned K (variables ((k.format ∙ r.kept.format) j)) ((k.room ∙ r.kept.room) j) most (acc j) (rows j) y) ∙ turn_step K (state s).vars (state s).room most (table t at) (pick y) y (sound s.format).few high in
      record { kept = kept-after (below n) (below 10) (below n) t mid u (λ o h. (h, omega arith)) k (made_kept 10 mid u _ made m); makes = m.result ∙ same; area = area ∙ ap (λ z. made_in (21 - at) (answered z)) same }

  pub running_none : table s 10 ≡ [] → Running s 10 0
  running_none e = record { low = omega arith; high = omega arith; kept = kept_same (below n) s; whole = ap (λ acc. rest acc ys) e }

  module _ (t u : Worktop V G) (at i : ℕ) (r : Running t at i) (more : i < length ys) (y : Row V) (is : y ≡ get_or ys i y) (made : Result ℕ Refusal) (taken : Turn t u at y made) where
    next : continued (made_of (contents u.areas) made) (λ acc. rest acc (drop (i + 1) ys)) ≡ rest [] ys
    next =
        ap (λ z. continued z (λ acc. rest acc (drop (i + 1) ys))) taken.makes ∙ sym (at_drop_more (rest (table t at)) ys i y more ∙ ap (λ x. rest (table t at) (x ∷ drop (i + 1) ys)) (sym is)) ∙ r.whole

    so_far : Kept (below n) s u
    so_far = kept-after (below n) (below n) (below n) s t u (λ o h. (h, h)) r.kept taken.kept

    pub running_more : (a : ℕ) → made ≡ Ok a → Running u a (i + 1)
    running_more a e = record { low = omega (arith, other, r.high); high = omega (arith, other, r.low); kept = so_far; whole = ap (λ z. continued (made_of (contents u.areas) z) (λ acc. rest acc (drop (i + 1) ys))) (sym e) ∙ next }
      where
        by : (z : Result (List (Row V)) Refusal) → Ok a ≡ made_in (21 - at) (answered z) → a ≡ 21 - at
        by (Ok xs) h = cc
        by (Err x) h = absurd (let z : ◌≡◌ {A = ℕ} 0 1 = cc in omega arith)

        other : a ≡ 21 - at
        other = by (one (table t at) y) (sym e ∙ taken.area)

    pub running-refused : (x : Refusal) → made ≡ Err x → Making n s u (rest [] ys) (Err x)
    running-refused x e = made_by n s u (rest [] ys) (Err x) so_far (ap (λ z. continued (made_of (contents u.areas) z) (λ acc. rest acc (drop (i + 1) ys))) (sym e) ∙ next)

  pub running_all : (t : Worktop V G) (at i : ℕ) → Running t at i → length ys ≤ i → Making n s t (rest [] ys) (Ok at)
  running_all t at i r all = made_by n s t (rest [] ys) (Ok at) r.kept (sym (at_drop_all (rest (table t at)) ys i all) ∙ r.whole)
