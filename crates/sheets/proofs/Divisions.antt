-- Exact division of tables, leading row by leading row: the quotient in the area 8, the remainder in the areas 10 and 11. Assumes nothing.
--     pushed_cases         a row is written to the quotient, or there is no room for it
--     kept-pushed          what writing it keeps
--     Begun, begun         before the first step: no quotient, and the dividend for a remainder
--     begun-quotient       division from there on is the whole division
--     Division             after some steps: what division comes to from there on is what it comes to from the first
--     division_none, division_row, division_full, division_taken, division_all
--                          before the first step, a step whose row is refused, or has no room, or is written, and no remainder left
--     division_more, division_refused     after a step whose row is written: the next remainder is made, or is refused
--     divides              what a call that divides leaves, in the words of algebra
use Rattle.std.proofs.Common.{◌≡◌, ℕ, zero, suc, ◌-◌, ◌<◌, ◌≤◌, ◌⊎◌, List, [], ◌∷◌, ◌++◌, length, drop, replicate, Some, None, Ok, Err, Result, sym, refl, ap, ◌∙◌, subst₂, inl, inr, ⊎_elim, arith}
use Rattle.std.proofs.lemmas.List.{length_push}
use Rattle.std.proofs.lemmas.Bool.{cases_lt, cond-true, lt-ltb}
use Rattle.refusals.specs.declared.Refusal.{Refusal}
use Rattle.refusals.specs.declared.Refusal.TheVariants.{Place, Rows}
use Rattle.rings.specs.Kinds.{Kind}
use Rattle.rings.specs.declared.ring.Ring.{Ghosts}
use Rattle.formats.specs.Drafts.{variables}
use Rattle.formats.specs.declared.variable.Variable.{Variable}
use Rattle.formats.proofs.Keys.{sound}
use Rattle.rows.specs.Products.{continued}
use Rattle.rows.specs.Tables.{limited}
use Rattle.rows.specs.declared.Row.{Row}
use Rattle.algebra.specs.Polynomials.{Poly}
use Rattle.areas.specs.Areas.{Contents, contents, storing, answered, pushed, kept as held}
use Rattle.arithmetic.specs.Dividing.{Over, opposed, leading, then, divided, quotient}
use Rattle.arithmetic.specs.Multiplying.{step}
use Rattle.arithmetic.specs.Quotients.{Divided}
use Rattle.sheets.specs.States.{State, kept as left_in}
use Rattle.sheets.specs.Worktops.{state}
use Rattle.sheets.specs.Calls.{row_leading}
use Rattle.sheets.specs.Ends.{made_in, made_of, Making}
use Rattle.sheets.specs.Promises.{Formulas, Holds, Divides}
use Rattle.sheets.specs.Working.{highest, turned, table, below, but, Kept}
use Rattle.sheets.specs.declared.worktop.Worktop.{Worktop}
use Rattle.sheets.proofs.States.{table-there}
use Rattle.sheets.proofs.Outcomes.{outcome}
use Rattle.sheets.proofs.Products.{kept_same, kept-after, kept-stored, made_kept, made_by, turn_step}
use Rattle.sheets.proofs.Changing.{pushed-fits}

-- ---- the row of a step, in the quotient
module _ {V : Type 0} (c : Contents V) (x : Row V) where
  pub pushed_cases : ((length (c.tables 8) < c.room) × (pushed c 8 x ≡ Ok (c.tables 8 ++ x ∷ []))) ⊎ ((c.room ≤ length (c.tables 8)) × (pushed c 8 x ≡ Err Rows))
  pushed_cases =
      let long = length_push (c.tables 8) x in
      ⊎_elim (λ h. inl (h, pushed-fits c 8 x (omega arith) h))
      (λ h. inr (h, cond-true _ (limited c.room (Ok (c.tables 8 ++ x ∷ []))) (Err Place) (lt-ltb 8 12 (omega arith)) ∙ cond-true _ _ _ (lt-ltb c.room (length (c.tables 8 ++ x ∷ [])) (omega (arith, long)))))
      (cases_lt (length (c.tables 8)) c.room)

  pub pushed-taken : (answer : Result (Unit {0}) Refusal) → answer ≡ answered (pushed c 8 x) → answer ≡ Ok tt → (length (c.tables 8) < c.room) × (pushed c 8 x ≡ Ok (c.tables 8 ++ x ∷ []))
  pushed-taken answer a e = ⊎_elim (λ h. h) (λ h. let f = sym e ∙ a ∙ ap answered h.1 in absurd (let z : ◌≡◌ {A = ℕ} 0 1 = cc in omega arith)) pushed_cases

  pub pushed-over : (answer : Result (Unit {0}) Refusal) → answer ≡ answered (pushed c 8 x) → (e : Refusal) → answer ≡ Err e → (c.room ≤ length (c.tables 8)) × (e ≡ Rows)
  pushed-over answer a r e = ⊎_elim (λ h. let f = sym e ∙ a ∙ ap answered h.1 in absurd (let z : ◌≡◌ {A = ℕ} 0 1 = cc in omega arith)) (λ h. let f = sym e ∙ a ∙ ap answered h.1 in (h.0, cc)) pushed_cases

pub kept-pushed : {V : Type 0} {G : Ghosts V} (s t : Worktop V G) (r : Result (List (Row V)) Refusal) → contents t.areas ≡ held (contents s.areas) 8 r → t.format ≡ s.format → Kept (but 8) s t
kept-pushed s t (Ok xs) is format = kept-stored s t 8 xs is format
kept-pushed s t (Err e) is format = record { others = λ o h. ap (λ c. c.tables o) is; lent = ap (λ c. c.lent) is; room = ap (λ c. c.room) is; format = format }

-- ---- the first step
module _ {V : Type 0} {G : Ghosts V} (s : Worktop V G) where
  pub record Begun (start : Worktop V G) (p : ℕ) : Type 0 where
    pub kept : Kept (below 8) s start
    pub none : table start 8 ≡ []
    pub copied : table start 10 ≡ table s p

  pub begun : (mid start : Worktop V G) (p : ℕ) → p < 8 → contents mid.areas ≡ storing (contents s.areas) 8 [] → Kept (but 8) s mid → contents start.areas ≡ storing (contents mid.areas) 10 (table mid p) → Kept (but 10) mid start → Begun start p
  begun mid start p h cleared k copied l = record {
    kept = kept-after (but 8) (but 10) (below 8) s mid start (λ o m. ((λ e. omega arith), (λ e. omega arith))) k l;
    none = l.others 8 (λ e. omega arith) ∙ ap (λ c. c.tables 8) cleared ∙ table-there (contents s.areas) 8 [] (omega arith);
    copied = ap (λ c. c.tables 10) copied ∙ table-there (contents mid.areas) 10 (table mid p) (omega arith) ∙ k.others p (λ e. omega arith);
  }

-- ---- steps on lists
pub first_drop : {V : Type 0} (zs : List (Row V)) (x : Row V) → row_leading zs ≡ Some x → zs ≡ x ∷ drop 1 zs
first_drop [] x h = absurd (let z : ◌≡◌ {A = ℕ} 0 1 = cc in omega arith)
first_drop (z ∷ zs) x h = let e : z ≡ x = cc in ap (λ w. w ∷ zs) e

module _ {V : Type 0} (K : Kind V) (over : Over V) (vs : List Variable) (c : ℕ) where
  quotient-some : (xs ds : List (Row V)) (y : Row V) → row_leading ds ≡ Some y → quotient K over vs c xs ds ≡ divided K over vs c y (drop 1 ds) c [] xs
  quotient-some xs ds y h = ap (quotient K over vs c xs) (first_drop ds y h)

  module _ (y : Row V) (ds : List (Row V)) where
    abbrev onward : ℕ → List (Row V) → List (Row V) → Result (List (Row V)) Refusal
    onward = divided K over vs c y ds

    abbrev goes : ℕ → List (Row V) → List (Row V) → Row V → Result (List (Row V)) Refusal
    goes m qs zs t = continued (step K vs c zs (y ∷ ds) (opposed K t)) (λ rest. onward m (qs ++ t ∷ []) rest)

    onward-none : (m : ℕ) (qs zs : List (Row V)) → row_leading zs ≡ None → onward m qs zs ≡ Ok qs
    onward-none m qs [] h = refl
    onward-none m qs (z ∷ zs) h = absurd (let z : ◌≡◌ {A = ℕ} 0 1 = cc in omega arith)

    module _ (qs zs : List (Row V)) (x : Row V) (h : row_leading zs ≡ Some x) where
      onward_full : onward 0 qs zs ≡ then (leading over vs x y) (λ t. Err Rows)
      onward_full = ap (onward 0 qs) (first_drop zs x h)

      onward-more : (m : ℕ) → onward (suc m) qs zs ≡ then (leading over vs x y) (goes m qs zs)
      onward-more m = ap (onward (suc m) qs) (first_drop zs x h) ∙ ap (λ l. then (leading over vs x y) (goes m qs l)) (sym (first_drop zs x h))

      onward-row : (m : ℕ) (e : Refusal) → leading over vs x y ≡ Err e → onward m qs zs ≡ Err e
      onward-row zero e r = onward_full ∙ ap (λ l. then l (λ t. Err Rows)) r
      onward-row (suc m) e r = onward-more m ∙ ap (λ l. then l (goes m qs zs)) r

-- ---- all steps
module _ {V : Type 0} {G : Ghosts V} (K : Kind V) (over : Over V) (y : Row V) (ds : List (Row V)) (s : Worktop V G) where
  abbrev rest : ℕ → List (Row V) → List (Row V) → Result (List (Row V)) Refusal
  rest = divided K over (state s).vars (state s).room y ds

  abbrev pub all : Result (List (Row V)) Refusal
  all = rest (state s).room [] (table s 10)

  pub record Division (t : Worktop V G) (at : ℕ) : Type 0 where
    pub low : 10 ≤ at
    pub high : at ≤ 11
    pub kept : Kept (below 8) s t
    pub whole : rest ((state s).room - length (table t 8)) (table t 8) (table t at) ≡ all

  pub division_none : table s 8 ≡ [] → Division s 10
  division_none e = record { low = omega arith; high = omega arith; kept = kept_same (below 8) s; whole = ap (λ qs. rest ((state s).room - length qs) qs (table s 10)) e ∙ ap (λ m. rest m [] (table s 10)) (omega arith) }

  pub division_all : (t : Worktop V G) (at : ℕ) → Division t at → row_leading (table t at) ≡ None → Making 8 s t all (Ok 8)
  division_all t at r none = made_by 8 s t all (Ok 8) r.kept (sym (onward-none K over (state s).vars (state s).room y ds _ (table t 8) (table t at) none) ∙ r.whole)

  -- a step that wrote its row to the quotient, and then made the remainder that is left
  pub record Taken (t u : Worktop V G) (at : ℕ) (made : Result ℕ Refusal) : Type 0 where
    pub kept : Kept (below 8) s u
    pub next : continued (made_of (contents u.areas) made) (λ zs. rest ((state s).room - length (table u 8)) (table u 8) zs) ≡ all
    pub falls : (contents u.areas).room - length (table u 8) < (contents t.areas).room - length (table t 8)
    pub area : (o : ℕ) → made ≡ Ok o → o ≡ 21 - at

  module _ (t u : Worktop V G) (at : ℕ) (made : Result ℕ Refusal) (d : Taken t u at made) where
    pub division_refused : (e : Refusal) → made ≡ Err e → Making 8 s u all (Err e)
    division_refused e h = made_by 8 s u all (Err e) d.kept (ap (λ v. continued (made_of (contents u.areas) v) (λ zs. rest ((state s).room - length (table u 8)) (table u 8) zs)) (sym h) ∙ d.next)

    pub division_more : Division t at → (o : ℕ) → made ≡ Ok o → Division u o
    division_more r o h = record { low = omega (arith, d.area o h, r.high); high = omega (arith, d.area o h, r.low); kept = d.kept; whole = ap (λ v. continued (made_of (contents u.areas) v) (λ zs. rest ((state s).room - length (table u 8)) (table u 8) zs)) (sym h) ∙ d.next }

  module _ (t : Worktop V G) (at : ℕ) (r : Division t at) (x : Row V) (first : row_leading (table t at) ≡ Some x) where
    there : leading over (state t).vars x y ≡ leading over (state s).vars x y
    there = ap (λ f. leading over (variables f) x y) r.kept.format

    pub division_row : (e : Refusal) → leading over (state t).vars x y ≡ Err e → Making 8 s t all (Err e)
    division_row e l = made_by 8 s t all (Err e) r.kept (sym (onward-row K over (state s).vars (state s).room y ds (table t 8) (table t at) x first ((state s).room - length (table t 8)) e (sym there ∙ l)) ∙ r.whole)

    module _ (z : Row V) (l : leading over (state t).vars x y ≡ Ok z) (mid : Worktop V G) (answer : Result (Unit {0}) Refusal) (a : answer ≡ answered (pushed (contents t.areas) 8 z)) (is : contents mid.areas ≡ held (contents t.areas) 8 (pushed (contents t.areas) 8 z)) (format : mid.format ≡ t.format) where
      k : Kept (but 8) t mid
      k = kept-pushed t mid (pushed (contents t.areas) 8 z) is format

      before : Kept (below 8) s mid
      before = kept-after (below 8) (but 8) (below 8) s t mid (λ o h. (h, λ e. omega arith)) r.kept k

      pub division_full : (e : Refusal) → answer ≡ Err e → Making 8 s mid all (Err e)
      division_full e b =
          let full = pushed-over (contents t.areas) z answer a e b in
          let none : (state s).room - length (table t 8) ≡ 0 = omega (arith, full.0, r.kept.room) in
          made_by 8 s mid all (Err e) before
          (ap Err full.1 ∙ sym (ap (λ m. rest m (table t 8) (table t at)) none ∙ onward_full K over (state s).vars (state s).room y ds (table t 8) (table t at) x first ∙ ap (λ w. then w (λ _. Err Rows)) (sym there ∙ l)) ∙ r.whole)

      module _ (b : answer ≡ Ok tt) (q : ℕ) (inside : q < 8) (divisor : table s q ≡ y ∷ ds) (most : List ℕ) (high : most ≡ highest (state s).vars (replicate 8 0) (y ∷ ds)) (w : Row V) (opposite : w ≡ opposed K z) (u : Worktop V G) (made : Result ℕ Refusal) (m : Making 10 mid u (turned K (state mid).vars (state mid).room most (table mid at) (table mid q) w) made) where
        abbrev taken : Result (List (Row V)) Refusal
        taken = turned K (state mid).vars (state mid).room most (table mid at) (table mid q) w

        abbrev one : Result (List (Row V)) Refusal
        one = step K (state s).vars (state s).room (table t at) (y ∷ ds) (opposed K z)

        same : taken ≡ one
        same =
            (λ j. turned K (variables (before.format j)) (before.room j) most (k.others at (λ e. omega (arith, r.low)) j) ((before.others q inside ∙ divisor) j) (opposite j))
            ∙ turn_step K (state s).vars (state s).room most (table t at) (y ∷ ds) (opposed K z) (sound s.format).few high

        fits : (length (table t 8) < (contents t.areas).room) × (pushed (contents t.areas) 8 z ≡ Ok (table t 8 ++ z ∷ []))
        fits = pushed-taken (contents t.areas) z answer a b

        grown : table u 8 ≡ table t 8 ++ z ∷ []
        grown = m.others 8 (omega arith) ∙ ap (λ d. d.tables 8) (is ∙ ap (held (contents t.areas) 8) fits.1) ∙ table-there (contents t.areas) 8 (table t 8 ++ z ∷ []) (omega arith)

        longer : length (table u 8) ≡ suc (length (table t 8))
        longer = omega (arith, ap length grown, length_push (table t 8) z)

        next : continued (made_of (contents u.areas) made) (λ zs. rest ((state s).room - length (table u 8)) (table u 8) zs) ≡ all
        next =
            let less : (state s).room - length (table t 8) ≡ suc ((state s).room - length (table u 8)) = omega (arith, longer, fits.0, r.kept.room) in
            (λ j. continued ((m.result ∙ same) j) (λ zs. rest ((state s).room - length (table u 8)) (grown j) zs))
            ∙ sym (ap (λ n. rest n (table t 8) (table t at)) less ∙ onward-more K over (state s).vars (state s).room y ds (table t 8) (table t at) x first ((state s).room - length (table u 8)) ∙ ap (λ v. then v (goes K over (state s).vars (state s).room y ds ((state s).room - length (table u 8)) (table t 8) (table t at))) (sym there ∙ l))
            ∙ r.whole

        after : Kept (below 8) s u
        after = kept-after (below 8) (below 10) (below 8) s mid u (λ o h. (h, omega arith)) before (made_kept 10 mid u taken made m)

        pub division_taken : made ≡ made_in (21 - at) (answered taken) → Taken t u at made
        division_taken area = record { kept = after; next = next; falls = omega (arith, longer, fits.0, r.kept.room, after.room); area = λ o h. by o taken (sym h ∙ area) }
          where
            by : (o : ℕ) (v : Result (List (Row V)) Refusal) → Ok o ≡ made_in (21 - at) (answered v) → o ≡ 21 - at
            by o (Ok xs) h = cc
            by o (Err e) h = absurd (let z : ◌≡◌ {A = ℕ} 0 1 = cc in omega arith)

-- ---- the whole division, from where it began
pub begun-quotient : {V : Type 0} {G : Ghosts V} (K : Kind V) (over : Over V) (y : Row V) (s start : Worktop V G) (p q : ℕ) → q < 8 → row_leading (table s q) ≡ Some y → Begun s start p → all K over y (drop 1 (table start q)) start ≡ quotient K over (state s).vars (state s).room (table s p) (table s q)
begun-quotient K over y s start p q h first b =
    (λ i. divided K over (variables (b.kept.format i)) (b.kept.room i) y (drop 1 (b.kept.others q h i)) (b.kept.room i) [] (b.copied i))
    ∙ sym (quotient-some K over (state s).vars (state s).room (table s p) (table s q) y first)

-- ---- algebra
module _ {V : Type 0} (K : Kind V) (s : State V) (f : Formulas K) (r : ℕ) (x y : Poly K.ops) (h : Holds K s f) where
  left : (a : Result (List (Row V)) Refusal) → Divided K s.vars s.room x y a → Divides K s (left_in s r a) f r x y (answered a)
  left (Ok xs) d = (d.0, d.1, outcome K s (left_in s r (Ok xs)) f r d.0 (λ _. ⊥) (Ok xs) (Ok tt) refl refl h d.2)
  left (Err e) d = (h, d)

  pub divides : (t : State V) (a : Result (List (Row V)) Refusal) (answer : Result (Unit {0}) Refusal) → answer ≡ answered a → t ≡ left_in s r a → Divided K s.vars s.room x y a → Divides K s t f r x y answer
  divides t a answer e l d = subst₂ (λ u w. Divides K s u f r x y w) (sym l) (sym e) (left a d)
