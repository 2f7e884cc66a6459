-- Making rows of those of a place, each by itself. Assumes nothing.
--     not_refused          what is accepted is not refused
--     lowered-key          the key of a row with a lower exponent
--     chosen-rows, derived-rows     what is made of the rows is what the calls are to make
--     table-room           a table has no more rows than an area
--     pushed-fits          a row is written where there is room for it
--     Changing             what holds while the rows are worked: the rows so far, and what is left gives the result
--     changing-none        before the first row
--     changing-some, changing_skip     a row of which one is made, and one of which none is
--     changing-fits        there is room for it
--     changing-refused, changing_all   the end, by a refusal or after the last row
--     changing_made        what a call made whose rows were made so
use Rattle.std.proofs.Common.{◌≡◌, ℕ, ◌+◌, ◌-◌, ◌*◌, ◌<◌, ◌≤◌, Bool, cond, eqb, List, [], ◌∷◌, ◌++◌, length, get_or, drop, Some, None, Ok, Err, Option, Result, sym, refl, ap, ◌∙◌, ⊎_elim, arith}
use Rattle.std.proofs.lemmas.List.{append-nil, length_push, length-take, at_drop_more, at_drop_all, get_or_past}
use Rattle.std.proofs.lemmas.Bool.{cases_lt, cases_Bool, lt-ltb, le-ltb, cond-true, cond-false}
use Rattle.refusals.specs.declared.Refusal.{Refusal}
use Rattle.rings.specs.Members.{copies}
use Rattle.rings.specs.Kinds.{Kind}
use Rattle.rings.specs.declared.ring.Ring.{Ghosts}
use Rattle.formats.specs.Exponents.{exponent, placed}
use Rattle.formats.specs.Keys.{pack, unpack, replaced}
use Rattle.formats.specs.declared.variable.Variable.{Variable}
use Rattle.rows.specs.Tables.{row, consed, both}
use Rattle.rows.specs.declared.Row.{Row}
use Rattle.algebra.proofs.Packing.{length_unpack, within-unpack}
use Rattle.arithmetic.specs.Truncating.{chosen}
use Rattle.arithmetic.specs.Deriving.{power_of, with_power, derived}
use Rattle.arithmetic.proofs.Derived.{within_lower}
use Rattle.areas.specs.Areas.{Contents, contents, lent_room, count, storing, pushed, kept as held}
use Rattle.areas.specs.Merging.{found, prepended}
use Rattle.areas.specs.declared.twelve.Areas.{Areas}
use Rattle.areas.proofs.Prefixes.{prefixed, prefixed_none, prefixed_more}
use Rattle.sheets.specs.Changes.{row_derived, before, changed, Gives, Changes}
use Rattle.sheets.specs.Ends.{made_in, made_of, Making}
use Rattle.sheets.specs.Working.{table, below, but, Kept}
use Rattle.sheets.specs.declared.worktop.Worktop.{Worktop}
use Rattle.sheets.proofs.States.{table-there}
use Rattle.sheets.proofs.Products.{kept_same, kept_fewer, kept-stored, kept-after, made_by}

pub not_refused : {X : Type 0} (x : X) (e : Refusal) → Err e ≡ Ok x → ⊥
not_refused x e h = let z : ◌≡◌ {A = ℕ} 0 1 = cc in omega arith

pub lowered-key : (vs : List Variable) (v k : ℕ) → (exponent v (unpack vs k) ≡ 0 → ⊥) → replaced vs k v (exponent v (unpack vs k) - 1) ≡ Ok (pack vs (placed v (exponent v (unpack vs k) - 1) (unpack vs k)))
lowered-key vs v k some =
    let long = length_unpack vs k in
    let inside : v < length vs = ⊎_elim (λ h. h) (λ h. absurd (some (get_or_past (unpack vs k) v 0 (omega arith)))) (cases_lt v (length vs)) in
    cond-true _ _ _ (lt-ltb v (length vs) inside) ∙ cond-true _ _ _ (within_lower vs v (exponent v (unpack vs k) - 1) (unpack vs k) (omega arith) (within-unpack vs k))

-- ---- the two changes
found_before : {V : Type 0} (K : Kind V) (k : ℕ) (m : Result V Refusal) (r : Result (List (Row V)) Refusal) → before (found K k m) r ≡ both K k m r
found_before K k (Ok v) r =
    let t = K.ops.same (K.meaning v) K.ops.zero in
    ⊎_elim (λ h. ap (λ o. prepended o r) (cond-true t None (Some (row k v)) h) ∙ sym (cond-true t _ _ h)) (λ h. ap (λ o. prepended o r) (cond-false t None (Some (row k v)) h) ∙ sym (cond-false t _ _ h)) (cases_Bool t)
found_before K k (Err e) r = refl

-- the rows that a test takes
pub chosen-rows : {V : Type 0} (t : Row V → Bool) (xs : List (Row V)) → changed (λ x. Ok (cond (t x) (Some x) None)) xs ≡ Ok (chosen t xs)
chosen-rows t [] = refl
chosen-rows t (x ∷ xs) =
    let again = chosen-rows t xs in
    let R = changed (λ x. Ok (cond (t x) (Some x) None)) xs in
    ⊎_elim
    (λ h. ap (λ o. before (Ok o) R) (cond-true (t x) (Some x) None h) ∙ ap (consed x) again ∙ ap Ok (sym (cond-true (t x) _ _ h)))
    (λ h. ap (λ o. before (Ok o) R) (cond-false (t x) (Some x) None h) ∙ again ∙ ap Ok (sym (cond-false (t x) _ _ h)))
    (cases_Bool (t x))

pub derived-rows : {V : Type 0} (K : Kind V) (vs : List Variable) (v : ℕ) (xs : List (Row V)) → changed (row_derived K vs v) xs ≡ derived K vs v xs
derived-rows K vs v [] = refl
derived-rows K vs v (x ∷ xs) =
    let again = derived-rows K vs v xs in
    let R = changed (row_derived K vs v) xs in
    let t = eqb (power_of vs v x) 0 in
    let k = with_power vs v (power_of vs v x - 1) x in
    let m = K.value (copies K.ops (power_of vs v x) (K.meaning x.coefficient)) in
    ⊎_elim
    (λ h. ap (λ r. before r R) (cond-true t (Ok None) (found K k m) h) ∙ again ∙ sym (cond-true t _ _ h))
    (λ h. ap (λ r. before r R) (cond-false t (Ok None) (found K k m) h) ∙ found_before K k m R ∙ ap (both K k m) again ∙ sym (cond-false t _ _ h))
    (cases_Bool t)

-- ---- tables
pub table-room : {V : Type 0} {G : Ghosts V} (s : Areas V G) (a : ℕ) → length ((contents s).tables a) ≤ (contents s).room
table-room s a = omega (arith, length-take (count s a) (drop (a * lent_room s) s.rows.now))

-- ---- row by row
pub pushed-fits : {V : Type 0} (c : Contents V) (a : ℕ) (x : Row V) → a < 12 → length (c.tables a) < c.room → pushed c a x ≡ Ok (c.tables a ++ x ∷ [])
pushed-fits c a x h fits = cond-true _ _ _ (lt-ltb a 12 h) ∙ cond-false _ _ _ (le-ltb c.room (length (c.tables a ++ x ∷ [])) (let l = length_push (c.tables a) x in omega arith))

module _ {V : Type 0} {G : Ghosts V} (post : Row V → Result (Option (Row V)) Refusal → Type 0) (a : ℕ) (xs : List (Row V)) (s : Worktop V G) where
  pub record Changing (t : Worktop V G) (i : ℕ) : Type 0 where
    pub kept : Kept (but a) s t
    pub few : length (table t a) ≤ i
    pub rest : (f : Row V → Result (Option (Row V)) Refusal) → Gives post f → prefixed (table t a) (changed f (drop i xs)) ≡ changed f xs

  pub changing-none : table s a ≡ [] → Changing s 0
  changing-none e = record { kept = kept_same (but a) s; few = omega (arith, ap length e); rest = λ f h. ap (λ l. prefixed l (changed f xs)) e ∙ prefixed_none (changed f xs) }

  module _ (t : Worktop V G) (i : ℕ) (r : Changing t i) (more : i < length xs) (x : Row V) (is : x ≡ get_or xs i x) where
    next : (o : Result (Option (Row V)) Refusal) → post x o → (f : Row V → Result (Option (Row V)) Refusal) → Gives post f → prefixed (table t a) (before o (changed f (drop (i + 1) xs))) ≡ changed f xs
    next o p f h =
        ap (λ z. prefixed (table t a) (before z (changed f (drop (i + 1) xs)))) (h x o p)
        ∙ sym (ap (prefixed (table t a)) (at_drop_more (changed f) xs i x more ∙ ap (λ z. before (f z) (changed f (drop (i + 1) xs))) (sym is)))
        ∙ r.rest f h

    pub changing-refused : (e : Refusal) → post x (Err e) → Changes post xs (Err e)
    changing-refused e p = next (Err e) p

    pub changing_skip : post x (Ok None) → Changing t (i + 1)
    changing_skip p = record { kept = r.kept; few = omega (arith, r.few); rest = next (Ok None) p }

    module _ (y : Row V) (p : post x (Ok (Some y))) (area : a < 12) (room : length xs ≤ (contents s.areas).room) where
      pub changing-fits : pushed (contents t.areas) a y ≡ Ok (table t a ++ y ∷ [])
      changing-fits = pushed-fits (contents t.areas) a y area (omega (arith, r.few, r.kept.room))

      pub changing-some : (u : Worktop V G) → contents u.areas ≡ held (contents t.areas) a (pushed (contents t.areas) a y) → u.format ≡ t.format → Changing u (i + 1)
      changing-some u leaves format =
          let is_now : contents u.areas ≡ storing (contents t.areas) a (table t a ++ y ∷ []) = leaves ∙ ap (held (contents t.areas) a) changing-fits in
          let now : table u a ≡ table t a ++ y ∷ [] = ap (λ d. d.tables a) is_now ∙ table-there (contents t.areas) a (table t a ++ y ∷ []) area in
          record {
            kept = kept-after (but a) (but a) (but a) s t u (λ o h. (h, h)) r.kept (kept-stored t u a (table t a ++ y ∷ []) is_now format);
            few = omega (arith, ap length now, length_push (table t a) y, r.few);
            rest = λ f h. ap (λ l. prefixed l (changed f (drop (i + 1) xs))) now ∙ sym (prefixed_more (table t a) y (changed f (drop (i + 1) xs))) ∙ next (Ok (Some y)) p f h;
          }

  pub changing_all : (t : Worktop V G) (i : ℕ) → Changing t i → length xs ≤ i → Changes post xs (Ok (table t a))
  changing_all t i r all = λ f h. ap Ok (sym (append-nil (table t a))) ∙ ap (prefixed (table t a)) (sym (at_drop_all (changed f) xs i all)) ∙ r.rest f h

-- what a call made whose rows were made so
pub changing_made : {V : Type 0} {G : Ghosts V} (post : Row V → Result (Option (Row V)) Refusal → Type 0) (a : ℕ) → 8 ≤ a → (xs : List (Row V)) (s t : Worktop V G) (answer : Result (Unit {0}) Refusal) (made : Result ℕ Refusal) → Kept (but a) s t → Changes post xs (made_of (contents t.areas) (made_in a answer)) → made ≡ made_in a answer → (f : Row V → Result (Option (Row V)) Refusal) → Gives post f → Making 8 s t (changed f xs) made
changing_made post a low xs s t answer made k makes is f h = made_by 8 s t (changed f xs) made (kept_fewer (but a) (below 8) s t (λ o l e. omega arith) k) (ap (made_of (contents t.areas)) is ∙ makes f h)
