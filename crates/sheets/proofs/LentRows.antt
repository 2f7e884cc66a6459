-- The lent rows of a sheet are told by its state and the tables of its working areas. Assumes nothing.
--     count-table         the count of an area is the length of its table
--     count-is, place_is  the count and the rows of a place, by the lent rows
--     lent_same           two sheets with one state and the same tables in their working areas, on as many rows, have the same lent rows
--     lent_stored         and where one place has another table, its rows are written there
--     lent_kept           so the answer of a call tells what it leaves in the lent rows
--     ended_lent                a call leaves as many
--     left_same, left_lent      at its end, where the working areas hold what they held, and where they were blank
--     refused_lent              and where it was refused
--     misplaced_first, misplaced_second, misplaced_third    because one of three places is none
--     lent_opened         opened, all lent rows are blank
--     clear_same          blank rows in a working area change nothing
--     added-is, constant_is, variable_is     what a call answers is the same by the lent rows
--     lent_added          a sum, brought to its place by the working area, leaves what it says of the state
use Rattle.std.proofs.Common.{◌≡◌, ℕ, ◌-◌, ◌*◌, ◌<◌, ◌≤◌, Bool, true, false, cond, ◌&&◌, eqb, List, [], ◌++◌, map, length, get_or, drop, set, replicate, Ok, Err, Result, sym, refl, ap, ◌∙◌, ⊎_elim, arith}
use Rattle.std.specs.List.{range_with_len}
use Rattle.std.proofs.lemmas.List.{length-take, length-drop, get_or-set_same, get_or-set_other, length-set}
use Rattle.std.proofs.lemmas.List.FromFn.{get_or-map-range_with_len, length-map-range_with_len}
use Rattle.std.proofs.lemmas.Grind.{same_number_lists}
use Rattle.std.proofs.lemmas.Bool.{cases_lt, cases_eq, ltb-true, le-ltb, eq-eqb, ne_eqb, and_parts, and_left, and_right, cond-true, cond-false}
use Rattle.refusals.specs.declared.Refusal.{Refusal}
use Rattle.rings.specs.Kinds.{Kind}
use Rattle.rings.specs.declared.ring.Ring.{Ghosts}
use Rattle.formats.specs.Drafts.{variables}
use Rattle.rows.specs.Lists.{part, put}
use Rattle.rows.specs.Tables.{blank, sum, limited}
use Rattle.rows.specs.declared.Row.{Row}
use Rattle.areas.specs.Shares.{capacity}
use Rattle.areas.specs.Areas.{contents, count as counted}
use Rattle.areas.proofs.Shares.{area_end}
use Rattle.areas.proofs.Same.{same_rows, stored_rows, cleared_rows}
use Rattle.refusals.specs.declared.Refusal.TheVariants.{Place}
use Rattle.areas.proofs.Same.{fresh_rows}
use Rattle.sheets.specs.States.{placed, opened as opened_state, kept as kept_state}
use Rattle.sheets.specs.Worktops.{state, Blank, Free}
use Rattle.sheets.specs.Calls.{all_placed, added, constant_rows as constant_in, variable_rows as variable_in}
use Rattle.sheets.specs.Lent.{Lent, lent_on, room, count, place, opened, stored, cleared, settled, kept, add_answer, add_leaves, constant_rows, variable_rows}
use Rattle.sheets.specs.declared.worktop.Worktop.{Worktop}
use Rattle.sheets.proofs.States.{few-rows}
use Rattle.sheets.proofs.Outcomes.{place-table, SameWorking, both-blank, Ended}

module _ {V : Type 0} {G : Ghosts V} (s : Worktop V G) where
  abbrev rows : List (Row V)
  rows = s.areas.rows.now

  abbrev places : ℕ → List (Row V)
  places = (state s).places

  -- a table has as many rows as its area counts
  pub count-table : (p : ℕ) → p < 8 → length (places p) ≡ counted s.areas p
  count-table p h =
      let c = (state s).room in
      let e = area_end p (length rows) (omega arith) in
      let t = length-take (counted s.areas p) (drop (p * c) rows) in
      let d = length-drop (p * c) rows in
      ap length (place-table s p h) ∙ omega arith

  pub count-is : (p : ℕ) → p < 8 → count (lent_on s) p ≡ length (places p)
  count-is p h = let g = get_or-map-range_with_len (λ n. length (places n)) 0 8 p p 0 h (omega arith) in let f = few-rows s p in omega arith

  pub place_is : (p : ℕ) → p < 8 → place (lent_on s) p ≡ places p
  place_is p h = ap (λ n. part (p * (state s).room) n rows) (count-is p h ∙ count-table p h) ∙ sym (place-table s p h)

-- ---- two sheets with the same tables in their working areas, on as many rows
module _ {V : Type 0} {G : Ghosts V} (s t : Worktop V G) (same : SameWorking s t) (long : length t.areas.rows.now ≡ length s.areas.rows.now) where
  abbrev old_tables : ℕ → List (Row V)
  old_tables = (contents s.areas).tables

  abbrev new_tables : ℕ → List (Row V)
  new_tables = (contents t.areas).tables

  module _ (e : state t ≡ state s) where
    place_same : (p : ℕ) → p < 8 → new_tables p ≡ old_tables p
    place_same p h = sym (place-table t p h) ∙ ap (λ u. u.places p) e ∙ place-table s p h

    same-rows : t.areas.rows.now ≡ s.areas.rows.now
    same-rows = same_rows G.kind s.areas.rows.now t.areas.rows.now s.areas.counts t.areas.counts long s.areas.tidy t.areas.tidy (λ a h. ⊎_elim (λ l. place_same a l) (λ g. same a g h) (cases_lt a 8))

    pub lent_same : lent_on t ≡ lent_on s
    lent_same i = record { rows = same-rows i; counts = map (λ p. length ((e i).places p)) (range_with_len 0 8); vars = (e i).vars }

  module _ (r : ℕ) (h : r < 8) (xs : List (Row V)) (e : state t ≡ kept_state (state s) r (Ok xs)) where
    abbrev after : ℕ → List (Row V)
    after p = cond (eqb p r) xs ((state s).places p)

    this : new_tables r ≡ xs
    this = sym (place-table t r h) ∙ ap (λ u. u.places r) e ∙ cond-true _ _ _ (eq-eqb r r refl)

    other : (a : ℕ) → a < 12 → (a ≡ r → ⊥) → new_tables a ≡ old_tables a
    other a l ne =
        ⊎_elim (λ p. sym (place-table t a p) ∙ ap (λ u. u.places a) e ∙ cond-false _ _ _ (ne_eqb a r ne) ∙ place-table s a p)
        (λ g. same a g l)
        (cases_lt a 8)

    stored-rows : t.areas.rows.now ≡ (stored G.kind (lent_on s) r xs).rows
    stored-rows =
        stored_rows G.kind s.areas.rows.now t.areas.rows.now s.areas.counts t.areas.counts long s.areas.tidy t.areas.tidy r (omega arith) xs this other
        ∙ ap (λ n. put s.areas.rows.now (r * (state s).room) (xs ++ replicate (n - length xs) (blank G.kind))) (sym (count-is s r h ∙ count-table s r h))

    abbrev lengths : (ℕ → List (Row V)) → List ℕ
    lengths f = map (λ p. length (f p)) (range_with_len 0 8)

    stored-counts : lengths after ≡ set (lengths (state s).places) r (length xs)
    stored-counts =
        let a = length-map-range_with_len (λ p. length (after p)) 0 8 in
        let l = length-map-range_with_len (λ p. length ((state s).places p)) 0 8 in
        let q = length-set (lengths (state s).places) r (length xs) in
        same_number_lists _ _ (a ∙ sym l ∙ sym q)
        (λ k m.
        get_or-map-range_with_len (λ p. length (after p)) 0 8 k k 0 (omega arith) (omega arith)
        ∙ ⊎_elim
        (λ x. ap length (cond-true _ _ _ (eq-eqb k r x)) ∙ sym (ap (λ n. get_or (set (lengths (state s).places) r (length xs)) n 0) x ∙ get_or-set_same (lengths (state s).places) r (length xs) 0 (omega arith)))
        (λ ne. ap length (cond-false _ _ _ (ne_eqb k r ne)) ∙ sym (get_or-set_other (lengths (state s).places) r k (length xs) 0 ne ∙ get_or-map-range_with_len (λ p. length ((state s).places p)) 0 8 k k 0 (omega arith) (omega arith)))
        (cases_eq k r))

    pub lent_stored : lent_on t ≡ stored G.kind (lent_on s) r xs
    lent_stored = λ i. record { rows = stored-rows i; counts = (ap (λ u. lengths u.places) e ∙ stored-counts) i; vars = (e i).vars }

  pub lent_kept : (r : ℕ) (a : Result (List (Row V)) Refusal) → ((xs : List (Row V)) → a ≡ Ok xs → r < 8) → state t ≡ kept_state (state s) r a → lent_on t ≡ kept G.kind (lent_on s) r a
  lent_kept r (Ok xs) h e = lent_stored r (h xs refl) xs e
  lent_kept r (Err x) h e = lent_same e

-- ---- the end of a call
module _ {V : Type 0} {G : Ghosts V} (s u : Worktop V G) (r : ℕ) (a : Result (List (Row V)) Refusal) (answer : Result (Unit {0}) Refusal) (e : Ended s u r a answer) where
  pub ended_lent : length u.areas.rows.now ≡ length s.areas.rows.now
  ended_lent = e.long

  pub left_same : SameWorking s u → ((xs : List (Row V)) → a ≡ Ok xs → r < 8) → lent_on u ≡ kept G.kind (lent_on s) r a
  left_same same h = lent_kept s u same ended_lent r a h e.leaves

  pub left_lent : Blank s → ((xs : List (Row V)) → a ≡ Ok xs → r < 8) → lent_on u ≡ kept G.kind (lent_on s) r a
  left_lent b = left_same (both-blank s u b (e.blank b))

-- a refusal leaves the lent rows
pub refused_lent : {V : Type 0} (K : Kind V) (l : Lent V) (r : ℕ) (a : Result (List (Row V)) Refusal) (x : Refusal) → a ≡ Err x → l ≡ kept K l r a
refused_lent K l r a x e = ap (kept K l r) (sym e)

module _ {V : Type 0} (K : Kind V) (l : Lent V) (r p q : ℕ) (a : Result (List (Row V)) Refusal) where
  misplaced : all_placed r p q ≡ false → l ≡ kept K l r (cond (all_placed r p q) a (Err Place))
  misplaced e = refused_lent K l r _ Place (cond-false (all_placed r p q) a (Err Place) e)

  pub misplaced_first : 8 ≤ r → l ≡ kept K l r (cond (all_placed r p q) a (Err Place))
  misplaced_first h = misplaced (and_left (placed r) (placed p && placed q) (le-ltb r 8 h))

  pub misplaced_second : 8 ≤ p → l ≡ kept K l r (cond (all_placed r p q) a (Err Place))
  misplaced_second h = misplaced (and_right (placed r) (placed p && placed q) (and_left (placed p) (placed q) (le-ltb p 8 h)))

  pub misplaced_third : 8 ≤ q → l ≡ kept K l r (cond (all_placed r p q) a (Err Place))
  misplaced_third h = misplaced (and_right (placed r) (placed p && placed q) (and_right (placed p) (placed q) (le-ltb q 8 h)))

-- ---- a sheet that was opened
module _ {V : Type 0} {G : Ghosts V} (s : Worktop V G) where
  pub lent_opened : Blank s → (n : ℕ) → length s.areas.rows.now ≡ n → state s ≡ opened_state n (variables s.format) → lent_on s ≡ opened G.kind n (variables s.format)
  lent_opened b n long e =
      let none : (a : ℕ) → a < 12 → (contents s.areas).tables a ≡ [] = λ a h. ⊎_elim (λ l. sym (place-table s a l) ∙ ap (λ u. u.places a) e) (λ g. b a g h) (cases_lt a 8) in
      let rows = fresh_rows G.kind s.areas.rows.now s.areas.counts s.areas.tidy none ∙ ap (λ m. replicate m (blank G.kind)) long in
      λ i. record { rows = rows i; counts = map (λ p. length ((e i).places p)) (range_with_len 0 8); vars = variables s.format }

  -- blank rows in a working area change nothing
  pub clear_same : Free s → (n : ℕ) → n ≤ room (lent_on s) → lent_on s ≡ cleared G.kind (room (lent_on s)) (lent_on s) n
  clear_same free n few =
      let rows = cleared_rows G.kind s.areas.rows.now s.areas.counts 8 n s.areas.tidy (omega arith) free few in
      λ i. record { rows = rows i; counts = (lent_on s).counts; vars = (lent_on s).vars }

-- ---- answers
module _ {V : Type 0} {G : Ghosts V} (K : Kind V) (s : Worktop V G) where
  pub added-is : (r p q : ℕ) → add_answer K (lent_on s) r p q ≡ added K (state s) r p q
  added-is r p q = by (all_placed r p q) refl
    where
      by : (t : Bool) → all_placed r p q ≡ t → cond t (limited (room (lent_on s)) (sum K (place (lent_on s) p) (place (lent_on s) q))) (Err Place) ≡ cond t (limited (state s).room (sum K ((state s).places p) ((state s).places q))) (Err Place)
      by true e =
          let h = and_parts _ _ e in
          let k = and_parts _ _ h.1 in
          λ i. limited (state s).room (sum K (place_is s p (ltb-true p 8 k.0) i) (place_is s q (ltb-true q 8 k.1) i))
      by false e = refl

  pub constant_is : (r : ℕ) (w : Result V Refusal) → cond (placed r) (constant_rows K (room (lent_on s)) w) (Err Place) ≡ cond (placed r) (constant_in K (state s) w) (Err Place)
  constant_is r (Ok v) = refl
  constant_is r (Err x) = refl

  pub variable_is : (r : ℕ) (w : Result ℕ Refusal) → cond (placed r) (variable_rows K (room (lent_on s)) w) (Err Place) ≡ cond (placed r) (variable_in K (state s) w) (Err Place)
  variable_is r (Ok k) = refl
  variable_is r (Err x) = refl

-- ---- a sum
module _ {V : Type 0} {G : Ghosts V} (s t : Worktop V G) (free : Free s) (same : SameWorking s t) (long : length t.areas.rows.now ≡ length s.areas.rows.now) where
  same-room : room (lent_on t) ≡ room (lent_on s)
  same-room = ap capacity long

  settled-is : (r : ℕ) → r < 8 → (a : Result (List (Row V)) Refusal) → state t ≡ kept_state (state s) r a → lent_on t ≡ settled G.kind (lent_on s) r a
  settled-is r h (Ok xs) e =
      let f = few-rows t r in
      let m : (state t).places r ≡ xs = ap (λ u. u.places r) e ∙ cond-true _ _ _ (eq-eqb r r refl) in
      let l = ap length m in
      clear_same t (same 8 (omega arith) (omega arith) ∙ free) (length xs) (omega arith) ∙ (λ i. cleared G.kind (same-room i) (lent_stored s t same long r h xs e i) (length xs))
  settled-is r h (Err x) e = lent_same s t same long e ∙ clear_same s free (room (lent_on s)) (omega arith)

  pub lent_added : (r p q : ℕ) → state t ≡ kept_state (state s) r (added G.kind (state s) r p q) → lent_on t ≡ add_leaves G.kind (lent_on s) r p q
  lent_added r p q e = by (all_placed r p q) refl (e ∙ ap (kept_state (state s) r) (sym (added-is G.kind s r p q)))
    where
      by : (w : Bool) → all_placed r p q ≡ w → state t ≡ kept_state (state s) r (add_answer G.kind (lent_on s) r p q) → lent_on t ≡ cond w (settled G.kind (lent_on s) r (add_answer G.kind (lent_on s) r p q)) (lent_on s)
      by true f g = settled-is r (ltb-true r 8 (and_parts _ _ f).0) (add_answer G.kind (lent_on s) r p q) g
      by false f g = lent_same s t same long (g ∙ ap (λ w. kept_state (state s) r (cond w (limited (room (lent_on s)) (sum G.kind (place (lent_on s) p) (place (lent_on s) q))) (Err Place))) f)
