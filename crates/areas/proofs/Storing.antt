-- What is held once the rows of one area have been written. Assumes nothing.
--     contents-of             what areas with these rows and counts hold
--     storing-none            storing where there is no area changes nothing
--     storing-same            nor does storing what is there
--     storing-again           storing in an area twice
--     no_table, no_count      a table is empty where there is no area, and where its count is 0
--     opened, opened-tidy     what areas hold that were opened
--     stored, stored-tidy     rows and then blanks at the start of an area, with its count set to the rows
use Rattle.std.proofs.Common.{◌≡◌, ℕ, ◌+◌, ◌-◌, ◌*◌, ◌<◌, ◌≤◌, min, cond, ◌&&◌, eqb, ltb, ◌⊎◌, List, [], ◌++◌, length, get_or, take, drop, set, replicate, sym, refl, ap, ◌∙◌, subst, subst₂, inl, inr, ⊎_elim, arith}
use Rattle.std.proofs.lemmas.List.{length-append, length-replicate, get_or-replicate, get_or-append_right, take-take, take_at, get_or_past, get_or-set_same, get_or-set_other}
use Rattle.std.proofs.lemmas.Bool.{cases_lt, cases_eq, cases_order, eqb-true, eq-eqb, ne_eqb, lt-ltb, le-ltb, and_from, and_left, and_right, and_parts, cond-true, cond-false, cond_both}
use Rattle.rings.specs.Kinds.{Kind}
use Rattle.rows.specs.Lists.{put, part, Clear}
use Rattle.rows.specs.Tables.{blank}
use Rattle.rows.specs.declared.Row.{Row}
use Rattle.rows.proofs.Writing.{length_put, part-put, part-put-apart, get_or-put_before, get_or-put_in, get_or-put_after}
use Rattle.areas.specs.Shares.{capacity, room_of, count_of, Counted, Tidy}
use Rattle.areas.specs.Areas.{Contents, storing, fresh}
use Rattle.areas.proofs.Shares.{area_end, areas_apart}

abbrev pub contents-of : {V : Type 0} → List (Row V) → List ℕ → Contents V
contents-of rows counts = record { lent = length rows; room = room_of rows; tables = λ a. part (a * room_of rows) (count_of rows counts a) rows }

-- two different areas have no row in common
pub apart : (a b c m n : ℕ) → (a ≡ b → ⊥) → m ≤ c → n ≤ c → Clear (a * c) m (b * c) n
apart a b c m n ne hm hn =
    ⊎_elim (λ e. absurd (ne e)) (⊎_elim (λ l. inl (let p = areas_apart a b c l in omega arith)) (λ l. inr (let p = areas_apart b a c l in omega arith))) (cases_order a b)

-- ---- storing
module _ {X : Type 0} (o a : ℕ) (x y : X) where
  abbrev choice : X
  choice = cond (eqb o a && ltb a 12) x y

  pub choice_here : a < 12 → o ≡ a → choice ≡ x
  choice_here h e = cond-true _ x y (and_from _ _ (eq-eqb o a e) (lt-ltb a 12 h))

  choice_other : (o ≡ a → ⊥) → choice ≡ y
  choice_other ne = cond-false _ x y (and_left _ _ (ne_eqb o a ne))

  choice_none : 12 ≤ a → choice ≡ y
  choice_none h = cond-false _ x y (and_right _ _ (le-ltb a 12 h))

pub storing-none : {V : Type 0} (c : Contents V) (a : ℕ) (xs : List (Row V)) → 12 ≤ a → c ≡ storing c a xs
storing-none c a xs h = λ i. record { lent = c.lent; room = c.room; tables = λ o. sym (choice_none o a xs (c.tables o) h) i }

pub storing-same : {V : Type 0} (c : Contents V) (a : ℕ) → c ≡ storing c a (c.tables a)
storing-same c a = λ i. record {
  lent = c.lent;
  room = c.room;
  tables = λ o. sym (cond_both (eqb o a && ltb a 12) (c.tables a) (c.tables o) (λ x. x ≡ c.tables o) (λ t. ap c.tables (sym (eqb-true o a (and_parts _ _ t).0))) (λ t. refl)) i;
}

pub storing-again : {V : Type 0} (c : Contents V) (a : ℕ) (ys xs : List (Row V)) → storing (storing c a ys) a xs ≡ storing c a xs
storing-again c a ys xs = λ i. record {
  lent = c.lent;
  room = c.room;
  tables = λ o. cond_both (eqb o a && ltb a 12) xs (c.tables o) (λ x. cond (eqb o a && ltb a 12) xs (cond (eqb o a && ltb a 12) ys (c.tables o)) ≡ x) (λ t. cond-true _ _ _ t) (λ t. cond-false _ _ _ t ∙ cond-false _ _ _ t) i;
}

pub no_table : {V : Type 0} (rows : List (Row V)) (counts : List ℕ) (a : ℕ) → length counts ≤ a → (contents-of rows counts).tables a ≡ []
no_table rows counts a h = let n : count_of rows counts a ≡ 0 = let g = get_or_past counts a 0 h in omega arith in ap (λ m. part (a * room_of rows) m rows) n

pub no_count : {V : Type 0} (rows : List (Row V)) (counts : List ℕ) (a : ℕ) → get_or counts a 0 ≡ 0 → (contents-of rows counts).tables a ≡ []
no_count rows counts a h = let n : count_of rows counts a ≡ 0 = omega arith in ap (λ m. part (a * room_of rows) m rows) n

-- ---- areas that were opened
module _ {V : Type 0} (K : Kind V) (n : ℕ) (rows : List (Row V)) (is : rows ≡ replicate n (blank K)) where
  abbrev zeros : List ℕ
  zeros = replicate 12 0

  none_yet : (a : ℕ) → get_or zeros a 0 ≡ 0
  none_yet a = ⊎_elim (get_or-replicate 12 a 0 0) (λ h. get_or_past zeros a 0 (let l = length-replicate {A = ℕ} 12 0 in omega arith)) (cases_lt a 12)

  opened-count : (a : ℕ) → count_of rows zeros a ≡ 0
  opened-count a = let g = none_yet a in omega arith

  pub opened : contents-of rows zeros ≡ fresh n
  opened =
      let l = ap length is ∙ length-replicate n (blank K) in
      λ i. record { lent = l i; room = capacity (l i); tables = λ a. ap (λ m. part (a * room_of rows) m rows) (opened-count a) i }

  pub opened-tidy : Tidy K rows zeros
  opened-tidy i h out = let l = ap length is ∙ length-replicate n (blank K) in ap (λ r. get_or r i (blank K)) is ∙ get_or-replicate n i (blank K) (blank K) (omega arith)

-- ---- rows that were written at the start of an area
module _ {V : Type 0} (K : Kind V) (rows : List (Row V)) (counts : List ℕ) (a : ℕ) (inside : a < 12) (twelve : length counts ≡ 12) (xs : List (Row V)) (k : ℕ) (fits : length xs + k ≤ room_of rows) where
  abbrev c : ℕ
  c = room_of rows

  abbrev written : List (Row V)
  written = xs ++ replicate k (blank K)

  abbrev new_rows : List (Row V)
  new_rows = put rows (a * c) written

  abbrev new_counts : List ℕ
  new_counts = set counts a (length xs)

  long : length written ≡ length xs + k
  long = let r = length-replicate k (blank K) in length-append xs (replicate k (blank K)) ∙ ap (λ n. length xs + n) r

  within : a * c + length written ≤ length rows
  within = let e = area_end a (length rows) inside in let l = long in omega arith

  same_length : length new_rows ≡ length rows
  same_length = length_put rows (a * c) written within

  same-room : room_of new_rows ≡ c
  same-room = ap capacity same_length

  here : get_or new_counts a 0 ≡ length xs
  here = get_or-set_same counts a (length xs) 0 (omega arith)

  there : (o : ℕ) → (o ≡ a → ⊥) → get_or new_counts o 0 ≡ get_or counts o 0
  there o ne = get_or-set_other counts a o (length xs) 0 ne

  this_table : part (a * c) (min (length xs) c) new_rows ≡ xs
  this_table =
      let n : min (length xs) c ≡ length xs = omega arith in
      let l = long in
      ap (λ m. part (a * c) m new_rows) n ∙ sym (take-take (length xs) (length written) (drop (a * c) new_rows) (omega arith))
      ∙ ap (take (length xs)) (part-put rows (a * c) written within) ∙ take_at xs (replicate k (blank K)) (length xs) refl

  other-table : (o : ℕ) → (o ≡ a → ⊥) → part (o * c) (count_of rows counts o) new_rows ≡ part (o * c) (count_of rows counts o) rows
  other-table o ne = let l = long in part-put-apart rows (a * c) written within (o * c) (count_of rows counts o) (apart o a c (count_of rows counts o) (length written) ne (omega arith) (omega arith))

  table_at : (o : ℕ) → part (o * c) (min (get_or new_counts o 0) c) new_rows ≡ cond (eqb o a && ltb a 12) xs ((contents-of rows counts).tables o)
  table_at o =
      ⊎_elim
      (λ e. ap (λ m. part (m * c) (min (get_or new_counts m 0) c) new_rows) e ∙ ap (λ n. part (a * c) (min n c) new_rows) here ∙ this_table ∙ sym (choice_here o a xs ((contents-of rows counts).tables o) inside e))
      (λ ne. ap (λ n. part (o * c) (min n c) new_rows) (there o ne) ∙ other-table o ne ∙ sym (choice_other o a xs ((contents-of rows counts).tables o) ne))
      (cases_eq o a)

  pub stored : (new : List (Row V)) (cs : List ℕ) → new ≡ new_rows → cs ≡ new_counts → contents-of new cs ≡ storing (contents-of rows counts) a xs
  stored new cs e f =
      (λ i. contents-of (e i) (f i)) ∙ (λ i. record { lent = same_length i; room = same-room i; tables = λ o. part (o * same-room i) (min (get_or new_counts o 0) (same-room i)) new_rows }) ∙ (λ i. record { lent = length rows; room = c; tables = λ o. table_at o i })

  module _ (old : count_of rows counts a ≤ length xs + k) where
    NewlyCounted : ℕ → Type 0
    NewlyCounted i = (o : ℕ) × (o < 12) × (o * c ≤ i) × (i < o * c + min (get_or new_counts o 0) c)

    tidy_in : (i : ℕ) → a * c ≤ i → i < a * c + length written → (NewlyCounted i → ⊥) → get_or new_rows i (blank K) ≡ blank K
    unfolding NewlyCounted
    tidy_in i h l out =
        let w = long in
        let n = here in
        ⊎_elim (λ s. absurd (out (a, inside, h, omega arith)))
        (λ s. get_or-put_in rows (a * c) written within i (blank K) h l ∙ get_or-append_right xs (replicate k (blank K)) (length xs) (i - a * c) (blank K) refl (omega arith) ∙ get_or-replicate k (i - a * c - length xs) (blank K) (blank K) (omega arith))
        (cases_lt i (a * c + length xs))

    -- what was counted outside what was written is so still
    counted_out : (i : ℕ) → (i < a * c) ⊎ (a * c + length written ≤ i) → Counted rows counts i → NewlyCounted i
    unfolding NewlyCounted
    counted_out i out (o, ho, low, high) =
        let w = long in
        let ne : o ≡ a → ⊥ = λ e. let m = ap (λ n. n * c) e in let d = ap (count_of rows counts) e in omega arith in
        let t = there o ne in
        (o, ho, low, omega arith)

    tidy_out : Tidy K rows counts → (i : ℕ) → i < length rows → (i < a * c) ⊎ (a * c + length written ≤ i) → (NewlyCounted i → ⊥) → get_or new_rows i (blank K) ≡ blank K
    tidy_out tidy i h beside out = ⊎_elim (get_or-put_before rows (a * c) written within i (blank K)) (get_or-put_after rows (a * c) written within i (blank K)) beside ∙ tidy i h (λ d. out (counted_out i beside d))

    all_tidy : Tidy K rows counts → (i : ℕ) → i < length rows → (NewlyCounted i → ⊥) → get_or new_rows i (blank K) ≡ blank K
    all_tidy tidy i h =
        ⊎_elim (λ l. tidy_out tidy i h (inl l))
        (λ g. ⊎_elim (tidy_in i g) (λ l. tidy_out tidy i h (inr l)) (cases_lt i (a * c + length written)))
        (cases_lt i (a * c))

    pub stored-tidy : (new : List (Row V)) (cs : List ℕ) → new ≡ new_rows → cs ≡ new_counts → Tidy K rows counts → Tidy K new cs
    unfolding NewlyCounted
    stored-tidy new cs e f tidy =
        let s = same_length in
        subst₂ (Tidy K) (sym e) (sym f)
        (λ i h. subst (λ r. (((o : ℕ) × (o < 12) × (o * r ≤ i) × (i < o * r + min (get_or new_counts o 0) r)) → ⊥) → get_or new_rows i (blank K) ≡ blank K) (sym same-room) (all_tidy tidy i (omega arith)))
