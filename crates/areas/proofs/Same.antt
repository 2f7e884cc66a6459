-- Tidy areas are told by their tables: each lent row is the row of a table, or blank. Assumes nothing.
--     find_area     the area that an index lies in
--     row_in        the row at a place of an area is that of its table, or blank past it
--     row_past      past the last area a row is blank
--     same_rows     areas on as many rows, with the same tables, have the same rows
--     stored_rows   and where one table is another, its rows are written over those of the old one, with blanks after them
--     cleared_rows  blanks written over an empty area change nothing
--     fresh_rows    where all tables are empty, all rows are blank
use Rattle.std.proofs.Common.{◌≡◌, ℕ, ◌+◌, ◌-◌, ◌*◌, ◌<◌, ◌≤◌, ◌⊎◌, List, [], ◌++◌, length, get_or, drop, replicate, zero, suc, sym, refl, ap, ◌∙◌, inl, inr, ⊎_elim, suc-mul, arith}
use Rattle.std.proofs.lemmas.List.{get_or-take, get_or-drop, get_or_past, get_or_default, get_or_append_left, get_or-append_right, get_or-replicate, length-append, length-replicate, length-take, same_lists}
use Rattle.std.proofs.lemmas.Bool.{cases_lt, cases_order}
use Rattle.rings.specs.Kinds.{Kind}
use Rattle.rows.specs.Lists.{put}
use Rattle.rows.specs.Tables.{blank}
use Rattle.rows.specs.declared.Row.{Row}
use Rattle.rows.proofs.Writing.{put_is}
use Rattle.areas.specs.Shares.{capacity, room_of, count_of, Counted, Tidy}
use Rattle.areas.proofs.Shares.{area_end, areas_apart}
use Rattle.areas.proofs.Storing.{contents-of}

pub find_area : (m c i : ℕ) → i < m * c → (a : ℕ) × (a < m) × (a * c ≤ i) × (i < a * c + c)
find_area zero c i h = absurd (omega arith)
find_area (suc m) c i h =
    let s = suc-mul m c in
    ⊎_elim (λ l. let r = find_area m c i l in (r.0, omega (arith, r.1), r.2, r.3)) (λ g. (m, omega arith, g, omega arith)) (cases_lt i (m * c))

module _ {V : Type 0} (K : Kind V) (rows : List (Row V)) (counts : List ℕ) (tidy : Tidy K rows counts) where
  abbrev share : ℕ
  share = room_of rows

  -- a row that is counted lies in its own area
  counted_in : (a i : ℕ) → a * share ≤ i → i < a * share + share → Counted rows counts i → i < a * share + count_of rows counts a
  counted_in a i low high (o, ho, lo, hi) =
      ⊎_elim (λ e. let m = ap (λ n. n * share) e in let d = ap (count_of rows counts) e in omega arith)
      (⊎_elim (λ l. absurd (let p = areas_apart o a share l in omega arith)) (λ l. absurd (let p = areas_apart a o share l in omega arith)))
      (cases_order o a)

  pub row_in : (a i : ℕ) → a < 12 → a * share ≤ i → i < a * share + share → i < length rows → get_or rows i (blank K) ≡ get_or ((contents-of rows counts).tables a) (i - a * share) (blank K)
  row_in a i inside low high fits =
      let n = count_of rows counts a in
      let e : a * share + (i - a * share) ≡ i = omega arith in
      let t = length-take n (drop (a * share) rows) in
      let past : n ≤ i - a * share → get_or ((contents-of rows counts).tables a) (i - a * share) (blank K) ≡ blank K = λ g. get_or_past _ (i - a * share) (blank K) (omega arith) in
      ⊎_elim
      (λ l. sym (get_or-take n (drop (a * share) rows) (i - a * share) (blank K) l ∙ get_or-drop (a * share) rows (i - a * share) (blank K) ∙ ap (λ k. get_or rows k (blank K)) e))
      (λ g. tidy i fits (λ d. let l = counted_in a i low high d in omega arith) ∙ sym (past g))
      (cases_lt (i - a * share) n)

  pub row_past : (i : ℕ) → 12 * share ≤ i → i < length rows → get_or rows i (blank K) ≡ blank K
  row_past i high fits = tidy i fits (λ d. let p = areas_apart d.0 12 share d.1 in let l = d.3 in omega arith)

-- two areas on as many rows, both tidy
module _ {V : Type 0} (K : Kind V) (rows new : List (Row V)) (counts cs : List ℕ) (long : length new ≡ length rows) (tidy : Tidy K rows counts) (tidy' : Tidy K new cs) where
  abbrev c : ℕ
  c = room_of rows

  abbrev old_table : ℕ → List (Row V)
  old_table = (contents-of rows counts).tables

  abbrev new_table : ℕ → List (Row V)
  new_table = (contents-of new cs).tables

  abbrev AsBefore : ℕ → Type 0
  AsBefore i = get_or new i (blank K) ≡ get_or rows i (blank K)

  same-room : room_of new ≡ c
  same-room = ap capacity long

  new_in : (a i : ℕ) → a < 12 → a * c ≤ i → i < a * c + c → i < length rows → get_or new i (blank K) ≡ get_or (new_table a) (i - a * c) (blank K)
  new_in a i inside low high fits =
      let e = same-room in
      let m = ap (λ n. a * n) e in
      row_in K new cs tidy' a i inside (omega arith) (omega arith) (omega arith) ∙ (λ j. get_or (new_table a) (i - a * e j) (blank K))

  -- where the tables of an area are the same, so are its rows
  as_before : (a i : ℕ) → a < 12 → a * c ≤ i → i < a * c + c → i < length rows → new_table a ≡ old_table a → AsBefore i
  as_before a i inside low high fits same = new_in a i inside low high fits ∙ ap (λ xs. get_or xs (i - a * c) (blank K)) same ∙ sym (row_in K rows counts tidy a i inside low high fits)

  past_areas : (i : ℕ) → 12 * c ≤ i → i < length rows → AsBefore i
  past_areas i high fits = let e = same-room in row_past K new cs tidy' i (omega arith) (omega arith) ∙ sym (row_past K rows counts tidy i high fits)

  at_any : (i : ℕ) (d : Row V) → i < length rows → AsBefore i → get_or new i d ≡ get_or rows i d
  at_any i d h e = get_or_default new i d (blank K) (omega arith) ∙ e ∙ get_or_default rows i (blank K) d h

  pub same_rows : ((a : ℕ) → a < 12 → new_table a ≡ old_table a) → new ≡ rows
  same_rows tables =
      same_lists new rows long
      (λ k d h.
      at_any k d (omega arith)
      (⊎_elim (λ l. let r = find_area 12 c k l in as_before r.0 k r.1 r.2 r.3 (omega arith) (tables r.0 r.1)) (λ g. past_areas k g (omega arith)) (cases_lt k (12 * c))))

  module _ (r : ℕ) (inside : r < 12) (xs : List (Row V)) (this : new_table r ≡ xs) (others : (a : ℕ) → a < 12 → (a ≡ r → ⊥) → new_table a ≡ old_table a) where
    abbrev blanks : List (Row V)
    blanks = replicate (count_of rows counts r - length xs) (blank K)

    few : length xs ≤ c
    few = let l = ap length this in let t = length-take (count_of new cs r) (drop (r * room_of new) new) in let e = same-room in omega arith

    ends : length (xs ++ blanks) ≤ c
    ends = let f = few in let a = length-append xs blanks in let b = length-replicate (count_of rows counts r - length xs) (blank K) in omega arith

    -- outside the area
    outside : (i : ℕ) → i < length rows → (i < r * c) ⊎ (r * c + c ≤ i) → AsBefore i
    outside i h out =
        ⊎_elim
        (λ l. let f = find_area 12 c i l in
        as_before f.0 i f.1 f.2 f.3 h (others f.0 f.1 (λ e. let m = ap (λ n. n * c) e in let low = f.2 in let high = f.3 in absurd (⊎_elim (λ x. omega arith) (λ x. omega arith) out))))
        (λ g. past_areas i g h)
        (cases_lt i (12 * c))

    within : (k : ℕ) (d : Row V) → k < length (xs ++ blanks) → get_or new (r * c + k) d ≡ get_or (xs ++ blanks) k d
    within k d h =
        let e = ends in
        let z = area_end r (length rows) inside in
        let m : r * c + k - r * c ≡ k = omega arith in
        let n = length-append xs blanks in
        let q = length-replicate (count_of rows counts r - length xs) (blank K) in
        get_or_default new (r * c + k) d (blank K) (omega arith) ∙ new_in r (r * c + k) inside (omega arith) (omega arith) (omega arith)
        ∙ (λ j. get_or (this j) (m j) (blank K))
        ∙ ⊎_elim (λ l. get_or_default xs k (blank K) d l ∙ sym (get_or_append_left xs blanks d k l))
        (λ g. get_or_past xs k (blank K) g ∙ sym (get_or-append_right xs blanks (length xs) k d refl g ∙ get_or-replicate (count_of rows counts r - length xs) (k - length xs) (blank K) d (omega arith)))
        (cases_lt k (length xs))

    -- in the area, past what is written
    beyond : (i : ℕ) → r * c + length (xs ++ blanks) ≤ i → i < r * c + c → i < length rows → AsBefore i
    beyond i low high h =
        let n = length-append xs blanks in
        let q = length-replicate (count_of rows counts r - length xs) (blank K) in
        let t = length-take (count_of rows counts r) (drop (r * c) rows) in
        new_in r i inside (omega arith) high h ∙ ap (λ ys. get_or ys (i - r * c) (blank K)) this ∙ get_or_past xs (i - r * c) (blank K) (omega arith)
        ∙ sym (row_in K rows counts tidy r i inside (omega arith) high h ∙ get_or_past (old_table r) (i - r * c) (blank K) (omega arith))

    pub stored_rows : new ≡ put rows (r * c) (xs ++ blanks)
    stored_rows =
        let e = ends in
        let z = area_end r (length rows) inside in
        put_is rows (r * c) (xs ++ blanks) (omega arith) new long
        (λ k d h. at_any k d (omega arith) (outside k (omega arith) (inl h)))
        within
        (λ k d h. ⊎_elim
        (λ l. at_any k d l (⊎_elim (λ x. beyond k h x l) (λ x. outside k l (inr x)) (cases_lt k (r * c + c))))
        (λ g. get_or_past new k d (omega arith) ∙ sym (get_or_past rows k d g))
        (cases_lt k (length rows)))

pub cleared_rows : {V : Type 0} (K : Kind V) (rows : List (Row V)) (counts : List ℕ) (a n : ℕ) → Tidy K rows counts → a < 12 → (contents-of rows counts).tables a ≡ [] → n ≤ room_of rows → rows ≡ put rows (a * room_of rows) (replicate n (blank K))
cleared_rows K rows counts a n tidy inside empty few =
    let c = room_of rows in
    let l = length-replicate n (blank K) in
    let z = area_end a (length rows) inside in
    put_is rows (a * c) (replicate n (blank K)) (omega arith) rows refl (λ k d h. refl)
    (λ k d h.
    get_or_default rows (a * c + k) d (blank K) (omega arith) ∙ row_in K rows counts tidy a (a * c + k) inside (omega arith) (omega arith) (omega arith)
    ∙ ap (λ xs. get_or xs (a * c + k - a * c) (blank K)) empty ∙ sym (get_or-replicate n k (blank K) d (omega arith)))
    (λ k d h. refl)

pub fresh_rows : {V : Type 0} (K : Kind V) (rows : List (Row V)) (counts : List ℕ) → Tidy K rows counts → ((a : ℕ) → a < 12 → (contents-of rows counts).tables a ≡ []) → rows ≡ replicate (length rows) (blank K)
fresh_rows K rows counts tidy empty =
    let c = room_of rows in
    let n = length-replicate (length rows) (blank K) in
    same_lists rows (replicate (length rows) (blank K)) (sym n)
    (λ k d h.
    get_or_default rows k d (blank K) h
    ∙ ⊎_elim (λ l. let r = find_area 12 c k l in row_in K rows counts tidy r.0 k r.1 r.2 r.3 h ∙ ap (λ xs. get_or xs (k - r.0 * c) (blank K)) (empty r.0 r.1)) (λ g. row_past K rows counts tidy k g h) (cases_lt k (12 * c))
    ∙ sym (get_or-replicate (length rows) k (blank K) d h))
