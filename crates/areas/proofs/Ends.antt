-- How each call ends. Assumes nothing.
--     Leaves               the table xs is in the area a, all else is as it was, and the areas are tidy
--     shortened            a table was shortened, and what it had more made blank
--     settled              a table that was written over, and then shortened
--     few-counted          a table that is there has as many rows as are counted
--     overwritten          rows were written over the start of an area, and counted
--     pushed_row           one row was written after the table
--     push-over, push-fits     whether there is room for it
--     span_beside          the rows of a table lie clear of another area
--     spanned-table        and they are the table
--     Merged, merged       a merge of two tables was written over an area, and counted: its table begins with the sum
--     answer-of            what it answers
use Rattle.std.proofs.Common.{◌≡◌, ℕ, ◌+◌, ◌-◌, ◌*◌, ◌<◌, ◌≤◌, true, false, not, ◌&&◌, eqb, ltb, cond, List, [], ◌∷◌, ◌++◌, length, take, drop, max, set, replicate, Ok, Err, Result, is_ok, MatchResult, sym, refl, ap, ◌∙◌, subst, inl, inr, ⊎_elim, arith}
use Rattle.std.specs.Result.{result_unwrap_or}
use Rattle.std.specs.declared.ops.Range.{Range}
use Rattle.std.proofs.Math.ListN.{drop_of_length-le}
use Rattle.std.proofs.lemmas.List.{length-append, length-drop, length-replicate, length_push, length-take, length-take-le, append-nil, take-append-drop, take-take, take_at, drop-drop, drop-take}
use Rattle.std.proofs.lemmas.Bool.{cases_lt, and_parts, ltb-true, lt-ltb, le-ltb, cond-true, cond-false, eqb-false, not-true}
use Rattle.refusals.specs.declared.Refusal.{Refusal}
use Rattle.refusals.specs.declared.Refusal.TheVariants.{Rows}
use Rattle.rings.specs.Kinds.{Kind}
use Rattle.rows.specs.Lists.{put, part}
use Rattle.rows.specs.Tables.{blank, limited, counted}
use Rattle.rows.specs.declared.Row.{Row}
use Rattle.rows.proofs.Writing.{length_put, put_next, put-push, part-put-apart}
use Rattle.areas.specs.Shares.{room_of, count_of, Tidy}
use Rattle.areas.specs.Areas.{Contents, storing, pushed, rows_of, answered, apart as apart_test}
use Rattle.areas.specs.Merging.{spanned, IsBeside, Written}
use Rattle.areas.proofs.Shares.{area_end}
use Rattle.areas.proofs.Passes.{length_part}
use Rattle.areas.proofs.Storing.{contents-of, storing-again, choice_here, apart, stored, stored-tidy}

pub record Leaves {V : Type 0} (K : Kind V) (rows : List (Row V)) (counts : List ℕ) (a : ℕ) (xs new : List (Row V)) (cs : List ℕ) : Type 0 where
  pub holds : contents-of new cs ≡ storing (contents-of rows counts) a xs
  pub tidy : Tidy K new cs

-- the area a holds a table that begins with the n rows of r, if it is no refusal
pub record Merged {V : Type 0} (K : Kind V) (rows : List (Row V)) (counts : List ℕ) (a : ℕ) (r : Result (List (Row V)) Refusal) (n : ℕ) (mid : List (Row V)) (cs : List ℕ) : Type 0 where
  pub written : List (Row V)
  pub leaves : Leaves K rows counts a written mid cs
  pub long : n ≤ length written
  pub first : take n written ≡ rows_of r

-- areas that are apart
pub apart_parts : (t a b : ℕ) → apart_test t a b ≡ true → (t < 12) × (a < 12) × (b < 12) × (t ≡ a → ⊥) × (t ≡ b → ⊥)
apart_parts t a b h =
    let p = and_parts (ltb t 12 && (ltb a 12 && ltb b 12)) (not (eqb t a) && not (eqb t b)) h in
    let q = and_parts (ltb t 12) (ltb a 12 && ltb b 12) p.0 in
    let r = and_parts (ltb a 12) (ltb b 12) q.1 in
    let s = and_parts (not (eqb t a)) (not (eqb t b)) p.1 in
    (ltb-true t 12 q.0, ltb-true a 12 r.0, ltb-true b 12 r.1, eqb-false t a (not-true (eqb t a) s.0), eqb-false t b (not-true (eqb t b) s.1))

-- a part written where it is
put-part : {X : Type 0} (xs : List X) (at n : ℕ) → at + n ≤ length xs → put xs at (part at n xs) ≡ xs
put-part xs at n h =
    let l = length_part xs at n h in
    ap (λ m. take at xs ++ (part at n xs ++ drop (at + m) xs)) l ∙ ap (λ m. take at xs ++ (part at n xs ++ m)) (sym (drop-drop n at xs)) ∙ ap (λ m. take at xs ++ m) (take-append-drop n (drop at xs)) ∙ take-append-drop at xs

module _ {V : Type 0} (K : Kind V) (rows : List (Row V)) (counts : List ℕ) (twelve : length counts ≡ 12) (tidy : Tidy K rows counts) where
  abbrev c : ℕ
  c = room_of rows

  abbrev table : ℕ → List (Row V)
  table a = (contents-of rows counts).tables a

  pub table_end : (a : ℕ) → a < 12 → a * c + count_of rows counts a ≤ length rows
  table_end a h = let e = area_end a (length rows) h in omega arith

  pub length_table : (a : ℕ) → a < 12 → length (table a) ≡ count_of rows counts a
  length_table a h = length_part rows (a * c) (count_of rows counts a) (table_end a h)

  -- what a table has past its first m rows
  table_rest : (a m : ℕ) → drop m (table a) ≡ part (a * c + m) (count_of rows counts a - m) rows
  table_rest a m =
      let n = count_of rows counts a in
      let from = drop (a * c) rows in
      ⊎_elim
      (λ h. let t = length-take n from in drop_of_length-le (table a) (omega arith) ∙ sym (ap (λ k. part (a * c + m) k rows) (let z : n - m ≡ 0 = omega arith in z)))
      (λ h. (let z : n ≡ m + (n - m) = omega arith in ap (λ k. drop m (take k from)) z) ∙ drop-take m (n - m) from ∙ ap (take (n - m)) (drop-drop m (a * c) rows))
      (cases_lt n m)

  module _ (a : ℕ) (inside : a < 12) where
    abbrev Left : List (Row V) → List (Row V) → List ℕ → Type 0
    Left = Leaves K rows counts a

    leaves : (xs : List (Row V)) (k : ℕ) → length xs + k ≤ c → count_of rows counts a ≤ length xs + k → (last : List (Row V)) (cs : List ℕ) → last ≡ put rows (a * c) (xs ++ replicate k (blank K)) → cs ≡ set counts a (length xs) → Left xs last cs
    leaves xs k fits old last cs e f = record { holds = stored K rows counts a inside twelve xs k fits last cs e f; tidy = stored-tidy K rows counts a inside twelve xs k fits old last cs e f tidy }

    pub shortened : (n k at : ℕ) (last : List (Row V)) (cs : List ℕ) → n + k ≡ count_of rows counts a → at ≡ a * c + n → last ≡ put rows at (replicate k (blank K)) → cs ≡ set counts a n → Left (take n (table a)) last cs
    shortened n k at last cs all place e f =
        let end = table_end a inside in
        let t = length_table a inside in
        let l : length (take n (table a)) ≡ n = length-take-le n (table a) (omega arith) in
        let b = length-replicate k (blank K) in
        let first : put rows (a * c) (take n (table a)) ≡ rows = ap (put rows (a * c)) (take-take n (count_of rows counts a) (drop (a * c) rows) (omega arith)) ∙ put-part rows (a * c) n (omega arith) in
        leaves (take n (table a)) k (omega arith) (omega arith) last cs
        (e ∙ ap (λ xs. put xs at (replicate k (blank K))) (sym first) ∙ put_next rows (a * c) (take n (table a)) (omega arith) at (replicate k (blank K)) (omega arith) (omega arith))
        (f ∙ ap (set counts a) (sym l))

    -- a table that was written over, and then shortened
    pub settled : (ys xs : List (Row V)) (n : ℕ) (mid last : Contents V) → mid ≡ storing (contents-of rows counts) a ys → take n ys ≡ xs → last ≡ storing mid a (take n (mid.tables a)) → last ≡ storing (contents-of rows counts) a xs
    settled ys xs n mid last is first e =
        e ∙ (λ i. storing (is i) a (take n ((is i).tables a))) ∙ storing-again (contents-of rows counts) a ys (take n ((storing (contents-of rows counts) a ys).tables a))
        ∙ ap (storing (contents-of rows counts) a) (ap (take n) (choice_here a a ys (table a) inside refl) ∙ first)

    -- a table that is there has as many rows as are counted
    pub few-counted : (ys mid : List (Row V)) (cs : List ℕ) → Left ys mid cs → length ys ≤ count_of mid cs a
    few-counted ys mid cs l =
        let e = ap (λ d. length (d.tables a)) l.holds ∙ ap length (choice_here a a ys (table a) inside refl) in
        let t = length-take (count_of mid cs a) (drop (a * room_of mid) mid) in
        omega arith

    pub overwritten : (xs mid : List (Row V)) (n : ℕ) (cs : List ℕ) → length xs ≤ c → mid ≡ put rows (a * c) xs → n ≡ max (count_of rows counts a) (length xs) → cs ≡ set counts a n → Left (xs ++ drop (length xs) (table a)) mid cs
    overwritten xs mid n cs few e is f =
        let end = area_end a (length rows) inside in
        let t = length_table a inside in
        let m = length xs in
        let rest = drop m (table a) in
        let d = length-drop m (table a) in
        let l = length-append xs rest in
        let k = count_of rows counts a - m in
        let z = table_end a inside in
        let within : a * c + m ≤ length rows = omega arith in
        let same : put rows (a * c) xs ≡ put rows (a * c) ((xs ++ rest) ++ []) =
        sym (put-part (put rows (a * c) xs) (a * c + m) k (let p = length_put rows (a * c) xs within in omega arith))
        ∙ ap (put (put rows (a * c) xs) (a * c + m)) (part-put-apart rows (a * c) xs within (a * c + m) k (inr (omega arith)) ∙ sym (table_rest a m))
        ∙ put_next rows (a * c) xs within (a * c + m) rest refl (omega arith) ∙ ap (put rows (a * c)) (sym (append-nil (xs ++ rest))) in
        leaves (xs ++ rest) 0 (omega arith) (omega arith) mid cs (e ∙ same) (f ∙ ap (set counts a) (omega arith))

    pub pushed_row : (x : Row V) (m n : ℕ) → m ≡ c → n ≡ count_of rows counts a → n < m → Left (table a ++ x ∷ []) (set rows (a * m + n) x) (set counts a (n + 1))
    pushed_row x m n e f h =
        let end = area_end a (length rows) inside in
        let l = length_table a inside in
        let t = table a in
        let p = length_push t x in
        let o = put-part rows (a * c) (count_of rows counts a) (table_end a inside) in
        let place : a * m + n ≡ a * c + length t = (λ i. a * e i + (f ∙ sym l) i) in
        let all : set rows (a * m + n) x ≡ put rows (a * c) ((t ++ x ∷ []) ++ []) =
        (λ i. set (sym o i) (place i) x) ∙ put-push rows (a * c) t (omega arith) x (omega arith) ∙ ap (put rows (a * c)) (sym (append-nil (t ++ x ∷ []))) in
        let sets : set counts a (n + 1) ≡ set counts a (length (t ++ x ∷ [])) = ap (set counts a) (omega arith) in
        leaves (t ++ x ∷ []) 0 (omega arith) (omega arith) _ _ all sets

  module _ (a : ℕ) (inside : a < 12) (x : Row V) where
    abbrev longer : Result (List (Row V)) Refusal
    longer = pushed (contents-of rows counts) a x

    push_in : longer ≡ limited c (Ok (table a ++ x ∷ []))
    push_in = cond-true (ltb a 12) _ _ (lt-ltb a 12 inside)

    pub push-over : c ≤ count_of rows counts a → longer ≡ Err Rows
    push-over h = let l = length_table a inside in let p = length_push (table a) x in push_in ∙ cond-true (ltb c (length (table a ++ x ∷ []))) _ _ (lt-ltb c (length (table a ++ x ∷ [])) (omega arith))

    pub push-fits : count_of rows counts a < c → longer ≡ Ok (table a ++ x ∷ [])
    push-fits h = let l = length_table a inside in let p = length_push (table a) x in push_in ∙ cond-false (ltb c (length (table a ++ x ∷ []))) _ _ (le-ltb c (length (table a ++ x ∷ [])) (omega arith))

  -- ---- merges
  abbrev spanning : ℕ → Range ℕ
  spanning p = record { start = p * c; end = p * c + count_of rows counts p }

  module _ (p : ℕ) (l : Range ℕ) (is : l ≡ spanning p) where
    pub span_beside : p < 12 → (t : ℕ) → (t ≡ p → ⊥) → (area : Range ℕ) → area.start ≡ t * c → area.end - area.start ≡ c → IsBeside l area (length rows)
    span_beside h t ne area at wide =
        let start = ap (λ r. r.start) is in
        let end = ap (λ r. r.end) is in
        let w = table_end p h in
        let k = apart p t c (count_of rows counts p) c (λ e. ne (sym e)) (omega arith) (omega arith) in
        record { order = omega arith; within = omega arith; clear = ⊎_elim (λ h. inl (omega arith)) (λ h. inr (omega arith)) k }

    pub spanned-table : spanned rows l ≡ table p
    spanned-table =
        let n : p * c + count_of rows counts p - p * c ≡ count_of rows counts p = omega arith in
        ap (spanned rows) is ∙ ap (λ k. part (p * c) k rows) n

  module _ (a : ℕ) (inside : a < 12) (area : Range ℕ) (at : area.start ≡ a * c) (wide : area.end - area.start ≡ c) (mid : List (Row V)) where
    pub merged : (r : Result (List (Row V)) Refusal) (answer : Result ℕ Refusal) (n used : ℕ) (cs : List ℕ) → ((xs : List (Row V)) → r ≡ Ok xs → length xs ≤ area.end - area.start) → answer ≡ counted r → Written r rows area mid → n ≡ result_unwrap_or answer 0 → used ≡ cond (is_ok answer) (count_of rows counts a) c → cs ≡ set counts a (max used n) → Merged K rows counts a r n mid cs
    merged (Ok xs) answer n used cs few e g h u s =
        let k : n ≡ length xs = h ∙ ap (λ x. result_unwrap_or x 0) e in
        let w : used ≡ count_of rows counts a = u ∙ ap (λ x. cond (is_ok x) (count_of rows counts a) c) e in
        let q = few xs refl in
        let l = length-append xs (drop (length xs) (table a)) in
        record {
          written = xs ++ drop (length xs) (table a);
          leaves = overwritten a inside xs mid (max used n) cs (omega arith) (g ∙ ap (λ j. put rows j xs) at) (omega arith) s;
          long = omega arith;
          first = ap (λ m. take m (xs ++ drop (length xs) (table a))) k ∙ take_at xs (drop (length xs) (table a)) (length xs) refl;
        }
    merged (Err x) answer n used cs few e g h u s =
        let k : n ≡ 0 = h ∙ ap (λ x. result_unwrap_or x 0) e in
        let w : used ≡ c = u ∙ ap (λ x. cond (is_ok x) (count_of rows counts a) c) e in
        let full = g.1 in
        record {
          written = g.0 ++ drop (length g.0) (table a);
          leaves = overwritten a inside g.0 mid (max used n) cs (omega arith) (g.2 ∙ ap (λ j. put rows j g.0) at) (omega arith) s;
          long = omega arith;
          first = ap (λ m. take m (g.0 ++ drop (length g.0) (table a))) k;
        }

pub answer-of : {V : Type 0} (Q : ℕ → Type 0) (r : Result (List (Row V)) Refusal) (answer : Result ℕ Refusal) (x : Result (Unit {0}) Refusal) → answer ≡ counted r → is_ok x ≡ is_ok answer → MatchResult answer Q (λ e. x ≡ Err e) → x ≡ answered r
answer-of Q (Ok xs) answer (Ok u) e v h = refl
answer-of Q (Ok xs) answer (Err d) e v h = absurd (let z : false ≡ true = v ∙ ap is_ok e in cc)
answer-of Q (Err d) answer x e v h = subst (λ m. MatchResult m Q (λ e. x ≡ Err e)) e h
