-- A merge, turn by turn. Assumes nothing.
--     Merging         what holds while two tables are merged: the rows so far, and what is left gives the result
--     merging_none    before the first turn
--     merging_some    a turn that gives a row
--     merging_skip    a turn that gives none
--     merging_count   the count of the rows fits
--     merging_refused a turn that is refused
--     merging_over, merging_all     the end, with too many rows or with room for all
--     placed          a merge that was written between the rows on both sides
use Rattle.std.proofs.Common.{◌≡◌, ℕ, ◌+◌, ◌-◌, ◌^◌, ◌<◌, ◌≤◌, cond, ltb, List, [], ◌∷◌, ◌++◌, length, take, drop, set, Some, None, Ok, Err, Option, Result, sym, refl, ap, ◌∙◌, subst, ⊎_elim, zero-add, arith}
use Rattle.std.specs.Option.{option_to_list}
use Rattle.std.proofs.lemmas.List.{append-nil, append_assoc, length_push, length-drop, length-take, length-take-le, take_all, take-append-le, take-append-drop, drop-append-le, drop-drop}
use Rattle.std.proofs.lemmas.Bool.{lt-ltb, le-ltb, cond-true, cond-false, cases_lt}
use Rattle.refusals.specs.declared.Refusal.{Refusal}
use Rattle.refusals.specs.declared.Refusal.TheVariants.{Rows}
use Rattle.rings.specs.Kinds.{Kind}
use Rattle.rows.specs.Lists.{put}
use Rattle.rows.specs.Tables.{limited, counted}
use Rattle.rows.specs.declared.Row.{Row}
use Rattle.rows.proofs.Writing.{put-push, put-none, length_put}
use Rattle.areas.specs.Merging.{giving, prepended, remaining, unread, Goes, Filled, Written}
use Rattle.areas.specs.declared.step.Merge.{Merge}
use Rattle.areas.proofs.Steps.{giving-none}
use Rattle.areas.proofs.Prefixes.{prefixed, prefixed_none, prefixed_more}

no_row : {X : Type 0} (o : Option X) → length (option_to_list o) ≤ 0 → o ≡ None
no_row (Some x) h = absurd (omega arith)
no_row None h = refl

pub no_rows : {X : Type 0} (xs : List X) → length xs ≤ 0 → xs ≡ []
no_rows [] h = refl
no_rows (x ∷ xs) h = absurd (omega arith)

module _ {V : Type 0} (K : Kind V) (whole : Result (List (Row V)) Refusal) (bound : ℕ) (old : List (Row V)) where
  abbrev room : ℕ
  room = length old

  pub record Merging (new : List (Row V)) (m : Merge V) (count : ℕ) : Type 0 where
    pub out : List (Row V)
    pub many : count ≡ length out
    pub written : new ≡ put old 0 (take room out)
    pub rest : prefixed out (remaining K m) ≡ whole
    pub few : count + unread m ≤ bound

  pub merging_none : (m : Merge V) → remaining K m ≡ whole → unread m ≤ bound → Merging old m 0
  merging_none m e h = record {
    out = [];
    many = refl;
    written = sym (ap (put old 0) (take_all room [] (omega arith)) ∙ put-none old 0);
    rest = prefixed_none (remaining K m) ∙ e;
    few = omega arith;
  }

  module _ (new : List (Row V)) (m : Merge V) (count : ℕ) (inv : Merging new m count) where
    same_length : length new ≡ length old
    same_length = let t = length-take room inv.out in ap length inv.written ∙ length_put old 0 (take room inv.out) (omega arith)

    pub merging_refused : (e : Refusal) → remaining K m ≡ Err e → (Err e ≡ counted (limited room whole)) × Filled (limited room whole) old new
    merging_refused e refused =
        let all : whole ≡ Err e = sym inv.rest ∙ ap (prefixed inv.out) refused in
        (sym (ap (λ w. counted (limited room w)) all), subst (λ w. Filled (limited room w) old new) (sym all) same_length)

    module _ (o : Option (Row V)) (n : Merge V) (goes : Goes m o n) (next : remaining K m ≡ prepended o (remaining K n)) where
      pub merging_skip : o ≡ None → Merging new n count
      merging_skip none =
          let k = ap (λ r. length (option_to_list r)) none in
          let g = goes.few in
          let f = inv.few in
          record { out = inv.out; many = inv.many; written = inv.written; rest = ap (prefixed inv.out) (sym (next ∙ ap (λ r. prepended r (remaining K n)) none)) ∙ inv.rest; few = omega arith }

      module _ (x : Row V) (some : o ≡ Some x) where
        one : length (option_to_list o) ≡ 1
        one = ap (λ r. length (option_to_list r)) some

        pub merging_count : bound < 2 ^ 64 → count + 1 < 2 ^ 64
        merging_count h = let k = one in let g = goes.few in let f = inv.few in omega arith

        pub merging_some : (put-new : List (Row V)) → put-new ≡ cond (ltb count (length new)) (set new count x) new → Merging put-new n (count + 1)
        merging_some put-new is =
            let k = one in
            let g = goes.few in
            let f = inv.few in
            let w = inv.out in
            let c = inv.many in
            let l = length_push w x in
            let s = same_length in
            let place : count ≡ 0 + length w = omega arith in
            record {
              out = w ++ x ∷ [];
              many = omega arith;
              written = is ∙ ap (λ r. cond (ltb count r) (set new count x) new) s ∙ ⊎_elim
                  (λ h.
                  let short : take room w ≡ w = take_all room w (omega arith) in
                  let longer : take room (w ++ x ∷ []) ≡ w ++ x ∷ [] = take_all room (w ++ x ∷ []) (omega arith) in
                  cond-true (ltb count room) _ _ (lt-ltb count room h) ∙ (λ i. set ((inv.written ∙ ap (put old 0) short) i) (place i) x) ∙ put-push old 0 w (omega arith) x (omega arith) ∙ ap (put old 0) (sym longer))
                  (λ h.
                  cond-false (ltb count room) _ _ (le-ltb count room h) ∙ inv.written ∙ ap (put old 0) (sym (take-append-le room w (x ∷ []) (omega arith))))
                  (cases_lt count room);
              rest = sym (prefixed_more w x (remaining K n)) ∙ ap (prefixed w) (sym (next ∙ ap (λ r. prepended r (remaining K n)) some)) ∙ inv.rest;
              few = omega arith;
            }

    module _ (end : unread m ≤ 0) where
      done : whole ≡ Ok inv.out
      done =
          sym inv.rest ∙ ap (prefixed inv.out) ((λ i. giving K m.factor (no_row m.head (omega arith) i) (no_rows m.left.now (omega arith) i) (no_rows m.right.now (omega arith) i)) ∙ giving-none K m.factor) ∙ ap Ok (append-nil inv.out)

      pub merging_over : length new < count → (Err Rows ≡ counted (limited room whole)) × Filled (limited room whole) old new
      merging_over h =
          let n = inv.many in
          let s = same_length in
          let all : limited room whole ≡ Err Rows = ap (limited room) done ∙ cond-true (ltb room (length inv.out)) _ _ (lt-ltb room (length inv.out) (omega arith)) in
          (sym (ap counted all), subst (λ w. Filled w old new) (sym all) same_length)

      pub merging_all : count ≤ length new → (Ok count ≡ counted (limited room whole)) × Filled (limited room whole) old new
      merging_all h =
          let n = inv.many in
          let s = same_length in
          let all : limited room whole ≡ Ok inv.out = ap (limited room) done ∙ cond-false (ltb room (length inv.out)) _ _ (le-ltb room (length inv.out) (omega arith)) in
          (ap Ok n ∙ sym (ap counted all), subst (λ w. Filled w old new) (sym all) (inv.written ∙ ap (put old 0) (take_all room inv.out (omega arith))))

-- ---- the merge in its place
module _ {X : Type 0} (rows : List X) (at m : ℕ) (inside : at + m ≤ length rows) (before rest out after new : List X) (b : before ≡ take at rows) (r : rest ≡ drop at rows) (o : out ≡ take m rest) (f : after ≡ drop m rest) where
  abbrev mid : List X
  mid = before ++ (new ++ after)

  placed_all : length new ≡ m → mid ≡ put rows at new
  placed_all long = λ i. b i ++ (new ++ (f ∙ ap (drop m) r ∙ drop-drop m at rows ∙ ap (λ n. drop (at + n) rows) (sym long)) i)

  placed_start : (xs : List X) → length xs ≤ m → new ≡ put out 0 xs → mid ≡ put rows at xs
  placed_start xs few e =
      let d = length-drop at rows in
      let s = ap length r in
      let long : length (take m rest) ≡ m = length-take-le m rest (omega arith) in
      let past : drop (length xs) out ++ after ≡ drop (at + length xs) rows =
      (λ i. drop (length xs) (o i) ++ f i) ∙ sym (drop-append-le (length xs) (take m rest) (drop m rest) (omega arith)) ∙ ap (drop (length xs)) (take-append-drop m rest ∙ r) ∙ drop-drop (length xs) at rows in
      (λ i. b i ++ (e i ++ after)) ∙ ap (λ l. take at rows ++ l) (append_assoc xs (drop (0 + length xs) out) after ∙ ap (λ n. xs ++ (drop n out ++ after)) (zero-add (length xs)) ∙ ap (λ l. xs ++ l) past)

  pub placed : (e : ℕ) → e - at ≡ m → (z : Result (List X) Refusal) → ((xs : List X) → z ≡ Ok xs → length xs ≤ m) → length out ≡ m → Filled z out new → Written z rows (record { start = at; end = e }) mid
  placed e wide (Ok xs) few long h = placed_start xs (few xs refl) h
  placed e wide (Err x) few long h = (new, h ∙ long ∙ sym wide, placed_all (h ∙ long))
