-- A written deck is read back: card by card its rows are added, each below those before it. Assumes nothing.
--     card-read      over a card, which enters its row
--     returning      the deck of canonical rows is read as those rows, to its last byte
--     one_deck       rows that have one deck are the same
use Rattle.std.proofs.Common.{◌≡◌, ℕ, zero, suc, ◌+◌, ◌^◌, ◌<◌, ◌≤◌, Bool, true, false, not, ◌&&◌, eqb, ltb, List, [], ◌∷◌, ◌++◌, length, drop, ℤ, pos, Some, None, Ok, decimal, Option, Result, sym, refl, ap, ◌∙◌, ⊎_elim, append_assoc, append-nil, arith, length-append}
use native.Mathlib.Nat.{pow-le-pow_right}
use Rattle.std.specs.Fmt.{signed_decimal}
use Rattle.std.proofs.lemmas.Bool.{ltb-true, lt-ltb, le-ltb, eq-eqb, and_parts, cond-true, cond-false, cases_Bool}
use Rattle.rings.specs.Members.{RingLaws}
use Rattle.rings.specs.Kinds.{Kind, IsValue, ValueLaws, FigureLaws}
use Rattle.formats.specs.Drafts.{Sound}
use Rattle.formats.specs.Keys.{pack, unpack, within}
use Rattle.formats.specs.Variables.{lawful, capital, wide, used}
use Rattle.formats.specs.declared.variable.Variable.{Variable}
use Rattle.formats.proofs.Keys.{width_at}
use Rattle.rows.specs.Canonical.{Under, Canonical}
use Rattle.rows.specs.Tables.{row, sum, consed, limited}
use Rattle.rows.specs.declared.Row.{Row}
use Rattle.rows.proofs.Sums.{sum_first}
use Rattle.algebra.specs.Tables.{Every}
use Rattle.algebra.proofs.Packing.{length_unpack, within-unpack, pack-back}
use Rattle.texts.specs.Decks.{figures, exponents, card, ending, deck}
use Rattle.texts.specs.Numbers.{Fault, fresh}
use Rattle.texts.specs.Numbers.Mode.{between, within as under_way}
use Rattle.texts.specs.Terms.{Partial, coefficient, width_after, gathered, taken}
use Rattle.texts.specs.Terms.Partial.{none, figure, powers}
use Rattle.texts.specs.Reading.{Deck, Entering, through, at_byte, with_got, reading, adding, read}
use Rattle.texts.specs.Theorems.{Narrow}
use Rattle.texts.proofs.Widths.{One, Two, short_figures, figures-one, figures_two, figures_length, exponents_length}
use Rattle.texts.proofs.Numbering.{on, written, number, number_read, blank-read, comma-read, end_read}

-- ---- the fields of exponents
within-next : (vs : List Variable) (n e : ℕ) (es : List ℕ) → n < length vs → within (drop n vs) (e ∷ es) ≡ true → (ltb e (2 ^ width_after vs n) ≡ true) × (within (drop (suc n) vs) es ≡ true)
within-next [] n e es h w = absurd (omega arith)
within-next (v ∷ vs) zero e es h w = and_parts (ltb e (2 ^ v.width)) (within vs es) w
within-next (v ∷ vs) (suc n) e es h w = within-next vs n e es (omega arith) w

abbrev Small : List ℕ → Type 0
Small es = Every (λ e. e < 10 ^ 18) es

small-exponents : (vs : List Variable) (es : List ℕ) → lawful vs ≡ true → length es ≡ length vs → within vs es ≡ true → Small es
small-exponents vs [] l s w = tt
small-exponents [] (e ∷ es) l s w = absurd (omega arith)
small-exponents (v ∷ vs) (e ∷ es) l s w =
    let p = and_parts (capital v.letter && wide v.width) (not (used v.letter vs) && lawful vs) l in
    let q = width_at (v ∷ vs) 0 l (omega arith) in
    let u = and_parts (ltb e (2 ^ v.width)) (within vs es) w in
    let b = pow-le-pow_right {n = 2} (omega arith) {i = v.width} {j = 16} q.1 in
    let h = ltb-true e (2 ^ v.width) u.0 in
    (omega arith, small-exponents vs es (and_parts (not (used v.letter vs)) (lawful vs) p.1).1 (omega arith) u.1)

module _ {S V : Type 0} (K : Kind V) (vs : List Variable) (enter : Entering S V) (st : S) where
  abbrev Read : Type 0
  Read = Result (Deck S) Fault

  -- ---- figures
  -- over the figures of v, up to the byte that ends the last of them
  record Figured (v : V) (i : ℕ) (rest : List ℕ) : Type 0 where
    last : ℤ
    from : ℕ
    so_far : Partial V
    some : Bool
    comma : Option ℕ
    begins : ℕ
    reads : reading K vs enter fresh none st i (figures K v ++ rest) ≡ reading K vs enter (on (length (figures K v)) (under_way (written last from)) some comma) so_far st (i + length (figures K v)) rest
    gives : taken K vs so_far (number last from) ≡ coefficient K begins (Ok v)

  module _ (writing : FigureLaws K) (v : V) (value : IsValue K v) (i : ℕ) (rest : List ℕ) where
    abbrev a : ℤ
    a = K.first v

    abbrev b : ℤ
    b = K.second v

    one_figure : One K writing v (v, value) → Figured v i rest
    one_figure c =
        let l = ap length (figures-one K writing v (v, value) c) in
        let room = figures_length K writing v (v, value) in
        let shift : 0 + length (signed_decimal a) ≡ length (figures K v) = omega arith in
        record {
          last = a;
          from = i;
          so_far = none;
          some = false;
          comma = None;
          begins = i;
          reads =
              ap (λ w. reading K vs enter fresh none st i (w ++ rest)) (figures-one K writing v (v, value) c)
              ∙ number_read K vs enter none st a 18 0 false None i rest (omega arith) (omega arith) c.2 (omega arith)
              ∙ (λ j. reading K vs enter (on (shift j) (under_way (written a i)) false None) none st (i + sym l j) rest);
          gives = cond-true (eqb K.count 1) _ _ (eq-eqb K.count 1 c.0) ∙ ap (coefficient K i) (ap (K.make a) (sym c.1) ∙ writing.again v ∙ value);
        }

    two_figures : Two K writing v (v, value) → Figured v i rest
    two_figures c =
        let m = length (signed_decimal a) in
        let l = ap length (figures_two K writing v (v, value) c) ∙ length-append (signed_decimal a) (44 ∷ signed_decimal b) in
        let room = figures_length K writing v (v, value) in
        let columns : 0 + m + 1 + length (signed_decimal b) ≡ length (figures K v) = omega arith in
        let bytes : suc (i + m) + length (signed_decimal b) ≡ i + length (figures K v) = omega arith in
        record {
          last = b;
          from = suc (i + m);
          so_far = figure a i;
          some = false;
          comma = Some (i + m);
          begins = i;
          reads =
              ap (λ w. reading K vs enter fresh none st i (w ++ rest)) (figures_two K writing v (v, value) c)
              ∙ ap (reading K vs enter fresh none st i) (append_assoc (signed_decimal a) (44 ∷ signed_decimal b) rest)
              ∙ number_read K vs enter none st a 16 0 false None i (44 ∷ signed_decimal b ++ rest) (omega arith) (omega arith) c.1 (omega arith)
              ∙ comma-read K vs enter none st a i (0 + m) false None (i + m) (signed_decimal b ++ rest) (omega arith)
              ∙ ap (λ r. with_got enter st (i + m + through (44 ∷ signed_decimal b ++ rest)) r (λ u s. reading K vs enter (on (0 + m + 1) between false (Some (i + m))) u s (suc (i + m)) (signed_decimal b ++ rest))) (cond-false (eqb K.count 1) _ _ (ap (λ n. eqb n 1) c.0))
              ∙ number_read K vs enter (figure a i) st b 16 (0 + m + 1) false (Some (i + m)) (suc (i + m)) rest (omega arith) (omega arith) c.2 (omega arith)
              ∙ (λ j. reading K vs enter (on (columns j) (under_way (written b (suc (i + m)))) false (Some (i + m))) (figure a i) st (bytes j) rest);
          gives = ap (coefficient K i) (writing.again v ∙ value);
        }

    figures-read : Figured v i rest
    figures-read = ⊎_elim one_figure two_figures (short_figures K writing v (v, value))

  -- ---- exponents
  power-taken : (v : V) (b : ℕ) (es : List ℕ) (e : ℕ) (todo : List ℕ) (at : ℕ) → length es < length vs → within (drop (length es) vs) (e ∷ todo) ≡ true → taken K vs (powers v b es) (number (pos e) at) ≡ Ok (gathered vs v b (es ++ e ∷ []))
  power-taken v b es e todo at h w = cond-true (ltb e (2 ^ width_after vs (length es))) _ _ (within-next vs (length es) e todo h w).0

  module _ (v : V) (b : ℕ) (rest : List ℕ) where
    -- what follows a whole card
    abbrev entering : Row V → ℕ → Read
    entering x i = at_byte b (enter st x) (λ u s. reading K vs enter fresh u s i rest)

    exponents-read : (e : ℕ) (todo es : List ℕ) (k : ℕ) (s : Bool) (l : Option ℕ) (i : ℕ) → length es + length (e ∷ todo) ≡ length vs → within (drop (length es) vs) (e ∷ todo) ≡ true → Small (e ∷ todo) → k + length (exponents (e ∷ todo)) ≤ 72 → reading K vs enter (on k between s l) (powers v b es) st i (exponents (e ∷ todo) ++ 10 ∷ rest) ≡ entering (row (pack vs (es ++ e ∷ todo)) v) (suc (i + length (exponents (e ∷ todo))))
    exponents-read e [] es k s l i h w small room =
        let n = length (decimal e) in
        let all = length-append es (e ∷ []) in
        let none_left : ltb (length (es ++ e ∷ [])) (length vs) ≡ false = le-ltb (length (es ++ e ∷ [])) (length vs) (omega arith) in
        number_read K vs enter (powers v b es) st (pos e) 18 k s l i (10 ∷ rest) (omega arith) (omega arith) small.0 room
        ∙ end_read K vs enter (powers v b es) st (pos e) i (k + n) s l (i + n) rest
        ∙ ap (λ r. with_got enter st (i + n + through (10 ∷ rest)) r (λ u s. reading K vs enter fresh u s (suc (i + n)) rest))
        (power-taken v b es e [] i (omega arith) w ∙ ap Ok (cond-false (ltb (length (es ++ e ∷ [])) (length vs)) _ _ none_left))
    exponents-read e (f ∷ todo) es k s l i h w small room =
        let n = length (decimal e) in
        let m = length (exponents (f ∷ todo)) in
        let tail = exponents (f ∷ todo) ++ 10 ∷ rest in
        let here = length-append es (e ∷ []) in
        let long = length-append (decimal e) (44 ∷ exponents (f ∷ todo)) in
        let some_left : ltb (length (es ++ e ∷ [])) (length vs) ≡ true = lt-ltb (length (es ++ e ∷ [])) (length vs) (omega arith) in
        let next : length (es ++ e ∷ []) ≡ suc (length es) = omega arith in
        let index : suc (suc (i + n) + m) ≡ suc (i + length (exponents (e ∷ f ∷ todo))) = omega arith in
        ap (reading K vs enter (on k between s l) (powers v b es) st i) (append_assoc (decimal e) (44 ∷ exponents (f ∷ todo)) (10 ∷ rest))
        ∙ number_read K vs enter (powers v b es) st (pos e) 18 k s l i (44 ∷ tail) (omega arith) (omega arith) small.0 (omega arith)
        ∙ comma-read K vs enter (powers v b es) st (pos e) i (k + n) s l (i + n) tail (omega arith)
        ∙ ap (λ r. with_got enter st (i + n + through (44 ∷ tail)) r (λ u s. reading K vs enter (on (k + n + 1) between false (Some (i + n))) u s (suc (i + n)) tail))
        (power-taken v b es e (f ∷ todo) i (omega arith) w ∙ ap Ok (cond-true (ltb (length (es ++ e ∷ [])) (length vs)) _ _ some_left))
        ∙ exponents-read f todo (es ++ e ∷ []) (k + n + 1) false (Some (i + n)) (suc (i + n)) (omega arith)
        (ap (λ j. within (drop j vs) (f ∷ todo)) next ∙ (within-next vs (length es) e (f ∷ todo) (omega arith) w).1) small.1 (omega arith)
        ∙ (λ j. entering (row (pack vs (append_assoc es (e ∷ []) (f ∷ todo) j)) v) (index j))

    all_read : (es : List ℕ) (k : ℕ) (s : Bool) (l : Option ℕ) (i : ℕ) → 0 < length vs → length es ≡ length vs → within vs es ≡ true → Small es → k + length (exponents es) ≤ 72 → reading K vs enter (on k between s l) (powers v b []) st i (exponents es ++ 10 ∷ rest) ≡ entering (row (pack vs es) v) (suc (i + length (exponents es)))
    all_read [] k s l i some h w small room = absurd (omega arith)
    all_read (e ∷ es) k s l i some h w small room = exponents-read e es [] k s l i (omega arith) w small room

  -- ---- a card
  module _ (ring : RingLaws K.ops) (writing : FigureLaws K) (sound : Sound vs) where
    card-read : (x : Row V) (i : ℕ) (rest : List ℕ) → IsValue K x.coefficient → (K.meaning x.coefficient ≡ K.ops.zero → ⊥) → pack vs (unpack vs x.key) ≡ x.key → (b : ℕ) × (reading K vs enter fresh none st i (card K vs x ++ rest) ≡ at_byte b (enter st x) (λ u s. reading K vs enter fresh u s (i + length (card K vs x)) rest))
    card-read x i rest value nonzero key =
        let v = x.coefficient in
        let es = unpack vs x.key in
        let n = length (figures K v) in
        let m = length (exponents es) in
        let lu = length_unpack vs x.key in
        let wu = within-unpack vs x.key in
        let tail = exponents es ++ 10 ∷ rest in
        let f = figures-read writing v value i (32 ∷ tail) in
        let b = f.begins in
        let short = figures_length K writing v (v, value) in
        let few = exponents_length vs es sound lu wu in
        let size = length-append (figures K v) (32 ∷ (exponents es ++ 10 ∷ [])) in
        let inner = length-append (exponents es) (10 ∷ []) in
        let index : suc (suc (i + n) + m) ≡ i + length (card K vs x) = omega arith in
        let distinct : K.ops.same (K.meaning v) K.ops.zero ≡ false = ⊎_elim (λ t. absurd (nonzero ((ring.decides (K.meaning v) K.ops.zero).0 t))) (λ t. t) (cases_Bool (K.ops.same (K.meaning v) K.ops.zero)) in (
          b,
          ap (reading K vs enter fresh none st i) (append_assoc (figures K v) (32 ∷ (exponents es ++ 10 ∷ [])) rest ∙ ap (λ w. figures K v ++ (32 ∷ w)) (append_assoc (exponents es) (10 ∷ []) rest))
              ∙ f.reads
              ∙ blank-read K vs enter f.so_far st f.last f.from n f.some f.comma (i + n) tail (omega arith)
              ∙ ap (λ r. with_got enter st (i + n + through (32 ∷ tail)) r (λ u s. reading K vs enter (on (n + 1) between true f.comma) u s (suc (i + n)) tail))
              (f.gives ∙ cond-false (K.ops.same (K.meaning v) K.ops.zero) _ _ distinct)
              ∙ all_read v b rest es (n + 1) true f.comma (suc (i + n)) sound.some lu wu (small-exponents vs es sound.ok lu wu) (omega arith)
              ∙ (λ j. at_byte b (enter st (row (key j) v)) (λ u s. reading K vs enter fresh u s (index j) rest)),
        )

    -- the card that ends a deck
    ending-read : (i : ℕ) → ValueLaws K → reading K vs enter fresh none st i (ending K) ≡ Ok (record { bytes = i + length (ending K); table = st })
    ending-read i laws =
        let v = K.zero_value in
        let means = laws.means K.ops.zero v laws.zero in
        let value : IsValue K v = ap K.value means ∙ laws.zero in
        let f = figures-read writing v value i (10 ∷ []) in
        let n = length (figures K v) in
        let size = length-append (figures K v) (10 ∷ []) in
        let index : i + n + 1 ≡ i + length (ending K) = omega arith in
        f.reads
        ∙ end_read K vs enter f.so_far st f.last f.from n f.some f.comma (i + n) []
        ∙ ap (λ r. with_got enter st (i + n + through (10 ∷ [])) r (λ u s. reading K vs enter fresh u s (suc (i + n)) []))
        (f.gives ∙ cond-true (K.ops.same (K.meaning v) K.ops.zero) _ _ ((ring.decides (K.meaning v) K.ops.zero).1 means))
        ∙ (λ j. Ok (record { bytes = index j; table = st }))

-- ---- rows, one below the other
module _ {V : Type 0} (K : Kind V) (c : ℕ) where
  sum-last : (xs : List (Row V)) (x : Row V) → Every (λ y. x.key < y.key) xs → sum K xs (x ∷ []) ≡ Ok (xs ++ x ∷ [])
  sum-last [] x h = refl
  sum-last (y ∷ xs) x h = sum_first K y xs x [] h.0 ∙ ap (consed y) (sum-last xs x h.1)

  adding-last : (xs : List (Row V)) (x : Row V) → Every (λ y. x.key < y.key) xs → length xs < c → adding K c xs x ≡ Ok (xs ++ x ∷ [])
  adding-last xs x h l =
      let n = length-append xs (x ∷ []) in
      ap (limited c) (sum-last xs x h) ∙ cond-false (ltb c (length (xs ++ x ∷ []))) _ _ (le-ltb c (length (xs ++ x ∷ [])) (omega arith))

  -- the rows xs lie below each of the rows ys
  abbrev Above : List (Row V) → List (Row V) → Type 0
  Above ys xs = Every (λ y. Under y.key xs) ys

  above-first : (ys : List (Row V)) (x : Row V) (xs : List (Row V)) → Above ys (x ∷ xs) → Every (λ y. x.key < y.key) ys
  above-first [] x xs h = tt
  above-first (y ∷ ys) x xs h = (h.0.0, above-first ys x xs h.1)

  above-push : (ys : List (Row V)) (x : Row V) (xs : List (Row V)) → Above ys (x ∷ xs) → Under x.key xs → Above (ys ++ x ∷ []) xs
  above-push [] x xs h u = (u, tt)
  above-push (y ∷ ys) x xs h u = (h.0.1, above-push ys x xs h.1 u)

module _ {V : Type 0} (K : Kind V) (ring : RingLaws K.ops) (laws : ValueLaws K) (writing : FigureLaws K) (vs : List Variable) (sound : Sound vs) where
  deck-read : (c : ℕ) (xs done : List (Row V)) (i : ℕ) → Canonical K xs → Narrow vs xs → Above K c done xs → length done + length xs ≤ c → reading K vs (adding K c) fresh none done i (deck K vs xs) ≡ Ok (record { bytes = i + length (deck K vs xs); table = done ++ xs })
  deck-read c [] done i can nar h l = ending-read K vs (adding K c) done ring writing sound i laws ∙ ap (λ t. Ok (record { bytes = i + length (ending K); table = t })) (sym (append-nil done))
  deck-read c (x ∷ xs) done i can nar h l =
      let r = card-read K vs (adding K c) done ring writing sound x i (deck K vs xs) can.0 can.1 (pack-back vs x.key nar.0) in
      let n = length-append done (x ∷ []) in
      let size = length-append (card K vs x) (deck K vs xs) in
      let index : i + length (card K vs x) + length (deck K vs xs) ≡ i + length (deck K vs (x ∷ xs)) = omega arith in
      r.1
      ∙ ap (λ a. at_byte r.0 a (λ u s. reading K vs (adding K c) fresh u s (i + length (card K vs x)) (deck K vs xs))) (adding-last K c done x (above-first K c done x xs h) (omega arith))
      ∙ deck-read c xs (done ++ x ∷ []) (i + length (card K vs x)) can.3 nar.1 (above-push K c done x xs h can.2) (omega arith)
      ∙ (λ j. Ok (record { bytes = index j; table = append_assoc done (x ∷ []) xs j }))

  pub returning : (c : ℕ) (xs : List (Row V)) → Canonical K xs → Narrow vs xs → length xs ≤ c → read K vs c (deck K vs xs) ≡ Ok (record { bytes = length (deck K vs xs); table = xs })
  returning c xs can nar l =
      let zero_on : 0 + length (deck K vs xs) ≡ length (deck K vs xs) = omega arith in
      deck-read c xs [] 0 can nar tt (omega arith) ∙ (λ j. Ok (record { bytes = zero_on j; table = xs }))

  pub one_deck : (xs ys : List (Row V)) → Canonical K xs → Canonical K ys → Narrow vs xs → Narrow vs ys → deck K vs xs ≡ deck K vs ys → xs ≡ ys
  one_deck xs ys cx cy nx ny e =
      let c = length xs + length ys in
      let same = sym (returning c xs cx nx (omega arith)) ∙ ap (read K vs c) e ∙ returning c ys cy ny (omega arith) in
      let d : ◌≡◌ {A = Deck (List (Row V))} (record { bytes = length (deck K vs xs); table = xs }) (record { bytes = length (deck K vs ys); table = ys }) = cc in
      ap (λ k. k.table) d
