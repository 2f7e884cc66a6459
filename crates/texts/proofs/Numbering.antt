-- A written number is worked into a number under way, which ends as what was written. Assumes nothing.
--     on k m s l        a card after k columns
--     number_read       over the bytes of a number
--     blank-read, comma-read, end_read     over the byte that ends it
use Rattle.std.proofs.Common.{◌≡◌, ℕ, suc, ◌+◌, ◌-◌, ◌*◌, ◌^◌, ◌<◌, ◌≤◌, Bool, true, false, eqb, ltb, leb, List, [], ◌∷◌, ◌++◌, length, ℤ, pos, negsuc, Some, None, Ok, decimal, Option, Result, refl, ap, ◌∙◌, arith}
use Rattle.std.specs.Str.Parse.{AllDigits}
use Rattle.std.specs.Fmt.{signed_decimal}
use Rattle.std.proofs.lemmas.Fmt.{digits_decimal, digits_value-decimal, decimal_nonempty}
use Rattle.std.proofs.lemmas.Str.Parse.{IsNumeralModel, tells_digits, numerals_by_fold}
use Rattle.std.proofs.lemmas.Bool.{lt-ltb, le-leb, ne_eqb, cond-true, cond-false}
use Rattle.rings.specs.Kinds.{Kind}
use Rattle.formats.specs.declared.variable.Variable.{Variable}
use Rattle.texts.specs.Numbers.{Fault, Number, Begun, Mode, Card, class, classed, fresh, ended, worked, on_digit}
use Rattle.texts.specs.Numbers.Class.{digit}
use Rattle.texts.specs.Numbers.Mode.{between, sign, within}
use Rattle.texts.specs.Terms.{Partial, taken}
use Rattle.texts.specs.Reading.{Deck, Entering, through, with_got, with_step, reading}
use Rattle.texts.proofs.Widths.{Short, short_wide, digits_length}

abbrev pub on : ℕ → Mode → Bool → Option ℕ → Card
on k m s l = record { columns = k; mode = m; some = s; last = l }

-- ---- what digits make
abbrev made : ℕ → List ℕ → ℕ
made n [] = n
made n (c ∷ cs) = made (10 * n + (c - 48)) cs

own : IsNumeralModel (AllDigits 10) (made 0)
own = numerals_by_fold (AllDigits 10) tells_digits made (record { empty = λ n. refl; more = λ n c cs h. ap (λ x. made x cs) (omega arith) })

-- ---- the class of a byte
digit-class : (b : ℕ) → 48 ≤ b → b ≤ 57 → class b ≡ digit (b - 48)
digit-class b l h =
    cond-false (eqb b 32) _ _ (ne_eqb b 32 (λ e. omega arith))
    ∙ cond-false (eqb b 44) _ _ (ne_eqb b 44 (λ e. omega arith))
    ∙ cond-false (eqb b 45) _ _ (ne_eqb b 45 (λ e. omega arith))
    ∙ cond-true (leb 48 b) _ _ (le-leb 48 b l)
    ∙ cond-true (leb b 57) _ _ (le-leb b 57 h)

digit-worked : (k : ℕ) (m : Mode) (s : Bool) (l : Option ℕ) (i b : ℕ) → k < 72 → 48 ≤ b → b ≤ 57 → worked (on k m s l) i b ≡ on_digit m (on k m s l) i (b - 48)
digit-worked k m s l i b room p q =
    cond-false (eqb b 10) _ _ (ne_eqb b 10 (λ e. omega arith))
    ∙ cond-true (ltb k 72) _ _ (lt-ltb k 72 room)
    ∙ ap (λ c. classed c (on k m s l) i) (digit-class b p q)

abbrev counted : ℕ → Bool → ℕ → ℕ → Begun
counted f g d z = record { first = f; negative = g; digits = d; size = z }

-- the number z under way at its last digit, where f is its first byte
abbrev pub written : ℤ → ℕ → Begun
written (pos n) f = counted f false (length (decimal n)) n
written (negsuc n) f = counted f true (length (decimal (suc n))) (suc n)

abbrev pub number : ℤ → ℕ → Number
number z f = record { value = z; first = f }

written_ends : (z : ℤ) (f : ℕ) → ended (written z f) ≡ number z f
written_ends (pos n) f = refl
written_ends (negsuc n) f = refl

module _ {S V : Type 0} (K : Kind V) (vs : List Variable) (enter : Entering S V) (t : Partial V) (st : S) where
  abbrev go : Card → ℕ → List ℕ → Result (Deck S) Fault
  go d i bs = reading K vs enter d t st i bs

  -- a byte that ends no number
  onward : (d e : Card) (i b : ℕ) (bs : List ℕ) → worked d i b ≡ Ok (record { card = e; number = None }) → go d i (b ∷ bs) ≡ go e (suc i) bs
  onward d e i b bs h = ap (λ r. with_step K vs enter st t (i + through (b ∷ bs)) r (λ x u r. reading K vs enter x u r (suc i) bs)) h

  module _ (s : Bool) (l : Option ℕ) (f : ℕ) (g : Bool) (rest : List ℕ) where
    digits-read : (ds : List ℕ) (k i d z : ℕ) → AllDigits 10 ds → k + length ds ≤ 72 → d + length ds ≤ 18 → go (on k (within (counted f g d z)) s l) i (ds ++ rest) ≡ go (on (k + length ds) (within (counted f g (d + length ds) (made z ds))) s l) (i + length ds) rest
    digits-read [] k i d z h a b = λ j. go (on (same k j) (within (counted f g (same d j) z)) s l) (same i j) rest
      where
        same : (n : ℕ) → n ≡ n + 0
        same n = omega arith
    digits-read (c ∷ ds) k i d z h a b =
        let p = tells_digits.parts c ds h in
        onward (on k (within (counted f g d z)) s l) (on (k + 1) (within (counted f g (d + 1) (10 * z + (c - 48)))) s l) i c (ds ++ rest)
        (digit-worked k (within (counted f g d z)) s l i c (omega arith) p.0.0 p.0.1 ∙ cond-true (ltb d 18) _ _ (lt-ltb d 18 (omega arith)))
        ∙ digits-read ds (k + 1) (suc i) (d + 1) (10 * z + (c - 48)) p.1 (omega arith) (omega arith)
        ∙ (λ j. go (on (shift k j) (within (counted f g (shift d j) (made (10 * z + (c - 48)) ds))) s l) (up j) rest)
      where
        shift : (n : ℕ) → n + 1 + length ds ≡ n + length (c ∷ ds)
        shift n = omega arith

        up : suc i + length ds ≡ i + length (c ∷ ds)
        up = omega arith

    -- the first digit of a number, and all others
    number_begins : (m : Mode) (ds : List ℕ) (k i : ℕ) → ((d : ℕ) → on_digit m (on k m s l) i d ≡ Ok (record { card = on (k + 1) (within (counted f g 1 d)) s l; number = None })) → AllDigits 10 ds → 0 < length ds → k + length ds ≤ 72 → length ds ≤ 18 → go (on k m s l) i (ds ++ rest) ≡ go (on (k + length ds) (within (counted f g (length ds) (made 0 ds))) s l) (i + length ds) rest
    number_begins m [] k i first h some a b = absurd (omega arith)
    number_begins m (c ∷ ds) k i first h some a b =
        let p = tells_digits.parts c ds h in
        onward (on k m s l) (on (k + 1) (within (counted f g 1 (c - 48))) s l) i c (ds ++ rest) (digit-worked k m s l i c (omega arith) p.0.0 p.0.1 ∙ first (c - 48))
        ∙ digits-read ds (k + 1) (suc i) 1 (c - 48) p.1 (omega arith) (omega arith)
        ∙ (λ j. go (on (shift j) (within (counted f g (one j) (made (size j) ds))) s l) (up j) rest)
      where
        shift : k + 1 + length ds ≡ k + length (c ∷ ds)
        shift = omega arith

        one : 1 + length ds ≡ length (c ∷ ds)
        one = omega arith

        size : c - 48 ≡ 10 * 0 + (c - 48)
        size = omega arith

        up : suc i + length ds ≡ i + length (c ∷ ds)
        up = omega arith

    decimal_begins : (m : Mode) (n e k i : ℕ) → ((d : ℕ) → on_digit m (on k m s l) i d ≡ Ok (record { card = on (k + 1) (within (counted f g 1 d)) s l; number = None })) → 0 < e → e ≤ 18 → n < 10 ^ e → k + length (decimal n) ≤ 72 → go (on k m s l) i (decimal n ++ rest) ≡ go (on (k + length (decimal n)) (within (counted f g (length (decimal n)) n)) s l) (i + length (decimal n)) rest
    decimal_begins m n e k i first some few short room =
        let w = short_wide e n few short in
        let long = digits_length e n some few short in
        number_begins m (decimal n) k i first (digits_decimal own n w) (decimal_nonempty n w) room (omega arith)
        ∙ ap (λ z. go (on (k + length (decimal n)) (within (counted f g (length (decimal n)) z)) s l) (i + length (decimal n)) rest) (digits_value-decimal own n w)

  pub number_read : (z : ℤ) (e k : ℕ) (s : Bool) (l : Option ℕ) (i : ℕ) (rest : List ℕ) → 0 < e → e ≤ 18 → Short e z → k + length (signed_decimal z) ≤ 72 → go (on k between s l) i (signed_decimal z ++ rest) ≡ go (on (k + length (signed_decimal z)) (within (written z i)) s l) (i + length (signed_decimal z)) rest
  number_read (pos n) e k s l i rest some few short room = decimal_begins s l i false rest between n e k i (λ d. refl) some few short room
  number_read (negsuc n) e k s l i rest some few short room =
      onward (on k between s l) (on (k + 1) (sign i) s l) i 45 (decimal (suc n) ++ rest) (cond-true (ltb k 72) _ _ (lt-ltb k 72 (omega arith)))
      ∙ decimal_begins s l i true rest (sign i) (suc n) e (k + 1) (suc i) (λ d. refl) some few short (omega arith)
      ∙ (λ j. go (on (shift j) (within (written (negsuc n) i)) s l) (up j) rest)
    where
      shift : k + 1 + length (decimal (suc n)) ≡ k + length (signed_decimal (negsuc n))
      shift = omega arith

      up : suc i + length (decimal (suc n)) ≡ i + length (signed_decimal (negsuc n))
      up = omega arith

  -- ---- the byte after a number
  module _ (z : ℤ) (f k : ℕ) (s : Bool) (l : Option ℕ) (i : ℕ) (rest : List ℕ) where
    abbrev under : Card
    under = on k (within (written z f)) s l

    -- the number is taken, and the work goes on with the card e
    abbrev pub taking : ℕ → Card → Result (Deck S) Fault
    taking b e = with_got enter st (i + through (b ∷ rest)) (taken K vs t (number z f)) (λ u r. reading K vs enter e u r (suc i) rest)

    stops : (b : ℕ) (e : Card) → worked under i b ≡ Ok (record { card = e; number = Some (ended (written z f)) }) → go under i (b ∷ rest) ≡ taking b e
    stops b e h =
        ap (λ r. with_step K vs enter st t (i + through (b ∷ rest)) r (λ x u r. reading K vs enter x u r (suc i) rest)) h
        ∙ ap (λ n. with_got enter st (i + through (b ∷ rest)) (taken K vs t n) (λ u r. reading K vs enter e u r (suc i) rest)) (written_ends z f)

    pub blank-read : k < 72 → go under i (32 ∷ rest) ≡ taking 32 (on (k + 1) between true l)
    blank-read room = stops 32 (on (k + 1) between true l) (cond-true (ltb k 72) _ _ (lt-ltb k 72 room))

    pub comma-read : k < 72 → go under i (44 ∷ rest) ≡ taking 44 (on (k + 1) between false (Some i))
    comma-read room = stops 44 (on (k + 1) between false (Some i)) (cond-true (ltb k 72) _ _ (lt-ltb k 72 room))

    pub end_read : go under i (10 ∷ rest) ≡ taking 10 fresh
    end_read = stops 10 fresh refl
