-- A term's next exponent, by its key. Assumes nothing.
--     narrow_width        an exponent has at most 16 bits
--     power-refused       a number that is no exponent of the next variable
--     power-more          one that is, where others are to come
--     power-whole         one that is, where none is
use Rattle.std.proofs.Common.{◌≡◌, ℕ, zero, suc, ◌+◌, ◌-◌, ◌*◌, ◌%◌, ◌^◌, ◌<◌, ◌≤◌, min, cond, ltb, List, [], ◌∷◌, ◌++◌, length, take, drop, ℤ, pos, negsuc, Ok, Err, Result, sym, refl, ap, ◌∙◌, subst, ⊎_elim, add-zero, mul-one, arith}
use lib.Pow.{mod-mod-pow}
use Rattle.std.proofs.lemmas.List.{append-nil, length-take, length_push, take_more, take_all, drop_more, drop_all, get_or_past}
use Rattle.std.proofs.lemmas.Bool.{lt-ltb, le-ltb, cond-true, cond-false, cases_lt}
use Rattle.refusals.specs.declared.Refusal.TheVariants.{Exponent}
use Rattle.formats.specs.Drafts.{Sound}
use Rattle.formats.specs.Keys.{pack, unpack}
use Rattle.formats.specs.Variables.{total, variable}
use Rattle.formats.specs.declared.variable.Variable.{Variable}
use Rattle.formats.proofs.Keys.{width_at, pack-unpack}
use Rattle.formats.proofs.Turns.{length_unpack}
use Rattle.formats.proofs.Walks.{at}
use Rattle.rows.specs.Tables.{row}
use Rattle.texts.specs.Numbers.{Fault}
use Rattle.texts.specs.Terms.{Got, power, gathered}
use Rattle.texts.specs.Terms.Partial.{powers}
use Rattle.texts.specs.Terms.Got.{more, whole}
use Rattle.decks.specs.Shown.{fault_of}
use Rattle.decks.specs.declared.fault.Fault as faults
use Rattle.decks.proofs.Fields.{total-push, unpack-push}

pub narrow_width : (vs : List Variable) → Sound vs → (i : ℕ) → (at vs i).width ≤ 16
narrow_width vs s i = ⊎_elim (λ h. (width_at vs i s.ok h).1) (λ h. let e = ap (λ v. v.width) (get_or_past vs i (variable 0 0) h) in omega arith) (cases_lt i (length vs))

total_take : (vs : List Variable) (i : ℕ) → total (take i vs) ≤ total vs
total_take vs zero = omega arith
total_take [] (suc i) = omega arith
total_take (v ∷ vs) (suc i) = omega (arith, total_take vs i)

-- the answer for an exponent e of w bits
abbrev answered : {V : Type 0} → List Variable → V → ℕ → List ℕ → ℕ → ℕ → ℕ → Result (Got V) Fault
answered vs x b es byte e w = cond (ltb e (2 ^ w)) (Ok (gathered vs x b (es ++ e ∷ []))) (Err (record { refusal = Exponent; byte = byte }))

module _ {V : Type 0} (vs : List Variable) (x : V) (b : ℕ) (es : List ℕ) (byte e : ℕ) where
  power_in : (v : Variable) (ws : List Variable) → drop (length es) vs ≡ v ∷ ws → power vs x b es byte (pos e) ≡ answered vs x b es byte e v.width
  power_in v ws p = rw p refl

  power_past : drop (length es) vs ≡ [] → power vs x b es byte (pos e) ≡ answered vs x b es byte e 0
  power_past p = rw p refl

-- the first n exponents are in the key k
module _ {V : Type 0} (vs : List Variable) (s : Sound vs) (x : V) (b n k : ℕ) where
  abbrev es : List ℕ
  es = unpack (take n vs) k

  abbrev width : ℕ
  width = (at vs n).width

  count_is : length es ≡ min n (length vs)
  count_is = length_unpack (take n vs) k ∙ length-take n vs

  at-power : (byte e : ℕ) → power vs x b es byte (pos e) ≡ answered vs x b es byte e width
  at-power byte e =
      ⊎_elim
      (λ h. let m : length es ≡ n = omega (arith, count_is) in power_in vs x b es byte e (at vs n) (drop (n + 1) vs) (ap (λ m. drop m vs) m ∙ drop_more vs n (variable 0 0) h))
      (λ h. let m : length vs ≤ length es = omega (arith, count_is) in power_past vs x b es byte e (drop_all (length es) vs m) ∙ ap (λ v. answered vs x b es byte e v.width) (sym (get_or_past vs n (variable 0 0) h)))
      (cases_lt n (length vs))

  refused : (byte : ℕ) (z : ℤ) → ((e : ℕ) → z ≡ pos e → e < 2 ^ width → ⊥) → power vs x b es byte z ≡ Err (record { refusal = Exponent; byte = byte })
  refused byte (pos e) never = at-power byte e ∙ cond-false (ltb e (2 ^ width)) _ _ (le-ltb e (2 ^ width) (⊎_elim (λ l. absurd (never e refl l)) (λ l. l) (cases_lt e (2 ^ width))))
  refused byte (negsuc e) never = refl

  room : n < length vs → width + total (take n vs) ≤ 64
  room h = let p = ap total (take_more vs n (variable 0 0) h) ∙ total-push (take n vs) (at vs n) in omega (arith, total_take vs (n + 1), s.narrow)

  module _ (byte e : ℕ) (low : e < 2 ^ width) where
    abbrev key : ℕ
    key = (k * 2 ^ width) % 2 ^ 64 + e

    accepted : power vs x b es byte (pos e) ≡ Ok (gathered vs x b (es ++ e ∷ []))
    accepted = at-power byte e ∙ cond-true (ltb e (2 ^ width)) _ _ (lt-ltb e (2 ^ width) low)

    pushed : n < length vs → unpack (take (n + 1) vs) key ≡ es ++ e ∷ []
    pushed h = ap (λ l. unpack l key) (take_more vs n (variable 0 0) h) ∙ unpack-push (take n vs) (at vs n) k e (room h) low

    -- past the last variable there are no bits
    beyond : length vs ≤ n → key % 2 ^ total vs ≡ k % 2 ^ total vs
    beyond h =
        let none : width ≡ 0 = ap (λ v. v.width) (get_or_past vs n (variable 0 0) h) in
        let small : e < 2 ^ 0 = subst (λ m. e < 2 ^ m) none low in
        let nothing : e ≡ 0 = omega arith in
        let T = total vs in
        let all : (64 - T) + T ≡ 64 = let t = s.narrow in omega arith in
        let same : key ≡ k % 2 ^ 64 = (λ i. (k * 2 ^ none i) % 2 ^ 64 + nothing i) ∙ add-zero _ ∙ ap (λ m. m % 2 ^ 64) (mul-one k) in
        ap (λ m. m % 2 ^ T) same ∙ ap (λ m. k % 2 ^ m % 2 ^ T) (sym all) ∙ mod-mod-pow k (64 - T) T

    packs : length vs - 1 ≤ n → pack vs (es ++ e ∷ []) ≡ key % 2 ^ total vs
    packs h =
        ⊎_elim
        (λ l. ap (pack vs) (sym (pushed l)) ∙ ap (λ us. pack vs (unpack us key)) (take_all (n + 1) vs (omega arith)) ∙ ap (pack vs) (sym (append-nil (unpack vs key))) ∙ pack-unpack vs key [])
        (λ l. ap (λ us. pack vs (unpack us k ++ e ∷ [])) (take_all n vs l) ∙ pack-unpack vs k (e ∷ []) ∙ sym (beyond l))
        (cases_lt n (length vs))

    count-more : length (es ++ e ∷ []) ≡ min n (length vs) + 1
    count-more = length_push es e ∙ ap (λ m. m + 1) count_is

    added : n < length vs - 1 → Ok (more (powers x b (unpack (take (n + 1) vs) key))) ≡ power vs x b es byte (pos e)
    added h =
        ap (λ l. Ok (more (powers x b l))) (pushed (omega arith))
        ∙ sym (accepted ∙ ap Ok (cond-true (ltb (length (es ++ e ∷ [])) (length vs)) _ _ (lt-ltb (length (es ++ e ∷ [])) (length vs) (omega (arith, count-more)))))

    completed : length vs - 1 ≤ n → Ok (whole (row (key % 2 ^ total vs) x) b) ≡ power vs x b es byte (pos e)
    completed h =
        ap (λ m. Ok (whole (row m x) b)) (sym (packs h))
        ∙ sym (accepted ∙ ap Ok (cond-false (ltb (length (es ++ e ∷ [])) (length vs)) _ _ (le-ltb (length (es ++ e ∷ [])) (length vs) (omega (arith, count-more)))))

  -- the same for a width w and a number z that are known by equations
  module _ (w : ℕ) (wide : w ≡ width) (byte : ℕ) (z : ℤ) where
    pub power-refused : (f : faults.Fault) → f ≡ record { refusal = Exponent; byte = byte } → ((e : ℕ) → z ≡ pos e → e < 2 ^ w → ⊥) → Err (fault_of f) ≡ power vs x b es byte z
    power-refused f is never = ap (λ g. Err (fault_of g)) is ∙ sym (refused byte z (λ e is low. never e is (subst (λ m. e < 2 ^ m) (sym wide) low)))

    module _ (e : ℕ) (is : z ≡ pos e) (low : e < 2 ^ w) where
      low' : e < 2 ^ width
      low' = subst (λ m. e < 2 ^ m) wide low

      pub power-more : (c : ℕ) → c ≡ length vs → n < c - 1 → Ok (more (powers x b (unpack (take (n + 1) vs) ((k * 2 ^ w) % 2 ^ 64 + e)))) ≡ power vs x b es byte z
      power-more c all h =
          ap (λ m. Ok (more (powers x b (unpack (take (n + 1) vs) ((k * 2 ^ m) % 2 ^ 64 + e))))) wide
          ∙ added byte e low' (omega arith) ∙ ap (power vs x b es byte) (sym is)

      pub power-whole : (c : ℕ) → c ≡ length vs → c - 1 ≤ n → (r : ℕ) → r ≡ ((k * 2 ^ w) % 2 ^ 64 + e) % 2 ^ total vs → Ok (whole (row r x) b) ≡ power vs x b es byte z
      power-whole c all h r reduced =
          ap (λ m. Ok (whole (row m x) b)) (reduced ∙ ap (λ m. ((k * 2 ^ m) % 2 ^ 64 + e) % 2 ^ total vs) wide)
          ∙ completed byte e low' (omega arith) ∙ ap (power vs x b es byte) (sym is)
