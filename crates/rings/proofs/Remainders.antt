-- The whole numbers modulo m are a commutative ring for every m from 2 up, and a kind that holds them keeps the laws of a kind. Assumes nothing.
use Rattle.std.proofs.Common.{◌≡◌, ℕ, zero, suc, ◌+◌, ◌-◌, ◌*◌, ◌/◌, ◌%◌, ◌^◌, ◌<◌, ◌≤◌, true, ℤ, pos, negsuc, nat_abs, Ok, Err, Result, sym, refl, ap, ◌∙◌, inl, inr, ⊎_elim, add-zero, add_assoc, mod-lt, mod-eq_of_lt, mul_assoc, suc-mul, mul_comm, add-mul, add_comm, mul-zero, zero-mul, mul-one, mul-add, arith, le→leb}
use mathlib.Core.HLevel.{is_prop→PathP}
use native.Mathlib.Nat.{ℕ_set, zero-mod, mod_self, mod-add-mod, add-mod-mod, mod-add-div, add-mul-mod_self_left}
use lib.Signed.{le_z, le_z_yes}
use Rattle.std.proofs.lemmas.Bool.{eqb-true, eq-eqb, leb-true, le-leb, cond-true, cases_eq, false≢true, and_parts, and_from}
use Rattle.refusals.specs.declared.Refusal.{Refusal}
use Rattle.rings.specs.Members.{RingLaws, NoZeroDivisors, copies}
use Rattle.rings.specs.Kinds.{Within, ValueLaws, FigureLaws}
use Rattle.rings.proofs.Fitting.{tested-ok, tested_err, tested_is_ok}
use Rattle.rings.specs.Remainders.{Class, class, remainders, limits, figured, modulo}

-- a remainder may be taken of a factor first
pub mod-times-mod : (n k m : ℕ) → (n % m * k) % m ≡ (n * k) % m
mod-times-mod n k m =
    sym (add-mul-mod_self_left (n % m * k) m (n / m * k))
    ∙ ap (λ x. (n % m * k + x) % m) (sym (mul_assoc m (n / m) k))
    ∙ ap (λ x. x % m) (sym (add-mul (n % m) (m * (n / m)) k))
    ∙ ap (λ x. (x * k) % m) (mod-add-div n m)

pub times-mod-mod : (n k m : ℕ) → (n * (k % m)) % m ≡ (n * k) % m
times-mod-mod n k m = ap (λ x. x % m) (mul_comm n (k % m)) ∙ mod-times-mod k n m ∙ ap (λ x. x % m) (mul_comm k n)

pub times_mods : (n k m : ℕ) → (n % m * (k % m)) % m ≡ (n * k) % m
times_mods n k m = mod-times-mod n (k % m) m ∙ times-mod-mod n k m

pub plus_mods : (n k m : ℕ) → (n % m + k % m) % m ≡ (n + k) % m
plus_mods n k m = mod-add-mod n m (k % m) ∙ add-mod-mod n k m

-- classes are equal if their numbers are
pub class_path : {m : ℕ} (a b : Class m) → a.number ≡ b.number → a ≡ b
class_path {m} a b e = λ i. record { number = e i; reduced = is_prop→PathP (λ j. e j % m ≡ e j) (λ j. ℕ_set (e j % m) (e j)) a.reduced b.reduced i }

pub class-below : {m : ℕ} (a : Class m) → 1 < m → a.number < m
class-below {m} a p = let h = mod-lt a.number {m = m} (omega arith) in let e = a.reduced in omega arith

pub remainders_ring : (m : ℕ) → 1 < m → RingLaws (remainders m)
remainders_ring m p = record {
  plus_assoc = λ a b c. class_path _ _ (mod-add-mod (a.number + b.number) m c.number ∙ ap (λ x. x % m) (add_assoc a.number b.number c.number) ∙ sym (add-mod-mod a.number (b.number + c.number) m));
  plus_comm = λ a b. ap (class m) (add_comm a.number b.number);
  plus_zero = λ a. class_path _ _ (add-mod-mod a.number 0 m ∙ ap (λ x. x % m) (add-zero a.number) ∙ a.reduced);
  plus_negative = λ a. class_path _ _ (add-mod-mod a.number (m - a.number) m ∙ ap (λ x. x % m) (whole a) ∙ mod_self m ∙ sym (zero-mod m));
  times_assoc = λ a b c. class_path _ _ (mod-times-mod (a.number * b.number) c.number m ∙ ap (λ x. x % m) (mul_assoc a.number b.number c.number) ∙ sym (times-mod-mod a.number (b.number * c.number) m));
  times_comm = λ a b. ap (class m) (mul_comm a.number b.number);
  times_one = λ a. class_path _ _ (times-mod-mod a.number 1 m ∙ ap (λ x. x % m) (mul-one a.number) ∙ a.reduced);
  times_plus = λ a b c. class_path _ _ (times-mod-mod a.number (b.number + c.number) m ∙ ap (λ x. x % m) (mul-add a.number b.number c.number) ∙ sym (plus_mods (a.number * b.number) (a.number * c.number) m));
  one_not_zero = λ e. let h = sym (mod-eq_of_lt p) ∙ ap (λ c. c.number) e ∙ zero-mod m in omega arith;
  decides = λ a b. (λ e. class_path a b (eqb-true _ _ e), λ e. eq-eqb _ _ (ap (λ c. c.number) e));
}
  where
    whole : (a : Class m) → a.number + (m - a.number) ≡ m
    whole a = let h = class-below a p in omega arith

-- the sum of n copies is the class of a product
pub copies-class : (m n : ℕ) (a : Class m) → copies (remainders m) n a ≡ class m (n * a.number)
copies-class m zero a = ap (class m) (sym (zero-mul a.number))
copies-class m (suc n) a =
    ap (λ c. (remainders m).plus c a) (copies-class m n a)
    ∙ class_path _ _ (mod-add-mod (n * a.number) m a.number ∙ ap (λ x. x % m) (sym (suc-mul n a.number)))

pub copies-number : (m n k : ℕ) → (copies (remainders m) n (class m k)).number ≡ (n * k) % m
copies-number m n k = ap (λ c. c.number) (copies-class m n (class m k)) ∙ times-mod-mod n k m

-- what `times` and `multiple` of such a kind answer, for their checks
pub ruleset products = (times_mods, copies-number)

-- ---- reciprocals
times_zero : {m : ℕ} (a : Class m) → (remainders m).times a (class m 0) ≡ class m 0
times_zero {m} a = class_path _ _ (times-mod-mod a.number 0 m ∙ ap (λ x. x % m) (mul-zero a.number))

-- where each member but zero has a reciprocal, a product is zero only if a factor is
pub reciprocals_no_zero_divisors : (m : ℕ) → 1 < m → (reciprocal : Class m → Class m) → ((a : Class m) → (a.number ≡ 0 → ⊥) → (remainders m).times (reciprocal a) a ≡ class m 1) → NoZeroDivisors (remainders m)
reciprocals_no_zero_divisors m p reciprocal rule a b e = ⊎_elim (λ z. inl (class_path a _ (z ∙ sym (zero-mod m)))) (λ n. inr (other n)) (cases_eq a.number 0)
  where
    times : Class m → Class m → Class m
    times = (remainders m).times

    laws : RingLaws (remainders m)
    laws = remainders_ring m p

    other : (a.number ≡ 0 → ⊥) → b ≡ class m 0
    other n =
        sym (laws.times_one b) ∙ laws.times_comm b (class m 1) ∙ ap (λ c. times c b) (sym (rule a n))
        ∙ laws.times_assoc (reciprocal a) a b ∙ ap (times (reciprocal a)) e ∙ times_zero (reciprocal a)

-- ---- the kind
no_value : {V : Type 0} {c : Refusal} {v : V} → ◌≡◌ {A = Result V Refusal} (Ok v) (Err c) → ⊥
no_value h = let n : ◌≡◌ {A = ℕ} 0 1 = cc in omega arith

same : {V : Type 0} {v w : V} → ◌≡◌ {A = Result V Refusal} (Ok v) (Ok w) → w ≡ v
same e = cc

nonnegative : (a : ℤ) (n : ℕ) → le_z (pos 0) a ≡ true → le_z a (pos n) ≡ true → (a ≡ pos (nat_abs a)) × (nat_abs a ≤ n)
nonnegative (pos a) n e f = (refl, leb-true a n f)
nonnegative (negsuc a) n e f = absurd (false≢true e)

module _ {V : Type 0} (m : ℕ) (p : 1 < m) (of : ℕ → V) (number : V → ℕ) (holds : (n : ℕ) → number (of n) ≡ n) where
  pub modulo-values : ValueLaws (modulo m of number)
  modulo-values = record {
    means = λ c v e. class_path _ _ (ap (λ w. number w % m) (same e) ∙ ap (λ n. n % m) (holds c.number) ∙ c.reduced);
    unfit = λ c r e. absurd (no_value e);
    contents = λ v. (of (number v % m), refl);
    zero = ap (λ n. Ok (of n)) (zero-mod m);
    one = ap (λ n. Ok (of n)) (mod-eq_of_lt p);
    negative = λ c f. (of ((m - c.number) % m), refl);
  }

  -- figures that make a value
  Made : ℤ → ℤ → V → Type 0
  Made a b v = (v ≡ of (nat_abs a)) × (a ≡ pos (nat_abs a)) × (nat_abs a ≤ m - 1) × (b ≡ pos 0)

  made : (a b : ℤ) (v : V) → figured m of a b ≡ Ok v → Made a b v
  unfolding Made
  made a b v e =
      let held = tested-ok (Within (limits m) a b) (of (nat_abs a)) v e in
      let both = and_parts _ _ held.1 in
      let l = and_parts _ _ both.0 in
      let r = and_parts _ _ both.1 in
      let x = nonnegative a (m - 1) l.0 l.1 in
      let y = nonnegative b 0 r.0 r.1 in
      let z : nat_abs b ≡ 0 = omega arith in
      (held.0, x.0, x.1, y.0 ∙ ap pos z)

  within : (n : ℕ) → n < m → Within (limits m) (pos n) (pos 0) ≡ true
  within n h = and_from _ _ (and_from _ _ (le-leb 0 n (omega arith)) (le-leb n (m - 1) (omega arith))) refl

  pub modulo-figures : m ≤ 10 ^ 18 → FigureLaws (modulo m of number)
  unfolding Made
  modulo-figures q = record {
    counted = inl (refl, refl, refl, (le_z_yes tt, le_z_yes (le→leb (m - 1) (10 ^ 18 - 1) (omega arith)), le_z_yes tt, le_z_yes tt));
    within = λ a b. tested_is_ok (Within (limits m) a b) (of (nat_abs a));
    unfit = λ a b c e. (tested_err (Within (limits m) a b) (of (nat_abs a)) c e).0;
    made = λ a b v e. ap (λ n. Ok (of n)) (means a b v (made a b v e)) ∙ ap Ok (sym (made a b v e).0);
    again = λ v. cond-true _ _ _ (within (number v % m) (mod-lt (number v) (omega arith)));
    zeros = λ a b v e z. let d = made a b v e in (d.1 ∙ ap pos (sym (means a b v d) ∙ ap (λ c. c.number) z ∙ zero-mod m), d.3);
  }
    where
      means : (a b : ℤ) (v : V) → Made a b v → number v % m ≡ nat_abs a
      means a b v d = ap (λ w. number w % m) d.0 ∙ ap (λ n. n % m) (holds (nat_abs a)) ∙ mod-eq_of_lt (let h = d.2 in omega arith)
