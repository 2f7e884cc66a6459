-- The ring of the whole numbers modulo m, and a kind whose contents hold one such number. Here m is at least 2.
--     Class m              a member: a number that is its own remainder modulo m, so one from 0 to m - 1
--     class m n            the class of the number n
--     remainders m         the classes, with the classes of the sum, the product and the opposite
--     limits m             the figures of a class: one, from 0 to m - 1
--     figured m of a b     the content that the figures a and b make, or Unfit
--     modulo m of number   the kind whose content v means the class of number v and whose value of a class is made by of
use Rattle.std.specs.Prelude.{◌≡◌, ℕ, ◌+◌, ◌-◌, ◌*◌, ◌%◌, cond, ℤ, pos, Ok, Err, Result, ◌==◌, unsigned_abs}
use Rattle.std.proofs.Math.Nat.{mod-mod}
use Rattle.refusals.specs.declared.Refusal.{Refusal}
use Rattle.refusals.specs.declared.Refusal.TheVariants.{Unfit}
use Rattle.rings.specs.Members.{Ops}
use Rattle.rings.specs.Kinds.{Kind, Ranges, Within}

pub record Class (m : ℕ) : Type 0 where
  pub number : ℕ
  pub reduced : number % m ≡ number

abbrev pub class : (m : ℕ) → ℕ → Class m
class m n = record { number = n % m; reduced = mod-mod n m }

abbrev pub remainders : ℕ → Ops
remainders m = record {
  Member = Class m;
  zero = class m 0;
  one = class m 1;
  plus = λ a b. class m (a.number + b.number);
  times = λ a b. class m (a.number * b.number);
  negative = λ a. class m (m - a.number);
  same = λ a b. (a.number == b.number);
}

abbrev pub limits : ℕ → Ranges
limits m = record { first_low = pos 0; first_high = pos (m - 1); second_low = pos 0; second_high = pos 0 }

abbrev pub figured : {V : Type 0} (m : ℕ) → (ℕ → V) → ℤ → ℤ → Result V Refusal
figured m of a b = cond (Within (limits m) a b) (Ok (of (unsigned_abs a))) (Err Unfit)

abbrev pub modulo : {V : Type 0} (m : ℕ) → (ℕ → V) → (V → ℕ) → Kind V
modulo m of number = record {
  ops = remainders m;
  meaning = λ v. class m (number v);
  value = λ c. Ok (of c.number);
  zero_value = of 0;
  one_value = of 1;
  count = 1;
  first = λ v. pos (number v % m);
  second = λ _. pos 0;
  ranges = limits m;
  make = figured m of;
}
