-- The room that texts need.
--     spent r n         what n bytes leave of the room r: none, if that is none or less than n
--     Spends r text s   the room s is what a text leaves of the room r
--     room_laws         the laws of a sink
use Rattle.std.specs.Prelude.{◌≡◌, ℕ, ◌+◌, ◌-◌, ◌<◌, ◌≤◌, cond, List, length, Option, Some, None, nat_le, refl}
use Rattle.std.proofs.Common.{sym, ap, ◌∙◌, ⊎_elim, arith}
use Rattle.std.proofs.lemmas.Bool.{le-leb, lt-leb, cond-true, cond-false, cases_lt}
use Rattle.std.proofs.lemmas.List.{length-append}
use Rattle.cards.specs.Sinks.{SinkLaws}
use Rattle.cards.specs.declared.room.Room.{Room}

abbrev pub spent : Option ℕ → ℕ → Option ℕ
spent None n = None
spent (Some l) n = cond (nat_le n l) (Some (l - n)) None

abbrev pub Spends : Room → List ℕ → Room → Type 0
Spends r text s = s.left ≡ spent r.left (length text)

spent_nothing : (r : Option ℕ) → spent r 0 ≡ r
spent_nothing None = refl
spent_nothing (Some l) = cond-true _ _ _ (le-leb 0 l (omega arith)) ∙ ap {A = ℕ} {B = Option ℕ} (λ n. Some n) (omega arith)

spent_within : (l n : ℕ) → n ≤ l → spent (Some l) n ≡ Some (l - n)
spent_within l n h = cond-true _ _ _ (le-leb n l h)

spent_beyond : (l n : ℕ) → l < n → spent (Some l) n ≡ None
spent_beyond l n h = cond-false _ _ _ (lt-leb n l h)

spent_twice : (r : Option ℕ) (a b : ℕ) → spent (spent r a) b ≡ spent r (a + b)
spent_twice None a b = refl
spent_twice (Some l) a b =
    ⊎_elim (λ few. ap (λ r. spent r b) (spent_beyond l a few) ∙ sym (spent_beyond l (a + b) (omega arith)))
    (λ some. ap (λ r. spent r b) (spent_within l a some) ∙ ⊎_elim (λ few. spent_beyond (l - a) b few ∙ sym (spent_beyond l (a + b) (omega arith)))
    (λ more. spent_within (l - a) b more ∙ ap {A = ℕ} {B = Option ℕ} (λ n. Some n) (omega arith) ∙ sym (spent_within l (a + b) (omega arith)))
    (cases_lt (l - a) b))
    (cases_lt l a)

pub room_laws : SinkLaws Spends
room_laws = record {
  none = λ r. sym (spent_nothing r.left);
  joined = λ r s t first second p q. q ∙ ap (λ l. spent l (length second)) p ∙ spent_twice r.left (length first) (length second) ∙ ap (spent r.left) (sym (length-append first second));
}
