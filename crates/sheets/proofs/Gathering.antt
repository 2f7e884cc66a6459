-- The rows of a place whose products with a row are of low degree. Assumes nothing.
--     low_with             whether a row makes a product of low degree with one of the degree d
--     near-chosen          these are the rows that are near it
--     gathered             where all of them were accepted, the area has them
use Rattle.std.proofs.Common.{◌≡◌, ℕ, ◌+◌, Bool, leb, List, take, Ok, Err, Result, sym, ap, ◌∙◌}
use Rattle.refusals.specs.declared.Refusal.{Refusal}
use Rattle.rings.specs.declared.ring.Ring.{Ghosts}
use Rattle.formats.specs.Exponents.{added, degree}
use Rattle.formats.specs.Keys.{unpack}
use Rattle.formats.specs.declared.variable.Variable.{Variable}
use Rattle.formats.proofs.Turns.{length_unpack}
use Rattle.rows.specs.declared.Row.{Row}
use Rattle.areas.specs.Areas.{contents}
use Rattle.algebra.proofs.Exponents.{degree-added}
use Rattle.arithmetic.specs.Truncating.{chosen, low, near}
use Rattle.sheets.specs.Ends.{made_in, made_of}
use Rattle.sheets.specs.Working.{table}
use Rattle.sheets.specs.declared.worktop.Worktop.{Worktop}
use Rattle.sheets.proofs.Changing.{not_refused}

abbrev pub low_with : {V : Type 0} → List Variable → ℕ → ℕ → ℕ → Row V → Bool
low_with vs k n d x = leb (degree (take k (unpack vs x.key)) + d) n

pub near-chosen : {V : Type 0} (vs : List Variable) (k n d : ℕ) (xs : List (Row V)) (y : Row V) → d ≡ degree (take k (unpack vs y.key)) → chosen (low_with vs k n d) xs ≡ near vs k n xs y
near-chosen vs k n d xs y e =
    let each : (x : Row _) → low_with vs k n d x ≡ low k n (added (unpack vs x.key) (unpack vs y.key)) =
    λ x. ap (λ m. low_with vs k n m x) e ∙ sym (ap (λ m. leb m n) (degree-added k (unpack vs x.key) (unpack vs y.key) (length_unpack vs x.key ∙ sym (length_unpack vs y.key)))) in
    λ i. chosen (λ x. each x i) xs

-- where all of them were accepted, the area has them
pub gathered : {V : Type 0} {G : Ghosts V} (t : Worktop V G) (answer : Result (Unit {0}) Refusal) (xs : List (Row V)) → made_of (contents t.areas) (made_in 9 answer) ≡ Ok xs → table t 9 ≡ xs
gathered t (Ok x) xs h = cc
gathered t (Err e) xs h = absurd (not_refused xs e h)
