-- Refusals with their bytes, and exponents within their fields.
--     at_byte r b       the answer r, its refusal at the byte b
--     width_at vs i     the width of the variable i, and 0 past the last
--     Exponential n w r    r answers the number n as an exponent of w bits
use Rattle.std.specs.Prelude.{◌≡◌, ℕ, ◌^◌, ◌<◌, List, pos, Ok, Err, Result, MatchResult, slice_index_or}
use Rattle.refusals.specs.declared.Refusal.{Refusal}
use Rattle.refusals.specs.declared.Refusal.TheVariants.{Exponent}
use Rattle.formats.specs.Variables.{variable}
use Rattle.formats.specs.declared.variable.Variable.{Variable}
use Rattle.decks.specs.declared.fault.Fault.{Fault}
use Rattle.decks.specs.declared.number.Number.{Number}

abbrev pub at_byte : {T : Type 0} → Result T Refusal → ℕ → Result T Fault
at_byte (Ok x) b = Ok x
at_byte (Err e) b = Err (record { refusal = e; byte = b })

abbrev pub width_at : List Variable → ℕ → ℕ
width_at vs i = (slice_index_or vs i (variable 0 0)).width

abbrev pub Exponential : Number → ℕ → Result ℕ Fault → Type 0
Exponential n w r = MatchResult r (λ e. (n.value ≡ pos e) × (e < 2 ^ w)) (λ f. (f ≡ record { refusal = Exponent; byte = n.first }) × ((e : ℕ) → n.value ≡ pos e → e < 2 ^ w → ⊥))
