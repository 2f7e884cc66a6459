-- What the parts of a step answer.
--     value_of n          the value of the number n at its end
--     ended m             the number that ends in the mode m, if there is one; a minus is refused, at its byte
--     understood s o      the zero at the comma o, if there is one; s tells that a number stands before it, and then there is no zero
--     begun m i           the number that a digit at index i goes on with: the one under way, or a new one, which has no digits yet
--     Lengthens n d r     r answers the number n with the digit d at its end, or refuses a nineteenth
--     counted n r         the answer r of a byte within the columns, n of which are then worked
use Rattle.std.specs.Prelude.{◌≡◌, ℕ, ◌+◌, ◌*◌, ◌<◌, ◌≤◌, Bool, true, false, ℤ, pos, Some, None, Ok, Err, Option, Result, MatchResult}
use Rattle.refusals.specs.declared.Refusal.TheVariants.{Byte, Digits}
use Rattle.texts.specs.Numbers as numbers
use Rattle.decks.specs.Shown.{fault_of, begun_of, mode_of, number_if}
use Rattle.decks.specs.declared.fault.Fault.{Fault}
use Rattle.decks.specs.declared.number.Number.{Number}
use Rattle.decks.specs.declared.begun.Begun.{Begun}
use Rattle.decks.specs.declared.card.Mode.{Mode}
use Rattle.decks.specs.declared.card.Mode.TheVariants.{Between, Sign, Within}
use Rattle.decks.specs.declared.card.Step.{Step}

abbrev pub value_of : Begun → ℤ
value_of n = (numbers.ended (begun_of n)).value

abbrev pub ended : Mode → Result (Option Number) Fault
ended Between = Ok None
ended (Sign b) = Err (record { refusal = Byte; byte = b })
ended (Within n) = Ok (Some (record { value = value_of n; first = n.first }))

abbrev pub understood : Bool → Option ℕ → Option Number
understood false (Some b) = Some (record { value = pos 0; first = b })
understood false None = None
understood true o = None

abbrev pub begun : Mode → ℕ → numbers.Begun
begun Between i = record { first = i; negative = false; digits = 0; size = 0 }
begun (Sign b) i = record { first = b; negative = true; digits = 0; size = 0 }
begun (Within n) i = begun_of n

abbrev pub Lengthens : Begun → ℕ → Result Begun Fault → Type 0
Lengthens n d r =
    MatchResult r
    (λ m. (n.digits < 18) × (begun_of m ≡ record { first = n.first; negative = n.negative; digits = n.digits + 1; size = 10 * n.size + d }))
    (λ f. (18 ≤ n.digits) × (f ≡ record { refusal = Digits; byte = n.first }))

abbrev pub counted : ℕ → Result Step Fault → Result numbers.Step numbers.Fault
counted n (Ok s) = Ok (record { card = record { columns = n; mode = mode_of s.card.mode; some = s.card.some; last = s.card.last }; number = number_if s.number })
counted n (Err f) = Err (fault_of f)
