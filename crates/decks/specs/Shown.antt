-- What the code's values stand for among the definitions of texts.
--     fault_of, number_of, begun_of, mode_of, card_of, step_of     the same, field by field
--     number_if o           a number, if there is one
--     shown r               the answer r of a step
--     partial_of vs p       a term under way: its exponents are those in its key, by the first so many variables of vs
--     got_of vs g           what a number left
--     got_shown vs r        the answer r of a number
use Rattle.std.specs.Prelude.{List, take, Some, None, Ok, Err, Option, Result}
use Rattle.texts.specs.Numbers as numbers
use Rattle.texts.specs.Numbers.Mode.{between, sign, within}
use Rattle.formats.specs.Keys.{unpack}
use Rattle.formats.specs.declared.variable.Variable.{Variable}
use Rattle.texts.specs.Terms as terms
use Rattle.texts.specs.Terms.Partial.{none, figure, powers}
use Rattle.texts.specs.Terms.Got.{more, whole, ends}
use Rattle.decks.specs.declared.fault.Fault.{Fault}
use Rattle.decks.specs.declared.number.Number.{Number}
use Rattle.decks.specs.declared.begun.Begun.{Begun}
use Rattle.decks.specs.declared.card.Mode.{Mode}
use Rattle.decks.specs.declared.card.Mode.TheVariants.{Between, Sign, Within}
use Rattle.decks.specs.declared.card.Card.{Card}
use Rattle.decks.specs.declared.card.Step.{Step}
use Rattle.decks.specs.declared.partial.Partial.{Partial}
use Rattle.decks.specs.declared.partial.Partial.TheVariants.{None as Nothing, Figure, Powers}
use Rattle.decks.specs.declared.partial.Got.{Got}
use Rattle.decks.specs.declared.partial.Got.TheVariants.{More, Whole, Ends}

abbrev pub fault_of : Fault → numbers.Fault
fault_of f = record { refusal = f.refusal; byte = f.byte }

abbrev pub number_of : Number → numbers.Number
number_of n = record { value = n.value; first = n.first }

abbrev pub begun_of : Begun → numbers.Begun
begun_of n = record { first = n.first; negative = n.negative; digits = n.digits; size = n.size }

abbrev pub mode_of : Mode → numbers.Mode
mode_of Between = between
mode_of (Sign b) = sign b
mode_of (Within n) = within (begun_of n)

abbrev pub card_of : Card → numbers.Card
card_of c = record { columns = c.columns; mode = mode_of c.mode; some = c.some; last = c.last }

abbrev pub number_if : Option Number → Option numbers.Number
number_if None = None
number_if (Some n) = Some (number_of n)

abbrev pub step_of : Step → numbers.Step
step_of s = record { card = card_of s.card; number = number_if s.number }

abbrev pub shown : Result Step Fault → Result numbers.Step numbers.Fault
shown (Ok s) = Ok (step_of s)
shown (Err f) = Err (fault_of f)

-- ---- terms
abbrev pub partial_of : {V : Type 0} → List Variable → Partial V → terms.Partial V
partial_of vs Nothing = none
partial_of vs (Figure a b) = figure a b
partial_of vs (Powers p) = powers p.coefficient p.first (unpack (take p.count vs) p.key)

abbrev pub got_of : {V : Type 0} → List Variable → Got V → terms.Got V
got_of vs (More p) = more (partial_of vs p)
got_of vs (Whole x b) = whole x b
got_of vs Ends = ends

abbrev pub got_shown : {V : Type 0} → List Variable → Result (Got V) Fault → Result (terms.Got V) numbers.Fault
got_shown vs (Ok g) = Ok (got_of vs g)
got_shown vs (Err f) = Err (fault_of f)
