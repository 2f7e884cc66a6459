-- Reading a deck into a place of a sheet.
--     Table V                     the rows of a table
--     goes_on vs r s end go       how the reading goes on where a number left r of the term, and the running table s: as go says with that term; to its end, where the deck's last card ends at byte end; or to its refusal
--     numbered K s xs t o end go     the same by the definitions of texts: the number of o, if there is one, is taken into the term t, and a whole term is added to the table xs, by the variables and the room of the state s
--     deck_shown r s              what is read, where r is answered and the running table is s
--     read_of K s text            what is read from a text, by the variables and the room of the state s
--     counted r                   how many bytes were read, or the refusal with its byte
--     read_answer K s p text      what reading into the place p answers; a bad place is refused first
--     placing s p r               the state s with the table that was read in the place p, and s itself after a refusal
--     read_leaves K s p text      the state after it
--     Reads K s t p text a        reading answered a and left the state t: accepted, the place p has the sum of the deck's terms for its formula and every other place the same as before; refused, every place has
use Rattle.std.specs.Prelude.{◌≡◌, ℕ, cond, List, Some, None, Ok, Err, Option, Result}
use Rattle.refusals.specs.declared.Refusal.TheVariants.{Place}
use Rattle.rings.specs.Kinds.{Kind}
use Rattle.formats.specs.declared.variable.Variable.{Variable}
use Rattle.rows.specs.declared.Row.{Row}
use Rattle.algebra.specs.Tables.{meant}
use Rattle.texts.specs.Numbers as numbers
use Rattle.texts.specs.Reading.{Deck, Going, with_number, adding, read, dealt}
use Rattle.decks.specs.Shown.{fault_of, number_if, partial_of}
use Rattle.decks.specs.declared.fault.Fault.{Fault}
use Rattle.decks.specs.declared.number.Number.{Number}
use Rattle.decks.specs.declared.partial.Partial.{Partial}
use Rattle.sheets.specs.States.{State, placed, stored}
use Rattle.sheets.specs.Promises.{Formulas, Holds, giving}
use Rattle.cards.specs.declared.reading.ReadFault.{ReadFault}

abbrev pub Table : Type 0 → Type 0
Table V = List (Row V)

abbrev pub goes_on : {V : Type 0} → List Variable → Result (Option (Partial V)) Fault → Table V → ℕ → Going (Table V) V → Result (Deck (Table V)) numbers.Fault
goes_on vs (Ok (Some t)) s end go = go (partial_of vs t) s
goes_on vs (Ok None) s end go = Ok (record { bytes = end; table = s })
goes_on vs (Err f) s end go = Err (fault_of f)

abbrev pub numbered : {V : Type 0} → Kind V → State V → Table V → Partial V → Option Number → ℕ → Going (Table V) V → Result (Deck (Table V)) numbers.Fault
numbered K s xs t o end go = with_number K s.vars (adding K s.room) xs (partial_of s.vars t) end (number_if o) go

abbrev pub deck_shown : {V : Type 0} → Result ℕ Fault → Table V → Result (Deck (Table V)) numbers.Fault
deck_shown (Ok n) s = Ok (record { bytes = n; table = s })
deck_shown (Err f) s = Err (fault_of f)

abbrev pub read_of : {V : Type 0} → Kind V → State V → List ℕ → Result (Deck (Table V)) numbers.Fault
read_of K s text = read K s.vars s.room text

abbrev pub counted : {V : Type 0} → Result (Deck (Table V)) numbers.Fault → Result ℕ ReadFault
counted (Ok d) = Ok d.bytes
counted (Err f) = Err (record { refusal = f.refusal; byte = Some f.byte })

abbrev pub read_answer : {V : Type 0} → Kind V → State V → ℕ → List ℕ → Result ℕ ReadFault
read_answer K s p text = cond (placed p) (counted (read_of K s text)) (Err (record { refusal = Place; byte = None }))

abbrev pub placing : {V : Type 0} → State V → ℕ → Result (Deck (Table V)) numbers.Fault → State V
placing s p (Ok d) = stored s p d.table
placing s p (Err f) = s

abbrev pub read_leaves : {V : Type 0} → Kind V → State V → ℕ → List ℕ → State V
read_leaves K s p text = cond (placed p) (placing s p (read_of K s text)) s

abbrev Outcome : {V : Type 0} (K : Kind V) → State V → State V → ℕ → List ℕ → Formulas K → Result ℕ ReadFault → Type 0
Outcome {V} K s t p text f (Ok n) = (ts : Table V) × (dealt K s.vars text ≡ Ok (record { bytes = n; table = ts })) × Holds K t (giving K f p (meant K s.vars ts))
Outcome K s t p text f (Err e) = Holds K t f

abbrev pub Reads : {V : Type 0} (K : Kind V) → State V → State V → ℕ → List ℕ → Result ℕ ReadFault → Type 0
Reads K s t p text a = (f : Formulas K) → Holds K s f → Outcome K s t p text f a
