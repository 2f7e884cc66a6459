-- A deck, worked byte by byte into a running state.
--     through bs           how many bytes of bs there are through the end of their card, with its byte 10
--     Deck S               what a deck gives: how many bytes it has, and the state at its end
--     Entering S V         how a whole term is entered into a state, or refused
--     Going S V            what is done after a number: the work goes on with a term and a state
--     at_byte b r go       the work goes on with the state that entering a term gave, or its refusal is reported at byte b
--     with_got, with_number, with_step     the work goes on with what a number, a number or none, a byte leaves; end is where its card ends
--     reading K vs enter d t s i bs     what is read from the bytes bs, the first of which has index i, where the card stands at d, the term at t, and the state so far is s
--     adding K c           a term is added to a table: refused if a sum does not fit, or if the table then has more than c rows
--     listing              a term is put after a list of terms
--     read K vs c text     what is read from a text: its bytes and its table, or the first refusal from the left with its byte
--     dealt K vs text      the same with the terms themselves, one after the other, where nothing is added up
use Rattle.std.specs.Prelude.{ℕ, suc, ◌+◌, cond, List, [], ◌∷◌, ◌++◌, Some, None, Ok, Err, Option, Result, ◌==◌}
use Rattle.refusals.specs.declared.Refusal.{Refusal}
use Rattle.refusals.specs.declared.Refusal.TheVariants.{TextEnds}
use Rattle.rings.specs.Kinds.{Kind}
use Rattle.formats.specs.declared.variable.Variable.{Variable}
use Rattle.rows.specs.Tables.{sum, limited}
use Rattle.rows.specs.declared.Row.{Row}
use Rattle.texts.specs.Numbers.{Fault, Number, Card, Step, fresh, closed, worked}
use Rattle.texts.specs.Terms.{Partial, Got, taken}
use Rattle.texts.specs.Terms.Partial.{none}
use Rattle.texts.specs.Terms.Got.{more, whole, ends}

abbrev pub through : List ℕ → ℕ
through [] = 0
through (b ∷ bs) = cond (b == 10) 1 (suc (through bs))

pub record Deck (S : Type 0) : Type 0 where
  pub bytes : ℕ
  pub table : S

abbrev pub Entering : Type 0 → Type 0 → Type 0
Entering S V = S → Row V → Result S Refusal

abbrev pub Going : Type 0 → Type 0 → Type 0
Going S V = Partial V → S → Result (Deck S) Fault

abbrev pub at_byte : {S V : Type 0} → ℕ → Result S Refusal → Going S V → Result (Deck S) Fault
at_byte b (Ok s) go = go none s
at_byte b (Err e) go = Err (record { refusal = e; byte = b })

abbrev pub with_got : {S V : Type 0} → Entering S V → S → ℕ → Result (Got V) Fault → Going S V → Result (Deck S) Fault
with_got enter s end (Err f) go = Err f
with_got enter s end (Ok (more t)) go = go t s
with_got enter s end (Ok (whole x b)) go = at_byte b (enter s x) go
with_got enter s end (Ok ends) go = Ok (record { bytes = end; table = s })

abbrev pub with_number : {S V : Type 0} → Kind V → List Variable → Entering S V → S → Partial V → ℕ → Option Number → Going S V → Result (Deck S) Fault
with_number K vs enter s t end None go = go t s
with_number K vs enter s t end (Some n) go = with_got enter s end (taken K vs t n) go

abbrev pub with_step : {S V : Type 0} → Kind V → List Variable → Entering S V → S → Partial V → ℕ → Result Step Fault → (Card → Going S V) → Result (Deck S) Fault
with_step K vs enter s t end (Err f) go = Err f
with_step K vs enter s t end (Ok p) go = with_number K vs enter s t end p.number (go p.card)

abbrev pub reading : {S V : Type 0} → Kind V → List Variable → Entering S V → Card → Partial V → S → ℕ → List ℕ → Result (Deck S) Fault
reading K vs enter d t s i [] = with_step K vs enter s t i (closed d) (λ _ _ _. Err (record { refusal = TextEnds; byte = i }))
reading K vs enter d t s i (b ∷ bs) = with_step K vs enter s t (i + through (b ∷ bs)) (worked d i b) (λ e u r. reading K vs enter e u r (suc i) bs)

abbrev pub adding : {V : Type 0} → Kind V → ℕ → Entering (List (Row V)) V
adding K c xs x = limited c (sum K xs (x ∷ []))

abbrev pub listing : {V : Type 0} → Entering (List (Row V)) V
listing xs x = Ok (xs ++ x ∷ [])

abbrev pub read : {V : Type 0} → Kind V → List Variable → ℕ → List ℕ → Result (Deck (List (Row V))) Fault
read K vs c text = reading K vs (adding K c) fresh none [] 0 text

abbrev pub dealt : {V : Type 0} → Kind V → List Variable → List ℕ → Result (Deck (List (Row V))) Fault
dealt K vs text = reading K vs listing fresh none [] 0 text
