-- Calls on a sheet as values, their answers, and what they leave.
--     Call                  a call with its arguments; read brings its text, and write the bytes of its output
--     divides c             whether c is a division
--     Answer V              what a call answers: that it was accepted, with what it tells; or a refusal, a read's with its byte
--     accepted a            the call that answered so was accepted
--     changing a, telling a, leads a     the answer of a call that changes a place by its rows a, or that asks
--     read_answer a, read_leaves s r a   the answer of a read that gave a, and the state that it leaves
--     cards K s p           the cards that are written of the place p
--     answer K over s c     what c answers in the state s, where over divides coefficients
--     after K over s c      the state that it leaves
--     after_all K over s cs     the state after the calls cs, one after the other
use Rattle.std.specs.Prelude.{ℕ, Bool, true, false, cond, List, [], ◌∷◌, length, ℤ, Ok, Err, Option, Result, nat_le}
use Rattle.refusals.specs.declared.Refusal.{Refusal}
use Rattle.refusals.specs.declared.Refusal.TheVariants.{Place, Output}
use Rattle.rings.specs.Kinds.{Kind}
use Rattle.rows.specs.declared.Row.{Row}
use Rattle.arithmetic.specs.Dividing.{Over}
use Rattle.texts.specs.Decks.{deck}
use Rattle.texts.specs.Numbers.{Fault}
use Rattle.texts.specs.Reading.{Deck, read as read_text}
use Rattle.sheets.specs.Calls as call
use Rattle.sheets.specs.States.{State, placed, kept, stored}

pub data Call : Type 0 where
  read : ℕ → List ℕ → Call
  constant : ℕ → ℤ → ℤ → Call
  variable : ℕ → ℕ → Call
  copy : ℕ → ℕ → Call
  negate : ℕ → ℕ → Call
  add : ℕ → ℕ → ℕ → Call
  subtract : ℕ → ℕ → ℕ → Call
  multiply : ℕ → ℕ → ℕ → Call
  divide : ℕ → ℕ → ℕ → Call
  differentiate : ℕ → ℕ → ℕ → Call
  substitute : ℕ → ℕ → ℕ → ℕ → Call
  truncate : ℕ → ℕ → ℕ → ℕ → Call
  multiply_truncate : ℕ → ℕ → ℕ → ℕ → ℕ → Call
  write : ℕ → ℕ → Call
  equal : ℕ → ℕ → Call
  leading : ℕ → Call

abbrev pub divides : Call → Bool
divides (read r text) = false
divides (constant r a b) = false
divides (variable r v) = false
divides (copy r p) = false
divides (negate r p) = false
divides (add r p q) = false
divides (subtract r p q) = false
divides (multiply r p q) = false
divides (divide r p q) = true
divides (differentiate r p v) = false
divides (substitute r p q v) = false
divides (truncate r p k n) = false
divides (multiply_truncate r p q k n) = false
divides (write p n) = false
divides (equal p q) = false
divides (leading p) = false

pub data Answer (V : Type 0) : Type 0 where
  done : Answer V
  bytes : ℕ → Answer V
  tells : Bool → Answer V
  first : Option (Row V) → Answer V
  refused : Refusal → Answer V
  refused_at : Refusal → ℕ → Answer V

abbrev pub accepted : {V : Type 0} → Answer V → Bool
accepted done = true
accepted (bytes n) = true
accepted (tells b) = true
accepted (first r) = true
accepted (refused e) = false
accepted (refused_at e b) = false

abbrev pub changing : {V : Type 0} → Result (List (Row V)) Refusal → Answer V
changing (Ok xs) = done
changing (Err e) = refused e

abbrev telling : {V : Type 0} → Result Bool Refusal → Answer V
telling (Ok b) = tells b
telling (Err e) = refused e

abbrev leads : {V : Type 0} → Result (Option (Row V)) Refusal → Answer V
leads (Ok r) = first r
leads (Err e) = refused e

abbrev pub read_answer : {V : Type 0} → Result (Deck (List (Row V))) Fault → Answer V
read_answer (Ok d) = bytes d.bytes
read_answer (Err f) = refused_at f.refusal f.byte

abbrev pub read_leaves : {V : Type 0} → State V → ℕ → Result (Deck (List (Row V))) Fault → State V
read_leaves s r (Ok d) = stored s r d.table
read_leaves s r (Err f) = s

abbrev pub cards : {V : Type 0} → Kind V → State V → ℕ → List ℕ
cards K s p = deck K s.vars (s.places p)

module _ {V : Type 0} (K : Kind V) (over : Over V) (s : State V) where
  abbrev pub answer : Call → Answer V
  answer (read r text) = cond (placed r) (read_answer (read_text K s.vars s.room text)) (refused Place)
  answer (constant r a b) = changing (call.constant K s r a b)
  answer (variable r v) = changing (call.variable K s r v)
  answer (copy r p) = changing (call.copied s r p)
  answer (negate r p) = changing (call.negated K s r p)
  answer (add r p q) = changing (call.added K s r p q)
  answer (subtract r p q) = changing (call.subtracted K s r p q)
  answer (multiply r p q) = changing (call.multiplied K s r p q)
  answer (divide r p q) = changing (call.divided K over s r p q)
  answer (differentiate r p v) = changing (call.differentiated K s r p v)
  answer (substitute r p q v) = changing (call.substituted K s r p q v)
  answer (truncate r p k n) = changing (call.truncated s r p k n)
  answer (multiply_truncate r p q k n) = changing (call.multiplied_truncated K s r p q k n)
  answer (write p n) = cond (placed p) (cond (nat_le (length (cards K s p)) n) (bytes (length (cards K s p))) (refused Output)) (refused Place)
  answer (equal p q) = telling (call.equal_answer K s p q)
  answer (leading p) = leads (call.leading_answer s p)

  abbrev pub after : Call → State V
  after (read r text) = cond (placed r) (read_leaves s r (read_text K s.vars s.room text)) s
  after (constant r a b) = kept s r (call.constant K s r a b)
  after (variable r v) = kept s r (call.variable K s r v)
  after (copy r p) = kept s r (call.copied s r p)
  after (negate r p) = kept s r (call.negated K s r p)
  after (add r p q) = kept s r (call.added K s r p q)
  after (subtract r p q) = kept s r (call.subtracted K s r p q)
  after (multiply r p q) = kept s r (call.multiplied K s r p q)
  after (divide r p q) = kept s r (call.divided K over s r p q)
  after (differentiate r p v) = kept s r (call.differentiated K s r p v)
  after (substitute r p q v) = kept s r (call.substituted K s r p q v)
  after (truncate r p k n) = kept s r (call.truncated s r p k n)
  after (multiply_truncate r p q k n) = kept s r (call.multiplied_truncated K s r p q k n)
  after (write p n) = s
  after (equal p q) = s
  after (leading p) = s

abbrev pub after_all : {V : Type 0} → Kind V → Over V → State V → List Call → State V
after_all K over s [] = s
after_all K over s (c ∷ cs) = after_all K over (after K over s c) cs
