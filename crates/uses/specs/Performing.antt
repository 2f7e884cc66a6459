-- Performing a call.
--     call_of n c               the call c as the promise speaks of it, where n bytes of output are lent
--     output_after K s c out    the output after the call c in the state s
use Rattle.std.specs.Prelude.{ℕ, List}
use Rattle.rings.specs.Kinds.{Kind}
use Rattle.sheets.specs.States.{State}
use Rattle.cards.specs.Written.{write_leaves}
use Rattle.conduct.specs.Calls as conduct
use Rattle.conduct.specs.Calls.Call.{read, constant, variable, copy, negate, add, subtract, multiply, divide, differentiate, substitute, truncate, multiply_truncate, write, equal, leading}
use Rattle.uses.specs.declared.call.Call.{Call}
use Rattle.uses.specs.declared.call.Call.TheVariants.{Read, Constant, Variable, Copied, Negate, Add, Subtract, Multiply, Divide, Differentiate, Substitute, Truncate, MultiplyTruncate, Write, Equal, Leading}

abbrev pub call_of : {D : Type 0} → ℕ → Call D → conduct.Call
call_of n (Read r text) = read r text.now
call_of n (Constant r a b) = constant r a b
call_of n (Variable r v) = variable r v
call_of n (Copied r p) = copy r p
call_of n (Negate r p) = negate r p
call_of n (Add r p q) = add r p q
call_of n (Subtract r p q) = subtract r p q
call_of n (Multiply r p q) = multiply r p q
call_of n (Divide r p q leave) = divide r p q
call_of n (Differentiate r p v) = differentiate r p v
call_of n (Substitute r p q v) = substitute r p q v
call_of n (Truncate r p k m) = truncate r p k m
call_of n (MultiplyTruncate r p q k m) = multiply_truncate r p q k m
call_of n (Write p) = write p n
call_of n (Equal p q) = equal p q
call_of n (Leading p) = leading p

module _ {V : Type 0} (K : Kind V) (s : State V) where
  abbrev pub output_after : conduct.Call → List ℕ → List ℕ
  output_after (read r text) out = out
  output_after (constant r a b) out = out
  output_after (variable r v) out = out
  output_after (copy r p) out = out
  output_after (negate r p) out = out
  output_after (add r p q) out = out
  output_after (subtract r p q) out = out
  output_after (multiply r p q) out = out
  output_after (divide r p q) out = out
  output_after (differentiate r p v) out = out
  output_after (substitute r p q v) out = out
  output_after (truncate r p k n) out = out
  output_after (multiply_truncate r p q k n) out = out
  output_after (write p n) out = write_leaves K s p out
  output_after (equal p q) out = out
  output_after (leading p) out = out
