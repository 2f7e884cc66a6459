-- The numbers on cards, worked byte by byte. Bytes are counted from 0.
--     Class, class b        what a byte is: a blank, a comma, a minus, a digit, or any other
--     Fault                 a refusal, and the byte that it reports
--     Number                a number that has ended: its value and its first byte
--     Begun                 a number under way: its first byte, whether a minus leads it, how many digits it has, and what they make
--     Mode                  between numbers, after a minus, or in a number
--     Card                  where the work stands on a card: the columns worked, the mode, whether a number stands since the last comma or the card's start, and the last comma's byte
--     fresh                 at the start of a card
--     ended n               the number that n has become at its end
--     nought b              an understood zero, whose byte is b
--     Step                  what a byte leaves: the card, and a number if one has ended
--     closed c              the card c at its end: a number there ends; a comma without a number after it has an understood zero
--     beyond c              a byte past column 72: a number that was under way has ended, and nothing else matters
--     on_blank, on_comma, on_minus, on_digit, on_other     a byte of each class within the 72 columns
--     classed q c i         a byte of the class q, within the 72 columns
--     worked c i b          the card c after the byte b at index i
use Rattle.std.specs.Prelude.{ℕ, ◌+◌, ◌-◌, ◌*◌, Bool, true, false, cond, ℤ, pos, neg_ℤ, Some, None, Ok, Err, Option, Result, ◌==◌, nat_le, nat_lt}
use Rattle.refusals.specs.declared.Refusal.{Refusal}
use Rattle.refusals.specs.declared.Refusal.TheVariants.{Byte, Digits}

pub data Class : Type 0 where
  blank : Class
  comma : Class
  minus : Class
  digit : ℕ → Class
  other : Class

abbrev pub class : ℕ → Class
class b = cond (b == 32) blank (cond (b == 44) comma (cond (b == 45) minus (cond (nat_le 48 b) (cond (nat_le b 57) (digit (b - 48)) other) other)))

pub record Fault : Type 0 where
  pub refusal : Refusal
  pub byte : ℕ

pub record Number : Type 0 where
  pub value : ℤ
  pub first : ℕ

pub record Begun : Type 0 where
  pub first : ℕ
  pub negative : Bool
  pub digits : ℕ
  pub size : ℕ

pub data Mode : Type 0 where
  between : Mode
  sign : ℕ → Mode
  within : Begun → Mode

pub record Card : Type 0 where
  pub columns : ℕ
  pub mode : Mode
  pub some : Bool
  pub last : Option ℕ

abbrev pub fresh : Card
fresh = record { columns = 0; mode = between; some = false; last = None }

abbrev pub ended : Begun → Number
ended n = record { value = cond n.negative (neg_ℤ (pos n.size)) (pos n.size); first = n.first }

abbrev pub nought : ℕ → Number
nought b = record { value = pos 0; first = b }

pub record Step : Type 0 where
  pub card : Card
  pub number : Option Number

abbrev refused : Refusal → ℕ → Result Step Fault
refused e b = Err (record { refusal = e; byte = b })

abbrev left : Card → Option Number → Result Step Fault
left c n = Ok (record { card = c; number = n })

-- the card after one more column, with what has changed of it
abbrev next : Card → Mode → Bool → Option ℕ → Card
next c m s l = record { columns = c.columns + 1; mode = m; some = s; last = l }

abbrev after_last : Option ℕ → Bool → Option Number
after_last (Some b) false = Some (nought b)
after_last (Some b) true = None
after_last None s = None

abbrev close : Mode → Card → Result Step Fault
close between c = left fresh (after_last c.last c.some)
close (sign b) c = refused Byte b
close (within n) c = left fresh (Some (ended n))

abbrev pub closed : Card → Result Step Fault
closed c = close c.mode c

-- a card whose number has ended past its columns
abbrev done : Card → Card
done c = record { columns = c.columns; mode = between; some = true; last = c.last }

abbrev cut : Mode → Card → Result Step Fault
cut between c = left c None
cut (sign b) c = refused Byte b
cut (within n) c = left (done c) (Some (ended n))

abbrev pub beyond : Card → Result Step Fault
beyond c = cut c.mode c

abbrev pub on_blank : Mode → Card → ℕ → Result Step Fault
on_blank between c i = left (next c between c.some c.last) None
on_blank (sign b) c i = refused Byte b
on_blank (within n) c i = left (next c between true c.last) (Some (ended n))

abbrev pub on_comma : Mode → Card → ℕ → Result Step Fault
on_comma between c i = left (next c between false (Some i)) (cond c.some None (Some (nought i)))
on_comma (sign b) c i = refused Byte b
on_comma (within n) c i = left (next c between false (Some i)) (Some (ended n))

abbrev pub on_minus : Mode → Card → ℕ → Result Step Fault
on_minus between c i = left (next c (sign i) c.some c.last) None
on_minus (sign b) c i = refused Byte b
on_minus (within n) c i = refused Byte i

abbrev begun : ℕ → Bool → ℕ → Mode
begun b s d = within (record { first = b; negative = s; digits = 1; size = d })

abbrev longer : Begun → ℕ → Mode
longer n d = within (record { first = n.first; negative = n.negative; digits = n.digits + 1; size = 10 * n.size + d })

abbrev pub on_digit : Mode → Card → ℕ → ℕ → Result Step Fault
on_digit between c i d = left (next c (begun i false d) c.some c.last) None
on_digit (sign b) c i d = left (next c (begun b true d) c.some c.last) None
on_digit (within n) c i d = cond (nat_lt n.digits 18) (left (next c (longer n d) c.some c.last) None) (refused Digits n.first)

abbrev pub on_other : Mode → Card → ℕ → Result Step Fault
on_other between c i = refused Byte i
on_other (sign b) c i = refused Byte b
on_other (within n) c i = refused Byte i

abbrev pub classed : Class → Card → ℕ → Result Step Fault
classed blank c i = on_blank c.mode c i
classed comma c i = on_comma c.mode c i
classed minus c i = on_minus c.mode c i
classed (digit d) c i = on_digit c.mode c i d
classed other c i = on_other c.mode c i

abbrev pub worked : Card → ℕ → ℕ → Result Step Fault
worked c i b = cond (b == 10) (closed c) (cond (nat_lt c.columns 72) (classed (class b) c i) (beyond c))
