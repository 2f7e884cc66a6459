-- What a call leaves, and what that means in the words of algebra. Assumes nothing.
--     two_placed, three_placed      the test of places, where all are places
--     apart_areas                   the test of areas, where they are apart
--     place-table, place-found      the table of a place is that of its area
--     Ended s u r a answer          the call that answered took the sheet s to u: it was to leave the rows of a in the place r
--     SameWorking s u               the working areas of u hold what those of s do
--     both-blank, wrote-same        as where both are blank, and where only a place was written
--     ends, written                 a call that finished what it had made; one that wrote to its place at once
--     written_one                   and one that wrote one row there
--     only-first, settled_free, settled_ends, settled_same    one that settled what it had made in the first working area, and used no other
--     named                         the place was told by its number
--     passing                       with a test before it, whose refusal is x
--     tested                        with the test of places before it
--     outcome                       what a call leaves has the formula that its rows have
--     theory                        the arithmetic of tables, for the format of a sheet
use Rattle.std.proofs.Common.{◌≡◌, ℕ, ◌<◌, ◌≤◌, Bool, true, false, cond, eqb, ltb, List, [], ◌∷◌, length, Ok, Err, Result, sym, refl, ap, ◌∙◌, subst, subst₂, ⊎_elim, arith}
use Rattle.std.proofs.lemmas.List.{nil_from_length}
use Rattle.std.proofs.lemmas.Bool.{cases_eq, ltb-true, lt-ltb, ne_eqb, and_from, not_from_false, eq-eqb, cond-true, cond-false}
use Rattle.refusals.specs.declared.Refusal.{Refusal}
use Rattle.refusals.specs.declared.Refusal.TheVariants.{Place, Rows}
use Rattle.rings.specs.Members.{RingLaws}
use Rattle.rings.specs.Kinds.{Kind, ValueLaws}
use Rattle.rings.specs.declared.ring.Ring.{Ghosts}
use Rattle.formats.specs.Drafts.{variables}
use Rattle.formats.specs.declared.variable.Variable.{Variable}
use Rattle.formats.proofs.Keys.{sound}
use Rattle.rows.specs.Tables.{limited}
use Rattle.rows.specs.declared.Row.{Row}
use Rattle.algebra.specs.Polynomials.{Poly}
use Rattle.algebra.specs.Tables.{CanonicalRows}
use Rattle.arithmetic.specs.Theorems.{Gives, TableArithmetic}
use Rattle.arithmetic.proofs.Meaning.{table_arithmetic_lem}
use Rattle.areas.specs.Areas.{Contents, contents, storing, rows_of, answered, apart}
use Rattle.sheets.specs.States.{State, seen, stored, kept}
use Rattle.sheets.specs.Worktops.{state, Blank, Free}
use Rattle.sheets.specs.Calls.{both_placed, all_placed}
use Rattle.sheets.specs.Ends.{made_in, ended, finished, brought, Making}
use Rattle.sheets.specs.Promises.{Formulas, Holds, Outcome}
use Rattle.sheets.specs.declared.worktop.Worktop.{Worktop}
use Rattle.sheets.proofs.States.{table-there, table-other, seen-working, seen-place, few-rows, making_ended, making_kept}

-- ---- tests
pub two_placed : (r p : ℕ) → r < 8 → p < 8 → both_placed r p ≡ true
two_placed r p hr hp = and_from _ _ (lt-ltb r 8 hr) (lt-ltb p 8 hp)

pub three_placed : (r p q : ℕ) → r < 8 → p < 8 → q < 8 → all_placed r p q ≡ true
three_placed r p q hr hp hq = and_from _ _ (lt-ltb r 8 hr) (two_placed p q hp hq)

pub apart_areas : (t a b : ℕ) → t < 12 → a < 12 → b < 12 → (t ≡ a → ⊥) → (t ≡ b → ⊥) → apart t a b ≡ true
apart_areas t a b ht ha hb na nb =
    and_from _ _ (and_from _ _ (lt-ltb t 12 ht) (and_from _ _ (lt-ltb a 12 ha) (lt-ltb b 12 hb))) (and_from _ _ (not_from_false _ (ne_eqb t a na)) (not_from_false _ (ne_eqb t b nb)))

pub place-table : {V : Type 0} {G : Ghosts V} (s : Worktop V G) (p : ℕ) → p < 8 → (state s).places p ≡ (contents s.areas).tables p
place-table s p h = cond-true _ _ _ (lt-ltb p 8 h)

-- the area a is that of the place n
pub place-found : {V : Type 0} {G : Ghosts V} (s : Worktop V G) (a n : ℕ) → (a ≡ n) × (n < 8) → (contents s.areas).tables a ≡ (state s).places n
place-found s a n is = ap (contents s.areas).tables is.0 ∙ sym (place-table s n is.1)

-- ---- the end of a call
pub record Ended {V : Type 0} {G : Ghosts V} (s u : Worktop V G) (r : ℕ) (a : Result (List (Row V)) Refusal) (answer : Result (Unit {0}) Refusal) : Type 0 where
  pub answers : answer ≡ answered a
  pub leaves : state u ≡ kept (state s) r a
  pub blank : Blank s → Blank u
  pub long : (contents u.areas).lent ≡ (contents s.areas).lent

-- settled, the first working area is empty
pub settled_free : {V : Type 0} (c : Contents V) (r : ℕ) (w : Result (Unit {0}) Refusal) → (brought c r w).tables 8 ≡ []
settled_free c r (Ok x) = table-there (storing c r (c.tables 8)) 8 [] (omega arith)
settled_free c r (Err e) = table-there c 8 [] (omega arith)

abbrev pub SameWorking : {V : Type 0} {G : Ghosts V} → Worktop V G → Worktop V G → Type 0
SameWorking s u = (a : ℕ) → 8 ≤ a → a < 12 → (contents u.areas).tables a ≡ (contents s.areas).tables a

pub both-blank : {V : Type 0} {G : Ghosts V} (s u : Worktop V G) → Blank s → Blank u → SameWorking s u
both-blank s u b d a low high = d a low high ∙ sym (b a low high)

still-blank : {V : Type 0} {G : Ghosts V} (s u : Worktop V G) → SameWorking s u → Blank s → Blank u
still-blank s u same b a low high = same a low high ∙ b a low high

-- a place that has those rows already
stored_same : {V : Type 0} (s : State V) (r : ℕ) (xs : List (Row V)) → s.places r ≡ xs → stored s r xs ≡ s
stored_same s r xs is =
    let place : (p : ℕ) → cond (eqb p r) xs (s.places p) ≡ s.places p = λ p. ⊎_elim (λ e. cond-true _ _ _ (eq-eqb p r e) ∙ sym (ap s.places e ∙ is)) (λ ne. cond-false _ _ _ (ne_eqb p r ne)) (cases_eq p r) in
    λ i. record { room = s.room; places = λ p. place p i; vars = s.vars }

module _ {V : Type 0} {G : Ghosts V} (s : Worktop V G) where
  pub ends : (n : ℕ) → 8 ≤ n → (t u : Worktop V G) (r : ℕ) (a : Result (List (Row V)) Refusal) (made : Result ℕ Refusal) (answer : Result (Unit {0}) Refusal) → Making n s t a made → answer ≡ ended made → state u ≡ finished (state t) (contents t.areas) r made → Blank u → (contents u.areas).lent ≡ (contents t.areas).lent → Ended s u r a answer
  ends n h t u r a made answer m answers leaves blank long = record {
    answers = answers ∙ making_ended n h s t a made m;
    leaves = leaves ∙ making_kept n h s t a made m r;
    blank = λ b. blank;
    long = long ∙ m.lent;
  }

  pub wrote-same : (u : Worktop V G) (r : ℕ) (xs : List (Row V)) → r < 8 → contents u.areas ≡ storing (contents s.areas) r xs → SameWorking s u
  wrote-same u r xs h is a low high = ap (λ c. c.tables a) is ∙ table-other (contents s.areas) r xs a (λ e. omega arith)

  pub written : (u : Worktop V G) (r : ℕ) (xs : List (Row V)) → r < 8 → contents u.areas ≡ storing (contents s.areas) r xs → u.format ≡ s.format → Ended s u r (Ok xs) (Ok tt)
  written u r xs h is format = record {
    answers = refl;
    leaves = (λ i. seen (is i) (variables (format i))) ∙ seen-place (contents s.areas) (variables s.format) r xs h;
    blank = still-blank s u (wrote-same u r xs h is);
    long = ap (λ c. c.lent) is;
  }

  -- a pass that left a table in the first working area
  pub only-first : (t : Worktop V G) (a : Result (List (Row V)) Refusal) → contents t.areas ≡ storing (contents s.areas) 8 (rows_of a) → (o : ℕ) → 8 < o → o < 12 → (contents t.areas).tables o ≡ (contents s.areas).tables o
  only-first t a is o low high = ap (λ c. c.tables o) is ∙ table-other (contents s.areas) 8 (rows_of a) o (λ e. omega arith)

  -- one row, written to its place
  pub written_one : (u : Worktop V G) (r : ℕ) (x : Row V) (answer : Result (Unit {0}) Refusal) → r < 8 → contents u.areas ≡ storing (contents s.areas) r (rows_of (limited (state s).room (Ok (x ∷ [])))) → u.format ≡ s.format → answer ≡ answered (limited (state s).room (Ok (x ∷ []))) → Ended s u r (limited (state s).room (Ok (x ∷ []))) answer
  written_one u r x answer h is format answers = record {
    answers = answers;
    leaves = (λ i. seen (is i) (variables (format i))) ∙ seen-place (contents s.areas) (variables s.format) r (rows_of (limited (state s).room (Ok (x ∷ [])))) h ∙ leaving (ltb (state s).room 1) refl;
    blank = still-blank s u (wrote-same u r (rows_of (limited (state s).room (Ok (x ∷ [])))) h is);
    long = ap (λ c. c.lent) is;
  }
    where
      -- where there is no room for a row, the place has none
      leaving : (t : Bool) → ltb (state s).room 1 ≡ t → stored (state s) r (rows_of (cond t (Err Rows) (Ok (x ∷ [])))) ≡ kept (state s) r (cond t (Err Rows) (Ok (x ∷ [])))
      leaving true e =
          let full = ltb-true (state s).room 1 e in
          let few = few-rows s r in
          let none : (state s).places r ≡ [] = nil_from_length ((state s).places r) (omega arith) in
          stored_same (state s) r [] none
      leaving false e = refl

  -- what was made in the first working area, no other of which was used, in its place
  module _ (t u : Worktop V G) (r : ℕ) (h : r < 8) (a : Result (List (Row V)) Refusal) (answer : Result (Unit {0}) Refusal) (m : Making 8 s t a (made_in 8 answer)) (is : contents u.areas ≡ brought (contents t.areas) r answer) (format : u.format ≡ t.format) where
    pub settled_same : Free s → ((o : ℕ) → 8 < o → o < 12 → (contents t.areas).tables o ≡ (contents s.areas).tables o) → SameWorking s u
    settled_same free others o low high =
        ap (λ c. c.tables o) is
        ∙ ⊎_elim (λ e. ap (brought (contents t.areas) r answer).tables e ∙ settled_free (contents t.areas) r answer ∙ sym (ap (contents s.areas).tables e ∙ free))
        (λ ne. spared answer ne ∙ others o (omega arith) high)
        (cases_eq o 8)
      where
        spared : (w : Result (Unit {0}) Refusal) → (o ≡ 8 → ⊥) → (brought (contents t.areas) r w).tables o ≡ (contents t.areas).tables o
        spared (Ok x) ne = table-other (storing (contents t.areas) r ((contents t.areas).tables 8)) 8 [] o ne ∙ table-other (contents t.areas) r ((contents t.areas).tables 8) o (λ e. omega arith)
        spared (Err e) ne = table-other (contents t.areas) 8 [] o ne

    pub settled_ends : (told : Result (Unit {0}) Refusal) → told ≡ answer → Free s → ((o : ℕ) → 8 < o → o < 12 → (contents t.areas).tables o ≡ (contents s.areas).tables o) → Ended s u r a told
    settled_ends told is-told free others = record {
      answers = is-told ∙ sym (ended-made answer) ∙ making_ended 8 (omega arith) s t a (made_in 8 answer) m;
      leaves = (λ i. seen (is i) (variables (format i))) ∙ in-place answer ∙ making_kept 8 (omega arith) s t a (made_in 8 answer) m r;
      blank = still-blank s u (settled_same free others);
      long = ap (λ c. c.lent) is ∙ as-long answer ∙ m.lent;
    }
      where
        ended-made : (w : Result (Unit {0}) Refusal) → ended (made_in 8 w) ≡ w
        ended-made (Ok tt) = refl
        ended-made (Err e) = refl

        as-long : (w : Result (Unit {0}) Refusal) → (brought (contents t.areas) r w).lent ≡ (contents t.areas).lent
        as-long (Ok x) = refl
        as-long (Err e) = refl

        in-place : (w : Result (Unit {0}) Refusal) → seen (brought (contents t.areas) r w) (variables t.format) ≡ finished (state t) (contents t.areas) r (made_in 8 w)
        in-place (Ok x) = seen-working (storing (contents t.areas) r ((contents t.areas).tables 8)) (variables t.format) 8 [] (omega arith) ∙ seen-place (contents t.areas) (variables t.format) r ((contents t.areas).tables 8) h
        in-place (Err e) = seen-working (contents t.areas) (variables t.format) 8 [] (omega arith)

  -- the place was told by its number
  pub named : (u : Worktop V G) (r n : ℕ) (a : Result (List (Row V)) Refusal) (answer : Result (Unit {0}) Refusal) → (r ≡ n) × (n < 8) → Ended s u r a answer → Ended s u n a answer
  named u r n a answer is = subst (λ p. Ended s u p a answer) is.0

  pub passing : (u : Worktop V G) (r : ℕ) (a : Result (List (Row V)) Refusal) (answer : Result (Unit {0}) Refusal) (x : Refusal) (t : Bool) → t ≡ true → Ended s u r a answer → Ended s u r (cond t a (Err x)) answer
  passing u r a answer x t e = subst (λ z. Ended s u r z answer) (sym (cond-true t a (Err x) e))

  pub tested : (u : Worktop V G) (r : ℕ) (a : Result (List (Row V)) Refusal) (answer : Result (Unit {0}) Refusal) (t : Bool) → t ≡ true → Ended s u r a answer → Ended s u r (cond t a (Err Place)) answer
  tested u r a answer t = passing u r a answer Place t

-- ---- algebra
module _ {V : Type 0} (K : Kind V) where
  chosen : (vs : List Variable) (p q : Poly K.ops) (xs ys : List (Row V)) → CanonicalRows K vs p xs → CanonicalRows K vs q ys → (t : Bool) → CanonicalRows K vs (cond t p q) (cond t xs ys)
  chosen vs p q xs ys hp hq true = hp
  chosen vs p q xs ys hp hq false = hq

  left : (s : State V) (f : Formulas K) (r : ℕ) (p : Poly K.ops) (Bad : Refusal → Type 0) → Holds K s f → (a : Result (List (Row V)) Refusal) → Gives K s.vars p Bad a → Outcome K (kept s r a) f r p Bad (answered a)
  left s f r p Bad h (Ok xs) gives = λ o l. pointwise o l (eqb o r)
    where
      pointwise : (o : ℕ) → o < 8 → (t : Bool) → CanonicalRows K s.vars (λ e. cond t p (f o) e) (cond t xs (s.places o))
      pointwise o l t = chosen s.vars p (f o) xs (s.places o) gives (h o l) t
  left s f r p Bad h (Err e) gives = (h, gives)

  pub outcome : (s t : State V) (f : Formulas K) (r : ℕ) (p : Poly K.ops) (Bad : Refusal → Type 0) (a : Result (List (Row V)) Refusal) (answer : Result (Unit {0}) Refusal) → answer ≡ answered a → t ≡ kept s r a → Holds K s f → Gives K s.vars p Bad a → Outcome K t f r p Bad answer
  outcome s t f r p Bad a answer e l h gives = subst₂ (λ u x. Outcome K u f r p Bad x) (sym l) (sym e) (left s f r p Bad h a gives)

  pub theory : {G : Ghosts V} → RingLaws K.ops → ValueLaws K → (s : Worktop V G) → TableArithmetic K (state s).vars (state s).room
  theory ring laws s = table_arithmetic_lem K ring laws (variables s.format) (state s).room (sound s.format)
