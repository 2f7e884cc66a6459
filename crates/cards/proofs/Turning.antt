-- What a number makes of a term under way and of the running table, and a text worked by it byte by byte. Assumes nothing.
--     entered_refused, entered_on     a whole term that the running table refuses, and one that it takes
--     Working                         the bytes before i are worked: what is left to read gives what the whole text does
--     working-none                    none are yet
--     byte-refused, byte_turn         what a byte makes of that, where its step is refused, and where it is not
--     end_refused, end_turn           what the text's end makes of that
--     working-more                    and the byte is worked
--     refused_shown                   what is shown where a fault is handed on
--     through-fits                    a card ends within the text
use Rattle.std.proofs.Common.{◌≡◌, ℕ, suc, ◌+◌, ◌<◌, ◌≤◌, eqb, List, [], ◌∷◌, length, get_or, drop, Some, Ok, Err, Option, Result, sym, refl, ap, ◌∙◌, subst, arith}
use Rattle.std.proofs.lemmas.List.{length-drop}
use Rattle.std.specs.Prelude.{IsErr, IsErrAnd}
use Rattle.std.proofs.lemmas.Bool.{cond_both}
use Rattle.std.proofs.lemmas.Result.{err_from_is_err_and}
use Rattle.refusals.specs.declared.Refusal.{Refusal}
use Rattle.refusals.specs.declared.Refusal.TheVariants.{TextEnds}
use Rattle.rings.specs.Kinds.{Kind}
use Rattle.rings.specs.declared.ring.Ring.{Ghosts}
use Rattle.rows.specs.declared.Row.{Row}
use Rattle.algebra.specs.Tables.{Falling}
use Rattle.areas.specs.Areas.{rows_of, answered}
use Rattle.texts.specs.Numbers as numbers
use Rattle.texts.specs.Numbers.{fresh, worked, closed}
use Rattle.texts.specs.Reading.{Going, Deck, through, adding, with_got, with_step, at_byte}
use Rattle.texts.specs.Terms as terms
use Rattle.texts.specs.Terms.{taken}
use Rattle.texts.specs.Terms.Partial.{none}
use Rattle.decks.specs.Faults as faults
use Rattle.decks.specs.Shown.{fault_of, number_of, card_of, shown, partial_of, got_shown}
use Rattle.decks.specs.declared.fault.Fault.{Fault}
use Rattle.decks.specs.declared.number.Number.{Number}
use Rattle.decks.specs.declared.card.Card.{Card}
use Rattle.decks.specs.declared.card.Step.{Step}
use Rattle.decks.specs.declared.partial.Partial.{Partial}
use Rattle.decks.specs.declared.partial.Partial.TheVariants.{None as Nothing}
use Rattle.decks.specs.declared.partial.Got.{Got}
use Rattle.decks.specs.declared.partial.Got.TheVariants.{Whole}
use Rattle.decks.proofs.Turns.{Left, reading-byte, reading_end}
use Rattle.sheets.specs.States.{State}
use Rattle.sheets.specs.Desks.{state}
use Rattle.sheets.specs.Running.{running, entering}
use Rattle.sheets.specs.declared.desk.Desk.{Desk}
use Rattle.sheets.proofs.Entering.{entering-falling}
use Rattle.cards.specs.Read.{Table, goes_on, numbered, deck_shown, read_of}

-- ---- a whole term, entered
refused_so : {V : Type 0} (r : Result (Table V) Refusal) (b : ℕ) (f : Fault) → faults.at_byte (answered r) b ≡ Err f → (go : Going (Table V) V) → at_byte b r go ≡ Err (fault_of f)
refused_so (Ok xs) b f e go = absurd (let z : ◌≡◌ {A = ℕ} 0 1 = cc in omega arith)
refused_so (Err x) b f e go = let p : ◌≡◌ {A = Fault} (record { refusal = x; byte = b }) f = cc in ap (λ h. Err (fault_of h)) p

taken_so : {V : Type 0} (r : Result (Table V) Refusal) (b : ℕ) (x : Unit {0}) → faults.at_byte (answered r) b ≡ Ok x → (go : Going (Table V) V) → at_byte b r go ≡ go none (rows_of r)
taken_so (Ok xs) b x e go = refl
taken_so (Err f) b x e go = absurd (let z : ◌≡◌ {A = ℕ} 0 1 = cc in omega arith)

module _ {V : Type 0} (K : Kind V) (s : State V) (xs : Table V) (falls : Falling xs) (t : Partial V) (o : Option Number) (n : Number) (has : o ≡ Some n) (g : Result (Got V) Fault) (took : got_shown s.vars g ≡ taken K s.vars (partial_of s.vars t) (number_of n)) (x : Row V) (b : ℕ) (got : g ≡ Ok (Whole x b)) (end : ℕ) (go : Going (Table V) V) where
  whole : numbered K s xs t o end go ≡ at_byte b (entering K s.room xs x) go
  whole =
      ap (λ m. numbered K s xs t m end go) has
      ∙ ap (λ r. with_got (adding K s.room) xs end r go) (sym took ∙ ap (got_shown s.vars) got)
      ∙ ap (λ r. at_byte b r go) (sym (entering-falling K s.room xs x falls))

  pub entered_refused : (f : Fault) → faults.at_byte (answered (entering K s.room xs x)) b ≡ Err f → numbered K s xs t o end go ≡ Err (fault_of f)
  entered_refused f e = whole ∙ refused_so (entering K s.room xs x) b f e go

  pub entered_on : (u : Unit {0}) → faults.at_byte (answered (entering K s.room xs x)) b ≡ Ok u → numbered K s xs t o end go ≡ go none (rows_of (entering K s.room xs x))
  entered_on u e = whole ∙ taken_so (entering K s.room xs x) b u e go

-- ---- a text, worked from the sheet s on
module _ {V : Type 0} {G : Ghosts V} (K : Kind V) (s : Desk V G) (text : List ℕ) where
  abbrev Rest : numbers.Card → terms.Partial V → Table V → ℕ → Result (Deck (Table V)) numbers.Fault
  Rest = Left K (state s).vars (adding K (state s).room) text

  pub record Working (t : Desk V G) (card : Card) (partial : Partial V) (i : ℕ) : Type 0 where
    pub same : state t ≡ state s
    pub falls : Falling (running t)
    pub low : i ≤ length text
    pub rest : Rest (card_of card) (partial_of (state s).vars partial) (running t) i ≡ read_of K (state s) text

  pub working-none : (card : Card) → card_of card ≡ fresh → running s ≡ [] → Working s card Nothing 0
  working-none card is empty = record {
    same = refl;
    falls = subst Falling (sym empty) tt;
    low = omega arith;
    rest = λ j. Rest (is j) none (empty j) 0;
  }

-- a step of it, on a byte or at the text's end
module _ {V : Type 0} {G : Ghosts V} {K : Kind V} {s : Desk V G} {text : List ℕ} {t : Desk V G} {card : Card} {partial : Partial V} {i : ℕ} (w : Working K s text t card partial i) (r : Result Step Fault) where
  module _ (end : ℕ) (go : numbers.Card → Going (Table V) V) (a : Result numbers.Step numbers.Fault) (turn : Rest K s text (card_of card) (partial_of (state s).vars partial) (running t) i ≡ with_step K (state s).vars (adding K (state s).room) (running t) (partial_of (state s).vars partial) end a go) (stepped : shown r ≡ a) where
    so : with_step K (state s).vars (adding K (state s).room) (running t) (partial_of (state s).vars partial) end (shown r) go ≡ read_of K (state s) text
    so = ap (λ b. with_step K (state s).vars (adding K (state s).room) (running t) (partial_of (state s).vars partial) end b go) stepped ∙ sym turn ∙ w.rest

    working-refused : {f : Fault} → r ≡ Err f → Err (fault_of f) ≡ read_of K (state s) text
    working-refused is = ap (λ b. with_step K (state s).vars (adding K (state s).room) (running t) (partial_of (state s).vars partial) end (shown b) go) (sym is) ∙ so

    working_turn : {p : Step} → r ≡ Ok p → {q : Result (Option (Partial V)) Fault} (u : Desk V G) → ((n : ℕ) (via : Going (Table V) V) → goes_on (state t).vars q (running u) n via ≡ numbered K (state t) (running t) partial p.number n via) → {o : Result (Option (Partial V)) Fault} → q ≡ o → goes_on (state s).vars o (running u) end (go (card_of p.card)) ≡ read_of K (state s) text
    working_turn {p} is {q} u answer got =
        ap (λ b. goes_on (state s).vars b (running u) end (go (card_of p.card))) (sym got)
        ∙ subst (λ x. goes_on x.vars q (running u) end (go (card_of p.card)) ≡ numbered K x (running t) partial p.number end (go (card_of p.card))) w.same (answer end (go (card_of p.card)))
        ∙ ap (λ b. with_step K (state s).vars (adding K (state s).room) (running t) (partial_of (state s).vars partial) end (shown b) go) (sym is)
        ∙ so

  -- a byte
  module _ (h : i < length text) (stepped : shown r ≡ worked (card_of card) i (get_or text i 0)) where
    abbrev On : numbers.Card → Going (Table V) V
    On e u q = Rest K s text e u q (i + 1)

    byte : Rest K s text (card_of card) (partial_of (state s).vars partial) (running t) i ≡ with_step K (state s).vars (adding K (state s).room) (running t) (partial_of (state s).vars partial) (i + through (drop i text)) (worked (card_of card) i (get_or text i 0)) On
    byte = reading-byte K (state s).vars (adding K (state s).room) text (card_of card) (partial_of (state s).vars partial) (running t) i h

    pub byte-refused : {f : Fault} → r ≡ Err f → Err (fault_of f) ≡ read_of K (state s) text
    byte-refused = working-refused (i + through (drop i text)) On (worked (card_of card) i (get_or text i 0)) byte stepped

    module _ {p : Step} (is : r ≡ Ok p) {q : Result (Option (Partial V)) Fault} (u : Desk V G) (answer : (n : ℕ) (via : Going (Table V) V) → goes_on (state t).vars q (running u) n via ≡ numbered K (state t) (running t) partial p.number n via) where
      pub byte_turn : {o : Result (Option (Partial V)) Fault} → q ≡ o → goes_on (state s).vars o (running u) (i + through (drop i text)) (On (card_of p.card)) ≡ read_of K (state s) text
      byte_turn = working_turn (i + through (drop i text)) On (worked (card_of card) i (get_or text i 0)) byte stepped is u answer

      pub working-more : {v : Partial V} → q ≡ Ok (Some v) → state u ≡ state t → Falling (running u) → Working K s text u p.card v (i + 1)
      working-more got same falls = record {
        same = same ∙ w.same;
        falls = falls;
        low = omega arith;
        rest = byte_turn got;
      }

  -- the text's end
  module _ (h : length text ≤ i) (stepped : shown r ≡ closed (card_of card)) where
    abbrev Over : numbers.Card → Going (Table V) V
    Over e u q = Err (record { refusal = TextEnds; byte = length text })

    over : Rest K s text (card_of card) (partial_of (state s).vars partial) (running t) i ≡ with_step K (state s).vars (adding K (state s).room) (running t) (partial_of (state s).vars partial) (length text) (closed (card_of card)) Over
    over =
        let l = w.low in
        let e : i ≡ length text = omega arith in
        reading_end K (state s).vars (adding K (state s).room) text (card_of card) (partial_of (state s).vars partial) (running t) i h
        ∙ ap (λ n. with_step K (state s).vars (adding K (state s).room) (running t) (partial_of (state s).vars partial) n (closed (card_of card)) (λ _ _ _. Err (record { refusal = TextEnds; byte = n }))) e

    pub end_refused : {f : Fault} → r ≡ Err f → Err (fault_of f) ≡ read_of K (state s) text
    end_refused = working-refused (length text) Over (closed (card_of card)) over stepped

    pub end_turn : {p : Step} → r ≡ Ok p → {q : Result (Option (Partial V)) Fault} (u : Desk V G) → ((n : ℕ) (via : Going (Table V) V) → goes_on (state t).vars q (running u) n via ≡ numbered K (state t) (running t) partial p.number n via) → {o : Result (Option (Partial V)) Fault} → q ≡ o → goes_on (state s).vars o (running u) (length text) (Over (card_of p.card)) ≡ read_of K (state s) text
    end_turn = working_turn (length text) Over (closed (card_of card)) over stepped

-- what is shown where a fault is handed on
pub refused_shown : {V : Type 0} {f : Fault} (r : Result ℕ Fault) (xs : Table V) → IsErr r × IsErrAnd r (λ e. e ≡ f) → deck_shown r xs ≡ Err (fault_of f)
refused_shown r xs is = let p = err_from_is_err_and r is.1 in ap (λ a. deck_shown a xs) (p.1 ∙ ap Err p.2)

-- ---- where a card ends
through-few : (bs : List ℕ) → through bs ≤ length bs
through-few [] = omega arith
through-few (b ∷ bs) = let h = through-few bs in cond_both (eqb b 10) 1 (suc (through bs)) (λ n. n ≤ length (b ∷ bs)) (λ _. omega arith) (λ _. omega arith)

pub through-fits : (text : List ℕ) (i : ℕ) → i ≤ length text → i + through (drop i text) ≤ length text
through-fits text i h = let a = through-few (drop i text) in let b = length-drop i text in omega arith
