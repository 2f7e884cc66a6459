-- What reading into a place promises in the words of algebra. Assumes nothing.
--     reads     it keeps that promise, whatever text is read and into whichever place, by what it answers and leaves
use Rattle.std.proofs.Common.{◌≡◌, ℕ, Bool, true, false, cond, List, Ok, Err, None, Result, sym, refl, subst}
use Rattle.refusals.specs.declared.Refusal.TheVariants.{Place}
use Rattle.rings.specs.Members.{RingLaws}
use Rattle.rings.specs.Kinds.{Kind, ValueLaws, FigureLaws}
use Rattle.rings.specs.declared.ring.Ring.{Ghosts}
use Rattle.formats.proofs.Keys.{sound}
use Rattle.algebra.specs.Tables.{meant}
use Rattle.texts.specs.Numbers as numbers
use Rattle.texts.specs.Reading.{Deck}
use Rattle.texts.proofs.Dealing.{dealing}
use Rattle.sheets.specs.States.{State, placed}
use Rattle.sheets.specs.Desks.{state}
use Rattle.sheets.specs.Promises.{Holds}
use Rattle.sheets.specs.declared.desk.Desk.{Desk}
use Rattle.sheets.proofs.Outcomes.{outcome}
use Rattle.cards.specs.Read.{Table, read_of, counted, placing, read_answer, read_leaves, Reads}
use Rattle.cards.specs.declared.reading.ReadFault.{ReadFault}

module _ {V : Type 0} {G : Ghosts V} (K : Kind V) (ring : RingLaws K.ops) (values : ValueLaws K) (writing : FigureLaws K) (s : Desk V G) (p : ℕ) (text : List ℕ) (t : State V) (a : Result ℕ ReadFault) where
  refused : (e : ReadFault) → a ≡ Err e → t ≡ state s → Reads K (state s) t p text a
  refused e is left = subst (λ x. Reads K (state s) t p text x) (sym is) (λ f holds. subst (λ x. Holds K x f) (sym left) holds)

  told : (b : Bool) (r : Result (Deck (Table V)) numbers.Fault) → read_of K (state s) text ≡ r → a ≡ cond b (counted r) (Err (record { refusal = Place; byte = None })) → t ≡ cond b (placing (state s) p r) (state s) → Reads K (state s) t p text a
  told true (Ok d) read is left =
      subst (λ x. Reads K (state s) t p text x) (sym is) (λ f holds.
      let dealt = dealing K ring values writing (state s).vars (sound s.top.format).some (state s).room d.bytes text d.table read in
      (dealt.0, dealt.1, outcome K (state s) t f p (meant K (state s).vars dealt.0) (λ _. ⊥) (Ok d.table) (Ok tt) refl left holds dealt.2))
  told true (Err f) read is left = refused _ is left
  told false r read is left = refused _ is left

  pub reads : a ≡ read_answer K (state s) p text → t ≡ read_leaves K (state s) p text → Reads K (state s) t p text a
  reads = told (placed p) (read_of K (state s) text) refl
