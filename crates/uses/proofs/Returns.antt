-- What the sheet's calls return, as answers, is what the promise speaks of. Assumes nothing.
--     told_of a          the answer of a call that changes a place and returned a
--     figures_back       the figures of a constant as they are read
--     Performed          all that performing a call ensures
--     does, stops        what is told where it was accepted, and where it was refused
--     changes            it is so of a call that changes a place
use Rattle.std.proofs.Common.{◌≡◌, ℕ, ℤ, List, length, None, Ok, Err, Result, sym, refl, ap, ◌∙◌, w64, SFits, to_z, of_z}
use Rattle.std.proofs.lemmas.Int.{to_z-of_z}
use Rattle.std.specs.Result.{IsErrAnd}
use Rattle.refusals.specs.declared.Refusal.{Refusal}
use Rattle.rings.specs.Kinds.{Kind}
use Rattle.rows.specs.declared.Row.{Row}
use Rattle.areas.specs.Areas.{answered}
use Rattle.arithmetic.specs.Dividing.{Over}
use Rattle.sheets.specs.Calls as call
use Rattle.sheets.specs.States.{State, kept}
use Rattle.cards.specs.declared.reading.ReadFault.{ReadFault}
use Rattle.conduct.specs.Calls as conduct
use Rattle.uses.specs.Answers.{answer_of}
use Rattle.uses.specs.Performing.{call_of, output_after}
use Rattle.uses.specs.declared.call.Call.{Call}
use Rattle.uses.specs.declared.call.Reply.{Reply}
use Rattle.uses.specs.declared.call.Reply.TheVariants.{Done}

abbrev pub told_of : {V : Type 0} → Result (Unit {0}) Refusal → Result (Reply V) ReadFault
told_of (Ok x) = Ok Done
told_of (Err e) = Err (record { refusal = e; byte = None })

pub changed : {V : Type 0} (a : Result (List (Row V)) Refusal) → answer_of {V = V} (told_of (answered a)) ≡ conduct.changing a
changed (Ok xs) = refl
changed (Err e) = refl

pub does : {V : Type 0} (got : Result (Unit {0}) Refusal) {x : Unit {0}} → got ≡ Ok x → Ok Done ≡ told_of {V = V} got
does got was = sym (ap told_of was)

pub stops : {V : Type 0} (got : Result (Unit {0}) Refusal) (told : Result (Reply V) ReadFault) (e : Refusal) → got ≡ Err e → IsErrAnd told (λ f. f ≡ record { refusal = e; byte = None }) → told ≡ told_of got
stops got (Ok r) e was h = absurd h
stops got (Err f) e was h = ap Err h ∙ sym (ap told_of was)

-- what is read of two figures is those
pub figures_back : {V : Type 0} (K : Kind V) (s : State V) (r : ℕ) (a b : ℤ) → SFits w64 a → SFits w64 b → call.constant K s r (to_z w64 (of_z w64 a)) (to_z w64 (of_z w64 b)) ≡ call.constant K s r a b
figures_back K s r a b x y i = call.constant K s r (to_z-of_z w64 a x i) (to_z-of_z w64 b y i)

module _ {V D : Type 0} (K : Kind V) (divides_by : Over V → Type 0) (old : State V) (out : List ℕ) where
  abbrev shown : Call D → conduct.Call
  shown c = call_of (length out) c

  -- the call c answered a, and left the state new and the output written
  pub record Performed (c : Call D) (a : Result (Reply V) ReadFault) (new : State V) (written : List ℕ) : Type 0 where
    pub answer : (over : Over V) → divides_by over → answer_of a ≡ conduct.answer K over old (shown c)
    pub leaves : (over : Over V) → divides_by over → new ≡ conduct.after K over old (shown c)
    pub output : written ≡ output_after K old (shown c) out

  -- the call c, which is d, leaves the rows of a in the place r
  pub changes : (c d : Call D) → c ≡ d → (a : Over V → Result (List (Row V)) Refusal) (r : ℕ) → ((over : Over V) → conduct.answer K over old (shown d) ≡ conduct.changing (a over)) → ((over : Over V) → conduct.after K over old (shown d) ≡ kept old r (a over)) → output_after K old (shown d) out ≡ out → (got : Result (Unit {0}) Refusal) (told : Result (Reply V) ReadFault) (new : State V) → told ≡ told_of got → ((over : Over V) → divides_by over → got ≡ answered (a over)) → ((over : Over V) → divides_by over → new ≡ kept old r (a over)) → Performed c told new out
  changes c d is a r answers leaves same got told new tells gets left = record {
    answer = λ over by. ap answer_of (tells ∙ ap told_of (gets over by)) ∙ changed (a over) ∙ sym (answers over) ∙ sym (ap (λ x. conduct.answer K over old (shown x)) is);
    leaves = λ over by. left over by ∙ sym (leaves over) ∙ sym (ap (λ x. conduct.after K over old (shown x)) is);
    output = sym same ∙ sym (ap (λ x. output_after K old (shown x) out) is);
  }
