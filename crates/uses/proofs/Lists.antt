-- Lists of calls, one call on; and uses that go on. Assumes nothing.
--     after_more, answers-more, output-more     the state, the answers and the output after calls and then others
--     ran_none, ran_more      no call, and one call more
--     goes_on                 a use that goes on
--     Turn, turn_none, turn_more      what holds in the loop, and that it does
--     calls_allowed           a list has divisions only where there are some
use Rattle.std.proofs.Common.{◌≡◌, ℕ, ◌+◌, ◌<◌, Bool, true, false, List, [], ◌∷◌, ◌++◌, map, length, get_or, take, drop, set, Result, sym, refl, ap, ◌∙◌, subst, arith}
use Rattle.std.proofs.lemmas.Bool.{true≢false}
use Rattle.std.proofs.lemmas.List.{take_more, take_more_set, map_push, drop_more, drop-set-lt}
use Rattle.rings.specs.Kinds.{Kind}
use Rattle.formats.specs.declared.variable.Variable.{Variable}
use Rattle.arithmetic.specs.Dividing.{Over}
use Rattle.algebra.specs.Tables.{Every}
use Rattle.sheets.specs.States.{State, opened}
use Rattle.cards.specs.declared.reading.ReadFault.{ReadFault}
use Rattle.conduct.specs.Calls.{Call, Answer, divides, answer, after, after_all}
use Rattle.conduct.specs.Uses.{Allowed, Promise, left}
use Rattle.uses.specs.Answers.{answer_of}
use Rattle.uses.specs.Performing.{call_of, output_after}
use Rattle.uses.specs.Runs.{answers_all, output_all, Ran, Onward}
use Rattle.uses.specs.declared.call.Call.{Call as Given}
use Rattle.uses.specs.declared.call.Call.TheVariants.{Read, Constant, Variable as Variable', Copied, Negate, Add, Subtract, Multiply, Divide, Differentiate, Substitute, Truncate, MultiplyTruncate, Write, Equal, Leading}
use Rattle.uses.specs.declared.call.Reply.{Reply}

module _ {V : Type 0} (K : Kind V) (over : Over V) where
  pub after_more : (s : State V) (cs ds : List Call) → after_all K over s (cs ++ ds) ≡ after_all K over (after_all K over s cs) ds
  after_more s [] ds = refl
  after_more s (c ∷ cs) ds = after_more (after K over s c) cs ds

  answers-more : (s : State V) (cs ds : List Call) → answers_all K over s (cs ++ ds) ≡ answers_all K over s cs ++ answers_all K over (after_all K over s cs) ds
  answers-more s [] ds = refl
  answers-more s (c ∷ cs) ds = ap (λ l. answer K over s c ∷ l) (answers-more (after K over s c) cs ds)

  output-more : (s : State V) (cs ds : List Call) (out : List ℕ) → output_all K over s (cs ++ ds) out ≡ output_all K over (after_all K over s cs) ds (output_all K over s cs out)
  output-more s [] ds out = refl
  output-more s (c ∷ cs) ds out = output-more (after K over s c) cs ds (output_after K s c out)

  pub ran_none : (s : State V) (out : List ℕ) → Ran K over s [] out s [] out
  ran_none s out = record { leaves = refl; answers = refl; output = refl }

  pub ran_more : (s t u : State V) (cs : List Call) (c : Call) (ans : List (Answer V)) (a : Answer V) (old out new : List ℕ) → Ran K over s cs old t ans out → u ≡ after K over t c → a ≡ answer K over t c → new ≡ output_after K t c out → Ran K over s (cs ++ c ∷ []) old u (ans ++ a ∷ []) new
  ran_more s t u cs c ans a old out new before left told wrote = record {
    leaves = left ∙ ap (λ x. after K over x c) before.leaves ∙ sym (after_more s cs (c ∷ []));
    answers = (λ i. before.answers i ++ told i ∷ []) ∙ ap (λ x. answers_all K over s cs ++ answer K over x c ∷ []) before.leaves ∙ sym (answers-more s cs (c ∷ []));
    output = wrote ∙ (λ i. output_after K (before.leaves i) c (before.output i)) ∙ sym (output-more s cs (c ∷ []) old);
  }

every_more : (cs ds : List Call) → Every (λ c. divides c ≡ false) cs → Every (λ c. divides c ≡ false) ds → Every (λ c. divides c ≡ false) (cs ++ ds)
every_more [] ds h k = k
every_more (c ∷ cs) ds h k = (h.0, every_more cs ds h.1 k)

allowed-more : (may : Bool) (cs ds : List Call) → Allowed may cs → Allowed may ds → Allowed may (cs ++ ds)
allowed-more true cs ds h k = tt
allowed-more false cs ds h k = every_more cs ds h k

module _ {V : Type 0} (K : Kind V) (over : Over V) (vs : List Variable) (may : Bool) where
  pub goes_on : (s t : State V) (cs : List Call) → Promise K over vs may → Allowed may cs → t ≡ after_all K over s cs → Onward K over vs may s cs t
  goes_on s t cs promised allowed leaves = record {
    promise = promised;
    allowed = λ u h. allowed-more may u.calls cs h allowed;
    onward = λ u e. leaves ∙ ap (λ x. after_all K over x cs) e ∙ sym (after_more K over (opened u.rows vs) u.calls cs);
  }

abbrev pub Told : Type 0 → Type 0
Told V = Result (Reply V) ReadFault

module _ {V X : Type 0} (K : Kind V) (call : X → Call) (s : State V) (calls : List X) (old : List ℕ) where
  -- i calls are performed
  abbrev pub Going : Over V → ℕ → State V → List (Told V) → List ℕ → Type 0
  Going over i t told out = Ran K over s (map call (take i calls)) old t (map answer_of (take i told)) out

  pub going_more : (over : Over V) (i : ℕ) (t u : State V) (told : List (Told V)) (a : Told V) (out new : List ℕ) (x : X) → i < length calls → i < length told → x ≡ get_or calls i x → Going over i t told out → u ≡ after K over t (call x) → answer_of a ≡ answer K over t (call x) → new ≡ output_after K t (call x) out → Going over (i + 1) u (set told i a) new
  going_more over i t u told a out new x lt lt' is before leaves tells wrote =
      let cs : map call (take i calls) ++ call x ∷ [] ≡ map call (take (i + 1) calls) = sym (ap (map call) (take_more calls i x lt ∙ ap (λ y. take i calls ++ y ∷ []) (sym is)) ∙ map_push call (take i calls) x) in
      let as' : map answer_of (take i told) ++ answer_of a ∷ [] ≡ map answer_of (take (i + 1) (set told i a)) = sym (ap (map answer_of) (take_more_set told i a lt') ∙ map_push answer_of (take i told) a) in
      let P : List Call → List (Answer V) → Type 0 = λ l m. Ran K over s l old u m new in
      subst (λ l. P l (map answer_of (take (i + 1) (set told i a)))) cs (subst (P (map call (take i calls) ++ call x ∷ [])) as' (ran_more K over s t u (map call (take i calls)) (call x) (map answer_of (take i told)) (answer_of a) old out new before leaves tells wrote))

  -- by whichever quotients the calls divide; and the answers past them are as they were
  pub record Turn (divides_by : Over V → Type 0) (before : List (Told V)) (i : ℕ) (t : State V) (told : List (Told V)) (out : List ℕ) : Type 0 where
    pub ran : (over : Over V) → divides_by over → Going over i t told out
    pub others : drop i told ≡ drop i before

  pub turn_none : (divides_by : Over V → Type 0) (before : List (Told V)) → Turn divides_by before 0 s before old
  turn_none divides_by before = record { ran = λ over by. ran_none K over s old; others = refl }

  pub turn_more : (divides_by : Over V → Type 0) (before : List (Told V)) (i : ℕ) (t u : State V) (told : List (Told V)) (a : Told V) (out new : List ℕ) (x : X) → i < length calls → i < length told → i < length before → x ≡ get_or calls i x → Turn divides_by before i t told out → ((over : Over V) → divides_by over → u ≡ after K over t (call x)) → ((over : Over V) → divides_by over → answer_of a ≡ answer K over t (call x)) → new ≡ output_after K t (call x) out → Turn divides_by before (i + 1) u (set told i a) new
  turn_more divides_by before i t u told a out new x lt lt' lt'' is h leaves tells wrote = record {
    ran = λ over by. going_more over i t u told a out new x lt lt' is (h.ran over by) (leaves over by) (tells over by) wrote;
    others = drop-set-lt (i + 1) told i a (omega arith) ∙ ap (drop 1) (sym (drop_more told i a lt') ∙ h.others ∙ drop_more before i a lt'');
  }

module _ {D : Type 0} (n : ℕ) where
  undivided : (D → false ≡ true) → (c : Given D) → divides (call_of n c) ≡ false
  undivided there (Read r text) = refl
  undivided there (Constant r a b) = refl
  undivided there (Variable' r v) = refl
  undivided there (Copied r p) = refl
  undivided there (Negate r p) = refl
  undivided there (Add r p q) = refl
  undivided there (Subtract r p q) = refl
  undivided there (Multiply r p q) = refl
  undivided there (Divide r p q leave) = absurd (true≢false (sym (there leave)))
  undivided there (Differentiate r p v) = refl
  undivided there (Substitute r p q v) = refl
  undivided there (Truncate r p k m) = refl
  undivided there (MultiplyTruncate r p q k m) = refl
  undivided there (Write p) = refl
  undivided there (Equal p q) = refl
  undivided there (Leading p) = refl

  pub calls_allowed : (may : Bool) → (D → may ≡ true) → (cs : List (Given D)) → Allowed may (map (call_of n) cs)
  calls_allowed true there cs = tt
  calls_allowed false there [] = tt
  calls_allowed false there (c ∷ cs) = (undivided there c, calls_allowed false there cs)
