-- All calls of a use, one after the other: at the end every place has the canonical rows of its formula, whichever formulas the calls allow, and they allow some. Assumes nothing: Settled has what is asked for here as Known.
--     after-vars, left-vars      no call changes the variables
--     allowed-first              what is allowed of calls is allowed of the first and of the others
--     runs_hold, runs_some       from a state whose places hold formulas
--     use_holds, use_some        from opening
use Rattle.std.proofs.Common.{◌≡◌, ℕ, Bool, true, false, cond, List, [], ◌∷◌, Ok, Err, Result, sym, refl, ◌∙◌, subst}
use Rattle.std.proofs.lemmas.Bool.{true≢false}
use Rattle.refusals.specs.declared.Refusal.{Refusal}
use Rattle.rings.specs.Kinds.{Kind}
use Rattle.formats.specs.declared.variable.Variable.{Variable}
use Rattle.rows.specs.declared.Row.{Row}
use Rattle.algebra.specs.Polynomials.{nought}
use Rattle.arithmetic.specs.Dividing.{Over}
use Rattle.texts.specs.Numbers.{Fault}
use Rattle.texts.specs.Reading.{Deck, read as read_text}
use Rattle.sheets.specs.Calls as call
use Rattle.sheets.specs.Calls.{divided}
use Rattle.sheets.specs.Promises.{Formulas}
use Rattle.sheets.specs.States.{State, placed, kept, opened}
use Rattle.conduct.specs.Calls.{Call, divides, answer, after, after_all, read_leaves}
use Rattle.conduct.specs.Calls.Call.{read, constant, variable, copy, negate, add, subtract, multiply, divide, differentiate, substitute, truncate, multiply_truncate, write, equal, leading}
use Rattle.conduct.specs.Formulas.{Zero}
use Rattle.conduct.specs.Uses.{Use, Allowed, Follow, Follows, left}
use Rattle.conduct.proofs.Steps.{Known, Holding, stay_holds, Steps, step}

-- ---- the variables of a sheet
module _ {V : Type 0} where
  kept-vars : (s : State V) (r : ℕ) (a : Result (List (Row V)) Refusal) → (kept s r a).vars ≡ s.vars
  kept-vars s r (Ok xs) = refl
  kept-vars s r (Err e) = refl

  read-vars : (s : State V) (r : ℕ) (t : Bool) (a : Result (Deck (List (Row V))) Fault) → (cond t (read_leaves s r a) s).vars ≡ s.vars
  read-vars s r true (Ok d) = refl
  read-vars s r true (Err e) = refl
  read-vars s r false a = refl

module _ {V : Type 0} (K : Kind V) (over : Over V) where
  after-vars : (s : State V) (c : Call) → (after K over s c).vars ≡ s.vars
  after-vars s (read r text) = read-vars s r (placed r) (read_text K s.vars s.room text)
  after-vars s (constant r a b) = kept-vars s r (call.constant K s r a b)
  after-vars s (variable r v) = kept-vars s r (call.variable K s r v)
  after-vars s (copy r p) = kept-vars s r (call.copied s r p)
  after-vars s (negate r p) = kept-vars s r (call.negated K s r p)
  after-vars s (add r p q) = kept-vars s r (call.added K s r p q)
  after-vars s (subtract r p q) = kept-vars s r (call.subtracted K s r p q)
  after-vars s (multiply r p q) = kept-vars s r (call.multiplied K s r p q)
  after-vars s (divide r p q) = kept-vars s r (divided K over s r p q)
  after-vars s (differentiate r p v) = kept-vars s r (call.differentiated K s r p v)
  after-vars s (substitute r p q v) = kept-vars s r (call.substituted K s r p q v)
  after-vars s (truncate r p k n) = kept-vars s r (call.truncated s r p k n)
  after-vars s (multiply_truncate r p q k n) = kept-vars s r (call.multiplied_truncated K s r p q k n)
  after-vars s (write p n) = refl
  after-vars s (equal p q) = refl
  after-vars s (leading p) = refl

  all_vars : (cs : List Call) (s : State V) → (after_all K over s cs).vars ≡ s.vars
  all_vars [] s = refl
  all_vars (c ∷ cs) s = all_vars cs (after K over s c) ∙ after-vars s c

  pub left-vars : (vs : List Variable) (u : Use) → (left K over vs u).vars ≡ vs
  left-vars vs u = all_vars u.calls (opened u.rows vs)

allowed-first : (may : Bool) (c : Call) (cs : List Call) → Allowed may (c ∷ cs) → (divides c ≡ true → may ≡ true) × Allowed may cs
allowed-first true c cs a = (λ _. refl, tt)
allowed-first false c cs a = (λ t. absurd (true≢false (sym t ∙ a.0)), a.1)

-- ---- from call to call
module _ {V : Type 0} (K : Kind V) (over : Over V) (vs : List Variable) (may : Bool) (known : Known K over vs may) where
  one-step : (s : State V) → s.vars ≡ vs → (f : Formulas K) → Holding K vs s.places f → (c : Call) → (divides c ≡ true → may ≡ true) → Steps K vs c f (answer K over s c) (after K over s c).places
  one-step s same f h c d =
      let path : record { room = s.room; places = s.places; vars = vs } ≡ s = λ i. record { room = s.room; places = s.places; vars = sym same i } in
      subst (λ t. Steps K vs c f (answer K over t c) (after K over t c).places) path
      (step K over vs may known s.room s.places f h c d)

  runs_hold : (cs : List Call) (s : State V) → s.vars ≡ vs → (f g : Formulas K) → Holding K vs s.places f → Allowed may cs → Follow K over vs s f cs g → Holding K vs (after_all K over s cs).places g
  runs_hold [] s same f g h a t = stay_holds K vs s.places f g h t
  runs_hold (c ∷ cs) s same f g h a t =
      let b = allowed-first may c cs a in
      runs_hold cs (after K over s c) (after-vars K over s c ∙ same) t.0 g ((one-step s same f h c b.0).0 t.0 t.1) b.1 t.2

  runs_some : (cs : List Call) (s : State V) → s.vars ≡ vs → (f : Formulas K) → Holding K vs s.places f → Allowed may cs → (g : Formulas K) × Follow K over vs s f cs g
  runs_some [] s same f h a = (f, λ o l e le. refl)
  runs_some (c ∷ cs) s same f h a =
      let b = allowed-first may c cs a in
      let n = one-step s same f h c b.0 in
      let rest = runs_some cs (after K over s c) (after-vars K over s c ∙ same) n.1.0 (n.0 n.1.0 n.1.1) b.1 in
      (rest.0, (n.1.0, n.1.1, rest.1))

  -- ---- from opening
  zero-holds : (f : Formulas K) → Zero K vs f → Holding K vs (λ _. []) f
  zero-holds f z p l = record { falling = tt; terms = tt; complete = λ e le some. absurd (some (z p l e le)) }

  pub use_holds : (u : Use) (f : Formulas K) → Follows K over vs may u f → Holding K vs (left K over vs u).places f
  use_holds u f t = runs_hold u.calls (opened u.rows vs) refl t.1.0 f (zero-holds t.1.0 t.1.1) t.0 t.1.2

  pub use_some : (u : Use) → Allowed may u.calls → (f : Formulas K) × Follows K over vs may u f
  use_some u a =
      let f : Formulas K = λ _. nought K.ops in
      let z : Zero K vs f = λ o l e le. refl in
      let r = runs_some u.calls (opened u.rows vs) refl f (zero-holds f z) a in
      (r.0, (a, (f, z, r.1)))
