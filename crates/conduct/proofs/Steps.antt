-- One call on a sheet. Where every place has the canonical rows of its formula before the call, every place has after it, whichever formulas the call allows; and it allows some. Assumes nothing: Settled has what is asked for here as Known.
--     Holding ps f        the tables ps of the places are the canonical rows of the formulas f
--     Allows c r f x      the call c takes the formulas f to those with x for the place r, and to no others
--     Making c r f xs     the rows xs that the call c made for the place r are those of a polynomial, and c allows that one there
--     Steps c f a ps      the call c, which answered a and left the tables ps: they hold whichever formulas it allows, and it allows some
--     Known K over vs may     the theorems that calls rest on
--     step                each call
use Rattle.std.proofs.Common.{◌≡◌, ℕ, ◌<◌, Bool, true, false, cond, eqb, ltb, leb, List, [], ◌∷◌, length, ℤ, Ok, Err, Result, sym, refl, ap, ◌∙◌, subst, ⊎_elim, arith}
use Rattle.std.proofs.lemmas.Bool.{eqb-true, eqb-false, eq-eqb, ne_eqb, ltb-true, and_parts, cond-true, cond-false, cond_both, cases_Bool}
use Rattle.refusals.specs.declared.Refusal.{Refusal}
use Rattle.refusals.specs.declared.Refusal.TheVariants.{Place, Variable as NotInFormat, Prefix, ZeroDivisor}
use Rattle.rings.specs.Members.{RingLaws, NoZeroDivisors}
use Rattle.rings.specs.Kinds.{Kind, ValueLaws, FigureLaws}
use Rattle.formats.specs.Drafts.{Sound}
use Rattle.formats.specs.Keys.{unit}
use Rattle.formats.specs.declared.variable.Variable.{Variable}
use Rattle.rows.specs.Tables.{sum, limited}
use Rattle.rows.specs.declared.Row.{Row}
use Rattle.algebra.specs.Polynomials as poly
use Rattle.algebra.specs.Polynomials.{Poly, Agree, nought}
use Rattle.algebra.specs.Tables.{CanonicalRows, meant}
use Rattle.algebra.proofs.Dividing.{dividing}
use Rattle.algebra.proofs.Substituting.{substituting}
use Rattle.algebra.proofs.Tabling.{rows_agree, tabling}
use Rattle.arithmetic.specs.Deriving.{derived}
use Rattle.arithmetic.specs.Multiplying.{product}
use Rattle.arithmetic.specs.Negating.{negated, subtracted}
use Rattle.arithmetic.specs.Truncating.{truncated, product_truncated}
use Rattle.arithmetic.specs.Dividing.{Over, quotient}
use Rattle.arithmetic.specs.Quotients.{Divided, Quotients}
use Rattle.arithmetic.specs.Substituting.{substituted}
use Rattle.arithmetic.specs.Theorems.{Gives, TableArithmetic}
use Rattle.texts.specs.Numbers.{Fault}
use Rattle.texts.specs.Reading.{Deck, read as read_text, dealt}
use Rattle.texts.specs.Theorems.{DecksOfTables}
use Rattle.sheets.specs.Calls as call
use Rattle.sheets.specs.Calls.{both_placed, all_placed, constant_rows, variable_rows, divided}
use Rattle.sheets.specs.Promises.{Formulas, giving, NoConstant}
use Rattle.sheets.specs.States.{State, placed, stored, kept}
use Rattle.sheets.proofs.Terms.{constant_gives, variable_gives}
use Rattle.conduct.specs.Calls.{Call, Answer, divides, accepted, answer, after, changing, read_answer, read_leaves}
use Rattle.conduct.specs.Calls.Answer.{refused}
use Rattle.conduct.specs.Calls.Call.{read, constant, variable, copy, negate, add, subtract, multiply, divide, differentiate, substitute, truncate, multiply_truncate, write, equal, leading}
use Rattle.conduct.specs.Formulas.{Stay, Becomes, Sets, Next}

-- ---- what an accepted call says of its arguments
module _ {V : Type 0} where
  no_rows : {A : Type 0} (e : Refusal) (xs : List (Row V)) → ◌≡◌ {A = Result (List (Row V)) Refusal} (Err e) (Ok xs) → A
  no_rows e xs h = absurd (let z : ◌≡◌ {A = ℕ} 0 1 = cc in omega arith)

  when : (t : Bool) (a : Result (List (Row V)) Refusal) (e : Refusal) (xs : List (Row V)) → cond t a (Err e) ≡ Ok xs → (t ≡ true) × (a ≡ Ok xs)
  when true a e xs h = (refl, h)
  when false a e xs h = no_rows e xs h

  on_one : (r p : ℕ) (a : Result (List (Row V)) Refusal) (xs : List (Row V)) → cond (both_placed r p) a (Err Place) ≡ Ok xs → (p < 8) × (a ≡ Ok xs)
  on_one r p a xs h = let w = when (both_placed r p) a Place xs h in (ltb-true p 8 (and_parts (placed r) (placed p) w.0).1, w.1)

  on_two : (r p q : ℕ) (a : Result (List (Row V)) Refusal) (xs : List (Row V)) → cond (all_placed r p q) a (Err Place) ≡ Ok xs → (p < 8) × (q < 8) × (a ≡ Ok xs)
  on_two r p q a xs h =
      let w = when (all_placed r p q) a Place xs h in
      let b = and_parts (placed p) (placed q) (and_parts (placed r) _ w.0).1 in
      (ltb-true p 8 b.0, ltb-true q 8 b.1, w.1)

module _ {V : Type 0} (K : Kind V) (vs : List Variable) where
  -- the rows of x, if there are any
  abbrev Gets : Poly K.ops → Result (List (Row V)) Refusal → Type 0
  Gets x a = (xs : List (Row V)) → a ≡ Ok xs → CanonicalRows K vs x xs

  gives_gets : (x : Poly K.ops) (Bad : Refusal → Type 0) (a : Result (List (Row V)) Refusal) → Gives K vs x Bad a → Gets x a
  gives_gets x Bad a g xs h = subst (Gives K vs x Bad) h g

  tested_gets : (t : Bool) (x : Poly K.ops) (a : Result (List (Row V)) Refusal) (e : Refusal) → (t ≡ true → Gets x a) → Gets x (cond t a (Err e))
  tested_gets t x a e g xs h = let w = when t a e xs h in g w.0 xs w.1

  -- ---- tables and formulas
  abbrev pub Holding : (ℕ → List (Row V)) → Formulas K → Type 0
  Holding ps f = (p : ℕ) → p < 8 → CanonicalRows K vs (f p) (ps p)

  abbrev Allows : Call → ℕ → Formulas K → Poly K.ops → Type 0
  Allows c r f x = ((g : Formulas K) → Becomes K vs f r x g → Sets K vs c f g) × ((g : Formulas K) → Sets K vs c f g → Becomes K vs f r x g)

  abbrev Making : Call → ℕ → Formulas K → List (Row V) → Type 0
  Making c r f xs = (x : Poly K.ops) × CanonicalRows K vs x xs × Allows c r f x

  abbrev pub Steps : Call → Formulas K → Answer V → (ℕ → List (Row V)) → Type 0
  Steps c f a ps = ((g : Formulas K) → Next K vs c (accepted a) f g → Holding ps g) × ((g : Formulas K) × Next K vs c (accepted a) f g)

  becomes_agree : (f g : Formulas K) (r : ℕ) (p q : Poly K.ops) → Agree K.ops (length vs) p q → Becomes K vs f r p g → Becomes K vs f r q g
  becomes_agree f g r p q h b = (λ e l. b.0 e l ∙ h e l, b.1)

  giving_becomes : (f : Formulas K) (r : ℕ) (p : Poly K.ops) → Becomes K vs f r p (giving K f r p)
  giving_becomes f r p =
      (λ e l. ap (λ q. q e) (cond-true (eqb r r) p (f r) (eq-eqb r r refl)), λ o lo apart e l. ap (λ q. q e) (cond-false (eqb o r) p (f o) (ne_eqb o r apart)))

  pub stay_holds : (ps : ℕ → List (Row V)) (f g : Formulas K) → Holding ps f → Stay K vs f g → Holding ps g
  stay_holds ps f g h s p l = rows_agree K vs (f p) (g p) (ps p) (λ e le. sym (s p l e le)) (h p l)

  module _ (s : State V) (f : Formulas K) (h : Holding s.places f) where
    stored-holds : (g : Formulas K) (r : ℕ) (p : Poly K.ops) (xs : List (Row V)) → CanonicalRows K vs p xs → Becomes K vs f r p g → Holding (stored s r xs).places g
    stored-holds g r p xs c b o l =
        cond_both (eqb o r) xs (s.places o) (CanonicalRows K vs (g o))
        (λ t. rows_agree K vs p (g o) xs (λ e le. sym (ap (λ k. g k e) (eqb-true o r t) ∙ b.0 e le)) c)
        (λ t. rows_agree K vs (f o) (g o) (s.places o) (λ e le. sym (b.1 o l (eqb-false o r t) e le)) (h o l))

    entered : (c : Call) (r : ℕ) (xs : List (Row V)) → Making c r f xs → ((g : Formulas K) → Sets K vs c f g → Holding (stored s r xs).places g) × ((g : Formulas K) × Sets K vs c f g)
    entered c r xs m = (λ g t. stored-holds g r m.0 xs m.1 (m.2.1 g t), (giving K f r m.0, m.2.0 (giving K f r m.0) (giving_becomes f r m.0)))

    refused_steps : ((g : Formulas K) → Stay K vs f g → Holding s.places g) × ((g : Formulas K) × Stay K vs f g)
    refused_steps = (λ g t. stay_holds s.places f g h t, (f, λ o l e le. refl))

    changed : (c : Call) (r : ℕ) (a : Result (List (Row V)) Refusal) → ((xs : List (Row V)) → a ≡ Ok xs → Making c r f xs) → Steps c f (changing a) (kept s r a).places
    changed c r (Ok xs) m = entered c r xs (m xs refl)
    changed c r (Err e) m = refused_steps

    asked : (c : Call) → ((g : Formulas K) → Sets K vs c f g → Stay K vs f g) → ((g : Formulas K) → Stay K vs f g → Sets K vs c f g) → (ok : Bool) → ((g : Formulas K) → Next K vs c ok f g → Holding s.places g) × ((g : Formulas K) × Next K vs c ok f g)
    asked c there back true = (λ g t. stay_holds s.places f g h (there g t), (f, back f (λ o l e le. refl)))
    asked c there back false = refused_steps

-- ---- the theorems that calls rest on
pub record Known {V : Type 0} (K : Kind V) (over : Over V) (vs : List Variable) (may : Bool) : Type 0 where
  pub ring : RingLaws K.ops
  pub laws : ValueLaws K
  pub figures : FigureLaws K
  pub sound : Sound vs
  pub whole : may ≡ true → NoZeroDivisors K.ops
  pub arithmetic : (c : ℕ) → TableArithmetic K vs c
  pub division : may ≡ true → (c : ℕ) → Quotients K over vs c
  pub decks : DecksOfTables K vs

-- ---- each call
module _ {V : Type 0} (K : Kind V) (over : Over V) (vs : List Variable) (may : Bool) (known : Known K over vs may) (c : ℕ) (ps : ℕ → List (Row V)) (f : Formulas K) (h : Holding K vs ps f) where
  open known use {ring, laws, figures, sound, whole, arithmetic, division, decks}

  abbrev s : State V
  s = record { room = c; places = ps; vars = vs }

  abbrev Goes : Call → Type 0
  Goes call = Steps K vs call f (answer K over s call) (after K over s call).places

  of_one : (call : Call) (r p : ℕ) (x : Poly K.ops) (a : Result (List (Row V)) Refusal) → (p < 8 → Gets K vs x a) → Allows K vs call r f x → Steps K vs call f (changing (cond (both_placed r p) a (Err Place))) (kept s r (cond (both_placed r p) a (Err Place))).places
  of_one call r p x a g b = changed K vs s f h call r (cond (both_placed r p) a (Err Place)) (λ xs t. let o = on_one r p a xs t in (x, g o.0 xs o.1, b))

  of_two : (call : Call) (r p q : ℕ) (x : Poly K.ops) (a : Result (List (Row V)) Refusal) → (p < 8 → q < 8 → Gets K vs x a) → Allows K vs call r f x → Steps K vs call f (changing (cond (all_placed r p q) a (Err Place))) (kept s r (cond (all_placed r p q) a (Err Place))).places
  of_two call r p q x a g b = changed K vs s f h call r (cond (all_placed r p q) a (Err Place)) (λ xs t. let o = on_two r p q a xs t in (x, g o.0 o.1 xs o.2, b))

  -- ---- calls that make a place of their arguments alone
  constant_makes : (r : ℕ) (a b : ℤ) (xs : List (Row V)) (made : Result V Refusal) → K.make a b ≡ made → constant_rows K s made ≡ Ok xs → Making K vs (constant r a b) r f xs
  constant_makes r a b xs (Ok v) e t =
      let x = poly.constant K.ops (K.meaning v) in
      let rows = gives_gets K vs x (NoConstant K s (Ok v)) (constant_rows K s (Ok v)) (constant_gives K ring s (Ok v) (λ w q. figures.made a b w (e ∙ q))) xs t in
      (x, rows, ((λ g k. (v, e, k)), back))
    where
      back : (g : Formulas K) → Sets K vs (constant r a b) f g → Becomes K vs f r (poly.constant K.ops (K.meaning v)) g
      back g k =
          let same : Ok k.0 ≡ Ok v = sym k.1 ∙ e in
          let q : k.0 ≡ v = cc in
          becomes_agree K vs f g r (poly.constant K.ops (K.meaning k.0)) (poly.constant K.ops (K.meaning v)) (λ x l. ap (λ w. poly.constant K.ops (K.meaning w) x) q) k.2
  constant_makes r a b xs (Err x) e t = no_rows x xs t

  variable_gets : (v : ℕ) → Gets K vs (poly.variable K.ops v) (variable_rows K s (unit vs v))
  variable_gets v xs t = ⊎_elim inside outside (cases_Bool (ltb v (length vs)))
    where
      inside : ltb v (length vs) ≡ true → CanonicalRows K vs (poly.variable K.ops v) xs
      inside l = gives_gets K vs (poly.variable K.ops v) _ (variable_rows K s (unit vs v)) (variable_gives K ring s laws v sound (ltb-true v (length vs) l)) xs t

      outside : ltb v (length vs) ≡ false → CanonicalRows K vs (poly.variable K.ops v) xs
      outside l = no_rows NotInFormat xs (sym (ap (variable_rows K s) (cond-false (ltb v (length vs)) _ _ l)) ∙ t)

  read_makes : (r : ℕ) (text : List ℕ) (n : ℕ) (xs ts : List (Row V)) → dealt K vs text ≡ Ok (record { bytes = n; table = ts }) → CanonicalRows K vs (meant K vs ts) xs → Making K vs (read r text) r f xs
  read_makes r text n xs ts e rows = (meant K vs ts, rows, ((λ g k. (n, ts, e, k)), back))
    where
      back : (g : Formulas K) → Sets K vs (read r text) f g → Becomes K vs f r (meant K vs ts) g
      back g k =
          let same : ◌≡◌ {A = Result (Deck (List (Row V))) Fault} (Ok (record { bytes = k.0; table = k.1 })) (Ok (record { bytes = n; table = ts })) = sym k.2 ∙ e in
          let deck : ◌≡◌ {A = Deck (List (Row V))} (record { bytes = k.0; table = k.1 }) (record { bytes = n; table = ts }) = cc in
          becomes_agree K vs f g r (meant K vs k.1) (meant K vs ts) (λ x l. ap (λ d. meant K vs d.table x) deck) k.3

  read_steps : (r : ℕ) (text : List ℕ) (t : Bool) (a : Result (Deck (List (Row V))) Fault) → read_text K vs c text ≡ a → Steps K vs (read r text) f (cond t (read_answer a) (refused Place)) (cond t (read_leaves s r a) s).places
  read_steps r text true (Ok d) e = let m = decks.terms c d.bytes text d.table e in entered K vs s f h (read r text) r d.table (read_makes r text d.bytes d.table m.0 m.1 m.2)
  read_steps r text true (Err x) e = refused_steps K vs s f h
  read_steps r text false a e = refused_steps K vs s f h

  -- ---- substitution, by any bound; and division
  substituted_steps : (r p q v : ℕ) → Goes (substitute r p q v)
  substituted_steps r p q v = changed K vs s f h (substitute r p q v) r (call.substituted K s r p q v) makes
    where
      makes : (xs : List (Row V)) → call.substituted K s r p q v ≡ Ok xs → Making K vs (substitute r p q v) r f xs
      makes xs t =
          let a = substituted K vs c v (ps q) [] (ps p) in
          let o = on_two r p q (cond (ltb v (length vs)) a (Err NotInFormat)) xs t in
          let w = when (ltb v (length vs)) a NotInFormat xs o.2 in
          let here = ltb-true v (length vs) w.0 in
          let B = (tabling K ring vs laws).finite (f p) (ps p) (h p o.0) in
          let x = poly.substitution K.ops v B.0 (f p) (f q) in (
            x,
            gives_gets K vs x _ a ((arithmetic c).substitutions v B.0 (f p) (f q) (ps p) (ps q) here B.1 (h p o.0) (h q o.1)) xs w.1,
            (
              (λ g k. (B.0, B.1, k)),
              λ g k. becomes_agree K vs f g r (poly.substitution K.ops v k.0 (f p) (f q)) x ((substituting K.ops ring (length vs) v here (f q)).bounds k.0 B.0 (f p) k.1 B.1) k.2,
            ),
          )

  -- who divides does not divide by zero
  divisor : (d : Poly K.ops) (xs ds qs : List (Row V)) → CanonicalRows K vs d ds → quotient K over vs c xs ds ≡ Ok qs → Agree K.ops (length vs) d (nought K.ops) → ⊥
  divisor d xs [] qs rows e z = no_rows ZeroDivisor qs e
  divisor d xs (y ∷ ds) qs rows e z = let t = rows.terms.0 in t.there (z t.list t.long)

  divided_steps : may ≡ true → (r p q : ℕ) → Goes (divide r p q)
  divided_steps m r p q = changed K vs s f h (divide r p q) r (divided K over s r p q) makes
    where
      makes : (xs : List (Row V)) → divided K over s r p q ≡ Ok xs → Making K vs (divide r p q) r f xs
      makes xs t =
          let n = length vs in
          let o = on_two r p q (quotient K over vs c (ps p) (ps q)) xs t in
          let d : Divided K vs c (f p) (f q) (Ok xs) = subst (Divided K vs c (f p) (f q)) o.2 ((division m c).quotients (f p) (f q) (ps p) (ps q) (h p o.0) (h q o.1)) in
          let some = divisor (f q) (ps p) (ps q) xs (h q o.1) o.2 in
          let finite = (tabling K ring vs laws).finite (f q) (ps q) (h q o.1) in (
            d.0,
            d.2,
            (
              (λ g k. (d.0, d.1, k)),
              λ g k. becomes_agree K vs f g r k.0 d.0 ((dividing K.ops ring (whole m) n).cancels k.0 d.0 (f q) k.1.finite d.1.finite finite some (λ e l. k.1.times e l ∙ sym (d.1.times e l))) k.2,
            ),
          )

  -- ---- each call
  pub step : (call : Call) → (divides call ≡ true → may ≡ true) → Goes call
  step (read r text) d = read_steps r text (placed r) (read_text K vs c text) refl
  step (constant r a b) d =
      changed K vs s f h (constant r a b) r (call.constant K s r a b)
      (λ xs t. constant_makes r a b xs (K.make a b) refl (when (placed r) (constant_rows K s (K.make a b)) Place xs t).1)
  step (variable r v) d =
      changed K vs s f h (variable r v) r (call.variable K s r v)
      (λ xs t. (poly.variable K.ops v, variable_gets v xs (when (placed r) (variable_rows K s (unit vs v)) Place xs t).1, ((λ g k. k), λ g k. k)))
  step (copy r p) d = of_one (copy r p) r p (f p) (Ok (ps p)) (λ l. gives_gets K vs (f p) (λ _. ⊥) (Ok (ps p)) (h p l)) ((λ g k. k), λ g k. k)
  step (negate r p) d =
      of_one (negate r p) r p (poly.negative K.ops (f p)) (negated K (ps p))
      (λ l. gives_gets K vs (poly.negative K.ops (f p)) _ (negated K (ps p)) ((arithmetic c).negatives (f p) (ps p) (h p l)))
      ((λ g k. k), λ g k. k)
  step (add r p q) d =
      of_two (add r p q) r p q (poly.sum K.ops (f p) (f q)) (limited c (sum K (ps p) (ps q)))
      (λ lp lq. gives_gets K vs (poly.sum K.ops (f p) (f q)) _ (limited c (sum K (ps p) (ps q))) ((arithmetic c).sums (f p) (f q) (ps p) (ps q) (h p lp) (h q lq)))
      ((λ g b. b), λ g b. b)
  step (subtract r p q) d =
      of_two (subtract r p q) r p q (poly.sum K.ops (f p) (poly.negative K.ops (f q))) (limited c (subtracted K (ps p) (ps q)))
      (λ lp lq. gives_gets K vs (poly.sum K.ops (f p) (poly.negative K.ops (f q))) _ (limited c (subtracted K (ps p) (ps q))) ((arithmetic c).differences (f p) (f q) (ps p) (ps q) (h p lp) (h q lq)))
      ((λ g b. b), λ g b. b)
  step (multiply r p q) d =
      of_two (multiply r p q) r p q (poly.product K.ops (f p) (f q)) (product K vs c (ps p) (ps q))
      (λ lp lq. gives_gets K vs (poly.product K.ops (f p) (f q)) _ (product K vs c (ps p) (ps q)) ((arithmetic c).products (f p) (f q) (ps p) (ps q) (h p lp) (h q lq)))
      ((λ g b. b), λ g b. b)
  step (divide r p q) d = divided_steps (d refl) r p q
  step (differentiate r p v) d =
      of_one (differentiate r p v) r p (poly.derivative K.ops v (f p)) (cond (ltb v (length vs)) (derived K vs v (ps p)) (Err NotInFormat))
      (λ l. tested_gets K vs (ltb v (length vs)) (poly.derivative K.ops v (f p)) (derived K vs v (ps p)) NotInFormat (λ t. gives_gets K vs (poly.derivative K.ops v (f p)) _ (derived K vs v (ps p)) ((arithmetic c).derivatives v (f p) (ps p) (ltb-true v (length vs) t) (h p l))))
      ((λ g b. b), λ g b. b)
  step (substitute r p q v) d = substituted_steps r p q v
  step (truncate r p k n) d =
      of_one (truncate r p k n) r p (poly.truncation K.ops k n (f p)) (cond (leb k (length vs)) (Ok (truncated vs k n (ps p))) (Err Prefix))
      (λ l. tested_gets K vs (leb k (length vs)) (poly.truncation K.ops k n (f p)) (Ok (truncated vs k n (ps p))) Prefix (λ _. gives_gets K vs (poly.truncation K.ops k n (f p)) (λ _. ⊥) (Ok (truncated vs k n (ps p))) ((arithmetic c).truncations k n (f p) (ps p) (h p l))))
      ((λ g b. b), λ g b. b)
  step (multiply_truncate r p q k n) d =
      of_two (multiply_truncate r p q k n) r p q (poly.truncation K.ops k n (poly.product K.ops (f p) (f q))) (cond (leb k (length vs)) (product_truncated K vs c k n (ps p) (ps q)) (Err Prefix))
      (λ lp lq. tested_gets K vs (leb k (length vs)) (poly.truncation K.ops k n (poly.product K.ops (f p) (f q))) (product_truncated K vs c k n (ps p) (ps q)) Prefix (λ _. gives_gets K vs (poly.truncation K.ops k n (poly.product K.ops (f p) (f q))) _ (product_truncated K vs c k n (ps p) (ps q)) ((arithmetic c).truncated_products k n (f p) (f q) (ps p) (ps q) (h p lp) (h q lq))))
      ((λ g b. b), λ g b. b)
  step (write p n) d = asked K vs s f h (write p n) (λ g k. k) (λ g k. k) (accepted (answer K over s (write p n)))
  step (equal p q) d = asked K vs s f h (equal p q) (λ g k. k) (λ g k. k) (accepted (answer K over s (equal p q)))
  step (leading p) d = asked K vs s f h (leading p) (λ g k. k) (λ g k. k) (accepted (answer K over s (leading p)))
