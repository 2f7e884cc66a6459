-- A text that is read gives the canonical rows of the sum of its terms: the same bytes are worked with the table and with the list of terms side by side. Assumes nothing.
--     Filling vs es    the exponents es are those of the first variables of vs, each within its field
--     dealing          the terms of a text that is read, and its table
use Rattle.std.proofs.Common.{◌≡◌, ℕ, suc, ◌+◌, ◌^◌, ◌<◌, ◌≤◌, Bool, true, false, cond, eqb, ltb, List, [], ◌∷◌, ◌++◌, length, ℤ, pos, negsuc, Some, None, Ok, Err, Option, Result, sym, refl, ap, ◌∙◌, subst, ⊎_elim, arith}
use Rattle.std.proofs.lemmas.Bool.{ltb-true, ltb-false, lt-ltb, cond_both, cases_Bool, and_from, true≢false}
use Rattle.refusals.specs.declared.Refusal.{Refusal}
use Rattle.refusals.specs.declared.Refusal.TheVariants.{Rows, Exponent}
use Rattle.rings.specs.Members.{RingLaws}
use Rattle.rings.specs.Kinds.{Kind, IsValue, ValueLaws, FigureLaws}
use Rattle.formats.specs.Keys.{pack, within}
use Rattle.formats.specs.Variables.{total}
use Rattle.formats.specs.declared.variable.Variable.{Variable}
use Rattle.formats.proofs.Keys.{pack-lt}
use Rattle.rows.specs.Canonical.{coefficient as given, Under, Canonical}
use Rattle.rows.specs.Tables.{row, sum, limited}
use Rattle.rows.specs.declared.Row.{Row}
use Rattle.rows.proofs.Canonical.{sum-adds, sum_under}
use Rattle.algebra.specs.Tables.{CanonicalRows, meant}
use Rattle.algebra.proofs.Tabling.{under_every, rows_agree, meant-within, meant_outside, tabling}
use Rattle.texts.specs.Numbers.{Fault, Number, Step, Card, closed, worked, fresh}
use Rattle.texts.specs.Terms.{Partial, Got, coefficient, width_after, gathered, power, taken}
use Rattle.texts.specs.Terms.Partial.{none, figure, powers}
use Rattle.texts.specs.Terms.Got.{more, whole, ends}
use Rattle.texts.specs.Reading.{Deck, Going, through, at_byte, with_got, with_number, with_step, reading, adding, listing, read, dealt}

-- ---- exponents, one after the other
abbrev pub Filling : List Variable → List ℕ → Type 0
Filling vs [] = Unit {0}
Filling [] (e ∷ es) = ⊥
Filling (v ∷ vs) (e ∷ es) = (e < 2 ^ v.width) × Filling vs es

filling_more : (vs : List Variable) (es : List ℕ) (e : ℕ) → Filling vs es → length es < length vs → e < 2 ^ width_after vs (length es) → Filling vs (es ++ e ∷ [])
filling_more [] [] e f l h = absurd (omega arith)
filling_more (v ∷ vs) [] e f l h = (h, tt)
filling_more [] (d ∷ es) e f l h = absurd f
filling_more (v ∷ vs) (d ∷ es) e f l h = (f.0, filling_more vs es e f.1 (omega arith) h)

filling_within : (vs : List Variable) (es : List ℕ) → Filling vs es → length vs ≤ length es → within vs es ≡ true
filling_within [] es f l = refl
filling_within (v ∷ vs) [] f l = absurd (omega arith)
filling_within (v ∷ vs) (e ∷ es) f l = and_from _ _ (lt-ltb e (2 ^ v.width) f.0) (filling_within vs es f.1 (omega arith))

-- what passes a limit is what there was
limited-same : {V : Type 0} (c : ℕ) (r : Result (List (Row V)) Refusal) (xs : List (Row V)) → limited c r ≡ Ok xs → r ≡ Ok xs
limited-same {V} c (Ok ys) xs e = cond_both (ltb c (length ys)) (Err Rows) (Ok ys) (λ r. r ≡ Ok xs → ◌≡◌ {A = Result (List (Row V)) Refusal} (Ok ys) (Ok xs)) (λ _ h. absurd (let z : ◌≡◌ {A = ℕ} 0 1 = cc in omega arith)) (λ _ h. h) e
limited-same {V} c (Err x) xs e = e

under_push : {V : Type 0} (b : ℕ) (xs : List (Row V)) (x : Row V) → Under b xs → x.key < b → Under b (xs ++ x ∷ [])
under_push b [] x u h = (h, tt)
under_push b (y ∷ ys) x u h = (u.0, under_push b ys x u.1 h)

module _ {V : Type 0} (K : Kind V) (ring : RingLaws K.ops) (laws : ValueLaws K) (writing : FigureLaws K) (vs : List Variable) (some : 0 < length vs) where
  -- ---- terms under way, and whole ones
  abbrev Nonzero : V → Type 0
  Nonzero v = IsValue K v × (K.meaning v ≡ K.ops.zero → ⊥)

  abbrev Fit : Partial V → Type 0
  Fit none = Unit {0}
  Fit (figure a b) = Unit {0}
  Fit (powers v b es) = Nonzero v × Filling vs es × (length es < length vs)

  abbrev Good : Result (Got V) Fault → Type 0
  Good (Err f) = Unit {0}
  Good (Ok (more t)) = Fit t
  Good (Ok (whole x b)) = Nonzero x.coefficient × (x.key < 2 ^ total vs)
  Good (Ok ends) = Unit {0}

  coefficient_good : (b : ℕ) (r : Result V Refusal) → ((v : V) → r ≡ Ok v → IsValue K v) → Good (coefficient K b r)
  coefficient_good b (Err e) h = tt
  coefficient_good b (Ok v) h =
      cond_both (K.ops.same (K.meaning v) K.ops.zero) (Ok ends) (Ok (more (powers v b []))) Good (λ _. tt)
      (λ f. ((h v refl, λ z. true≢false (sym ((ring.decides (K.meaning v) K.ops.zero).1 z) ∙ f)), tt, some))

  gathered_good : (v : V) (b : ℕ) (es : List ℕ) → Nonzero v → Filling vs es → Good (Ok (gathered vs v b es))
  gathered_good v b es n f =
      cond_both (ltb (length es) (length vs)) (more (powers v b es)) (whole (row (pack vs es) v) b) (λ g. Good (Ok g))
      (λ t. (n, f, ltb-true (length es) (length vs) t))
      (λ t. (n, pack-lt vs es (filling_within vs es f (ltb-false (length es) (length vs) t))))

  power_good : (v : V) (b : ℕ) (es : List ℕ) (at : ℕ) (z : ℤ) → Fit (powers v b es) → Good (power vs v b es at z)
  power_good v b es at (pos e) f =
      cond_both (ltb e (2 ^ width_after vs (length es))) (Ok (gathered vs v b (es ++ e ∷ []))) (Err (record { refusal = Exponent; byte = at })) Good
      (λ t. gathered_good v b (es ++ e ∷ []) f.0 (filling_more vs es e f.1 f.2 (ltb-true e (2 ^ width_after vs (length es)) t)))
      (λ _. tt)
  power_good v b es at (negsuc e) f = tt

  taken_good : (t : Partial V) (n : Number) → Fit t → Good (taken K vs t n)
  taken_good none n f =
      cond_both (eqb K.count 1) (coefficient K n.first (K.make n.value (pos 0))) (Ok (more (figure n.value n.first))) Good
      (λ _. coefficient_good n.first (K.make n.value (pos 0)) (writing.made n.value (pos 0)))
      (λ _. tt)
  taken_good (figure a b) n f = coefficient_good b (K.make a n.value) (writing.made a n.value)
  taken_good (powers v b es) n f = power_good v b es n.first n.value f

  -- ---- the table and the terms so far
  record Matches (s ts : List (Row V)) : Type 0 where
    canonical : Canonical K s
    narrow : Under (2 ^ total vs) s
    dealt : Under (2 ^ total vs) ts
    same : (k : ℕ) → given K s k ≡ given K ts k

  given_push : (ts : List (Row V)) (x : Row V) (k : ℕ) → given K (ts ++ x ∷ []) k ≡ K.ops.plus (given K ts k) (given K (x ∷ []) k)
  given_push [] x k = sym (ring.plus_comm K.ops.zero (given K (x ∷ []) k) ∙ ring.plus_zero (given K (x ∷ []) k))
  given_push (t ∷ ts) x k = ap (λ c. cond (eqb t.key k) (K.ops.plus (K.meaning t.coefficient) c) c) (given_push ts x k) ∙ into (eqb t.key k)
    where
      into : (b : Bool) → cond b (K.ops.plus (K.meaning t.coefficient) (K.ops.plus (given K ts k) (given K (x ∷ []) k))) (K.ops.plus (given K ts k) (given K (x ∷ []) k)) ≡ K.ops.plus (cond b (K.ops.plus (K.meaning t.coefficient) (given K ts k)) (given K ts k)) (given K (x ∷ []) k)
      into true = sym (ring.plus_assoc (K.meaning t.coefficient) (given K ts k) (given K (x ∷ []) k))
      into false = refl

  entered : (c : ℕ) (s ts : List (Row V)) (x : Row V) (s' : List (Row V)) → Matches s ts → Nonzero x.coefficient → x.key < 2 ^ total vs → adding K c s x ≡ Ok s' → Matches s' (ts ++ x ∷ [])
  entered c s ts x s' m n h e =
      let one : Canonical K (x ∷ []) = (n.0, n.1, tt, tt) in
      let f = limited-same c (sum K s (x ∷ [])) s' e in
      let a = sum-adds K ring laws s (x ∷ []) s' m.canonical one f in
      record {
        canonical = a.canonical;
        narrow = sum_under K ring laws s (x ∷ []) s' m.canonical one f (2 ^ total vs) m.narrow (h, tt);
        dealt = under_push (2 ^ total vs) ts x m.dealt h;
        same = λ k. a.adds k ∙ ap (λ g. K.ops.plus g (given K (x ∷ []) k)) (m.same k) ∙ sym (given_push ts x k);
      }

  -- ---- side by side: where the table is accepted, so are the terms
  abbrev Along : Result (Deck (List (Row V))) Fault → Result (Deck (List (Row V))) Fault → Type 0
  Along r q = (n : ℕ) (xs : List (Row V)) → r ≡ Ok (record { bytes = n; table = xs }) → (ts : List (Row V)) × (q ≡ Ok (record { bytes = n; table = ts })) × Matches xs ts

  module _ (c : ℕ) where
    abbrev Goes : Going (List (Row V)) V → Going (List (Row V)) V → Type 0
    Goes go via = (t : Partial V) (s ts : List (Row V)) → Fit t → Matches s ts → Along (go t s) (via t ts)

    along_got : (s ts : List (Row V)) (end : ℕ) (r : Result (Got V) Fault) (go via : Going (List (Row V)) V) → Matches s ts → Good r → Goes go via → Along (with_got (adding K c) s end r go) (with_got listing ts end r via)
    along_got s ts end (Err f) go via m g h n xs e = absurd (let z : ◌≡◌ {A = ℕ} 0 1 = cc in omega arith)
    along_got s ts end (Ok (more t)) go via m g h n xs e = h t s ts g m n xs e
    along_got s ts end (Ok (whole x b)) go via m g h n xs e = by (adding K c s x) refl e
      where
        by : (r : Result (List (Row V)) Refusal) → adding K c s x ≡ r → at_byte b r go ≡ Ok (record { bytes = n; table = xs }) → (us : List (Row V)) × (via none (ts ++ x ∷ []) ≡ Ok (record { bytes = n; table = us })) × Matches xs us
        by (Ok s') f k = h none s' (ts ++ x ∷ []) tt (entered c s ts x s' m g.0 g.1 f) n xs k
        by (Err f) k l = absurd (let z : ◌≡◌ {A = ℕ} 0 1 = cc in omega arith)
    along_got s ts end (Ok ends) go via m g h n xs e =
        let p : ◌≡◌ {A = Deck (List (Row V))} (record { bytes = end; table = s }) (record { bytes = n; table = xs }) = cc in
        (ts, ap (λ d. Ok (record { bytes = d.bytes; table = ts })) p, subst (λ d. Matches d.table ts) p m)

    along_number : (s ts : List (Row V)) (t : Partial V) (end : ℕ) (o : Option Number) (go via : Going (List (Row V)) V) → Matches s ts → Fit t → Goes go via → Along (with_number K vs (adding K c) s t end o go) (with_number K vs listing ts t end o via)
    along_number s ts t end None go via m f h = h t s ts f m
    along_number s ts t end (Some n) go via m f h = along_got s ts end (taken K vs t n) go via m (taken_good t n f) h

    along_step : (s ts : List (Row V)) (t : Partial V) (end : ℕ) (r : Result Step Fault) (go via : Card → Going (List (Row V)) V) → Matches s ts → Fit t → ((d : Card) → Goes (go d) (via d)) → Along (with_step K vs (adding K c) s t end r go) (with_step K vs listing ts t end r via)
    along_step s ts t end (Err f) go via m g h n xs e = absurd (let z : ◌≡◌ {A = ℕ} 0 1 = cc in omega arith)
    along_step s ts t end (Ok p) go via m g h n xs e = along_number s ts t end p.number (go p.card) (via p.card) m g (h p.card) n xs e

    along : (bs : List ℕ) (d : Card) (t : Partial V) (s ts : List (Row V)) (i : ℕ) → Fit t → Matches s ts → Along (reading K vs (adding K c) d t s i bs) (reading K vs listing d t ts i bs)
    along [] d t s ts i f m = along_step s ts t i (closed d) _ _ m f (λ e u r us g k n xs h. absurd (let z : ◌≡◌ {A = ℕ} 0 1 = cc in omega arith))
    along (b ∷ bs) d t s ts i f m = along_step s ts t (i + through (b ∷ bs)) (worked d i b) _ _ m f (λ e u r us g k. along bs e u r us (suc i) g k)

  matched_rows : (xs ts : List (Row V)) → Matches xs ts → CanonicalRows K vs (meant K vs ts) xs
  matched_rows xs ts m =
      let narrow = under_every (2 ^ total vs) xs m.narrow in
      rows_agree K vs (meant K vs xs) (meant K vs ts) xs
      (λ e l. ⊎_elim
      (λ w. meant-within K ring vs xs e l w narrow ∙ m.same (pack vs e) ∙ sym (meant-within K ring vs ts e l w (under_every (2 ^ total vs) ts m.dealt)))
      (λ w. meant_outside K ring vs xs e w ∙ sym (meant_outside K ring vs ts e w))
      (cases_Bool (within vs e)))
      ((tabling K ring vs laws).exist xs m.canonical narrow)

  pub dealing : (c n : ℕ) (text : List ℕ) (xs : List (Row V)) → read K vs c text ≡ Ok (record { bytes = n; table = xs }) → (ts : List (Row V)) × (dealt K vs text ≡ Ok (record { bytes = n; table = ts })) × CanonicalRows K vs (meant K vs ts) xs
  dealing c n text xs e =
      let r = along c text fresh none [] [] 0 tt (record { canonical = tt; narrow = tt; dealt = tt; same = λ k. refl }) n xs e in
      (r.0, r.1, matched_rows xs r.0 r.2)
