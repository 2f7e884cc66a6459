-- Exact division of canonical rows finds the quotient of polynomials exactly if there is one, unless a limit stops it. Assumes nothing.
--     run                from a quotient so far and its remainder
--     exact_division_lem     from no quotient so far
use Rattle.std.proofs.Common.{◌≡◌, ℕ, zero, suc, ◌+◌, ◌^◌, ◌<◌, ◌≤◌, true, false, ◌⊎◌, List, [], ◌∷◌, ◌++◌, length, Ok, Err, Result, sym, refl, ap, ◌∙◌, subst, inl, inr, ⊎_elim, arith}
use Rattle.std.proofs.lemmas.List.{length-append}
use Rattle.std.proofs.lemmas.Bool.{cond_both}
use Rattle.refusals.specs.declared.Refusal.{Refusal}
use Rattle.refusals.specs.declared.Refusal.TheVariants.{Unfit, Exponent, Rows, NoQuotient, QuotientUnfit}
use Rattle.rings.specs.Members.{RingLaws, NoZeroDivisors}
use Rattle.rings.specs.Kinds.{Kind, Fits, IsValue, ValueLaws, Division, by_zero, exact, none, unfit}
use Rattle.formats.specs.Exponents.{added, covers, lowered, Below}
use Rattle.formats.specs.Keys.{pack, unpack, within}
use Rattle.formats.specs.Variables.{total as bits}
use Rattle.formats.specs.declared.variable.Variable.{Variable}
use Rattle.formats.proofs.Keys.{pack-lt}
use Rattle.rows.specs.Canonical.{Under}
use Rattle.rows.specs.Products.{continued}
use Rattle.rows.specs.Tables.{row}
use Rattle.rows.specs.declared.Row.{Row}
use Rattle.algebra.specs.Polynomials.{Poly, Agree, nought, term, sum, negative, product}
use Rattle.algebra.specs.Leading.{Leading}
use Rattle.algebra.specs.Tables.{Every, CanonicalRows}
use Rattle.algebra.specs.Theorems.{LeadingTerms}
use Rattle.algebra.proofs.Dividing.{dividing}
use Rattle.algebra.proofs.Exponents.{length_lowered, added-lowered}
use Rattle.algebra.proofs.Orders.{below_not}
use Rattle.algebra.proofs.Packing.{packing, length_unpack, within-unpack, unpack-back}
use Rattle.algebra.proofs.Products.{term_here, term_elsewhere, product_comm, nought-product}
use Rattle.algebra.proofs.Splits.{zero-plus, zero-times}
use Rattle.algebra.proofs.Tabling.{tabling}
use Rattle.arithmetic.specs.Dividing.{Over, opposed, with_coefficient, leading, then, divided, quotient}
use Rattle.arithmetic.specs.Multiplying.{step}
use Rattle.arithmetic.specs.Quotients.{Divided, Quotients}
use Rattle.arithmetic.specs.Refusals.{Unfitting, TooLarge}
use Rattle.formats.proofs.Lists.{within-lowered}
use Rattle.arithmetic.specs.Theorems.{Gives}
use Rattle.arithmetic.proofs.Giving.{gives_weaker, large_agree}
use Rattle.algebra.proofs.Tabling.{every_under}
use Rattle.arithmetic.proofs.Opposites.{product-opposite, meaning-of}
use Rattle.arithmetic.proofs.Stepping.{Unstepped, step_gives}
use Rattle.arithmetic.proofs.Leads.{row-member, row-key, leading-of-rows, rows-below}
use Rattle.arithmetic.proofs.Appended.{every_append, every_weaker, append-rows}

module _ {V : Type 0} (K : Kind V) (over : Over V) (ring : RingLaws K.ops) (laws : ValueLaws K) (whole : NoZeroDivisors K.ops) (division : (a b : V) → Division K a b (over a b)) (vs : List Variable) (few : bits vs ≤ 64) (c : ℕ) (p d : Poly K.ops) (y : Row V) (ds : List (Row V)) (hd : CanonicalRows K vs d (y ∷ ds)) where
  abbrev M : Type 0
  M = K.ops.Member

  abbrev n : ℕ
  n = length vs

  abbrev b : List ℕ
  b = unpack vs y.key

  abbrev Answer : Result (List (Row V)) Refusal → Type 0
  Answer = Divided K vs c p d

  terms : LeadingTerms K.ops n
  terms = dividing K.ops ring whole n

  leads_divisor : Leading K.ops n d b
  leads_divisor = leading-of-rows K ring vs d y ds hd

  member_divisor : K.meaning y.coefficient ≡ d b
  member_divisor = row-member K ring vs d laws y hd.terms.0

  -- q is the quotient so far and r the remainder, with x as its leading row
  module _ (q r : Poly K.ops) (qs : List (Row V)) (x : Row V) (rs : List (Row V)) (hq : CanonicalRows K vs q qs) (hr : CanonicalRows K vs r (x ∷ rs)) (parts : Agree K.ops n p (sum K.ops (product K.ops q d) r)) where
    abbrev a : List ℕ
    a = unpack vs x.key

    abbrev l : List ℕ
    l = lowered a b

    leads_rest : Leading K.ops n r a
    leads_rest = leading-of-rows K ring vs r x rs hr

    member-rest : K.meaning x.coefficient ≡ r a
    member-rest = row-member K ring vs r laws x hr.terms.0

    no_quotient : (covers a b ≡ false) ⊎ ((m : M) → K.ops.times m (d b) ≡ r a → ⊥) → Answer (Err NoQuotient)
    no_quotient h = inr (inl (refl, (λ z. leads_divisor.there (z b leads_divisor.long)), λ s. terms.stuck p q d r s a b ((tabling K ring vs laws).finite q qs hq) parts leads_rest leads_divisor h))

    -- a limit at the term of l and m
    abbrev Limit : M → Refusal → Type 0
    Limit m e =
        ((e ≡ QuotientUnfit) × (Fits K m → ⊥))
        ⊎ (((e ≡ Rows) × ((qs : List (Row V)) × CanonicalRows K vs q qs × (length qs ≡ c)))
        ⊎ (((e ≡ Exponent) × ((b : List ℕ) × (length b ≡ n) × (d b ≡ K.ops.zero → ⊥) × (within vs (added b l) ≡ false)))
        ⊎ (((e ≡ Unfit) × Unfitting K vs (product K.ops d (term K.ops l m)))
        ⊎ TooLarge K vs c (sum K.ops r (negative K.ops (product K.ops (term K.ops l m) d))) e)))

    stop : covers a b ≡ true → (m : M) → K.ops.times m (d b) ≡ r a → (e : Refusal) → Limit m e → Answer (Err e)
    stop t m s e h = inr (inr record {
      so_far = q;
      rest = r;
      splits = parts;
      first = a;
      second = b;
      leads_rest = leads_rest;
      leads_divisor = leads_divisor;
      over = t;
      member = m;
      divides = s;
      cause = h;
    })

    -- both leading rows have a quotient, or division ends
    at_row : (f : Row V → Result (List (Row V)) Refusal) → ((v : V) → covers a b ≡ true → IsValue K v → K.ops.times (K.meaning v) (d b) ≡ r a → Answer (f (row (pack vs l) v))) → Answer (then (leading over vs x y) f)
    at_row f go =
        cond_both (covers a b) (with_coefficient (pack vs l) (over x.coefficient y.coefficient)) (Err NoQuotient) (λ u. Answer (then u f))
        (λ t. answered t (over x.coefficient y.coefficient) (division x.coefficient y.coefficient))
        (λ t. no_quotient (inl t))
      where
        there : (m : M) → K.ops.times m (K.meaning y.coefficient) ≡ K.meaning x.coefficient → K.ops.times m (d b) ≡ r a
        there m s = ap (K.ops.times m) (sym member_divisor) ∙ s ∙ member-rest

        back : (m : M) → K.ops.times m (d b) ≡ r a → K.ops.times m (K.meaning y.coefficient) ≡ K.meaning x.coefficient
        back m s = ap (K.ops.times m) member_divisor ∙ s ∙ sym member-rest

        answered : covers a b ≡ true → (u : Result V Refusal) → Division K x.coefficient y.coefficient u → Answer (then (with_coefficient (pack vs l) u) f)
        answered t u (by_zero z) = absurd (leads_divisor.there (sym member_divisor ∙ z))
        answered t u (exact {v = v} o is s) = go v t is (there (K.meaning v) s)
        answered t u (none o never) = no_quotient (inr (λ m s. never m (back m s)))
        answered t u (unfit o m s never) = stop t m (there m s) QuotientUnfit (inl (refl, never))

    -- the step with the coefficient v
    module _ (v : V) (t : covers a b ≡ true) (s : K.ops.times (K.meaning v) (d b) ≡ r a) where
      abbrev m : M
      m = K.meaning v

      abbrev T : Poly K.ops
      T = term K.ops l m

      abbrev rest : Poly K.ops
      rest = sum K.ops r (negative K.ops (product K.ops T d))

      same-long : length a ≡ length b
      same-long = length_unpack vs x.key ∙ sym (length_unpack vs y.key)

      long : length l ≡ n
      long = length_lowered a b same-long ∙ length_unpack vs x.key

      inside : within vs l ≡ true
      inside = within-lowered vs a b (within-unpack vs x.key)

      raised : added l b ≡ a
      raised = added-lowered a b same-long t

      some : m ≡ K.ops.zero → ⊥
      some z = leads_rest.there (sym s ∙ ap (λ w. K.ops.times w (d b)) z ∙ zero-times K.ops ring (d b))

      keys : pack vs l + y.key ≡ x.key
      keys =
          let sums = (packing vs).sums l b long (length_unpack vs y.key) in
          let up = ap (pack vs) raised in
          let first = row-key K ring vs r x hr.terms.0 in
          let second = row-key K ring vs d y hd.terms.0 in
          omega arith

      leads-term : Leading K.ops n T l
      leads-term = record { long = long; there = λ z. some (sym (term_here K.ops ring l m) ∙ z); above = λ e le u. term_elsewhere K.ops ring l m e (λ q. below_not l (subst (Below l) q u)) }

      -- the leading terms cancel
      cancelled : (e : List ℕ) → length e ≡ n → (e ≡ a) ⊎ Below a e → rest e ≡ K.ops.zero
      cancelled e le = ⊎_elim (λ w. ap rest w ∙ equal a (sym at)) (λ u. equal e (leads_rest.above e le u ∙ sym (lead.0.above e le (subst (λ w. Below w e) (sym raised) u))))
        where
          lead : Leading K.ops n (product K.ops T d) (added l b) × (product K.ops T d (added l b) ≡ K.ops.times (T l) (d b))
          lead = terms.products T d l b leads-term leads_divisor

          at : product K.ops T d a ≡ r a
          at = ap (product K.ops T d) (sym raised) ∙ lead.1 ∙ ap (λ w. K.ops.times w (d b)) (term_here K.ops ring l m) ∙ s

          equal : (e : List ℕ) → r e ≡ product K.ops T d e → rest e ≡ K.ops.zero
          equal e h = ap (λ w. K.ops.plus w (K.ops.negative (product K.ops T d e))) h ∙ ring.plus_negative (product K.ops T d e)

      lower : (zs : List (Row V)) → CanonicalRows K vs rest zs → Under x.key zs
      lower zs h = subst (λ k. Under k zs) (sym (row-key K ring vs r x hr.terms.0)) (rows-below K ring vs rest a (length_unpack vs x.key) (within-unpack vs x.key) cancelled zs h.terms)

      opposite : Agree K.ops n (product K.ops d (term K.ops l (K.ops.negative m))) (negative K.ops (product K.ops d T))
      opposite e le = product-opposite K.ops ring d l m e (le ∙ sym long)

      rest_agree : Agree K.ops n (sum K.ops r (product K.ops d (term K.ops l (K.ops.negative m)))) rest
      rest_agree e le = ap (K.ops.plus (r e)) (opposite e le ∙ ap (λ f. K.ops.negative (f e)) (product_comm K.ops ring d T))

      refused : (e : Refusal) → Unstepped K vs c r d l (K.ops.negative m) e → Answer (Err e)
      refused e u = stop t m s e (inr (inr (⊎_elim inl (λ w. inr (⊎_elim (λ f. inl (f.0, unfits f.1)) (λ f. inr (large_agree K vs c _ rest e rest_agree f)) w)) u)))
        where
          unfits : Unfitting K vs (product K.ops d (term K.ops l (K.ops.negative m))) → Unfitting K vs (product K.ops d T)
          unfits u = (u.0, u.1, λ f. let g = laws.negative (product K.ops d T u.0) f in u.2 (g.0, ap K.value (opposite u.0 u.1) ∙ g.1))

      stepped : Gives K vs rest (λ e. Answer (Err e)) (step K vs c (x ∷ rs) (y ∷ ds) (opposed K (row (pack vs l) v)))
      stepped =
          gives_weaker K vs (sum K.ops r (product K.ops d (term K.ops l (K.ops.negative m)))) rest (Unstepped K vs c r d l (K.ops.negative m)) (λ e. Answer (Err e)) rest_agree refused
          (step K vs c (x ∷ rs) (y ∷ ds) (opposed K (row (pack vs l) v)))
          (step_gives K ring laws vs few c (opposed K (row (pack vs l) v)) (pack-lt vs l inside) l (K.ops.negative m) (unpack-back vs l long inside)
          (meaning-of K ring laws vs few (K.ops.negative m) (laws.negative m (laws.contents v))) r d (x ∷ rs) (y ∷ ds) hr hd)

      followed : (f : List (Row V) → Result (List (Row V)) Refusal) → ((zs : List (Row V)) → CanonicalRows K vs rest zs → Answer (f zs)) → (u : Result (List (Row V)) Refusal) → Gives K vs rest (λ e. Answer (Err e)) u → Answer (continued u f)
      followed f go (Ok zs) g = go zs g
      followed f go (Err e) g = g

      appended : IsValue K v → Every (λ z. x.key < z.key + y.key) qs → CanonicalRows K vs (sum K.ops q T) (qs ++ row (pack vs l) v ∷ [])
      appended is above =
          append-rows K ring vs (row (pack vs l) v) laws l (unpack-back vs l long inside) (pack-lt vs l inside) is some q qs hq
          (every_weaker (λ z. x.key < z.key + y.key) (λ z. pack vs l < z.key) (λ z h. let k = keys in omega arith) qs above)

      split_more : Agree K.ops n p (sum K.ops (product K.ops (sum K.ops q T) d) rest)
      split_more = terms.step p q d r l m parts

  -- no row of the remainder is above a bound that the quotient's rows times y reach
  run : (m B : ℕ) (q r : Poly K.ops) (qs rs : List (Row V)) → CanonicalRows K vs q qs → CanonicalRows K vs r rs → Agree K.ops n p (sum K.ops (product K.ops q d) r) → Under B rs → Every (λ z. B ≤ z.key + y.key) qs → length qs + m ≡ c → Answer (divided K over vs c y ds m qs rs)
  run m B q r qs [] hq hr parts low above room =
      let none = (tabling K ring vs laws).means r [] hr in
      (q, terms.done p q d r ((tabling K ring vs laws).finite q qs hq) parts none, hq)
  run zero B q r qs (x ∷ rs) hq hr parts low above room =
      at_row q r qs x rs hq hr parts (λ t. Err Rows)
      (λ v t is s. stop q r qs x rs hq hr parts t (K.meaning v) s Rows (inr (inl (refl, (qs, hq, omega arith)))))
  run (suc m) B q r qs (x ∷ rs) hq hr parts low above room =
      let under : Every (λ z. x.key < z.key + y.key) qs = let k = low.0 in every_weaker (λ z. B ≤ z.key + y.key) (λ z. x.key < z.key + y.key) (λ z h. omega arith) qs above in
      let reach : Every (λ z. x.key ≤ z.key + y.key) qs = every_weaker (λ z. x.key < z.key + y.key) (λ z. x.key ≤ z.key + y.key) (λ z h. omega arith) qs under in
      at_row q r qs x rs hq hr parts (λ t. continued (step K vs c (x ∷ rs) (y ∷ ds) (opposed K t)) (λ zs. divided K over vs c y ds m (qs ++ t ∷ []) zs))
      (λ v t is s.
      let T = term K.ops (lowered (unpack vs x.key) b) (K.meaning v) in
      let u = row (pack vs (lowered (unpack vs x.key) b)) v in
      let k = keys q r qs x rs hq hr parts v t s in
      followed q r qs x rs hq hr parts v t s (λ zs. divided K over vs c y ds m (qs ++ u ∷ []) zs)
      (λ zs g. run m x.key (sum K.ops q T) (sum K.ops r (negative K.ops (product K.ops T d))) (qs ++ u ∷ []) zs
      (appended q r qs x rs hq hr parts v t s is under) g
      (split_more q r qs x rs hq hr parts v t s)
      (lower q r qs x rs hq hr parts v t s zs g)
      (every_append (λ z. x.key ≤ z.key + y.key) qs u reach (omega arith))
      (let long = length-append qs (u ∷ []) in omega arith))
      (step K vs c (x ∷ rs) (y ∷ ds) (opposed K u))
      (stepped q r qs x rs hq hr parts v t s))

  pub divided_gives : (xs : List (Row V)) → CanonicalRows K vs p xs → Answer (divided K over vs c y ds c [] xs)
  divided_gives xs hp =
      let start : CanonicalRows K vs (nought K.ops) [] = record { falling = tt; terms = tt; complete = λ e l z. absurd (z refl) } in
      let narrow = every_under (2 ^ bits vs) xs ((tabling K ring vs laws).canonical p xs hp).1 in
      let parts : Agree K.ops n p (sum K.ops (product K.ops (nought K.ops) d) p) = λ e le. sym (ap (λ f. K.ops.plus (f e) (p e)) (nought-product K.ops ring d) ∙ zero-plus K.ops ring (p e)) in
      run c (2 ^ bits vs) (nought K.ops) p [] xs start hp parts narrow tt (omega arith)

module _ {V : Type 0} (K : Kind V) (over : Over V) (ring : RingLaws K.ops) (laws : ValueLaws K) (division : (a b : V) → Division K a b (over a b)) (whole : NoZeroDivisors K.ops) (vs : List Variable) (c : ℕ) (few : bits vs ≤ 64) where
  quotients : (p d : Poly K.ops) (xs ds : List (Row V)) → CanonicalRows K vs p xs → CanonicalRows K vs d ds → Divided K vs c p d (quotient K over vs c xs ds)
  quotients p d xs [] hp hd = inl (refl, (tabling K ring vs laws).means d [] hd)
  quotients p d xs (y ∷ ds) hp hd = divided_gives K over ring laws whole division vs few c p d y ds hd xs hp

  pub exact_division_lem : Quotients K over vs c
  exact_division_lem = record { quotients = quotients }
