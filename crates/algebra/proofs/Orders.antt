-- The lexicographic order of lists of exponents; every polynomial that is not zero has a leading list, and only one. Assumes nothing.
--     below_trans, below_not, cases_below    Below orders the lists of one length
--     below-added-left, below-added-right    adding keeps the order
--     weigh          two lists that each are not above another add to no more than these
--     cases_zero     a member is zero or not
--     leading-list   a polynomial in n variables is zero or has a leading list
--     one-leading    it has at most one
use Rattle.std.proofs.Common.{◌≡◌, ℕ, zero, suc, ◌+◌, ◌≤◌, ◌⊎◌, List, [], ◌∷◌, length, sym, refl, ap, ◌∙◌, subst, inl, inr, ⊎_elim, arith}
use Rattle.std.proofs.lemmas.Bool.{cases_Bool, cases_eq, cases_order, true≢false}
use Rattle.rings.specs.Members.{Ops, RingLaws}
use Rattle.formats.specs.Exponents.{added, Below}
use Rattle.algebra.specs.Polynomials.{Poly, Agree, Bounded, Finite, nought}
use Rattle.algebra.specs.Leading.{Leading}
use Rattle.algebra.proofs.Exponents.{added_comm}

pub below_trans : (a b c : List ℕ) → Below a b → Below b c → Below a c
below_trans [] b c p q = absurd p
below_trans (i ∷ a) [] c p q = absurd p
below_trans (i ∷ a) (j ∷ b) [] p q = absurd q
below_trans (i ∷ a) (j ∷ b) (k ∷ c) p q =
    let again = below_trans a b c in
    ⊎_elim (λ l. ⊎_elim (λ m. inl (omega arith)) (λ m. let e = m.0 in inl (omega arith)) q) (λ l. let d = l.0 in ⊎_elim (λ m. inl (omega arith)) (λ m. inr (d ∙ m.0, again l.1 m.1)) q) p

pub below_not : (a : List ℕ) → Below a a → ⊥
below_not [] p = p
below_not (i ∷ a) p = let again = below_not a in ⊎_elim (λ l. omega arith) (λ l. again l.1) p

pub cases_below : (a b : List ℕ) → length a ≡ length b → (a ≡ b) ⊎ (Below a b ⊎ Below b a)
cases_below [] [] h = inl refl
cases_below [] (j ∷ b) h = absurd (omega arith)
cases_below (i ∷ a) [] h = absurd (omega arith)
cases_below (i ∷ a) (j ∷ b) h =
    let rest = cases_below a b (omega arith) in
    ⊎_elim
    (λ e. ⊎_elim (λ f. inl (λ k. e k ∷ f k)) (⊎_elim (λ f. inr (inl (inr (e, f)))) (λ f. inr (inr (inr (sym e, f))))) rest)
    (⊎_elim (λ l. inr (inl (inl l))) (λ l. inr (inr (inl l))))
    (cases_order i j)

pub below-added-left : (a b c : List ℕ) → length a ≡ length c → length b ≡ length c → Below a b → Below (added a c) (added b c)
below-added-left [] b c h k p = absurd p
below-added-left (i ∷ a) [] c h k p = absurd p
below-added-left (i ∷ a) (j ∷ b) [] h k p = absurd (omega arith)
below-added-left (i ∷ a) (j ∷ b) (m ∷ c) h k p =
    let again = below-added-left a b c (omega arith) (omega arith) in
    ⊎_elim (λ l. inl (omega arith)) (λ l. inr (ap (λ x. x + m) l.0, again l.1)) p

pub below-added-right : (a b c : List ℕ) → length a ≡ length c → length b ≡ length c → Below a b → Below (added c a) (added c b)
below-added-right a b c h k p = subst (λ x. Below x (added c b)) (added_comm a c) (subst (Below (added a c)) (added_comm b c) (below-added-left a b c h k p))

-- two lists of which neither is above another add to no more than these
pub weigh : (n : ℕ) (a b x y : List ℕ) → length a ≡ n → length b ≡ n → length x ≡ n → length y ≡ n → (Below a x ⊎ Below b y) ⊎ (((x ≡ a) × (y ≡ b)) ⊎ Below (added x y) (added a b))
weigh n a b x y la lb lx ly =
    ⊎_elim
    (λ e. ⊎_elim (λ f. inr (inl (e, f))) (⊎_elim (λ f. inr (inr (second e f))) (λ f. inl (inr f))) (cases_below y b (ly ∙ sym lb)))
    (⊎_elim
    (λ e. ⊎_elim (λ f. inr (inr (first e f))) (⊎_elim (λ f. inr (inr (both e f))) (λ f. inl (inr f))) (cases_below y b (ly ∙ sym lb)))
    (λ e. inl (inl e)))
    (cases_below x a (lx ∙ sym la))
  where
    second : x ≡ a → Below y b → Below (added x y) (added a b)
    second e f = subst (λ z. Below (added x y) (added z b)) e (below-added-right y b x (ly ∙ sym lx) (lb ∙ sym lx) f)

    first : Below x a → y ≡ b → Below (added x y) (added a b)
    first e f = subst (λ z. Below (added x y) (added a z)) f (below-added-left x a y (lx ∙ sym ly) (la ∙ sym ly) e)

    both : Below x a → Below y b → Below (added x y) (added a b)
    both e f = below_trans (added x y) (added a y) (added a b) (below-added-left x a y (lx ∙ sym ly) (la ∙ sym ly) e) (below-added-right y b a (ly ∙ sym la) (lb ∙ sym la) f)

-- ---- leading lists
pub cases_zero : (R : Ops) → RingLaws R → (m : R.Member) → (m ≡ R.zero) ⊎ (m ≡ R.zero → ⊥)
cases_zero R ring m =
    let d = ring.decides m R.zero in
    ⊎_elim (λ t. inl (d.0 t)) (λ t. inr (λ z. true≢false (sym (d.1 z) ∙ t))) (cases_Bool (R.same m R.zero))

-- zero at every list whose first exponent is k or more
abbrev Cleared : (R : Ops) → ℕ → ℕ → Poly R → Type 0
Cleared R n k p = (i : ℕ) (e : List ℕ) → k ≤ i → length e ≡ n → p (i ∷ e) ≡ R.zero

module _ (R : Ops) (ring : RingLaws R) where
  -- the first exponents below k, from the top down
  descend : (n : ℕ) (p : Poly R) → ((i : ℕ) → Agree R n (λ e. p (i ∷ e)) (nought R) ⊎ ((a : List ℕ) × Leading R n (λ e. p (i ∷ e)) a)) → (k : ℕ) → Cleared R n k p → Cleared R n 0 p ⊎ ((a : List ℕ) × Leading R (suc n) p a)
  descend n p under zero c = inl c
  descend n p under (suc k) c =
      let again = descend n p under k in
      ⊎_elim (λ z. again (lower z)) (λ s. inr (k ∷ s.0, found s.0 s.1)) (under k)
    where
      lower : Agree R n (λ e. p (k ∷ e)) (nought R) → Cleared R n k p
      lower z i e h l = ⊎_elim (λ q. ap (λ j. p (j ∷ e)) (sym q) ∙ z e l) (λ q. c i e (omega arith) l) (cases_eq k i)

      found : (a : List ℕ) → Leading R n (λ e. p (k ∷ e)) a → Leading R (suc n) p (k ∷ a)
      found a h = record { long = ap suc h.long; there = h.there; above = higher }
        where
          higher : (e : List ℕ) → length e ≡ suc n → Below (k ∷ a) e → p e ≡ R.zero
          higher [] l b = absurd b
          higher (i ∷ e) l b = ⊎_elim (λ q. c i e q (omega arith)) (λ q. ap (λ j. p (j ∷ e)) (sym q.0) ∙ h.above e (omega arith) q.1) b

  bounded_leads : (n B : ℕ) (p : Poly R) → Bounded R n B p → Agree R n p (nought R) ⊎ ((a : List ℕ) × Leading R n p a)
  bounded_leads zero B p b = ⊎_elim (λ z. inl (flat z)) (λ z. inr ([], record { long = refl; there = z; above = λ e l h. absurd h })) (cases_zero R ring (p []))
    where
      flat : p [] ≡ R.zero → Agree R zero p (nought R)
      flat z [] l = z
      flat z (i ∷ e) l = absurd (omega arith)
  bounded_leads (suc n) B p b =
      let under : (i : ℕ) → Agree R n (λ e. p (i ∷ e)) (nought R) ⊎ ((a : List ℕ) × Leading R n (λ e. p (i ∷ e)) a) = λ i. bounded_leads n B (λ e. p (i ∷ e)) (λ e l h. b (i ∷ e) (ap suc l) (suc h.0, h.1)) in
      ⊎_elim (λ c. inl (flat c)) inr (descend n p under (suc B) (λ i e h l. b (i ∷ e) (ap suc l) (zero, h)))
    where
      flat : Cleared R n 0 p → Agree R (suc n) p (nought R)
      flat c [] l = absurd (omega arith)
      flat c (i ∷ e) l = c i e (omega arith) (omega arith)

  pub leading-list : (n : ℕ) (p : Poly R) → Finite R n p → Agree R n p (nought R) ⊎ ((a : List ℕ) × Leading R n p a)
  leading-list n p f = bounded_leads n f.0 p f.1

pub one-leading : (R : Ops) (n : ℕ) (p : Poly R) (a b : List ℕ) → Leading R n p a → Leading R n p b → a ≡ b
one-leading R n p a b h k =
    ⊎_elim (λ e. e) (⊎_elim (λ l. absurd (k.there (h.above b k.long l))) (λ l. absurd (h.there (k.above a h.long l)))) (cases_below a b (h.long ∙ sym k.long))
