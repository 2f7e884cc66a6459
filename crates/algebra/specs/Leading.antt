-- Leading terms, and what division by them speaks of.
--     Leading R n p a     a is the leading list of p in n variables: p is not zero at a, and zero at every list above a
--     Quotient R n p d q      q is a quotient of p by d: a polynomial whose product with d is p
use Rattle.std.specs.Prelude.{◌≡◌, ℕ, List, length}
use Rattle.rings.specs.Members.{Ops}
use Rattle.formats.specs.Exponents.{Below}
use Rattle.algebra.specs.Polynomials.{Poly, Agree, Finite, product}

pub record Leading (R : Ops) (n : ℕ) (p : Poly R) (a : List ℕ) : Type 0 where
  pub long : length a ≡ n
  pub there : p a ≡ R.zero → ⊥
  pub above : (e : List ℕ) → length e ≡ n → Below a e → p e ≡ R.zero

pub record Quotient (R : Ops) (n : ℕ) (p d q : Poly R) : Type 0 where
  pub finite : Finite R n q
  pub times : Agree R n (product R q d) p
