-- What a search for the first place tells. Assumes nothing.
use Rattle.std.proofs.Common.{◌≡◌, ℕ, ◌<◌, ◌≤◌, Bool, true, false, cond, ltb, Some, None, Option, refl, arith}
use Rattle.std.proofs.lemmas.Bool.{ltb-true, ltb-false}
use Rattle.std.specs.Option.{unwrap_or}

-- the place k of n, if there is one
abbrev pub place : ℕ → ℕ → Option ℕ
place k n = cond (ltb k n) (Some k) None

pub found : (k n e : ℕ) → Some e ≡ place k n → (k ≡ e) × (k < n)
found k n e h = by (ltb k n) refl h
  where
    by : (t : Bool) → ltb k n ≡ t → Some e ≡ cond t (Some k) None → (k ≡ e) × (k < n)
    by true f h = (let s : k ≡ e = cc in s, ltb-true k n f)
    by false f h = absurd (let z : ◌≡◌ {A = ℕ} 0 1 = cc in omega arith)

pub missed : (k n : ℕ) → None ≡ place k n → n ≤ k
missed k n h = by (ltb k n) refl h
  where
    by : (t : Bool) → ltb k n ≡ t → None ≡ cond t (Some k) None → n ≤ k
    by true f h = absurd (let z : ◌≡◌ {A = ℕ} 0 1 = cc in omega arith)
    by false f h = ltb-false k n f

pub or_length : (k n : ℕ) → k ≤ n → unwrap_or (place k n) n ≡ k
or_length k n h = by (ltb k n) refl
  where
    by : (t : Bool) → ltb k n ≡ t → unwrap_or (cond t (Some k) None) n ≡ k
    by true f = refl
    by false f = let g = ltb-false k n f in omega arith
