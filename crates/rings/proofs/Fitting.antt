-- What a value tells that is held if a test passes, and refused as Unfit if not. Assumes nothing.
use Rattle.std.proofs.Common.{◌≡◌, ℕ, Bool, true, false, ◌&&◌, cond, is_ok, Ok, Err, Result, refl, arith}
use Rattle.refusals.specs.declared.Refusal.{Refusal}
use Rattle.refusals.specs.declared.Refusal.TheVariants.{Unfit}

abbrev pub tested : {V : Type 0} → Bool → V → Result V Refusal
tested t x = cond t (Ok x) (Err Unfit)

pub tested-ok : {V : Type 0} (t : Bool) (x v : V) → tested t x ≡ Ok v → (v ≡ x) × (t ≡ true)
tested-ok true x v e = (cc, refl)
tested-ok false x v e = absurd (let n : ◌≡◌ {A = ℕ} 0 1 = cc in omega arith)

pub tested_err : {V : Type 0} (t : Bool) (x : V) (c : Refusal) → tested t x ≡ Err c → (c ≡ Unfit) × (t ≡ false)
tested_err true x c e = absurd (let n : ◌≡◌ {A = ℕ} 0 1 = cc in omega arith)
tested_err false x c e = (cc, refl)

pub tested_is_ok : {V : Type 0} (t : Bool) (x : V) → is_ok (tested t x) ≡ t
tested_is_ok true x = refl
tested_is_ok false x = refl

pub tested-tested : {V : Type 0} (s t : Bool) (x : V) → cond s (tested t x) (Err Unfit) ≡ tested (t && s) x
tested-tested true true x = refl
tested-tested true false x = refl
tested-tested false true x = refl
tested-tested false false x = refl
