use Rattle.std.proofs.Common.{◌≡◌, ℕ, ◌∷◌, List, Some, length, drop, sym, ap, ◌∙◌, subst, arith, rules}
use Rattle.std.specs.Prelude.{slice_range}
use Rattle.std.proofs.lemmas.List.{take_rest}
use Rattle.formats.specs.Drafts.{variables}
use Rattle.formats.specs.declared.variable.Variable.{Variable}
use Rattle.formats.proofs.Keys.{sound}
use Rattle.formats.proofs.Places.{place_some, place_past, place_fits}
use Rattle.formats.proofs.format.Format.field.Goals as goal

-- the variables from i on, of which v is the first
left : (vs ws rest after : List Variable) (i : ℕ) (v : Variable) → ws ≡ vs → rest ≡ slice_range ws i (length ws) → rest ≡ v ∷ after → drop i vs ≡ v ∷ after
left vs ws rest after i v same range first = subst (λ l. drop i l ≡ v ∷ after) same (sym (take_rest ws i) ∙ sym range ∙ first)

pub returns-in_err-get : goal.returns-in_err-get
returns-in_err-get c = rw c.from_residual.ensures (sym (place_past (variables c.args.self.now) c.args.variable (search rules)))

pub returns-in_err-variable : goal.returns-in_err-variable
returns-in_err-variable c =
    let at = c.in_ok-get.ensures.lookup.0 in
    rw c.from_residual-in_err-variable.ensures (sym (place_past (variables c.args.self.now) c.args.variable (omega (arith, c.in_err-variable.ensures.cases, ap length c.variables.ensures.list))))

pub bits-requires : goal.bits-requires
bits-requires c =
    let s = sound c.args.self.now in
    let f = place_fits _ _ _ _ s.ok s.narrow (left _ _ _ _ _ _ c.variables.ensures.list c.in_ok-get.ensures.lookup.0.2 c.in_ok-variable.ensures.cases.0) in
    omega arith

pub invariant_of-result : goal.invariant_of-result
invariant_of-result c =
    let s = sound c.args.self.now in
    let f = place_fits _ _ _ _ s.ok s.narrow (left _ _ _ _ _ _ c.variables.ensures.list c.in_ok-get.ensures.lookup.0.2 c.in_ok-variable.ensures.cases.0) in
    record { low = omega (arith, c.bits.ensures); narrow = f.1 }

pub returns : goal.returns
returns c =
    ap (λ n. Some (n, c.in_ok-variable.variable.now.width)) c.bits.ensures
    ∙ sym (place_some (variables c.args.self.now) c.args.variable _ _ (left _ _ _ _ _ _ c.variables.ensures.list c.in_ok-get.ensures.lookup.0.2 c.in_ok-variable.ensures.cases.0))
