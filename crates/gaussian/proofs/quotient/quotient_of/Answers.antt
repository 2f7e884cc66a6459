use Rattle.std.proofs.Common.{◌≡◌, pos, ◌<ℤ◌, cond, Ok, Err, sym, subst, ◌∙◌, rules, w64, SFits}
use Rattle.std.proofs.lemmas.Int.{to_z-of_z}
use Rattle.refusals.specs.declared.Refusal.TheVariants.{NoQuotient}
use Rattle.rings.specs.Gaussian.{product, norm}
use Rattle.gaussian.specs.Gaussian.{of, shared, shares}
use Rattle.gaussian.specs.Member.{meant}
use Rattle.gaussian.proofs.Words.{bits}
use Rattle.gaussian.proofs.Norm.{norm_positive}
use Rattle.gaussian.proofs.quotient.quotient_of.Goals as goal
use Rattle.gaussian.proofs.quotient.quotient_of.Goals.{After-norm_of}

is_norm : (c : After-norm_of) → bits c.norm_of.result ≡ norm (meant c.args.w)
is_norm c = let f : SFits w64 c.norm_of.result = search rules in to_z-of_z w64 c.norm_of.result f ∙ c.norm_of.ensures

pub shared-requires : goal.shared-requires
shared-requires c = subst (λ z. pos 0 <ℤ z) (sym (is_norm c)) (norm_positive (meant c.args.w) c.requires)

pub returns : goal.returns
returns c =
    c.shared.ensures
    ∙ (λ i. let p = (c.product_of.ensures ∙ (λ j. product (meant c.args.z) (c.conjugate.ensures j))) i in
    let n = is_norm (goal.at.returns c).After-norm_of i in
    cond (shares p n) (Ok (of (shared p n))) (Err NoQuotient))
