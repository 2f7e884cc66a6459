use Rattle.std.proofs.Common.{◌≡◌, ℕ, [], ◌∷◌, Ok, Err, Result, sym, refl, ◌∙◌, subst, arith}
use Rattle.refusals.specs.declared.Refusal.{Refusal}
use Rattle.formats.specs.Drafts.{variables}
use Rattle.sheets.specs.Ends.{Making, made_in}
use Rattle.sheets.proofs.States.{with_areas}
use Rattle.rows.specs.Tables.{row}
use Rattle.arithmetic.specs.Deriving.{with_power}
use Rattle.sheets.proofs.Products.{kept-stored}
use Rattle.sheets.proofs.Substitutions.{without, begun}
use Rattle.sheets.proofs.worktop.Worktop.begin_term.Goals as goal

pub returns-in_err-key : goal.returns-in_err-key
returns-in_err-key g c =
    let e : Err c.in_err-key.field-0.0 ≡ Ok (with_power (variables c.args.self.now.format) c.args.variable 0 c.args.row) = sym c.in_err-key.was ∙ c.replace.ensures ∙ without (variables c.args.self.now.format) c.args.variable c.args.row.key c.requires.variable in
    absurd (let z : ◌≡◌ {A = ℕ} 0 1 = cc in omega arith)

pub returns : goal.returns
returns g c =
    let s = c.args.self.now in
    let mid = with_areas s c.clear.new.self in
    let t = with_areas s c.push.new.self in
    let k = with_power (variables s.format) c.args.variable 0 c.args.row in
    let x = row c.in_ok-key.key c.args.row.coefficient in
    let e : ◌≡◌ {A = Result ℕ Refusal} (Ok c.in_ok-key.key) (Ok k) = sym c.in_ok-key.was ∙ c.replace.ensures ∙ without (variables s.format) c.args.variable c.args.row.key c.requires.variable in
    let f : c.in_ok-key.key ≡ k = cc in
    subst (λ n. Making 9 s t (Ok (row n c.args.row.coefficient ∷ [])) (made_in 9 c.push.result)) f
    (begun s mid t x c.push.result c.requires.room c.clear.ensures.leaves (kept-stored s mid 9 [] c.clear.ensures.leaves refl) c.push.ensures.leaves refl c.push.ensures.answer)
