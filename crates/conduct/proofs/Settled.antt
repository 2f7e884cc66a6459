-- The promise over whole uses for each kind: over a domain with division, over every kind without. Assumes nothing.
--     over_domains, over_rings     the promise, from the theorems on tables and decks
use Rattle.std.proofs.Common.{◌≡◌, ℕ, Bool, true, false, List, sym}
use Rattle.std.proofs.lemmas.Bool.{true≢false}
use Rattle.rings.specs.Members.{RingLaws, NoZeroDivisors}
use Rattle.rings.specs.Kinds.{Kind, ValueLaws, FigureLaws, Division}
use Rattle.formats.specs.Drafts.{Sound}
use Rattle.formats.specs.declared.variable.Variable.{Variable}
use Rattle.arithmetic.specs.Dividing.{Over}
use Rattle.arithmetic.specs.Quotients.{Quotients}
use Rattle.arithmetic.specs.Theorems.{TableArithmetic}
use Rattle.arithmetic.proofs.Meaning.{table_arithmetic_lem}
use Rattle.arithmetic.proofs.Quotienting.{exact_division_lem}
use Rattle.texts.specs.Theorems.{DecksOfTables}
use Rattle.texts.proofs.Dealing.{dealing}
use Rattle.texts.proofs.Returning.{returning, one_deck}
use Rattle.conduct.specs.Uses.{Promise}
use Rattle.conduct.proofs.Promising.{promise}
use Rattle.conduct.proofs.Steps.{Known}

module _ {V : Type 0} (K : Kind V) (ring : RingLaws K.ops) (laws : ValueLaws K) (figures : FigureLaws K) (over : Over V) (vs : List Variable) (sound : Sound vs) where
  arithmetic : (c : ℕ) → TableArithmetic K vs c
  arithmetic c = table_arithmetic_lem K ring laws vs c sound

  decks : DecksOfTables K vs
  decks = record { back = returning K ring laws figures vs sound; one_deck = one_deck K ring laws figures vs sound; terms = dealing K ring laws figures vs sound.some }

  known : (may : Bool) → (may ≡ true → NoZeroDivisors K.ops) → (may ≡ true → (c : ℕ) → Quotients K over vs c) → Known K over vs may
  known may whole division = record { ring = ring; laws = laws; figures = figures; sound = sound; whole = whole; arithmetic = arithmetic; division = division; decks = decks }

  pub over_domains : ((a b : V) → Division K a b (over a b)) → NoZeroDivisors K.ops → Promise K over vs true
  over_domains division whole = promise K over vs true (known true (λ _. whole) (λ _ c. exact_division_lem K over ring laws division whole vs c sound.narrow))

  pub over_rings : Promise K over vs false
  over_rings = promise K over vs false (known false (λ t. absurd (true≢false (sym t))) (λ t. absurd (true≢false (sym t))))
