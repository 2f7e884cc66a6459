-- The numbers of places.
--     Placed n r        r is the place of the number n, or the refusal where there is none
use Rattle.std.specs.Prelude.{◌≡◌, ℕ, ◌<◌, ◌≤◌, Result, MatchResult}
use Rattle.refusals.specs.declared.Refusal.{Refusal}
use Rattle.refusals.specs.declared.Refusal.TheVariants.{Place as NoPlace}
use Rattle.sheets.specs.declared.place.Place.{Place}

abbrev pub Placed : ℕ → Result Place Refusal → Type 0
Placed n r = MatchResult r (λ p. (p.area ≡ n) × (n < 8)) (λ e. (8 ≤ n) × (e ≡ NoPlace))
