-- Writing a place of a sheet.
--     cards K s p              the written cards of the place p
--     write_answer K s p n     how many bytes they have, or the refusal: a bad place, an output of n bytes that is too short
--     write_leaves K s p out   the output after it: the cards, and then what stood there
use Rattle.std.specs.Prelude.{ℕ, cond, ◌&&◌, List, length, Ok, Err, Result, nat_le}
use Rattle.refusals.specs.declared.Refusal.{Refusal}
use Rattle.refusals.specs.declared.Refusal.TheVariants.{Place, Output}
use Rattle.rings.specs.Kinds.{Kind}
use Rattle.rows.specs.Lists.{put}
use Rattle.sheets.specs.States.{State, placed}
use Rattle.texts.specs.Decks.{deck}

abbrev pub cards : {V : Type 0} → Kind V → State V → ℕ → List ℕ
cards K s p = deck K s.vars (s.places p)

abbrev pub write_answer : {V : Type 0} → Kind V → State V → ℕ → ℕ → Result ℕ Refusal
write_answer K s p n = cond (placed p) (cond (nat_le (length (cards K s p)) n) (Ok (length (cards K s p))) (Err Output)) (Err Place)

abbrev pub write_leaves : {V : Type 0} → Kind V → State V → ℕ → List ℕ → List ℕ
write_leaves K s p out = cond (placed p && nat_le (length (cards K s p)) (length out)) (put out 0 (cards K s p)) out
