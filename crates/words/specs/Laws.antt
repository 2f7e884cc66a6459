-- The words keep the laws of a kind. Assumes nothing.
--     word_ring      the words are a ring
--     value_laws     the laws of values
--     figure_laws    the laws of figures
use Rattle.std.specs.Prelude.{refl}
use Rattle.std.proofs.Common.{lit<, lit≤}
use Rattle.rings.specs.Members.{RingLaws}
use Rattle.rings.specs.Kinds.{ValueLaws, FigureLaws}
use Rattle.rings.specs.Remainders.{remainders}
use Rattle.rings.proofs.Remainders.{remainders_ring, modulo-values, modulo-figures}
use Rattle.words.specs.Words.{words}

pub word_ring : RingLaws (remainders 4_294_967_296)
word_ring = remainders_ring 4_294_967_296 (lit< tt)

pub value_laws : ValueLaws words
value_laws = modulo-values 4_294_967_296 (lit< tt) _ _ (λ n. refl)

pub figure_laws : FigureLaws words
figure_laws = modulo-figures 4_294_967_296 (lit< tt) _ _ (λ n. refl) (lit≤ tt)
