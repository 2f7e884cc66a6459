-- Texts written into the output of a writer.
--     Writes v text w     the writer w is v after a text, if that has room
--     writer_laws         the laws of a sink
use Rattle.std.specs.Prelude.{◌≡◌, ℕ, List, [], ◌++◌, length, refl}
use Rattle.std.proofs.Common.{sym, ap, ◌∙◌, arith}
use Rattle.std.proofs.lemmas.List.{length-append}
use Rattle.rows.specs.Lists.{put}
use Rattle.rows.proofs.Writing.{length_put, put-none, put_next}
use Rattle.cards.specs.Bytes.{Fits, Wrote}
use Rattle.cards.specs.Sinks.{SinkLaws}
use Rattle.cards.specs.declared.writer.Writer.{Writer}

pub record Writes (v : Writer) (text : List ℕ) (w : Writer) : Type 0 where
  pub same : w.output.ghost_name ≡ v.output.ghost_name
  pub wrote : Fits v.output.now v.at text → Wrote v.output.now v.at text w.output.now w.at

wrote_none : (out : List ℕ) (at : ℕ) → Wrote out at [] out at
wrote_none out at = record { bytes = sym (put-none out at); stop = omega arith }

-- a text that has room, and what is written after its first part
module _ (old : List ℕ) (at : ℕ) (first second : List ℕ) (room : Fits old at (first ++ second)) where
  fits_first : Fits old at first
  fits_first = let l = length-append first second in omega arith

  module _ (mid : List ℕ) (end : ℕ) (w : Wrote old at first mid end) where
    fits_second : Fits mid end second
    fits_second =
        let l = length-append first second in
        let s = w.stop in
        let n = ap length w.bytes ∙ length_put old at first fits_first in
        omega arith

    wrote_both : (new : List ℕ) (stop : ℕ) → Wrote mid end second new stop → Wrote old at (first ++ second) new stop
    wrote_both new stop v =
        let l = length-append first second in
        let s = w.stop in
        let t = v.stop in
        record {
          bytes = v.bytes ∙ ap (λ x. put x end second) w.bytes ∙ put_next old at first fits_first end second (sym s) (omega arith);
          stop = omega arith;
        }

pub writer_laws : SinkLaws Writes
writer_laws = record {
  none = λ v. record { same = refl; wrote = λ _. wrote_none v.output.now v.at };
  joined = λ u v w first second p q. record {
    same = q.same ∙ p.same;
    wrote = λ room.
        let a = p.wrote (fits_first u.output.now u.at first second room) in
        let b = q.wrote (fits_second u.output.now u.at first second room v.output.now v.at a) in
        wrote_both u.output.now u.at first second room v.output.now v.at a w.output.now w.at b;
  };
}
