-- What is printed of an answer.
--     printed K a      the line of the answer a of a call over the kind K, without its end
use Rattle.std.specs.Prelude.{ℕ, List, ◌++◌, decimal, codes, true, false, Some, None}
use Rattle.refusals.specs.Numbers.{number}
use Rattle.rings.specs.Kinds.{Kind}
use Rattle.rings.specs.Figures.{written}
use Rattle.conduct.specs.Calls.{Answer}
use Rattle.conduct.specs.Calls.Answer.{done, bytes, tells, first, refused, refused_at}

abbrev pub printed : {V : Type 0} → Kind V → Answer V → List ℕ
printed K done = codes "ok"
printed K (bytes n) = codes "ok " ++ decimal n
printed K (tells true) = codes "ok equal"
printed K (tells false) = codes "ok different"
printed K (first None) = codes "ok none"
printed K (first (Some x)) = codes "ok " ++ decimal x.key ++ codes " " ++ written K x.coefficient
printed K (refused e) = codes "refused " ++ decimal (number e)
printed K (refused_at e b) = codes "refused " ++ decimal (number e) ++ codes " at " ++ decimal b
