-- Figures as text.
--     written K v     the bytes that write the value v of the kind K: its figure, or both with a comma between them
use Rattle.std.specs.Prelude.{ℕ, List, ◌++◌, cond, ◌==◌, codes}
use Rattle.std.specs.Fmt.{signed_decimal}
use Rattle.rings.specs.Kinds.{Kind}

abbrev pub written : {V : Type 0} → Kind V → V → List ℕ
written K v = cond (K.count == 1) (signed_decimal (K.first v)) (signed_decimal (K.first v) ++ codes "," ++ signed_decimal (K.second v))
