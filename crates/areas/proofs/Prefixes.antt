-- Rows so far, before those of a result. Assumes nothing.
--     prefixed out r     the rows of r after those of out, or its refusal
--     prefixed_none      after no rows
--     prefixed_more      after one more
use Rattle.std.proofs.Common.{◌≡◌, List, [], ◌∷◌, ◌++◌, Ok, Err, Result, sym, refl, ap}
use Rattle.std.proofs.lemmas.List.{append_assoc}
use Rattle.refusals.specs.declared.Refusal.{Refusal}
use Rattle.rows.specs.Tables.{consed}
use Rattle.rows.specs.declared.Row.{Row}

abbrev pub prefixed : {X : Type 0} → List X → Result (List X) Refusal → Result (List X) Refusal
prefixed out (Ok xs) = Ok (out ++ xs)
prefixed out (Err e) = Err e

pub prefixed_none : {X : Type 0} (r : Result (List X) Refusal) → prefixed [] r ≡ r
prefixed_none (Ok xs) = refl
prefixed_none (Err e) = refl

pub prefixed_more : {V : Type 0} (out : List (Row V)) (x : Row V) (r : Result (List (Row V)) Refusal) → prefixed out (consed x r) ≡ prefixed (out ++ x ∷ []) r
prefixed_more out x (Ok xs) = ap Ok (sym (append_assoc out (x ∷ []) xs))
prefixed_more out x (Err e) = refl
