-- The places of fields in a key, and what is read at them. Assumes nothing.
--     place_some        the place of the variable that is the first of those left
--     unpack-places     the exponents of a key, read at the places
--     exponent_place    one exponent, read at its place
--     unit_place        the key of a variable by itself is a power of two
use Rattle.std.proofs.Common.{◌≡◌, ℕ, zero, suc, ◌*◌, ◌%◌, ◌^◌, ◌<◌, ◌≤◌, true, ltb, List, [], ◌∷◌, map, length, drop, Some, None, Option, Ok, sym, refl, ap, ◌∙◌, one-mul, zero-mul, arith}
use Rattle.std.specs.List.{slice_get}
use Rattle.std.specs.Option.{option_map, unwrap_or, ok_or}
use Rattle.std.proofs.lemmas.Bool.{lt-ltb, le-ltb, cond-true, cond-false}
use Rattle.std.proofs.lemmas.Nat.{one_shl}
use Rattle.std.proofs.lemmas.Option.{slice_get-map, unwrap_or-slice_get}
use Rattle.refusals.specs.declared.Refusal.TheVariants.{Variable as NotInFormat}
use Rattle.formats.specs.Variables.{total, lawful}
use Rattle.formats.specs.Exponents.{exponent}
use Rattle.formats.specs.Keys.{pack, unpack, field, places, alone, unit}
use Rattle.formats.specs.declared.field.Field.{Field}
use Rattle.formats.specs.declared.variable.Variable.{Variable}
use Rattle.formats.proofs.Keys.{width_at, lawful_rest, pack-zeros}

pub place_some : (vs : List Variable) (i : ℕ) (v : Variable) (us : List Variable) → drop i vs ≡ v ∷ us → slice_get (places vs) i ≡ Some (total us, v.width)
place_some [] zero v us e = absurd cc
place_some [] (suc i) v us e = absurd cc
place_some (w ∷ vs) zero v us e = cc
place_some (w ∷ vs) (suc i) v us e = place_some vs i v us e

pub place_past : (vs : List Variable) (i : ℕ) → length vs ≤ i → slice_get (places vs) i ≡ None
place_past [] i h = refl
place_past (v ∷ vs) zero h = absurd (omega arith)
place_past (v ∷ vs) (suc i) h = place_past vs i (omega arith)

pub place_fits : (vs : List Variable) (i : ℕ) (v : Variable) (us : List Variable) → lawful vs ≡ true → total vs ≤ 64 → drop i vs ≡ v ∷ us → (total us < 64) × (v.width ≤ 16)
place_fits [] zero v us l n e = absurd cc
place_fits [] (suc i) v us l n e = absurd cc
place_fits (w ∷ vs) zero v us l n e =
    let wide = width_at (v ∷ us) 0 (ap lawful (sym e) ∙ l) (omega arith) in
    (omega (arith, ap total e, wide.0), wide.1)
place_fits (w ∷ vs) (suc i) v us l n e = place_fits vs i v us (lawful_rest w vs l) (omega arith) e

pub unpack-places : (vs : List Variable) (k : ℕ) → map (λ p. field p.0 p.1 k) (places vs) ≡ unpack vs k
unpack-places [] k = refl
unpack-places (v ∷ vs) k = ap (λ l. field (total vs) v.width k ∷ l) (unpack-places vs k)

read_place : (k : ℕ) (o : Option Field) → option_map (λ (p : ℕ × ℕ). field p.0 p.1 k) (option_map (λ f. (f.shift, f.width)) o) ≡ option_map (λ f. field f.shift f.width k) o
read_place k None = refl
read_place k (Some f) = refl

pub exponent_place : (vs : List Variable) (k i : ℕ) (o : Option Field) → option_map (λ f. (f.shift, f.width)) o ≡ slice_get (places vs) i → exponent i (unpack vs k) ≡ unwrap_or (option_map (λ f. field f.shift f.width k) o) 0
exponent_place vs k i o e =
    let read = λ (p : ℕ × ℕ). field p.0 p.1 k in
    ap (exponent i) (sym (unpack-places vs k))
    ∙ sym (unwrap_or-slice_get (map read (places vs)) i 0)
    ∙ ap (λ p. unwrap_or p 0) (slice_get-map read (places vs) i ∙ ap (option_map read) (sym e) ∙ read_place k o)

alone_place : (vs : List Variable) (i : ℕ) (p : ℕ × ℕ) → slice_get (places vs) i ≡ Some p → (i < length vs) × (pack vs (alone (length vs) i) ≡ 2 ^ p.0)
alone_place [] i p e = absurd cc
alone_place (v ∷ vs) zero p e =
    let q : ◌≡◌ {A = ℕ × ℕ} (total vs, v.width) p = cc in
    (omega arith, omega (arith, pack-zeros vs (length vs), one-mul (2 ^ total vs)) ∙ ap (λ m. 2 ^ m.0) q)
alone_place (v ∷ vs) (suc i) p e =
    let r = alone_place vs i p e in
    (omega (arith, r.0), omega (arith, r.1, zero-mul (2 ^ total vs)))

past_place : (vs : List Variable) (i : ℕ) → slice_get (places vs) i ≡ None → length vs ≤ i
past_place [] i e = omega arith
past_place (v ∷ vs) zero e = absurd cc
past_place (v ∷ vs) (suc i) e = omega (arith, past_place vs i e)

pub unit_place : (vs : List Variable) (i : ℕ) (o : Option Field) → option_map (λ f. (f.shift, f.width)) o ≡ slice_get (places vs) i → unit vs i ≡ ok_or (option_map (λ f. (1 * 2 ^ f.shift) % 2 ^ 64) o) NotInFormat
unit_place vs i None e = cond-false (ltb i (length vs)) _ _ (le-ltb i (length vs) (past_place vs i (sym e)))
unit_place vs i (Some f) e =
    let p = alone_place vs i (f.shift, f.width) (sym e) in
    cond-true (ltb i (length vs)) _ _ (lt-ltb i (length vs) p.0) ∙ ap Ok (p.1 ∙ sym (one_shl f.shift 64 f.low))
