use Rattle.std.proofs.Common.{◌≡◌, [], replicate, inl, ap, ◌∙◌, mod-eq_of_lt, arith, rules}
use Rattle.std.specs.Iterator.Adapters.{enumerate_source, enumerate_count}
use Rattle.formats.specs.Drafts.{variables}
use Rattle.formats.specs.Keys.{pack}
use Rattle.formats.proofs.Keys.{sound, pack-unpack}
use Rattle.formats.proofs.Turns.{Unpacking, unpacking_none}
use Rattle.formats.proofs.format.Format.unpack.Goals as goal

begun : (c : goal.After-into_iter-i-iterator) → Unpacking (variables c.args.self.now) c.args.key (replicate 8 0) (enumerate_count c.into_iter-i-iterator.result) (enumerate_source c.into_iter-i-iterator.result)
begun c = unpacking_none (variables c.args.self.now) c.args.key _ _ (sound c.args.self.now).few (cc) cc

pub loop-i-init-derived : goal.loop-i-init-derived
loop-i-init-derived c = ((tt, tt, inl (omega (arith, (begun c).room))), tt)

pub loop-i-init : goal.loop-i-init
loop-i-init = begun

pub returns : goal.returns
returns c =
    let none : enumerate_source c.loop-i.i-iterator ≡ [] = search rules in
    let out = rw none at c.loop-i.invariant.made in
    record { exponents = out; back = λ low. ap (pack (variables c.args.self.now)) out ∙ pack-unpack (variables c.args.self.now) c.args.key _ ∙ mod-eq_of_lt low }
