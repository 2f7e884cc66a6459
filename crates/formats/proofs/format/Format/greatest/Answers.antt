use Rattle.std.proofs.Common.{max, get_or, ap, ◌∙◌, arith, rules, map}
use Rattle.std.specs.List.{range_with_len}
use Rattle.formats.specs.Drafts.{variables}
use Rattle.formats.specs.Keys.{unpack}
use Rattle.formats.proofs.Arrays.{from_fn_is}
use Rattle.formats.proofs.Keys.{sound}
use Rattle.formats.proofs.Lists.{greater-filled}
use Rattle.formats.proofs.Turns.{length_unpack}
use Rattle.formats.proofs.format.Format.greatest.Goals as goal

pub returns : goal.returns
returns c =
    let u = unpack (variables c.args.self.now) c.args.key in
    from_fn_is _ _ (λ k. max (get_or c.args.most.now k 0) (get_or c.unpack-exponents.result k 0)) 8 (λ k h y q call. search rules) c.from_fn.result 0 c.from_fn.ensures.items
    ∙ ap (λ l. map (λ k. max (get_or c.args.most.now k 0) (get_or l k 0)) (range_with_len 0 8)) c.unpack-exponents.ensures.exponents
    ∙ greater-filled c.args.most.now u _ (search rules) (let s = sound c.args.self.now in omega (arith, length_unpack (variables c.args.self.now) c.args.key, s.few))
