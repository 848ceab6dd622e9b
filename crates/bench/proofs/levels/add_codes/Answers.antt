use Rattle.std.proofs.Common.{Some, refl, arith, rules}
use Rattle.std.proofs.lemmas.Result.{on_ok_weaker}
use Rattle.std.proofs.lemmas.Iterator.{YieldsList-from_range, YieldsList-from_map}
use Rattle.std.proofs.lemmas.Iterator.Consumers.{YieldsList-at}
use Rattle.std.proofs.lemmas.Iterator.Adapters.{items_from_extend}
use Rattle.device.specs.Figures.{kind_of, codes_of, level_of}
use Rattle.listing.specs.Parts.{part_figures}
use Rattle.bench.specs.declared.line.Line.TheVariants.{Level}
use Rattle.bench.proofs.levels.add_codes.Goals as goal

pub returns : goal.returns
returns c =
    let f = part_figures c.args.part.now in
    on_ok_weaker c.extend.result (λ h. h.0)
    (items_from_extend c.extend.result c.extend.ensures.ran
    (YieldsList-from_map _ (λ n. Level (Some (kind_of f)) c.args.number n (level_of f n)) (YieldsList-at c.map.ensures.source (YieldsList-from_range 0 c.count.result (codes_of f) refl (omega (arith, c.count.ensures)))) c.map.ensures.closure (λ x r q k. search rules)))
