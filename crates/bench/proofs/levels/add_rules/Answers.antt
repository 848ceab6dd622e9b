use Rattle.std.proofs.Common.{rules, vec_items}
use Rattle.std.proofs.lemmas.Result.{on_ok_weaker}
use Rattle.std.proofs.lemmas.Iterator.{YieldsList-from_slice, YieldsList-from_map}
use Rattle.std.proofs.lemmas.Iterator.Consumers.{YieldsList-at}
use Rattle.std.proofs.lemmas.Iterator.Adapters.{items_from_extend}
use Rattle.bench.specs.declared.line.Line.TheVariants.{Rule}
use Rattle.bench.proofs.levels.add_rules.Goals as goal

pub returns : goal.returns
returns c =
    on_ok_weaker c.extend.result (λ h. h.0)
    (items_from_extend c.extend.result c.extend.ensures.ran
    (YieldsList-from_map _ (λ r. Rule r) (YieldsList-at c.map.ensures.source (YieldsList-from_slice (vec_items c.args.listing.now.rules) cc)) c.map.ensures.closure (λ x r q k. search rules)))
