use Rattle.std.proofs.Common.{◌++◌, map, vec_items, append_assoc, arith}
use Rattle.std.proofs.lemmas.List.{at_drop_more, at_drop_all, append-nil}
use Rattle.listing.specs.Parts.{part_figures}
use Rattle.bench.specs.Listing.{part_lines}
use Rattle.bench.proofs.levels.add_parts.Goals as goal

pub parts-preserved : goal.parts-preserved
parts-preserved c =
    let n = c.parts.number in
    let d = at_drop_more (λ ys. vec_items c.parts.lines ++ part_lines n (map part_figures ys)) c.parts-parts.result.now n c.index-parts-number.result c.parts-test.true in
    grind (arith, append_assoc)

pub returns : goal.returns
returns c =
    let d = at_drop_all (λ ys. part_lines c.parts.number (map part_figures ys)) c.parts-parts.result.now c.parts.number c.parts-test.false in
    grind (arith, append-nil)
