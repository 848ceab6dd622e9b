use Rattle.std.proofs.Common.{◌/◌, length, w32, rules, tests}
use Rattle.std.specs.Int.{from_le_bytes}
use Rattle.std.specs.Simd.{first_chunks}
use Rattle.std.proofs.lemmas.Iterator.{YieldsList-from_slice, YieldsList-from_map}
use Rattle.std.proofs.lemmas.Iterator.Consumers.{YieldsList-from_copied}
use Rattle.std.proofs.lemmas.Iterator.Search.{all_from_yields_List}
use Rattle.device.specs.Figures.{level_ok}
use Rattle.table.proofs.Words.{words_chunks}
use Rattle.table.proofs.range.are_levels.Goals as goal

pub returns : goal.returns
returns c =
    let bs = c.args.bytes.now in
    rw words_chunks
    (all_from_yields_List level_ok _ _ _ c.all.ensures.ran
    (YieldsList-from_map _ (from_le_bytes w32) (YieldsList-from_copied (YieldsList-from_slice (first_chunks 4 (length bs / 4) bs) (cc))) (cc) (λ x r q k. search rules))
    (λ x b q k. search (rules, tests)))
