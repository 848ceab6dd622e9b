use Rattle.std.proofs.Common.{◌<◌, length, get_or, arith}
use Rattle.std.proofs.lemmas.List.{get_or_default}
use Rattle.listed.proofs.Putting.{putting_more}
use Rattle.listed.proofs.Listed.put.Goals as goal

pub loop-part-preserved : goal.loop-part-preserved
loop-part-preserved c =
    let qs = c.loop-part.part-items in
    let k = c.loop-part.part-index in
    let h : k < length qs = omega arith in
    let same = get_or_default qs k c.part-item.result (get_or qs k c.part-item.result) h in
    let set = c.set.ensures in
    putting_more _ _ k qs _ _ _ c.set.new.self h same c.count-count.ensures set.kind set.put c.loop-part.invariant
