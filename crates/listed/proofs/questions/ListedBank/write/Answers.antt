use Rattle.std.proofs.Common.{vec_items, rules}
use Rattle.listed.proofs.Changed.{part_written, written_at}
use Rattle.listed.proofs.questions.ListedBank.write.Goals as goal

pub returns-in-Some-clause-written : goal.returns-in-Some-clause-written
returns-in-Some-clause-written c =
    let ps = vec_items c.args.self.now.parts in
    let w = c.write.ensures in
    let got = c.in-Some.ensures in
    let written = part_written ps _ c.in-Some.device.now c.write.new.self got.item.3.0 got.value w.kind c.args.code c.write.result w.written in
    written_at written (search rules)
