use Rattle.std.proofs.Common.{◌-◌, length, vec_items}
use Rattle.table.proofs.Going.{Going}
use Rattle.table.proofs.reading.records.Given as goal

abbrev pub invariant-records : goal.invariant-records
invariant-records l = Going l.table l.reader.table.now (vec_items l.all) l.reader.number l.reader.at

abbrev pub decreases-records : goal.decreases-records
decreases-records l = length l.reader.table.now - l.reader.at
