use Rattle.std.proofs.Common.{◌-◌, length}
use Rattle.listing.specs.Listed.{lists_of}
use Rattle.listing.specs.Lists.{nothing, admit}
use Rattle.table.proofs.OnTheWay.{OnTheWay}
use Rattle.listing.proofs.Listing.read.Given as goal

-- the records so far are taken in
abbrev pub invariant-records : goal.invariant-records
invariant-records l = OnTheWay admit nothing l.table l.reader.table.now (lists_of l.listing) l.reader.number l.reader.at

abbrev pub decreases-records : goal.decreases-records
decreases-records l = length l.reader.table.now - l.reader.at
