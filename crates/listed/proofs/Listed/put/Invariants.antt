use Rattle.listed.proofs.Putting.{Putting}
use Rattle.listed.proofs.Listed.put.Given as goal

-- the parts so far
abbrev pub invariant-loop-part : goal.invariant-loop-part
invariant-loop-part l = Putting l.initial.part-items l.state l.part-index l.part-items l.rest
