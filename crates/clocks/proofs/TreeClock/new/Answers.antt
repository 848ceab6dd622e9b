use Rattle.std.proofs.Common.{vec_items, arith, rules}
use Rattle.std.proofs.Math.Nat.{one-le-mul}
use Rattle.device.proofs.Levels.{levels_within}
use Rattle.clocks.proofs.TreeClock.new.Goals as goal

pub invariant_of-result-clause-low : goal.invariant_of-result-clause-low
invariant_of-result-clause-low c = λ k h. (levels_within (vec_items c.args.parents) (cc) k (search rules)).0

pub invariant_of-result-clause-high : goal.invariant_of-result-clause-high
invariant_of-result-clause-high c = λ k h. (levels_within (vec_items c.args.parents) (cc) k (search rules)).1

pub invariant_of-result-clause-within : goal.invariant_of-result-clause-within
invariant_of-result-clause-within c = grind (arith, one-le-mul)
