use Rattle.std.proofs.Common.{◌≡◌, ◌≤◌}
use Rattle.bank.specs.States.{weight, counts}
use Rattle.bank.proofs.states.product.Given as goal

-- the product so far, within the most states
abbrev pub invariant-parts : goal.invariant-parts
invariant-parts g l = (l.states ≡ weight (counts (g.B.Bank.model l.bank)) l.part) × (l.states ≤ 4096)
