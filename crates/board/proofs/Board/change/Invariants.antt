use Rattle.std.proofs.Common.{◌≡◌, ◌/◌}
use Rattle.bank.specs.States.{weight, counts}
use Rattle.board.specs.Joining.{change}
use Rattle.board.proofs.Board.change.Given as goal

-- what is left of the two state numbers, and where they differ so far
abbrev pub invariant-parts : goal.invariant-parts
invariant-parts g l =
    (l.a ≡ l.from / weight (counts (g.B.Bank.model l.self.bank)) l.part)
    × (l.b ≡ l.to / weight (counts (g.B.Bank.model l.self.bank)) l.part)
    × (l.change ≡ change (counts (g.B.Bank.model l.self.bank)) l.from l.to l.part)
