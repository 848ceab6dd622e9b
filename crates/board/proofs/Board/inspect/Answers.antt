use Rattle.std.proofs.Common.{rules}
use Rattle.board.specs.Boards.{layout}
use Rattle.board.specs.Verdicts.{finds_none}
use Rattle.board.proofs.Board.inspect.Goals as goal

pub returns-clause-none : goal.returns-clause-none
returns-clause-none g c = finds_none (layout g.B.Bank.model c.args.self.now) _ (search rules)
