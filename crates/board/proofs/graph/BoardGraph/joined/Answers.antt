use Rattle.std.proofs.Common.{rules}
use Rattle.std.proofs.lemmas.Bool.Decides.{Decides-at}
use Rattle.board.specs.Boards.{layout}
use Rattle.board.specs.Joining.{are_joined}
use Rattle.board.specs.Joins.{decides_joined}
use Rattle.board.proofs.graph.BoardGraph.joined.Goals as goal

pub returns-then-lawful-clause-decides : goal.returns-then-lawful-clause-decides
returns-then-lawful-clause-decides g c =
    let l = layout g.B.Bank.model c.args.self.now in
    Decides-at _ (are_joined l c.args.from c.args.to) (search rules) (decides_joined l c.args.from c.args.to)

pub returns-else-lawful-clause-decides : goal.returns-else-lawful-clause-decides
returns-else-lawful-clause-decides g c =
    let l = layout g.B.Bank.model c.args.self.now in
    Decides-at _ (are_joined l c.args.from c.args.to) (search rules) (decides_joined l c.args.from c.args.to)
