use Rattle.std.proofs.Common.{rules}
use Rattle.std.proofs.lemmas.Bool.Decides.{Decides-at}
use Rattle.board.specs.Boards.{layout}
use Rattle.board.specs.Lawfulness.{is_lawful}
use Rattle.board.specs.Deciding.{decides_lawful}
use Rattle.board.proofs.graph.BoardGraph.lawful.Goals as goal

pub returns-then-from-states-clause-decides : goal.returns-then-from-states-clause-decides
returns-then-from-states-clause-decides g c =
    let l = layout g.B.Bank.model c.args.self.now in
    Decides-at _ (is_lawful l c.args.state) (search rules) (decides_lawful l c.args.state)
