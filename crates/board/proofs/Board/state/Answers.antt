use Rattle.std.proofs.Common.{vec_items, subst, sym, rules}
use Rattle.board.specs.Boards.{Numbered}
use Rattle.board.specs.Numbering.{present_numbered}
use Rattle.board.proofs.Board.state.Goals as goal

pub returns-clause-numbered : goal.returns-clause-numbered
returns-clause-numbered g c =
    let b = c.args.self.now in
    let m = g.B.Bank.model b.bank in
    subst (Numbered m (vec_items b.rules)) (sym (search rules)) (present_numbered m (g.met.B.Bank.sound b.bank) (vec_items b.rules))
