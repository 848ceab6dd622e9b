use Rattle.std.proofs.Common.{vec_items, sym, ap, ◌∙◌}
use Rattle.board.specs.Layouts.{verdict_of}
use Rattle.board.proofs.Landing.{same_layout, moved, one_digit}
use Rattle.board.proofs.Board.write.Goals as goal

pub returns-clause-digit : goal.returns-clause-digit
returns-clause-digit g c =
    let b = c.args.self.now in
    one_digit (g.B.Bank.model b.bank) _ (vec_items b.rules) c.args.part c.args.code c.write.result (g.met.B.Bank.sound b.bank) (g.met.B.Bank.sound c.write.new.self) c.write.ensures

pub returns-clause-moved : goal.returns-clause-moved
returns-clause-moved g c =
    let b = c.args.self.now in
    moved (g.B.Bank.model b.bank) _ (vec_items b.rules) c.args.part c.args.code c.write.result (g.met.B.Bank.sound b.bank) c.write.ensures

pub invariant_of-self : goal.invariant_of-self
invariant_of-self g c =
    let b = c.args.self.now in
    record {
      judged = b.judged ∙ sym (ap verdict_of (same_layout (g.B.Bank.model b.bank) (g.B.Bank.model c.write.new.self) (vec_items b.rules) c.args.part c.args.code c.write.result c.write.ensures));
    }
