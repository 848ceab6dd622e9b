use Rattle.std.proofs.Common.{◌≡◌, ◌+◌, sym, ◌∙◌, arith, rules}
use Rattle.bank.specs.States.{counts}
use Rattle.board.specs.declared.change.Change.TheVariants.{Several}
use Rattle.board.specs.Numbering.{rest_next}
use Rattle.board.specs.Changes.{change_more, several_stays}
use Rattle.board.proofs.Board.change.Goals as goal

pub returns-then-eq : goal.returns-then-eq
returns-then-eq g c =
    let m = g.B.Bank.model c.args.self.now.bank in
    let several : c.with-change.result ≡ Several = search rules in
    let more = change_more (counts m) c.args.from c.args.to c.parts.part c.parts.a c.parts.b c.count-count.result c.parts.change c.with-change.result
    c.parts.invariant.0 c.parts.invariant.1 c.count-count.ensures c.parts.invariant.2 c.with-change.ensures in
    several ∙ sym (several_stays (counts m) c.args.from c.args.to (c.parts.part + 1) m.parts (omega (arith, c.parts-part-end.ensures)) (sym more ∙ several))

pub parts-preserved : goal.parts-preserved
parts-preserved g c = grind (arith, rest_next, change_more)
