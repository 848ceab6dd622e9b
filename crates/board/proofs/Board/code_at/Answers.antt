use Rattle.std.proofs.Common.{◌/◌, ◌%◌, vec_items, sym, ◌∙◌, ap₂, arith, rules}
use Rattle.std.proofs.lemmas.Iterator.{YieldsList-from_range}
use Rattle.std.proofs.lemmas.Iterator.Consumers.{fold_from_yields_List}
use Rattle.bank.specs.States.{counts}
use Rattle.board.specs.Boards.{layout}
use Rattle.board.specs.Numbering.{code_there, decoded, rest_past}
use Rattle.board.proofs.Board.code_at.Goals as goal

pub returns-then-part-parts-clause-decoded : goal.returns-then-part-parts-clause-decoded
returns-then-part-parts-clause-decoded g c =
    let b = c.args.self.now in
    decoded (g.B.Bank.model b.bank) (g.met.B.Bank.sound b.bank) (vec_items b.rules) c.args.state

pub returns-clause-code : goal.returns-clause-code
returns-clause-code g c =
    let b = c.args.self.now in
    let m = g.B.Bank.model b.bank in
    let rest = fold_from_yields_List _ (λ rest p. rest / counts m p) c.args.state c.fold-rest.result c.fold-rest.ensures.ran
    (YieldsList-from_range 0 c.args.part c.args.part (cc) (omega arith)) (λ a x r f k. search rules) in
    ap₂ (λ x y. x % y) (rest ∙ rest_past (counts m) c.args.state c.args.part) c.count.ensures
    ∙ sym (code_there (layout g.B.Bank.model b) c.args.state c.args.part (omega (arith, c.parts.ensures)))

pub returns-clause-decoded : goal.returns-clause-decoded
returns-clause-decoded g c =
    let b = c.args.self.now in
    decoded (g.B.Bank.model b.bank) (g.met.B.Bank.sound b.bank) (vec_items b.rules) c.args.state
