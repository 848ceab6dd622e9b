use Rattle.std.proofs.Common.{◌+◌, arith}
use Rattle.std.proofs.lemmas.Bool.Decides.{nat_tests}
use Rattle.bank.specs.States.{counts}
use Rattle.bank.proofs.Digits.{weight_grows}
use Rattle.bank.proofs.states.product.Goals as goal

pub returns-then-states-gt-MOST_STATES : goal.returns-then-states-gt-MOST_STATES
returns-then-states-gt-MOST_STATES g c =
    let m = g.B.Bank.model c.args.bank.now in
    let s = g.met.B.Bank.sound c.args.bank.now in
    let grows = weight_grows (counts m) (c.parts.part + 1) m.parts (omega (arith, c.parts-part-end.ensures)) (λ q h. (s.sound q h).some) in
    grind (arith, nat_tests)
