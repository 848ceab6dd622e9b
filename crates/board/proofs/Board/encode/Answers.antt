use Rattle.std.proofs.Common.{◌≡◌, ap, ◌∙◌, rules, arith}
use Rattle.bank.specs.States.{counts}
use Rattle.board.specs.Layouts.{present_codes, encoded}
use Rattle.board.specs.Numbering.{small, some_codes}
use Rattle.board.proofs.Encoding.{made_all, made_room}
use Rattle.board.proofs.Board.encode.Goals as goal

pub fold-requires-clause-callable : goal.fold-requires-clause-callable
fold-requires-clause-callable g c =
    let m = g.B.Bank.model c.args.self.now.bank in
    let sound = g.met.B.Bank.sound c.args.self.now.bank in
    let first = c.rev.ensures.source ∙ ap (λ n. record { start = 0; end = n }) c.parts.ensures in
    let few = small m sound m.parts (omega arith) c.requires in
    record {
      at = λ xs t q x u y f e.
          let room = made_room (counts m) (present_codes m) m.parts _ (record { 0 = c.args.self }) (λ k a r h. search rules) xs c.rev.result t u q first y f (some_codes m sound) x e in
          search rules;
    }

-- the number of all codes
made : (g : _) (c : goal.After-fold g) → c.fold.result ≡ encoded (g.B.Bank.model c.args.self.now.bank)
made g c =
    let m = g.B.Bank.model c.args.self.now.bank in
    let ran = c.fold.ensures.ran in
    let first = c.rev.ensures.source ∙ ap (λ n. record { start = 0; end = n }) c.parts.ensures in
    made_all (counts m) (present_codes m) m.parts _ (record { 0 = c.args.self }) (λ k a q r. search rules) ran.0 c.rev.result ran.2.1.0 ran.2.0 (ran.1, c.fold.result) first ran.2.1.1 ran.3 ran.2.1.2

pub overflow_cast-result : goal.overflow_cast-result
overflow_cast-result g c =
    let m = g.B.Bank.model c.args.self.now.bank in
    let few = small m (g.met.B.Bank.sound c.args.self.now.bank) m.parts (omega arith) c.requires in
    let is = made g c in
    search rules

pub returns : goal.returns
returns g c = made g c
