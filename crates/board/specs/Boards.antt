-- What a board tells: its states by number, and the graph that they make.
--   Numbered      what the present state's number tells: its digits are the present codes
--   Decoded       the codes of a state make it again
--   board_graph   what a search sees of a board
--   layout        the layout of a board over any bank
use Rattle.std.specs.Prelude.{◌≡◌, ℕ, ◌<◌, List}
use Rattle.std.specs.Vec.{vec_items}
use Rattle.table.specs.declared.rule.Rule.{Rule}
use Rattle.bank.specs.Banks.{BankModel}
use Rattle.bank.specs.States.{number}
use Rattle.search.specs.Graphs.{GraphModel}
use Rattle.board.specs.Layouts.{Layout, layout_of, states_of, code_at}
use Rattle.board.specs.Lawfulness.{is_lawful}
use Rattle.board.specs.Joining.{are_joined}
use Rattle.board.specs.declared.Board.{Board}

-- where there are states, the present one is among them, and decodes to the present code of each part
abbrev pub Numbered : BankModel → List Rule → ℕ → Type 0
Numbered m rules s =
    0 < states_of (layout_of m rules)
    → (s < states_of (layout_of m rules)) × ((p : ℕ) → p < m.parts → code_at (layout_of m rules) s p ≡ (m.device p).code)

-- the codes of a state of the board are codes of its parts, and encode to that state
abbrev pub Decoded : Layout → ℕ → Type 0
Decoded l s = s < states_of l → ((p : ℕ) → p < l.parts → code_at l s p < l.count p) × (number l.count (code_at l s) l.parts ≡ s)

-- a board's states, the lawful ones, and those that one write joins
abbrev pub board_graph : Layout → GraphModel
board_graph l = record { states = states_of l; lawful = is_lawful l; joined = are_joined l }

-- the layout of a board, by what its bank means
abbrev pub layout : {B : Type 0} {g : _} → (B → BankModel) → Board B g → Layout
layout model board = layout_of (model board.bank) (vec_items board.rules)
