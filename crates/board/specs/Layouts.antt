-- A board as no write changes it: a bank's parts with their codes, levels and one-write relations, and the rules.
--   Layout       the parts and the rules
--   layout_of    the layout of a bank under some rules
--   NoDefect     what a board without a defect has
--   verdict_of   the number of states, or the first defect: 7 no part, 5 too many, 6 a rule that names no fitting part
--   states_of    the number of states, 0 with a defect
--   code_at      the code of a part in a state
--   level_at     the level of a part in a state
--   present_codes   the present code of each part of a bank
--   encoded      the number of the present codes
--   present      the state number of a bank's present codes
--   present_state   the present state, if there is one
use Rattle.std.specs.Prelude.{ℕ, ◌≤◌, Bool, cond, ◌&&◌, List, length, Option, Ok, Err, Result, ◌==◌, nat_le, nat_lt}
use Rattle.std.specs.List.{list_all, AllByRecursion}
use Rattle.std.specs.Option.{option_map}
use Rattle.std.specs.Result.{result_ok, result_unwrap_or}
use Rattle.answer.specs.Answers.{no_state}
use Rattle.answer.specs.declared.refusal.Refusal.{Refusal}
use Rattle.answer.specs.declared.refusal.Refusal.TheVariants.{NoPart, TooMany, WrongPart}
use Rattle.device.specs.declared.kind.Kind.{Kind}
use Rattle.table.specs.Names.{names_ok, Names}
use Rattle.table.specs.declared.rule.Rule.{Rule}
use Rattle.bank.specs.Banks.{BankModel}
use Rattle.bank.specs.States.{weight, number, digit, counts}

-- what no write changes
pub record Layout : Type 0 where
  pub parts : ℕ
  pub kind : ℕ → Option Kind
  pub count : ℕ → ℕ
  pub level : ℕ → ℕ → ℕ
  pub linked : ℕ → ℕ → ℕ → Bool
  pub rules : List Rule

-- the layout of a bank under some rules
abbrev pub layout_of : BankModel → List Rule → Layout
layout_of m rules = record {
  parts = m.parts;
  kind = m.kind;
  count = λ p. (m.device p).count;
  level = λ p c. (m.device p).level c;
  linked = λ p a b. (m.device p).linked a b;
  rules = rules;
}

-- at most six parts, 24 rules and 4,096 states
abbrev pub fits : Layout → Bool
fits l = nat_le l.parts 6 && (nat_le (length l.rules) 24 && nat_le (weight l.count l.parts) 4096)

-- the number of states, which is the product of all counts, or the first defect
abbrev pub verdict_of : Layout → Result ℕ Refusal
verdict_of l =
    cond (l.parts == 0) (Err NoPart)
    (cond (fits l) (cond (list_all (names_ok l.kind) l.rules) (Ok (weight l.count l.parts)) (Err WrongPart)) (Err TooMany))

-- a board without a defect
pub record NoDefect (l : Layout) : Type 0 where
  -- 1 to 6 parts, at most 24 rules, at most 4,096 states
  pub some : 1 ≤ l.parts
  pub few : l.parts ≤ 6
  pub ruled : length l.rules ≤ 24
  pub bounded : weight l.count l.parts ≤ 4096
  -- each rule names rails and clocks that are there, and no rail twice
  pub named : AllByRecursion (Names l.kind) l.rules

-- the number of states, 0 with a defect
abbrev pub states_of : Layout → ℕ
states_of l = result_unwrap_or (verdict_of l) 0

-- the code of part p in state s, 0 for an absent part
abbrev pub code_at : Layout → ℕ → ℕ → ℕ
code_at l s p = cond (nat_lt p l.parts) (digit l.count s p) 0

-- the level of part p in state s, in µV or kHz
abbrev pub level_at : Layout → ℕ → ℕ → ℕ
level_at l s p = l.level p (code_at l s p)

-- the state of these codes, none with a defect
abbrev pub state_by : Result ℕ Refusal → ℕ → ℕ
state_by (Ok n) s = s
state_by (Err why) s = no_state

-- the present code of each part
abbrev pub present_codes : BankModel → ℕ → ℕ
present_codes m p = (m.device p).code

-- the number of the present codes
abbrev pub encoded : BankModel → ℕ
encoded m = number (counts m) (present_codes m) m.parts

-- the present state of a bank under some rules
abbrev pub present : BankModel → List Rule → ℕ
present m rules = state_by (verdict_of (layout_of m rules)) (encoded m)

-- the present state of a bank under some rules, none with a defect
abbrev pub present_state : BankModel → List Rule → Option ℕ
present_state m rules = option_map (λ _. encoded m) (result_ok (verdict_of (layout_of m rules)))
