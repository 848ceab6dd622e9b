-- Which states are lawful. Levels are in µV on rails and kHz on clocks; a step says nothing of a state by itself.
--   apart       how far two levels differ
--   holds       whether a rule holds in a state
--   is_lawful   whether a state is lawful
--   Holds       a rule holds in a state
--   Lawful      a state is lawful
use Rattle.std.specs.Prelude.{ℕ, ◌+◌, ◌-◌, ◌<◌, ◌≤◌, Bool, true, cond, ◌&&◌, nat_le, nat_lt}
use Rattle.std.specs.List.{list_all, AllByRecursion}
use Rattle.table.specs.declared.rule.Rule.{Rule}
use Rattle.table.specs.declared.rule.Rule.TheVariants.{Window, Spread, Step, Need, Cap}
use Rattle.board.specs.Layouts.{Layout, states_of, level_at}

-- how far two levels differ
abbrev pub apart : ℕ → ℕ → ℕ
apart a b = (a - b) + (b - a)

-- whether a rule holds in state s: both ends of a window are in it, and a need begins just above its limit
abbrev pub holds : Layout → ℕ → Rule → Bool
holds l s (Window rail floor ceiling) = nat_le floor (level_at l s rail) && nat_le (level_at l s rail) ceiling
holds l s (Spread rail other most) = nat_le (apart (level_at l s rail) (level_at l s other)) most
holds l s (Step rail most) = true
holds l s (Need clock above rail least) = cond (nat_lt above (level_at l s clock)) (nat_le least (level_at l s rail)) true
holds l s (Cap clock most) = nat_le (level_at l s clock) most

-- whether state s is lawful: it is one of the board's, and every rule holds
abbrev pub is_lawful : Layout → ℕ → Bool
is_lawful l s = nat_lt s (states_of l) && list_all (holds l s) l.rules

-- two levels differ by at most this
abbrev pub Near : ℕ → ℕ → ℕ → Type 0
Near most a b = (a ≤ b + most) × (b ≤ a + most)

-- a rule holds in state s
abbrev pub Holds : Layout → ℕ → Rule → Type 0
Holds l s (Window rail floor ceiling) = (floor ≤ level_at l s rail) × (level_at l s rail ≤ ceiling)
Holds l s (Spread rail other most) = Near most (level_at l s rail) (level_at l s other)
Holds l s (Step rail most) = Unit {0}
Holds l s (Need clock above rail least) = above < level_at l s clock → least ≤ level_at l s rail
Holds l s (Cap clock most) = level_at l s clock ≤ most

-- a state is lawful: its number is below the number of states, and every rule holds
pub record Lawful (l : Layout) (s : ℕ) : Type 0 where
  pub below : s < states_of l
  pub keeps : AllByRecursion (Holds l s) l.rules
