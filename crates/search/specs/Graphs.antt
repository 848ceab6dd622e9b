-- What a search sees: states, which of them are lawful, and which two are joined.
--   GraphModel   a graph as its questions tell it
--   Meaning      what every graph keeps
--   passing      how many numbers below a bound pass a test
use Rattle.std.specs.Prelude.{◌≡◌, ℕ, zero, suc, ◌+◌, ◌<◌, ◌≤◌, Bool, true, cond, ◌≢◌}

-- a graph: how many states it has, which are lawful, which two one write joins
pub record GraphModel : Type 0 where
  pub states : ℕ
  pub lawful : ℕ → Bool
  pub joined : ℕ → ℕ → Bool

-- what every graph keeps
pub record Meaning (g : GraphModel) : Type 0 where
  -- at most 4,096 states, and only they can be lawful
  pub few : g.states ≤ 4096
  pub within : (s : ℕ) → g.lawful s ≡ true → s < g.states
  -- the relation is symmetric and joins only different lawful states
  pub symmetric : (s t : ℕ) → g.joined s t ≡ g.joined t s
  pub between : (s t : ℕ) → g.joined s t ≡ true → (g.lawful s ≡ true) × (g.lawful t ≡ true)
  pub different : (s t : ℕ) → g.joined s t ≡ true → s ≢ t

-- how many of the numbers below k pass a test
abbrev pub passing : (ℕ → Bool) → ℕ → ℕ
passing test zero = 0
passing test (suc k) = passing test k + cond (test k) 1 0
