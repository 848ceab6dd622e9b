-- What a search for a level in a window answers: a code, or none.
--   Lies        a code below a bound has its level from low to high
--   Best        the lowest code of the lowest level in the window
--   Found       what is found among the codes below a bound
--   Sought      what is found among all codes of a device
--   Returned    a code that is no higher than another and has its level
--   RoundTrip   seeking exactly the level of a code finds that level again
use Rattle.std.specs.Prelude.{◌≡◌, ℕ, ◌<◌, ◌≤◌, Some, None, Option, ◌≢◌}
use Rattle.device.specs.Device.{Device}

-- code c is below n, and its level lies from low to high
abbrev pub Lies : ℕ → (ℕ → ℕ) → ℕ → ℕ → ℕ → Type 0
Lies n level low high c = (c < n) × (low ≤ level c) × (level c ≤ high)

-- of the codes below n, c is the lowest of the lowest level in the window
pub record Best (n : ℕ) (level : ℕ → ℕ) (low high c : ℕ) : Type 0 where
  pub lies : Lies n level low high c
  -- no level in the window is lower
  pub lowest : (b : ℕ) → Lies n level low high b → level c ≤ level b
  -- no lower code has that level
  pub first : (b : ℕ) → b < c → level b ≢ level c

-- the best of the codes below n, or none where no level lies in the window
abbrev pub Found : ℕ → (ℕ → ℕ) → ℕ → ℕ → Option ℕ → Type 0
Found n level low high None = (c : ℕ) → Lies n level low high c → ⊥
Found n level low high (Some c) = Best n level low high c

-- the best of a device's codes, or none
abbrev pub Sought : Device → ℕ → ℕ → Option ℕ → Type 0
Sought d low high r = Found d.count d.level low high r

-- a code that is no higher than c and has its level
abbrev pub Returned : Device → ℕ → Option ℕ → Type 0
Returned d c None = ⊥
Returned d c (Some e) = (e ≤ c) × (d.level e ≡ d.level c)

-- where low and high both are the level of a code, a code of that level is found, and no higher one
abbrev pub RoundTrip : Device → ℕ → ℕ → Option ℕ → Type 0
RoundTrip d low high r = (c : ℕ) → c < d.count → low ≡ d.level c → high ≡ d.level c → Returned d c r
