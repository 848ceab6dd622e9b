-- A quotient that is rounded up: what it means, and its range.
use Rattle.std.specs.Prelude.{◌≡◌, ℕ, ◌+◌, ◌-◌, ◌*◌, ◌/◌, ◌%◌, ◌<◌, ◌≤◌, min}
use Rattle.std.proofs.Common.{inl, inr, arith, add-mul}
use Rattle.std.proofs.lemmas.Bool.{cases_lt}
use Rattle.std.proofs.Math.Nat.{mul-le-mul_left}
use Rattle.std.proofs.lemmas.Nat.{div-add-mod', mod_below, div-mul-add, div_below, le-div}
use Rattle.device.specs.Figures.{rounded_up}

-- the least number of divisors that reach the rate
pub rounded_least : (a b r : ℕ) → r ≡ rounded_up a b → 0 < b → (a ≤ r * b) × (r * b < a + b)
rounded_least a b r e h =
    let whole = div-add-mod' (a + (b - 1)) b in
    let rest = mod_below (a + (b - 1)) b h in
    (grind arith, grind arith)

-- the quotient, and one more where something is left
pub rounded_parts : (a b : ℕ) → 0 < b → a / b + min 1 (a % b) ≡ rounded_up a b
rounded_parts a b h =
    let whole = div-add-mod' a b in
    let rest = mod_below a b h in
    elim (cases_lt 0 (a % b)) [
      | inl some ↦
          let more : (a / b + 1) * b ≡ a / b * b + b = omega (arith, add-mul (a / b) 1 b) in
          let got = div-mul-add (a / b + 1) b (a % b - 1) (omega arith) in
          grind arith
      | inr none ↦
          let got = div-mul-add (a / b) b (b - 1) (omega arith) in
          grind arith
    ]

-- a rate in range stays in range
pub rounded_within : (a b : ℕ) → 0 < b → 1 ≤ a → a ≤ 5000000 → (1 ≤ rounded_up a b) × (rounded_up a b ≤ 5000000)
rounded_within a b h low high =
    let one = le-div 1 (a + (b - 1)) b h (omega arith) in
    let below = div_below (a + (b - 1)) b (a + 1) h (grind (arith, mul-le-mul_left)) in
    (one, omega arith)
