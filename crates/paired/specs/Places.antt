-- Where a part of a pair stands.
--   Stands   the bank of a pair that has a part, and the part's number there
use Rattle.std.specs.Prelude.{◌≡◌, ℕ, ◌-◌, ◌<◌, ◌≤◌, Option, Some, None}
use Rattle.bank.specs.Banks.{BankModel}
use Rattle.paired.specs.declared.Place.{Place}
use Rattle.paired.specs.declared.Place.TheVariants.{First, Second}

-- part p of a pair whose first bank is a: shown below 32, in the first bank below the number of its parts
abbrev pub Stands : BankModel → ℕ → Option Place → Type 0
Stands a p None = 32 ≤ p
Stands a p (Some (First q)) = (p < 32) × (p < a.parts) × (q ≡ p)
Stands a p (Some (Second q)) = (p < 32) × (a.parts ≤ p) × (q ≡ p - a.parts)
