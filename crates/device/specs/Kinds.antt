-- A part is of one kind.
use Rattle.std.specs.Prelude.{◌≡◌, ℕ}
use Rattle.std.proofs.Common.{arith}
use Rattle.device.specs.declared.kind.Kind.{Kind}
use Rattle.device.specs.declared.kind.Kind.TheVariants.{Rail, Clock}

-- a clock is no rail
pub clock_no_rail : ◌≡◌ {A = Kind} Clock Rail → ⊥
clock_no_rail e = let z : ◌≡◌ {A = ℕ} 0 1 = cc in omega arith
