use Rattle.std.proofs.Common.{ℕ, zero, suc, ◌^◌, ◌<◌, get_or, replicate, arith}
use Rattle.faults.proofs.tallies.Tallies.new.Goals as goal

-- nothing counted anywhere
none_counted : (n p : ℕ) → get_or {A = ℕ} (replicate n 0) p 0 < 2 ^ 64
none_counted zero p = omega arith
none_counted (suc n) zero = omega arith
none_counted (suc n) (suc p) = none_counted n p

pub invariant_of-result : goal.invariant_of-result
invariant_of-result c = record { counted = none_counted 32 }
