-- The faulting bank: the bank below it with tallies of its own.
--   with_tally   a device with another tally
--   faulty       what the faulting bank shows
use Rattle.std.specs.Prelude.{ℕ, cond, List, nat_lt, slice_index}
use Rattle.device.specs.Device.{Device}
use Rattle.bank.specs.Banks.{BankModel}

-- a device with another tally
abbrev pub with_tally : Device → ℕ → Device
with_tally d t = record { count = d.count; level = d.level; linked = d.linked; code = d.code; tally = t }

-- the bank below with these tallies, by part
abbrev pub faulty : BankModel → List ℕ → BankModel
faulty m tallies = record {
  parts = m.parts;
  kind = m.kind;
  device = λ p. with_tally (m.device p) (cond (nat_lt p m.parts) (slice_index tallies p) 0);
}
