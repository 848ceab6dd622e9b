-- A bank with tallies of its own keeps what every bank keeps.
use Rattle.std.specs.Prelude.{ℕ, ◌^◌, ◌<◌, List, nat_lt, slice_index}
use Rattle.std.proofs.Common.{ap₂, arith}
use Rattle.std.proofs.lemmas.Bool.{cond_both, cond-false, le-ltb}
use Rattle.device.specs.Device.{Device}
use Rattle.device.specs.Device as device
use Rattle.bank.specs.Banks.{BankModel, Sound}
use Rattle.faults.specs.Faulty.{with_tally, faulty}

-- another tally of 64 bits
tally_sound : (d : Device) (t : ℕ) → t < 2 ^ 64 → device.Sound d → device.Sound (with_tally d t)
tally_sound d t h s = record {
  some = s.some;
  few = s.few;
  low = s.low;
  high = s.high;
  absent = s.absent;
  within = s.within;
  counted = h;
  symmetric = s.symmetric;
  from_code = s.from_code;
  to_code = s.to_code;
  different = s.different;
}

pub faulty_sound : (m : BankModel) (tallies : List ℕ) → ((p : ℕ) → slice_index tallies p < 2 ^ 64) → Sound m → Sound (faulty m tallies)
faulty_sound m tallies counted s = record {
  few = s.few;
  present = s.present;
  absent = s.absent;
  sound = λ p h. tally_sound (m.device p) _ (cond_both (nat_lt p m.parts) (slice_index tallies p) 0 (λ t. t < 2 ^ 64) (λ _. counted p) (λ _. omega arith)) (s.sound p h);
  nothing = λ p h. ap₂ with_tally (s.nothing p h) (cond-false (nat_lt p m.parts) (slice_index tallies p) 0 (le-ltb p m.parts h));
  free = s.free;
}
