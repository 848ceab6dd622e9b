-- The four supplied kinds of devices, by the figures that they are made from.
--   Figures     the figures of a device, by kind
--   kind_of     whether these are the figures of a rail or of a clock
--   codes_of    how many codes a device of these figures has
--   level_of    code to level: the conversion of each kind
--   linked_of   which codes one write joins
--   cause_of    why a device of these figures is refused: a list of a wrong length before a figure out of range
--   device_of   the device with these figures, at a present code and a tally
--   Made        what a constructor answers
use Rattle.std.specs.Prelude.{◌≡◌, ℕ, ◌+◌, ◌-◌, ◌*◌, ◌/◌, ◌%◌, Bool, true, cond, ◌&&◌, ◌||◌, List, length, Some, None, Ok, Err, Option, Result, ◌==◌, nat_le, nat_lt, slice_index}
use Rattle.std.specs.List.{list_all}
use Rattle.answer.specs.declared.refusal.Refusal.{Refusal}
use Rattle.answer.specs.declared.refusal.Refusal.TheVariants.{WrongLength, OutOfRange}
use Rattle.answer.specs.declared.fault.Fault.{Fault}
use Rattle.answer.specs.Faults.{table_fault}
use Rattle.device.specs.Device.{Device, any_two, Fresh}
use Rattle.device.specs.declared.kind.Kind.{Kind}
use Rattle.device.specs.declared.kind.Kind.TheVariants.{Rail, Clock}

-- the figures of a device: µV on a rail, kHz on a clock
pub data Figures : Type 0 where
  linear : (lowest step count : ℕ) → Figures
  listed : (levels : List ℕ) → Figures
  divider : (parent count : ℕ) → Figures
  tree : (divisors : ℕ) (parents : List ℕ) → Figures

-- a rail or a clock
abbrev pub kind_of : Figures → Kind
kind_of (linear lowest step count) = Rail
kind_of (listed levels) = Rail
kind_of (divider parent count) = Clock
kind_of (tree divisors parents) = Clock

-- a quotient, rounded up
abbrev pub rounded_up : ℕ → ℕ → ℕ
rounded_up a b = (a + (b - 1)) / b

-- how many codes: a tree clock has one for each parent and divisor
abbrev pub codes_of : Figures → ℕ
codes_of (linear lowest step count) = count
codes_of (listed levels) = length levels
codes_of (divider parent count) = count
codes_of (tree divisors parents) = length parents * divisors

-- the level of a code that the device has
abbrev pub formula : Figures → ℕ → ℕ
formula (linear lowest step count) c = lowest + c * step
formula (listed levels) c = slice_index levels c
formula (divider parent count) c = rounded_up parent (c + 1)
formula (tree divisors parents) c = rounded_up (slice_index parents (c / divisors)) (c % divisors + 1)

-- the level of a code, 0 for an absent one
abbrev pub level_of : Figures → ℕ → ℕ
level_of f c = cond (nat_lt c (codes_of f)) (formula f c) 0

-- two codes of a tree clock that differ only in the parent or only in the divisor
abbrev pub one_turn : ℕ → ℕ → ℕ → Bool
one_turn divisors a b = a / divisors == b / divisors || a % divisors == b % divisors

-- whether one write joins two codes: any two different ones, on a tree clock only one turn apart
abbrev pub linked_of : Figures → ℕ → ℕ → Bool
linked_of (linear lowest step count) a b = any_two count a b
linked_of (listed levels) a b = any_two (length levels) a b
linked_of (divider parent count) a b = any_two count a b
linked_of (tree divisors parents) a b = any_two (length parents * divisors) a b && one_turn divisors a b

-- a number from low to high
abbrev pub from_to : ℕ → ℕ → ℕ → Bool
from_to low high x = nat_le low x && nat_le x high

-- a level: 1 to 5,000,000
abbrev pub level_ok : ℕ → Bool
level_ok x = from_to 1 5000000 x

-- each of a list of levels
abbrev pub levels_ok : List ℕ → Bool
levels_ok xs = list_all level_ok xs

-- a table rail lists 1 to 64 levels, and a tree clock 1 to 8 parents
abbrev pub length_ok : Figures → Bool
length_ok (linear lowest step count) = true
length_ok (listed levels) = from_to 1 64 (length levels)
length_ok (divider parent count) = true
length_ok (tree divisors parents) = from_to 1 8 (length parents)

-- every figure in its range, every level too
abbrev pub ranged : Figures → Bool
ranged (linear lowest step count) = level_ok lowest && (from_to 1 5000000 step && (from_to 1 64 count && nat_le (lowest + (count - 1) * step) 5000000))
ranged (listed levels) = levels_ok levels
ranged (divider parent count) = level_ok parent && from_to 1 64 count
ranged (tree divisors parents) = from_to 1 8 divisors && levels_ok parents

-- why a device of these figures is refused, if it is
abbrev pub cause_of : Figures → Option Refusal
cause_of f = cond (length_ok f) (cond (ranged f) None (Some OutOfRange)) (Some WrongLength)

-- the device with these figures, at a present code and a tally
abbrev pub device_of : Figures → ℕ → ℕ → Device
device_of f code tally = record { count = codes_of f; level = level_of f; linked = linked_of f; code = code; tally = tally }

-- what a constructor answers: a fresh device of just these figures, or the fault for their cause
abbrev pub Made : {D : Type 0} → (D → Figures) → (D → Device) → Figures → Result D Fault → Type 0
Made figures model f (Ok d) = (cause_of f ≡ None) × (figures d ≡ f) × Fresh (model d)
Made figures model f (Err e) = (cause_of f ≡ Some e.refusal) × (e ≡ table_fault e.refusal 0)
