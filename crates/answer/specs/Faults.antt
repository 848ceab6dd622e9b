-- Faults of the table layer.
--   table_fault    a refusal at a record
--   memory_fault   want of memory, wherever a call allocates
--   part_number    the number of a fault's part outside
use Rattle.std.specs.Prelude.{ℕ, Option, Some, None}
use Rattle.answer.specs.declared.fault.Fault.{Fault}
use Rattle.answer.specs.declared.refusal.Refusal.{Refusal}
use Rattle.answer.specs.declared.refusal.Refusal.TheVariants.{NoMemory}
use Rattle.answer.specs.declared.layer.Layer.TheVariants.{Table}

-- the table layer refuses at this record, and names no part
abbrev pub table_fault : Refusal → ℕ → Fault
table_fault why at = record { refusal = why; layer = Table; part = None; place = at }

-- want of memory
abbrev pub memory_fault : Fault
memory_fault = table_fault NoMemory 0

-- the number of a fault's part outside, 255 for none
abbrev pub part_number : Option ℕ → ℕ
part_number (Some p) = p
part_number None = 255
