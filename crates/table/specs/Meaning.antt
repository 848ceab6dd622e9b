-- What the reader's values mean.
--   meant   the record that a value of the reader stands for
--   Own     what a record lists stands in the table's own bytes
--   First   what the reader answers at the front of some bytes
--   Next    what the reader answers at its cursor, and where it leaves the cursor
use Rattle.std.specs.Prelude.{◌≡◌, ℕ, ◌+◌, ◌-◌, ◌≤◌, List, length, take, drop, Some, None, Ok, Err, Option, Result}
use Rattle.answer.specs.declared.refusal.Refusal.{Refusal}
use Rattle.answer.specs.declared.fault.Fault.{Fault}
use Rattle.answer.specs.Faults.{table_fault}
use Rattle.device.specs.Figures.{linear, listed, divider, tree}
use Rattle.table.specs.Bytes.{words}
use Rattle.table.specs.Records.{Rec, part, rule}
use Rattle.table.specs.Reading.{front, framed, finished, found, refused}
use Rattle.table.specs.declared.kind.RecordKind.{RecordKind}
use Rattle.table.specs.declared.record.Placed.{Placed}
use Rattle.table.specs.declared.record.Record.{Record}
use Rattle.table.specs.declared.record.Record.TheVariants.{LinearRail, TableRail, DividerClock, TreeClock, Rule}

-- the record that a value of the reader stands for: listed levels are read from the table's own bytes
abbrev pub meant : Record → Rec
meant (LinearRail lowest step count) = part (linear lowest step count)
meant (TableRail levels) = part (listed (words levels.now))
meant (DividerClock parent count) = part (divider parent count)
meant (TreeClock divisors parents) = part (tree divisors (words parents.now))
meant (Rule r) = rule r

-- the listed bytes of a record are a part of its body: all of it, or all but the divisors
abbrev pub Own : Record → List ℕ → Type 0
Own (LinearRail lowest step count) body = Unit {0}
Own (TableRail levels) body = levels.now ≡ body
Own (DividerClock parent count) body = Unit {0}
Own (TreeClock divisors parents) body = parents.now ≡ drop 1 body
Own (Rule r) body = Unit {0}

-- the body of a record of that many bytes at the front
abbrev pub body_at : List ℕ → ℕ → List ℕ
body_at bs size = take (size - 4) (drop 4 bs)

-- what is answered of a record of a known kind, by the length that it states
abbrev pub Framed : RecordKind → ℕ → List ℕ → Result (Record × ℕ) Refusal → Type 0
Framed kind size bs (Ok r) = (framed size bs (Some kind) ≡ found (meant r.0) r.1) × (4 ≤ r.1) × (r.1 ≤ length bs) × Own r.0 (body_at bs r.1)
Framed kind size bs (Err why) = framed size bs (Some kind) ≡ refused why

-- what is answered at the front of some bytes: a record, with its size, lies within them
abbrev pub First : List ℕ → Result (Option (Record × ℕ)) Refusal → Type 0
First bs (Ok None) = front bs ≡ finished
First bs (Ok (Some r)) = (front bs ≡ found (meant r.0) r.1) × (4 ≤ r.1) × (r.1 ≤ length bs) × Own r.0 (body_at bs r.1)
First bs (Err why) = front bs ≡ refused why

-- what is answered at the cursor: the record with its number and offset, and the cursor behind it; at the end and at
-- a fault the cursor stays, and the fault tells the record's number
abbrev pub Next : List ℕ → ℕ → ℕ → Result (Option Placed) Fault → ℕ → ℕ → Type 0
Next bs number at (Ok None) number' at' = (front (drop at bs) ≡ finished) × (number' ≡ number) × (at' ≡ at)
Next bs number at (Ok (Some p)) number' at' =
    (p.number ≡ number) × (p.offset ≡ at) × (number' ≡ number + 1)
    × ((size : ℕ) × (front (drop at bs) ≡ found (meant p.record) size) × (at' ≡ at + size) × Own p.record (body_at (drop at bs) size))
Next bs number at (Err fault) number' at' =
    (front (drop at bs) ≡ refused fault.refusal) × (fault ≡ table_fault fault.refusal number) × (number' ≡ number) × (at' ≡ at)
