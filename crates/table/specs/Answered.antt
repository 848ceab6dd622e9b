-- What the reading of a whole table answers.
--   PlacedFrom            records at their numbers and offsets
--   SentBack              a fault, against the definition of what is read
--   RecordsRead           the records answered are those that the bytes are read as
--   Exactly, OnlyMemory   accepted exactly when the bytes are those of records in range, and then just these are answered
use Rattle.std.specs.Prelude.{◌≡◌, ℕ, ◌+◌, ◌⊎◌, List, [], ◌∷◌, map, length}
use Rattle.answer.specs.declared.fault.Fault.{Fault}
use Rattle.answer.specs.Faults.{table_fault, memory_fault}
use Rattle.table.specs.Records.{Rec, encode}
use Rattle.table.specs.Reading.{Verdict, accepted, sent_back}
use Rattle.table.specs.Tables.{Encodes, records_of}
use Rattle.table.specs.Meaning.{meant}
use Rattle.table.specs.declared.record.Placed.{Placed}

-- the record that stands at a place
abbrev pub placed_record : Placed → Rec
placed_record p = meant p.record

-- numbered one after the other, each where the one before ends
abbrev pub PlacedFrom : ℕ → ℕ → List Placed → Type 0
PlacedFrom number offset [] = Unit {0}
PlacedFrom number offset (p ∷ ps) =
    (p.number ≡ number) × (p.offset ≡ offset) × PlacedFrom (number + 1) (offset + length (encode (placed_record p))) ps

-- a fault of the table layer that tells why and where the table is sent back, or want of memory
abbrev pub SentBack : {S : Type 0} → Verdict S → Fault → Type 0
SentBack verdict f = (f ≡ memory_fault) ⊎ ((verdict ≡ sent_back f.refusal f.place) × (f ≡ table_fault f.refusal f.place))

-- the records answered are those that the bytes are read as, at their places
pub record RecordsRead (bs : List ℕ) (ps : List Placed) : Type 0 where
  pub read : records_of bs ≡ accepted (length ps) (map placed_record ps)
  pub placed : PlacedFrom 0 0 ps

-- the bytes are those of these records, each in range, and of no other records
abbrev pub Exactly : List ℕ → List Rec → Type 0
Exactly bs rs = Encodes rs bs × ((ss : List Rec) → Encodes ss bs → ss ≡ rs)

-- bytes of records in range are sent back only for want of memory
abbrev pub OnlyMemory : List ℕ → Fault → Type 0
OnlyMemory bs f = (ss : List Rec) → Encodes ss bs → f ≡ memory_fault
