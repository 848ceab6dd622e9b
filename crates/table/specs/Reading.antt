-- What the bytes of a table say, record by record.
--   Front     what stands at the front of some bytes
--   front     the checks of one record, in their order
--   Verdict   a table accepted, or sent back at a record
--   walk      the reading of a whole table: each record is handed on as it is read
use Rattle.std.specs.Prelude.{ℕ, zero, suc, ◌+◌, ◌-◌, cond, ◌&&◌, List, [], ◌∷◌, length, take, drop, Some, None, Ok, Err, Option, Result, ◌==◌, nat_le, nat_lt}
use Rattle.answer.specs.declared.refusal.Refusal.{Refusal}
use Rattle.answer.specs.declared.refusal.Refusal.TheVariants.{Truncated, UnknownKind, WrongLength, OutOfRange}
use Rattle.table.specs.Bytes.{field}
use Rattle.table.specs.Kinds.{body_ok, known}
use Rattle.table.specs.Records.{Rec, decode, figures_ok}
use Rattle.table.specs.declared.kind.RecordKind.{RecordKind}

-- what stands at the front of some bytes: nothing more, a record of that many bytes, or a reason to refuse
pub data Front : Type 0 where
  finished : Front
  found : Rec → ℕ → Front
  refused : Refusal → Front

-- a record of a known kind, from its length on: a length that the kind has, a body that is there, figures in range
abbrev pub framed : ℕ → List ℕ → Option RecordKind → Front
framed size bs None = refused UnknownKind
framed size bs (Some kind) =
    cond (nat_le 2 size && body_ok kind (size - 2))
    (cond (nat_le (2 + size) (length bs))
    (cond (figures_ok (decode kind (take (size - 2) (drop 4 bs))))
    (found (decode kind (take (size - 2) (drop 4 bs))) (2 + size))
    (refused OutOfRange))
    (refused Truncated))
    (refused WrongLength)

-- the front of some bytes: fewer than four bytes, then the kind, the length, the body and the figures
abbrev pub front : List ℕ → Front
front bs =
    cond (length bs == 0) finished
    (cond (nat_lt (length bs) 4) (refused Truncated)
    (framed (field bs 0 2) bs (known (field bs 2 2))))

-- a table read to its end, with the number of its records, or sent back at a record
pub data Verdict (S : Type 0) : Type 0 where
  accepted : ℕ → S → Verdict S
  sent_back : Refusal → ℕ → Verdict S

-- what follows from what stands at the front
abbrev pub by_front : {V : Type 0} → Front → V → (Refusal → V) → (Rec → ℕ → V) → V
by_front finished end stop go = end
by_front (refused why) end stop go = stop why
by_front (found r size) end stop go = go r size

-- what follows from whether a record was added
abbrev pub by_added : {S V : Type 0} → Result S Refusal → (S → V) → (Refusal → V) → V
by_added (Ok t) go stop = go t
by_added (Err why) go stop = stop why

-- The reading of the records, one after the other. Each is handed to `add`, which adds it to what was read or
-- refuses it. The first number is how many bytes of the last record are still to be passed over, the second how many
-- records were read.
abbrev pub walk : {S : Type 0} → (S → Rec → Result S Refusal) → ℕ → ℕ → S → List ℕ → Verdict S
walk add skip number s [] = accepted number s
walk add (suc skip) number s (b ∷ bs) = walk add skip number s bs
walk add zero number s (b ∷ bs) =
    by_front (front (b ∷ bs)) (accepted number s) (λ why. sent_back why number)
    (λ r size. by_added (add s r) (λ t. walk add (size - 1) (number + 1) t bs) (λ why. sent_back why number))
