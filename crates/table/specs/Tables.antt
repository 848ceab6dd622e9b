-- Tables as wholes.
--   Encodes      records in range, and the bytes that they make one after the other
--   run          records handed on one after the other
--   records_of   the records that some bytes are read as
use Rattle.std.specs.Prelude.{◌≡◌, ℕ, true, List, [], ◌∷◌, ◌++◌, Ok, Err, Result}
use Rattle.std.specs.List.{flat_map, AllByRecursion}
use Rattle.answer.specs.declared.refusal.Refusal.{Refusal}
use Rattle.table.specs.Records.{Rec, encode, in_range}
use Rattle.table.specs.Reading.{Verdict, walk, by_added}

-- the bytes are those of the records, one after the other, and each record is in range
pub record Encodes (rs : List Rec) (bs : List ℕ) : Type 0 where
  pub ranged : AllByRecursion (λ r. in_range r ≡ true) rs
  pub bytes : flat_map encode rs ≡ bs

-- records handed on one after the other, up to the first that is refused
abbrev pub run : {S : Type 0} → (S → Rec → Result S Refusal) → S → List Rec → Result S Refusal
run add s [] = Ok s
run add s (r ∷ rs) = by_added (add s r) (λ t. run add t rs) (λ why. Err why)

-- a record is kept behind those before it
abbrev pub keep : List Rec → Rec → Result (List Rec) Refusal
keep rs r = Ok (rs ++ r ∷ [])

-- the records of a table, or the record at which it is sent back
abbrev pub records_of : List ℕ → Verdict (List Rec)
records_of bs = walk keep 0 0 [] bs
